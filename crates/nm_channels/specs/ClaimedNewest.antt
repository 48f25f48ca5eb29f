-- Refused: a matched probe that claims the newest message.
use Rattle.std.specs.Prelude.{false, List, [], ◌∷◌}
use Rattle.nm_types.specs.Commands.{commands_of, rank_line}
use Rattle.nm_types.specs.declared.messages.How.TheVariants.{Eager}
use Rattle.nm_types.specs.declared.messages.Peer.TheVariants as peer
use Rattle.nm_types.specs.declared.messages.TagPick.TheVariants as pick
use Rattle.nm_types.specs.declared.scripts.Body.TheVariants.{Hex}
use Rattle.nm_types.specs.declared.scripts.Command.TheVariants as command
use Rattle.nm_types.specs.declared.scripts.Line.{Line}
use Rattle.nm_types.specs.declared.answers.Answer.TheVariants as answer
use Rattle.nm_history.specs.declared.events.Event.{Event}
use Rattle.nm_history.specs.declared.events.Happened.TheVariants.{Send, Arrive, Whole, Claim, Ran}
use Rattle.nm_history.specs.RankRun.{IsRankRun}
use Rattle.nm_history.specs.Happens.{at}
use Rattle.nm_channels.specs.Small.{run_on}

-- the script
abbrev pub script : List Line
script =
    rank_line 0 (command.Send 0 0 4 0 false (Hex (10 ∷ [])))
    ∷ rank_line 0 (command.Send 0 1 4 0 false (Hex (11 ∷ [])))
    ∷ rank_line 0 (command.Mprobe 3 peer.Any pick.Any 0) ∷ []

-- the first rank
abbrev pub first : List Event
first =
    at 1 (Send 0 0 4 0 1 Eager 2)
    ∷ at 2 (Ran 2 answer.Started)
    ∷ at 3 (Send 0 1 4 0 1 Eager 3)
    ∷ at 4 (Ran 3 answer.Started)
    ∷ at 5 (Arrive (record { n = 0; env = record { from = 0; tag = 4; ctx = 0; len = 1; how = Eager } }))
    ∷ at 6 (Whole 0 0)
    ∷ at 7 (Arrive (record { n = 1; env = record { from = 0; tag = 4; ctx = 0; len = 1; how = Eager } }))
    ∷ at 8 (Whole 0 1)
    ∷ at 9 (Claim 0 1 4)
    ∷ at 10 (Ran 4 (answer.Seen (record { from = 0; tag = 4; len = 1 }))) ∷ []

-- the rule that it breaks
abbrev pub IsLawful : Type 0
IsLawful =
    IsRankRun (run_on 1) (commands_of 0 script) 3 first
