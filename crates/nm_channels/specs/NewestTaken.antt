-- Refused: a receive that takes the newest message.
use Rattle.std.specs.Prelude.{false, List, [], ◌∷◌}
use Rattle.nm_types.specs.Commands.{commands_of, rank_line}
use Rattle.nm_types.specs.declared.messages.How.TheVariants.{Eager}
use Rattle.nm_types.specs.declared.messages.Peer.TheVariants as peer
use Rattle.nm_types.specs.declared.messages.TagPick.TheVariants as pick
use Rattle.nm_types.specs.declared.scripts.Body.TheVariants.{Hex}
use Rattle.nm_types.specs.declared.scripts.Command.TheVariants as command
use Rattle.nm_types.specs.declared.scripts.Line.{Line}
use Rattle.nm_types.specs.declared.answers.Answer.TheVariants as answer
use Rattle.nm_history.specs.declared.events.Event.{Event}
use Rattle.nm_history.specs.declared.events.Happened.TheVariants.{Send, Post, Arrive, Whole, Ran}
use Rattle.nm_history.specs.RankRun.{IsRankRun}
use Rattle.nm_history.specs.Happens.{at}
use Rattle.nm_channels.specs.Small.{run_on}

-- the script
abbrev pub script : List Line
script =
    rank_line 0 (command.Send 1 0 1 0 false (Hex (65 ∷ [])))
    ∷ rank_line 0 (command.Send 1 1 2 0 false (Hex (66 ∷ [])))
    ∷ rank_line 1 (command.Recv 0 peer.Any pick.Any 0 1)
    ∷ rank_line 1 (command.Wait 0) ∷ []

-- the first rank
abbrev pub first : List Event
first =
    at 1 (Send 1 0 1 0 1 Eager 2)
    ∷ at 2 (Ran 2 answer.Started)
    ∷ at 3 (Send 1 1 2 0 1 Eager 3)
    ∷ at 4 (Ran 3 answer.Started) ∷ []

-- the second rank
abbrev pub second : List Event
second =
    at 2 (Arrive (record { n = 0; env = record { from = 0; tag = 1; ctx = 0; len = 1; how = Eager } }))
    ∷ at 3 (Whole 0 0)
    ∷ at 4 (Arrive (record { n = 1; env = record { from = 0; tag = 2; ctx = 0; len = 1; how = Eager } }))
    ∷ at 5 (Whole 0 1)
    ∷ at 6 (Post (record { number = 0; from = peer.Any; tag = pick.Any; ctx = 0; cap = 1 }) 4)
    ∷ at 7 (Ran 4 answer.Started)
    ∷ at 8 (Ran 5 (answer.Got 0 2 (66 ∷ []))) ∷ []

-- the rule that it breaks
abbrev pub IsLawful : Type 0
IsLawful =
    IsRankRun (run_on 2) (commands_of 1 script) 2 second
