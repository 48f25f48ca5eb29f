-- Refused: a message that goes to a later receive, which names its source and tag, past an older one that takes any.
use Rattle.std.specs.Prelude.{List, [], ◌∷◌}
use Rattle.nm_types.specs.Commands.{commands_of, rank_line}
use Rattle.nm_types.specs.declared.messages.How.TheVariants.{Eager}
use Rattle.nm_types.specs.declared.messages.Peer.TheVariants as peer
use Rattle.nm_types.specs.declared.messages.TagPick.TheVariants as pick
use Rattle.nm_types.specs.declared.scripts.Command.TheVariants as command
use Rattle.nm_types.specs.declared.scripts.Line.{Line}
use Rattle.nm_types.specs.declared.answers.Answer.TheVariants as answer
use Rattle.nm_history.specs.declared.events.Event.{Event}
use Rattle.nm_history.specs.declared.events.Happened.TheVariants.{Post, Arrive, Whole, Ran}
use Rattle.nm_history.specs.RankRun.{IsRankRun}
use Rattle.nm_history.specs.Happens.{at}
use Rattle.nm_channels.specs.Small.{run_on}

-- the script
abbrev pub script : List Line
script =
    rank_line 1 (command.Recv 0 peer.Any pick.Any 0 1)
    ∷ rank_line 1 (command.Recv 1 (peer.One 0) (pick.One 5) 0 1)
    ∷ rank_line 1 (command.Wait 1) ∷ []

-- the first rank
abbrev pub first : List Event
first = []

-- the second rank
abbrev pub second : List Event
second =
    at 1 (Post (record { number = 0; from = peer.Any; tag = pick.Any; ctx = 0; cap = 1 }) 2)
    ∷ at 2 (Ran 2 answer.Started)
    ∷ at 3 (Post (record { number = 1; from = peer.One 0; tag = pick.One 5; ctx = 0; cap = 1 }) 3)
    ∷ at 4 (Ran 3 answer.Started)
    ∷ at 5 (Arrive (record { n = 0; env = record { from = 0; tag = 5; ctx = 0; len = 1; how = Eager } }))
    ∷ at 6 (Whole 0 0)
    ∷ at 7 (Ran 4 (answer.Got 0 5 (66 ∷ []))) ∷ []

-- the rule that it breaks
abbrev pub IsLawful : Type 0
IsLawful =
    IsRankRun (run_on 2) (commands_of 1 script) 3 second
