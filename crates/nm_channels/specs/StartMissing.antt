-- Refused: a start that was taken and sent nothing.
use Rattle.std.specs.Prelude.{false, List, [], ◌∷◌}
use Rattle.nm_types.specs.Commands.{commands_of, rank_line}
use Rattle.nm_types.specs.declared.messages.Peer.TheVariants as peer
use Rattle.nm_types.specs.declared.messages.TagPick.TheVariants as pick
use Rattle.nm_types.specs.declared.scripts.Body.TheVariants.{Hex}
use Rattle.nm_types.specs.declared.scripts.Command.TheVariants as command
use Rattle.nm_types.specs.declared.scripts.Line.{Line}
use Rattle.nm_types.specs.declared.answers.Answer.TheVariants as answer
use Rattle.nm_history.specs.declared.events.Event.{Event}
use Rattle.nm_history.specs.declared.events.Happened.TheVariants.{Ran}
use Rattle.nm_history.specs.RankRun.{IsRankRun}
use Rattle.nm_history.specs.Happens.{at}
use Rattle.nm_channels.specs.Small.{run_on}

-- the script
abbrev pub script : List Line
script =
    rank_line 0 (command.Send 1 0 7 0 false (Hex (104 ∷ [])))
    ∷ rank_line 0 (command.Wait 0)
    ∷ rank_line 1 (command.Recv 0 (peer.One 0) (pick.One 7) 0 16)
    ∷ rank_line 1 (command.Wait 0) ∷ []

-- the first rank
abbrev pub first : List Event
first =
    at 2 (Ran 2 answer.Started) ∷ []

-- the rule that it breaks
abbrev pub IsLawful : Type 0
IsLawful =
    IsRankRun (run_on 2) (commands_of 0 script) 1 first
