-- Refused: a message whose number is not the next one.
use Rattle.std.specs.Prelude.{false, List, [], ◌∷◌}
use Rattle.nm_types.specs.Commands.{commands_of, rank_line}
use Rattle.nm_types.specs.declared.messages.How.TheVariants.{Eager}
use Rattle.nm_types.specs.declared.scripts.Body.TheVariants.{Hex}
use Rattle.nm_types.specs.declared.scripts.Command.TheVariants as command
use Rattle.nm_types.specs.declared.scripts.Line.{Line}
use Rattle.nm_types.specs.declared.answers.Answer.TheVariants as answer
use Rattle.nm_history.specs.declared.events.Event.{Event}
use Rattle.nm_history.specs.declared.events.Happened.TheVariants.{Send, Out, Ran}
use Rattle.nm_history.specs.RankRun.{IsRankRun}
use Rattle.nm_history.specs.Happens.{at}
use Rattle.nm_channels.specs.Small.{run_on}

-- the script
abbrev pub script : List Line
script =
    rank_line 0 (command.Send 1 0 7 0 false (Hex (1 ∷ [])))
    ∷ rank_line 0 (command.Send 1 1 7 0 false (Hex (2 ∷ []))) ∷ []

-- the first rank
abbrev pub first : List Event
first =
    at 1 (Send 1 0 7 0 1 Eager 2)
    ∷ at 2 (Ran 2 answer.Started)
    ∷ at 3 (Send 1 2 7 0 1 Eager 3)
    ∷ at 4 (Ran 3 answer.Started)
    ∷ at 5 (Out 1 0)
    ∷ at 6 (Out 1 2) ∷ []

-- the rule that it breaks
abbrev pub IsLawful : Type 0
IsLawful =
    IsRankRun (run_on 2) (commands_of 0 script) 2 first
