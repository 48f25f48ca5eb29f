-- Refused: a rank that runs its second command before its first.
use Rattle.std.specs.Prelude.{List, [], ◌∷◌}
use Rattle.nm_types.specs.Commands.{commands_of, rank_line}
use Rattle.nm_types.specs.declared.scripts.Command.TheVariants as command
use Rattle.nm_types.specs.declared.scripts.Line.{Line}
use Rattle.nm_types.specs.declared.answers.Answer.TheVariants as answer
use Rattle.nm_history.specs.declared.events.Event.{Event}
use Rattle.nm_history.specs.declared.events.Happened.TheVariants.{Ran}
use Rattle.nm_history.specs.RankRun.{IsRankRun}
use Rattle.nm_history.specs.Happens.{at}
use Rattle.nm_channels.specs.Small.{run_on}

-- the script
abbrev pub script : List Line
script = rank_line 0 (command.Wait 0) ∷ rank_line 0 (command.Wait 1) ∷ []

-- the first rank
abbrev pub first : List Event
first =
    at 1 (Ran 3 answer.Null)
    ∷ at 2 (Ran 2 answer.Null) ∷ []

-- the rule that it breaks
abbrev pub IsLawful : Type 0
IsLawful =
    IsRankRun (run_on 1) (commands_of 0 script) 2 first
