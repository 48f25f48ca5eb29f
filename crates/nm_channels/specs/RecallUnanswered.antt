-- Refused: an end where a recall has no answer.
use Rattle.std.specs.Prelude.{true, false, Some, None, List, [], ◌∷◌}
use Rattle.nm_types.specs.declared.messages.How.TheVariants.{Eager}
use Rattle.nm_types.specs.declared.scripts.Body.TheVariants.{Hex}
use Rattle.nm_types.specs.declared.scripts.Command.TheVariants as command
use Rattle.nm_types.specs.declared.scripts.Line.{Line}
use Rattle.nm_types.specs.declared.answers.Answer.TheVariants as answer
use Rattle.nm_types.specs.Commands.{rank_line}
use Rattle.nm_history.specs.declared.events.Event.{Event}
use Rattle.nm_history.specs.declared.events.Happened.TheVariants.{Send, Arrive, Whole, Out, Recall, Withdraw, Ran}
use Rattle.nm_history.specs.Quiescence.{AreQuiescent}
use Rattle.nm_history.specs.Happens.{at}

-- the script
abbrev pub script : List Line
script =
    rank_line 0 (command.Send 1 0 7 0 false (Hex (1 ∷ [])))
    ∷ rank_line 0 (command.Cancel 0)
    ∷ rank_line 0 (command.Wait 0) ∷ []

-- the first rank
abbrev pub first : List Event
first =
    at 1 (Send 1 0 7 0 1 Eager 2)
    ∷ at 2 (Ran 2 answer.Started)
    ∷ at 3 (Recall 1 0)
    ∷ at 4 (Ran 3 answer.Asked)
    ∷ at 5 (Out 1 0) ∷ []

-- the second rank
abbrev pub second : List Event
second =
    at 2 (Arrive (record { n = 0; env = record { from = 0; tag = 7; ctx = 0; len = 1; how = Eager } }))
    ∷ at 3 (Whole 0 0)
    ∷ at 5 (Withdraw 0 0 true) ∷ []

-- the rule that it breaks
abbrev pub IsLawful : Type 0
IsLawful =
    AreQuiescent script (record { at = 2; waits = Some 4; events = first } ∷ record {
      at = 0;
      waits = None;
      events =
          second;
    } ∷ [])
    (record { from = 0; to = 1; count = 2 } ∷ record { from = 1; to = 0; count = 1 } ∷ [])
