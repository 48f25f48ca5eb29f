-- Refused: a message that is withdrawn though its sender did not ask for it.
use Rattle.std.specs.Prelude.{true, false, List, [], ◌∷◌}
use Rattle.nm_types.specs.Commands.{commands_of, rank_line}
use Rattle.nm_types.specs.declared.messages.How.TheVariants.{Eager}
use Rattle.nm_types.specs.declared.scripts.Body.TheVariants.{Hex}
use Rattle.nm_types.specs.declared.scripts.Command.TheVariants as command
use Rattle.nm_types.specs.declared.scripts.Line.{Line}
use Rattle.nm_types.specs.declared.answers.Answer.TheVariants as answer
use Rattle.nm_history.specs.declared.events.Event.{Event}
use Rattle.nm_history.specs.declared.events.Happened.TheVariants.{Send, Arrive, Whole, Out, Withdraw, Ran}
use Rattle.nm_history.specs.Delivery.{AreDelivered}
use Rattle.nm_history.specs.Happens.{at}

-- the script
abbrev pub script : List Line
script = rank_line 0 (command.Send 1 0 7 0 false (Hex (1 ∷ []))) ∷ []

-- the first rank
abbrev pub first : List Event
first =
    at 1 (Send 1 0 7 0 1 Eager 2)
    ∷ at 2 (Ran 2 answer.Started)
    ∷ at 3 (Out 1 0) ∷ []

-- the second rank
abbrev pub second : List Event
second =
    at 2 (Arrive (record { n = 0; env = record { from = 0; tag = 7; ctx = 0; len = 1; how = Eager } }))
    ∷ at 3 (Whole 0 0)
    ∷ at 4 (Withdraw 0 0 true) ∷ []

-- the rule that it breaks
abbrev pub IsLawful : Type 0
IsLawful =
    AreDelivered 0 1 (commands_of 0 script) (commands_of 1 script) first second
