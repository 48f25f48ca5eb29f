-- Refused: two messages of one sender that overtake each other.
use Rattle.std.specs.Prelude.{false, List, [], ◌∷◌}
use Rattle.nm_types.specs.Commands.{commands_of, rank_line}
use Rattle.nm_types.specs.declared.messages.How.TheVariants.{Eager}
use Rattle.nm_types.specs.declared.messages.Peer.TheVariants as peer
use Rattle.nm_types.specs.declared.messages.TagPick.TheVariants as pick
use Rattle.nm_types.specs.declared.scripts.Body.TheVariants.{Hex}
use Rattle.nm_types.specs.declared.scripts.Command.TheVariants as command
use Rattle.nm_types.specs.declared.scripts.Line.{Line}
use Rattle.nm_types.specs.declared.answers.Answer.TheVariants as answer
use Rattle.nm_history.specs.declared.events.Event.{Event}
use Rattle.nm_history.specs.declared.events.Happened.TheVariants.{Send, Arrive, Whole, Ran}
use Rattle.nm_history.specs.Delivery.{AreDelivered}
use Rattle.nm_history.specs.Happens.{at}

-- the script
abbrev pub script : List Line
script =
    rank_line 0 (command.Send 1 0 5 0 false (Hex (65 ∷ [])))
    ∷ rank_line 0 (command.Send 1 1 6 0 false (Hex (66 ∷ [])))
    ∷ rank_line 0 (command.Wait 0)
    ∷ rank_line 0 (command.Wait 1)
    ∷ rank_line 1 (command.Recv 0 peer.Any (pick.One 5) 0 1)
    ∷ rank_line 1 (command.Recv 1 peer.Any pick.Any 0 1)
    ∷ rank_line 1 (command.Wait 1)
    ∷ rank_line 1 (command.Wait 0) ∷ []

-- the first rank
abbrev pub first : List Event
first =
    at 1 (Send 1 0 5 0 1 Eager 2)
    ∷ at 2 (Ran 2 answer.Started)
    ∷ at 3 (Send 1 1 6 0 1 Eager 3)
    ∷ at 4 (Ran 3 answer.Started) ∷ []

-- the second rank
abbrev pub second : List Event
second =
    at 4 (Arrive (record { n = 0; env = record { from = 0; tag = 6; ctx = 0; len = 1; how = Eager } }))
    ∷ at 5 (Whole 0 0)
    ∷ at 6 (Arrive (record { n = 1; env = record { from = 0; tag = 5; ctx = 0; len = 1; how = Eager } }))
    ∷ at 7 (Whole 0 1) ∷ []

-- the rule that it breaks
abbrev pub IsLawful : Type 0
IsLawful =
    AreDelivered 0 1 (commands_of 0 script) (commands_of 1 script) first second
