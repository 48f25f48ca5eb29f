-- Refused: an end where a message that was sent by asking is paired and not whole.
use Rattle.std.specs.Prelude.{true, Some, List, [], ◌∷◌}
use Rattle.nm_types.specs.declared.messages.How.TheVariants.{Ask}
use Rattle.nm_types.specs.declared.messages.Peer.TheVariants as peer
use Rattle.nm_types.specs.declared.messages.TagPick.TheVariants as pick
use Rattle.nm_types.specs.declared.scripts.Body.TheVariants.{Hex}
use Rattle.nm_types.specs.declared.scripts.Command.TheVariants as command
use Rattle.nm_types.specs.declared.scripts.Line.{Line}
use Rattle.nm_types.specs.declared.answers.Answer.TheVariants as answer
use Rattle.nm_types.specs.Commands.{rank_line}
use Rattle.nm_history.specs.declared.events.Event.{Event}
use Rattle.nm_history.specs.declared.events.Happened.TheVariants.{Send, Post, Arrive, Ran}
use Rattle.nm_history.specs.Quiescence.{AreQuiescent}
use Rattle.nm_history.specs.Happens.{at}

-- the script
abbrev pub script : List Line
script =
    rank_line 0 (command.Send 1 0 7 0 true (Hex (1 ∷ [])))
    ∷ rank_line 0 (command.Wait 0)
    ∷ rank_line 1 (command.Recv 0 (peer.One 0) (pick.One 7) 0 4)
    ∷ rank_line 1 (command.Wait 0) ∷ []

-- the first rank
abbrev pub first : List Event
first =
    at 1 (Send 1 0 7 0 1 Ask 2)
    ∷ at 2 (Ran 2 answer.Started) ∷ []

-- the second rank
abbrev pub second : List Event
second =
    at 1 (Post (record { number = 0; from = peer.One 0; tag = pick.One 7; ctx = 0; cap = 4 }) 4)
    ∷ at 2 (Ran 4 answer.Started)
    ∷ at 3 (Arrive (record { n = 0; env = record { from = 0; tag = 7; ctx = 0; len = 1; how = Ask } })) ∷ []

-- the rule that it breaks
abbrev pub IsLawful : Type 0
IsLawful =
    AreQuiescent script (record { at = 1; waits = Some 3; events = first } ∷ record {
      at = 1;
      waits = Some 5;
      events =
          second;
    } ∷ [])
    (record { from = 0; to = 1; count = 1 } ∷ record { from = 1; to = 0; count = 1 } ∷ [])
