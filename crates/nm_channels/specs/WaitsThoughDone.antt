-- Refused: a rank that waits though its command can go on.
use Rattle.std.specs.Prelude.{false, Some, None, List, [], ◌∷◌}
use Rattle.nm_types.specs.declared.messages.How.TheVariants.{Eager}
use Rattle.nm_types.specs.declared.messages.Peer.TheVariants as peer
use Rattle.nm_types.specs.declared.messages.TagPick.TheVariants as pick
use Rattle.nm_types.specs.declared.scripts.Body.TheVariants.{Hex}
use Rattle.nm_types.specs.declared.scripts.Command.TheVariants as command
use Rattle.nm_types.specs.declared.scripts.Line.{Line}
use Rattle.nm_types.specs.declared.answers.Answer.TheVariants as answer
use Rattle.nm_types.specs.Commands.{rank_line}
use Rattle.nm_history.specs.declared.events.Event.{Event}
use Rattle.nm_history.specs.declared.events.Happened.TheVariants.{Send, Post, Arrive, Whole, Out, Ran}
use Rattle.nm_history.specs.Quiescence.{AreQuiescent}
use Rattle.nm_history.specs.Happens.{at}

-- the script
abbrev pub script : List Line
script =
    rank_line 0 (command.Send 1 0 7 0 false (Hex (104 ∷ [])))
    ∷ rank_line 0 (command.Wait 0)
    ∷ rank_line 1 (command.Recv 0 (peer.One 0) (pick.One 7) 0 16)
    ∷ rank_line 1 (command.Wait 0) ∷ []

-- the first rank
abbrev pub first : List Event
first =
    at 1 (Send 1 0 7 0 1 Eager 2)
    ∷ at 2 (Ran 2 answer.Started)
    ∷ at 3 (Out 1 0) ∷ []

-- the second rank
abbrev pub second : List Event
second =
    at 1 (Post (record { number = 0; from = peer.One 0; tag = pick.One 7; ctx = 0; cap = 16 }) 4)
    ∷ at 2 (Ran 4 answer.Started)
    ∷ at 3 (Arrive (record { n = 0; env = record { from = 0; tag = 7; ctx = 0; len = 1; how = Eager } }))
    ∷ at 4 (Whole 0 0)
    ∷ at 5 (Ran 5 (answer.Got 0 7 (104 ∷ []))) ∷ []

-- the rule that it breaks
abbrev pub IsLawful : Type 0
IsLawful =
    AreQuiescent script (record { at = 1; waits = Some 3; events = first } ∷ record {
      at = 2;
      waits = None;
      events =
          second;
    } ∷ [])
    (record { from = 0; to = 1; count = 1 } ∷ [])
