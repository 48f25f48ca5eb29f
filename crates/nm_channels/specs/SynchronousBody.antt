-- A synchronous send with a body: it leaves after its receive was posted.
use Rattle.std.specs.Prelude.{true, None, List, [], ◌∷◌}
use Rattle.nm_types.specs.declared.messages.How.TheVariants.{Ask}
use Rattle.nm_types.specs.declared.messages.Peer.TheVariants as peer
use Rattle.nm_types.specs.declared.messages.TagPick.TheVariants as pick
use Rattle.nm_types.specs.declared.scripts.Body.TheVariants.{Hex}
use Rattle.nm_types.specs.declared.scripts.Command.TheVariants as command
use Rattle.nm_types.specs.declared.scripts.Line.{Line}
use Rattle.nm_types.specs.declared.answers.Answer.TheVariants as answer
use Rattle.nm_types.specs.Commands.{rank_line}
use Rattle.nm_history.specs.declared.events.Event.{Event}
use Rattle.nm_history.specs.declared.events.Happened.TheVariants.{Send, Post, Arrive, Whole, Out, Ran}
use Rattle.nm_history.specs.Quiescence.{Ended, Packets}
use Rattle.nm_history.specs.Run.{IsRunOf}
use Rattle.nm_history.specs.Happens.{at}
use Rattle.nm_channels.specs.Small.{run_on}

-- the script
abbrev pub script : List Line
script =
    rank_line 0 (command.Send 1 0 0 0 true (Hex (5 ∷ [])))
    ∷ rank_line 0 (command.Wait 0)
    ∷ rank_line 1 (command.Recv 0 peer.Any pick.Any 0 8)
    ∷ rank_line 1 (command.Wait 0) ∷ []

-- the first rank
abbrev pub first : List Event
first =
    at 1 (Send 1 0 0 0 1 Ask 2)
    ∷ at 2 (Ran 2 answer.Started)
    ∷ at 4 (Out 1 0)
    ∷ at 5 (Ran 3 answer.Sent) ∷ []

-- the second rank
abbrev pub second : List Event
second =
    at 2 (Arrive (record { n = 0; env = record { from = 0; tag = 0; ctx = 0; len = 1; how = Ask } }))
    ∷ at 3 (Post (record { number = 0; from = peer.Any; tag = pick.Any; ctx = 0; cap = 8 }) 4)
    ∷ at 4 (Ran 4 answer.Started)
    ∷ at 5 (Whole 0 0)
    ∷ at 6 (Ran 5 (answer.Got 0 0 (5 ∷ []))) ∷ []

-- where each rank stands at the end, and what happened there
abbrev pub ranks : List Ended
ranks = record { at = 2; waits = None; events = first } ∷ record { at = 2; waits = None; events = second } ∷ []

-- how many packets went from rank to rank
abbrev pub packets : List Packets
packets = record { from = 0; to = 1; count = 1 } ∷ record { from = 1; to = 0; count = 1 } ∷ []

-- it is a run of its script
abbrev pub IsLawful : Type 0
IsLawful =
    IsRunOf (run_on 2) script ranks packets
