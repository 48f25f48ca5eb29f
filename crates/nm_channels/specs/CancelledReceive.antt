-- A cancelled receive takes nothing, and a later one takes the message.
use Rattle.std.specs.Prelude.{true, false, None, List, [], ◌∷◌}
use Rattle.nm_types.specs.declared.messages.How.TheVariants.{Eager}
use Rattle.nm_types.specs.declared.messages.Peer.TheVariants as peer
use Rattle.nm_types.specs.declared.messages.TagPick.TheVariants as pick
use Rattle.nm_types.specs.declared.scripts.Body.TheVariants.{Hex}
use Rattle.nm_types.specs.declared.scripts.Command.TheVariants as command
use Rattle.nm_types.specs.declared.scripts.Line.{Line}
use Rattle.nm_types.specs.declared.answers.Answer.TheVariants as answer
use Rattle.nm_types.specs.Commands.{rank_line}
use Rattle.nm_history.specs.declared.events.Event.{Event}
use Rattle.nm_history.specs.declared.events.Happened.TheVariants.{Send, Post, Arrive, Whole, Out, Cancel, Ran}
use Rattle.nm_history.specs.Quiescence.{Ended, Packets}
use Rattle.nm_history.specs.Run.{IsRunOf}
use Rattle.nm_history.specs.Happens.{at}
use Rattle.nm_channels.specs.Small.{run_on}

-- the script
abbrev pub script : List Line
script =
    rank_line 0 (command.Recv 0 (peer.One 1) (pick.One 9) 0 0)
    ∷ rank_line 0 (command.Wait 0)
    ∷ rank_line 0 (command.Send 1 1 7 0 false (Hex (171 ∷ [])))
    ∷ rank_line 0 (command.Wait 1)
    ∷ rank_line 1 (command.Recv 0 (peer.One 0) (pick.One 7) 0 4)
    ∷ rank_line 1 (command.Cancel 0)
    ∷ rank_line 1 (command.Wait 0)
    ∷ rank_line 1 (command.Send 0 1 9 0 false (Hex []))
    ∷ rank_line 1 (command.Wait 1)
    ∷ rank_line 1 (command.Recv 2 (peer.One 0) (pick.One 7) 0 4)
    ∷ rank_line 1 (command.Wait 2) ∷ []

-- the first rank
abbrev pub first : List Event
first =
    at 1 (Post (record { number = 0; from = peer.One 1; tag = pick.One 9; ctx = 0; cap = 0 }) 2)
    ∷ at 2 (Ran 2 answer.Started)
    ∷ at 7 (Arrive (record { n = 0; env = record { from = 1; tag = 9; ctx = 0; len = 0; how = Eager } }))
    ∷ at 8 (Whole 1 0)
    ∷ at 9 (Ran 3 (answer.Got 1 9 []))
    ∷ at 10 (Send 1 0 7 0 1 Eager 4)
    ∷ at 11 (Ran 4 answer.Started)
    ∷ at 12 (Out 1 0)
    ∷ at 13 (Ran 5 answer.Sent) ∷ []

-- the second rank
abbrev pub second : List Event
second =
    at 1 (Post (record { number = 0; from = peer.One 0; tag = pick.One 7; ctx = 0; cap = 4 }) 6)
    ∷ at 2 (Ran 6 answer.Started)
    ∷ at 3 (Cancel 0 true)
    ∷ at 4 (Ran 7 answer.Done)
    ∷ at 5 (Ran 8 answer.Cancelled)
    ∷ at 6 (Send 0 0 9 0 0 Eager 9)
    ∷ at 7 (Ran 9 answer.Started)
    ∷ at 8 (Out 0 0)
    ∷ at 9 (Ran 10 answer.Sent)
    ∷ at 10 (Post (record { number = 1; from = peer.One 0; tag = pick.One 7; ctx = 0; cap = 4 }) 11)
    ∷ at 11 (Ran 11 answer.Started)
    ∷ at 12 (Arrive (record { n = 0; env = record { from = 0; tag = 7; ctx = 0; len = 1; how = Eager } }))
    ∷ at 13 (Whole 0 0)
    ∷ at 14 (Ran 12 (answer.Got 0 7 (171 ∷ []))) ∷ []

-- where each rank stands at the end, and what happened there
abbrev pub ranks : List Ended
ranks = record { at = 4; waits = None; events = first } ∷ record { at = 7; waits = None; events = second } ∷ []

-- how many packets went from rank to rank
abbrev pub packets : List Packets
packets = record { from = 0; to = 1; count = 1 } ∷ record { from = 1; to = 0; count = 1 } ∷ []

-- it is a run of its script
abbrev pub IsLawful : Type 0
IsLawful =
    IsRunOf (run_on 2) script ranks packets
