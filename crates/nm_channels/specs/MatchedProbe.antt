-- A matched probe claims a message: no probe and no receive finds it, but the matched receive of its handle.
use Rattle.std.specs.Prelude.{true, None, List, [], ◌∷◌}
use Rattle.nm_types.specs.declared.messages.How.TheVariants.{Ask}
use Rattle.nm_types.specs.declared.messages.Peer.TheVariants as peer
use Rattle.nm_types.specs.declared.messages.TagPick.TheVariants as pick
use Rattle.nm_types.specs.declared.scripts.Body.TheVariants.{Hex}
use Rattle.nm_types.specs.declared.scripts.Command.TheVariants as command
use Rattle.nm_types.specs.declared.scripts.Line.{Line}
use Rattle.nm_types.specs.declared.answers.Answer.TheVariants as answer
use Rattle.nm_types.specs.Commands.{rank_line}
use Rattle.nm_history.specs.declared.events.Event.{Event}
use Rattle.nm_history.specs.declared.events.Happened.TheVariants.{Send, Post, Arrive, Whole, Out, Cancel, Claim}
use Rattle.nm_history.specs.declared.events.Happened.TheVariants.{Match, Ran}
use Rattle.nm_history.specs.Quiescence.{Ended, Packets}
use Rattle.nm_history.specs.Run.{IsRunOf}
use Rattle.nm_history.specs.Happens.{at}
use Rattle.nm_channels.specs.Small.{run_on}

-- the script
abbrev pub script : List Line
script =
    rank_line 0 (command.Send 0 0 4 0 true (Hex (10 ∷ [])))
    ∷ rank_line 0 (command.Await peer.Any pick.Any 0)
    ∷ rank_line 0 (command.Mprobe 3 peer.Any pick.Any 0)
    ∷ rank_line 0 (command.Probe peer.Any pick.Any 0)
    ∷ rank_line 0 (command.Recv 1 (peer.One 0) (pick.One 4) 0 1)
    ∷ rank_line 0 (command.Mprobe 3 peer.Any pick.Any 0)
    ∷ rank_line 0 (command.Mrecv 2 3 1)
    ∷ rank_line 0 (command.Mrecv 2 3 1)
    ∷ rank_line 0 (command.Mrecv 4 3 1)
    ∷ rank_line 0 (command.Wait 2)
    ∷ rank_line 0 (command.Cancel 1)
    ∷ rank_line 0 (command.Wait 1)
    ∷ rank_line 0 (command.Wait 0) ∷ []

-- the only rank
abbrev pub only : List Event
only =
    at 1 (Send 0 0 4 0 1 Ask 2)
    ∷ at 2 (Ran 2 answer.Started)
    ∷ at 3 (Arrive (record { n = 0; env = record { from = 0; tag = 4; ctx = 0; len = 1; how = Ask } }))
    ∷ at 4 (Ran 3 (answer.Seen (record { from = 0; tag = 4; len = 1 })))
    ∷ at 5 (Claim 0 0 4)
    ∷ at 6 (Ran 4 (answer.Seen (record { from = 0; tag = 4; len = 1 })))
    ∷ at 7 (Ran 5 answer.Nothing)
    ∷ at 8 (Post (record { number = 0; from = peer.One 0; tag = pick.One 4; ctx = 0; cap = 1 }) 6)
    ∷ at 9 (Ran 6 answer.Started)
    ∷ at 10 (Ran 7 answer.Busy)
    ∷ at 11 (Match 1 0 0 1 8)
    ∷ at 12 (Ran 8 answer.Started)
    ∷ at 13 (Ran 9 answer.Busy)
    ∷ at 14 (Ran 10 answer.Null)
    ∷ at 15 (Out 0 0)
    ∷ at 16 (Whole 0 0)
    ∷ at 17 (Ran 11 (answer.Got 0 4 (10 ∷ [])))
    ∷ at 18 (Cancel 0 true)
    ∷ at 19 (Ran 12 answer.Done)
    ∷ at 20 (Ran 13 answer.Cancelled)
    ∷ at 21 (Ran 14 answer.Sent) ∷ []

-- where each rank stands at the end, and what happened there
abbrev pub ranks : List Ended
ranks = record { at = 13; waits = None; events = only } ∷ []

-- how many packets went from rank to rank
abbrev pub packets : List Packets
packets = record { from = 0; to = 0; count = 2 } ∷ []

-- it is a run of its script
abbrev pub IsLawful : Type 0
IsLawful =
    IsRunOf (run_on 1) script ranks packets
