-- A rank that sends itself a message by asking: both ends are the same.
use Rattle.std.specs.Prelude.{true, None, List, [], ◌∷◌}
use Rattle.std.proofs.Math.Dec.{lit<, lit≤}
use Rattle.nm_types.specs.declared.messages.How.TheVariants.{Ask}
use Rattle.nm_types.specs.declared.messages.Peer.TheVariants as peer
use Rattle.nm_types.specs.declared.messages.TagPick.TheVariants as pick
use Rattle.nm_types.specs.declared.packets.What.TheVariants as what
use Rattle.nm_types.specs.declared.scripts.Body.TheVariants.{Hex}
use Rattle.nm_types.specs.declared.scripts.Command.TheVariants as command
use Rattle.nm_types.specs.declared.scripts.Line.{Line}
use Rattle.nm_types.specs.declared.answers.Answer.TheVariants as answer
use Rattle.nm_types.specs.Commands.{rank_line}
use Rattle.nm_history.specs.declared.events.Happened.TheVariants.{Send, Post, Arrive, Whole, Out}
use Rattle.nm_history.specs.declared.events.Happened.TheVariants.{Ran}
use Rattle.nm_history.specs.Happens.{at}
use Rattle.nm_channels.specs.Moments.{LogEntry}
use Rattle.nm_channels.specs.Finished.{Finished, AreAllEnds}
use Rattle.nm_channels.specs.SmallLogs.{run_on, packet, piece, acts, takes, draws}

-- the script
abbrev pub script : List Line
script =
    rank_line 0 (command.Recv 1 (peer.One 0) (pick.One 0) 0 1)
    ∷ rank_line 0 (command.Send 0 0 0 0 true (Hex (7 ∷ [])))
    ∷ rank_line 0 (command.Wait 0)
    ∷ rank_line 0 (command.Wait 1) ∷ []

-- the moments of the only rank
abbrev pub only : List LogEntry
only =
    acts
    (at 1 (Post (record { number = 0; from = peer.One 0; tag = pick.One 0; ctx = 0; cap = 1 }) 2)
    ∷ [])
    ∷ acts (at 2 (Ran 2 answer.Started) ∷ [])
    ∷ acts (at 3 (Send 0 0 0 0 1 Ask 3) ∷ [])
    ∷ acts (at 4 (Ran 3 answer.Started) ∷ [])
    ∷ takes (packet 0 0 3 (what.Ask 0 0 1) [] (lit< tt) (lit≤ tt))
    (at 5
    (Arrive (record { n = 0; env = record { from = 0; tag = 0; ctx = 0; len = 1; how = Ask } }))
    ∷ [])
    ∷ takes (packet 0 1 5 (what.Clear 0) [] (lit< tt) (lit≤ tt)) []
    ∷ acts (at 6 (Out 0 0) ∷ [])
    ∷ draws (piece 0 0 0 0 (7 ∷ []) (lit< tt)) (at 7 (Whole 0 0) ∷ [])
    ∷ acts (at 8 (Ran 4 answer.Sent) ∷ [])
    ∷ acts (at 9 (Ran 5 (answer.Got 0 0 (7 ∷ []))) ∷ []) ∷ []

-- where the rank stands at the end
abbrev pub rank : Finished
rank = record { at = 4; waits = None; log = only }

-- it is both ends of its channel
abbrev pub AreEnded : Type 0
AreEnded = AreAllEnds (run_on 1) script (rank ∷ [])
