-- A claimed message that no matched receive takes: it is kept back.
use Rattle.std.specs.Prelude.{true, Some, None, List, [], ◌∷◌}
use Rattle.std.proofs.Math.Dec.{lit<, lit≤}
use Rattle.nm_types.specs.declared.messages.How.TheVariants.{Ask}
use Rattle.nm_types.specs.declared.messages.Peer.TheVariants as peer
use Rattle.nm_types.specs.declared.messages.TagPick.TheVariants as pick
use Rattle.nm_types.specs.declared.packets.What.TheVariants as what
use Rattle.nm_types.specs.declared.scripts.Body.TheVariants.{Hex}
use Rattle.nm_types.specs.declared.scripts.Command.TheVariants as command
use Rattle.nm_types.specs.declared.scripts.Line.{Line}
use Rattle.nm_types.specs.declared.answers.Answer.TheVariants as answer
use Rattle.nm_types.specs.Commands.{rank_line}
use Rattle.nm_history.specs.declared.events.Happened.TheVariants.{Send, Arrive, Claim, Ran}
use Rattle.nm_history.specs.Happens.{at}
use Rattle.nm_channels.specs.Moments.{LogEntry}
use Rattle.nm_channels.specs.Finished.{Finished, AreAllEnds}
use Rattle.nm_channels.specs.SmallLogs.{run_on, packet, acts, takes}

-- the script
abbrev pub script : List Line
script =
    rank_line 0 (command.Send 1 0 0 0 true (Hex (7 ∷ [])))
    ∷ rank_line 0 (command.Wait 0)
    ∷ rank_line 1 (command.Mprobe 3 peer.Any pick.Any 0) ∷ []

-- the moments of the first rank
abbrev pub first : List LogEntry
first =
    acts (at 1 (Send 1 0 0 0 1 Ask 2) ∷ []) ∷ acts (at 2 (Ran 2 answer.Started) ∷ []) ∷ []

-- the moments of the second rank
abbrev pub second : List LogEntry
second =
    takes (packet 0 0 1 (what.Ask 0 0 1) [] (lit< tt) (lit≤ tt))
    (at 2
    (Arrive (record { n = 0; env = record { from = 0; tag = 0; ctx = 0; len = 1; how = Ask } }))
    ∷ [])
    ∷ acts (at 3 (Claim 0 0 4) ∷ [])
    ∷ acts (at 4 (Ran 4 (answer.Seen (record { from = 0; tag = 0; len = 1 }))) ∷ []) ∷ []

-- where the sender stands at the end
abbrev pub sender : Finished
sender = record { at = 1; waits = Some 3; log = first }

-- where the receiver stands at the end
abbrev pub receiver : Finished
receiver = record { at = 1; waits = None; log = second }

-- they are the ends of their channels
abbrev pub AreEnded : Type 0
AreEnded = AreAllEnds (run_on 2) script (sender ∷ receiver ∷ [])
