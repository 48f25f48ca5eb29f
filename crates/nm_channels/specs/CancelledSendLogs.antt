-- A send that is cancelled before a receive took it.
use Rattle.std.specs.Prelude.{true, false, None, List, [], ◌∷◌}
use Rattle.std.proofs.Math.Dec.{lit<, lit≤}
use Rattle.nm_types.specs.declared.messages.How.TheVariants.{Eager}
use Rattle.nm_types.specs.declared.packets.What.TheVariants as what
use Rattle.nm_types.specs.declared.scripts.Body.TheVariants.{Hex}
use Rattle.nm_types.specs.declared.scripts.Command.TheVariants as command
use Rattle.nm_types.specs.declared.scripts.Line.{Line}
use Rattle.nm_types.specs.declared.answers.Answer.TheVariants as answer
use Rattle.nm_types.specs.Commands.{rank_line}
use Rattle.nm_history.specs.declared.events.Happened.TheVariants.{Send, Arrive, Whole, Out, Recall}
use Rattle.nm_history.specs.declared.events.Happened.TheVariants.{Withdraw, Undone, Ran}
use Rattle.nm_history.specs.Happens.{at}
use Rattle.nm_channels.specs.Moments.{LogEntry}
use Rattle.nm_channels.specs.Finished.{Finished, AreAllEnds}
use Rattle.nm_channels.specs.SmallLogs.{run_on, packet, acts, takes}

-- the script
abbrev pub script : List Line
script =
    rank_line 0 (command.Send 1 0 0 0 false (Hex (1 ∷ [])))
    ∷ rank_line 0 (command.Cancel 0)
    ∷ rank_line 0 (command.Wait 0) ∷ []

-- the moments of the first rank
abbrev pub first : List LogEntry
first =
    acts (at 1 (Send 1 0 0 0 1 Eager 2) ∷ [])
    ∷ acts (at 2 (Ran 2 answer.Started) ∷ [])
    ∷ acts (at 3 (Recall 1 0) ∷ [])
    ∷ acts (at 4 (Ran 3 answer.Asked) ∷ [])
    ∷ acts (at 5 (Out 1 0) ∷ [])
    ∷ takes (packet 1 0 4 (what.Withdrawn 0 true) [] (lit< tt) (lit≤ tt))
    (at 6 (Undone 1 0 true) ∷ [])
    ∷ acts (at 7 (Ran 4 answer.Cancelled) ∷ []) ∷ []

-- the moments of the second rank
abbrev pub second : List LogEntry
second =
    takes (packet 0 0 1 (what.Head 0 0 1) (1 ∷ []) (lit< tt) (lit≤ tt))
    (at 2
    (Arrive (record { n = 0; env = record { from = 0; tag = 0; ctx = 0; len = 1; how = Eager } }))
    ∷ at 3 (Whole 0 0) ∷ [])
    ∷ takes (packet 0 1 3 (what.Withdraw 0) [] (lit< tt) (lit≤ tt)) (at 4 (Withdraw 0 0 true) ∷ [])
    ∷ []

-- where the sender stands at the end
abbrev pub sender : Finished
sender = record { at = 3; waits = None; log = first }

-- where the receiver stands at the end
abbrev pub receiver : Finished
receiver = record { at = 0; waits = None; log = second }

-- they are the ends of their channels
abbrev pub AreEnded : Type 0
AreEnded = AreAllEnds (run_on 2) script (sender ∷ receiver ∷ [])
