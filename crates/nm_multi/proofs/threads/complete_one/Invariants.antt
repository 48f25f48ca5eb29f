use Rattle.std.proofs.Common.{◌-◌, ◌*◌, length}
use Rattle.nm_multi.specs.Programs.{AllStayMade, SameTurns, entries_of}
use Rattle.nm_multi.proofs.threads.complete_one.Given as goal

abbrev pub invariant-loop : goal.invariant-loop
invariant-loop l = SameTurns l.fn.turns l.turns × AllStayMade l.fn.turns l.turns

abbrev pub decreases-loop : goal.decreases-loop
decreases-loop l = 5 * l.turns.rounds - length (entries_of l.who l.turns.desk.log)
