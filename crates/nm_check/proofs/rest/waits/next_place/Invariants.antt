use Rattle.nm_check.proofs.WaitLemmas.{ComesAfter}
use Rattle.nm_check.proofs.rest.waits.next_place.Given as goal

-- the command is the one after so many of those that are left
abbrev pub invariant-loop-k : goal.invariant-loop-k
invariant-loop-k l = ComesAfter l.rank l.fn.at l.lines l.k l.left
