use Rattle.std.proofs.Common.{length}
use Rattle.nm_shell.proofs.CutLemmas.{Reached}
use Rattle.nm_shell.proofs.inputs.cut.Given as goal

-- no line so far is the one between
abbrev pub invariant-loop-rest : goal.invariant-loop-rest
invariant-loop-rest l = Reached l.bytes l.rest

abbrev pub decreases-loop-rest : goal.decreases-loop-rest
decreases-loop-rest l = length l.rest
