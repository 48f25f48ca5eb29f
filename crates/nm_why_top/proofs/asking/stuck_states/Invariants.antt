-- No rank waits at the ends before this one.
use Rattle.std.proofs.Common.{take}
use Rattle.nm_why_top.specs.Answers.{NoneHangs}
use Rattle.nm_why_top.proofs.asking.stuck_states.Given as goal

abbrev pub invariant-loop-end : goal.invariant-loop-end
invariant-loop-end l = NoneHangs (take l.end-index l.ends)
