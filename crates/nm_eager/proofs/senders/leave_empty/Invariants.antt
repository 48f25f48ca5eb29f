use Rattle.std.proofs.Common.{◌≡◌, ◌++◌, replicate, None}
use Rattle.std.specs.VecDeque.{deque_capacity}
use Rattle.nm_eager.proofs.senders.leave_empty.Given as goal

abbrev pub invariant-loop-place : goal.invariant-loop-place
invariant-loop-place l =
    (l.whole.items ≡ l.fn.whole.items ++ replicate l._place None)
    × (deque_capacity l.whole ≡ deque_capacity l.fn.whole)
