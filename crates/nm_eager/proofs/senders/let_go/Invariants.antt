use Rattle.std.proofs.Common.{◌≡◌, ◌++◌, replicate, None}
use Rattle.std.specs.VecDeque.{deque_capacity}
use Rattle.nm_eager.proofs.senders.let_go.Given as goal

abbrev pub invariant-loop-gone : goal.invariant-loop-gone
invariant-loop-gone l =
    (l.fn.whole.items ≡ replicate l.gone None ++ l.whole.items)
    × (deque_capacity l.whole ≡ deque_capacity l.fn.whole)
