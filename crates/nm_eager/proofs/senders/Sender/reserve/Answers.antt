use Rattle.std.proofs.Common.{arith}
use Rattle.nm_eager.proofs.PlaceLemmas.{placed-length}
use Rattle.nm_eager.proofs.senders.Sender.reserve.Goals as goal

pub overflow_sub-wanted-2 : goal.overflow_sub-wanted-2
overflow_sub-wanted-2 c =
    let s = c.self.inside in
    omega (arith, c.len.ensures, s.whole.ok.0, c.self.invariant.2.counted, placed-length s.first s.whole.items)
