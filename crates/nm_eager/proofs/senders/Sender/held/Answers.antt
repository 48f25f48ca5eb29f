use Rattle.std.proofs.Common.{◌≡◌, ◌+◌, ◌≤◌, arith, length}
use Rattle.nm_eager.proofs.PlaceLemmas.{held-since, placed-length}
use Rattle.nm_eager.proofs.senders.Sender.held.Goals as goal

pub returns : goal.returns
returns c =
    let s = c.self.inside in
    let le : s.first + length s.whole.items ≤ s.count =
    omega (arith, c.self.invariant.2.counted, placed-length s.first s.whole.items) in
    let many : c.len.result ≡ length s.whole.items = omega (arith, c.len.ensures, s.whole.ok.0) in
    rw (← c.self.view_is, many) (held-since s.first s.count s.whole.items s.unfinished c.self.invariant.3 le)
