-- One rank more.
use Rattle.std.proofs.Common.{◌≡◌, ◌∷◌, ap, arith, length}
use Rattle.std.specs.Vec.Iter.{into_iter_items}
use Rattle.nm_transcript.proofs.excerpts.own_all.Goals as goal

pub loop-kept-preserved : goal.loop-kept-preserved
loop-kept-preserved c =
    let split : into_iter_items c.loop-kept.kept-iterator ≡ c.in-Some.kept ∷ into_iter_items c.next.new.self =
    c.in-Some.ensures.steps.0 in
    let other : into_iter_items c.loop-kept.accounts
    ≡ c.in-Some-next.account ∷ into_iter_items c.next-in-loop-kept.new.self = c.in-Some-next.ensures.items in
    let one = ap length split in
    let two = ap length other in
    let left = c.loop-kept.invariant.left in
    let many = c.loop-kept.invariant.many in
    let more = c.in_ok-put.ensures.many in
    record {
      own = c.in_ok-put.ensures.own c.loop-kept.invariant.own;
      left = omega (arith, one, two, left);
      many = omega (arith, one, many, more);
    }
