use Rattle.std.proofs.Common.{◌≡◌, ◌∙◌, arith, refl, sym}
use Rattle.std.proofs.lemmas.List.{append-nil}
use Rattle.nm_eager.proofs.PlaceLemmas.{gap-length, gap-more}
use Rattle.nm_eager.proofs.senders.leave_empty.Goals as goal

pub loop-place-init : goal.loop-place-init
loop-place-init c = (sym (append-nil c.args.whole.now.items), refl)

pub push_back_reserved-requires : goal.push_back_reserved-requires
push_back_reserved-requires c =
    let l = c.loop-place in
    omega (
      arith,
      l.whole.ok.0,
      gap-length c.args.whole.now.items l._place l.whole.items l.invariant.0,
      l.invariant.1,
      c.requires,
    )

pub loop-place-preserved : goal.loop-place-preserved
loop-place-preserved c =
    let l = c.loop-place in (
      c.push_back_reserved.ensures.items ∙ gap-more c.args.whole.now.items l._place l.whole.items l.invariant.0,
      c.push_back_reserved.ensures.capacity ∙ l.invariant.1,
    )

pub returns-clause-len : goal.returns-clause-len
returns-clause-len c =
    let l = c.loop-place in
    let last : l._place ≡ c.args.many = omega arith in
    gap-length c.args.whole.now.items c.args.many l.whole.items (rw last at l.invariant.0)
