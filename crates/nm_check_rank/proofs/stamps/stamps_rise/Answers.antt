use Rattle.std.proofs.Common.{◌≡◌, ℕ, ◌<◌, arith, refl, sym, ◌∙◌, ap, subst, length, take, get_or}
use Rattle.nm_history.specs.RankRun.{StampAt, last_stamp}
use Rattle.nm_history.proofs.EarlierLemmas.{last_stamp-push}
use Rattle.nm_lookups.proofs.StepLemmas.{all_kept, breaks, goes_on, none_yet}
use Rattle.nm_check_rank.proofs.stamps.stamps_rise.Goals as goal
use Rattle.nm_types.proofs.ListLemmas.{take_next}

pub loop-e-init : goal.loop-e-init
loop-e-init c = (refl, none_yet (λ before e. StampAt before e.stamp) c.args.events.now)

pub loop-e-preserved : goal.loop-e-preserved
loop-e-preserved c =
    let h = c.args.events.now in
    let k = c.loop-e.e-index in
    let e = c.e-item.result in
    let inside : k < length h = c.loop-e-test.true in
    let is : e ≡ get_or h k e = c.e-item.is in (
      sym (ap last_stamp (take_next h k e inside is) ∙ last_stamp-push (take k h) e),
      goes_on (λ before e. StampAt before e.stamp) h k e inside is c.loop-e.invariant.1
          (subst (λ (n : ℕ). n < e.stamp) c.loop-e.invariant.0 c.if-e-last.false),
    )

pub returns-then-e-last : goal.returns-then-e-last
returns-then-e-last c =
    breaks (λ before e. StampAt before e.stamp) c.args.events.now c.loop-e.e-index c.e-item.result c.loop-e-test.true
    c.e-item.is
    (λ rises. let same = c.loop-e.invariant.0 in let low = c.if-e-last.true in
    let up : last_stamp (take c.loop-e.e-index c.args.events.now) < c.e-item.result.stamp = rises in
    omega (arith, same, low, up))

pub returns : goal.returns
returns c = all_kept (λ before e. StampAt before e.stamp) c.args.events.now c.loop-e.e-index c.loop-e-test.false
    c.loop-e.invariant.1
