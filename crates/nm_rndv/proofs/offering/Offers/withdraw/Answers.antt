use Rattle.std.proofs.Common.{◌≡◌, ◌<◌, ℕ, OnOk, OnErr, Result, Ok, Err, length, ap, arith}
use Rattle.nm_rndv.specs.Offers.{Destined, Offering, with_recall}
use Rattle.nm_rndv.proofs.KeptLemmas.{kept_unchanged}
use Rattle.nm_rndv.proofs.offering.Offers.withdraw.Goals as goal

-- a recall changes no message
same_asked : {T E : Type 0} (r : Result T E) (d d' : Destined) (n : ℕ) → OnOk r (d' ≡ with_recall d n) →
    OnErr r (d' ≡ d) → d'.asked ≡ d.asked
same_asked (Ok x) d d' n is err = ap (λ (x : Destined). x.asked) is
same_asked (Err e) d d' n ok is = ap (λ (x : Destined). x.asked) is

pub invariant_of-self : goal.invariant_of-self
invariant_of-self c =
    let a = c.self.inside in
    let d = c.index_mut.result.now in
    let new = c.recall.new.self in
    let within : c.args.to < length a.destinations.items =
    omega (arith, ap (λ (v : Offering). length v.destinations) c.self.view_is, c.requires.in_range) in
    kept_unchanged a.destinations.items a.order.items a.order.forgotten a.reserved _ c.self.invariant c.args.to within d
    c.index_mut.ensures.value new c.args.n
    (same_asked c.recall.result d new c.args.n c.recall.ensures.ok c.recall.ensures.err)
