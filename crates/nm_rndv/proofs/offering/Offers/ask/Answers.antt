use Rattle.std.proofs.Common.{◌≡◌, ◌<◌, ℕ, None, length, sym, ap, ◌∙◌, arith}
use Rattle.nm_kept.specs.Keeping.{Keeping}
use Rattle.nm_rndv.specs.Offers.{Offering, state_in, state_at}
use Rattle.nm_rndv.proofs.KeptLemmas.{kept_asked}
use Rattle.nm_rndv.proofs.StateLemmas.{state_there}
use Rattle.nm_rndv.proofs.offering.Offers.ask.Goals as goal

pub overflow_add-reserved : goal.overflow_add-reserved
overflow_add-reserved c =
    let k = c.places_are_few.ensures in
    omega (arith, c.self.invariant.fits, k.forgotten, k.few)

pub invariant_of-self-2 : goal.invariant_of-self-2
invariant_of-self-2 c =
    let a = c.self.inside in
    let ds = a.destinations.items in
    let d = c.index_mut.result.now in
    let at = c.index_mut.ensures.value in
    let within : c.args.to < length ds = omega (
      arith,
      ap (λ (v : Offering). length v.destinations) c.self.view_is,
      c.requires.in_range,
    ) in
    let was : state_in d c.args.n ≡ None = sym (state_there ds c.args.to within d at c.args.n)
    ∙ ap (λ (v : Offering). state_at v.destinations (c.args.to, c.args.n)) c.self.view_is ∙ c.requires.is_new in
    let items = ap (λ (k : Keeping (ℕ × ℕ)). k.items) c.in_ok-reserve.ensures.same in
    let forgotten = ap (λ (k : Keeping (ℕ × ℕ)). k.forgotten) c.in_ok-reserve.ensures.same in
    rw (items, forgotten) (kept_asked ds a.order.items a.order.forgotten a.reserved _ c.self.invariant c.args.to
    within d at c.ask.new.self c.args.n c.new.result was c.in_ok-ask.ensures.states c.in_ok-ask.ensures.ok _
    (omega (arith, c.in_ok-reserve.ensures.ok, ap length items)))
