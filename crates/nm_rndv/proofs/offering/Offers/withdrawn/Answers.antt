use mir.Val.{bool_byte}
use Rattle.std.proofs.Common.{◌≡◌, ◌<◌, ◌∙◌, ℕ, Bool, true, false, cond, Option, length, refl, ap, arith}
use Rattle.std.proofs.lemmas.List.{get_or_read}
use Rattle.std.specs.Option.{option_map_or}
use Rattle.nm_rndv.specs.declared.asked.State.{State}
use Rattle.nm_rndv.specs.Offers.{Destined, Offering, is_recalled, is_unanswered, is_waiting, recall_in}
use Rattle.nm_rndv.specs.Offers.{state_in, untold}
use Rattle.nm_rndv.proofs.KeptLemmas.{kept_answered}
use Rattle.nm_rndv.proofs.StateLemmas.{place_of, place_reserved}
use Rattle.nm_rndv.proofs.offering.Offers.withdrawn.Goals as goal

-- what is taken from the places reserved is what the answer frees
place_freed : (withdrawn done : Bool) (o : Option State) →
    withdrawn ≡ cond done (option_map_or is_waiting o false) false → bool_byte withdrawn ≡ place_of done o
place_freed true done o is = ap {B = ℕ} (λ b. cond b 1 0) is
place_freed false done o is = ap {B = ℕ} (λ b. cond b 1 0) is

pub answer-is_withdrawn-requires : goal.answer-is_withdrawn-requires
answer-is_withdrawn-requires c =
    let a = c.self.inside in
    let d = c.index_mut.result.now in
    let within : c.args.to < length a.destinations.items =
    omega (arith, ap (λ (v : Offering). length v.destinations) c.self.view_is, c.requires.in_range) in
    ap (λ (x : Destined). option_map_or is_unanswered (recall_in x c.args.n) false)
    (get_or_read a.destinations.items c.args.to d within c.index_mut.ensures.value untold)
    ∙ ap (λ (v : Offering). is_recalled v c.args.to c.args.n) c.self.view_is ∙ c.requires.recalled

pub overflow_sub-self : goal.overflow_sub-self
overflow_sub-self c =
    let a = c.self.inside in
    let d = c.index_mut.result.now in
    let within : c.args.to < length a.destinations.items =
    omega (arith, ap (λ (v : Offering). length v.destinations) c.self.view_is, c.requires.in_range) in
    let freed = place_freed c.answer-is_withdrawn.result c.args.done (state_in d c.args.n)
    c.answer-is_withdrawn.ensures.withdrawn in
    omega (
      arith,
      freed,
      c.self.invariant.counted,
      place_reserved a.destinations.items c.args.to within d c.index_mut.ensures.value c.args.n c.args.done _ refl,
    )

pub invariant_of-self : goal.invariant_of-self
invariant_of-self c =
    let a = c.self.inside in
    let d = c.index_mut.result.now in
    let within : c.args.to < length a.destinations.items =
    omega (arith, ap (λ (v : Offering). length v.destinations) c.self.view_is, c.requires.in_range) in
    let freed = place_freed c.answer-is_withdrawn.result c.args.done (state_in d c.args.n)
    c.answer-is_withdrawn.ensures.withdrawn in
    let reserved = place_reserved a.destinations.items c.args.to within d c.index_mut.ensures.value c.args.n
    c.args.done _ refl in
    kept_answered a.destinations.items a.order.items a.order.forgotten a.reserved _ c.self.invariant c.args.to within d
    c.index_mut.ensures.value c.answer-is_withdrawn.new.self c.args.n c.args.done (state_in d c.args.n) refl
    c.answer-is_withdrawn.ensures.answered _ (omega (arith, freed, reserved, c.self.invariant.counted))
