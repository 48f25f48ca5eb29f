use Rattle.std.proofs.Common.{◌≡◌, ◌<◌, length, true, slice_get, sym, ap, ◌∙◌}
use Rattle.nm_rndv.specs.Offers.{Offering, leaves}
use Rattle.nm_rndv.proofs.KeptLemmas.{all_out}
use Rattle.nm_rndv.proofs.StateLemmas.{leaving_within}
use Rattle.nm_rndv.proofs.Places.{find-first, passes_there}
use Rattle.nm_rndv.proofs.offering.Offers.front.Goals as goal
use Rattle.nm_types.proofs.OptionLemmas.{if_each}

pub returns-clause-first : goal.returns-clause-first
returns-clause-first c =
    let a = c.self.inside in
    let is : c.first_in.result ≡ slice_get a.order.items a.order.forgotten = c.first_in.ensures in
    rw (← c.self.view_is) (is ∙ sym (find-first (leaves a.destinations.items) a.order.items a.order.forgotten
    c.self.invariant.first_is))

pub returns-clause-leaves : goal.returns-clause-leaves
returns-clause-leaves c =
    let a = c.self.inside in
    let is : c.first_in.result ≡ slice_get a.order.items a.order.forgotten = c.first_in.ensures in
    if_each (λ m. leaves c.args.self.now.destinations m ≡ true) c.first_in.result
    (λ m e. ap (λ (v : Offering). leaves v.destinations m) (sym c.self.view_is)
    ∙ passes_there (leaves a.destinations.items) a.order.items a.order.forgotten m c.self.invariant.first_is
    (sym is ∙ e))

pub returns-clause-in_range : goal.returns-clause-in_range
returns-clause-in_range c =
    let a = c.self.inside in
    let is : c.first_in.result ≡ slice_get a.order.items a.order.forgotten = c.first_in.ensures in
    if_each (λ m. m.0 < length c.args.self.now.destinations) c.first_in.result
    (λ m e. leaving_within c.args.self.now.destinations m
    (ap (λ (v : Offering). leaves v.destinations m) (sym c.self.view_is)
    ∙ passes_there (leaves a.destinations.items) a.order.items a.order.forgotten m c.self.invariant.first_is
    (sym is ∙ e)))

pub returns-clause-none : goal.returns-clause-none
returns-clause-none c =
    let a = c.self.inside in
    let is : c.first_in.result ≡ slice_get a.order.items a.order.forgotten = c.first_in.ensures in
    λ none to n. ap (λ (v : Offering). leaves v.destinations (to, n)) (sym c.self.view_is)
    ∙ all_out a.destinations.items a.order.items a.order.forgotten a.reserved _ c.self.invariant (rw (← is) none) to n
