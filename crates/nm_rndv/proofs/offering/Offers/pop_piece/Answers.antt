use Rattle.std.proofs.Common.{◌≡◌, [], true, false, Some, refl, sym, ap, ◌∙◌, append-nil}
use Rattle.std.specs.Bool.{then_some}
use Rattle.std.specs.Option.{option_map_or, option_and_then}
use Rattle.nm_rndv.specs.Cuts.{rest_of}
use Rattle.nm_rndv.specs.declared.asked.State.TheVariants.{Cleared}
use Rattle.nm_rndv.specs.Offers.{has_body, is_out, leaves, after_piece, out_by_piece, first_leaving, state_of}
use Rattle.nm_rndv.proofs.StateLemmas.{leaving_within, within_here, leaving_here, asked-with_step}
use Rattle.nm_rndv.proofs.StateLemmas.{state_seen}
use Rattle.nm_rndv.proofs.KeptLemmas.{low_then, kept_popped, more_room}
use Rattle.nm_rndv.proofs.StateLemmas.{state-with_step}
use Rattle.nm_rndv.proofs.Results.{is_there}
use Rattle.nm_rndv.proofs.offering.Offers.pop_piece.Goals as goal

pub pop-is_out-requires : goal.pop-is_out-requires
pop-is_out-requires c =
    let a = c.self.inside in
    let m = c.unwrap-to.result in
    let d = c.index_mut-destination.result.now in
    let left = is_there (λ x. leaves c.args.self.now.destinations x ≡ true) c.unwrap-to.ensures
    c.front.ensures.leaves in
    let seen' = leaving_within c.args.self.now.destinations m left in
    let was = leaving_here a.destinations.items a.order.items c.args.self.now c.self.view_is m.0 seen' d
    c.index_mut-destination.ensures.value m.1 left in
    ap (λ o. option_map_or has_body o false) was.1

pub let_go-requires : goal.let_go-requires
let_go-requires c =
    let a = c.self.inside in
    let ds = a.destinations.items in
    let m = c.unwrap-to.result in
    let d = c.index_mut-destination.result.now in
    let at = c.index_mut-destination.ensures.value in
    let left = is_there (λ x. leaves c.args.self.now.destinations x ≡ true) c.unwrap-to.ensures
    c.front.ensures.leaves in
    let seen' = leaving_within c.args.self.now.destinations m left in
    let was = leaving_here ds a.order.items c.args.self.now c.self.view_is m.0 seen' d at m.1 left in
    let within = within_here ds a.order.items c.args.self.now c.self.view_is m.0 seen' in
    let entries = asked-with_step d c.pop-is_out.new.self m.1 after_piece (Cleared was.0) was.1
    c.pop-is_out.ensures.step in
    rw (c.deref.ensures.value, ← append-nil a.order.items)
    (low_then ds a.order.items a.order.forgotten a.reserved _ c.self.invariant m.0 within d at c.pop-is_out.new.self m.1
    (Cleared was.0) (rest_of was.0) was.1 entries (λ _. refl) [])

pub invariant_of-self : goal.invariant_of-self
invariant_of-self c =
    let a = c.self.inside in
    let ds = a.destinations.items in
    let m = c.unwrap-to.result in
    let d = c.index_mut-destination.result.now in
    let at = c.index_mut-destination.ensures.value in
    let left = is_there (λ x. leaves c.args.self.now.destinations x ≡ true) c.unwrap-to.ensures
    c.front.ensures.leaves in
    let seen' = leaving_within c.args.self.now.destinations m left in
    let was = leaving_here ds a.order.items c.args.self.now c.self.view_is m.0 seen' d at m.1 left in
    let within = within_here ds a.order.items c.args.self.now c.self.view_is m.0 seen' in
    let entries = asked-with_step d c.pop-is_out.new.self m.1 after_piece (Cleared was.0) was.1
    c.pop-is_out.ensures.step in
    let first' = rw c.deref.ensures.value at c.let_go.ensures.first in
    let kept = kept_popped ds a.order.items a.order.forgotten a.reserved _ c.self.invariant m.0 within d at
    c.pop-is_out.new.self m.1 (Cleared was.0) (rest_of was.0) was.1 entries
    (λ _. refl) refl refl c.let_go.new.order.forgotten first' in
    rw c.let_go.ensures.same (more_room _ _ _ _ _ kept c.let_go.new.order.places c.let_go.ensures.room)

pub returns-clause-last : goal.returns-clause-last
returns-clause-last c =
    let a = c.self.inside in
    let ds = a.destinations.items in
    let m = c.unwrap-to.result in
    let d = c.index_mut-destination.result.now in
    let at = c.index_mut-destination.ensures.value in
    let left = is_there (λ x. leaves c.args.self.now.destinations x ≡ true) c.unwrap-to.ensures
    c.front.ensures.leaves in
    let seen' = leaving_within c.args.self.now.destinations m left in
    let was = leaving_here ds a.order.items c.args.self.now c.self.view_is m.0 seen' d at m.1 left in
    let state = state-with_step d c.pop-is_out.new.self m.1 after_piece (Cleared was.0) was.1
    c.pop-is_out.ensures.step in
    let seen-state = state_seen ds a.order.items c.args.self.now c.self.view_is m.0 seen' d at m.1 in
    let is : c.pop-is_out.result ≡ is_out (after_piece (Cleared was.0)) =
    c.pop-is_out.ensures.out ∙ ap (λ o. option_map_or is_out o false) state in
    let first : first_leaving c.args.self.now ≡ Some m = sym c.front.ensures.first ∙ c.unwrap-to.ensures in
    let same : c.pop-is_out.result ≡ option_map_or (λ s. is_out (after_piece s))
    (state_of c.args.self.now m.0 m.1) false = is
    ∙ sym (ap (λ o. option_map_or (λ s. is_out (after_piece s)) o false) (seen-state ∙ was.1)) in
    c.then_some.ensures ∙ ap (λ b. then_some b m) same ∙ sym (ap (option_and_then (out_by_piece c.args.self.now)) first)
