use Rattle.std.proofs.Common.{◌≡◌, [], ◌∷◌, false, refl, sym, ap, ◌∙◌, true≢false, arith}
use Rattle.std.specs.Option.{option_map_or}
use Rattle.nm_types.specs.Bodies.{body_len}
use Rattle.nm_rndv.specs.Cuts.{start_of}
use Rattle.nm_rndv.specs.declared.asked.State.TheVariants.{Asked}
use Rattle.nm_rndv.specs.Offers.{has_body, is_out, len_of, asked_len, after_clearance, leaving_or_out}
use Rattle.nm_rndv.proofs.StateLemmas.{within_here, state_seen, asked_here, asked-with_step}
use Rattle.nm_rndv.proofs.KeptLemmas.{room_reserved, low_then, kept_cleared, more_room}
use Rattle.nm_rndv.proofs.StateLemmas.{state-with_step, out_at_once}
use Rattle.nm_rndv.proofs.offering.Offers.cleared.Goals as goal

pub clear-is_out-requires : goal.clear-is_out-requires
clear-is_out-requires c =
    let a = c.self.inside in
    let d = c.index_mut-destination.result.now in
    let was = asked_here a.destinations.items a.order.items c.args.self.now c.self.view_is c.args.to
    c.requires.in_range d c.index_mut-destination.ensures.value c.args.n c.requires.asked in
    ap (λ o. option_map_or has_body o false) was.1

pub push_reserved-requires : goal.push_reserved-requires
push_reserved-requires c =
    let a = c.self.inside in
    let ds = a.destinations.items in
    let d = c.index_mut-destination.result.now in
    let at = c.index_mut-destination.ensures.value in
    let within = within_here ds a.order.items c.args.self.now c.self.view_is c.args.to c.requires.in_range in
    let was = asked_here ds a.order.items c.args.self.now c.self.view_is c.args.to c.requires.in_range d at c.args.n
    c.requires.asked in
    let entries = asked-with_step d c.clear-is_out.new.self c.args.n after_clearance (Asked was.0) was.1
    c.clear-is_out.ensures.step in
    let some' = room_reserved ds a.order.items a.order.forgotten a.reserved _ c.self.invariant c.args.to within d at
    c.clear-is_out.new.self c.args.n (Asked was.0) (start_of was.0) was.1 entries refl in
    omega (arith, some', c.self.invariant.fits)

pub overflow_sub-self : goal.overflow_sub-self
overflow_sub-self c =
    let a = c.self.inside in
    let ds = a.destinations.items in
    let d = c.index_mut-destination.result.now in
    let at = c.index_mut-destination.ensures.value in
    let within = within_here ds a.order.items c.args.self.now c.self.view_is c.args.to c.requires.in_range in
    let was = asked_here ds a.order.items c.args.self.now c.self.view_is c.args.to c.requires.in_range d at c.args.n
    c.requires.asked in
    let entries = asked-with_step d c.clear-is_out.new.self c.args.n after_clearance (Asked was.0) was.1
    c.clear-is_out.ensures.step in
    room_reserved ds a.order.items a.order.forgotten a.reserved _ c.self.invariant c.args.to within d at
    c.clear-is_out.new.self c.args.n (Asked was.0) (start_of was.0) was.1 entries refl

pub let_go-requires : goal.let_go-requires
let_go-requires c =
    let a = c.self.inside in
    let ds = a.destinations.items in
    let d = c.index_mut-destination.result.now in
    let at = c.index_mut-destination.ensures.value in
    let within = within_here ds a.order.items c.args.self.now c.self.view_is c.args.to c.requires.in_range in
    let was = asked_here ds a.order.items c.args.self.now c.self.view_is c.args.to c.requires.in_range d at c.args.n
    c.requires.asked in
    let entries = asked-with_step d c.clear-is_out.new.self c.args.n after_clearance (Asked was.0) was.1
    c.clear-is_out.ensures.step in
    let low = low_then ds a.order.items a.order.forgotten a.reserved _ c.self.invariant c.args.to within d at
    c.clear-is_out.new.self c.args.n (Asked was.0) (start_of was.0) was.1 entries (λ h. absurd (true≢false (sym h)))
    ((c.args.to, c.args.n) ∷ []) in
    rw (c.deref.ensures.value, c.push_reserved.ensures) low

pub invariant_of-self : goal.invariant_of-self
invariant_of-self c =
    let a = c.self.inside in
    let ds = a.destinations.items in
    let d = c.index_mut-destination.result.now in
    let at = c.index_mut-destination.ensures.value in
    let within = within_here ds a.order.items c.args.self.now c.self.view_is c.args.to c.requires.in_range in
    let was = asked_here ds a.order.items c.args.self.now c.self.view_is c.args.to c.requires.in_range d at c.args.n
    c.requires.asked in
    let entries = asked-with_step d c.clear-is_out.new.self c.args.n after_clearance (Asked was.0) was.1
    c.clear-is_out.ensures.step in
    let first' = rw (c.deref.ensures.value, c.push_reserved.ensures) at c.let_go.ensures.first in
    let kept = kept_cleared ds a.order.items a.order.forgotten a.reserved _ c.self.invariant c.args.to within d at
    c.clear-is_out.new.self c.args.n (Asked was.0) (start_of was.0) was.1 entries
    (λ h. absurd (true≢false (sym h))) refl refl c.let_go.new.order.forgotten first' in
    let room = rw c.push_reserved.ensures at c.let_go.ensures.room in
    rw (c.let_go.ensures.same, c.push_reserved.ensures)
    (more_room _ _ _ _ _ kept c.let_go.new.order.places room)

pub returns-clause-empty : goal.returns-clause-empty
returns-clause-empty c =
    let a = c.self.inside in
    let d = c.index_mut-destination.result.now in
    let at = c.index_mut-destination.ensures.value in
    let seen' = state_seen a.destinations.items a.order.items c.args.self.now c.self.view_is c.args.to
    c.requires.in_range d at c.args.n in
    let was = asked_here a.destinations.items a.order.items c.args.self.now c.self.view_is c.args.to
    c.requires.in_range d at c.args.n c.requires.asked in
    let state = state-with_step d c.clear-is_out.new.self c.args.n after_clearance (Asked was.0) was.1
    c.clear-is_out.ensures.step in
    let is : c.clear-is_out.result ≡ is_out (leaving_or_out (start_of was.0)) =
    c.clear-is_out.ensures.out ∙ ap (λ o. option_map_or is_out o false) state in
    let many : asked_len c.args.self.now c.args.to c.args.n ≡ body_len was.0 =
    ap (λ o. option_map_or len_of o 0) (seen' ∙ was.1) in
    rw (is, many) (out_at_once was.0)
