use Rattle.std.proofs.Common.{◌∙◌, sym, ap, nat_eq, false}
use Rattle.std.specs.Map.{set_value}
use Rattle.std.specs.Option.{option_map_or}
use Rattle.nm_rndv.specs.Offers.{Destined, state_in, has_body, is_out, after_clearance}
use Rattle.nm_rndv.proofs.StateLemmas.{with_step-set, state-with_step}
use Rattle.nm_rndv.proofs.destinations.Destination.clear.Goals as goal

pub lift-requires-clause-there : goal.lift-requires-clause-there
lift-requires-clause-there c =
    ap (λ (d : Destined). option_map_or has_body (state_in d c.args.n) false) c.self.view_is ∙ c.requires

pub returns-clause-step : goal.returns-clause-step
returns-clause-step c =
    let a = c.self.inside in
    let d : Destined = record { asked = a.asked.entries; recalls = a.recalls.entries } in
    let entries = c.set.ensures.entries ∙ c.lift.ensures.others c.cleared-state.result
    ∙ ap (set_value (nat_eq c.args.n) a.asked.entries) c.cleared-state.ensures in
    rw (← c.self.view_is) (with_step-set d c.args.n after_clearance c.lift.result c.lift.ensures.value _ entries)

pub returns-clause-out : goal.returns-clause-out
returns-clause-out c =
    let a = c.self.inside in
    let d : Destined = record { asked = a.asked.entries; recalls = a.recalls.entries } in
    let entries = c.set.ensures.entries ∙ c.lift.ensures.others c.cleared-state.result
    ∙ ap (set_value (nat_eq c.args.n) a.asked.entries) c.cleared-state.ensures in
    let step = with_step-set d c.args.n after_clearance c.lift.result c.lift.ensures.value _ entries in
    c.is_out-is_out.ensures ∙ ap is_out c.cleared-state.ensures
    ∙ sym (ap (λ o. option_map_or is_out o false)
    (state-with_step d _ c.args.n after_clearance c.lift.result c.lift.ensures.value step))
