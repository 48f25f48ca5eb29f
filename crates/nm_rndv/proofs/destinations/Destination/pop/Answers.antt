use Rattle.std.proofs.Common.{◌∙◌, sym, ap, nat_eq, false}
use Rattle.std.specs.Map.{set_value}
use Rattle.std.specs.Option.{option_map_or}
use Rattle.nm_rndv.specs.Offers.{Destined, state_in, has_body, is_out, after_piece}
use Rattle.nm_rndv.proofs.StateLemmas.{with_step-set, state-with_step}
use Rattle.nm_rndv.proofs.destinations.Destination.pop.Goals as goal

pub lift-state-requires-clause-there : goal.lift-state-requires-clause-there
lift-state-requires-clause-there c =
    ap (λ (d : Destined). option_map_or has_body (state_in d c.args.n) false) c.self.view_is ∙ c.requires

pub returns-clause-step : goal.returns-clause-step
returns-clause-step c =
    let a = c.self.inside in
    let d : Destined = record { asked = a.asked.entries; recalls = a.recalls.entries } in
    let entries = c.set.ensures.entries ∙ c.lift-state.ensures.others c.pop.new.self
    ∙ ap (set_value (nat_eq c.args.n) a.asked.entries) c.pop.ensures in
    rw (← c.self.view_is)
    (with_step-set d c.args.n after_piece c.lift-state.result c.lift-state.ensures.value _ entries)

pub returns-clause-out : goal.returns-clause-out
returns-clause-out c =
    let a = c.self.inside in
    let d : Destined = record { asked = a.asked.entries; recalls = a.recalls.entries } in
    let entries = c.set.ensures.entries ∙ c.lift-state.ensures.others c.pop.new.self
    ∙ ap (set_value (nat_eq c.args.n) a.asked.entries) c.pop.ensures in
    let step = with_step-set d c.args.n after_piece c.lift-state.result c.lift-state.ensures.value _ entries in
    c.is_out-is_out.ensures ∙ ap is_out c.pop.ensures
    ∙ sym (ap (λ o. option_map_or is_out o false)
    (state-with_step d _ c.args.n after_piece c.lift-state.result c.lift-state.ensures.value step))
