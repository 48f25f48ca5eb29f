use Rattle.std.proofs.Common.{◌∙◌, ap, is_some, false, refl, Some}
use Rattle.std.specs.Option.{option_map_or}
use Rattle.nm_kept.proofs.EntryLemmas.{in_memory, live_end}
use Rattle.nm_rndv.specs.Offers.{Destined, is_unanswered, recall_in}
use Rattle.nm_rndv.proofs.destinations.Destination.answer.Goals as goal

pub end-requires : goal.end-requires
end-requires c =
    ap is_some (in_memory is_unanswered c.self.inside.recalls c.self.invariant.1 c.args.n
    (ap (λ (d : Destined). option_map_or is_unanswered (recall_in d c.args.n) false) c.self.view_is ∙ c.requires)).1

pub invariant_of-self : goal.invariant_of-self
invariant_of-self c =
    let r = c.self.inside.recalls in
    let m = in_memory is_unanswered r c.self.invariant.1 c.args.n
    (ap (λ (d : Destined). option_map_or is_unanswered (recall_in d c.args.n) false) c.self.view_is ∙ c.requires) in (
      c.withdraw_if.ensures.live,
      live_end is_unanswered r c.self.invariant.1 c.args.n c.end.new.self (Some c.args.done) m.0 m.2
          c.end.ensures.entries refl c.end.ensures.live c.end.ensures.many,
    )

pub returns-clause-answered : goal.returns-clause-answered
returns-clause-answered c = rw (← c.self.view_is, c.withdraw_if.ensures.entries, c.end.ensures.entries) refl
