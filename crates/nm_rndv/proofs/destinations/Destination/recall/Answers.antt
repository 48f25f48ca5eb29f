use Rattle.std.proofs.Common.{◌≡◌, None, ap, ◌∙◌, nat_eq, refl}
use Rattle.std.specs.Map.{lookup}
use Rattle.nm_kept.proofs.EntryLemmas.{absent, live_put, live_same}
use Rattle.nm_rndv.specs.Offers.{Destined, is_unanswered, recall_in}
use Rattle.nm_rndv.proofs.destinations.Destination.recall.Goals as goal

pub put-requires-clause-is_absent : goal.put-requires-clause-is_absent
put-requires-clause-is_absent c =
    absent is_unanswered c.self.inside.recalls c.self.invariant.1 c.args.n
    (ap (λ (d : Destined). recall_in d c.args.n) c.self.view_is ∙ c.requires)

pub invariant_of-self : goal.invariant_of-self
invariant_of-self c =
    let a = c.self.inside in (
      c.self.invariant.0,
      live_same is_unanswered a.recalls c.put.new.self c.self.invariant.1 c.in_err-put.ensures.err
          c.in_err-put.ensures.err_live,
    )

pub invariant_of-self-2 : goal.invariant_of-self-2
invariant_of-self-2 c =
    let a = c.self.inside in
    let new : lookup (nat_eq c.args.n) a.recalls.entries ≡ None =
    ap (λ (d : Destined). recall_in d c.args.n) c.self.view_is ∙ c.requires in (
      c.self.invariant.0,
      live_put is_unanswered a.recalls c.self.invariant.1 c.args.n c.put.new.self None new refl
          c.in_ok-put.ensures.entries c.in_ok-put.ensures.live,
    )
