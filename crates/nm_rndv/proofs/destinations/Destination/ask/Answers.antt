use Rattle.std.proofs.Common.{◌≡◌, None, ap, ◌∙◌, nat_eq, refl}
use Rattle.std.specs.Map.{lookup}
use Rattle.nm_kept.proofs.EntryLemmas.{absent, live_put, live_same, lookup-more}
use Rattle.nm_rndv.specs.declared.asked.State.TheVariants.{Asked}
use Rattle.nm_rndv.specs.Offers.{Destined, has_body, state_in}
use Rattle.nm_rndv.proofs.destinations.Destination.ask.Goals as goal

pub put-requires-clause-is_absent : goal.put-requires-clause-is_absent
put-requires-clause-is_absent c =
    absent has_body c.self.inside.asked c.self.invariant.0 c.args.n
    (ap (λ (d : Destined). state_in d c.args.n) c.self.view_is ∙ c.requires)

pub invariant_of-self : goal.invariant_of-self
invariant_of-self c =
    let a = c.self.inside in (
      live_same has_body a.asked c.put.new.self c.self.invariant.0 c.in_err-put.ensures.err
          c.in_err-put.ensures.err_live,
      c.self.invariant.1,
    )

pub invariant_of-self-2 : goal.invariant_of-self-2
invariant_of-self-2 c =
    let a = c.self.inside in
    let new : lookup (nat_eq c.args.n) a.asked.entries ≡ None =
    ap (λ (d : Destined). state_in d c.args.n) c.self.view_is ∙ c.requires in (
      live_put has_body a.asked c.self.invariant.0 c.args.n c.put.new.self (Asked c.args.body) new refl
          c.in_ok-put.ensures.entries c.in_ok-put.ensures.live,
      c.self.invariant.1,
    )

pub returns-clause-states : goal.returns-clause-states
returns-clause-states c q =
    let a = c.self.inside in
    let new : lookup (nat_eq c.args.n) a.asked.entries ≡ None =
    ap (λ (d : Destined). state_in d c.args.n) c.self.view_is ∙ c.requires in
    rw (c.in_ok-put.ensures.entries, ← c.self.view_is) (lookup-more a.asked.entries c.args.n (Asked c.args.body) new q)
