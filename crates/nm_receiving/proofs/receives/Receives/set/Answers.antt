use Rattle.std.specs.Prelude.{IsSome}
use Rattle.std.proofs.Common.{◌^◌, min, sym, ◌∙◌, ap, subst, arith}
use Rattle.std.proofs.lemmas.List.{length-set}
use Rattle.nm_receiving.specs.Receives.{ReceivesView, live_at}
use Rattle.nm_receiving.proofs.Lives.{first_same, live_held}
use Rattle.nm_receiving.proofs.receives.Receives.set.Goals as goal

pub set-requires : goal.set-requires
set-requires c =
    live_held c.self.inside.kept c.self.invariant c.args.number
    (subst (λ (v : ReceivesView). IsSome (live_at v.items c.args.number)) (sym c.self.view_is) c.requires.there)

pub invariant_of-self : goal.invariant_of-self
invariant_of-self c =
    let there = subst (λ (v : ReceivesView). IsSome (live_at v.items c.args.number)) (sym c.self.view_is)
    c.requires.there in
    let items = c.self.inside.kept.items in
    rw c.set.ensures (record {
      first = c.self.invariant.first
          ∙ ap (λ k. min k (2 ^ 62)) (sym (first_same items c.args.number c.args.receive there c.requires.live));
      fits = omega (arith, c.self.invariant.fits, length-set items c.args.number c.args.receive);
    })
