use Rattle.std.proofs.Common.{List, sym, subst}
use Rattle.nm_match.specs.declared.deeds.Deed.{Deed}
use Rattle.nm_receiving.specs.Claims.{AreNoted}
use Rattle.nm_receiving.proofs.ClaimLemmas.{noted-match}
use Rattle.nm_receiving.proofs.claims.Claims.take_claimed.Goals as goal

pub invariant_of-self-2 : goal.invariant_of-self-2
invariant_of-self-2 c =
    let a = c.self.inside in
    let claimed = rw (← c.self.view_is) at c.requires.claimed in
    subst (λ (ds : List Deed). AreNoted c.forget.new.claimed.entries ds) (sym c.in_ok-take_claimed.ensures.ok)
    (noted-match a.claimed.entries c.forget.new.claimed.entries a.matcher c.args.number c.args.from c.args.n claimed
    c.forget.ensures.own c.forget.ensures.others c.self.invariant)
