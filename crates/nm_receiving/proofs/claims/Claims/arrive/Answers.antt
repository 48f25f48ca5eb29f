use Rattle.std.proofs.Common.{◌++◌, ◌∷◌, []}
use Rattle.nm_match.specs.declared.deeds.Deed.TheVariants as deed
use Rattle.nm_receiving.proofs.ClaimLemmas.{noted-arrive, noted_by}
use Rattle.nm_receiving.proofs.claims.Claims.arrive.Goals as goal

pub invariant_of-self : goal.invariant_of-self
invariant_of-self c =
    let a = c.self.inside in
    let new = rw (← c.self.view_is) at c.requires.is_new in
    noted_by a.claimed.entries a.matcher c.arrive.new.self (a.matcher ++ deed.Arrive c.args.a ∷ []) c.arrive.result
    c.arrive.ensures.ok c.arrive.ensures.err
    (noted-arrive a.claimed.entries a.matcher c.args.a new c.self.invariant) c.self.invariant

pub returns-clause-oldest : goal.returns-clause-oldest
returns-clause-oldest c = rw (← c.self.view_is) c.arrive.ensures.oldest

pub returns-clause-ok : goal.returns-clause-ok
returns-clause-ok c = rw (← c.self.view_is) c.arrive.ensures.ok

pub returns-clause-err : goal.returns-clause-err
returns-clause-err c = rw (← c.self.view_is) c.arrive.ensures.err
