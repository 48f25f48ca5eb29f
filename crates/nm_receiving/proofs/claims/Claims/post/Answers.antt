use Rattle.std.proofs.Common.{◌++◌, ◌∷◌, []}
use Rattle.nm_match.specs.declared.deeds.Deed.TheVariants as deed
use Rattle.nm_receiving.proofs.ClaimLemmas.{noted-post, noted_by}
use Rattle.nm_receiving.proofs.claims.Claims.post.Goals as goal

pub invariant_of-self : goal.invariant_of-self
invariant_of-self c =
    let a = c.self.inside in
    noted_by a.claimed.entries a.matcher c.post.new.self (a.matcher ++ deed.Post c.args.p ∷ []) c.post.result
    c.post.ensures.ok c.post.ensures.err (noted-post a.claimed.entries a.matcher c.args.p c.self.invariant)
    c.self.invariant

pub returns-clause-oldest : goal.returns-clause-oldest
returns-clause-oldest c = rw (← c.self.view_is) c.post.ensures.oldest

pub returns-clause-ok : goal.returns-clause-ok
returns-clause-ok c = rw (← c.self.view_is) c.post.ensures.ok

pub returns-clause-err : goal.returns-clause-err
returns-clause-err c = rw (← c.self.view_is) c.post.ensures.err
