use Rattle.std.proofs.Common.{◌++◌, ◌∷◌, []}
use Rattle.nm_match.specs.declared.deeds.Deed.TheVariants as deed
use Rattle.nm_receiving.proofs.ClaimLemmas.{noted-withdraw, noted_if}
use Rattle.nm_receiving.proofs.claims.Claims.withdraw.Goals as goal

pub invariant_of-self : goal.invariant_of-self
invariant_of-self c =
    let a = c.self.inside in
    noted_if a.claimed.entries a.matcher c.withdraw.new.self (a.matcher ++ deed.Withdraw c.args.from c.args.n ∷ [])
    c.withdraw.result c.withdraw.ensures.deeds
    (noted-withdraw a.claimed.entries a.matcher c.args.from c.args.n c.self.invariant) c.self.invariant
