use Rattle.std.proofs.Common.{◌++◌, ◌∷◌, [], ◌&&◌, not}
use Rattle.nm_history.specs.Happens.{happened, is_cancel}
use Rattle.nm_match.specs.declared.deeds.Deed.TheVariants as deed
use Rattle.nm_match.specs.Deeds.{history_of}
use Rattle.nm_receiving.proofs.ClaimLemmas.{noted-cancel, noted_if}
use Rattle.nm_receiving.proofs.claims.Claims.cancel.Goals as goal

pub invariant_of-self : goal.invariant_of-self
invariant_of-self c =
    let a = c.self.inside in
    noted_if a.claimed.entries a.matcher c.cancel.new.self (a.matcher ++ deed.Cancel c.args.post ∷ [])
    (c.cancel.result && not (happened (is_cancel c.args.post) (history_of a.matcher))) c.cancel.ensures.deeds
    (noted-cancel a.claimed.entries a.matcher c.args.post c.self.invariant) c.self.invariant
