use Rattle.std.proofs.Common.{List, sym, subst}
use Rattle.nm_match.specs.declared.deeds.Deed.{Deed}
use Rattle.nm_receiving.specs.Claims.{AreNoted}
use Rattle.nm_receiving.proofs.ClaimLemmas.{noted-none}
use Rattle.nm_receiving.proofs.claims.Claims.new.Goals as goal

pub invariant_of-result : goal.invariant_of-result
invariant_of-result c =
    subst (λ (ds : List Deed). AreNoted c.new-2.result.entries ds) (sym c.new.ensures)
    (noted-none c.new-2.result.entries c.new-2.ensures.empty)
