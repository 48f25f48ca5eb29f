use Rattle.std.proofs.Common.{Bool, subst}
use Rattle.std.specs.Prelude.{IsTrue}
use Rattle.nm_lookups.specs.Deciding.{Decides}
use Rattle.nm_check.proofs.MarkLemmas.{decides_itself}
use Rattle.nm_check.proofs.rest.over.has_come.Goals as goal

pub returns : goal.returns
returns c = λ hj got.
    subst (λ (b : Bool). Decides c.is_ever.result (IsTrue b)) (c.is_ever.ensures hj got.incoming.came.arrivals)
    (decides_itself c.is_ever.result)
