use Rattle.std.proofs.Common.{◌∙◌, refl}
use Rattle.nm_receiving.proofs.claims.note.Goals as goal

pub returns-clause-own : goal.returns-clause-own
returns-clause-own c = (rw c.unwrap.ensures at c.insert.ensures.updates).1

pub returns-clause-others : goal.returns-clause-others
returns-clause-others c = λ id other. (rw c.unwrap.ensures at c.insert.ensures.updates).0 id ∙ rw other refl
