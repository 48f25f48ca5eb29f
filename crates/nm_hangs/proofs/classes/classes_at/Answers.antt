-- A copy.
use Rattle.std.proofs.Common.{◌∙◌}
use Rattle.nm_explored.proofs.TellLemmas.{ok_weaker}
use Rattle.nm_hangs.proofs.classes.classes_at.Goals as goal

pub returns : goal.returns
returns c = ok_weaker _ _ (λ copy is. is ∙ c.classes_in.ensures) c.copied.result c.copied.ensures
