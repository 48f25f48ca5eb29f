-- The state of the rank.
use Rattle.std.proofs.Common.{sym, ◌∙◌}
use Rattle.nm_hangs.proofs.classes.class_at.Goals as goal

pub class_of-requires-clause-here : goal.class_of-requires-clause-here
class_of-requires-clause-here c = sym c.in_ok-rank.ensures ∙ c.in-Some.is
