-- The place of a name is read.
use Rattle.std.proofs.Common.{arith}
use Rattle.std.proofs.lemmas.Grind.{common_steps}
use Rattle.nm_process.specs.Sparse.{place_of_name}
use Rattle.nm_process.proofs.pages.Pages.get.Goals as goal

pub returns-in_default : goal.returns-in_default
unfolding place_of_name
returns-in_default c = rw (← c.self.view_is) (grind (arith, common_steps))

pub returns : goal.returns
unfolding place_of_name
returns c = rw (← c.self.view_is) (grind (arith, common_steps))
