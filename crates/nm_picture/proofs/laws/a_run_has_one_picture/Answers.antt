-- The law is a lemma.
use Rattle.nm_picture.proofs.AlikeLemmas.{one-picture}
use Rattle.nm_picture.proofs.laws.a_run_has_one_picture.Goals as goal

pub returns : goal.returns
returns c = one-picture
