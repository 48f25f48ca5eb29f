-- The law is a lemma.
use Rattle.nm_persist.proofs.Single.{one_other}
use Rattle.nm_persist.proofs.runs.other_ends_are_one.Goals as goal

pub returns : goal.returns
returns c = one_other
