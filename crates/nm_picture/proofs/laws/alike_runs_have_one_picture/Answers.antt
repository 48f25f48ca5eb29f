-- The laws are lemmas.
use Rattle.nm_picture.proofs.AlikeLemmas.{alike-part, alike-picture}
use Rattle.nm_picture.proofs.laws.alike_runs_have_one_picture.Goals as goal

pub returns-clause-whole : goal.returns-clause-whole
returns-clause-whole c = alike-picture

pub returns-clause-part : goal.returns-clause-part
returns-clause-part c = alike-part
