-- The law is a lemma.
use Rattle.nm_page.proofs.PageLemmas.{page-well_formed}
use Rattle.nm_page.proofs.laws.a_page_is_well_formed.Goals as goal

pub returns : goal.returns
returns c = page-well_formed
