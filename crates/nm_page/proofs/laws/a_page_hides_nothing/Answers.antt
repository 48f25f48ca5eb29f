-- The law is a lemma.
use Rattle.nm_page.proofs.PageLemmas.{style-hides_nothing}
use Rattle.nm_page.proofs.laws.a_page_hides_nothing.Goals as goal

pub returns : goal.returns
returns c = style-hides_nothing
