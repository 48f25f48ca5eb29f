-- The law is a lemma.
use Rattle.nm_page.proofs.PageLemmas.{one-page}
use Rattle.nm_page.proofs.laws.a_run_has_one_page.Goals as goal

pub returns : goal.returns
returns c = one-page
