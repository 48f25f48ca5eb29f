-- The law is a lemma, by the laws below.
use Rattle.nm_report.proofs.FitLemmas.{counts_fit}
use Rattle.nm_report.proofs.laws.summaries_fit.Goals as goal

pub returns : goal.returns
returns c = counts_fit c.bodies_have_their_length.ensures c.matched_pairs_have_receives.ensures
