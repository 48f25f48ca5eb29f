-- By the lemma on results.
use Rattle.nm_global.proofs.Results.{result_shows}
use Rattle.nm_global.proofs.log.laws.results.a_result_is_given.Goals as goal

pub returns : goal.returns
returns c = result_shows
