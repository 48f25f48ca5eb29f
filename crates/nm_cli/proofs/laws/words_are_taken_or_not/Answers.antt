-- Words that are not taken.
use Rattle.nm_cli.proofs.DoneLemmas.{at_status, or_short}
use Rattle.nm_cli.proofs.EndLemmas.{not_taken_is, usage_is}
use Rattle.nm_cli.proofs.laws.words_are_taken_or_not.Goals as goal

pub returns-clause-usage : goal.returns-clause-usage
returns-clause-usage c e done two = at_status e 2 done two (λ other. cc) (λ a ends. usage_is e a ends two)

pub returns-clause-not_taken : goal.returns-clause-not_taken
returns-clause-not_taken c e done none = or_short e done (λ a ends. not_taken_is e a ends none)
