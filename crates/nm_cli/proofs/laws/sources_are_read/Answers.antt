-- What is read of a source.
use Rattle.nm_cli.proofs.DoneLemmas.{or_failed}
use Rattle.nm_cli.proofs.EndLemmas.{unless_unread}
use Rattle.nm_cli.proofs.laws.sources_are_read.Goals as goal

pub returns-clause-read : goal.returns-clause-read
returns-clause-read c e done line taken reads =
    or_failed e done (λ a ends. unless_unread e a ends (λ was. ends.read.whole was line taken reads))

pub returns-clause-quiet : goal.returns-clause-quiet
returns-clause-quiet c e done = or_failed e done (λ a ends. unless_unread e a ends ends.read.quiet)
