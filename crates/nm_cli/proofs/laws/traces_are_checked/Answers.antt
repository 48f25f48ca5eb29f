-- Scripts with their traces.
use Rattle.nm_cli.proofs.CheckEnds.{check_is, holds_is}
use Rattle.nm_cli.proofs.DoneLemmas.{or_failed}
use Rattle.nm_cli.proofs.laws.traces_are_checked.Goals as goal

pub returns-clause-check : goal.returns-clause-check
returns-clause-check c e done line taken is = or_failed e done (λ a ends. check_is e a ends line taken is)

pub returns-clause-holds : goal.returns-clause-holds
returns-clause-holds c e done line taken is written =
    or_failed e done (λ a ends. holds_is e a ends line taken is written)
