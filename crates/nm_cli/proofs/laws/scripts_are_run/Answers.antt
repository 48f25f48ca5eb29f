-- Scripts that are run.
use Rattle.std.proofs.Common.{inl}
use Rattle.nm_cli.proofs.DoneLemmas.{of_done, or_failed, or_short}
use Rattle.nm_cli.proofs.RunEnds.{completes_is, ended_is, made_is, reports_is}
use Rattle.nm_cli.proofs.laws.scripts_are_run.Goals as goal

pub returns-clause-reports : goal.returns-clause-reports
returns-clause-reports c e done line taken runs ranks lines known =
    or_failed e done (λ a ends. reports_is e a ends line taken runs ranks lines known)

pub returns-clause-completes : goal.returns-clause-completes
returns-clause-completes c e done line taken runs ranks lines known read write =
    of_done e done (λ short. inl short.memory)
    (λ a ends. completes_is e a ends line taken runs ranks lines known read write)

pub returns-clause-ended : goal.returns-clause-ended
returns-clause-ended c e done line taken runs = or_failed e done (λ a ends. ended_is e a ends line taken runs)

pub returns-clause-made : goal.returns-clause-made
returns-clause-made c e done line taken makes = or_short e done (λ a ends. made_is e a ends line taken makes)
