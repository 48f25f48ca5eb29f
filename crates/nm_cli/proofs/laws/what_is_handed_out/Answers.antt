-- What is handed out.
use Rattle.nm_cli.proofs.DoneLemmas.{of_done}
use Rattle.nm_cli.proofs.EndLemmas.{no_record_is}
use Rattle.nm_cli.proofs.RunEnds.{no_run_is}
use Rattle.nm_cli.proofs.ThreadEnds.{no_log_is}
use Rattle.nm_cli.proofs.laws.what_is_handed_out.Goals as goal

pub returns-clause-no_record : goal.returns-clause-no_record
returns-clause-no_record c e done is =
    of_done e done (λ short. (short.no_run, short.no_ways, short.no_log)) (λ a ends. no_record_is e a ends is)

pub returns-clause-no_run : goal.returns-clause-no_run
returns-clause-no_run c e done line taken none =
    of_done e done (λ short. (short.no_run, short.no_ways)) (λ a ends. no_run_is e a ends line taken none)

pub returns-clause-no_log : goal.returns-clause-no_log
returns-clause-no_log c e done line taken none =
    of_done e done (λ short. short.no_log) (λ a ends. no_log_is e a ends line taken none)
