-- Bytes that spell no script.
use Rattle.std.proofs.Common.{inr}
use Rattle.nm_cli.proofs.DoneLemmas.{at_status, of_done}
use Rattle.nm_cli.proofs.RunEnds.{refused_is, refuses_is}
use Rattle.nm_types.proofs.OptionLemmas.{if_all as always}
use Rattle.nm_cli.proofs.laws.scripts_are_refused.Goals as goal

pub returns-clause-refused : goal.returns-clause-refused
returns-clause-refused c e done three =
    at_status e 3 done three (λ other. cc) (λ a ends. refused_is e a ends three)

pub returns-clause-refuses : goal.returns-clause-refuses
returns-clause-refuses c e done line taken reads =
    of_done e done (λ short. always e.input _ (λ bytes none. inr (inr (inr short.memory))))
    (λ a ends. refuses_is e a ends line taken reads)
