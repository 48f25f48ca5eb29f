-- Scripts that are plain, or not.
use Rattle.nm_cli.proofs.DoneLemmas.{or_failed}
use Rattle.nm_cli.proofs.PlainEnds.{plain_is}
use Rattle.nm_cli.proofs.laws.plain_scripts_are_worked_out.Goals as goal

pub returns : goal.returns
returns c = record { plain = λ e done line taken is. or_failed e done (λ a ends. plain_is e a ends line taken is) }
