-- Plans, whose scripts are run.
use Rattle.nm_cli.proofs.DoneLemmas.{or_failed}
use Rattle.nm_cli.proofs.PlanEnds.{parts_is}
use Rattle.nm_cli.proofs.laws.plans_are_run.Goals as goal

pub returns : goal.returns
returns c = record {
  parts = λ e done line taken is.
      or_failed e done (λ a ends. parts_is c.receives_show_their_sends.ensures e a ends line taken is);
}
