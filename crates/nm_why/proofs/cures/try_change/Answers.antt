-- What is said of the lines after the change is said of the change.
use Rattle.std.proofs.lemmas.Result.{IfOk-weaker}
use Rattle.nm_why.specs.Cures.{IsTrial, IsTrialOf}
use Rattle.nm_why.proofs.CureLemmas.{no_cure, trial_some}
use Rattle.nm_why.proofs.cures.try_change.Goals as goal

pub returns-in-Some : goal.returns-in-Some
returns-in-Some g c =
    IfOk-weaker c.try_lines.result (IsTrialOf c.args.shape c.in-Some.others.items)
    (IsTrial c.args.shape c.args.lines.now c.args.change)
    (trial_some c.args.shape c.args.lines.now c.in-Some.others.items c.args.change
    (rw c.in-Some.is at c.in_ok-others.ensures))
    c.try_lines.ensures

pub returns-in-None : goal.returns-in-None
returns-in-None g c = no_cure c.args.shape c.args.lines.now c.args.change (rw c.in-None.is at c.in_ok-others.ensures)
