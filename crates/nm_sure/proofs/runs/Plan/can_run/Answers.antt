-- The next command of a rank is one of a line.
use Rattle.std.proofs.Common.{ℕ, List, ap, sym, ◌∙◌}
use Rattle.nm_sure.specs.PlainText.{waits_at}
use Rattle.nm_sure.proofs.Running.{next_number}
use Rattle.nm_sure.proofs.runs.Plan.can_run.Goals as goal

pub goes_on-requires-clause-line : goal.goes_on-requires-clause-line
goes_on-requires-clause-line c =
    next_number c.args.self.now.lines.now c.args.self.now.ranks.items _ _ c.args.self.now.right
    c.args.reached.now.at.items c.args.rank
    c.in-Some.number
    (ap (λ (at : List ℕ). waits_at c.args.self.now.lines.now at c.args.rank) (sym c.as_slice.ensures.value)
    ∙ sym c.next.ensures ∙ c.in-Some.is)
