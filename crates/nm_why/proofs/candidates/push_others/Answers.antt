-- Both are added, one after the other.
use Rattle.nm_why.specs.declared.changes.Change.TheVariants.{Swapped}
use Rattle.nm_why.proofs.candidates.push_others.Goals as goal

pub returns-clause-kept : goal.returns-clause-kept
returns-clause-kept c = λ x at. c.in_ok-push_absence.ensures.kept x (c.in_ok-push_swap.ensures.kept x at)

pub returns-clause-swapped : goal.returns-clause-swapped
returns-clause-swapped c = λ other next.
    c.in_ok-push_absence.ensures.kept (Swapped c.args.place other)
    (c.in_ok-push_swap.ensures.swapped other (c.next_of.ensures other next))

pub returns-clause-left_out : goal.returns-clause-left_out
returns-clause-left_out c = c.in_ok-push_absence.ensures.left_out
