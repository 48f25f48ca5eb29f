use Rattle.nm_check_rank.proofs.MismatchLemmas.{mismatch_behind, mismatch_here}
use Rattle.nm_check_rank.proofs.paired.arguments.before_others.Goals as goal

pub returns-then-is_same_argument : goal.returns-then-is_same_argument
returns-then-is_same_argument c = λ xs ys others.
    mismatch_behind c.args.called c.args.found xs ys c.args.others
    (rw c.if-is_same_argument.true at c.is_same_argument.ensures) others

pub returns-else-is_same_argument : goal.returns-else-is_same_argument
returns-else-is_same_argument c = λ xs ys others.
    mismatch_here c.args.called c.args.found xs ys (rw c.if-is_same_argument.false at c.is_same_argument.ensures)
