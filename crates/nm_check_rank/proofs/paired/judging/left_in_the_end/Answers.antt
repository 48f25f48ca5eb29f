use Rattle.std.proofs.Common.{refl}
use Rattle.std.proofs.lemmas.List.Elements.{All-more, All-nil}
use Rattle.nm_check_rank.specs.OwnBreaks.{KeepsInTheEnd}
use Rattle.nm_check_rank.specs.OwnClauses.{own_order}
use Rattle.nm_check_rank.specs.declared.clauses.OwnClause.TheVariants as own
use Rattle.nm_check_rank.proofs.OwnLemmas.{broken_next, each_rule, kept_all, run_of, whole_of}
use Rattle.nm_check_rank.proofs.paired.judging.left_in_the_end.Goals as goal

pub loop-clause-init : goal.loop-clause-init
loop-clause-init c = λ h so_far. All-nil (λ d. KeepsInTheEnd c.args.at d h)

pub loop-clause-preserved : goal.loop-clause-preserved
loop-clause-preserved c =
    λ h so_far. All-more (λ d. KeepsInTheEnd c.args.at d h) c.order-clause-items.result.now
    c.loop-clause.clause-index own.Answers c.loop-clause-test.true
    (c.loop-clause.invariant h so_far) (rw c.if-not-is_over.false at (c.is_over.ensures h so_far))

pub returns-then-not-is_over : goal.returns-then-not-is_over
returns-then-not-is_over c = λ shape commands h so_far kept. (
  kept,
  broken_next (λ d. KeepsInTheEnd c.args.at d h) c.order-clause-items.result.now c.loop-clause.clause-index
      own.Answers c.loop-clause-test.true own_order c.order-clause-items.ensures (c.loop-clause.invariant h so_far)
      (rw c.if-not-is_over.true at (c.is_over.ensures h so_far)),
  refl,
)

pub returns : goal.returns
returns c = λ shape commands h so_far kept.
    run_of shape commands c.args.at h
    (λ d. whole_of shape commands c.args.at h d (kept d)
    (each_rule (λ d. KeepsInTheEnd c.args.at d h)
    (kept_all (λ d. KeepsInTheEnd c.args.at d h) c.order-clause-items.result.now own_order c.loop-clause.clause-index
    c.order-clause-items.ensures c.loop-clause-test.false (c.loop-clause.invariant h so_far)) d))
