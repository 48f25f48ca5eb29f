use Rattle.std.proofs.Common.{ℕ}
use Rattle.std.proofs.lemmas.List.Elements.{All-more, All-nil}
use Rattle.nm_check_rank.specs.OwnClauses.{KeepsOwn, own_order}
use Rattle.nm_check_rank.specs.Runs.{commands_in}
use Rattle.nm_check_rank.specs.declared.clauses.OwnClause.{OwnClause}
use Rattle.nm_check_rank.specs.declared.clauses.OwnClause.TheVariants as own
use Rattle.nm_check_rank.specs.declared.paired.runs.Run.{Run}
use Rattle.nm_check_rank.proofs.OwnLemmas.{broken_next, kept_all}
use Rattle.nm_check_rank.proofs.paired.judging.first_broken.Goals as goal

abbrev Keeps : Run → ℕ → OwnClause → Type 0
Keeps run at d = KeepsOwn run.shape (commands_in run) at run.events.now d

pub loop-clause-init : goal.loop-clause-init
loop-clause-init c = All-nil (λ d. Keeps c.args.run.now c.args.at d)

pub loop-clause-preserved : goal.loop-clause-preserved
loop-clause-preserved c =
    All-more (λ d. Keeps c.args.run.now c.args.at d) c.order-clause-items.result.now c.loop-clause.clause-index
    own.Answers c.loop-clause-test.true c.loop-clause.invariant
    (rw c.if-not-keeps.false at c.keeps.ensures)

pub returns-then-not-keeps : goal.returns-then-not-keeps
returns-then-not-keeps c =
    broken_next (λ d. Keeps c.args.run.now c.args.at d) c.order-clause-items.result.now c.loop-clause.clause-index
    own.Answers c.loop-clause-test.true own_order c.order-clause-items.ensures c.loop-clause.invariant
    (rw c.if-not-keeps.true at c.keeps.ensures)

pub returns : goal.returns
returns c =
    kept_all (λ d. Keeps c.args.run.now c.args.at d) c.order-clause-items.result.now own_order
    c.loop-clause.clause-index
    c.order-clause-items.ensures c.loop-clause-test.false c.loop-clause.invariant
