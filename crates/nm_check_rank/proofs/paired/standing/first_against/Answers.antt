use Rattle.std.proofs.Common.{ℕ, take, refl}
use Rattle.std.proofs.lemmas.List.Elements.{All-get_or, All-more, All-nil}
use Rattle.nm_history.specs.declared.events.Event.{Event}
use Rattle.nm_check_rank.specs.OwnBreaks.{KeepsSoFar, RuleAt}
use Rattle.nm_check_rank.specs.Runs.{commands_in}
use Rattle.nm_check_rank.specs.declared.clauses.OwnClause.{OwnClause}
use Rattle.nm_check_rank.specs.declared.clauses.OwnClause.TheVariants as own
use Rattle.nm_check_rank.specs.declared.paired.runs.Run.{Run}
use Rattle.nm_check_rank.proofs.OwnLemmas.{broken_next, kept_all}
use Rattle.nm_check_rank.proofs.paired.standing.first_against.Goals as goal

-- the event at a place keeps a rule
abbrev Keeps : Run → ℕ → Event → OwnClause → Type 0
Keeps run k e d = RuleAt run.shape (commands_in run) d (take k run.events.now) e

pub loop-clause-init : goal.loop-clause-init
loop-clause-init c = All-nil (λ d. Keeps c.args.run.now c.args.k c.args.e.now d)

pub stands_against-requires-clause-kept : goal.stands_against-requires-clause-kept
stands_against-requires-clause-kept c =
    let run = c.args.run.now in
    All-get_or (λ d. KeepsSoFar run.shape (commands_in run) d (take c.args.k run.events.now)) c.args.rules.now
    c.loop-clause.clause-index own.Answers c.loop-clause-test.true c.requires.kept

pub loop-clause-preserved : goal.loop-clause-preserved
loop-clause-preserved c =
    All-more (λ d. Keeps c.args.run.now c.args.k c.args.e.now d) c.args.rules.now c.loop-clause.clause-index
    own.Answers c.loop-clause-test.true c.loop-clause.invariant c.in_default.ensures

pub returns-in-Some : goal.returns-in-Some
returns-in-Some c = (
  broken_next (λ d. Keeps c.args.run.now c.args.k c.args.e.now d) c.args.rules.now c.loop-clause.clause-index
      own.Answers c.loop-clause-test.true c.args.rules.now refl c.loop-clause.invariant c.in-Some.ensures.0,
  c.in-Some.ensures.1,
)

pub returns : goal.returns
returns c =
    kept_all (λ d. Keeps c.args.run.now c.args.k c.args.e.now d) c.args.rules.now c.args.rules.now
    c.loop-clause.clause-index refl c.loop-clause-test.false c.loop-clause.invariant
