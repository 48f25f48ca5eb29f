use Rattle.std.proofs.Common.{◌≡◌, ℕ, ◌<◌, ◌+◌, List, length, take, get_or, refl, subst, arith}
use Rattle.std.specs.Prelude.{All}
use Rattle.std.proofs.lemmas.List.{take_all}
use Rattle.std.proofs.lemmas.List.Elements.{All-from_get_or, All-get_or}
use Rattle.std.proofs.lemmas.Option.{slice_get_read}
use Rattle.nm_history.specs.declared.events.Event.{Event}
use Rattle.nm_lookups.proofs.StepLemmas.{goes_on, none_yet}
use Rattle.nm_check_rank.specs.OwnBreaks.{KeepsSoFar, RuleAt}
use Rattle.nm_check_rank.specs.Runs.{commands_in}
use Rattle.nm_check_rank.specs.SoFar.{IsSoFar}
use Rattle.nm_check_rank.specs.declared.clauses.OwnClause.{OwnClause}
use Rattle.nm_check_rank.specs.declared.clauses.OwnClause.TheVariants as own
use Rattle.nm_check_rank.specs.declared.paired.runs.Run.{Run}
use Rattle.nm_check_rank.proofs.paired.walks.walk.Goals as goal

-- these events keep a rule, and an event does
abbrev Keeps : Run → List Event → OwnClause → Type 0
Keeps run g d = KeepsSoFar run.shape (commands_in run) d g

abbrev Rule : Run → OwnClause → List Event → Event → Type 0
Rule run d before e = RuleAt run.shape (commands_in run) d before e

pub loop-k-init : goal.loop-k-init
loop-k-init c =
    let run = c.args.run.now in
    let h = run.events.now in
    let rules = c.args.rules.now in (
      omega arith,
      c.none-so_far.ensures h,
      All-from_get_or (λ d. Keeps run (take 0 h) d) rules own.Answers
          (λ i low. none_yet (λ before e. Rule run (get_or rules i own.Answers) before e) h),
    )

pub first_against-requires-clause-here : goal.first_against-requires-clause-here
first_against-requires-clause-here c =
    let h = c.args.run.now.events.now in
    slice_get_read h (length h) c.loop-k.k c.index-events-k.result refl c.loop-k-test.true c.index-events-k.is

pub first_against-requires-clause-so_far : goal.first_against-requires-clause-so_far
first_against-requires-clause-so_far c = c.loop-k.invariant.1

pub first_against-requires-clause-kept : goal.first_against-requires-clause-kept
first_against-requires-clause-kept c = c.loop-k.invariant.2

pub loop-k-preserved : goal.loop-k-preserved
loop-k-preserved c =
    let run = c.args.run.now in
    let h = run.events.now in
    let rules = c.args.rules.now in
    let k = c.loop-k.k in
    let e = c.index-events-k.result in
    let inside : k < length h = c.loop-k-test.true in
    let is : e ≡ get_or h k e = c.index-events-k.is in (
      omega (arith, inside),
      c.after-so_far.ensures h (slice_get_read h (length h) k e refl inside is) (omega (arith, inside))
          c.loop-k.invariant.1,
      All-from_get_or (λ d. Keeps run (take (k + 1) h) d) rules own.Answers
          (λ i low. goes_on (λ before e. Rule run (get_or rules i own.Answers) before e) h k e inside is
          (All-get_or (λ d. Keeps run (take k h) d) rules i own.Answers low c.loop-k.invariant.2)
          (All-get_or (λ d. Rule run d (take k h) e) rules i own.Answers low c.in_default.ensures)),
    )

pub returns-in-Some : goal.returns-in-Some
returns-in-Some c =
    let h = c.args.run.now.events.now in
    let here = slice_get_read h (length h) c.loop-k.k c.index-events-k.result refl c.loop-k-test.true
    c.index-events-k.is in
    (c.loop-k.invariant.2, rw here c.in-Some.ensures)

pub returns : goal.returns
returns c =
    let run = c.args.run.now in
    let h = run.events.now in
    let k = c.loop-k.k in
    let over = c.loop-k-test.false in
    let inside = c.loop-k.invariant.0 in
    let all : k ≡ length h = omega (arith, over, inside) in (
      subst (λ (g : List Event). All (λ d. Keeps run g d) c.args.rules.now) (take_all k h over) c.loop-k.invariant.2,
      subst (λ (n : ℕ). IsSoFar h n c.loop-k.so_far) all c.loop-k.invariant.1,
    )
