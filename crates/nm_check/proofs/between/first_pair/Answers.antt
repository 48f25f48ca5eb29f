use Rattle.std.proofs.Common.{get_or, ◌≡◌, ◌≤◌, ℕ, length, sym, subst, arith}
use Rattle.std.proofs.lemmas.List.{get_or_default}
use Rattle.nm_history.specs.Quiescence.{EachRank}
use Rattle.nm_check.specs.CarriedClauses.{PairDelivered}
use Rattle.nm_check.specs.Marked.{BreaksPair}
use Rattle.nm_check.proofs.PairLemmas.{breaks_pair}
use Rattle.nm_check.proofs.RankLemmas.{all, next, none_yet}
use Rattle.nm_check.proofs.TableLemmas.{blank, some_history}
use Rattle.nm_check.proofs.between.first_pair.Goals as goal

pub loop-i-init : goal.loop-i-init
loop-i-init c = λ lines ranks marked. none_yet
    (λ i a. EachRank (λ j b. PairDelivered lines i j a.events b.events) ranks) ranks

pub loop-i-preserved : goal.loop-i-preserved
loop-i-preserved c = λ lines ranks marked.
    next (λ i a. EachRank (λ j b. PairDelivered lines i j a.events b.events) ranks) ranks c.loop-i.i
    (c.loop-i.invariant lines ranks marked)
    (some_history ranks c.loop-i.i (λ h. EachRank (λ j b. PairDelivered lines c.loop-i.i j h b.events) ranks)
    (c.in_default.ensures lines ranks
    (marked.each c.loop-i.i (get_or c.args.marks.now c.loop-i.i blank) c.loop-i-test.true
    (get_or_default c.args.marks.now c.loop-i.i blank (get_or c.args.marks.now c.loop-i.i blank) c.loop-i-test.true))
    marked))

pub returns-in-Some : goal.returns-in-Some
returns-in-Some c = λ lines ranks marked.
    let many : length c.args.marks.now ≡ length ranks = marked.as_many in
    let pair = c.in-Some.pair in
    let its = c.in-Some.ensures lines ranks
    (marked.each c.loop-i.i (get_or c.args.marks.now c.loop-i.i blank) c.loop-i-test.true
    (get_or_default c.args.marks.now c.loop-i.i blank (get_or c.args.marks.now c.loop-i.i blank)
    c.loop-i-test.true)) marked in
    subst (λ (i : ℕ). BreaksPair lines ranks i pair.to pair.first) (sym its.0)
    (breaks_pair lines ranks c.loop-i.i pair.to pair.first (omega (arith, many, c.loop-i-test.true))
    (c.loop-i.invariant lines ranks marked) its.1)

pub returns : goal.returns
returns c = λ lines ranks marked.
    let many : length c.args.marks.now ≡ length ranks = marked.as_many in
    let over : length c.args.marks.now ≤ c.loop-i.i = c.loop-i-test.false in
    all (λ i a. EachRank (λ j b. PairDelivered lines i j a.events b.events) ranks) ranks c.loop-i.i
    (omega (arith, many, over)) (c.loop-i.invariant lines ranks marked)
