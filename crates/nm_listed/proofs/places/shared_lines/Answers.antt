-- Lines that both texts begin with, counted up to where they part.
use Rattle.std.proofs.Common.{◌≡◌, ℕ, ◌+◌, ◌≤◌, arith, drop, sym, subst}
use Rattle.nm_listed.proofs.PlaceLemmas.{feed_step, most_counted, other_step, share_counted, shared, shared_apart}
use Rattle.nm_listed.proofs.PlaceLemmas.{shared_end, shared_over}
use Rattle.nm_listed.proofs.places.shared_lines.Goals as goal
use Rattle.nm_listed.proofs.places.shared_lines.Goals.{then-at-other-via-then-at-other, then-byte-eq10, else-byte-eq10}
use Rattle.nm_listed.proofs.places.shared_lines.Goals.{then-at-other-via-else-at-other+then-byte-other}

pub returns-then-at-other-clause-share : goal.returns-then-at-other-clause-share
returns-then-at-other-clause-share c =
    let none : shared (drop c.loop-at.at c.args.text.now) (drop c.loop-at.at c.args.other.now) ≡ 0 =
    elim c.then-at-other.branch [
      | then-at-other-via-then-at-other w ↦
          shared_end (drop c.loop-at.at c.args.text.now) c.args.other.now c.loop-at.at w.if-at-other.true
      | then-at-other-via-else-at-other+then-byte-other w ↦
          shared_apart c.args.text.now c.args.other.now c.loop-at.at _ _ c.loop-at-test.true w.if-at-other.false
          w.if-byte-other.true
    ] in
    share_counted c.args.text.now c.args.other.now c.loop-at.at c.loop-at.lines c.loop-at.invariant.1 none

pub returns-then-at-other-clause-most : goal.returns-then-at-other-clause-most
returns-then-at-other-clause-most c =
    let none : shared (drop c.loop-at.at c.args.text.now) (drop c.loop-at.at c.args.other.now) ≡ 0 =
    elim c.then-at-other.branch [
      | then-at-other-via-then-at-other w ↦
          shared_end (drop c.loop-at.at c.args.text.now) c.args.other.now c.loop-at.at w.if-at-other.true
      | then-at-other-via-else-at-other+then-byte-other w ↦
          shared_apart c.args.text.now c.args.other.now c.loop-at.at _ _ c.loop-at-test.true w.if-at-other.false
          w.if-byte-other.true
    ] in
    most_counted c.args.text.now c.args.other.now c.loop-at.at c.loop-at.lines c.loop-at.invariant.1 none

pub loop-at-preserved : goal.loop-at-preserved
loop-at-preserved c =
    elim c.if-byte-eq10.branch [
      | then-byte-eq10 w ↦
          subst (λ (n : ℕ). (n ≤ c.loop-at.at + 1) × (n + shared (drop (c.loop-at.at + 1) c.args.text.now)
          (drop (c.loop-at.at + 1) c.args.other.now) ≡ shared c.args.text.now c.args.other.now)) (sym w.lines-is) (
            omega (arith, c.loop-at.invariant.0),
            feed_step c.args.text.now c.args.other.now c.loop-at.at _ _
                c.loop-at.lines (shared c.args.text.now c.args.other.now) c.loop-at-test.true c.if-at-other.false
                c.if-byte-other.false w.if-byte-eq10.true c.loop-at.invariant.1,
          )
      | else-byte-eq10 w ↦
          subst (λ (n : ℕ). (n ≤ c.loop-at.at + 1) × (n + shared (drop (c.loop-at.at + 1) c.args.text.now)
          (drop (c.loop-at.at + 1) c.args.other.now) ≡ shared c.args.text.now c.args.other.now)) (sym w.lines-is) (
            omega (arith, c.loop-at.invariant.0),
            other_step c.args.text.now c.args.other.now c.loop-at.at _ _
                c.loop-at.lines (shared c.args.text.now c.args.other.now) c.loop-at-test.true c.if-at-other.false
                c.if-byte-other.false w.if-byte-eq10.false c.loop-at.invariant.1,
          )
    ]

pub returns-clause-share : goal.returns-clause-share
returns-clause-share c =
    share_counted c.args.text.now c.args.other.now c.loop-at.at c.loop-at.lines c.loop-at.invariant.1
    (shared_over c.args.text.now (drop c.loop-at.at c.args.other.now) c.loop-at.at c.loop-at-test.false)

pub returns-clause-most : goal.returns-clause-most
returns-clause-most c =
    most_counted c.args.text.now c.args.other.now c.loop-at.at c.loop-at.lines c.loop-at.invariant.1
    (shared_over c.args.text.now (drop c.loop-at.at c.args.other.now) c.loop-at.at c.loop-at-test.false)
