use Rattle.std.proofs.Common.{◌≡◌, ◌<◌, arith, sym, ◌∙◌, subst, List, length, take, get_or}
use Rattle.std.proofs.lemmas.List.{length-take-le, take_all}
use Rattle.nm_history.specs.declared.events.Event.{Event}
use Rattle.nm_history.specs.RankRun.{Always, NumberAt}
use Rattle.nm_check_rank.specs.Counted.{AreCounted}
use Rattle.nm_lookups.proofs.StepLemmas.{goes_on, none_yet}
use Rattle.nm_check_rank.proofs.BreakLemmas.{breaks_first}
use Rattle.nm_check_rank.proofs.numbers.first_number.Goals as goal
use Rattle.nm_types.proofs.ListLemmas.{take_next}

pub loop-k-init : goal.loop-k-init
loop-k-init c = (c.none-counts.ensures, none_yet (λ before e. NumberAt c.args.ranks before e.what) c.args.events.now)

pub loop-k-preserved : goal.loop-k-preserved
loop-k-preserved c =
    let h = c.args.events.now in
    let k = c.loop-k.k in
    let e = c.index-events-k.result in
    let inside : k < length h = c.loop-k-test.true in
    let is : e ≡ get_or h k e = c.index-events-k.is in
    let front : length (take k h) ≡ k = length-take-le k h (omega (arith, inside)) in (
      subst (λ (g : List Event). AreCounted g c.add.new.self) (sym (take_next h k e inside is))
          (c.add.ensures (take k h) e.stamp (omega (arith, front, inside)) c.loop-k.invariant.0),
      goes_on (λ before e. NumberAt c.args.ranks before e.what) h k e inside is c.loop-k.invariant.1
          (rw c.if-not-is_next.false at (c.is_next.ensures (take k h) c.loop-k.invariant.0)),
    )

pub returns-then-not-is_next : goal.returns-then-not-is_next
returns-then-not-is_next c =
    let inside = c.loop-k-test.true in
    record {
      inside = omega (arith, inside);
      kept = c.loop-k.invariant.1;
      broken = λ low. breaks_first (λ before e. NumberAt c.args.ranks before e.what) c.args.events.now c.loop-k.k
          c.index-events-k.result inside c.index-events-k.is c.loop-k.invariant.1
          (rw c.if-not-is_next.true at (c.is_next.ensures (take c.loop-k.k c.args.events.now) c.loop-k.invariant.0));
    }

pub returns : goal.returns
returns c =
    let h = c.args.events.now in
    record {
      inside = omega arith;
      kept = subst (λ (g : List Event). Always (NumberAt c.args.ranks) g)
          (take_all c.loop-k.k h c.loop-k-test.false ∙ sym (take_all (length h) h (omega arith))) c.loop-k.invariant.1;
      broken = λ low. absurd (omega (arith, low));
    }
