-- One class more, and all of them.
use Rattle.std.proofs.Common.{ℕ, ◌∷◌, [], List, length, length-append, ◌∙◌, ap, arith}
use Rattle.nm_hangs.proofs.NotedLemmas.{class_next, classes_are}
use Rattle.nm_hangs.proofs.classes.classes_of.Goals as goal

pub loop-place-init : goal.loop-place-init
loop-place-init c = record {
  count = ap (λ (xs : List ℕ). length xs) c.in_ok-all.ensures.items;
  low = omega arith;
  alike = λ j low. absurd (omega (arith, low));
}

pub loop-place-preserved : goal.loop-place-preserved
loop-place-preserved c =
    let long = c.loop-place.invariant.count in
    let more = ap (λ (xs : List ℕ). length xs) c.in_ok-push.ensures.items
    ∙ length-append c.loop-place.all.items (c.in_ok-class.class ∷ []) in
    record {
      count = omega (arith, long, more);
      low = let test = c.loop-place-test.true in omega (arith, test);
      alike = class_next c.args.lines.now c.args.table.now c.args.ids.now c.loop-place.all.items c.push.new.self.items
          c.loop-place.place c.in_ok-class.class c.loop-place.invariant.count c.in_ok-push.ensures.items
          c.in_ok-class.ensures c.loop-place.invariant.alike;
    }

pub returns : goal.returns
returns c =
    let end = c.loop-place-test.false in
    let long = c.loop-place.invariant.count in
    let low = c.loop-place.invariant.low in
    classes_are c.args.lines.now c.args.table.now c.args.ids.now c.loop-place.all.items c.requires.low
    (omega (arith, end, long, low))
    (λ j below. c.loop-place.invariant.alike j (omega (arith, end, below)))
