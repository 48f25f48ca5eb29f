use Rattle.std.proofs.Common.{◌≡◌, ◌<◌, arith, sym, subst, List, length, take, get_or}
use Rattle.std.proofs.lemmas.List.{length-take-le, take_all}
use Rattle.nm_history.specs.declared.events.Event.{Event}
use Rattle.nm_check_rank.specs.Counted.{AreCounted}
use Rattle.nm_check_rank.proofs.numbers.counted.Goals as goal
use Rattle.nm_types.proofs.ListLemmas.{take_next}

pub loop-e-init : goal.loop-e-init
loop-e-init c = c.none-counts.ensures

pub loop-e-preserved : goal.loop-e-preserved
loop-e-preserved c =
    let h = c.args.events.now in
    let k = c.loop-e.e-index in
    let e = c.e-item.result in
    let inside : k < length h = c.loop-e-test.true in
    let is : e ≡ get_or h k e = c.e-item.is in
    let front : length (take k h) ≡ k = length-take-le k h (omega (arith, inside)) in
    subst (λ (g : List Event). AreCounted g c.add.new.self) (sym (take_next h k e inside is))
    (c.add.ensures (take k h) e.stamp (omega (arith, front, inside)) c.loop-e.invariant)

pub returns : goal.returns
returns c =
    subst (λ (g : List Event). AreCounted g c.loop-e.counts)
    (take_all c.loop-e.e-index c.args.events.now c.loop-e-test.false) c.loop-e.invariant
