use Rattle.std.proofs.Common.{◌<◌, length, sym, ap, ◌∙◌, arith}
use Rattle.std.proofs.lemmas.List.{length-map}
use Rattle.atomic_table.specs.Table.{turned}
use Rattle.nm_cells.proofs.HoldingLemmas.{turn_on}
use Rattle.nm_cells.proofs.slots.bring.Goals as goal

pub loop-i-preserved : goal.loop-i-preserved
loop-i-preserved g c = let h = c.loop-i.invariant in let e = c.turn.ensures in
    let s = sym (length-map c.args.seat.now.me.1 (λ x. x.0)) ∙ ap length c.requires.same in
    let t = c.loop-i-test.true in let b = c.in-Some.ensures.bound in let r = c.iter.ensures.len in
    let low : c.loop-i._i < length c.args.seat.now.me.1 = omega (arith, s, t, b, r) in (
      e.0 ∙ h.0,
      e.1 ∙ h.1,
      ap (λ m. m.0) e.2 ∙ h.2,
      ap (λ m. m.1) e.2 ∙ ap turned h.3
          ∙ turn_on c.args.seat.now.me.1 c.loop-i._i low,
    )
