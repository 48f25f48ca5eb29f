use Rattle.std.proofs.Common.{◌≡◌, ◌/◌, sym, ap, ◌∙◌, arith}
use Rattle.std.proofs.Common.{get_or-set_other}
use Rattle.nm_chain.specs.declared.table.table.Hand.TheVariants.{Away, Held}
use Rattle.nm_chain.specs.Rule.{hand}
use Rattle.nm_chain.specs.Plays.{with_hand}
use Rattle.nm_cells.specs.Ports.{knows}
use Rattle.nm_cells.proofs.BeginLemmas.{row_of, in_row, row_low, fresh_then}
use Rattle.nm_cells.proofs.build.loosen.Goals as goal

pub loop-cell-init : goal.loop-cell-init
loop-cell-init g c = let q = c.requires in let e = q.first.1 in (
  q.fresh.0,
  q.fresh.1,
  q.first.0,
  (omega arith),
  (λ d low own far. q.untouched d low own),
)

pub pick_up-requires-clause-owns : goal.pick_up-requires-clause-owns
pick_up-requires-clause-owns g c = c.loop-cell.invariant.0.0

pub pick_up-requires-clause-low : goal.pick_up-requires-clause-low
pick_up-requires-clause-low g c = let f = c.args.f.now in let h = c.loop-cell.invariant in
    let e = h.3 in let t = c.loop-cell-test.true in
    row_low f.ranks f.each c.args.port.now.rank _ c.requires.fresh.0.0.1 (omega arith)

pub pick_up-requires-clause-own : goal.pick_up-requires-clause-own
pick_up-requires-clause-own g c = let f = c.args.f.now in let h = c.loop-cell.invariant in
    let e = h.3 in let t = c.loop-cell-test.true in
    in_row f.each c.args.port.now.rank _ (omega arith) (omega arith) ∙ sym h.0.1

pub pick_up-requires-clause-untouched : goal.pick_up-requires-clause-untouched
pick_up-requires-clause-untouched g c = let f = c.args.f.now in let h = c.loop-cell.invariant in
    let e = h.3 in let t = c.loop-cell-test.true in
    h.4 _ (row_low f.ranks f.each c.args.port.now.rank _ c.requires.fresh.0.0.1 (omega arith))
    (in_row f.each c.args.port.now.rank _ (omega arith) (omega arith)) (omega arith)

pub loop-cell-preserved : goal.loop-cell-preserved
loop-cell-preserved g c = let f = c.args.f.now in let h = c.loop-cell.invariant in
    let e = h.3 in let t = c.loop-cell-test.true in let a = c.pick_up.ensures in
    let p = c.loop-cell.port in let r = c.args.port.now.rank in let k = p.loose.end in
    let own : k / f.each ≡ r = in_row f.each r k (omega arith) (omega arith) in
    let next = a.loose.1 in (
      fresh_then f p c.pick_up.new.port r k Held h.0 a.owns.0 a.owns.1 own
          (a.picked ∙ ap (with_hand k Held) h.0.2) (λ i. ap (λ g. g i) a.owns.2.0) a.owns.2.1
          a.owns.2.2,
      a.hands ∙ h.1,
      a.loose.0 ∙ h.2,
      (omega arith),
      (λ d low of_r far. ap (λ u. hand u d) a.picked
          ∙ get_or-set_other (knows p).hands k d Held Away (λ u. absurd (omega arith))
          ∙ h.4 d low of_r (omega arith)),
    )

pub returns : goal.returns
returns g c = let f = c.args.f.now in let h = c.loop-cell.invariant in
    let e = h.3 in let s = h.2 in let t = c.loop-cell-test.false in let some = f.small.1 in
    let r = c.args.port.now.rank in (
      h.0,
      h.1,
      (λ d low. (
        (λ i. let i₀ = i.0 in let i₁ = i.1 in in_row f.each r d (omega arith) (omega arith)),
        (λ own. let z = row_of f.each r d some own in let z₀ = z.0 in let z₁ = z.1 in
            (omega arith, omega arith)),
      )),
    )
