use Rattle.std.proofs.Common.{◌≡◌, ◌∙◌, refl}
use Rattle.nm_cells.specs.Ports.{Stays, holding}
use Rattle.nm_cells.proofs.StayLemmas.{heads_owns, heads_holds, missed_owns, missed_holds}
use Rattle.nm_cells.proofs.consume.load_head_of.Goals.{then-this-ne0+then-found-eq0, then-this-ne0+else-found-eq0}
use Rattle.nm_cells.proofs.consume.load_head_of.Goals.{else-this-ne0+then-found-eq0-2, else-this-ne0+else-found-eq0-2}
use Rattle.std.proofs.Common.{sym, subst}
use Rattle.std.proofs.Common.{◌<◌, arith}
use Rattle.nm_chain.proofs.ConsumerLemmas.{note_allowed}
use Rattle.nm_cells.specs.AtWork.{HoldsBoxes}
use Rattle.nm_chain.specs.Plays.{Knowing, mine}
use Rattle.nm_cells.proofs.BoxPortLemmas.{boxes_heads}
use Rattle.nm_cells.specs.LooseCells.{AreKept}
use Rattle.nm_cells.proofs.LooseLemmas.{kept_heads}
use Rattle.nm_cells.proofs.consume.load_head_of.Goals as goal

pub load-found-requires : goal.load-found-requires
load-found-requires g c = let f = c.args.f.now in let p = c.args.port.now in let z = f.sizes.0 in
    let w = c.own_queue.ensures in let fits = w.fits in
    let low : c.own_queue.result < f.board.shared.table_id.words = omega arith in rw c.head_word-word.ensures (
      c.requires.owns.0,
      low,
      note_allowed _ f.board.shared.key f.ranks f.board.shared.table_id.slots p.seat.id p.seat.me
          p.alone f.shape.0 p.rank p.named c.requires.owns.1 _ c.own_queue.result w.own,
    )

pub invariant_of-port-clause-boxes : goal.invariant_of-port-clause-boxes
invariant_of-port-clause-boxes g c = let p = c.args.port.now in
    subst (λ (m : Knowing _). HoldsBoxes (mine m) m.1) (sym (c.load-found.ensures.2.2 c.if-found-eq0.true))
    (boxes_heads _ _ (mine p.seat.me) p.seat.me.1 p.boxes)

pub invariant_of-port-else-found-eq0-clause-boxes : goal.invariant_of-port-else-found-eq0-clause-boxes
invariant_of-port-else-found-eq0-clause-boxes g c = let p = c.args.port.now in
    subst (λ (m : Knowing _). HoldsBoxes (mine m) m.1)
    (sym (c.load-found.ensures.2.3 (let some = c.if-found-eq0.false in omega arith)))
    (boxes_heads _ _ (mine p.seat.me) p.seat.me.1 p.boxes)

pub invariant_of-port-then-found-eq0-2-clause-boxes : goal.invariant_of-port-then-found-eq0-2-clause-boxes
invariant_of-port-then-found-eq0-2-clause-boxes g c = let p = c.args.port.now in
    subst (λ (m : Knowing _). HoldsBoxes (mine m) m.1) (sym (c.load-found.ensures.2.2 c.if-found-eq0-2.true))
    (boxes_heads _ _ (mine p.seat.me) p.seat.me.1 p.boxes)

pub invariant_of-port-else-found-eq0-2-clause-boxes : goal.invariant_of-port-else-found-eq0-2-clause-boxes
invariant_of-port-else-found-eq0-2-clause-boxes g c = let p = c.args.port.now in
    subst (λ (m : Knowing _). HoldsBoxes (mine m) m.1)
    (sym (c.load-found.ensures.2.3 (let some = c.if-found-eq0-2.false in omega arith)))
    (boxes_heads _ _ (mine p.seat.me) p.seat.me.1 p.boxes)

pub invariant_of-port-clause-kept : goal.invariant_of-port-clause-kept
invariant_of-port-clause-kept g c = let p = c.args.port.now in
    subst (λ (m : Knowing _). AreKept p.loose (mine m) m.1)
    (sym (c.load-found.ensures.2.2 c.if-found-eq0.true))
    (kept_heads p.loose (mine p.seat.me) p.seat.me.1 p.kept _ _)

pub invariant_of-port-else-found-eq0-clause-kept : goal.invariant_of-port-else-found-eq0-clause-kept
invariant_of-port-else-found-eq0-clause-kept g c = let p = c.args.port.now in
    subst (λ (m : Knowing _). AreKept p.loose (mine m) m.1)
    (sym (c.load-found.ensures.2.3 (let some = c.if-found-eq0.false in omega arith)))
    (kept_heads p.loose (mine p.seat.me) p.seat.me.1 p.kept _ _)

pub invariant_of-port-then-found-eq0-2-clause-kept : goal.invariant_of-port-then-found-eq0-2-clause-kept
invariant_of-port-then-found-eq0-2-clause-kept g c = let p = c.args.port.now in
    subst (λ (m : Knowing _). AreKept p.loose (mine m) m.1)
    (sym (c.load-found.ensures.2.2 c.if-found-eq0-2.true))
    (kept_heads p.loose (mine p.seat.me) p.seat.me.1 p.kept _ _)

pub invariant_of-port-else-found-eq0-2-clause-kept : goal.invariant_of-port-else-found-eq0-2-clause-kept
invariant_of-port-else-found-eq0-2-clause-kept g c = let p = c.args.port.now in
    subst (λ (m : Knowing _). AreKept p.loose (mine m) m.1)
    (sym (c.load-found.ensures.2.3 (let some = c.if-found-eq0-2.false in omega arith)))
    (kept_heads p.loose (mine p.seat.me) p.seat.me.1 p.kept _ _)

pub returns-clause-stays : goal.returns-clause-stays
returns-clause-stays g c = let f = c.args.f.now in let p = c.args.port.now in
    let o = c.requires.owns in let table = c.load-found.ensures.0 ∙ o.0 in
    let after = c.load-found.new.seat.me in elim c.if-this-ne0.branch [
      | then-this-ne0+then-found-eq0 w ↦ subst (λ k. Stays f p k) (sym w.port-is) (
        missed_owns f p o after table _ _ _ (c.load-found.ensures.2.2 w.if-found-eq0.true),
        refl,
        (refl, refl, refl),
        refl,
      )
      | then-this-ne0+else-found-eq0 w ↦ subst (λ k. Stays f p k) (sym w.port-is) (
        heads_owns f p o after table _ _ (c.load-found.ensures.2.3 (let some = w.if-found-eq0.false in omega arith)),
        refl,
        (refl, refl, refl),
        refl,
      )
      | else-this-ne0+then-found-eq0-2 w ↦ subst (λ k. Stays f p k) (sym w.port-is) (
        missed_owns f p o after table _ _ _ (c.load-found.ensures.2.2 w.if-found-eq0-2.true),
        refl,
        (refl, refl, refl),
        refl,
      )
      | else-this-ne0+else-found-eq0-2 w ↦ subst (λ k. Stays f p k) (sym w.port-is) (
        heads_owns f p o after table _ _ (c.load-found.ensures.2.3 (let some = w.if-found-eq0-2.false in omega arith)),
        refl,
        (refl, refl, refl),
        refl,
      )
    ]

pub returns-clause-hands : goal.returns-clause-hands
returns-clause-hands g c = let f = c.args.f.now in let p = c.args.port.now in
    let o = c.requires.owns in let after = c.load-found.new.seat.me in elim c.if-this-ne0.branch [
      | then-this-ne0+then-found-eq0 w ↦ subst (λ k. (k.hands ≡ p.hands) × (holding k ≡ holding p)) (sym w.port-is) (
        refl,
        missed_holds f p o after _ _ _ (c.load-found.ensures.2.2 w.if-found-eq0.true),
      )
      | then-this-ne0+else-found-eq0 w ↦ subst (λ k. (k.hands ≡ p.hands) × (holding k ≡ holding p)) (sym w.port-is) (
        refl,
        heads_holds f p o after _ _ (c.load-found.ensures.2.3 (let some = w.if-found-eq0.false in omega arith)),
      )
      | else-this-ne0+then-found-eq0-2 w ↦ subst (λ k. (k.hands ≡ p.hands) × (holding k ≡ holding p)) (sym w.port-is) (
        refl,
        missed_holds f p o after _ _ _ (c.load-found.ensures.2.2 w.if-found-eq0-2.true),
      )
      | else-this-ne0+else-found-eq0-2 w ↦ subst (λ k. (k.hands ≡ p.hands) × (holding k ≡ holding p)) (sym w.port-is) (
        refl,
        heads_holds f p o after _ _ (c.load-found.ensures.2.3 (let some = w.if-found-eq0-2.false in omega arith)),
      )
    ]
