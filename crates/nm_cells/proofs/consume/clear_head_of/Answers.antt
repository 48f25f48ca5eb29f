use Rattle.std.proofs.Common.{◌∙◌, ap, refl}
use Rattle.std.proofs.Common.{sym, subst}
use Rattle.std.proofs.Common.{◌<◌, arith}
use Rattle.nm_chain.proofs.ConsumerLemmas.{hide_allowed}
use Rattle.nm_cells.specs.AtWork.{HoldsBoxes}
use Rattle.nm_chain.specs.Plays.{Knowing, mine}
use Rattle.nm_cells.proofs.BoxPortLemmas.{boxes_heads}
use Rattle.nm_cells.proofs.StayLemmas.{heads_owns, heads_holds}
use Rattle.nm_cells.specs.LooseCells.{AreKept}
use Rattle.nm_cells.proofs.LooseLemmas.{kept_heads}
use Rattle.nm_cells.proofs.consume.clear_head_of.Goals as goal

pub store-requires : goal.store-requires
store-requires g c = let f = c.args.f.now in let p = c.args.port.now in let z = f.sizes.0 in
    let w = c.own_queue.ensures in let fits = w.fits in let some = c.requires.loaded in
    let low : c.own_queue.result < f.board.shared.table_id.words = omega arith in rw c.head_word-word.ensures (
      c.requires.owns.0,
      low,
      hide_allowed _ f.board.shared.key f.ranks f.board.shared.table_id.slots p.seat.id p.seat.me
          p.alone f.shape.0 p.rank p.named c.requires.owns.1 _ c.own_queue.result w.own some,
    )

pub invariant_of-port-clause-boxes : goal.invariant_of-port-clause-boxes
invariant_of-port-clause-boxes g c = let p = c.args.port.now in
    subst (λ (m : Knowing _). HoldsBoxes (mine m) m.1) (sym c.store.ensures.2.1)
    (boxes_heads _ _ (mine p.seat.me) p.seat.me.1 p.boxes)

pub invariant_of-port-else-this-ne0-clause-boxes : goal.invariant_of-port-else-this-ne0-clause-boxes
invariant_of-port-else-this-ne0-clause-boxes g c = let p = c.args.port.now in
    subst (λ (m : Knowing _). HoldsBoxes (mine m) m.1) (sym c.store.ensures.2.1)
    (boxes_heads _ _ (mine p.seat.me) p.seat.me.1 p.boxes)

pub invariant_of-port-clause-kept : goal.invariant_of-port-clause-kept
invariant_of-port-clause-kept g c = let p = c.args.port.now in
    subst (λ (m : Knowing _). AreKept p.loose (mine m) m.1) (sym c.store.ensures.2.1)
    (kept_heads p.loose (mine p.seat.me) p.seat.me.1 p.kept _ _)

pub invariant_of-port-else-this-ne0-clause-kept : goal.invariant_of-port-else-this-ne0-clause-kept
invariant_of-port-else-this-ne0-clause-kept g c = let p = c.args.port.now in
    subst (λ (m : Knowing _). AreKept p.loose (mine m) m.1) (sym c.store.ensures.2.1)
    (kept_heads p.loose (mine p.seat.me) p.seat.me.1 p.kept _ _)

pub returns-then-this-ne0-clause-stays : goal.returns-then-this-ne0-clause-stays
returns-then-this-ne0-clause-stays g c = let o = c.requires.owns in (
  heads_owns c.args.f.now c.args.port.now o c.store.new.seat.me (c.store.ensures.0 ∙ o.0) _ _
      c.store.ensures.2.1,
  refl,
  (refl, refl, refl),
  refl,
)

pub returns-then-this-ne0-clause-hidden : goal.returns-then-this-ne0-clause-hidden
returns-then-this-ne0-clause-hidden g c = ap mine c.store.ensures.2.1

pub returns-then-this-ne0-clause-hands : goal.returns-then-this-ne0-clause-hands
returns-then-this-ne0-clause-hands g c = (
  refl,
  heads_holds c.args.f.now c.args.port.now c.requires.owns c.store.new.seat.me _ _
      c.store.ensures.2.1,
)

pub returns-else-this-ne0-clause-stays : goal.returns-else-this-ne0-clause-stays
returns-else-this-ne0-clause-stays g c = let o = c.requires.owns in (
  heads_owns c.args.f.now c.args.port.now o c.store.new.seat.me (c.store.ensures.0 ∙ o.0) _ _
      c.store.ensures.2.1,
  refl,
  (refl, refl, refl),
  refl,
)

pub returns-else-this-ne0-clause-hidden : goal.returns-else-this-ne0-clause-hidden
returns-else-this-ne0-clause-hidden g c = ap mine c.store.ensures.2.1

pub returns-else-this-ne0-clause-hands : goal.returns-else-this-ne0-clause-hands
returns-else-this-ne0-clause-hands g c = (
  refl,
  heads_holds c.args.f.now c.args.port.now c.requires.owns c.store.new.seat.me _ _
      c.store.ensures.2.1,
)
