use Rattle.std.proofs.Common.{◌≡◌, [], ◌∷◌, ◌+◌, ◌-◌, ◌*◌, ◌<◌, length, sym, ap, ◌∙◌, subst, arith}
use Rattle.std.specs.Prelude.{vec_capacity}
use Rattle.nm_chain.specs.Spoken.{view}
use Rattle.nm_chain.specs.declared.table.table.Hand.TheVariants.{Ready}
use Rattle.nm_chain.specs.Plays.{mine, with_hand, load_in}
use Rattle.nm_cells.specs.Ports.{knows}
use Rattle.nm_chain.proofs.ProducerLemmas.{clear_allowed}
use Rattle.nm_cells.proofs.HoldingLemmas.{held_here}
use Rattle.nm_cells.proofs.PortLemmas.{cleared_carries}
use Rattle.nm_cells.specs.AtWork.{HoldsBoxes}
use Rattle.nm_chain.specs.Plays as plays
use Rattle.nm_cells.specs.LooseCells.{IsAmong, AreKept}
use Rattle.nm_cells.proofs.LooseLemmas.{kept_hand}
use Rattle.nm_cells.proofs.produce.clear_link.Goals as goal

pub store-requires : goal.store-requires
store-requires g c = let f = c.args.f.now in let p = c.args.port.now in
    let few = c.requires.in_hand.0 in let z = f.sizes.0 in
    let low : 4 * f.ranks + c.args.cell.now.number < f.board.shared.table_id.words = omega arith in
    rw c.link_word-word.ensures (
      c.requires.owns.0,
      low,
      clear_allowed _ f.board.shared.key f.ranks f.each f.board.shared.table_id.slots p.seat.id
          p.seat.me p.alone f.shape.0 f.shape.1
          (subst (λ k. k < f.ranks) (sym p.named) c.requires.owns.1) c.args.cell.now.number few
          c.requires.in_hand.2,
    )

pub invariant_of-port-clause-carries : goal.invariant_of-port-clause-carries
invariant_of-port-clause-carries g c = let f = c.args.f.now in let p = c.args.port.now in
    let k = c.args.cell.now.number in let rs = c.requires.owns.2 in
    let is_word = c.link_word-word.ensures in
    let is : c.link_word-word.result - 4 * (knows p).ranks ≡ k = omega arith in
    cleared_carries p.seat.me c.store.new.seat.me p.carried.items
    (vec_capacity p.carried) p.hands p.carries k (load_in k p.seat.me.1)
    (c.store.ensures.2.1 ∙ ap
    (λ d. (view (with_hand d (Ready (load_in d p.seat.me.1)) (knows p) ∷ []), p.seat.me.1))
    is)
    (subst (λ n. k < n) (sym c.requires.owns.4) c.requires.in_hand.0) c.requires.in_hand.2

pub returns-clause-ready : goal.returns-clause-ready
returns-clause-ready g c = let f = c.args.f.now in let p = c.args.port.now in
    let k = c.args.cell.now.number in let rs = c.requires.owns.2 in
    let is_word = c.link_word-word.ensures in
    let is : c.link_word-word.result - 4 * (knows p).ranks ≡ k = omega arith in
    ap (λ m. mine m) c.store.ensures.2.1
    ∙ ap (λ d. with_hand d (Ready (load_in d p.seat.me.1)) (knows p)) is
    ∙ ap (λ y. with_hand k (Ready y) (knows p))
    (sym (held_here (length (knows p).hands) k p.seat.me.1
    (subst (λ n. k < n) (sym c.requires.owns.4) c.requires.in_hand.0)))

pub invariant_of-port-clause-boxes : goal.invariant_of-port-clause-boxes
invariant_of-port-clause-boxes g c = let p = c.args.port.now in
    subst (λ (m : plays.Knowing _). HoldsBoxes (plays.mine m) m.1) (sym c.store.ensures.2.1) p.boxes

pub invariant_of-port-clause-kept : goal.invariant_of-port-clause-kept
invariant_of-port-clause-kept g c = let f = c.args.f.now in let p = c.args.port.now in
    let k = c.args.cell.now.number in let rs = c.requires.owns.2 in
    let is_word = c.link_word-word.ensures in
    let is : c.link_word-word.result - 4 * (knows p).ranks ≡ k = omega arith in
    subst (λ (m : plays.Knowing _). AreKept p.loose (mine m) m.1) (sym c.store.ensures.2.1)
    (kept_hand p.loose (knows p) p.seat.me.1 p.kept (c.link_word-word.result - 4 * (knows p).ranks) _
    (subst (λ d. ¬ IsAmong p.loose d) (sym is) c.requires.in_hand.3))
