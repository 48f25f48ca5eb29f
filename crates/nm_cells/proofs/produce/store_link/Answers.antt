use Rattle.std.proofs.Common.{◌≡◌, [], ◌∷◌, suc, ◌+◌, ◌-◌, ◌*◌, ◌<◌, sym, ap, ◌∙◌, subst}
use Rattle.std.proofs.Common.{arith, length, length-set, refl, ◌≤◌}
use Rattle.std.specs.Prelude.{vec_capacity}
use Rattle.nm_chain.specs.Spoken.{view}
use Rattle.nm_chain.specs.declared.table.table.Hand.TheVariants.{Away, Entering}
use Rattle.nm_chain.specs.Plays.{with_hand}
use Rattle.nm_cells.specs.Carried.{held_in}
use Rattle.nm_cells.specs.Ports.{knows}
use Rattle.nm_chain.proofs.ProducerLemmas.{link_allowed}
use Rattle.nm_cells.proofs.PortLemmas.{finished_carries, some_in_hand}
use Rattle.nm_cells.specs.AtWork.{HoldsBoxes}
use Rattle.nm_chain.specs.Plays as plays
use Rattle.nm_cells.specs.LooseCells.{IsAmong, AreKept}
use Rattle.nm_cells.proofs.LooseLemmas.{entering_apart, kept_hand}
use Rattle.nm_cells.proofs.produce.store_link.Goals as goal

pub store-requires : goal.store-requires
store-requires g c = let f = c.args.f.now in let p = c.args.port.now in let e = c.args.enqueue in
    let a = c.requires.awaits in let z = f.sizes.0 in
    let few = a.0.1 in let some = a.1 in let small = a.0.3 in
    let low : 4 * f.ranks + (e.found - 1) < f.board.shared.table_id.words = omega arith in
    let is : e.found ≡ suc (e.found - 1) = omega arith in rw c.link_word-word.ensures (
      c.requires.owns.0,
      low,
      link_allowed _ f.board.shared.key f.ranks f.each f.board.shared.table_id.slots p.seat.id
          p.seat.me p.alone f.shape.0 f.shape.1
          (subst (λ k. k < f.ranks) (sym p.named) c.requires.owns.1) e.cell a.0.0 e.queue
          (e.found - 1) few (a.0.2 ∙ ap (λ t. Entering e.queue t) is),
    )

pub invariant_of-port-clause-carries : goal.invariant_of-port-clause-carries
invariant_of-port-clause-carries g c = let p = c.args.port.now in let e = c.args.enqueue in
    let a = c.requires.awaits in
    let low = subst (λ n. e.cell < n) (sym c.requires.owns.4) a.0.0 in
    let some = some_in_hand p.seat.me c.store.new.seat.me p.carried.items
    (vec_capacity p.carried) p.hands p.carries e.cell e.queue e.found low a.0.2 in
    let one : (e.cell + 1) - 1 ≡ e.cell = omega arith in
    finished_carries p.seat.me c.store.new.seat.me p.carried.items
    (vec_capacity p.carried) p.hands p.carries e.cell e.queue e.found (p.hands - 1)
    (c.store.ensures.2.1 ∙ ap (λ d. (view (with_hand d Away (knows p) ∷ []), p.seat.me.1)) one)
    low a.0.2 (omega arith)

pub invariant_of-port-clause-boxes : goal.invariant_of-port-clause-boxes
invariant_of-port-clause-boxes g c = let p = c.args.port.now in
    subst (λ (m : plays.Knowing _). HoldsBoxes (plays.mine m) m.1) (sym c.store.ensures.2.1) p.boxes

pub invariant_of-port-clause-kept : goal.invariant_of-port-clause-kept
invariant_of-port-clause-kept g c = let p = c.args.port.now in let e = c.args.enqueue in
    let one : (e.cell + 1) - 1 ≡ e.cell = omega arith in
    subst (λ (m : plays.Knowing _). AreKept p.loose (plays.mine m) m.1) (sym c.store.ensures.2.1)
    (kept_hand p.loose (knows p) p.seat.me.1 p.kept ((e.cell + 1) - 1) Away
    (subst (λ d. ¬ IsAmong p.loose d) (sym one)
    (entering_apart p.loose (knows p) p.seat.me.1 p.kept e.cell e.queue e.found
    c.requires.awaits.0.2)))

pub overflow_sub-port : goal.overflow_sub-port
overflow_sub-port g c = let p = c.args.port.now in let e = c.args.enqueue in
    let a = c.requires.awaits in
    let low = subst (λ n. e.cell < n) (sym c.requires.owns.4) a.0.0 in
    let some = some_in_hand p.seat.me c.store.new.seat.me p.carried.items
    (vec_capacity p.carried) p.hands p.carries e.cell e.queue e.found low a.0.2 in omega arith

pub returns-clause-stays : goal.returns-clause-stays
returns-clause-stays g c = let p = c.args.port.now in let o = c.requires.owns in
    let is = c.store.ensures.2.1 in (
      (
        c.store.ensures.0 ∙ o.0,
        o.1,
        ap (λ m. (plays.mine m).ranks) is ∙ o.2,
        ap (λ m. (plays.mine m).each) is ∙ o.3,
        ap (λ m. length (plays.mine m).hands) is
            ∙ length-set (knows p).hands ((c.args.enqueue.cell + 1) - 1) Away ∙ o.4,
        ap (λ m. length (plays.mine m).filling) is ∙ o.5,
        ap (λ m. length (plays.mine m).emptying) is ∙ o.6,
      ),
      refl,
      (refl, refl, refl),
      refl,
    )

pub returns-clause-finished : goal.returns-clause-finished
returns-clause-finished g c = let p = c.args.port.now in let k = c.args.enqueue.cell in
    let one : (k + 1) - 1 ≡ k = omega arith in
    ap plays.mine c.store.ensures.2.1 ∙ ap (λ d. with_hand d Away (knows p)) one

pub returns-clause-holding : goal.returns-clause-holding
returns-clause-holding g c = let p = c.args.port.now in
    ap (λ (m : plays.Knowing _). held_in (length (plays.mine m).hands) m.1) c.store.ensures.2.1
    ∙ ap (λ n. held_in n p.seat.me.1)
    (length-set (knows p).hands ((c.args.enqueue.cell + 1) - 1) Away)

pub invariant_of-port-clause-alone : goal.invariant_of-port-clause-alone
invariant_of-port-clause-alone g c =
    let p = c.args.port.now in let is = c.store.ensures.2.1 in
    subst plays.Alone (sym is) refl

pub invariant_of-port-clause-named : goal.invariant_of-port-clause-named
invariant_of-port-clause-named g c =
    let p = c.args.port.now in let is = c.store.ensures.2.1 in
    ap (λ m. (plays.mine m).rank) is ∙ p.named

pub invariant_of-port-clause-ends : goal.invariant_of-port-clause-ends
invariant_of-port-clause-ends g c =
    let p = c.args.port.now in let is = c.store.ensures.2.1 in
    (ap (λ m. (plays.mine m).receive) is ∙ p.ends.0, ap (λ m. (plays.mine m).free) is ∙ p.ends.1)

pub invariant_of-port-clause-missed : goal.invariant_of-port-clause-missed
invariant_of-port-clause-missed g c =
    let p = c.args.port.now in let is = c.store.ensures.2.1 in
    (ap (λ m. (plays.mine m).receive_missed) is ∙ p.missed.0, ap (λ m. (plays.mine m).free_missed) is ∙ p.missed.1)

pub invariant_of-port-clause-small : goal.invariant_of-port-clause-small
invariant_of-port-clause-small g c =
    let p = c.args.port.now in let is = c.store.ensures.2.1 in
    subst (λ n. (p.receive.shadow ≤ n) × (p.receive.seen ≤ n) × (p.free.shadow ≤ n) × (p.free.seen ≤ n)) (sym (ap (λ m. length (plays.mine m).hands) is ∙ length-set (knows p).hands ((c.args.enqueue.cell + 1) - 1) Away)) p.small
