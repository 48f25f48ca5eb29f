use Rattle.std.proofs.Common.{◌*◌, ◌<◌, Some, length, sym, ap, ◌∙◌, subst}
use Rattle.std.specs.Prelude.{vec_capacity}
use Rattle.atomic_table.specs.Table.{rest}
use Rattle.nm_chain.specs.Update.{update}
use Rattle.nm_chain.specs.Plays.{Knowing, mine, sole}
use Rattle.nm_cells.specs.AtWork.{HoldsBoxes}
use Rattle.nm_cells.proofs.BoxPortLemmas.{boxes_exchanged}
use Rattle.nm_cells.specs.Ports.{knows}
use Rattle.nm_cells.specs.Carried.{held_in}
use Rattle.nm_cells.proofs.PortLemmas.{CarriesFor}
use Rattle.nm_cells.proofs.HoldingLemmas.{exchanged_held, exchanged_carries}
use Rattle.nm_cells.specs.LooseCells.{IsAmong, AreKept}
use Rattle.nm_cells.proofs.LooseLemmas.{kept_pop, kept_push}
use Rattle.nm_cells.proofs.slots.put_in.Goals as goal

pub invariant_of-port-clause-carries : goal.invariant_of-port-clause-carries
invariant_of-port-clause-carries g c = let p = c.bring_cell.new.port in let e = knows p in
    let k = c.args.cell.now.number in
    subst (λ m. CarriesFor m p.carried.items (vec_capacity p.carried) p.hands)
    (sym c.fill_slot.ensures.filled)
    (exchanged_carries k (Some c.args.parcel.value) _ p.seat.me.1
    (rest p.seat.me.1) c.bring_cell.ensures.front e.hands e.filling e.emptying p.carried.items
    (vec_capacity p.carried) p.hands p.carries)

pub invariant_of-port-clause-boxes : goal.invariant_of-port-clause-boxes
invariant_of-port-clause-boxes g c = let p = c.bring_cell.new.port in let e = knows p in
    let k = c.args.cell.now.number in let o = c.requires.owns in
    let v = c.bring_cell.ensures.seat.1 in let left = rest p.seat.me.1 in
    let low = subst (λ x. k < x)
    ((λ t. sym o.2 t * sym o.3 t) ∙ (λ t. (sole (sym v t).entries).ranks
    * (sole (sym v t).entries).each)) c.requires.in_hand.0 in
    subst (λ (m : Knowing _). HoldsBoxes (mine m) m.1) (sym c.fill_slot.ensures.filled)
    (boxes_exchanged e left k (Some c.args.parcel.value) _ low (subst (HoldsBoxes e) c.bring_cell.ensures.front p.boxes))

pub returns-clause-filled : goal.returns-clause-filled
returns-clause-filled g c = let p = c.bring_cell.new.port in let k = c.args.cell.now.number in
    let same = ap (λ v. length (sole v.entries).hands) c.bring_cell.ensures.seat.1
    ∙ c.requires.owns.4 in
    ap (λ m. held_in (length (mine m).hands) m.1) c.fill_slot.ensures.filled
    ∙ exchanged_held k (Some c.args.parcel.value) _ p.seat.me.1
    (rest p.seat.me.1) c.bring_cell.ensures.front (length (knows p).hands)
    (subst (λ n. k < n) (sym same) c.requires.in_hand.0)
    ∙ ap (λ u. update u k (Some c.args.parcel.value)) c.bring_cell.ensures.holding

pub invariant_of-port-clause-kept : goal.invariant_of-port-clause-kept
invariant_of-port-clause-kept g c = let p = c.bring_cell.new.port in let e = knows p in
    let k = c.args.cell.now.number in let left = rest p.seat.me.1 in
    let out : ¬ IsAmong p.loose k =
    subst (λ x. ¬ IsAmong x k) (sym c.bring_cell.ensures.same.4) c.requires.in_hand.3 in
    subst (λ (m : Knowing _). AreKept p.loose (mine m) m.1) (sym c.fill_slot.ensures.filled)
    (kept_push p.loose e left (kept_pop p.loose e left k _ out
    (subst (AreKept p.loose e) c.bring_cell.ensures.front p.kept)) k (Some c.args.parcel.value) out)
