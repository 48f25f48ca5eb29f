use Rattle.std.proofs.Common.{rules, ◌≡◌, true, false, sym, ap, ◌∙◌, subst}
use Rattle.nm_types.specs.declared.packets.Path.{Path}
use Rattle.nm_chain.specs.declared.table.parcels.Parcel.{Parcel}
use Rattle.nm_chain.specs.Rule.{filling_of}
use Rattle.nm_cells.specs.Ports.{knows}
use Rattle.nm_port.specs.Sends.{HasNoWay, SendsBy, SendsByCell}
use Rattle.nm_port.proofs.SendLemmas.{box_hands, cell_after_full, if_err, if_ok, keeps_all, keeps_if, keeps_on}
use Rattle.nm_port.proofs.SendLemmas.{no_way_after_full}
use Rattle.nm_port.proofs.sends.send.Goals as goal

-- its item fits no box
pub returns-then-not-fits_box-clause-sends : goal.returns-then-not-fits_box-clause-sends
returns-then-not-fits_box-clause-sends g c = let x = c.args.parcel.value in let to = c.args.to in
    let p = c.args.port.now in let new = c.send_by_cell.new.port in
    let long : g.I.Item.boxable x.item ≡ false = search rules in
    if_ok c.send_by_cell.result
    (λ s h. subst (λ (way : Path). SendsBy way (g.I.Item.boxable x.item) to x p new) (sym h.0)
    (subst (λ fits. SendsByCell fits to x p new) (sym long) h.1)) c.send_by_cell.ensures.sends

pub returns-then-not-fits_box-clause-back : goal.returns-then-not-fits_box-clause-back
returns-then-not-fits_box-clause-back g c = let x = c.args.parcel.value in
    let long : g.I.Item.boxable x.item ≡ false = search rules in
    if_err c.send_by_cell.result
    (λ _ h. (h.0, subst (λ fits. HasNoWay fits c.args.to c.args.port.now c.send_by_cell.new.port) (sym long) h.1))
    c.send_by_cell.ensures.back

pub returns-then-not-fits_box-clause-keeps : goal.returns-then-not-fits_box-clause-keeps
returns-then-not-fits_box-clause-keeps g c =
    keeps_if c.args.f.now _ c.args.port.now c.send_by_cell.new.port c.send_by_cell.ensures.keeps

pub put-requires-clause-fits : goal.put-requires-clause-fits
put-requires-clause-fits g c = search rules

-- it went by box
pub returns-in-Ok-clause-sends : goal.returns-in-Ok-clause-sends
returns-in-Ok-clause-sends g c =
    let fits : g.I.Item.boxable c.args.parcel.value.item ≡ true = search rules in
    record { short = fits; puts = c.in-Ok.ensures.puts }

pub returns-in-Ok-clause-keeps : goal.returns-in-Ok-clause-keeps
returns-in-Ok-clause-keeps g c = let p = c.args.port.now in let stays = c.put.ensures.stays in
    let hands = box_hands p.hands c.put.new.port.hands (filling_of (knows p) c.args.to) c.in-Ok.ensures.puts.hands in
    record {
      owns = stays.0.0;
      rank = stays.0.1;
      loose = stays.0.3;
      holds = λ k in_hand. ap (λ h. h k) stays.1;
      few = hands.0;
      hands = hands.1;
    }

-- the box was full
pub returns-in-Err-clause-sends : goal.returns-in-Err-clause-sends
returns-in-Err-clause-sends g c = let x = c.args.parcel.value in let to = c.args.to in
    let p = c.args.port.now in let q = c.put.new.port in let new = c.send_by_cell-in-Err.new.port in
    let full = c.in-Err.ensures.full in
    let fits : g.I.Item.boxable x.item ≡ true = search rules in
    if_ok c.send_by_cell-in-Err.result
    (λ s h. subst (λ (way : Path). SendsBy way (g.I.Item.boxable x.item) to x p new) (sym h.0)
    (subst (λ b. SendsByCell b to x p new) (sym fits)
    (cell_after_full to x p q new full.1
    (subst (λ (z : Parcel _). SendsByCell false to z q new) (λ i. (full.0 i).value) h.1))))
    c.send_by_cell-in-Err.ensures.sends

pub returns-in-Err-clause-back : goal.returns-in-Err-clause-back
returns-in-Err-clause-back g c = let x = c.args.parcel.value in let to = c.args.to in
    let p = c.args.port.now in let q = c.put.new.port in let new = c.send_by_cell-in-Err.new.port in
    let full = c.in-Err.ensures.full in
    let fits : g.I.Item.boxable x.item ≡ true = search rules in
    if_err c.send_by_cell-in-Err.result
    (λ _ h. (h.0 ∙ full.0, subst (λ b. HasNoWay b to p new) (sym fits) (no_way_after_full to p q new full.1 h.1)))
    c.send_by_cell-in-Err.ensures.back

pub returns-in-Err-clause-keeps : goal.returns-in-Err-clause-keeps
returns-in-Err-clause-keeps g c = let f = c.args.f.now in let p = c.args.port.now in let q = c.put.new.port in
    let new = c.send_by_cell-in-Err.new.port in let stays = c.put.ensures.stays in
    let full = c.in-Err.ensures.full.1 in
    keeps_if f _ p new (keeps_on f _ _ p q new (ap (λ e. e.hands) full.counted) (λ u. u)
    (keeps_all f _ p q stays.0.0 stays.0.1 stays.0.3 stays.1 full.hands) c.send_by_cell-in-Err.ensures.keeps)
