use Rattle.std.proofs.Common.{rules, ℕ, ◌<◌, ◌≤◌, Some, None, true, length, sym, refl, ap, ◌∙◌, subst}
use Rattle.nm_chain.proofs.UpdateLemmas.{update_here}
use Rattle.nm_types.specs.declared.packets.Packet.{Packet}
use Rattle.nm_chain.specs.declared.table.parcels.Parcel.{Parcel}
use Rattle.nm_chain.specs.declared.table.table.Entry.{Entry}
use Rattle.nm_chain.specs.Rule.{from, hand}
use Rattle.nm_cells.specs.Counted.{IsOneOf}
use Rattle.nm_cells.specs.Carried.{held_in}
use Rattle.nm_cells.specs.LooseCells.{IsAmong}
use Rattle.nm_chain.specs.Plays.{InHand, mine}
use Rattle.nm_chain.specs.OwnQueues.{receive_queue}
use Rattle.nm_cells.specs.Ports.{IsUnpassed, Takes, holding}
use Rattle.nm_rows.proofs.fabric.queues.take_one.Goals as goal

pub pass_next-in_order-requires : goal.pass_next-in_order-requires
pass_next-in_order-requires g c = let f = c.args.f.now in let p = c.dequeue.new.port in
    let x = c.take_out-parcel.result.value in
    let took : Takes receive_queue f c.args.port.now p c.in_ok-cell.cell = search rules in
    let still = c.take_out-parcel.ensures.stays in
    let u = took.arrived refl x c.take_out-parcel.ensures.parcel in
    let unpassed : IsUnpassed c.take_out-parcel.new.port x = (
      subst (λ (e : Entry Packet). x.from < e.ranks) (sym still.1) u.0,
      subst (λ (e : Entry Packet). IsOneOf (Some x) (from x.from e.got)) (sym still.1) u.1,
      subst (λ (t : ℕ → ℕ). t x.from ≤ x.seq) (sym still.0.2.0) u.2,
    ) in (
      subst (λ (z : Parcel Packet). IsUnpassed c.take_out-parcel.new.port z) (sym c.deref.ensures) unpassed,
      still.0.2.1 ∙ took.held ∙ c.requires.owns.1,
    )

pub enqueue-requires-clause-may : goal.enqueue-requires-clause-may
enqueue-requires-clause-may g c = let f = c.args.f.now in let p = c.dequeue.new.port in
    let k = c.in_ok-cell.cell.number in
    let took : Takes receive_queue f c.args.port.now p c.in_ok-cell.cell = search rules in
    let here = ap (λ h. h k) c.take_out-parcel.ensures.emptied
    ∙ update_here (holding p) k None k refl in (
      subst (λ r. r < f.ranks) (sym c.owner-owner.ensures) took.of_rank,
      sym took.has.1 ∙ sym c.owner-owner.ensures,
      ap (λ s. held_in (length (mine s.me).hands) s.me.1 k) c.pass_next-in_order.ensures.0 ∙ here,
    )

pub enqueue-requires-clause-in_hand : goal.enqueue-requires-clause-in_hand
enqueue-requires-clause-in_hand g c = let k = c.in_ok-cell.cell.number in
    let took : Takes receive_queue c.args.f.now c.args.port.now c.dequeue.new.port c.in_ok-cell.cell =
    search rules in let still = c.take_out-parcel.ensures.stays in
    let passed = c.pass_next-in_order.ensures in (
      took.has.0,
      took.has.1,
      subst (λ s. InHand (hand (mine s.me) k)) (sym passed.0)
          (subst (λ (e : Entry Packet). InHand (hand e k)) (sym still.1) took.has.2),
      subst (λ x. ¬ IsAmong x k) (sym (passed.4 ∙ still.0.3)) took.has.3,
    )
