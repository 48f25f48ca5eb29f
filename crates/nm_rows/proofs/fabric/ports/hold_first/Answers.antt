use Rattle.std.proofs.Common.{rules, ◌<◌, [], None, true, sym, refl, ap, ◌∙◌, subst}
use Rattle.nm_chain.proofs.UpdateLemmas.{update_here}
use Rattle.nm_chain.specs.declared.table.table.Entry.{Entry}
use Rattle.nm_chain.specs.declared.table.table.Hand.TheVariants.{Away}
use Rattle.nm_chain.specs.Plays.{with_hand, with_put}
use Rattle.nm_chain.specs.OwnQueues.{receive_queue}
use Rattle.nm_cells.specs.Ports.{Takes, holding}
use Rattle.nm_port.proofs.PollLemmas.{still_unpassed}
use Rattle.nm_types.specs.declared.packets.Packet.{Packet}
use Rattle.nm_rows.proofs.fabric.ports.hold_first.Goals as goal

pub enqueue-requires-clause-may : goal.enqueue-requires-clause-may
enqueue-requires-clause-may g c = let f = c.args.f.now in let q = c.dequeue.new.port in
    let k = c.in_ok-cell.cell.number in
    let took : Takes receive_queue f c.args.port.now q c.in_ok-cell.cell = search rules in
    let here = ap (λ h. h k) c.take_out-parcel.ensures.emptied
    ∙ update_here (holding q) k None k refl in (
      subst (λ r. r < f.ranks) (sym c.owner-owner.ensures) took.of_rank,
      sym took.has.1 ∙ sym c.owner-owner.ensures,
      here,
    )

pub hold-requires-clause-unpassed : goal.hold-requires-clause-unpassed
hold-requires-clause-unpassed g c = let f = c.args.f.now in let q = c.dequeue.new.port in
    let s = c.enqueue.new.port in let k = c.in_ok-cell.cell.number in
    let took : Takes receive_queue f c.args.port.now q c.in_ok-cell.cell = search rules in
    let x = c.take_out-parcel.result.value in let o = c.take_out-parcel.ensures in
    let e = c.enqueue.ensures.enqueued in
    let after = e.put ∙ (λ i. with_put [] (with_hand k Away (o.stays.1 i))) in
    still_unpassed q s x (ap (λ (u : Entry Packet). u.ranks) after) (ap (λ (u : Entry Packet). u.got) after)
    (e.stays.2.0 ∙ o.stays.0.2.0) (took.arrived refl x o.parcel)
