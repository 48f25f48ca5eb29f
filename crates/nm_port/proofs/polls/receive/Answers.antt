use Rattle.std.proofs.Common.{◌<◌, [], Some, None, refl, sym, ap}
use Rattle.std.proofs.Common.{◌∙◌, arith, subst}
use Rattle.nm_chain.proofs.UpdateLemmas.{update_here}
use Rattle.nm_chain.specs.declared.table.table.Hand.TheVariants.{Away}
use Rattle.nm_chain.specs.Rule.{hand}
use Rattle.nm_chain.specs.Plays.{InHand, with_hand, with_put, heads_of}
use Rattle.nm_cells.specs.LooseCells.{IsAmong}
use Rattle.nm_cells.specs.Ports.{knows, holding}
use Rattle.nm_chain.specs.OwnQueues.{receive_queue}
use Rattle.nm_port.proofs.SendLemmas.{cell_received, cell_same, keeps_all}
use Rattle.nm_port.proofs.PollLemmas.{still_unpassed}
use Rattle.nm_port.proofs.polls.receive.Goals as goal

pub enqueue-requires-clause-in_hand : goal.enqueue-requires-clause-in_hand
enqueue-requires-clause-in_hand g c = let t = c.in-Some.ensures.took in
    let k = c.in-Some.cell.number in let o = c.take_out-parcel.ensures in (
      t.has.0,
      t.has.1,
      subst (λ e. InHand (hand e k)) (sym o.stays.1) t.has.2,
      subst (λ x. ¬ IsAmong x k) (sym o.stays.0.3) t.has.3,
    )

pub enqueue-requires-clause-may : goal.enqueue-requires-clause-may
enqueue-requires-clause-may g c = let f = c.args.f.now in let q = c.take_cell.new.port in
    let t = c.in-Some.ensures.took in let k = c.in-Some.cell.number in
    let here = ap (λ h. h k) c.take_out-parcel.ensures.emptied
    ∙ update_here (holding q) k None k refl in (
      subst (λ r. r < f.ranks) (sym c.owner-owner.ensures) t.of_rank,
      sym t.has.1 ∙ sym c.owner-owner.ensures,
      here,
    )

pub returns-clause-held : goal.returns-clause-held
returns-clause-held g c = let t = c.in-Some.ensures.took in
    let o = c.take_out-parcel.ensures.stays.0.2 in let e = c.enqueue.ensures.enqueued.stays.2 in
    (e.1 ∙ o.1 ∙ t.held, e.0 ∙ o.0 ∙ t.taken)

pub returns-clause-came : goal.returns-clause-came
returns-clause-came g c = let f = c.args.f.now in let p = c.args.port.now in
    let q = c.take_cell.new.port in let s = c.enqueue.new.port in
    let t = c.in-Some.ensures.took in let k = c.in-Some.cell.number in
    let x = c.take_out-parcel.result.value in let o = c.take_out-parcel.ensures in
    let e = c.enqueue.ensures.enqueued in let own = c.requires.owns in
    let low : (knows p).rank < (knows p).ranks =
    subst (λ n. (knows p).rank < n) (sym own.2) (subst (λ r. r < f.ranks) (sym p.named) own.1) in
    let after = e.put ∙ (λ i. with_put [] (with_hand k Away (o.stays.1 i))) in
    let a = t.unpassed in let b = o.stays.0.2.2 in let d = e.stays.2.2 in record {
      unpassed = still_unpassed q s x (ap (λ u. u.ranks) after) (ap (λ u. u.got) after)
          (e.stays.2.0 ∙ o.stays.0.2.0) (t.arrived refl x o.parcel);
      one_more = omega (arith, a, b, d);
      got = cell_received (knows p) (knows s) k (heads_of receive_queue (knows q)).shadow (holding q k) t.fresh (Some x)
          o.parcel low (after ∙ (λ i. with_put [] (with_hand k Away (t.knows i))));
    }

pub returns-clause-keeps : goal.returns-clause-keeps
returns-clause-keeps g c = let p = c.args.port.now in let q = c.take_cell.new.port in
    let r = c.take_out-parcel.new.port in let s = c.enqueue.new.port in
    let t = c.in-Some.ensures.took in let k = c.in-Some.cell.number in
    let o = c.take_out-parcel.ensures in let e = c.enqueue.ensures.enqueued in
    let x = t.hands in let y = o.hands in let z = e.hands in record {
      owns = e.stays.0;
      rank = e.stays.1 ∙ o.stays.0.1 ∙ c.take_cell.ensures.owns.1;
      loose = e.stays.3 ∙ o.stays.0.3 ∙ t.loose;
      holds = cell_same (knows p) k (holding q k) None None (holding p) (holding q) (holding r) (holding s)
          t.fresh t.holding o.emptied e.given;
      few = omega (arith, x, y, z);
      hands = λ _. omega (arith, x, y, z);
    }

-- the receive queue had a miss
pub returns-in_default-clause-keeps : goal.returns-in_default-clause-keeps
returns-in_default-clause-keeps g c = let owns = c.take_cell.ensures.owns in let none = c.in_default.ensures.none.1 in
    keeps_all c.args.f.now _ c.args.port.now c.take_cell.new.port owns.0 owns.1 none.loose none.holding none.hands

pub returns-in_default-clause-none : goal.returns-in_default-clause-none
returns-in_default-clause-none g c = let none = c.in_default.ensures.none in
    (refl, record { miss = none.0; unpassed = none.1.taken.2 })

pub returns-in_default-clause-held : goal.returns-in_default-clause-held
returns-in_default-clause-held g c = let none = c.in_default.ensures.none.1 in (none.taken.1, none.taken.0)
