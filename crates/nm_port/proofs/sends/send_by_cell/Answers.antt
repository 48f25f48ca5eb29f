use Rattle.std.proofs.Common.{suc, [], ◌∷◌, Some, None, refl, sym}
use Rattle.std.proofs.Common.{ap, ◌∙◌, arith, subst}
use Rattle.nm_chain.proofs.UpdateLemmas.{update_here}
use Rattle.nm_chain.specs.declared.table.table.Hand.TheVariants.{Away}
use Rattle.nm_chain.specs.Rule.{hand, sender, number, sent_to}
use Rattle.nm_chain.specs.Plays.{InHand, with_hand, with_put, heads_of}
use Rattle.nm_cells.specs.LooseCells.{IsAmong}
use Rattle.nm_cells.specs.Ports.{knows, holding}
use Rattle.nm_chain.specs.OwnQueues.{free_queue}
use Rattle.nm_port.proofs.SendLemmas.{cell_sent, cell_same, keeps_all, miss_sent}
use Rattle.nm_fastbox.proofs.PutLemmas.{sent_cell}
use Rattle.nm_port.proofs.sends.send_by_cell.Goals as goal

pub enqueue-requires-clause-in_hand : goal.enqueue-requires-clause-in_hand
enqueue-requires-clause-in_hand g c = let t = c.in-Some.ensures.took in
    let k = c.in-Some.cell.number in let i = c.put_in-spare.ensures in (
      t.has.0,
      t.has.1,
      subst (λ e. InHand (hand e k)) (sym i.stays.1) t.has.2,
      subst (λ x. ¬ IsAmong x k) (sym i.stays.0.3) t.has.3,
    )

pub enqueue-requires-clause-may : goal.enqueue-requires-clause-may
enqueue-requires-clause-may g c = let p = c.args.port.now in let q = c.take_cell.new.port in
    let t = c.in-Some.ensures.took in let k = c.in-Some.cell.number in let i = c.put_in-spare.ensures in
    let x = c.args.parcel.value in let rank = i.stays.0.1 ∙ c.take_cell.ensures.owns.1 in
    let here = ap (λ h. h k) i.filled ∙ update_here (holding q) k (Some x) k refl in (
      c.requires.peer,
      sym t.has.1 ∙ (t.vacant refl).1 ∙ sym rank,
      ap sender here ∙ ap suc (c.requires.parcel.0 ∙ sym rank),
      ap number here ∙ c.requires.parcel.1
          ∙ sym (ap (λ e. sent_to c.args.to e.put_box e.put) (i.stays.1 ∙ t.knows)),
    )

pub returns-clause-taken : goal.returns-clause-taken
returns-clause-taken g c = let t = c.in-Some.ensures.took in let i = c.put_in-spare.ensures.stays.0.2 in
    let e = c.enqueue.ensures.enqueued.stays.2 in let u = t.unpassed in let v = i.2 in let w = e.2 in
    (e.0 ∙ i.0 ∙ t.taken, e.1 ∙ i.1 ∙ t.held, omega arith)

pub returns-clause-sends : goal.returns-clause-sends
returns-clause-sends g c = let p = c.args.port.now in let q = c.take_cell.new.port in
    let s = c.enqueue.new.port in let t = c.in-Some.ensures.took in let k = c.in-Some.cell.number in
    let i = c.put_in-spare.ensures in let x = c.args.parcel.value in let to = c.args.to in
    let y = holding c.put_in-spare.new.port k in let put = c.enqueue.ensures.enqueued.put in
    let here = ap (λ h. h k) i.filled ∙ update_here (holding q) k (Some x) k refl in (
      refl,
      record {
        put = cell_sent (knows p) (knows s) k (heads_of free_queue (knows q)).shadow (holding q k) t.fresh
            ((to, Some x) ∷ [])
            (put ∙ (λ j. with_put ((to, here j) ∷ []) (with_hand k Away ((i.stays.1 ∙ t.knows) j))));
        sent = λ n j. (ap (λ e. sent_to j e.put_box e.put) (put
            ∙ (λ m. with_put ((to, y) ∷ []) (with_hand k Away ((i.stays.1 ∙ t.knows) m))))
            ∙ sent_cell (knows p).put_box (knows p).put to y j) n;
      },
    )

pub returns-clause-keeps : goal.returns-clause-keeps
returns-clause-keeps g c = let p = c.args.port.now in let q = c.take_cell.new.port in
    let r = c.put_in-spare.new.port in let s = c.enqueue.new.port in let t = c.in-Some.ensures.took in
    let k = c.in-Some.cell.number in let i = c.put_in-spare.ensures in let e = c.enqueue.ensures.enqueued in
    let x = t.hands in let y = i.hands in let z = e.hands in record {
      owns = e.stays.0;
      rank = e.stays.1 ∙ i.stays.0.1 ∙ c.take_cell.ensures.owns.1;
      loose = e.stays.3 ∙ i.stays.0.3 ∙ t.loose;
      holds = cell_same (knows p) k (holding q k) (Some c.args.parcel.value) None (holding p) (holding q) (holding r)
          (holding s) t.fresh t.holding i.filled e.given;
      few = omega (arith, x, y, z);
      hands = λ _. omega (arith, x, y, z);
    }

-- the own free queue had a miss
pub returns-in_default-clause-back : goal.returns-in_default-clause-back
returns-in_default-clause-back g c = let miss = c.in_default.ensures.none.0 in (
  refl,
  record {
    sent = λ n j. miss_sent (knows c.args.port.now) (knows c.take_cell.new.port) miss j n;
    miss = miss;
  },
)

pub returns-in_default-clause-keeps : goal.returns-in_default-clause-keeps
returns-in_default-clause-keeps g c = let owns = c.take_cell.ensures.owns in let none = c.in_default.ensures.none.1 in
    keeps_all c.args.f.now _ c.args.port.now c.take_cell.new.port owns.0 owns.1 none.loose none.holding none.hands

pub returns-in_default-clause-taken : goal.returns-in_default-clause-taken
returns-in_default-clause-taken g c = c.in_default.ensures.none.1.taken
