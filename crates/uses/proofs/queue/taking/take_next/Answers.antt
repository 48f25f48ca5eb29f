-- What came of the rank 0 is put behind what came before.
use Rattle.std.proofs.Common.{◌<◌, ◌++◌, [], ◌∷◌, None, sym, refl, ap, ◌∙◌, subst}
use Rattle.nm_chain.proofs.UpdateLemmas.{update_here}
use Rattle.nm_chain.specs.declared.table.table.Entry.{Entry}
use Rattle.nm_chain.specs.declared.table.parcels.Parcel.{Parcel}
use Rattle.nm_chain.specs.Rule.{hand}
use Rattle.nm_chain.specs.Plays.{InHand}
use Rattle.nm_cells.specs.LooseCells.{IsAmong}
use Rattle.nm_cells.specs.Ports.{holding, knows}
use Rattle.uses.proofs.QueueFronts.{gets_more, gets_other, gets_same, got_next}
use Rattle.uses.specs.declared.letters.Letter.{Letter}
use Rattle.uses.proofs.queue.taking.take_next.Goals as goal

pub enqueue-requires-clause-in_hand : goal.enqueue-requires-clause-in_hand
enqueue-requires-clause-in_hand g c = let t = c.in-Some.ensures.took in
    let k = c.in-Some.cell.number in let o = c.take_out-parcel.ensures in (
      t.has.0,
      t.has.1,
      subst (λ e. InHand (hand e k)) (sym o.stays.1) t.has.2,
      subst (λ x. ¬ IsAmong x k) (sym o.stays.0.3) t.has.3,
    )

pub enqueue-requires-clause-may : goal.enqueue-requires-clause-may
enqueue-requires-clause-may g c = let f = c.args.f.now in let q = c.take_first.new.port in
    let t = c.in-Some.ensures.took in let k = c.in-Some.cell.number in
    let here = ap (λ h. h k) c.take_out-parcel.ensures.emptied
    ∙ update_here (holding q) k None k refl in (
      subst (λ r. r < f.ranks) (sym c.owner-owner.ensures) t.of_rank,
      sym t.has.1 ∙ sym c.owner-owner.ensures,
      here,
    )

pub returns-in_default-clause-gets : goal.returns-in_default-clause-gets
returns-in_default-clause-gets g c =
    gets_same (knows c.args.port.now) (knows c.take_first.new.port) c.args.came.now.items
    c.in_default.ensures.none.0 c.requires.gets

pub returns-then-deref-ne0-clause-gets : goal.returns-then-deref-ne0-clause-gets
returns-then-deref-ne0-clause-gets g c = let f = c.args.f.now in let p = c.args.port.now in
    let s = c.enqueue.new.port in let q = c.take_first.new.port in let k = c.in-Some.cell.number in
    let t = c.in-Some.ensures.took in let x = c.take_out-parcel.result.value in let o = c.take_out-parcel.ensures in
    let own = c.requires.owns.0 in
    let low : (knows p).rank < (knows p).ranks =
    subst (λ n. (knows p).rank < n) (sym own.2) (subst (λ r. r < f.ranks) (sym p.named) own.1) in
    gets_other (knows p) (knows s) x c.args.came.now.items
    (got_next (knows p) (knows s) (holding q k) x
    (ap (λ (e : Entry Letter). e.got) c.enqueue.ensures.enqueued.put ∙ ap (λ (e : Entry Letter). e.got) o.stays.1
    ∙ ap (λ (e : Entry Letter). e.got) t.knows) low o.parcel)
    (λ zero. c.if-deref-ne0.true (ap (λ (z : Parcel Letter). z.from) c.deref.ensures ∙ zero)) c.requires.gets

pub returns-clause-gets : goal.returns-clause-gets
returns-clause-gets g c = let f = c.args.f.now in let p = c.args.port.now in
    let s = c.enqueue.new.port in let q = c.take_first.new.port in let k = c.in-Some.cell.number in
    let t = c.in-Some.ensures.took in let x = c.take_out-parcel.result.value in let o = c.take_out-parcel.ensures in
    let own = c.requires.owns.0 in
    let low : (knows p).rank < (knows p).ranks =
    subst (λ n. (knows p).rank < n) (sym own.2) (subst (λ r. r < f.ranks) (sym p.named) own.1) in
    let more = gets_more (knows p) (knows s) x c.args.came.now.items
    (got_next (knows p) (knows s) (holding q k) x
    (ap (λ (e : Entry Letter). e.got) c.enqueue.ensures.enqueued.put ∙ ap (λ (e : Entry Letter). e.got) o.stays.1
    ∙ ap (λ (e : Entry Letter). e.got) t.knows) low o.parcel)
    (ap (λ (z : Parcel Letter). z.from) (sym c.deref.ensures) ∙ c.if-deref-ne0.false) c.requires.gets in
    c.in_ok-push.ensures.items
    ∙ ap (λ (z : Parcel Letter). c.args.came.now.items ++ z.item.byte ∷ []) c.deref-2.ensures ∙ more
