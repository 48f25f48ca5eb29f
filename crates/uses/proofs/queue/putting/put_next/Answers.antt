-- The cell has the next byte, and stands behind the others.
use Rattle.std.proofs.Common.{◌≡◌, ◌<◌, suc, [], ◌∷◌, ◌++◌, Some, false, sym, refl, ap, ◌∙◌, subst, length, get_or, arith}
use Rattle.nm_chain.proofs.UpdateLemmas.{update_here}
use Rattle.nm_chain.specs.declared.table.table.Entry.{Entry}
use Rattle.nm_chain.specs.declared.table.parcels.Parcel.{Parcel}
use Rattle.nm_chain.specs.Rule.{hand, sender, number, put_to, sent_to}
use Rattle.nm_chain.specs.Plays.{InHand}
use Rattle.nm_chain.specs.OwnQueues.{free_queue}
use Rattle.nm_cells.specs.LooseCells.{IsAmong}
use Rattle.nm_cells.specs.Ports.{Takes, holding, knows}
use Rattle.uses.proofs.QueueFronts.{puts_on, puts_same}
use Rattle.uses.specs.declared.letters.Letter.{Letter}
use Rattle.uses.proofs.queue.putting.put_next.Goals as goal

pub enqueue-requires-clause-in_hand : goal.enqueue-requires-clause-in_hand
enqueue-requires-clause-in_hand g c = let p = c.take_first.new.port in let k = c.in-Some.cell.number in
    let took : Takes free_queue c.args.f.now c.args.port.now p c.in-Some.cell = c.in-Some.ensures.took in
    let still = c.put_in.ensures.stays in (
      took.has.0,
      took.has.1,
      subst (λ e. InHand (hand e k)) (sym still.1) took.has.2,
      subst (λ x. ¬ IsAmong x k) (sym still.0.3) took.has.3,
    )

pub enqueue-requires-clause-may : goal.enqueue-requires-clause-may
enqueue-requires-clause-may g c = let p = c.take_first.new.port in let k = c.in-Some.cell.number in
    let q = c.put_in.new.port in let two = c.requires.two in
    let took : Takes free_queue c.args.f.now c.args.port.now p c.in-Some.cell = c.in-Some.ensures.took in
    let still = c.put_in.ensures.stays in let rank = still.0.1 ∙ c.take_first.ensures.owns.1 in
    let here = ap (λ h. h k) c.put_in.ensures.filled
    ∙ update_here (holding p) k (Some c.in_ok-next.next.value) k refl in
    let none = took.vacant refl in let made = c.in_ok-next.ensures.ok in (
      let low : 1 < c.args.f.now.ranks = omega arith in low,
      sym took.has.1 ∙ none.1 ∙ sym rank,
      ap sender here ∙ ap suc (ap (λ (z : Parcel Letter). z.from) made ∙ c.parcel.ensures.0 ∙ sym (rank ∙ c.requires.owns.1)),
      ap number here ∙ ap (λ (z : Parcel Letter). z.seq) made ∙ c.parcel.ensures.1 ∙ c.sent-number.ensures
          ∙ sym (ap (λ (e : Entry Letter). sent_to 1 e.put_box e.put) (still.1 ∙ took.knows)),
    )

pub returns-clause-puts : goal.returns-clause-puts
returns-clause-puts g c = let p = c.args.port.now in let k = c.in-Some.cell.number in
    let q = c.put_in.new.port in let e = knows p in let text = c.args.text.now in
    let x = c.in_ok-next.next.value in
    let took : Takes free_queue c.args.f.now p c.take_first.new.port c.in-Some.cell = c.in-Some.ensures.took in
    let before = c.put_in.ensures.stays.1 ∙ took.knows in
    let here = ap (λ h. h k) c.put_in.ensures.filled
    ∙ update_here (holding c.take_first.new.port) k (Some x) k refl in
    let put = c.enqueue.ensures.enqueued.put in let puts = c.requires.puts in
    let number = c.sent-number.ensures in let none = ap length puts.no_box in
    let many : length (put_to 1 e.put) ≡ c.sent-number.result = omega arith in
    let low : length (put_to 1 e.put) < length text = omega arith in
    puts_on e (knows c.enqueue.new.port) x text _
    (ap (λ (u : Entry Letter). u.put) put ∙ ap (λ (u : Entry Letter). u.put ++ (1, holding q k) ∷ []) before
    ∙ ap (λ y. e.put ++ (1, y) ∷ []) here)
    (ap (λ (u : Entry Letter). u.put_box) put ∙ ap (λ (u : Entry Letter). u.put_box) before)
    low (ap (λ n. get_or text n 0) (sym many))
    (ap (λ (z : Parcel Letter). z.item.byte) c.in_ok-next.ensures.ok ∙ c.parcel.ensures.2) puts

pub returns-in_default-clause-puts : goal.returns-in_default-clause-puts
returns-in_default-clause-puts g c =
    puts_same (knows c.args.port.now) (knows c.take_first.new.port) c.args.text.now
    c.in_default.ensures.none.0 c.requires.puts
