use Rattle.std.proofs.Common.{◌≡◌, ℕ, suc, ◌+◌, ◌-◌, ◌*◌, ◌<◌, ◌≤◌, false, Some, length, sym}
use Rattle.std.proofs.Common.{refl, ap, ◌∙◌, subst, arith, length-set}
use Rattle.std.specs.Prelude.{vec_capacity}
use Rattle.atomic_table.specs.Table.{Allows, step}
use mathlib.Core.Option as maybe
use Rattle.nm_cells.specs.declared.tallies.Tally.{Tally}
use Rattle.nm_chain.specs.Rule.{Rule}
use Rattle.nm_chain.specs.Plays as plays
use Rattle.nm_chain.specs.Plays.{mine}
use Rattle.nm_cells.specs.Ports.{knows, taken_by, opens}
use Rattle.nm_cells.specs.Carried.{held_in}
use Rattle.nm_cells.specs.AtWork.{HoldsBoxes}
use Rattle.nm_cells.specs.Counted.{peer_in, all_unpassed, one_miss, one_begun}
use Rattle.nm_cells.proofs.PortLemmas.{CarriesFor, peer_low, peer_box_got}
use Rattle.nm_chain.proofs.BoxStepLemmas.{look_in_allowed}
use Rattle.nm_cells.proofs.BoxCallLemmas as calls
use Rattle.nm_cells.specs.LooseCells.{AreKept}
use Rattle.nm_cells.proofs.LooseLemmas.{kept_begun}
use Rattle.nm_cells.proofs.boxes.look_in.Goals as goal

pub load-found-requires : goal.load-found-requires
load-found-requires g c = let f = c.args.f.now in let p = c.args.port.now in
    let id = f.board.shared.table_id in let z₀ = f.sizes.0 in let b = c.box_at-slot.ensures in
    let l = b.low in let few = c.requires.peer in let o = c.requires.owns in
    let is_word = c.flag_word-word.ensures in
    let word : ℕ = c.flag_word-word.result in let low : word < id.words = omega arith in
    let place = c.peer-peer.result.box_got in let j = c.args.sender in
    let at = ap (λ (u : Tally). u.box_got) c.peer-peer.ensures ∙ peer_box_got p j
    (calls.few f p o j few) in (
      o.0,
      low,
      subst (λ t. Allows (Rule g.I.Item.boxable f.board.shared.key) id.slots p.seat.id p.seat.me word (λ u. u)
          (plays.looked_in t g.T.BoxStep.awaited (step id.slots word 0 0 maybe.none) p.seat.me))
          c.requires.told.0
          (subst (λ a. Allows (Rule g.I.Item.boxable f.board.shared.key) id.slots p.seat.id p.seat.me word (λ u. u)
          (plays.looked_in j a (step id.slots word 0 0 maybe.none) p.seat.me)) c.requires.told.1
          (look_in_allowed _ f.board.shared.key f.ranks f.each id.slots p.seat.id p.seat.me p.alone
          f.shape.0 f.shape.1 p.rank p.named o.1 j few place word (taken_by p j) at
          (is_word ∙ ap (λ k. 4 * f.ranks + k) b.at))),
    )

pub overflow_add-peer : goal.overflow_add-peer
overflow_add-peer g c = let f = c.args.f.now in let p = c.args.port.now in let j = c.args.sender in
    let same = ap (λ (u : Tally). u.taken) c.peer-peer.ensures in
    let small = calls.taken_small f p c.requires.owns j c.requires.peer in omega arith

pub count_miss-requires : goal.count_miss-requires
count_miss-requires g c = let p = c.args.port.now in record {
  sender = peer_low p c.args.sender (calls.few c.args.f.now p c.requires.owns c.args.sender
      c.requires.peer);
}

pub invariant_of-port-clause-carries : goal.invariant_of-port-clause-carries
invariant_of-port-clause-carries g c =
    let f = c.args.f.now in let p = c.args.port.now in let o = c.requires.owns in
    let few = c.requires.peer in let j = c.args.sender in let t = c.requires.told in
    let then = subst (λ k. plays.told_in k (taken_by p j) (step f.board.shared.table_id.slots
    c.flag_word-word.result 0 0 maybe.none) p.seat.me c.load-found.result
    c.load-found.new.seat.me) (sym t.0)
    (subst (λ a. plays.told_in g.T.BoxStep.peer a (step f.board.shared.table_id.slots
    c.flag_word-word.result 0 0 maybe.none) p.seat.me c.load-found.result
    c.load-found.new.seat.me) (sym t.1) c.load-found.ensures.2.1) in
    let same = ap (λ (u : Tally). u.taken) c.peer-peer.ensures in
    let other = c.if-found-peer.true in
    let is = then.1 (λ hit. other (let z : c.load-found.result ≡ c.peer-peer.result.taken + 1 =
    omega arith in z)) in
    subst (λ m. CarriesFor m p.carried.items (vec_capacity p.carried) p.hands) (sym is) p.carries

pub invariant_of-port-clause-boxes : goal.invariant_of-port-clause-boxes
invariant_of-port-clause-boxes g c =
    let f = c.args.f.now in let p = c.args.port.now in let o = c.requires.owns in
    let few = c.requires.peer in let j = c.args.sender in let t = c.requires.told in
    let then = subst (λ k. plays.told_in k (taken_by p j) (step f.board.shared.table_id.slots
    c.flag_word-word.result 0 0 maybe.none) p.seat.me c.load-found.result
    c.load-found.new.seat.me) (sym t.0)
    (subst (λ a. plays.told_in g.T.BoxStep.peer a (step f.board.shared.table_id.slots
    c.flag_word-word.result 0 0 maybe.none) p.seat.me c.load-found.result
    c.load-found.new.seat.me) (sym t.1) c.load-found.ensures.2.1) in
    let same = ap (λ (u : Tally). u.taken) c.peer-peer.ensures in
    let other = c.if-found-peer.true in
    let is = then.1 (λ hit. other (let z : c.load-found.result ≡ c.peer-peer.result.taken + 1 =
    omega arith in z)) in
    subst (λ (m : plays.Knowing _). HoldsBoxes (mine m) m.1) (sym is) p.boxes

pub invariant_of-port-clause-counts : goal.invariant_of-port-clause-counts
invariant_of-port-clause-counts g c =
    let f = c.args.f.now in let p = c.args.port.now in let o = c.requires.owns in
    let few = c.requires.peer in let j = c.args.sender in let t = c.requires.told in
    let then = subst (λ k. plays.told_in k (taken_by p j) (step f.board.shared.table_id.slots
    c.flag_word-word.result 0 0 maybe.none) p.seat.me c.load-found.result
    c.load-found.new.seat.me) (sym t.0)
    (subst (λ a. plays.told_in g.T.BoxStep.peer a (step f.board.shared.table_id.slots
    c.flag_word-word.result 0 0 maybe.none) p.seat.me c.load-found.result
    c.load-found.new.seat.me) (sym t.1) c.load-found.ensures.2.1) in
    let same = ap (λ (u : Tally). u.taken) c.peer-peer.ensures in
    let other = c.if-found-peer.true in
    let is = then.1 (λ hit. other (let z : c.load-found.result ≡ c.peer-peer.result.taken + 1 =
    omega arith in z)) in
    calls.miss_counts f p o j few c.load-found.new.seat.me c.box_at-slot.result is
    c.count_miss.new.peers.items c.count_miss.ensures

pub returns-then-found-peer-clause-stays : goal.returns-then-found-peer-clause-stays
returns-then-found-peer-clause-stays g c =
    let f = c.args.f.now in let p = c.args.port.now in let o = c.requires.owns in
    let few = c.requires.peer in let j = c.args.sender in let t = c.requires.told in
    let then = subst (λ k. plays.told_in k (taken_by p j) (step f.board.shared.table_id.slots
    c.flag_word-word.result 0 0 maybe.none) p.seat.me c.load-found.result
    c.load-found.new.seat.me) (sym t.0)
    (subst (λ a. plays.told_in g.T.BoxStep.peer a (step f.board.shared.table_id.slots
    c.flag_word-word.result 0 0 maybe.none) p.seat.me c.load-found.result
    c.load-found.new.seat.me) (sym t.1) c.load-found.ensures.2.1) in
    let same = ap (λ (u : Tally). u.taken) c.peer-peer.ensures in
    let other = c.if-found-peer.true in
    let is = then.1 (λ hit. other (let z : c.load-found.result ≡ c.peer-peer.result.taken + 1 =
    omega arith in z)) in
    let s = calls.peers_stay one_miss j p.peers.items
    (peer_low p j (calls.few f p o j few)) (λ u. refl) (λ u. refl) in (
      calls.owns_then f p o j few (c.load-found.ensures.0 ∙ o.0)
          c.load-found.new.seat.me
          (ap (λ m. (mine m).ranks) is) (ap (λ m. (mine m).each) is)
          (ap (λ m. length (mine m).hands) is) (ap (λ m. length (mine m).filling) is)
          (ap (λ m. length (mine m).emptying) is),
      refl,
      (
        (λ i k. (ap (λ l. (peer_in l k).taken) c.count_miss.ensures ∙ s.0 k) i),
        refl,
        ap all_unpassed c.count_miss.ensures ∙ s.1,
      ),
      refl,
    )

pub returns-then-found-peer-clause-overtaken : goal.returns-then-found-peer-clause-overtaken
returns-then-found-peer-clause-overtaken g c over =
    let f = c.args.f.now in let p = c.args.port.now in let o = c.requires.owns in
    let few = c.requires.peer in let j = c.args.sender in let t = c.requires.told in
    let then = subst (λ k. plays.told_in k (taken_by p j) (step f.board.shared.table_id.slots
    c.flag_word-word.result 0 0 maybe.none) p.seat.me c.load-found.result
    c.load-found.new.seat.me) (sym t.0)
    (subst (λ a. plays.told_in g.T.BoxStep.peer a (step f.board.shared.table_id.slots
    c.flag_word-word.result 0 0 maybe.none) p.seat.me c.load-found.result
    c.load-found.new.seat.me) (sym t.1) c.load-found.ensures.2.1) in
    let same = ap (λ (u : Tally). u.taken) c.peer-peer.ensures in
    let other = c.if-found-peer.true in
    let hit = calls.when_overtaken f p o j few c.load-found.result then.2 over in
    absurd (other (let z : c.load-found.result ≡ c.peer-peer.result.taken + 1 = omega arith in z))

pub take_box-requires : goal.take_box-requires
take_box-requires g c =
    let f = c.args.f.now in let p = c.args.port.now in let o = c.requires.owns in
    let few = c.requires.peer in let j = c.args.sender in let t = c.requires.told in
    let then = subst (λ k. plays.told_in k (taken_by p j) (step f.board.shared.table_id.slots
    c.flag_word-word.result 0 0 maybe.none) p.seat.me c.load-found.result
    c.load-found.new.seat.me) (sym t.0)
    (subst (λ a. plays.told_in g.T.BoxStep.peer a (step f.board.shared.table_id.slots
    c.flag_word-word.result 0 0 maybe.none) p.seat.me c.load-found.result
    c.load-found.new.seat.me) (sym t.1) c.load-found.ensures.2.1) in
    let same = ap (λ (u : Tally). u.taken) c.peer-peer.ensures in
    let found = c.if-found-peer.false in
    let rs = o.2 in let is_word = c.flag_word-word.ensures in let word : ℕ = c.flag_word-word.result in
    let back : word - 4 * (knows p).ranks ≡ c.box_at-slot.result = omega arith in
    let place = ap (λ (u : Tally). u.box_got) c.peer-peer.ensures ∙ peer_box_got p j
    (calls.few f p o j few) in
    let at = c.box_at-slot.ensures.at ∙ calls.in_slot_is f p o j few
    c.peer-peer.result.box_got place in
    let told = subst (λ k. plays.IsToEmpty j (taken_by p j) k p.seat.me c.load-found.new.seat.me) back
    (then.0 (let z : c.load-found.result ≡ suc (taken_by p j) = omega arith in z)) in
    let was = sym (calls.is_emptying f p o j few)
    ∙ sym (ap (λ (u : Tally). u.emptying) c.peer-peer.ensures) in
    record {
      room = calls.begun_room f p o j few c.load-found.new.seat.me c.box_at-slot.result
          (taken_by p j) at told c.peer-peer.result.emptying was;
    }

pub note_emptying-requires : goal.note_emptying-requires
note_emptying-requires g c = let p = c.args.port.now in record {
  sender = peer_low p c.args.sender (calls.few c.args.f.now p c.requires.owns c.args.sender
      c.requires.peer);
}

pub invariant_of-port-2-clause-carries : goal.invariant_of-port-2-clause-carries
invariant_of-port-2-clause-carries g c =
    let f = c.args.f.now in let p = c.args.port.now in let o = c.requires.owns in
    let few = c.requires.peer in let j = c.args.sender in let t = c.requires.told in
    let then = subst (λ k. plays.told_in k (taken_by p j) (step f.board.shared.table_id.slots
    c.flag_word-word.result 0 0 maybe.none) p.seat.me c.load-found.result
    c.load-found.new.seat.me) (sym t.0)
    (subst (λ a. plays.told_in g.T.BoxStep.peer a (step f.board.shared.table_id.slots
    c.flag_word-word.result 0 0 maybe.none) p.seat.me c.load-found.result
    c.load-found.new.seat.me) (sym t.1) c.load-found.ensures.2.1) in
    let same = ap (λ (u : Tally). u.taken) c.peer-peer.ensures in
    let found = c.if-found-peer.false in
    let rs = o.2 in let is_word = c.flag_word-word.ensures in let word : ℕ = c.flag_word-word.result in
    let back : word - 4 * (knows p).ranks ≡ c.box_at-slot.result = omega arith in
    let place = ap (λ (u : Tally). u.box_got) c.peer-peer.ensures ∙ peer_box_got p j
    (calls.few f p o j few) in
    let at = c.box_at-slot.ensures.at ∙ calls.in_slot_is f p o j few
    c.peer-peer.result.box_got place in
    let told = subst (λ k. plays.IsToEmpty j (taken_by p j) k p.seat.me c.load-found.new.seat.me) back
    (then.0 (let z : c.load-found.result ≡ suc (taken_by p j) = omega arith in z)) in
    let was = sym (calls.is_emptying f p o j few)
    ∙ sym (ap (λ (u : Tally). u.emptying) c.peer-peer.ensures) in
    calls.begun_carries f p o j few c.load-found.new.seat.me c.box_at-slot.result
    (taken_by p j) at told c.peer-peer.result.emptying was
    c.take_box.new.carried.items (vec_capacity c.take_box.new.carried) c.take_box.new.hands
    c.take_box.ensures.items c.take_box.ensures.capacity c.take_box.ensures.hands

pub invariant_of-port-2-clause-boxes : goal.invariant_of-port-2-clause-boxes
invariant_of-port-2-clause-boxes g c =
    let f = c.args.f.now in let p = c.args.port.now in let o = c.requires.owns in
    let few = c.requires.peer in let j = c.args.sender in let t = c.requires.told in
    let then = subst (λ k. plays.told_in k (taken_by p j) (step f.board.shared.table_id.slots
    c.flag_word-word.result 0 0 maybe.none) p.seat.me c.load-found.result
    c.load-found.new.seat.me) (sym t.0)
    (subst (λ a. plays.told_in g.T.BoxStep.peer a (step f.board.shared.table_id.slots
    c.flag_word-word.result 0 0 maybe.none) p.seat.me c.load-found.result
    c.load-found.new.seat.me) (sym t.1) c.load-found.ensures.2.1) in
    let same = ap (λ (u : Tally). u.taken) c.peer-peer.ensures in
    let found = c.if-found-peer.false in
    let rs = o.2 in let is_word = c.flag_word-word.ensures in let word : ℕ = c.flag_word-word.result in
    let back : word - 4 * (knows p).ranks ≡ c.box_at-slot.result = omega arith in
    let place = ap (λ (u : Tally). u.box_got) c.peer-peer.ensures ∙ peer_box_got p j
    (calls.few f p o j few) in
    let at = c.box_at-slot.ensures.at ∙ calls.in_slot_is f p o j few
    c.peer-peer.result.box_got place in
    let told = subst (λ k. plays.IsToEmpty j (taken_by p j) k p.seat.me c.load-found.new.seat.me) back
    (then.0 (let z : c.load-found.result ≡ suc (taken_by p j) = omega arith in z)) in
    let was = sym (calls.is_emptying f p o j few)
    ∙ sym (ap (λ (u : Tally). u.emptying) c.peer-peer.ensures) in
    calls.begun_boxes f p o j few c.load-found.new.seat.me c.box_at-slot.result (taken_by p j) at told

pub invariant_of-port-2-clause-counts : goal.invariant_of-port-2-clause-counts
invariant_of-port-2-clause-counts g c =
    let f = c.args.f.now in let p = c.args.port.now in let o = c.requires.owns in
    let few = c.requires.peer in let j = c.args.sender in let t = c.requires.told in
    let then = subst (λ k. plays.told_in k (taken_by p j) (step f.board.shared.table_id.slots
    c.flag_word-word.result 0 0 maybe.none) p.seat.me c.load-found.result
    c.load-found.new.seat.me) (sym t.0)
    (subst (λ a. plays.told_in g.T.BoxStep.peer a (step f.board.shared.table_id.slots
    c.flag_word-word.result 0 0 maybe.none) p.seat.me c.load-found.result
    c.load-found.new.seat.me) (sym t.1) c.load-found.ensures.2.1) in
    let same = ap (λ (u : Tally). u.taken) c.peer-peer.ensures in
    let found = c.if-found-peer.false in
    let rs = o.2 in let is_word = c.flag_word-word.ensures in let word : ℕ = c.flag_word-word.result in
    let back : word - 4 * (knows p).ranks ≡ c.box_at-slot.result = omega arith in
    let place = ap (λ (u : Tally). u.box_got) c.peer-peer.ensures ∙ peer_box_got p j
    (calls.few f p o j few) in
    let at = c.box_at-slot.ensures.at ∙ calls.in_slot_is f p o j few
    c.peer-peer.result.box_got place in
    let told = subst (λ k. plays.IsToEmpty j (taken_by p j) k p.seat.me c.load-found.new.seat.me) back
    (then.0 (let z : c.load-found.result ≡ suc (taken_by p j) = omega arith in z)) in
    let was = sym (calls.is_emptying f p o j few)
    ∙ sym (ap (λ (u : Tally). u.emptying) c.peer-peer.ensures) in
    calls.begun_counts f p o j few c.load-found.new.seat.me c.box_at-slot.result
    (taken_by p j) at told c.note_emptying.new.peers.items
    c.note_emptying.ensures

pub returns-clause-stays : goal.returns-clause-stays
returns-clause-stays g c =
    let f = c.args.f.now in let p = c.args.port.now in let o = c.requires.owns in
    let few = c.requires.peer in let j = c.args.sender in let t = c.requires.told in
    let then = subst (λ k. plays.told_in k (taken_by p j) (step f.board.shared.table_id.slots
    c.flag_word-word.result 0 0 maybe.none) p.seat.me c.load-found.result
    c.load-found.new.seat.me) (sym t.0)
    (subst (λ a. plays.told_in g.T.BoxStep.peer a (step f.board.shared.table_id.slots
    c.flag_word-word.result 0 0 maybe.none) p.seat.me c.load-found.result
    c.load-found.new.seat.me) (sym t.1) c.load-found.ensures.2.1) in
    let same = ap (λ (u : Tally). u.taken) c.peer-peer.ensures in
    let found = c.if-found-peer.false in
    let rs = o.2 in let is_word = c.flag_word-word.ensures in let word : ℕ = c.flag_word-word.result in
    let back : word - 4 * (knows p).ranks ≡ c.box_at-slot.result = omega arith in
    let place = ap (λ (u : Tally). u.box_got) c.peer-peer.ensures ∙ peer_box_got p j
    (calls.few f p o j few) in
    let at = c.box_at-slot.ensures.at ∙ calls.in_slot_is f p o j few
    c.peer-peer.result.box_got place in
    let told = subst (λ k. plays.IsToEmpty j (taken_by p j) k p.seat.me c.load-found.new.seat.me) back
    (then.0 (let z : c.load-found.result ≡ suc (taken_by p j) = omega arith in z)) in
    let was = sym (calls.is_emptying f p o j few)
    ∙ sym (ap (λ (u : Tally). u.emptying) c.peer-peer.ensures) in
    let s = calls.peers_stay one_begun j p.peers.items
    (peer_low p j (calls.few f p o j few)) (λ u. refl) (λ u. refl) in (
      calls.owns_then f p o j few (c.load-found.ensures.0 ∙ o.0)
          c.load-found.new.seat.me
          (ap (λ m. (mine m).ranks) told.3) (ap (λ m. (mine m).each) told.3)
          (ap (λ m. length (mine m).hands) told.3) (ap (λ m. length (mine m).filling) told.3)
          (ap (λ m. length (mine m).emptying) told.3 ∙ length-set (knows p).emptying j
          (Some (plays.box_load j (mine c.load-found.new.seat.me)))),
      refl,
      (
        (λ i k. (ap (λ l. (peer_in l k).taken) c.note_emptying.ensures ∙ s.0 k) i),
        refl,
        ap all_unpassed c.note_emptying.ensures ∙ s.1,
      ),
      refl,
    )

pub invariant_of-port-clause-kept : goal.invariant_of-port-clause-kept
invariant_of-port-clause-kept g c =
    let f = c.args.f.now in let p = c.args.port.now in let o = c.requires.owns in
    let few = c.requires.peer in let j = c.args.sender in let t = c.requires.told in
    let then = subst (λ k. plays.told_in k (taken_by p j) (step f.board.shared.table_id.slots
    c.flag_word-word.result 0 0 maybe.none) p.seat.me c.load-found.result
    c.load-found.new.seat.me) (sym t.0)
    (subst (λ a. plays.told_in g.T.BoxStep.peer a (step f.board.shared.table_id.slots
    c.flag_word-word.result 0 0 maybe.none) p.seat.me c.load-found.result
    c.load-found.new.seat.me) (sym t.1) c.load-found.ensures.2.1) in
    let same = ap (λ (u : Tally). u.taken) c.peer-peer.ensures in
    let other = c.if-found-peer.true in
    let is = then.1 (λ hit. other (let z : c.load-found.result ≡ c.peer-peer.result.taken + 1 =
    omega arith in z)) in
    subst (λ (m : plays.Knowing _). AreKept p.loose (mine m) m.1) (sym is) p.kept

pub invariant_of-port-2-clause-kept : goal.invariant_of-port-2-clause-kept
invariant_of-port-2-clause-kept g c =
    let f = c.args.f.now in let p = c.args.port.now in let o = c.requires.owns in
    let few = c.requires.peer in let j = c.args.sender in let t = c.requires.told in
    let then = subst (λ k. plays.told_in k (taken_by p j) (step f.board.shared.table_id.slots
    c.flag_word-word.result 0 0 maybe.none) p.seat.me c.load-found.result
    c.load-found.new.seat.me) (sym t.0)
    (subst (λ a. plays.told_in g.T.BoxStep.peer a (step f.board.shared.table_id.slots
    c.flag_word-word.result 0 0 maybe.none) p.seat.me c.load-found.result
    c.load-found.new.seat.me) (sym t.1) c.load-found.ensures.2.1) in
    let same = ap (λ (u : Tally). u.taken) c.peer-peer.ensures in
    let found = c.if-found-peer.false in
    let rs = o.2 in let is_word = c.flag_word-word.ensures in let word : ℕ = c.flag_word-word.result in
    let back : word - 4 * (knows p).ranks ≡ c.box_at-slot.result = omega arith in
    let place = ap (λ (u : Tally). u.box_got) c.peer-peer.ensures ∙ peer_box_got p j
    (calls.few f p o j few) in
    let at = c.box_at-slot.ensures.at ∙ calls.in_slot_is f p o j few
    c.peer-peer.result.box_got place in
    let told = subst (λ k. plays.IsToEmpty j (taken_by p j) k p.seat.me c.load-found.new.seat.me) back
    (then.0 (let z : c.load-found.result ≡ suc (taken_by p j) = omega arith in z)) in
    let was = sym (calls.is_emptying f p o j few)
    ∙ sym (ap (λ (u : Tally). u.emptying) c.peer-peer.ensures) in
    kept_begun p.loose p.seat.me c.load-found.new.seat.me p.kept j c.box_at-slot.result
    _ _ (subst (λ k. length (knows p).hands ≤ k) (sym at) (calls.far f p o j few false)) told.3

pub returns-then-found-peer-clause-missed : goal.returns-then-found-peer-clause-missed
returns-then-found-peer-clause-missed g c _ =
    let f = c.args.f.now in let p = c.args.port.now in let o = c.requires.owns in
    let few = c.requires.peer in let j = c.args.sender in let t = c.requires.told in
    let then = subst (λ k. plays.told_in k (taken_by p j) (step f.board.shared.table_id.slots
    c.flag_word-word.result 0 0 maybe.none) p.seat.me c.load-found.result
    c.load-found.new.seat.me) (sym t.0)
    (subst (λ a. plays.told_in g.T.BoxStep.peer a (step f.board.shared.table_id.slots
    c.flag_word-word.result 0 0 maybe.none) p.seat.me c.load-found.result
    c.load-found.new.seat.me) (sym t.1) c.load-found.ensures.2.1) in
    let same = ap (λ (u : Tally). u.taken) c.peer-peer.ensures in
    let other = c.if-found-peer.true in
    let is = then.1 (λ hit. other (let z : c.load-found.result ≡ c.peer-peer.result.taken + 1 =
    omega arith in z)) in
    (ap mine is, refl)

pub returns-then-found-peer-clause-holding : goal.returns-then-found-peer-clause-holding
returns-then-found-peer-clause-holding g c =
    let f = c.args.f.now in let p = c.args.port.now in let o = c.requires.owns in
    let few = c.requires.peer in let j = c.args.sender in let t = c.requires.told in
    let then = subst (λ k. plays.told_in k (taken_by p j) (step f.board.shared.table_id.slots
    c.flag_word-word.result 0 0 maybe.none) p.seat.me c.load-found.result
    c.load-found.new.seat.me) (sym t.0)
    (subst (λ a. plays.told_in g.T.BoxStep.peer a (step f.board.shared.table_id.slots
    c.flag_word-word.result 0 0 maybe.none) p.seat.me c.load-found.result
    c.load-found.new.seat.me) (sym t.1) c.load-found.ensures.2.1) in
    let same = ap (λ (u : Tally). u.taken) c.peer-peer.ensures in
    let other = c.if-found-peer.true in
    let is = then.1 (λ hit. other (let z : c.load-found.result ≡ c.peer-peer.result.taken + 1 =
    omega arith in z)) in
    ap (λ (m : plays.Knowing _). held_in (length (mine m).hands) m.1) is

pub returns-clause-found : goal.returns-clause-found
returns-clause-found g c _ =
    let f = c.args.f.now in let p = c.args.port.now in let o = c.requires.owns in
    let few = c.requires.peer in let j = c.args.sender in let t = c.requires.told in
    let then = subst (λ k. plays.told_in k (taken_by p j) (step f.board.shared.table_id.slots
    c.flag_word-word.result 0 0 maybe.none) p.seat.me c.load-found.result
    c.load-found.new.seat.me) (sym t.0)
    (subst (λ a. plays.told_in g.T.BoxStep.peer a (step f.board.shared.table_id.slots
    c.flag_word-word.result 0 0 maybe.none) p.seat.me c.load-found.result
    c.load-found.new.seat.me) (sym t.1) c.load-found.ensures.2.1) in
    let same = ap (λ (u : Tally). u.taken) c.peer-peer.ensures in
    let found = c.if-found-peer.false in
    let rs = o.2 in let is_word = c.flag_word-word.ensures in let word : ℕ = c.flag_word-word.result in
    let back : word - 4 * (knows p).ranks ≡ c.box_at-slot.result = omega arith in
    let place = ap (λ (u : Tally). u.box_got) c.peer-peer.ensures ∙ peer_box_got p j
    (calls.few f p o j few) in
    let at = c.box_at-slot.ensures.at ∙ calls.in_slot_is f p o j few
    c.peer-peer.result.box_got place in
    let told = subst (λ k. plays.IsToEmpty j (taken_by p j) k p.seat.me c.load-found.new.seat.me) back
    (then.0 (let z : c.load-found.result ≡ suc (taken_by p j) = omega arith in z)) in
    let was = calls.is_emptying f p o j few in
    let counted = ap (λ (u : Tally). u.emptying) c.peer-peer.ensures in (
      (told.0, told.1, told.2),
      ap mine told.3,
      c.take_box.ensures.hands ∙ ap (λ b. p.hands + opens b) (counted ∙ was),
    )

pub returns-clause-holding : goal.returns-clause-holding
returns-clause-holding g c =
    let f = c.args.f.now in let p = c.args.port.now in let o = c.requires.owns in
    let few = c.requires.peer in let j = c.args.sender in let t = c.requires.told in
    let then = subst (λ k. plays.told_in k (taken_by p j) (step f.board.shared.table_id.slots
    c.flag_word-word.result 0 0 maybe.none) p.seat.me c.load-found.result
    c.load-found.new.seat.me) (sym t.0)
    (subst (λ a. plays.told_in g.T.BoxStep.peer a (step f.board.shared.table_id.slots
    c.flag_word-word.result 0 0 maybe.none) p.seat.me c.load-found.result
    c.load-found.new.seat.me) (sym t.1) c.load-found.ensures.2.1) in
    let same = ap (λ (u : Tally). u.taken) c.peer-peer.ensures in
    let found = c.if-found-peer.false in
    let rs = o.2 in let is_word = c.flag_word-word.ensures in let word : ℕ = c.flag_word-word.result in
    let back : word - 4 * (knows p).ranks ≡ c.box_at-slot.result = omega arith in
    let place = ap (λ (u : Tally). u.box_got) c.peer-peer.ensures ∙ peer_box_got p j
    (calls.few f p o j few) in
    let at = c.box_at-slot.ensures.at ∙ calls.in_slot_is f p o j few
    c.peer-peer.result.box_got place in
    let told = subst (λ k. plays.IsToEmpty j (taken_by p j) k p.seat.me c.load-found.new.seat.me) back
    (then.0 (let z : c.load-found.result ≡ suc (taken_by p j) = omega arith in z)) in
    calls.begun_holds f p o j few c.load-found.new.seat.me c.box_at-slot.result (taken_by p j) at told

pub invariant_of-port-clause-alone : goal.invariant_of-port-clause-alone
invariant_of-port-clause-alone g c =
    let p = c.args.port.now in let j = c.args.sender in let t = c.requires.told in
    let then = subst (λ k. plays.told_in k (taken_by p j) (step c.args.f.now.board.shared.table_id.slots
    c.flag_word-word.result 0 0 maybe.none) p.seat.me c.load-found.result
    c.load-found.new.seat.me) (sym t.0)
    (subst (λ a. plays.told_in g.T.BoxStep.peer a (step c.args.f.now.board.shared.table_id.slots
    c.flag_word-word.result 0 0 maybe.none) p.seat.me c.load-found.result
    c.load-found.new.seat.me) (sym t.1) c.load-found.ensures.2.1) in
    let same = ap (λ (u : Tally). u.taken) c.peer-peer.ensures in
    let other = c.if-found-peer.true in
    let is = then.1 (λ hit. other (let z : c.load-found.result ≡ c.peer-peer.result.taken + 1 =
    omega arith in z)) in
    subst plays.Alone (sym is) refl

pub invariant_of-port-clause-named : goal.invariant_of-port-clause-named
invariant_of-port-clause-named g c =
    let p = c.args.port.now in let j = c.args.sender in let t = c.requires.told in
    let then = subst (λ k. plays.told_in k (taken_by p j) (step c.args.f.now.board.shared.table_id.slots
    c.flag_word-word.result 0 0 maybe.none) p.seat.me c.load-found.result
    c.load-found.new.seat.me) (sym t.0)
    (subst (λ a. plays.told_in g.T.BoxStep.peer a (step c.args.f.now.board.shared.table_id.slots
    c.flag_word-word.result 0 0 maybe.none) p.seat.me c.load-found.result
    c.load-found.new.seat.me) (sym t.1) c.load-found.ensures.2.1) in
    let same = ap (λ (u : Tally). u.taken) c.peer-peer.ensures in
    let other = c.if-found-peer.true in
    let is = then.1 (λ hit. other (let z : c.load-found.result ≡ c.peer-peer.result.taken + 1 =
    omega arith in z)) in
    ap (λ m. (mine m).rank) is ∙ p.named

pub invariant_of-port-clause-ends : goal.invariant_of-port-clause-ends
invariant_of-port-clause-ends g c =
    let p = c.args.port.now in let j = c.args.sender in let t = c.requires.told in
    let then = subst (λ k. plays.told_in k (taken_by p j) (step c.args.f.now.board.shared.table_id.slots
    c.flag_word-word.result 0 0 maybe.none) p.seat.me c.load-found.result
    c.load-found.new.seat.me) (sym t.0)
    (subst (λ a. plays.told_in g.T.BoxStep.peer a (step c.args.f.now.board.shared.table_id.slots
    c.flag_word-word.result 0 0 maybe.none) p.seat.me c.load-found.result
    c.load-found.new.seat.me) (sym t.1) c.load-found.ensures.2.1) in
    let same = ap (λ (u : Tally). u.taken) c.peer-peer.ensures in
    let other = c.if-found-peer.true in
    let is = then.1 (λ hit. other (let z : c.load-found.result ≡ c.peer-peer.result.taken + 1 =
    omega arith in z)) in
    (ap (λ m. (mine m).receive) is ∙ p.ends.0, ap (λ m. (mine m).free) is ∙ p.ends.1)

pub invariant_of-port-clause-missed : goal.invariant_of-port-clause-missed
invariant_of-port-clause-missed g c =
    let p = c.args.port.now in let j = c.args.sender in let t = c.requires.told in
    let then = subst (λ k. plays.told_in k (taken_by p j) (step c.args.f.now.board.shared.table_id.slots
    c.flag_word-word.result 0 0 maybe.none) p.seat.me c.load-found.result
    c.load-found.new.seat.me) (sym t.0)
    (subst (λ a. plays.told_in g.T.BoxStep.peer a (step c.args.f.now.board.shared.table_id.slots
    c.flag_word-word.result 0 0 maybe.none) p.seat.me c.load-found.result
    c.load-found.new.seat.me) (sym t.1) c.load-found.ensures.2.1) in
    let same = ap (λ (u : Tally). u.taken) c.peer-peer.ensures in
    let other = c.if-found-peer.true in
    let is = then.1 (λ hit. other (let z : c.load-found.result ≡ c.peer-peer.result.taken + 1 =
    omega arith in z)) in (
      ap (λ m. (mine m).receive_missed) is ∙ p.missed.0,
      ap (λ m. (mine m).free_missed) is ∙ p.missed.1,
    )

pub invariant_of-port-clause-small : goal.invariant_of-port-clause-small
invariant_of-port-clause-small g c =
    let p = c.args.port.now in let j = c.args.sender in let t = c.requires.told in
    let then = subst (λ k. plays.told_in k (taken_by p j) (step c.args.f.now.board.shared.table_id.slots
    c.flag_word-word.result 0 0 maybe.none) p.seat.me c.load-found.result
    c.load-found.new.seat.me) (sym t.0)
    (subst (λ a. plays.told_in g.T.BoxStep.peer a (step c.args.f.now.board.shared.table_id.slots
    c.flag_word-word.result 0 0 maybe.none) p.seat.me c.load-found.result
    c.load-found.new.seat.me) (sym t.1) c.load-found.ensures.2.1) in
    let same = ap (λ (u : Tally). u.taken) c.peer-peer.ensures in
    let other = c.if-found-peer.true in
    let is = then.1 (λ hit. other (let z : c.load-found.result ≡ c.peer-peer.result.taken + 1 =
    omega arith in z)) in
    subst (λ n. (p.receive.shadow ≤ n) × (p.receive.seen ≤ n) × (p.free.shadow ≤ n)
    × (p.free.seen ≤ n)) (sym (ap (λ m. length (mine m).hands) is)) p.small

pub invariant_of-port-2-clause-alone : goal.invariant_of-port-2-clause-alone
invariant_of-port-2-clause-alone g c =
    let p = c.args.port.now in let j = c.args.sender in let t = c.requires.told in
    let then = subst (λ k. plays.told_in k (taken_by p j) (step c.args.f.now.board.shared.table_id.slots
    c.flag_word-word.result 0 0 maybe.none) p.seat.me c.load-found.result
    c.load-found.new.seat.me) (sym t.0)
    (subst (λ a. plays.told_in g.T.BoxStep.peer a (step c.args.f.now.board.shared.table_id.slots
    c.flag_word-word.result 0 0 maybe.none) p.seat.me c.load-found.result
    c.load-found.new.seat.me) (sym t.1) c.load-found.ensures.2.1) in
    let same = ap (λ (u : Tally). u.taken) c.peer-peer.ensures in
    let found = c.if-found-peer.false in
    let is = (then.0 (let z : c.load-found.result ≡ suc (taken_by p j) = omega arith in z)).3 in
    subst plays.Alone (sym is) refl

pub invariant_of-port-2-clause-named : goal.invariant_of-port-2-clause-named
invariant_of-port-2-clause-named g c =
    let p = c.args.port.now in let j = c.args.sender in let t = c.requires.told in
    let then = subst (λ k. plays.told_in k (taken_by p j) (step c.args.f.now.board.shared.table_id.slots
    c.flag_word-word.result 0 0 maybe.none) p.seat.me c.load-found.result
    c.load-found.new.seat.me) (sym t.0)
    (subst (λ a. plays.told_in g.T.BoxStep.peer a (step c.args.f.now.board.shared.table_id.slots
    c.flag_word-word.result 0 0 maybe.none) p.seat.me c.load-found.result
    c.load-found.new.seat.me) (sym t.1) c.load-found.ensures.2.1) in
    let same = ap (λ (u : Tally). u.taken) c.peer-peer.ensures in
    let found = c.if-found-peer.false in
    let is = (then.0 (let z : c.load-found.result ≡ suc (taken_by p j) = omega arith in z)).3 in
    ap (λ m. (mine m).rank) is ∙ p.named

pub invariant_of-port-2-clause-ends : goal.invariant_of-port-2-clause-ends
invariant_of-port-2-clause-ends g c =
    let p = c.args.port.now in let j = c.args.sender in let t = c.requires.told in
    let then = subst (λ k. plays.told_in k (taken_by p j) (step c.args.f.now.board.shared.table_id.slots
    c.flag_word-word.result 0 0 maybe.none) p.seat.me c.load-found.result
    c.load-found.new.seat.me) (sym t.0)
    (subst (λ a. plays.told_in g.T.BoxStep.peer a (step c.args.f.now.board.shared.table_id.slots
    c.flag_word-word.result 0 0 maybe.none) p.seat.me c.load-found.result
    c.load-found.new.seat.me) (sym t.1) c.load-found.ensures.2.1) in
    let same = ap (λ (u : Tally). u.taken) c.peer-peer.ensures in
    let found = c.if-found-peer.false in
    let is = (then.0 (let z : c.load-found.result ≡ suc (taken_by p j) = omega arith in z)).3 in
    (ap (λ m. (mine m).receive) is ∙ p.ends.0, ap (λ m. (mine m).free) is ∙ p.ends.1)

pub invariant_of-port-2-clause-missed : goal.invariant_of-port-2-clause-missed
invariant_of-port-2-clause-missed g c =
    let p = c.args.port.now in let j = c.args.sender in let t = c.requires.told in
    let then = subst (λ k. plays.told_in k (taken_by p j) (step c.args.f.now.board.shared.table_id.slots
    c.flag_word-word.result 0 0 maybe.none) p.seat.me c.load-found.result
    c.load-found.new.seat.me) (sym t.0)
    (subst (λ a. plays.told_in g.T.BoxStep.peer a (step c.args.f.now.board.shared.table_id.slots
    c.flag_word-word.result 0 0 maybe.none) p.seat.me c.load-found.result
    c.load-found.new.seat.me) (sym t.1) c.load-found.ensures.2.1) in
    let same = ap (λ (u : Tally). u.taken) c.peer-peer.ensures in
    let found = c.if-found-peer.false in
    let is = (then.0 (let z : c.load-found.result ≡ suc (taken_by p j) = omega arith in z)).3 in (
      ap (λ m. (mine m).receive_missed) is ∙ p.missed.0,
      ap (λ m. (mine m).free_missed) is ∙ p.missed.1,
    )

pub invariant_of-port-2-clause-small : goal.invariant_of-port-2-clause-small
invariant_of-port-2-clause-small g c =
    let p = c.args.port.now in let j = c.args.sender in let t = c.requires.told in
    let then = subst (λ k. plays.told_in k (taken_by p j) (step c.args.f.now.board.shared.table_id.slots
    c.flag_word-word.result 0 0 maybe.none) p.seat.me c.load-found.result
    c.load-found.new.seat.me) (sym t.0)
    (subst (λ a. plays.told_in g.T.BoxStep.peer a (step c.args.f.now.board.shared.table_id.slots
    c.flag_word-word.result 0 0 maybe.none) p.seat.me c.load-found.result
    c.load-found.new.seat.me) (sym t.1) c.load-found.ensures.2.1) in
    let same = ap (λ (u : Tally). u.taken) c.peer-peer.ensures in
    let found = c.if-found-peer.false in
    let is = (then.0 (let z : c.load-found.result ≡ suc (taken_by p j) = omega arith in z)).3 in
    subst (λ n. (p.receive.shadow ≤ n) × (p.receive.seen ≤ n) × (p.free.shadow ≤ n)
    × (p.free.seen ≤ n)) (sym (ap (λ m. length (mine m).hands) is)) p.small

pub returns-clause-overtaken : goal.returns-clause-overtaken
returns-clause-overtaken g c _ = refl
