use Rattle.std.proofs.Common.{◌≡◌, ℕ, suc, ◌+◌, ◌-◌, ◌*◌, ◌<◌, ◌≤◌, [], ◌∷◌, Some, None, true, false}
use Rattle.std.proofs.Common.{length, sym, refl, ap, ◌∙◌, subst, arith, length-set}
use Rattle.std.specs.Prelude.{vec_capacity}
use Rattle.atomic_table.specs.Table.{Allows, step, rest}
use mathlib.Core.Option as maybe
use Rattle.nm_chain.specs.Spoken.{view}
use Rattle.nm_chain.specs.declared.table.parcels.Parcel.{Parcel}
use Rattle.nm_cells.specs.declared.tallies.Tally.{Tally}
use Rattle.nm_chain.specs.Rule.{Load, Rule, put_to, filling_of, sent_to}
use Rattle.nm_chain.specs.Plays as plays
use Rattle.nm_chain.specs.Plays.{mine, sole}
use Rattle.nm_chain.specs.NextBox.{to_fill, next_box}
use Rattle.nm_cells.specs.Ports.{knows}
use Rattle.nm_cells.specs.Counted.{peer_in, all_unpassed, one_boxed}
use Rattle.nm_cells.proofs.PortLemmas.{peer_low, peer_box_put}
use Rattle.nm_chain.proofs.BoxStepLemmas.{fill_allowed}
use Rattle.nm_cells.proofs.BoxCallLemmas as calls
use Rattle.nm_cells.specs.LooseCells.{AreKept}
use Rattle.nm_cells.proofs.LooseLemmas.{far_apart, kept_pop}
use Rattle.nm_cells.proofs.boxes.fill.Goals as goal

pub bring_slot-requires : goal.bring_slot-requires
bring_slot-requires g c =
    let f = c.args.f.now in let p = c.args.port.now in let o = c.requires.owns in
    let few = c.requires.peer in let j = c.args.to in
    let place = ap (λ (u : Tally). u.box_put) c.peer.ensures ∙ peer_box_put p j
    (calls.few f p o j few) in
    let at = c.box_at-slot.ensures.at ∙ calls.out_slot_is f p o j few c.peer.result.box_put place in
    let none : Load _ = None in
    let there = calls.box_there f p o j few true c.box_at-slot.result at none
    (ap to_fill c.requires.free) in
    record { once = there.0 }

pub store-requires : goal.store-requires
store-requires g c =
    let f = c.args.f.now in let p = c.args.port.now in let o = c.requires.owns in
    let few = c.requires.peer in let j = c.args.to in
    let place = ap (λ (u : Tally). u.box_put) c.peer.ensures ∙ peer_box_put p j
    (calls.few f p o j few) in
    let at = c.box_at-slot.ensures.at ∙ calls.out_slot_is f p o j few c.peer.result.box_put place in
    let none : Load _ = None in
    let there = calls.box_there f p o j few true c.box_at-slot.result at none
    (ap to_fill c.requires.free) in
    let q = c.bring_slot.new.port in let b = c.bring_slot.ensures in let v = b.seat.1 in
    let o₂ = calls.brought_owns f p q b.seat.0 v b.same.0 o in
    let at₂ = at ∙ ap (λ u. next_box (sole u.entries) true j) (sym v) in
    let was = ap (λ u. filling_of (sole u.entries) j) v ∙ c.requires.free in
    let slot = c.box_at-slot.result in let w = plays.load_in slot p.seat.me.1 in
    let y : Load _ = Some c.args.parcel.value in
    let id = f.board.shared.table_id in let z₀ = f.sizes.0 in let low = c.box_at-slot.ensures.low in
    let is_word = c.flag_word-word.ensures in
    let word : ℕ = c.flag_word-word.result in let inside : word < id.words = omega arith in
    let me : plays.Knowing _ = (q.seat.me.0, (slot, y) ∷ rest q.seat.me.1) in
    let x : ℕ = c.deref.result.now.seq + 1 in let k = c.requires.parcel in
    let same = ap (λ (u : Parcel _). u.seq) c.deref.ensures in
    let next = k.1 ∙ ap (λ u. sent_to j (sole u.entries).put_box (sole u.entries).put) (sym v) in (
      c.fill_slot-spare.ensures.seat.0 ∙ b.seat.0 ∙ o.0,
      inside,
      subst (λ m. Allows (Rule g.I.Item.boxable f.board.shared.key) id.slots c.fill_slot-spare.new.seat.id m word
          (λ _. x) (plays.boxed g.T.BoxStep.peer (step id.slots word x 0 maybe.none) m))
          (sym c.fill_slot-spare.ensures.filled)
          (subst (λ t. Allows (Rule g.I.Item.boxable f.board.shared.key) id.slots c.fill_slot-spare.new.seat.id me word
          (λ _. x) (plays.boxed t (step id.slots word x 0 maybe.none) me)) c.requires.told
          (fill_allowed _ f.board.shared.key f.ranks f.each id.slots c.fill_slot-spare.new.seat.id me
          q.alone f.shape.0 f.shape.1 p.rank (q.named ∙ b.same.0) o.1 j few c.peer.result.box_put
          word y x (rest q.seat.me.1) (ap (λ t. (t, y) ∷ rest q.seat.me.1) c.box_at-slot.ensures.at)
          (let e : c.deref.result.now.seq + 1 ≡ suc c.args.parcel.value.seq = omega arith in e)
          (place ∙ ap (λ u. length (put_to j (sole u.entries).put_box)) (sym v))
          (is_word ∙ ap (λ k. 4 * f.ranks + k) c.box_at-slot.ensures.at) was (ap suc k.0) c.requires.fits next)),
    )

pub count_boxed-requires-clause-to : goal.count_boxed-requires-clause-to
count_boxed-requires-clause-to g c =
    let f = c.args.f.now in let p = c.args.port.now in let o = c.requires.owns in
    let few = c.requires.peer in let j = c.args.to in
    let place = ap (λ (u : Tally). u.box_put) c.peer.ensures ∙ peer_box_put p j
    (calls.few f p o j few) in
    let at = c.box_at-slot.ensures.at ∙ calls.out_slot_is f p o j few c.peer.result.box_put place in
    let none : Load _ = None in
    let there = calls.box_there f p o j few true c.box_at-slot.result at none
    (ap to_fill c.requires.free) in
    let q = c.bring_slot.new.port in let b = c.bring_slot.ensures in let v = b.seat.1 in
    let o₂ = calls.brought_owns f p q b.seat.0 v b.same.0 o in
    let at₂ = at ∙ ap (λ u. next_box (sole u.entries) true j) (sym v) in
    let was = ap (λ u. filling_of (sole u.entries) j) v ∙ c.requires.free in
    let slot = c.box_at-slot.result in let w = plays.load_in slot p.seat.me.1 in
    let y : Load _ = Some c.args.parcel.value in
    peer_low q j (calls.few f q o₂ j few)

pub count_boxed-requires-clause-room : goal.count_boxed-requires-clause-room
count_boxed-requires-clause-room g c =
    let f = c.args.f.now in let p = c.args.port.now in let o = c.requires.owns in
    let few = c.requires.peer in let j = c.args.to in
    let place = ap (λ (u : Tally). u.box_put) c.peer.ensures ∙ peer_box_put p j
    (calls.few f p o j few) in
    let at = c.box_at-slot.ensures.at ∙ calls.out_slot_is f p o j few c.peer.result.box_put place in
    let none : Load _ = None in
    let there = calls.box_there f p o j few true c.box_at-slot.result at none
    (ap to_fill c.requires.free) in
    let q = c.bring_slot.new.port in let b = c.bring_slot.ensures in let v = b.seat.1 in
    let o₂ = calls.brought_owns f p q b.seat.0 v b.same.0 o in
    let at₂ = at ∙ ap (λ u. next_box (sole u.entries) true j) (sym v) in
    let was = ap (λ u. filling_of (sole u.entries) j) v ∙ c.requires.free in
    let slot = c.box_at-slot.result in let w = plays.load_in slot p.seat.me.1 in
    let y : Load _ = Some c.args.parcel.value in
    (calls.sent_room f q o₂ j few y (c.requires.parcel.1
    ∙ ap (λ u. sent_to j (sole u.entries).put_box (sole u.entries).put) (sym v))).0

pub count_boxed-requires-clause-box_room : goal.count_boxed-requires-clause-box_room
count_boxed-requires-clause-box_room g c =
    let f = c.args.f.now in let p = c.args.port.now in let o = c.requires.owns in
    let few = c.requires.peer in let j = c.args.to in
    let place = ap (λ (u : Tally). u.box_put) c.peer.ensures ∙ peer_box_put p j
    (calls.few f p o j few) in
    let at = c.box_at-slot.ensures.at ∙ calls.out_slot_is f p o j few c.peer.result.box_put place in
    let none : Load _ = None in
    let there = calls.box_there f p o j few true c.box_at-slot.result at none
    (ap to_fill c.requires.free) in
    let q = c.bring_slot.new.port in let b = c.bring_slot.ensures in let v = b.seat.1 in
    let o₂ = calls.brought_owns f p q b.seat.0 v b.same.0 o in
    let at₂ = at ∙ ap (λ u. next_box (sole u.entries) true j) (sym v) in
    let was = ap (λ u. filling_of (sole u.entries) j) v ∙ c.requires.free in
    let slot = c.box_at-slot.result in let w = plays.load_in slot p.seat.me.1 in
    let y : Load _ = Some c.args.parcel.value in
    (calls.sent_room f q o₂ j few y (c.requires.parcel.1
    ∙ ap (λ u. sent_to j (sole u.entries).put_box (sole u.entries).put) (sym v))).1

pub invariant_of-port-clause-carries : goal.invariant_of-port-clause-carries
invariant_of-port-clause-carries g c =
    let f = c.args.f.now in let p = c.args.port.now in let o = c.requires.owns in
    let few = c.requires.peer in let j = c.args.to in
    let place = ap (λ (u : Tally). u.box_put) c.peer.ensures ∙ peer_box_put p j
    (calls.few f p o j few) in
    let at = c.box_at-slot.ensures.at ∙ calls.out_slot_is f p o j few c.peer.result.box_put place in
    let none : Load _ = None in
    let there = calls.box_there f p o j few true c.box_at-slot.result at none
    (ap to_fill c.requires.free) in
    let q = c.bring_slot.new.port in let b = c.bring_slot.ensures in let v = b.seat.1 in
    let o₂ = calls.brought_owns f p q b.seat.0 v b.same.0 o in
    let at₂ = at ∙ ap (λ u. next_box (sole u.entries) true j) (sym v) in
    let was = ap (λ u. filling_of (sole u.entries) j) v ∙ c.requires.free in
    let slot = c.box_at-slot.result in let w = plays.load_in slot p.seat.me.1 in
    let y : Load _ = Some c.args.parcel.value in
    let is = subst (λ t. plays.put_boxed t c.fill_slot-spare.new.seat.me c.store.new.seat.me)
    (sym c.requires.told) c.store.ensures.2.1 ∙ ap (λ m. (
      view (plays.with_put_box ((j, plays.first_load m.1) ∷ [])
          (plays.with_filling j false (mine m)) ∷ []),
      rest m.1,
    )) c.fill_slot-spare.ensures.filled in
    let some = calls.filled_hands f q o₂ j few c.store.new.seat.me slot w b.front y at₂ was is in
    calls.filled_carries f q o₂ j few c.store.new.seat.me slot w b.front y at₂ was is c.remove.new.self.items
    (vec_capacity c.remove.new.self)
    (q.hands - 1) c.remove.ensures.items c.remove.ensures.capacity
    (let z : (q.hands - 1) + 1 ≡ q.hands = omega arith in z)

pub invariant_of-port-clause-boxes : goal.invariant_of-port-clause-boxes
invariant_of-port-clause-boxes g c =
    let f = c.args.f.now in let p = c.args.port.now in let o = c.requires.owns in
    let few = c.requires.peer in let j = c.args.to in
    let place = ap (λ (u : Tally). u.box_put) c.peer.ensures ∙ peer_box_put p j
    (calls.few f p o j few) in
    let at = c.box_at-slot.ensures.at ∙ calls.out_slot_is f p o j few c.peer.result.box_put place in
    let none : Load _ = None in
    let there = calls.box_there f p o j few true c.box_at-slot.result at none
    (ap to_fill c.requires.free) in
    let q = c.bring_slot.new.port in let b = c.bring_slot.ensures in let v = b.seat.1 in
    let o₂ = calls.brought_owns f p q b.seat.0 v b.same.0 o in
    let at₂ = at ∙ ap (λ u. next_box (sole u.entries) true j) (sym v) in
    let was = ap (λ u. filling_of (sole u.entries) j) v ∙ c.requires.free in
    let slot = c.box_at-slot.result in let w = plays.load_in slot p.seat.me.1 in
    let y : Load _ = Some c.args.parcel.value in
    let is = subst (λ t. plays.put_boxed t c.fill_slot-spare.new.seat.me c.store.new.seat.me)
    (sym c.requires.told) c.store.ensures.2.1 ∙ ap (λ m. (
      view (plays.with_put_box ((j, plays.first_load m.1) ∷ [])
          (plays.with_filling j false (mine m)) ∷ []),
      rest m.1,
    )) c.fill_slot-spare.ensures.filled in
    calls.filled_boxes f q o₂ j few c.store.new.seat.me slot w b.front y at₂ was is

pub invariant_of-port-clause-counts : goal.invariant_of-port-clause-counts
invariant_of-port-clause-counts g c =
    let f = c.args.f.now in let p = c.args.port.now in let o = c.requires.owns in
    let few = c.requires.peer in let j = c.args.to in
    let place = ap (λ (u : Tally). u.box_put) c.peer.ensures ∙ peer_box_put p j
    (calls.few f p o j few) in
    let at = c.box_at-slot.ensures.at ∙ calls.out_slot_is f p o j few c.peer.result.box_put place in
    let none : Load _ = None in
    let there = calls.box_there f p o j few true c.box_at-slot.result at none
    (ap to_fill c.requires.free) in
    let q = c.bring_slot.new.port in let b = c.bring_slot.ensures in let v = b.seat.1 in
    let o₂ = calls.brought_owns f p q b.seat.0 v b.same.0 o in
    let at₂ = at ∙ ap (λ u. next_box (sole u.entries) true j) (sym v) in
    let was = ap (λ u. filling_of (sole u.entries) j) v ∙ c.requires.free in
    let slot = c.box_at-slot.result in let w = plays.load_in slot p.seat.me.1 in
    let y : Load _ = Some c.args.parcel.value in
    let is = subst (λ t. plays.put_boxed t c.fill_slot-spare.new.seat.me c.store.new.seat.me)
    (sym c.requires.told) c.store.ensures.2.1 ∙ ap (λ m. (
      view (plays.with_put_box ((j, plays.first_load m.1) ∷ [])
          (plays.with_filling j false (mine m)) ∷ []),
      rest m.1,
    )) c.fill_slot-spare.ensures.filled in
    calls.filled_counts f q o₂ j few c.store.new.seat.me slot w b.front y at₂ was is c.count_boxed.new.peers.items
    c.count_boxed.ensures

pub returns-clause-stays : goal.returns-clause-stays
returns-clause-stays g c =
    let f = c.args.f.now in let p = c.args.port.now in let o = c.requires.owns in
    let few = c.requires.peer in let j = c.args.to in
    let place = ap (λ (u : Tally). u.box_put) c.peer.ensures ∙ peer_box_put p j
    (calls.few f p o j few) in
    let at = c.box_at-slot.ensures.at ∙ calls.out_slot_is f p o j few c.peer.result.box_put place in
    let none : Load _ = None in
    let there = calls.box_there f p o j few true c.box_at-slot.result at none
    (ap to_fill c.requires.free) in
    let q = c.bring_slot.new.port in let b = c.bring_slot.ensures in let v = b.seat.1 in
    let o₂ = calls.brought_owns f p q b.seat.0 v b.same.0 o in
    let at₂ = at ∙ ap (λ u. next_box (sole u.entries) true j) (sym v) in
    let was = ap (λ u. filling_of (sole u.entries) j) v ∙ c.requires.free in
    let slot = c.box_at-slot.result in let w = plays.load_in slot p.seat.me.1 in
    let y : Load _ = Some c.args.parcel.value in
    let is = subst (λ t. plays.put_boxed t c.fill_slot-spare.new.seat.me c.store.new.seat.me)
    (sym c.requires.told) c.store.ensures.2.1 ∙ ap (λ m. (
      view (plays.with_put_box ((j, plays.first_load m.1) ∷ [])
          (plays.with_filling j false (mine m)) ∷ []),
      rest m.1,
    )) c.fill_slot-spare.ensures.filled in
    let s = calls.peers_stay one_boxed j q.peers.items
    (peer_low q j (calls.few f q o₂ j few)) (λ u. refl) (λ u. refl) in (
      calls.owns_then f q o₂ j few (c.store.ensures.0 ∙ c.fill_slot-spare.ensures.seat.0 ∙ b.seat.0 ∙ o.0)
          c.store.new.seat.me
          (ap (λ m. (mine m).ranks) is) (ap (λ m. (mine m).each) is)
          (ap (λ m. length (mine m).hands) is)
          (ap (λ m. length (mine m).filling) is ∙ length-set (knows q).filling j false)
          (ap (λ m. length (mine m).emptying) is),
      b.same.0,
      (
        (λ i k. (ap (λ l. (peer_in l k).taken) c.count_boxed.ensures ∙ s.0 k
            ∙ ap (λ ps. (peer_in ps.items k).taken) b.same.1) i),
        b.same.2,
        ap all_unpassed c.count_boxed.ensures ∙ s.1 ∙ ap (λ ps. all_unpassed ps.items) b.same.1,
      ),
      b.same.4,
    )

pub returns-clause-holding : goal.returns-clause-holding
returns-clause-holding g c =
    let f = c.args.f.now in let p = c.args.port.now in let o = c.requires.owns in
    let few = c.requires.peer in let j = c.args.to in
    let place = ap (λ (u : Tally). u.box_put) c.peer.ensures ∙ peer_box_put p j
    (calls.few f p o j few) in
    let at = c.box_at-slot.ensures.at ∙ calls.out_slot_is f p o j few c.peer.result.box_put place in
    let none : Load _ = None in
    let there = calls.box_there f p o j few true c.box_at-slot.result at none
    (ap to_fill c.requires.free) in
    let q = c.bring_slot.new.port in let b = c.bring_slot.ensures in let v = b.seat.1 in
    let o₂ = calls.brought_owns f p q b.seat.0 v b.same.0 o in
    let at₂ = at ∙ ap (λ u. next_box (sole u.entries) true j) (sym v) in
    let was = ap (λ u. filling_of (sole u.entries) j) v ∙ c.requires.free in
    let slot = c.box_at-slot.result in let w = plays.load_in slot p.seat.me.1 in
    let y : Load _ = Some c.args.parcel.value in
    let is = subst (λ t. plays.put_boxed t c.fill_slot-spare.new.seat.me c.store.new.seat.me)
    (sym c.requires.told) c.store.ensures.2.1 ∙ ap (λ m. (
      view (plays.with_put_box ((j, plays.first_load m.1) ∷ [])
          (plays.with_filling j false (mine m)) ∷ []),
      rest m.1,
    )) c.fill_slot-spare.ensures.filled in
    calls.filled_holds f q o₂ j few c.store.new.seat.me slot w b.front y at₂ was is ∙ b.holding

pub invariant_of-port-clause-kept : goal.invariant_of-port-clause-kept
invariant_of-port-clause-kept g c =
    let f = c.args.f.now in let p = c.args.port.now in let o = c.requires.owns in
    let few = c.requires.peer in let j = c.args.to in
    let place = ap (λ (u : Tally). u.box_put) c.peer.ensures ∙ peer_box_put p j
    (calls.few f p o j few) in
    let at = c.box_at-slot.ensures.at ∙ calls.out_slot_is f p o j few c.peer.result.box_put place in
    let none : Load _ = None in
    let there = calls.box_there f p o j few true c.box_at-slot.result at none
    (ap to_fill c.requires.free) in
    let q = c.bring_slot.new.port in let b = c.bring_slot.ensures in let v = b.seat.1 in
    let o₂ = calls.brought_owns f p q b.seat.0 v b.same.0 o in
    let at₂ = at ∙ ap (λ u. next_box (sole u.entries) true j) (sym v) in
    let was = ap (λ u. filling_of (sole u.entries) j) v ∙ c.requires.free in
    let slot = c.box_at-slot.result in let w = plays.load_in slot p.seat.me.1 in
    let y : Load _ = Some c.args.parcel.value in
    let is = subst (λ t. plays.put_boxed t c.fill_slot-spare.new.seat.me c.store.new.seat.me)
    (sym c.requires.told) c.store.ensures.2.1 ∙ ap (λ m. (
      view (plays.with_put_box ((j, plays.first_load m.1) ∷ [])
          (plays.with_filling j false (mine m)) ∷ []),
      rest m.1,
    )) c.fill_slot-spare.ensures.filled in
    subst (λ (m : plays.Knowing _). AreKept q.loose (mine m) m.1) (sym is)
    (kept_pop q.loose (knows q) (rest q.seat.me.1) slot w
    (far_apart q.loose (knows q) q.seat.me.1 q.kept slot
    (subst (λ k. length (knows q).hands ≤ k) (sym at₂) (calls.far f q o₂ j few true)))
    (subst (AreKept q.loose (knows q)) b.front q.kept))

pub overflow_sub-port : goal.overflow_sub-port
overflow_sub-port g c =
    let f = c.args.f.now in let p = c.args.port.now in let o = c.requires.owns in
    let few = c.requires.peer in let j = c.args.to in
    let place = ap (λ (u : Tally). u.box_put) c.peer.ensures ∙ peer_box_put p j
    (calls.few f p o j few) in
    let at = c.box_at-slot.ensures.at ∙ calls.out_slot_is f p o j few c.peer.result.box_put place in
    let none : Load _ = None in
    let there = calls.box_there f p o j few true c.box_at-slot.result at none
    (ap to_fill c.requires.free) in
    let q = c.bring_slot.new.port in let b = c.bring_slot.ensures in let v = b.seat.1 in
    let o₂ = calls.brought_owns f p q b.seat.0 v b.same.0 o in
    let at₂ = at ∙ ap (λ u. next_box (sole u.entries) true j) (sym v) in
    let was = ap (λ u. filling_of (sole u.entries) j) v ∙ c.requires.free in
    let slot = c.box_at-slot.result in let w = plays.load_in slot p.seat.me.1 in
    let y : Load _ = Some c.args.parcel.value in
    let is = subst (λ t. plays.put_boxed t c.fill_slot-spare.new.seat.me c.store.new.seat.me)
    (sym c.requires.told) c.store.ensures.2.1 ∙ ap (λ m. (
      view (plays.with_put_box ((j, plays.first_load m.1) ∷ [])
          (plays.with_filling j false (mine m)) ∷ []),
      rest m.1,
    )) c.fill_slot-spare.ensures.filled in
    let some = calls.filled_hands f q o₂ j few c.store.new.seat.me slot w b.front y at₂ was is in
    omega arith

pub returns-clause-hands : goal.returns-clause-hands
returns-clause-hands g c =
    let f = c.args.f.now in let p = c.args.port.now in let o = c.requires.owns in
    let few = c.requires.peer in let j = c.args.to in
    let place = ap (λ (u : Tally). u.box_put) c.peer.ensures ∙ peer_box_put p j
    (calls.few f p o j few) in
    let at = c.box_at-slot.ensures.at ∙ calls.out_slot_is f p o j few c.peer.result.box_put place in
    let none : Load _ = None in
    let there = calls.box_there f p o j few true c.box_at-slot.result at none
    (ap to_fill c.requires.free) in
    let q = c.bring_slot.new.port in let b = c.bring_slot.ensures in let v = b.seat.1 in
    let o₂ = calls.brought_owns f p q b.seat.0 v b.same.0 o in
    let at₂ = at ∙ ap (λ u. next_box (sole u.entries) true j) (sym v) in
    let was = ap (λ u. filling_of (sole u.entries) j) v ∙ c.requires.free in
    let slot = c.box_at-slot.result in let w = plays.load_in slot p.seat.me.1 in
    let y : Load _ = Some c.args.parcel.value in
    let is = subst (λ t. plays.put_boxed t c.fill_slot-spare.new.seat.me c.store.new.seat.me)
    (sym c.requires.told) c.store.ensures.2.1 ∙ ap (λ m. (
      view (plays.with_put_box ((j, plays.first_load m.1) ∷ [])
          (plays.with_filling j false (mine m)) ∷ []),
      rest m.1,
    )) c.fill_slot-spare.ensures.filled in
    let some = calls.filled_hands f q o₂ j few c.store.new.seat.me slot w b.front y at₂ was is in
    let same = b.same.3 in omega arith

pub returns-clause-put : goal.returns-clause-put
returns-clause-put g c =
    let f = c.args.f.now in let p = c.args.port.now in let o = c.requires.owns in
    let few = c.requires.peer in let j = c.args.to in
    let place = ap (λ (u : Tally). u.box_put) c.peer.ensures ∙ peer_box_put p j
    (calls.few f p o j few) in
    let at = c.box_at-slot.ensures.at ∙ calls.out_slot_is f p o j few c.peer.result.box_put place in
    let none : Load _ = None in
    let there = calls.box_there f p o j few true c.box_at-slot.result at none
    (ap to_fill c.requires.free) in
    let q = c.bring_slot.new.port in let b = c.bring_slot.ensures in let v = b.seat.1 in
    let o₂ = calls.brought_owns f p q b.seat.0 v b.same.0 o in
    let at₂ = at ∙ ap (λ u. next_box (sole u.entries) true j) (sym v) in
    let was = ap (λ u. filling_of (sole u.entries) j) v ∙ c.requires.free in
    let slot = c.box_at-slot.result in let w = plays.load_in slot p.seat.me.1 in
    let y : Load _ = Some c.args.parcel.value in
    let is = subst (λ t. plays.put_boxed t c.fill_slot-spare.new.seat.me c.store.new.seat.me)
    (sym c.requires.told) c.store.ensures.2.1 ∙ ap (λ m. (
      view (plays.with_put_box ((j, plays.first_load m.1) ∷ [])
          (plays.with_filling j false (mine m)) ∷ []),
      rest m.1,
    )) c.fill_slot-spare.ensures.filled in
    ap mine is ∙ ap (λ u. plays.with_put_box ((j, y) ∷ []) (plays.with_filling j false (sole u.entries))) v

pub invariant_of-port-clause-alone : goal.invariant_of-port-clause-alone
invariant_of-port-clause-alone g c =
    let q = c.bring_slot.new.port in let j = c.args.to in
    let is = subst (λ t. plays.put_boxed t c.fill_slot-spare.new.seat.me c.store.new.seat.me)
    (sym c.requires.told) c.store.ensures.2.1 ∙ ap (λ m. (
      view (plays.with_put_box ((j, plays.first_load m.1) ∷ [])
          (plays.with_filling j false (mine m)) ∷ []),
      rest m.1,
    )) c.fill_slot-spare.ensures.filled in
    subst plays.Alone (sym is) refl

pub invariant_of-port-clause-named : goal.invariant_of-port-clause-named
invariant_of-port-clause-named g c =
    let q = c.bring_slot.new.port in let j = c.args.to in
    let is = subst (λ t. plays.put_boxed t c.fill_slot-spare.new.seat.me c.store.new.seat.me)
    (sym c.requires.told) c.store.ensures.2.1 ∙ ap (λ m. (
      view (plays.with_put_box ((j, plays.first_load m.1) ∷ [])
          (plays.with_filling j false (mine m)) ∷ []),
      rest m.1,
    )) c.fill_slot-spare.ensures.filled in
    ap (λ m. (mine m).rank) is ∙ q.named

pub invariant_of-port-clause-ends : goal.invariant_of-port-clause-ends
invariant_of-port-clause-ends g c =
    let q = c.bring_slot.new.port in let j = c.args.to in
    let is = subst (λ t. plays.put_boxed t c.fill_slot-spare.new.seat.me c.store.new.seat.me)
    (sym c.requires.told) c.store.ensures.2.1 ∙ ap (λ m. (
      view (plays.with_put_box ((j, plays.first_load m.1) ∷ [])
          (plays.with_filling j false (mine m)) ∷ []),
      rest m.1,
    )) c.fill_slot-spare.ensures.filled in
    (ap (λ m. (mine m).receive) is ∙ q.ends.0, ap (λ m. (mine m).free) is ∙ q.ends.1)

pub invariant_of-port-clause-missed : goal.invariant_of-port-clause-missed
invariant_of-port-clause-missed g c =
    let q = c.bring_slot.new.port in let j = c.args.to in
    let is = subst (λ t. plays.put_boxed t c.fill_slot-spare.new.seat.me c.store.new.seat.me)
    (sym c.requires.told) c.store.ensures.2.1 ∙ ap (λ m. (
      view (plays.with_put_box ((j, plays.first_load m.1) ∷ [])
          (plays.with_filling j false (mine m)) ∷ []),
      rest m.1,
    )) c.fill_slot-spare.ensures.filled in
    (ap (λ m. (mine m).receive_missed) is ∙ q.missed.0, ap (λ m. (mine m).free_missed) is ∙ q.missed.1)

pub invariant_of-port-clause-small : goal.invariant_of-port-clause-small
invariant_of-port-clause-small g c =
    let q = c.bring_slot.new.port in let j = c.args.to in
    let is = subst (λ t. plays.put_boxed t c.fill_slot-spare.new.seat.me c.store.new.seat.me)
    (sym c.requires.told) c.store.ensures.2.1 ∙ ap (λ m. (
      view (plays.with_put_box ((j, plays.first_load m.1) ∷ [])
          (plays.with_filling j false (mine m)) ∷ []),
      rest m.1,
    )) c.fill_slot-spare.ensures.filled in
    subst (λ n. (q.receive.shadow ≤ n) × (q.receive.seen ≤ n) × (q.free.shadow ≤ n) × (q.free.seen ≤ n)) (sym (ap (λ m. length (mine m).hands) is)) q.small
