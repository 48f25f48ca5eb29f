use Rattle.std.proofs.Common.{◌≡◌, ℕ, suc, ◌+◌, ◌-◌, ◌*◌, ◌<◌, ◌≤◌, [], ◌∷◌, Some, None, IsSome, false}
use Rattle.std.proofs.Common.{length, sym, refl, ap, ◌∙◌, subst, arith, length-set}
use Rattle.std.specs.Prelude.{vec_capacity}
use Rattle.atomic_table.specs.Table.{Allows, step, rest}
use mathlib.Core.Option as maybe
use Rattle.nm_chain.specs.Spoken.{view}
use Rattle.nm_chain.specs.Update.{update}
use Rattle.nm_cells.specs.declared.tallies.Tally.{Tally}
use Rattle.nm_chain.specs.Rule.{Load, Rule, from, emptying_of, sender, number}
use Rattle.nm_chain.specs.Plays as plays
use Rattle.nm_chain.specs.Plays.{mine, sole}
use Rattle.nm_chain.specs.NextBox.{next_box}
use Rattle.nm_cells.specs.Ports.{knows, taken_by}
use Rattle.nm_cells.specs.Counted.{peer_in, all_unpassed}
use Rattle.nm_cells.proofs.PortLemmas.{peer_low, peer_box_got}
use Rattle.nm_chain.proofs.BoxStepLemmas.{empty_allowed}
use Rattle.nm_cells.proofs.BoxCallLemmas as calls
use Rattle.nm_cells.specs.LooseCells.{AreKept}
use Rattle.nm_cells.proofs.LooseLemmas.{far_apart, kept_pop}
use Rattle.nm_cells.proofs.boxes.empty.Goals as goal

some_one : {A : Type 0} (y : Load A) (j : ℕ) → sender y ≡ suc j → IsSome y
some_one (Some x) j e = refl
some_one None j e = absurd (let z : 0 ≡ suc j = e in omega arith)

pub bring_slot-requires : goal.bring_slot-requires
bring_slot-requires g c =
    let f = c.args.f.now in let p = c.args.port.now in let o = c.requires.owns in
    let few = c.requires.peer in let j = c.args.sender in let k = c.requires.taking in
    let place = ap (λ (u : Tally). u.box_got) c.peer.ensures ∙ peer_box_got p j
    (calls.few f p o j few) in
    let at = c.box_at-slot.ensures.at ∙ calls.in_slot_is f p o j few c.peer.result.box_got place in
    let y : Load _ = plays.box_load j (knows p) in
    let there = calls.box_there f p o j few false c.box_at-slot.result at y k.0 in
    record { once = there.0 }

pub store-requires : goal.store-requires
store-requires g c =
    let f = c.args.f.now in let p = c.args.port.now in let o = c.requires.owns in
    let few = c.requires.peer in let j = c.args.sender in let k = c.requires.taking in
    let place = ap (λ (u : Tally). u.box_got) c.peer.ensures ∙ peer_box_got p j
    (calls.few f p o j few) in
    let at = c.box_at-slot.ensures.at ∙ calls.in_slot_is f p o j few c.peer.result.box_got place in
    let y : Load _ = plays.box_load j (knows p) in
    let there = calls.box_there f p o j few false c.box_at-slot.result at y k.0 in
    let q = c.bring_slot.new.port in let b = c.bring_slot.ensures in let v = b.seat.1 in
    let o₂ = calls.brought_owns f p q b.seat.0 v b.same.0 o in
    let at₂ = at ∙ ap (λ u. next_box (sole u.entries) false j) (sym v) in
    let was = ap (λ u. emptying_of (sole u.entries) j) v ∙ k.0 in
    let next : number y ≡ taken_by q j = k.1 ∙ ap (λ ps. (peer_in ps.items j).taken) (sym b.same.1)
    in let slot = c.box_at-slot.result in let w = plays.load_in slot p.seat.me.1 in
    let id = f.board.shared.table_id in let z₀ = f.sizes.0 in let low = c.box_at-slot.ensures.low in
    let is_word = c.flag_word-word.ensures in
    let word : ℕ = c.flag_word-word.result in let inside : word < id.words = omega arith in
    let none : Load _ = None in
    let me : plays.Knowing _ = (q.seat.me.0, (slot, none) ∷ rest q.seat.me.1) in
    let all = subst (plays.AllBelow (knows q) j) (sym next) (calls.all_below f q o₂ j few) in (
      c.empty_slot-parcel.ensures.seat.0 ∙ b.seat.0 ∙ o.0,
      inside,
      subst (λ m. Allows (Rule g.I.Item.boxable f.board.shared.key) id.slots c.empty_slot-parcel.new.seat.id m word
          (λ _. 0) (plays.unboxed g.T.BoxStep.peer (step id.slots word 0 0 maybe.none) m))
          (sym c.empty_slot-parcel.ensures.emptied)
          (subst (λ t. Allows (Rule g.I.Item.boxable f.board.shared.key) id.slots c.empty_slot-parcel.new.seat.id me word
          (λ _. 0) (plays.unboxed t (step id.slots word 0 0 maybe.none) me)) c.requires.told
          (empty_allowed _ f.board.shared.key f.ranks f.each id.slots c.empty_slot-parcel.new.seat.id me
          q.alone f.shape.0 f.shape.1 p.rank (q.named ∙ b.same.0) o.1 j few c.peer.result.box_got
          word y (rest q.seat.me.1) (ap (λ t. (t, none) ∷ rest q.seat.me.1)
          c.box_at-slot.ensures.at)
          (place ∙ ap (λ u. length (from j (sole u.entries).got_box)) (sym v))
          (is_word ∙ ap (λ u. 4 * f.ranks + u) c.box_at-slot.ensures.at) was all)),
    )

pub count_unboxed-requires-clause-sender : goal.count_unboxed-requires-clause-sender
count_unboxed-requires-clause-sender g c =
    let f = c.args.f.now in let p = c.args.port.now in let o = c.requires.owns in
    let few = c.requires.peer in let j = c.args.sender in let k = c.requires.taking in
    let place = ap (λ (u : Tally). u.box_got) c.peer.ensures ∙ peer_box_got p j
    (calls.few f p o j few) in
    let at = c.box_at-slot.ensures.at ∙ calls.in_slot_is f p o j few c.peer.result.box_got place in
    let y : Load _ = plays.box_load j (knows p) in
    let there = calls.box_there f p o j few false c.box_at-slot.result at y k.0 in
    let q = c.bring_slot.new.port in let b = c.bring_slot.ensures in let v = b.seat.1 in
    let o₂ = calls.brought_owns f p q b.seat.0 v b.same.0 o in
    let at₂ = at ∙ ap (λ u. next_box (sole u.entries) false j) (sym v) in
    let was = ap (λ u. emptying_of (sole u.entries) j) v ∙ k.0 in
    let next : number y ≡ taken_by q j = k.1 ∙ ap (λ ps. (peer_in ps.items j).taken) (sym b.same.1)
    in let slot = c.box_at-slot.result in let w = plays.load_in slot p.seat.me.1 in
    peer_low q j (calls.few f q o₂ j few)

pub count_unboxed-requires-clause-room : goal.count_unboxed-requires-clause-room
count_unboxed-requires-clause-room g c =
    let f = c.args.f.now in let p = c.args.port.now in let o = c.requires.owns in
    let few = c.requires.peer in let j = c.args.sender in let k = c.requires.taking in
    let place = ap (λ (u : Tally). u.box_got) c.peer.ensures ∙ peer_box_got p j
    (calls.few f p o j few) in
    let at = c.box_at-slot.ensures.at ∙ calls.in_slot_is f p o j few c.peer.result.box_got place in
    let y : Load _ = plays.box_load j (knows p) in
    let there = calls.box_there f p o j few false c.box_at-slot.result at y k.0 in
    let q = c.bring_slot.new.port in let b = c.bring_slot.ensures in let v = b.seat.1 in
    let o₂ = calls.brought_owns f p q b.seat.0 v b.same.0 o in
    let at₂ = at ∙ ap (λ u. next_box (sole u.entries) false j) (sym v) in
    let was = ap (λ u. emptying_of (sole u.entries) j) v ∙ k.0 in
    let next : number y ≡ taken_by q j = k.1 ∙ ap (λ ps. (peer_in ps.items j).taken) (sym b.same.1)
    in let slot = c.box_at-slot.result in let w = plays.load_in slot p.seat.me.1 in
    (calls.got_room f q o₂ j few y next).0

pub count_unboxed-requires-clause-box_room : goal.count_unboxed-requires-clause-box_room
count_unboxed-requires-clause-box_room g c =
    let f = c.args.f.now in let p = c.args.port.now in let o = c.requires.owns in
    let few = c.requires.peer in let j = c.args.sender in let k = c.requires.taking in
    let place = ap (λ (u : Tally). u.box_got) c.peer.ensures ∙ peer_box_got p j
    (calls.few f p o j few) in
    let at = c.box_at-slot.ensures.at ∙ calls.in_slot_is f p o j few c.peer.result.box_got place in
    let y : Load _ = plays.box_load j (knows p) in
    let there = calls.box_there f p o j few false c.box_at-slot.result at y k.0 in
    let q = c.bring_slot.new.port in let b = c.bring_slot.ensures in let v = b.seat.1 in
    let o₂ = calls.brought_owns f p q b.seat.0 v b.same.0 o in
    let at₂ = at ∙ ap (λ u. next_box (sole u.entries) false j) (sym v) in
    let was = ap (λ u. emptying_of (sole u.entries) j) v ∙ k.0 in
    let next : number y ≡ taken_by q j = k.1 ∙ ap (λ ps. (peer_in ps.items j).taken) (sym b.same.1)
    in let slot = c.box_at-slot.result in let w = plays.load_in slot p.seat.me.1 in
    (calls.got_room f q o₂ j few y next).1

pub empty_slot-parcel-requires-clause-full : goal.empty_slot-parcel-requires-clause-full
empty_slot-parcel-requires-clause-full g c =
    let f = c.args.f.now in let p = c.args.port.now in let o = c.requires.owns in
    let few = c.requires.peer in let j = c.args.sender in let k = c.requires.taking in
    let place = ap (λ (u : Tally). u.box_got) c.peer.ensures ∙ peer_box_got p j
    (calls.few f p o j few) in
    let at = c.box_at-slot.ensures.at ∙ calls.in_slot_is f p o j few c.peer.result.box_got place in
    let y : Load _ = plays.box_load j (knows p) in
    let there = calls.box_there f p o j few false c.box_at-slot.result at y k.0 in
    let same = ap plays.first_load c.bring_slot.ensures.front ∙ there.1 in
    subst IsSome (sym same) (some_one y j k.2)

pub invariant_of-port-clause-carries : goal.invariant_of-port-clause-carries
invariant_of-port-clause-carries g c =
    let f = c.args.f.now in let p = c.args.port.now in let o = c.requires.owns in
    let few = c.requires.peer in let j = c.args.sender in let k = c.requires.taking in
    let place = ap (λ (u : Tally). u.box_got) c.peer.ensures ∙ peer_box_got p j
    (calls.few f p o j few) in
    let at = c.box_at-slot.ensures.at ∙ calls.in_slot_is f p o j few c.peer.result.box_got place in
    let y : Load _ = plays.box_load j (knows p) in
    let there = calls.box_there f p o j few false c.box_at-slot.result at y k.0 in
    let q = c.bring_slot.new.port in let b = c.bring_slot.ensures in let v = b.seat.1 in
    let o₂ = calls.brought_owns f p q b.seat.0 v b.same.0 o in
    let at₂ = at ∙ ap (λ u. next_box (sole u.entries) false j) (sym v) in
    let was = ap (λ u. emptying_of (sole u.entries) j) v ∙ k.0 in
    let next : number y ≡ taken_by q j = k.1 ∙ ap (λ ps. (peer_in ps.items j).taken) (sym b.same.1)
    in let slot = c.box_at-slot.result in let w = plays.load_in slot p.seat.me.1 in
    let then = subst (λ t. plays.got_boxed t c.empty_slot-parcel.new.seat.me c.store.new.seat.me)
    (sym c.requires.told) c.store.ensures.2.1 in
    let load : plays.box_load j (mine c.empty_slot-parcel.new.seat.me) ≡ y =
    ap (λ m. plays.box_load j (mine m)) c.empty_slot-parcel.ensures.emptied
    ∙ ap (λ u. plays.box_load j (sole u.entries)) v in
    let is = then.0 ∙ (λ i. (
      view (plays.with_got_box (load i ∷ [])
          (plays.with_emptying j None (mine (c.empty_slot-parcel.ensures.emptied i))) ∷ []),
      rest (c.empty_slot-parcel.ensures.emptied i).1,
    )) in
    let new = subst (λ (m : plays.Knowing _). ¬ plays.Came (mine m) j (number y))
    c.empty_slot-parcel.ensures.emptied
    (subst (λ u. ¬ plays.Came (mine c.empty_slot-parcel.new.seat.me) j (number u)) load then.1) in
    let some = calls.emptied_hands f q o₂ j few c.store.new.seat.me slot w b.front y at₂ was is in
    calls.emptied_carries f q o₂ j few c.store.new.seat.me slot w b.front y at₂ was is c.remove.new.self.items
    (vec_capacity c.remove.new.self)
    (q.hands - 1) c.remove.ensures.items c.remove.ensures.capacity
    (let z : (q.hands - 1) + 1 ≡ q.hands = omega arith in z)

pub invariant_of-port-clause-boxes : goal.invariant_of-port-clause-boxes
invariant_of-port-clause-boxes g c =
    let f = c.args.f.now in let p = c.args.port.now in let o = c.requires.owns in
    let few = c.requires.peer in let j = c.args.sender in let k = c.requires.taking in
    let place = ap (λ (u : Tally). u.box_got) c.peer.ensures ∙ peer_box_got p j
    (calls.few f p o j few) in
    let at = c.box_at-slot.ensures.at ∙ calls.in_slot_is f p o j few c.peer.result.box_got place in
    let y : Load _ = plays.box_load j (knows p) in
    let there = calls.box_there f p o j few false c.box_at-slot.result at y k.0 in
    let q = c.bring_slot.new.port in let b = c.bring_slot.ensures in let v = b.seat.1 in
    let o₂ = calls.brought_owns f p q b.seat.0 v b.same.0 o in
    let at₂ = at ∙ ap (λ u. next_box (sole u.entries) false j) (sym v) in
    let was = ap (λ u. emptying_of (sole u.entries) j) v ∙ k.0 in
    let next : number y ≡ taken_by q j = k.1 ∙ ap (λ ps. (peer_in ps.items j).taken) (sym b.same.1)
    in let slot = c.box_at-slot.result in let w = plays.load_in slot p.seat.me.1 in
    let then = subst (λ t. plays.got_boxed t c.empty_slot-parcel.new.seat.me c.store.new.seat.me)
    (sym c.requires.told) c.store.ensures.2.1 in
    let load : plays.box_load j (mine c.empty_slot-parcel.new.seat.me) ≡ y =
    ap (λ m. plays.box_load j (mine m)) c.empty_slot-parcel.ensures.emptied
    ∙ ap (λ u. plays.box_load j (sole u.entries)) v in
    let is = then.0 ∙ (λ i. (
      view (plays.with_got_box (load i ∷ [])
          (plays.with_emptying j None (mine (c.empty_slot-parcel.ensures.emptied i))) ∷ []),
      rest (c.empty_slot-parcel.ensures.emptied i).1,
    )) in
    let new = subst (λ (m : plays.Knowing _). ¬ plays.Came (mine m) j (number y))
    c.empty_slot-parcel.ensures.emptied
    (subst (λ u. ¬ plays.Came (mine c.empty_slot-parcel.new.seat.me) j (number u)) load then.1) in
    calls.emptied_boxes f q o₂ j few c.store.new.seat.me slot w b.front y at₂ was is k.2

pub invariant_of-port-clause-counts : goal.invariant_of-port-clause-counts
invariant_of-port-clause-counts g c =
    let f = c.args.f.now in let p = c.args.port.now in let o = c.requires.owns in
    let few = c.requires.peer in let j = c.args.sender in let k = c.requires.taking in
    let place = ap (λ (u : Tally). u.box_got) c.peer.ensures ∙ peer_box_got p j
    (calls.few f p o j few) in
    let at = c.box_at-slot.ensures.at ∙ calls.in_slot_is f p o j few c.peer.result.box_got place in
    let y : Load _ = plays.box_load j (knows p) in
    let there = calls.box_there f p o j few false c.box_at-slot.result at y k.0 in
    let q = c.bring_slot.new.port in let b = c.bring_slot.ensures in let v = b.seat.1 in
    let o₂ = calls.brought_owns f p q b.seat.0 v b.same.0 o in
    let at₂ = at ∙ ap (λ u. next_box (sole u.entries) false j) (sym v) in
    let was = ap (λ u. emptying_of (sole u.entries) j) v ∙ k.0 in
    let next : number y ≡ taken_by q j = k.1 ∙ ap (λ ps. (peer_in ps.items j).taken) (sym b.same.1)
    in let slot = c.box_at-slot.result in let w = plays.load_in slot p.seat.me.1 in
    let then = subst (λ t. plays.got_boxed t c.empty_slot-parcel.new.seat.me c.store.new.seat.me)
    (sym c.requires.told) c.store.ensures.2.1 in
    let load : plays.box_load j (mine c.empty_slot-parcel.new.seat.me) ≡ y =
    ap (λ m. plays.box_load j (mine m)) c.empty_slot-parcel.ensures.emptied
    ∙ ap (λ u. plays.box_load j (sole u.entries)) v in
    let is = then.0 ∙ (λ i. (
      view (plays.with_got_box (load i ∷ [])
          (plays.with_emptying j None (mine (c.empty_slot-parcel.ensures.emptied i))) ∷ []),
      rest (c.empty_slot-parcel.ensures.emptied i).1,
    )) in
    let new = subst (λ (m : plays.Knowing _). ¬ plays.Came (mine m) j (number y))
    c.empty_slot-parcel.ensures.emptied
    (subst (λ u. ¬ plays.Came (mine c.empty_slot-parcel.new.seat.me) j (number u)) load then.1) in
    calls.emptied_counts f q o₂ j few c.store.new.seat.me slot w b.front y at₂ was is k.2 next new
    c.count_unboxed.new.peers.items c.count_unboxed.ensures

pub returns-clause-owns : goal.returns-clause-owns
returns-clause-owns g c =
    let f = c.args.f.now in let p = c.args.port.now in let o = c.requires.owns in
    let few = c.requires.peer in let j = c.args.sender in let k = c.requires.taking in
    let place = ap (λ (u : Tally). u.box_got) c.peer.ensures ∙ peer_box_got p j
    (calls.few f p o j few) in
    let at = c.box_at-slot.ensures.at ∙ calls.in_slot_is f p o j few c.peer.result.box_got place in
    let y : Load _ = plays.box_load j (knows p) in
    let there = calls.box_there f p o j few false c.box_at-slot.result at y k.0 in
    let q = c.bring_slot.new.port in let b = c.bring_slot.ensures in let v = b.seat.1 in
    let o₂ = calls.brought_owns f p q b.seat.0 v b.same.0 o in
    let at₂ = at ∙ ap (λ u. next_box (sole u.entries) false j) (sym v) in
    let was = ap (λ u. emptying_of (sole u.entries) j) v ∙ k.0 in
    let next : number y ≡ taken_by q j = k.1 ∙ ap (λ ps. (peer_in ps.items j).taken) (sym b.same.1)
    in let slot = c.box_at-slot.result in let w = plays.load_in slot p.seat.me.1 in
    let then = subst (λ t. plays.got_boxed t c.empty_slot-parcel.new.seat.me c.store.new.seat.me)
    (sym c.requires.told) c.store.ensures.2.1 in
    let load : plays.box_load j (mine c.empty_slot-parcel.new.seat.me) ≡ y =
    ap (λ m. plays.box_load j (mine m)) c.empty_slot-parcel.ensures.emptied
    ∙ ap (λ u. plays.box_load j (sole u.entries)) v in
    let is = then.0 ∙ (λ i. (
      view (plays.with_got_box (load i ∷ [])
          (plays.with_emptying j None (mine (c.empty_slot-parcel.ensures.emptied i))) ∷ []),
      rest (c.empty_slot-parcel.ensures.emptied i).1,
    )) in
    let new = subst (λ (m : plays.Knowing _). ¬ plays.Came (mine m) j (number y))
    c.empty_slot-parcel.ensures.emptied
    (subst (λ u. ¬ plays.Came (mine c.empty_slot-parcel.new.seat.me) j (number u)) load then.1) in (
      calls.owns_then f q o₂ j few (c.store.ensures.0 ∙ c.empty_slot-parcel.ensures.seat.0 ∙ b.seat.0 ∙ o.0)
          c.store.new.seat.me
          (ap (λ m. (mine m).ranks) is) (ap (λ m. (mine m).each) is)
          (ap (λ m. length (mine m).hands) is)
          (ap (λ m. length (mine m).filling) is)
          (ap (λ m. length (mine m).emptying) is ∙ length-set (knows q).emptying j None),
      b.same.0,
      b.same.4,
    )

pub returns-clause-parcel : goal.returns-clause-parcel
returns-clause-parcel g c =
    let f = c.args.f.now in let p = c.args.port.now in let o = c.requires.owns in
    let few = c.requires.peer in let j = c.args.sender in let k = c.requires.taking in
    let place = ap (λ (u : Tally). u.box_got) c.peer.ensures ∙ peer_box_got p j
    (calls.few f p o j few) in
    let at = c.box_at-slot.ensures.at ∙ calls.in_slot_is f p o j few c.peer.result.box_got place in
    let y : Load _ = plays.box_load j (knows p) in
    let there = calls.box_there f p o j few false c.box_at-slot.result at y k.0 in
    let same = ap plays.first_load (sym c.empty_slot-parcel.ensures.parcel ∙ c.bring_slot.ensures.front)
    ∙ there.1 in same

pub returns-clause-got : goal.returns-clause-got
returns-clause-got g c =
    let f = c.args.f.now in let p = c.args.port.now in let o = c.requires.owns in
    let few = c.requires.peer in let j = c.args.sender in let k = c.requires.taking in
    let place = ap (λ (u : Tally). u.box_got) c.peer.ensures ∙ peer_box_got p j
    (calls.few f p o j few) in
    let at = c.box_at-slot.ensures.at ∙ calls.in_slot_is f p o j few c.peer.result.box_got place in
    let y : Load _ = plays.box_load j (knows p) in
    let there = calls.box_there f p o j few false c.box_at-slot.result at y k.0 in
    let q = c.bring_slot.new.port in let b = c.bring_slot.ensures in let v = b.seat.1 in
    let o₂ = calls.brought_owns f p q b.seat.0 v b.same.0 o in
    let at₂ = at ∙ ap (λ u. next_box (sole u.entries) false j) (sym v) in
    let was = ap (λ u. emptying_of (sole u.entries) j) v ∙ k.0 in
    let next : number y ≡ taken_by q j = k.1 ∙ ap (λ ps. (peer_in ps.items j).taken) (sym b.same.1)
    in let slot = c.box_at-slot.result in let w = plays.load_in slot p.seat.me.1 in
    let then = subst (λ t. plays.got_boxed t c.empty_slot-parcel.new.seat.me c.store.new.seat.me)
    (sym c.requires.told) c.store.ensures.2.1 in
    let load : plays.box_load j (mine c.empty_slot-parcel.new.seat.me) ≡ y =
    ap (λ m. plays.box_load j (mine m)) c.empty_slot-parcel.ensures.emptied
    ∙ ap (λ u. plays.box_load j (sole u.entries)) v in
    let is = then.0 ∙ (λ i. (
      view (plays.with_got_box (load i ∷ [])
          (plays.with_emptying j None (mine (c.empty_slot-parcel.ensures.emptied i))) ∷ []),
      rest (c.empty_slot-parcel.ensures.emptied i).1,
    )) in
    let new = subst (λ (m : plays.Knowing _). ¬ plays.Came (mine m) j (number y))
    c.empty_slot-parcel.ensures.emptied
    (subst (λ u. ¬ plays.Came (mine c.empty_slot-parcel.new.seat.me) j (number u)) load then.1) in
    let same = ap plays.first_load (sym c.empty_slot-parcel.ensures.parcel ∙ c.bring_slot.ensures.front)
    ∙ there.1 in let packet = same in
    ap mine is ∙ (λ i. plays.with_got_box (sym packet i ∷ [])
    (plays.with_emptying j None (sole (v i).entries)))

pub returns-clause-taken : goal.returns-clause-taken
returns-clause-taken g c =
    let f = c.args.f.now in let p = c.args.port.now in let o = c.requires.owns in
    let few = c.requires.peer in let j = c.args.sender in let k = c.requires.taking in
    let place = ap (λ (u : Tally). u.box_got) c.peer.ensures ∙ peer_box_got p j
    (calls.few f p o j few) in
    let at = c.box_at-slot.ensures.at ∙ calls.in_slot_is f p o j few c.peer.result.box_got place in
    let y : Load _ = plays.box_load j (knows p) in
    let there = calls.box_there f p o j few false c.box_at-slot.result at y k.0 in
    let q = c.bring_slot.new.port in let b = c.bring_slot.ensures in let v = b.seat.1 in
    let o₂ = calls.brought_owns f p q b.seat.0 v b.same.0 o in
    let at₂ = at ∙ ap (λ u. next_box (sole u.entries) false j) (sym v) in
    let was = ap (λ u. emptying_of (sole u.entries) j) v ∙ k.0 in
    let next : number y ≡ taken_by q j = k.1 ∙ ap (λ ps. (peer_in ps.items j).taken) (sym b.same.1)
    in let slot = c.box_at-slot.result in let w = plays.load_in slot p.seat.me.1 in
    let t = calls.unboxed_taken j q.peers.items (peer_low q j (calls.few f q o₂ j few)) in
    (λ i u. (ap (λ l. (peer_in l u).taken) c.count_unboxed.ensures ∙ t u) i)
    ∙ ap (λ ps. update (λ u. (peer_in ps.items u).taken) j ((peer_in ps.items j).taken + 1)) b.same.1

pub returns-clause-others : goal.returns-clause-others
returns-clause-others g c =
    let f = c.args.f.now in let p = c.args.port.now in let o = c.requires.owns in
    let few = c.requires.peer in let j = c.args.sender in let k = c.requires.taking in
    let place = ap (λ (u : Tally). u.box_got) c.peer.ensures ∙ peer_box_got p j
    (calls.few f p o j few) in
    let at = c.box_at-slot.ensures.at ∙ calls.in_slot_is f p o j few c.peer.result.box_got place in
    let y : Load _ = plays.box_load j (knows p) in
    let there = calls.box_there f p o j few false c.box_at-slot.result at y k.0 in
    let q = c.bring_slot.new.port in let b = c.bring_slot.ensures in let v = b.seat.1 in
    let o₂ = calls.brought_owns f p q b.seat.0 v b.same.0 o in
    let at₂ = at ∙ ap (λ u. next_box (sole u.entries) false j) (sym v) in
    let was = ap (λ u. emptying_of (sole u.entries) j) v ∙ k.0 in
    let next : number y ≡ taken_by q j = k.1 ∙ ap (λ ps. (peer_in ps.items j).taken) (sym b.same.1)
    in let slot = c.box_at-slot.result in let w = plays.load_in slot p.seat.me.1 in (
      b.same.2,
      ap all_unpassed c.count_unboxed.ensures
          ∙ calls.unboxed_unpassed j q.peers.items (peer_low q j (calls.few f q o₂ j few))
          ∙ ap (λ ps. all_unpassed ps.items) b.same.1,
    )

pub returns-clause-holding : goal.returns-clause-holding
returns-clause-holding g c =
    let f = c.args.f.now in let p = c.args.port.now in let o = c.requires.owns in
    let few = c.requires.peer in let j = c.args.sender in let k = c.requires.taking in
    let place = ap (λ (u : Tally). u.box_got) c.peer.ensures ∙ peer_box_got p j
    (calls.few f p o j few) in
    let at = c.box_at-slot.ensures.at ∙ calls.in_slot_is f p o j few c.peer.result.box_got place in
    let y : Load _ = plays.box_load j (knows p) in
    let there = calls.box_there f p o j few false c.box_at-slot.result at y k.0 in
    let q = c.bring_slot.new.port in let b = c.bring_slot.ensures in let v = b.seat.1 in
    let o₂ = calls.brought_owns f p q b.seat.0 v b.same.0 o in
    let at₂ = at ∙ ap (λ u. next_box (sole u.entries) false j) (sym v) in
    let was = ap (λ u. emptying_of (sole u.entries) j) v ∙ k.0 in
    let next : number y ≡ taken_by q j = k.1 ∙ ap (λ ps. (peer_in ps.items j).taken) (sym b.same.1)
    in let slot = c.box_at-slot.result in let w = plays.load_in slot p.seat.me.1 in
    let then = subst (λ t. plays.got_boxed t c.empty_slot-parcel.new.seat.me c.store.new.seat.me)
    (sym c.requires.told) c.store.ensures.2.1 in
    let load : plays.box_load j (mine c.empty_slot-parcel.new.seat.me) ≡ y =
    ap (λ m. plays.box_load j (mine m)) c.empty_slot-parcel.ensures.emptied
    ∙ ap (λ u. plays.box_load j (sole u.entries)) v in
    let is = then.0 ∙ (λ i. (
      view (plays.with_got_box (load i ∷ [])
          (plays.with_emptying j None (mine (c.empty_slot-parcel.ensures.emptied i))) ∷ []),
      rest (c.empty_slot-parcel.ensures.emptied i).1,
    )) in
    let new = subst (λ (m : plays.Knowing _). ¬ plays.Came (mine m) j (number y))
    c.empty_slot-parcel.ensures.emptied
    (subst (λ u. ¬ plays.Came (mine c.empty_slot-parcel.new.seat.me) j (number u)) load then.1) in
    calls.emptied_holds f q o₂ j few c.store.new.seat.me slot w b.front y at₂ was is ∙ b.holding

pub invariant_of-port-clause-kept : goal.invariant_of-port-clause-kept
invariant_of-port-clause-kept g c =
    let f = c.args.f.now in let p = c.args.port.now in let o = c.requires.owns in
    let few = c.requires.peer in let j = c.args.sender in let k = c.requires.taking in
    let place = ap (λ (u : Tally). u.box_got) c.peer.ensures ∙ peer_box_got p j
    (calls.few f p o j few) in
    let at = c.box_at-slot.ensures.at ∙ calls.in_slot_is f p o j few c.peer.result.box_got place in
    let y : Load _ = plays.box_load j (knows p) in
    let there = calls.box_there f p o j few false c.box_at-slot.result at y k.0 in
    let q = c.bring_slot.new.port in let b = c.bring_slot.ensures in let v = b.seat.1 in
    let o₂ = calls.brought_owns f p q b.seat.0 v b.same.0 o in
    let at₂ = at ∙ ap (λ u. next_box (sole u.entries) false j) (sym v) in
    let was = ap (λ u. emptying_of (sole u.entries) j) v ∙ k.0 in
    let next : number y ≡ taken_by q j = k.1 ∙ ap (λ ps. (peer_in ps.items j).taken) (sym b.same.1)
    in let slot = c.box_at-slot.result in let w = plays.load_in slot p.seat.me.1 in
    let then = subst (λ t. plays.got_boxed t c.empty_slot-parcel.new.seat.me c.store.new.seat.me)
    (sym c.requires.told) c.store.ensures.2.1 in
    let load : plays.box_load j (mine c.empty_slot-parcel.new.seat.me) ≡ y =
    ap (λ m. plays.box_load j (mine m)) c.empty_slot-parcel.ensures.emptied
    ∙ ap (λ u. plays.box_load j (sole u.entries)) v in
    let is = then.0 ∙ (λ i. (
      view (plays.with_got_box (load i ∷ [])
          (plays.with_emptying j None (mine (c.empty_slot-parcel.ensures.emptied i))) ∷ []),
      rest (c.empty_slot-parcel.ensures.emptied i).1,
    )) in
    let new = subst (λ (m : plays.Knowing _). ¬ plays.Came (mine m) j (number y))
    c.empty_slot-parcel.ensures.emptied
    (subst (λ u. ¬ plays.Came (mine c.empty_slot-parcel.new.seat.me) j (number u)) load then.1) in
    subst (λ (m : plays.Knowing _). AreKept q.loose (mine m) m.1) (sym is)
    (kept_pop q.loose (knows q) (rest q.seat.me.1) slot w
    (far_apart q.loose (knows q) q.seat.me.1 q.kept slot
    (subst (λ k. length (knows q).hands ≤ k) (sym at₂) (calls.far f q o₂ j few false)))
    (subst (AreKept q.loose (knows q)) b.front q.kept))

pub overflow_sub-port : goal.overflow_sub-port
overflow_sub-port g c =
    let f = c.args.f.now in let p = c.args.port.now in let o = c.requires.owns in
    let few = c.requires.peer in let j = c.args.sender in let k = c.requires.taking in
    let place = ap (λ (u : Tally). u.box_got) c.peer.ensures ∙ peer_box_got p j
    (calls.few f p o j few) in
    let at = c.box_at-slot.ensures.at ∙ calls.in_slot_is f p o j few c.peer.result.box_got place in
    let y : Load _ = plays.box_load j (knows p) in
    let there = calls.box_there f p o j few false c.box_at-slot.result at y k.0 in
    let q = c.bring_slot.new.port in let b = c.bring_slot.ensures in let v = b.seat.1 in
    let o₂ = calls.brought_owns f p q b.seat.0 v b.same.0 o in
    let at₂ = at ∙ ap (λ u. next_box (sole u.entries) false j) (sym v) in
    let was = ap (λ u. emptying_of (sole u.entries) j) v ∙ k.0 in
    let next : number y ≡ taken_by q j = k.1 ∙ ap (λ ps. (peer_in ps.items j).taken) (sym b.same.1)
    in let slot = c.box_at-slot.result in let w = plays.load_in slot p.seat.me.1 in
    let then = subst (λ t. plays.got_boxed t c.empty_slot-parcel.new.seat.me c.store.new.seat.me)
    (sym c.requires.told) c.store.ensures.2.1 in
    let load : plays.box_load j (mine c.empty_slot-parcel.new.seat.me) ≡ y =
    ap (λ m. plays.box_load j (mine m)) c.empty_slot-parcel.ensures.emptied
    ∙ ap (λ u. plays.box_load j (sole u.entries)) v in
    let is = then.0 ∙ (λ i. (
      view (plays.with_got_box (load i ∷ [])
          (plays.with_emptying j None (mine (c.empty_slot-parcel.ensures.emptied i))) ∷ []),
      rest (c.empty_slot-parcel.ensures.emptied i).1,
    )) in
    let new = subst (λ (m : plays.Knowing _). ¬ plays.Came (mine m) j (number y))
    c.empty_slot-parcel.ensures.emptied
    (subst (λ u. ¬ plays.Came (mine c.empty_slot-parcel.new.seat.me) j (number u)) load then.1) in
    let some = calls.emptied_hands f q o₂ j few c.store.new.seat.me slot w b.front y at₂ was is in
    omega arith

pub returns-clause-hands : goal.returns-clause-hands
returns-clause-hands g c =
    let f = c.args.f.now in let p = c.args.port.now in let o = c.requires.owns in
    let few = c.requires.peer in let j = c.args.sender in let k = c.requires.taking in
    let place = ap (λ (u : Tally). u.box_got) c.peer.ensures ∙ peer_box_got p j
    (calls.few f p o j few) in
    let at = c.box_at-slot.ensures.at ∙ calls.in_slot_is f p o j few c.peer.result.box_got place in
    let y : Load _ = plays.box_load j (knows p) in
    let there = calls.box_there f p o j few false c.box_at-slot.result at y k.0 in
    let q = c.bring_slot.new.port in let b = c.bring_slot.ensures in let v = b.seat.1 in
    let o₂ = calls.brought_owns f p q b.seat.0 v b.same.0 o in
    let at₂ = at ∙ ap (λ u. next_box (sole u.entries) false j) (sym v) in
    let was = ap (λ u. emptying_of (sole u.entries) j) v ∙ k.0 in
    let next : number y ≡ taken_by q j = k.1 ∙ ap (λ ps. (peer_in ps.items j).taken) (sym b.same.1)
    in let slot = c.box_at-slot.result in let w = plays.load_in slot p.seat.me.1 in
    let then = subst (λ t. plays.got_boxed t c.empty_slot-parcel.new.seat.me c.store.new.seat.me)
    (sym c.requires.told) c.store.ensures.2.1 in
    let load : plays.box_load j (mine c.empty_slot-parcel.new.seat.me) ≡ y =
    ap (λ m. plays.box_load j (mine m)) c.empty_slot-parcel.ensures.emptied
    ∙ ap (λ u. plays.box_load j (sole u.entries)) v in
    let is = then.0 ∙ (λ i. (
      view (plays.with_got_box (load i ∷ [])
          (plays.with_emptying j None (mine (c.empty_slot-parcel.ensures.emptied i))) ∷ []),
      rest (c.empty_slot-parcel.ensures.emptied i).1,
    )) in
    let new = subst (λ (m : plays.Knowing _). ¬ plays.Came (mine m) j (number y))
    c.empty_slot-parcel.ensures.emptied
    (subst (λ u. ¬ plays.Came (mine c.empty_slot-parcel.new.seat.me) j (number u)) load then.1) in
    let some = calls.emptied_hands f q o₂ j few c.store.new.seat.me slot w b.front y at₂ was is in
    let same = b.same.3 in omega arith

pub invariant_of-port-clause-alone : goal.invariant_of-port-clause-alone
invariant_of-port-clause-alone g c =
    let q = c.bring_slot.new.port in let j = c.args.sender in
    let then = subst (λ t. plays.got_boxed t c.empty_slot-parcel.new.seat.me c.store.new.seat.me)
    (sym c.requires.told) c.store.ensures.2.1 in
    let is = then.0 ∙ ap (λ m. (
      view (plays.with_got_box (plays.box_load j (mine m) ∷ [])
          (plays.with_emptying j None (mine m)) ∷ []),
      rest m.1,
    )) c.empty_slot-parcel.ensures.emptied in
    subst plays.Alone (sym is) refl

pub invariant_of-port-clause-named : goal.invariant_of-port-clause-named
invariant_of-port-clause-named g c =
    let q = c.bring_slot.new.port in let j = c.args.sender in
    let then = subst (λ t. plays.got_boxed t c.empty_slot-parcel.new.seat.me c.store.new.seat.me)
    (sym c.requires.told) c.store.ensures.2.1 in
    let is = then.0 ∙ ap (λ m. (
      view (plays.with_got_box (plays.box_load j (mine m) ∷ [])
          (plays.with_emptying j None (mine m)) ∷ []),
      rest m.1,
    )) c.empty_slot-parcel.ensures.emptied in
    ap (λ m. (mine m).rank) is ∙ q.named

pub invariant_of-port-clause-ends : goal.invariant_of-port-clause-ends
invariant_of-port-clause-ends g c =
    let q = c.bring_slot.new.port in let j = c.args.sender in
    let then = subst (λ t. plays.got_boxed t c.empty_slot-parcel.new.seat.me c.store.new.seat.me)
    (sym c.requires.told) c.store.ensures.2.1 in
    let is = then.0 ∙ ap (λ m. (
      view (plays.with_got_box (plays.box_load j (mine m) ∷ [])
          (plays.with_emptying j None (mine m)) ∷ []),
      rest m.1,
    )) c.empty_slot-parcel.ensures.emptied in
    (ap (λ m. (mine m).receive) is ∙ q.ends.0, ap (λ m. (mine m).free) is ∙ q.ends.1)

pub invariant_of-port-clause-missed : goal.invariant_of-port-clause-missed
invariant_of-port-clause-missed g c =
    let q = c.bring_slot.new.port in let j = c.args.sender in
    let then = subst (λ t. plays.got_boxed t c.empty_slot-parcel.new.seat.me c.store.new.seat.me)
    (sym c.requires.told) c.store.ensures.2.1 in
    let is = then.0 ∙ ap (λ m. (
      view (plays.with_got_box (plays.box_load j (mine m) ∷ [])
          (plays.with_emptying j None (mine m)) ∷ []),
      rest m.1,
    )) c.empty_slot-parcel.ensures.emptied in
    (ap (λ m. (mine m).receive_missed) is ∙ q.missed.0, ap (λ m. (mine m).free_missed) is ∙ q.missed.1)

pub invariant_of-port-clause-small : goal.invariant_of-port-clause-small
invariant_of-port-clause-small g c =
    let q = c.bring_slot.new.port in let j = c.args.sender in
    let then = subst (λ t. plays.got_boxed t c.empty_slot-parcel.new.seat.me c.store.new.seat.me)
    (sym c.requires.told) c.store.ensures.2.1 in
    let is = then.0 ∙ ap (λ m. (
      view (plays.with_got_box (plays.box_load j (mine m) ∷ [])
          (plays.with_emptying j None (mine m)) ∷ []),
      rest m.1,
    )) c.empty_slot-parcel.ensures.emptied in
    subst (λ n. (q.receive.shadow ≤ n) × (q.receive.seen ≤ n) × (q.free.shadow ≤ n) × (q.free.seen ≤ n)) (sym (ap (λ m. length (mine m).hands) is)) q.small
