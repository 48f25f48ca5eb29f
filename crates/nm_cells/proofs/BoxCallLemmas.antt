-- What a port is after a step on a box's flag.
use Rattle.std.proofs.Common.{◌≡◌, ℕ, suc, ◌+◌, ◌*◌, ◌%◌, ◌<◌, ◌≤◌, Bool, true, false, Option, Some}
use Rattle.std.proofs.Common.{None, is_some, List, [], ◌∷◌, length, map, sym, refl, ap, ◌∙◌}
use Rattle.std.proofs.Common.{◌≢◌, inl, inr, ⊎_elim, subst, arith, length-set}
use Rattle.std.proofs.Math.Logic.{∥∥₁_map, ∥∥₁_elim}
use Rattle.std.proofs.Props.{props}
use Rattle.std.proofs.lemmas.List.Sums.{sum_by-set}
use Rattle.std.specs.Prelude.{remove, vec_len, vec_capacity}
use Rattle.atomic_table.specs.Table.{rest}
use Rattle.nm_chain.specs.Spoken.{view}
use Rattle.nm_chain.specs.Update.{update}
use Rattle.nm_chain.proofs.UpdateLemmas.{update_here, update_else}
use Rattle.nm_cells.specs.declared.tallies.Tally.{Tally}
use Rattle.nm_chain.specs.declared.table.table.Entry.{Entry}
use Rattle.nm_cells.specs.declared.port.Port.{Port}
use Rattle.nm_cells.specs.declared.port.Fabric.{Fabric}
use Rattle.nm_chain.specs.Rule.{Load, put_to, from, box_slot, filling_of, emptying_of, sender}
use Rattle.nm_chain.specs.Rule.{number}
use Rattle.nm_chain.specs.Plays as plays
use Rattle.nm_chain.specs.Plays.{Knowing, mine, with_filling, with_emptying, with_box_full}
use Rattle.nm_chain.specs.Plays.{with_box_miss, with_put_box, with_got_box, slots_to_fill, slots_to_empty, IsToEmpty}
use Rattle.nm_chain.specs.NextBox.{next_box, work, BoxesApart}
use Rattle.nm_cells.specs.AtWork.{HoldsBoxes}
use Rattle.nm_cells.specs.Carried.{times, held_in}
use Rattle.nm_cells.specs.Counted.{CountsFor, peer_in, new_tally, all_unpassed, with_peer, one_full}
use Rattle.nm_cells.specs.Counted.{one_miss, one_opened, one_begun, one_boxed, one_unboxed}
use Rattle.nm_cells.specs.Ports.{Owns, holding, opens, unless, sent_by, taken_by}
use Rattle.nm_chain.specs.Sequence.{Has, Got}
use mathlib.Core.Logic.{dite}
use native.Mathlib.Decide.{ℕ_discrete}
use Rattle.nm_cells.proofs.PortLemmas.{CarriesFor, peer_sent}
use Rattle.nm_cells.proofs.CarriedLemmas as carried
use Rattle.nm_cells.proofs.CarriedLemmas.{within, count_within, roomier}
use Rattle.nm_cells.proofs.CountedLemmas as counted
use Rattle.nm_cells.proofs.BoxCountedLemmas as box_counted
use Rattle.nm_cells.proofs.CountedLemmas.{peer_same, peer_here, peer_else}
use Rattle.nm_cells.proofs.NumberLemmas.{number_small}
use Rattle.nm_cells.proofs.HoldingLemmas.{held_box}
use Rattle.nm_cells.proofs.AtWorkLemmas.{behind_of}
use Rattle.nm_cells.proofs.BoxPortLemmas as boxes

-- a change that leaves what is passed on
pub peers_stay : (g : Tally → Tally) (j : ℕ) (peers : List Tally) → j < length peers
    → ((p : Tally) → (g p).taken ≡ p.taken) → ((p : Tally) → (g p).unpassed ≡ p.unpassed)
    → ((i : ℕ) → (peer_in (with_peer g j peers) i).taken ≡ (peer_in peers i).taken)
    × (all_unpassed (with_peer g j peers) ≡ all_unpassed peers)
peers_stay g j peers low taken unpassed = (
  peer_same (λ (p : Tally). p.taken) g j peers low taken,
  let s = sum_by-set (λ (p : Tally). p.unpassed) peers j (g (peer_in peers j)) new_tally low in
      let u = unpassed (peer_in peers j) in omega arith,
)

-- one more parcel of a rank came by box, and was passed on
pub unboxed_taken : (j : ℕ) (peers : List Tally) → j < length peers → (i : ℕ)
    → (peer_in (with_peer one_unboxed j peers) i).taken
    ≡ update (λ k. (peer_in peers k).taken) j ((peer_in peers j).taken + 1) i
unboxed_taken j peers low i = let taken : ℕ → ℕ = λ k. (peer_in peers k).taken in
    dite (ℕ_discrete i j)
    (λ e. ap (λ k. (peer_in (with_peer one_unboxed j peers) k).taken) e
    ∙ ap (λ (u : Tally). u.taken) (peer_here one_unboxed j peers low)
    ∙ sym (update_here taken j (taken j + 1) i e))
    (λ ne. ap (λ (u : Tally). u.taken) (peer_else one_unboxed j i peers ne)
    ∙ sym (update_else taken j (taken j + 1) i ne))

pub unboxed_unpassed : (j : ℕ) (peers : List Tally) → j < length peers
    → all_unpassed (with_peer one_unboxed j peers) ≡ all_unpassed peers
unboxed_unpassed j peers low = let s = sum_by-set (λ (p : Tally). p.unpassed) peers j
    (one_unboxed (peer_in peers j)) new_tally low in omega arith

-- whether a number came is decided
has_or_not : (k : ℕ) (xs : List ℕ) → Dec (Has k xs)
has_or_not k [] = no (λ h. h)
has_or_not k (x ∷ xs) = dite (ℕ_discrete k x) (λ e. yes (inl e))
    (λ ne. rest_of ne (has_or_not k xs)) where
      rest_of : k ≢ x → Dec (Has k xs) → Dec (Has k (x ∷ xs))
      rest_of ne (yes h) = yes (inr h)
      rest_of ne (no h) = no (λ u. ⊎_elim (λ e. ne e) (λ v. h v) u)

got_or_not : (xs ys : List ℕ) (k : ℕ) → Dec (Got xs ys k)
got_or_not xs ys k = by_both (has_or_not k xs) (has_or_not k ys) where
  by_both : Dec (Has k xs) → Dec (Has k ys) → Dec (Got xs ys k)
  by_both (yes h) d = yes (inl h)
  by_both (no n) (yes h) = yes (inr h)
  by_both (no n) (no m) = no (λ u. ⊎_elim (λ h. n h) (λ h. m h) u)

sure : {A : Type 0} → Dec A → ((¬ A) → ⊥) → A
sure (yes a) f = a
sure (no n) f = absurd (f n)

module _ {A : Type 0} where
  -- the slot that was brought to the front stays the fabric's
  pub brought_owns : (f : Fabric A) (p q : Port A) → q.seat.table_id ≡ p.seat.table_id
      → q.seat.me.0 ≡ p.seat.me.0 → q.rank ≡ p.rank → Owns f p → Owns f q
  brought_owns f p q table v rank o = (
    table ∙ o.0,
    subst (λ r. r < f.ranks) (sym rank) o.1,
    ap (λ u. (plays.sole u.entries).ranks) v ∙ o.2,
    ap (λ u. (plays.sole u.entries).each) v ∙ o.3,
    ap (λ u. length (plays.sole u.entries).hands) v ∙ o.4,
    ap (λ u. length (plays.sole u.entries).filling) v ∙ o.5,
    ap (λ u. length (plays.sole u.entries).emptying) v ∙ o.6,
  )

module _ {A : Type 0} (f : Fabric A) (p : Port A) (owns : Owns f p) (j : ℕ) (lj : j < f.ranks) where
  abbrev e : Entry A
  e = mine p.seat.me

  pub few : j < e.ranks
  few = subst (λ k. j < k) (sym owns.2) lj

  pub is_filling : (peer_in p.peers.items j).filling ≡ filling_of e j
  is_filling = ∥∥₁_elim p.counts (search props) (λ n. (n.each j few).is_filling)

  pub is_emptying : (peer_in p.peers.items j).emptying ≡ is_some (emptying_of e j)
  is_emptying = ∥∥₁_elim p.counts (search props) (λ n. (n.each j few).is_emptying)

  pub taken_small : taken_by p j ≤ 1152921504606846976
  taken_small = ∥∥₁_elim p.counts (search props) (λ n. (n.each j few).in_range)

  -- all that were passed on came, so what is awaited is the first one that is missing
  pub when_overtaken : (found : ℕ) → (plays.Overdue e j (taken_by p j)
      → found ≡ suc (taken_by p j)) → plays.Overtaken e j (taken_by p j)
      → found ≡ suc (taken_by p j)
  when_overtaken found there over =
      ∥∥₁_elim p.counts (search props) (λ n. there ((n.each j few).came, over))

  out_few : j < length e.filling
  out_few = let o = owns.5 in omega arith

  in_few : j < length e.emptying
  in_few = let o = owns.6 in omega arith

  -- the port is the fabric's still
  pub owns_then : {T : Type 0} {t u : T} → t ≡ u → (after : Knowing A)
      → (mine after).ranks ≡ e.ranks → (mine after).each ≡ e.each
      → length (mine after).hands ≡ length e.hands
      → length (mine after).filling ≡ length e.filling
      → length (mine after).emptying ≡ length e.emptying
      → (t ≡ u) × (p.rank < f.ranks) × ((mine after).ranks ≡ f.ranks)
      × ((mine after).each ≡ f.each) × (length (mine after).hands ≡ f.ranks * f.each)
      × (length (mine after).filling ≡ f.ranks) × (length (mine after).emptying ≡ f.ranks)
  owns_then table after ranks each hands outs ins = (
    table,
    owns.1,
    ranks ∙ owns.2,
    each ∙ owns.3,
    hands ∙ owns.4,
    outs ∙ owns.5,
    ins ∙ owns.6,
  )

  -- the slots of the two boxes
  pub out_slot_is : (place : ℕ) → place ≡ length (put_to j e.put_box)
      → box_slot f.ranks f.each p.rank j (place % 4) ≡ next_box e true j
  out_slot_is place at i = box_slot (sym owns.2 i) (sym owns.3 i) (sym p.named i) j (at i % 4)

  pub in_slot_is : (place : ℕ) → place ≡ length (from j e.got_box)
      → box_slot f.ranks f.each j p.rank (place % 4) ≡ next_box e false j
  in_slot_is place at i = box_slot (sym owns.2 i) (sym owns.3 i) j (sym p.named i) (at i % 4)

  pub far : (b : Bool) → length e.hands ≤ next_box e b j
  far b = subst (λ m. m ≤ next_box e b j) ((λ i. owns.2 i * owns.3 i) ∙ sym owns.4)
      (behind_of e b j few)

  -- the room for one more slot, and for one more thing in hand
  module _ (after : Knowing A) (slots : List ℕ) (hands : ℕ)
      (h : CarriesFor after slots (vec_capacity p.carried) hands)
      (long : length (mine after).hands ≡ length e.hands)
      (outs : length (mine after).filling ≡ length e.filling)
      (ins : length (mine after).emptying ≡ length e.emptying) where
    room_of : length slots ≤ vec_capacity p.carried
    room_of = let a = mine after in
        within after.1 a.hands a.filling a.emptying slots (vec_capacity p.carried) hands h

    hands_of : hands ≤ 4294967295
    hands_of = let a = mine after in
        let w = count_within after.1 a.hands a.filling a.emptying slots
        (vec_capacity p.carried) hands h in
        let o₄ = owns.4 in let o₅ = owns.5 in let o₆ = owns.6 in let s₀ = f.small.0 in
        let s₃ = f.small.3 in omega arith

  pub all_below : plays.AllBelow e j (taken_by p j)
  all_below k less = sure (got_or_not (map number (from j e.got_box)) (map number (from j e.got)) k)
      (λ n. ∥∥₁_elim p.counts (λ a b. absurd a) (λ c. n ((c.each j few).came k less)))

  -- the slot of a box at work is there once, with what the box holds
  pub box_there : (b : Bool) (slot : ℕ) → slot ≡ next_box e b j → (y : Load A) → work e b j ≡ Some y
      → (times slot (map (λ x. x.0) p.seat.me.1) ≡ 1) × (plays.load_in slot p.seat.me.1 ≡ y)
  box_there b slot at y is = (
    ap (λ k. times k (map (λ x. x.0) p.seat.me.1)) at
        ∙ boxes.box_once e p.seat.me.1 p.boxes b j few y is,
    ap (λ k. plays.load_in k p.seat.me.1) at ∙ p.boxes.1.loaded b j few y is,
  )

  -- there is room to count one more parcel
  pub sent_room : (y : Load A) → number y ≡ sent_by p j
      → ((peer_in p.peers.items j).sent < 1152921504606846976)
      × ((peer_in p.peers.items j).box_put < 2305843009213693952)
  sent_room y is = let s = peer_sent p j few in let small = number_small y in
      let less = ∥∥₁_elim p.counts (search props)
      (λ n. counted.box_put_small e.put e.got e.put_box e.got_box e.box_full e.box_miss e.filling
      e.emptying e.ranks p.peers.items p.held n j few) in (omega arith, omega arith)

  pub got_room : (y : Load A) → number y ≡ taken_by p j
      → ((peer_in p.peers.items j).taken < 1152921504606846976)
      × ((peer_in p.peers.items j).box_got < 2305843009213693952)
  got_room y is = let small = number_small y in
      let less = ∥∥₁_elim p.counts (search props) (λ n. (n.each j few).few) in
      (omega arith, omega arith)

  -- the slot of a box, which was taken last, is given back
  module _ (after : Knowing A) (slot : ℕ) (w : Load A) (front : p.seat.me.1 ≡ (slot, w) ∷ rest
      p.seat.me.1) where
    split : p.carried.items ≡ slot ∷ remove p.carried.items 0
    split = carried.first_removed p.carried.items slot (map (λ x. x.0) (rest p.seat.me.1))
        (sym p.carries.order ∙ ap (map (λ x. x.0)) front)

    module _ (y : Load A) (at : slot ≡ next_box e true j) (was : filling_of e j ≡ true)
        (is : after ≡ (
          view (with_put_box ((j, y) ∷ []) (with_filling j false e) ∷ []),
          rest p.seat.me.1,
        )) where
      pub filled_hands : 0 < p.hands
      filled_hands = carried.filling_below p.seat.me.1 e.hands e.filling e.emptying p.carried.items
          (vec_capacity p.carried) p.hands p.carries j out_few was

      pub filled_carries : (slots : List ℕ) (room hands : ℕ) → slots ≡ remove p.carried.items 0
          → room ≡ vec_capacity p.carried → hands + 1 ≡ p.hands → CarriesFor after slots room hands
      filled_carries slots room hands same more less =
          subst (λ l. CarriesFor after l room hands) (sym same)
          (subst (λ k. CarriesFor after (remove p.carried.items 0) k hands) (sym more)
          (subst (λ m. CarriesFor m (remove p.carried.items 0) (vec_capacity p.carried) hands)
          (sym is)
          (carried.box_filled p.seat.me.1 e.hands e.filling e.emptying p.carried.items
          (vec_capacity p.carried) p.hands p.carries j slot w (rest p.seat.me.1)
          (remove p.carried.items 0) front split out_few was
          (subst (λ k. length e.hands ≤ k) (sym at) (far true)) hands less)))

      pub filled_boxes : HoldsBoxes (mine after) after.1
      filled_boxes = subst (λ (m : Knowing A). HoldsBoxes (mine m) m.1) (sym is)
          (boxes.boxes_filled e (rest p.seat.me.1) j y w few out_few was
          (subst (λ k. HoldsBoxes e ((k, w) ∷ rest p.seat.me.1)) at
          (subst (HoldsBoxes e) front p.boxes)))

      pub filled_holds : held_in (length (mine after).hands) after.1 ≡ holding p
      filled_holds = ap (λ (m : Knowing A). held_in (length (mine m).hands) m.1) is
          ∙ sym (ap (held_in (length e.hands)) front
          ∙ held_box (length e.hands) slot w (rest p.seat.me.1)
          (subst (λ k. length e.hands ≤ k) (sym at) (far true)))

      pub filled_counts : (peers : List Tally) → peers ≡ with_peer one_boxed j p.peers.items
          → ∥ CountsFor (mine after) peers p.held ∥₁
      filled_counts peers same = subst (λ l. ∥ CountsFor (mine after) l p.held ∥₁) (sym same)
          (subst (λ (m : Knowing A). ∥ CountsFor (mine m) (with_peer one_boxed j p.peers.items)
          p.held ∥₁) (sym is)
          (∥∥₁_map p.counts (λ n. counted.packet_boxed e.put e.got e.put_box e.got_box e.box_full
          e.box_miss e.filling e.emptying e.ranks p.peers.items p.held n j y few)))

    module _ (y : Load A) (at : slot ≡ next_box e false j) (was : emptying_of e j ≡ Some y)
        (is : after ≡ (
          view (with_got_box (y ∷ []) (with_emptying j None e) ∷ []),
          rest p.seat.me.1,
        )) where
      pub emptied_hands : 0 < p.hands
      emptied_hands = carried.emptying_below p.seat.me.1 e.hands e.filling e.emptying
          p.carried.items (vec_capacity p.carried) p.hands p.carries j y in_few was

      pub emptied_carries : (slots : List ℕ) (room hands : ℕ) → slots ≡ remove p.carried.items 0
          → room ≡ vec_capacity p.carried → hands + 1 ≡ p.hands → CarriesFor after slots room hands
      emptied_carries slots room hands same more less =
          subst (λ l. CarriesFor after l room hands) (sym same)
          (subst (λ k. CarriesFor after (remove p.carried.items 0) k hands) (sym more)
          (subst (λ m. CarriesFor m (remove p.carried.items 0) (vec_capacity p.carried) hands)
          (sym is)
          (carried.box_emptied p.seat.me.1 e.hands e.filling e.emptying p.carried.items
          (vec_capacity p.carried) p.hands p.carries j slot y w (rest p.seat.me.1)
          (remove p.carried.items 0) front split in_few was
          (subst (λ k. length e.hands ≤ k) (sym at) (far false)) hands less)))

      pub emptied_boxes : sender y ≡ suc j → HoldsBoxes (mine after) after.1
      emptied_boxes whose = subst (λ (m : Knowing A). HoldsBoxes (mine m) m.1) (sym is)
          (boxes.boxes_emptied e (rest p.seat.me.1) j y y w few in_few was whose
          (subst (λ k. HoldsBoxes e ((k, w) ∷ rest p.seat.me.1)) at
          (subst (HoldsBoxes e) front p.boxes)))

      pub emptied_holds : held_in (length (mine after).hands) after.1 ≡ holding p
      emptied_holds = ap (λ (m : Knowing A). held_in (length (mine m).hands) m.1) is
          ∙ sym (ap (held_in (length e.hands)) front
          ∙ held_box (length e.hands) slot w (rest p.seat.me.1)
          (subst (λ k. length e.hands ≤ k) (sym at) (far false)))

      pub emptied_counts : sender y ≡ suc j → number y ≡ taken_by p j
          → ¬ plays.Came e j (number y) → (peers : List Tally)
          → peers ≡ with_peer one_unboxed j p.peers.items
          → ∥ CountsFor (mine after) peers p.held ∥₁
      emptied_counts whose next new peers same =
          subst (λ l. ∥ CountsFor (mine after) l p.held ∥₁) (sym same)
          (subst (λ (m : Knowing A). ∥ CountsFor (mine m) (with_peer one_unboxed j p.peers.items)
          p.held ∥₁) (sym is)
          (∥∥₁_map p.counts (λ n. counted.packet_unboxed e.put e.got e.put_box e.got_box e.box_full
          e.box_miss e.filling e.emptying e.ranks p.peers.items p.held n j y few whose next new)))

  module _ (after : Knowing A) (slot : ℕ) where
    -- a free box is the port's to fill
    module _ (at : slot ≡ next_box e true j) (is : after ≡ (
      view (with_filling j true e ∷ []),
      slots_to_fill (filling_of e j) slot p.seat.me.1,
    )) (apart : BoxesApart (mine after)) where
      at_once : (b : Bool) → filling_of e j ≡ b → after ≡ (
        view (with_filling j true e ∷ []),
        slots_to_fill b slot p.seat.me.1,
      )
      at_once b was = is ∙ ap (λ x. (view (with_filling j true e ∷ []), slots_to_fill x slot p.seat.me.1)) was

      apart_now : BoxesApart (with_filling j true e)
      apart_now = subst (λ (m : Knowing A). BoxesApart (mine m)) is apart

      free_carried : (b : Bool) → filling_of e j ≡ b → CarriesFor after
          (unless b (slot ∷ p.carried.items) p.carried.items) (vec_capacity p.carried)
          (p.hands + opens b)
      free_carried true was = subst (λ m. CarriesFor m p.carried.items
          (vec_capacity p.carried) (p.hands + 0)) (sym (at_once true was))
          (subst (λ k. CarriesFor (view (with_filling j true e ∷ []), p.seat.me.1) p.carried.items
          (vec_capacity p.carried) k) (let z : p.hands ≡ p.hands + 0 = omega arith in z)
          (carried.box_still_open p.seat.me.1 e.hands e.filling e.emptying p.carried.items
          (vec_capacity p.carried) p.hands p.carries j out_few was))
      free_carried false was = let none : Load A = None in
          subst (λ m. CarriesFor m (slot ∷ p.carried.items)
          (vec_capacity p.carried) (p.hands + 1)) (sym (at_once false was))
          (carried.box_opened p.seat.me.1 e.hands e.filling e.emptying p.carried.items
          (vec_capacity p.carried) p.hands p.carries j slot none out_few was
          (subst (λ k. length e.hands ≤ k) (sym at) (far true)) (p.hands + 1) refl)

      pub free_room : (b : Bool) → filling_of e j ≡ b → b ≡ false
          → (vec_len p.carried < vec_capacity p.carried) × (p.hands + 1 ≤ 4294967295)
      free_room b was shut = let c = free_carried false (was ∙ shut) in let t = at_once b was in
          let long = ap (λ (m : Knowing A). length (mine m).hands) t in
          let outs = ap (λ (m : Knowing A). length (mine m).filling) t
          ∙ length-set e.filling j true in
          let ins = ap (λ (m : Knowing A). length (mine m).emptying) t in (
            (let r = room_of after (slot ∷ p.carried.items) (p.hands + 1) c long outs ins in
                omega arith),
            hands_of after (slot ∷ p.carried.items) (p.hands + 1) c long outs ins,
          )

      pub free_carries : (b : Bool) → filling_of e j ≡ b → (slots : List ℕ) (room hands : ℕ)
          → slots ≡ unless b (slot ∷ p.carried.items) p.carried.items
          → vec_capacity p.carried ≤ room → hands ≡ p.hands + opens b
          → CarriesFor after slots room hands
      free_carries b was slots room hands same more count = let a = mine after in
          subst (λ l. CarriesFor after l room hands) (sym same)
          (subst (λ k. CarriesFor after (unless b (slot ∷ p.carried.items) p.carried.items) room k)
          (sym count)
          (roomier after.1 a.hands a.filling a.emptying
          (unless b (slot ∷ p.carried.items) p.carried.items) (vec_capacity p.carried) room
          (p.hands + opens b) more (free_carried b was)))

      pub free_boxes : (b : Bool) → filling_of e j ≡ b → HoldsBoxes (mine after) after.1
      free_boxes true was = subst (λ (m : Knowing A). HoldsBoxes (mine m) m.1)
          (sym (at_once true was))
          (boxes.boxes_still_open e p.seat.me.1 p.boxes j out_few was apart_now)
      free_boxes false was = let none : Load A = None in
          subst (λ (m : Knowing A). HoldsBoxes (mine m) m.1) (sym (at_once false was))
          (subst (λ k. HoldsBoxes (with_filling j true e) ((k, none) ∷ p.seat.me.1)) (sym at)
          (boxes.boxes_opened e p.seat.me.1 p.boxes j few out_few was apart_now))

      pub free_holds : (b : Bool) → filling_of e j ≡ b
          → held_in (length (mine after).hands) after.1 ≡ holding p
      free_holds true was = ap (λ (m : Knowing A). held_in (length (mine m).hands) m.1)
          (at_once true was)
      free_holds false was = let none : Load A = None in
          ap (λ (m : Knowing A). held_in (length (mine m).hands) m.1) (at_once false was)
          ∙ held_box (length e.hands) slot none p.seat.me.1
          (subst (λ k. length e.hands ≤ k) (sym at) (far true))

      pub free_counts : (peers : List Tally) → peers ≡ with_peer one_opened j p.peers.items
          → ∥ CountsFor (mine after) peers p.held ∥₁
      free_counts peers same = subst (λ l. ∥ CountsFor (mine after) l p.held ∥₁) (sym same)
          (subst (λ (m : Knowing A). ∥ CountsFor (mine m) (with_peer one_opened j p.peers.items)
          p.held ∥₁) (sym is)
          (∥∥₁_map p.counts (λ n. box_counted.box_opened e.put e.got e.put_box e.got_box e.box_full
          e.box_miss e.filling e.emptying e.ranks p.peers.items p.held n j few)))

    -- a full box is the port's to empty
    module _ (a : ℕ) (at : slot ≡ next_box e false j)
        (told : IsToEmpty j a slot p.seat.me after) where
      abbrev y : Load A
      y = plays.box_load j (mine after)

      is_some_of : (x : Option (Load A)) → emptying_of e j ≡ x → (b : Bool)
          → is_some (emptying_of e j) ≡ b → b ≡ is_some x
      is_some_of x is b was = sym was ∙ ap is_some is

      now : (x : Option (Load A)) → emptying_of e j ≡ x → after ≡ (
        view (with_emptying j (Some y) e ∷ []),
        slots_to_empty x slot y p.seat.me.1,
      )
      now x was = told.3 ∙ ap (λ u. (view (with_emptying j (Some y) e ∷ []), slots_to_empty u slot y p.seat.me.1)) was

      apart_then : BoxesApart (with_emptying j (Some y) e)
      apart_then = subst (λ (m : Knowing A). BoxesApart (mine m)) told.3 told.4

      begun_carried : (x : Option (Load A)) → emptying_of e j ≡ x → CarriesFor after
          (unless (is_some x) (slot ∷ p.carried.items) p.carried.items) (vec_capacity p.carried)
          (p.hands + opens (is_some x))
      begun_carried (Some z) was = subst (λ m. CarriesFor m p.carried.items
          (vec_capacity p.carried) (p.hands + 0)) (sym (now (Some z) was))
          (subst (λ k. CarriesFor (view (with_emptying j (Some y) e ∷ []), p.seat.me.1)
          p.carried.items (vec_capacity p.carried) k)
          (let q : p.hands ≡ p.hands + 0 = omega arith in q)
          (carried.box_still_begun p.seat.me.1 e.hands e.filling e.emptying p.carried.items
          (vec_capacity p.carried) p.hands p.carries j y z in_few was))
      begun_carried None was = subst (λ m. CarriesFor m (slot ∷ p.carried.items)
          (vec_capacity p.carried) (p.hands + 1)) (sym (now None was))
          (carried.box_begun p.seat.me.1 e.hands e.filling e.emptying p.carried.items
          (vec_capacity p.carried) p.hands p.carries j slot y y in_few was
          (subst (λ k. length e.hands ≤ k) (sym at) (far false)) (p.hands + 1) refl)

      none_of : (x : Option (Load A)) → emptying_of e j ≡ x → is_some x ≡ false
          → emptying_of e j ≡ None
      none_of None is shut = is
      none_of (Some z) is shut = absurd (let q = shut in cc)

      pub begun_room : (b : Bool) → is_some (emptying_of e j) ≡ b → b ≡ false
          → (vec_len p.carried < vec_capacity p.carried) × (p.hands + 1 ≤ 4294967295)
      begun_room b was shut =
          let c = begun_carried None (none_of (emptying_of e j) refl (was ∙ shut)) in
          let long = ap (λ (m : Knowing A). length (mine m).hands) told.3 in
          let outs = ap (λ (m : Knowing A). length (mine m).filling) told.3 in
          let ins = ap (λ (m : Knowing A). length (mine m).emptying) told.3
          ∙ length-set e.emptying j (Some y) in (
            (let r = room_of after (slot ∷ p.carried.items) (p.hands + 1) c long outs ins in
                omega arith),
            hands_of after (slot ∷ p.carried.items) (p.hands + 1) c long outs ins,
          )

      pub begun_carries : (b : Bool) → is_some (emptying_of e j) ≡ b → (slots : List ℕ)
          (room hands : ℕ) → slots ≡ unless b (slot ∷ p.carried.items) p.carried.items
          → vec_capacity p.carried ≤ room → hands ≡ p.hands + opens b
          → CarriesFor after slots room hands
      begun_carries b was slots room hands same more count = let a = mine after in
          subst (λ l. CarriesFor after l room hands) (sym same)
          (subst (λ k. CarriesFor after (unless b (slot ∷ p.carried.items) p.carried.items) room k)
          (sym count)
          (subst (λ u. CarriesFor after (unless u (slot ∷ p.carried.items) p.carried.items) room
          (p.hands + opens u)) was
          (roomier after.1 a.hands a.filling a.emptying
          (unless (is_some (emptying_of e j)) (slot ∷ p.carried.items) p.carried.items)
          (vec_capacity p.carried) room (p.hands + opens (is_some (emptying_of e j))) more
          (begun_carried (emptying_of e j) refl))))

      pub begun_boxes : HoldsBoxes (mine after) after.1
      begun_boxes = by_work (emptying_of e j) refl where
        by_work : (x : Option (Load A)) → emptying_of e j ≡ x → HoldsBoxes (mine after) after.1
        by_work (Some z) was = subst (λ (m : Knowing A). HoldsBoxes (mine m) m.1)
            (sym (now (Some z) was))
            (boxes.boxes_still_begun e p.seat.me.1 p.boxes j y in_few
            (was ∙ ap Some (told.5 z was)) apart_then)
        by_work None was = subst (λ (m : Knowing A). HoldsBoxes (mine m) m.1) (sym (now None was))
            (subst (λ k. HoldsBoxes (with_emptying j (Some y) e) ((k, y) ∷ p.seat.me.1)) (sym at)
            (boxes.boxes_begun e p.seat.me.1 p.boxes j y few in_few was apart_then))

      pub begun_holds : held_in (length (mine after).hands) after.1 ≡ holding p
      begun_holds = by_work (emptying_of e j) refl where
        by_work : (x : Option (Load A)) → emptying_of e j ≡ x
            → held_in (length (mine after).hands) after.1 ≡ holding p
        by_work (Some z) was = ap (λ (m : Knowing A). held_in (length (mine m).hands) m.1)
            (now (Some z) was)
        by_work None was = ap (λ (m : Knowing A). held_in (length (mine m).hands) m.1) (now None was)
            ∙ held_box (length e.hands) slot y p.seat.me.1
            (subst (λ k. length e.hands ≤ k) (sym at) (far false))

      pub begun_counts : (peers : List Tally) → peers ≡ with_peer one_begun j p.peers.items
          → ∥ CountsFor (mine after) peers p.held ∥₁
      begun_counts peers same = subst (λ l. ∥ CountsFor (mine after) l p.held ∥₁) (sym same)
          (subst (λ (m : Knowing A). ∥ CountsFor (mine m) (with_peer one_begun j p.peers.items)
          p.held ∥₁) (sym told.3)
          (∥∥₁_map p.counts (λ n. box_counted.box_begun e.put e.got e.put_box e.got_box e.box_full
          e.box_miss e.filling e.emptying e.ranks p.peers.items p.held n j y few)))

    -- nothing but a count of misses changes
    pub full_counts : after ≡ (view (with_box_full j e ∷ []), p.seat.me.1) → (peers : List Tally)
        → peers ≡ with_peer one_full j p.peers.items → ∥ CountsFor (mine after) peers p.held ∥₁
    full_counts is peers same = subst (λ l. ∥ CountsFor (mine after) l p.held ∥₁) (sym same)
        (subst (λ (m : Knowing A). ∥ CountsFor (mine m) (with_peer one_full j p.peers.items)
        p.held ∥₁) (sym is)
        (∥∥₁_map p.counts (λ n. box_counted.box_found_full e.put e.got e.put_box e.got_box e.box_full
        e.box_miss e.filling e.emptying e.ranks p.peers.items p.held n j few)))

    pub miss_counts : after ≡ (view (with_box_miss j e ∷ []), p.seat.me.1) → (peers : List Tally)
        → peers ≡ with_peer one_miss j p.peers.items → ∥ CountsFor (mine after) peers p.held ∥₁
    miss_counts is peers same = subst (λ l. ∥ CountsFor (mine after) l p.held ∥₁) (sym same)
        (subst (λ (m : Knowing A). ∥ CountsFor (mine m) (with_peer one_miss j p.peers.items)
        p.held ∥₁) (sym is)
        (∥∥₁_map p.counts (λ n. box_counted.box_missed e.put e.got e.put_box e.got_box e.box_full
        e.box_miss e.filling e.emptying e.ranks p.peers.items p.held n j few)))
