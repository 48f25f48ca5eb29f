-- What each kind of step does to what a port carries and counts.
use Rattle.std.proofs.Common.{◌≡◌, ℕ, suc, ◌+◌, ◌*◌, ◌/◌, ◌<◌, ◌≤◌}
use Rattle.std.proofs.Common.{Option, Some, None, List, [], ◌∷◌, ◌++◌, length, map, set, sym}
use Rattle.std.proofs.Common.{refl, ap, ◌∙◌, subst, arith, length-set, append-nil, IsSome}
use Rattle.std.proofs.Common.{get_or-set_same}
use Rattle.std.proofs.Math.Logic.{∥∥₁_map, ∥∥₁_elim}
use Rattle.std.proofs.Props.{props}
use Rattle.std.specs.Prelude.{remove, slice_index, vec_len, vec_capacity}
use Rattle.nm_chain.proofs.UpdateLemmas.{update_here}
use Rattle.nm_chain.proofs.BoxLemmas.{owner_below}
use native.Mathlib.Decide.{dec_le}
use Rattle.atomic_table.specs.Table.{rest}
use Rattle.nm_chain.specs.declared.table.parcels.Parcel.{Parcel}
use Rattle.nm_chain.specs.Spoken.{view}
use Rattle.nm_chain.specs.Update.{update}
use Rattle.nm_cells.specs.declared.tallies.Tally.{Tally}
use Rattle.nm_chain.specs.declared.table.table.Heads.{Heads}
use Rattle.nm_chain.specs.declared.table.table.Hand.{Hand}
use Rattle.nm_chain.specs.declared.table.table.Hand.TheVariants.{Away, Loose, Held, Ready, Entering}
use Rattle.nm_chain.specs.Chain.{item}
use Rattle.nm_chain.specs.Rule.{Load, Suits, hand, sender, number, sent_to, posted, put_to, from}
use Rattle.nm_chain.specs.Plays as plays
use Rattle.nm_chain.specs.Plays.{Knowing, mine, InHand, with_hand, with_put, Took}
use Rattle.nm_cells.specs.Carried.{times, slots_with, in_hand, Carries, held_in}
use Rattle.nm_cells.specs.declared.cell.Queue as cells
use Rattle.nm_cells.specs.declared.cell.Queue.TheVariants.{Receive, Free}
use Rattle.nm_cells.specs.declared.port.Port.{Port}
use Rattle.nm_cells.specs.declared.port.Fabric.{Fabric}
use Rattle.nm_cells.specs.declared.cell.Cell.{Cell}
use Rattle.nm_cells.specs.Ports.{Owns, Takes, holding, sent_by, arrivals, queue_of, rank_of_queue}
use Rattle.nm_cells.specs.Ports.{posted_in, sent_into, HasRoomFor, MayJoin}
use Rattle.std.proofs.lemmas.List.Sums.{sum_by-set}
use Rattle.nm_cells.specs.Counted.{CountsFor, counted_after, peer_in, new_tally, all_unpassed}
use Rattle.nm_cells.specs.Counted.{Counts, with_peer, one_sent, one_arrived, IsUnpassedOf, IsOneOf}
use Rattle.nm_chain.specs.declared.table.table.Entry.{Entry}
use mathlib.Core.Logic.{dite}
use Rattle.nm_chain.proofs.QueueLemmas.{below_yes, below_no}
use Rattle.nm_chain.specs.OwnQueues.{OwnQueue, receive_queue, free_queue}
use Rattle.nm_cells.proofs.CarriedLemmas.{none_in_hand, within, count_within, hand_changes}
use Rattle.nm_cells.proofs.CarriedLemmas.{cell_taken, cell_given, in_hand_one, in_hand_below}
use Rattle.nm_cells.proofs.CarriedLemmas.{first_removed, roomier}
use Rattle.nm_cells.proofs.CountedLemmas.{packet_sent, packet_arrived, peer_same}
use Rattle.nm_cells.proofs.NumberLemmas.{number_small}
use Rattle.nm_cells.proofs.CountedLemmas.{unpassed_small}
use Rattle.nm_cells.proofs.NumberLemmas.{from_here, one_of_last}
use Rattle.nm_cells.proofs.HoldingLemmas.{held_taken, given_held}
use Rattle.nm_cells.specs.AtWork.{HoldsBoxes}
use Rattle.nm_cells.specs.LooseCells.{IsAmong, AreKept}
use Rattle.nm_cells.proofs.LooseLemmas.{away_apart, kept_took}
use Rattle.nm_cells.proofs.BoxPortLemmas.{boxes_took}

module _ {A : Type 0} where
  -- what a port carries, by its seat
  abbrev pub CarriesFor : Knowing A → List ℕ → ℕ → ℕ → Type 0
  CarriesFor me carried room count = Carries me.1 (mine me).hands (mine me).filling
      (mine me).emptying carried room count

  one_in_hand : (h : Hand A) → InHand h → in_hand h ≡ 1
  one_in_hand Away i = absurd i
  one_in_hand Loose i = absurd i
  one_in_hand Held i = refl
  one_in_hand (Ready y) i = refl
  one_in_hand (Entering q t) i = absurd i

module _ {A : Type 0} (me after : Knowing A) (carried : List ℕ) (room count : ℕ)
    (h : CarriesFor me carried room count) where
  -- the link of a cell in hand is cleared
  pub cleared_carries : (c : ℕ) (y : Load A) → after ≡ (
    view (with_hand c (Ready y) (mine me) ∷ []),
    me.1,
  ) → c < length (mine me).hands → InHand (hand (mine me) c)
      → CarriesFor after carried room count
  cleared_carries c y is low i = let e = mine me in
      subst (λ m. CarriesFor m carried room count) (sym is)
      (hand_changes me.1 e.hands e.filling e.emptying carried room count h c (Ready y) low
      (sym (in_hand_one (hand e c) i)) count (let one = one_in_hand (hand e c) i in
      omega arith))

  -- an enqueue is done
  pub finished_carries : (c q t count' : ℕ) → after ≡ (view (with_hand c Away (mine me) ∷ []), me.1)
      → c < length (mine me).hands → hand (mine me) c ≡ Entering q t → count' + 1 ≡ count
      → CarriesFor after carried room count'
  finished_carries c q t count' is low was less = let e = mine me in
      subst (λ m. CarriesFor m carried room count') (sym is)
      (hand_changes me.1 e.hands e.filling e.emptying carried room count h c Away low
      (sym (ap slots_with was)) count' (let one = ap in_hand was in omega arith))

  -- something is in hand while an enqueue is pending
  pub some_in_hand : (c q t : ℕ) → c < length (mine me).hands → hand (mine me) c ≡ Entering q t
      → 0 < count
  some_in_hand c q t low was = let e = mine me in
      in_hand_below me.1 e.hands e.filling e.emptying carried room count h c low (ap in_hand was)

  -- a cell is in a queue
  pub swapped_carries : (c q t : ℕ) (y z : Load A) (xs : List (ℕ × Load A))
      → after ≡ (view (with_put xs (with_hand c (Entering q t) (mine me)) ∷ []), rest me.1)
      → me.1 ≡ (c, y) ∷ rest me.1 → c < length (mine me).hands → hand (mine me) c ≡ Ready z
      → CarriesFor after (remove carried 0) room count
  swapped_carries c q t y z xs is front low was = let e = mine me in
      let split : carried ≡ c ∷ remove carried 0 =
      first_removed carried c (map (λ x. x.0) (rest me.1)) (sym h.order ∙ ap (map (λ x. x.0)) front)
      in
      subst (λ m. CarriesFor m (remove carried 0) room count) (sym is)
      (cell_given me.1 e.hands e.filling e.emptying carried room count h c (Entering q t) low y
      (rest me.1) (remove carried 0) front split (ap slots_with was) refl
      (sym (ap in_hand was)))

  -- and its slot is out no more
  pub swapped_holds : (c q t : ℕ) (y z : Load A) (xs : List (ℕ × Load A))
      → after ≡ (view (with_put xs (with_hand c (Entering q t) (mine me)) ∷ []), rest me.1)
      → me.1 ≡ (c, y) ∷ rest me.1 → c < length (mine me).hands → hand (mine me) c ≡ Ready z
      → held_in (length (mine after).hands) after.1 ≡ update
      (held_in (length (mine me).hands) me.1) c None
  swapped_holds c q t y z xs is front low was = let e = mine me in
      ap (λ m. held_in (length (mine m).hands) m.1) is ∙ ap (λ k. held_in k (rest me.1))
      (length-set e.hands c (Entering q t))
      ∙ given_held c None y me.1 (rest me.1) front (length e.hands) low
      (ap (times c) h.order ∙ h.cells c low ∙ ap slots_with was)

  -- the first cell of an own queue is in hand
  pub took_carries : (b : OwnQueue) (c shadow room' count' : ℕ) → Took b c shadow me after
      → room ≤ room' → count' ≡ count + 1 → CarriesFor after (c ∷ carried) room' count'
  took_carries receive_queue c shadow room' count' t more less = let e = mine me in
      subst (λ m. CarriesFor m (c ∷ carried) room' count') (sym t.after_is)
      (roomier ((c, t.load) ∷ me.1) (set e.hands c Held) e.filling e.emptying
      (c ∷ carried) room room' count' more
      (cell_taken me.1 e.hands e.filling e.emptying carried room count h c Held t.low t.load
      t.away refl refl count' less))
  took_carries free_queue c shadow room' count' t more less = let e = mine me in
      subst (λ m. CarriesFor m (c ∷ carried) room' count') (sym t.after_is)
      (roomier ((c, t.load) ∷ me.1) (set e.hands c Held) e.filling e.emptying
      (c ∷ carried) room room' count' more
      (cell_taken me.1 e.hands e.filling e.emptying carried room count h c Held t.low t.load
      t.away refl refl count' less))

  pub took_holds : (b : OwnQueue) (c shadow : ℕ) → (t : Took b c shadow me after)
      → held_in (length (mine after).hands) after.1 ≡ update
      (held_in (length (mine me).hands) me.1) c t.load
  took_holds receive_queue c shadow t = let e = mine me in
      ap (λ m. held_in (length (mine m).hands) m.1) t.after_is
      ∙ ap (λ k. held_in k ((c, t.load) ∷ me.1)) (length-set e.hands c Held)
      ∙ held_taken (length e.hands) c t.load me.1 t.low
  took_holds free_queue c shadow t = let e = mine me in
      ap (λ m. held_in (length (mine m).hands) m.1) t.after_is
      ∙ ap (λ k. held_in k ((c, t.load) ∷ me.1)) (length-set e.hands c Held)
      ∙ held_taken (length e.hands) c t.load me.1 t.low

module _ {A : Type 0} (me after : Knowing A) (peers : List Tally) (held : Option (Parcel A))
    (low : (mine me).rank < (mine me).ranks) where
  pub took_counts : (b : OwnQueue) (c shadow i : ℕ) → i ≡ c / (mine me).each → i < (mine me).ranks
      → Took b c shadow me after → ∥ CountsFor (mine me) peers held ∥₁
      → ∥ CountsFor (mine after) (counted_after b i peers) held ∥₁
  took_counts receive_queue c shadow i is li t h = let e = mine me in let y = t.load in
      ∥∥₁_map h (λ n. subst (λ m. CountsFor (mine m) (with_peer one_arrived i peers) held)
      (sym t.after_is)
      (subst (λ g. Counts e.put g e.put_box e.got_box e.box_full e.box_miss e.filling e.emptying
      e.ranks (with_peer one_arrived i peers) held)
      (ap (λ u. e.got ++ u) (sym (below_yes (dec_le (suc e.rank) e.ranks) (y ∷ []) [] low)))
      (subst (λ k. Counts e.put (e.got ++ y ∷ []) e.put_box e.got_box e.box_full e.box_miss
      e.filling e.emptying e.ranks (with_peer one_arrived k peers) held) (sym is)
      (packet_arrived e.put e.got e.put_box e.got_box e.box_full e.box_miss e.filling e.emptying
      e.ranks peers held n (c / e.each) y (subst (λ k. k < e.ranks) is li)
      (t.suits.0 low) t.news.0 t.news.1))))
  took_counts free_queue c shadow i is li t h = let e = mine me in let y = t.load in
      ∥∥₁_map h (λ n. subst (λ m. CountsFor (mine m) peers held) (sym t.after_is)
      (subst (λ g. Counts e.put g e.put_box e.got_box e.box_full e.box_miss e.filling e.emptying
      e.ranks peers held) (sym
      (ap (λ u. e.got ++ u) (below_no (dec_le (suc (e.ranks + e.rank)) e.ranks) (y ∷ []) []
      (λ l. omega arith)) ∙ append-nil e.got)) n))

module _ {A : Type 0} where
  -- what an enqueue puts, by the queue's name
  pub posted_is : (n : ℕ) (q : cells.Queue) (y : Load A) → rank_of_queue q < n
      → posted n (queue_of n q) y ≡ posted_in q y
  posted_is n (Receive j) y low = below_yes (dec_le (suc j) n) ((j, y) ∷ []) [] low
  posted_is n (Free j) y low = below_no (dec_le (suc (n + j)) n) ((n + j, y) ∷ []) []
      (λ l. omega arith)

  pub sent_counts : (me after : Knowing A) (peers : List Tally) (held : Option (Parcel A)) (q : cells.Queue)
      (y : Load A) (c : ℕ) (h : Hand A) (hs : List (ℕ × Load A))
      → after ≡ (view (with_put (posted_in q y) (with_hand c h (mine me)) ∷ []), hs)
      → rank_of_queue q < (mine me).ranks → ∥ CountsFor (mine me) peers held ∥₁
      → ∥ CountsFor (mine after) (sent_into q peers) held ∥₁
  sent_counts me after peers held (Receive j) y c h hs is low t = let e = mine me in
      ∥∥₁_map t (λ n. subst (λ m. CountsFor (mine m) (with_peer one_sent j peers) held) (sym is)
      (packet_sent e.put e.got e.put_box e.got_box e.box_full e.box_miss e.filling e.emptying e.ranks
      peers held n j y low))
  sent_counts me after peers held (Free j) y c h hs is low t = let e = mine me in
      ∥∥₁_map t (λ n. subst (λ m. CountsFor (mine m) peers held) (sym is)
      (subst (λ u. Counts u e.got e.put_box e.got_box e.box_full e.box_miss e.filling e.emptying
      e.ranks peers held) (sym (append-nil e.put)) n))

  -- there is room for a parcel of the port's own
  pub room_for : (f : Fabric A) (p : Port A) (q : cells.Queue) (c : ℕ) (y : Load A) → MayJoin f p q c y
      → (mine p.seat.me).ranks ≡ f.ranks → ∥ CountsFor (mine p.seat.me) p.peers.items p.held ∥₁
      → HasRoomFor q p.peers.items
  room_for f p (Receive j) c y may same t = (
    ∥∥₁_elim t (search props) (λ n. let l = n.count in let lj = may.0 in omega arith),
    ∥∥₁_elim t (search props) (λ n. let o = n.each j (subst (λ k. j < k) (sym same) may.0) in
        let s = o.sent in let nx = may.3 in let small = number_small y in omega arith),
  )
  room_for f p (Free j) c y may same t = tt

-- what is passed on stays
pub sent_taken : (q : cells.Queue) (peers : List Tally) → HasRoomFor q peers
    → ((i : ℕ) → (peer_in (sent_into q peers) i).taken ≡ (peer_in peers i).taken)
    × (all_unpassed (sent_into q peers) ≡ all_unpassed peers)
sent_taken (Receive j) peers room = (
  peer_same (λ (p : Tally). p.taken) one_sent j peers room.0 (λ p. refl),
  let s = sum_by-set (λ (p : Tally). p.unpassed) peers j (one_sent (peer_in peers j)) new_tally room.0
      in omega arith,
)
sent_taken (Free j) peers room = ((λ i. refl), refl)

module _ {A : Type 0} where
  -- what may join a queue suits it
  pub may_suits : (f : Fabric A) (p : Port A) (q : cells.Queue) (c : ℕ) (y : Load A) → MayJoin f p q c y
      → Suits f.ranks f.each (queue_of f.ranks q) (item c y)
      × (queue_of f.ranks q < f.ranks → (sender y ≡ suc p.rank)
      × (number y ≡ sent_to (queue_of f.ranks q) (mine p.seat.me).put_box (mine p.seat.me).put))
  may_suits f p (Receive j) c y may = (
    ((λ l. may.2 ∙ ap suc (sym may.1)), (λ far. let lj = may.0 in absurd (omega arith))),
    (λ l. (may.2, may.3)),
  )
  may_suits f p (Free j) c y may = (
    ((λ l. absurd (omega arith)), (λ far. (may.2, ap (λ k. f.ranks + k) may.1))),
    (λ l. absurd (omega arith)),
  )

  pub may_low : (f : Fabric A) (p : Port A) (q : cells.Queue) (c : ℕ) (y : Load A) → MayJoin f p q c y
      → rank_of_queue q < f.ranks
  may_low f p (Receive j) c y may = may.0
  may_low f p (Free j) c y may = may.0

  -- what a consumer loaded is a cell of the fabric, or 0
  pub end_below : (b : OwnQueue) (p : Port A)
      → ((plays.heads_of b (mine p.seat.me)).shadow ≤ length (mine p.seat.me).hands)
      × ((plays.heads_of b (mine p.seat.me)).seen ≤ length (mine p.seat.me).hands)
  end_below receive_queue p = subst (λ (x : Heads). (x.shadow ≤ length (mine p.seat.me).hands)
      × (x.seen ≤ length (mine p.seat.me).hands)) (sym p.ends.0) (p.small.0, p.small.1)
  end_below free_queue p = subst (λ (x : Heads). (x.shadow ≤ length (mine p.seat.me).hands)
      × (x.seen ≤ length (mine p.seat.me).hands)) (sym p.ends.1) (p.small.2, p.small.3)

  pub shadow_below : (b : OwnQueue) (p : Port A) (x : Heads) → x ≡ plays.heads_of b (mine p.seat.me)
      → x.shadow ≤ length (mine p.seat.me).hands
  shadow_below b p x is = subst (λ (u : Heads). u.shadow ≤ length (mine p.seat.me).hands) (sym is)
      (end_below b p).0

  -- a number that didn't come wasn't passed on
  not_before : (e : Entry A) (peers : List Tally) (held : Option (Parcel A)) → CountsFor e peers held
      → (i k : ℕ) → i < e.ranks → ¬ plays.Came e i k → (peer_in peers i).taken ≤ k
  not_before e peers held n i k li new = dite (dec_le (suc k) (peer_in peers i).taken)
      (λ less. absurd (new ((n.each i li).came k less))) (λ far. omega arith)

-- what is known once a cell of an own queue was taken
module _ {A : Type 0} (b : OwnQueue) (f : Fabric A) (p : Port A) (d c shadow : ℕ) (after : Knowing A) (owns : Owns f p)
    (told : Took b d shadow p.seat.me after) (is_cell : d ≡ c) where
  abbrev t : Took b c shadow p.seat.me after
  t = subst (λ k. Took b k shadow p.seat.me after) is_cell told

  cell_low : c < f.ranks * f.each
  cell_low = subst (λ n. c < n) owns.4 t.low

  owner_low : c / f.each < f.ranks
  owner_low = owner_below f.ranks f.each c cell_low

  new_carries : (room : ℕ) → vec_capacity p.carried ≤ room
      → CarriesFor after (c ∷ p.carried.items) room (p.hands + 1)
  new_carries room more = took_carries p.seat.me after p.carried.items
      (vec_capacity p.carried) p.hands p.carries b c shadow room (p.hands + 1) t more refl

  pub takes_room : vec_len p.carried < vec_capacity p.carried
  takes_room = let n = new_carries (vec_capacity p.carried) (omega arith) in let e = mine after in
      let w = within after.1 e.hands e.filling e.emptying (c ∷ p.carried.items)
      (vec_capacity p.carried) (p.hands + 1) n in omega arith

  pub takes_carries : (carried : List ℕ) (room hands : ℕ) → carried ≡ c ∷ p.carried.items
      → vec_capacity p.carried ≤ room → hands ≡ p.hands + 1 → CarriesFor after carried room hands
  takes_carries carried room hands is more one = subst (λ l. CarriesFor after l room hands) (sym is)
      (subst (λ k. CarriesFor after (c ∷ p.carried.items) room k) (sym one) (new_carries room more))

  same_lengths : (k : OwnQueue) → Took k c shadow p.seat.me after
      → (length (mine after).hands ≡ length (mine p.seat.me).hands)
      × (length (mine after).filling ≡ length (mine p.seat.me).filling)
      × (length (mine after).emptying ≡ length (mine p.seat.me).emptying)
      × ((mine after).ranks ≡ (mine p.seat.me).ranks) × ((mine after).each ≡ (mine p.seat.me).each)
      × ((plays.heads_of k (mine after)).shadow ≡ shadow)
  same_lengths receive_queue u = (
    ap (λ m. length (mine m).hands) u.after_is ∙ length-set (mine p.seat.me).hands c Held,
    ap (λ m. length (mine m).filling) u.after_is,
    ap (λ m. length (mine m).emptying) u.after_is,
    ap (λ m. (mine m).ranks) u.after_is,
    ap (λ m. (mine m).each) u.after_is,
    ap (λ m. (mine m).receive.shadow) u.after_is,
  )
  same_lengths free_queue u = (
    ap (λ m. length (mine m).hands) u.after_is ∙ length-set (mine p.seat.me).hands c Held,
    ap (λ m. length (mine m).filling) u.after_is,
    ap (λ m. length (mine m).emptying) u.after_is,
    ap (λ m. (mine m).ranks) u.after_is,
    ap (λ m. (mine m).each) u.after_is,
    ap (λ m. (mine m).free.shadow) u.after_is,
  )

  pub takes_shadow : (plays.heads_of b (mine after)).shadow ≡ shadow
  takes_shadow = (same_lengths b t).5

  pub takes_hands : p.hands + 1 ≤ 4294967295
  takes_hands = let n = new_carries (vec_capacity p.carried) (omega arith) in let e = mine after in
      let w = count_within after.1 e.hands e.filling e.emptying (c ∷ p.carried.items)
      (vec_capacity p.carried) (p.hands + 1) n in
      let l = same_lengths b t in let l₀ = l.0 in let l₁ = l.1 in let l₂ = l.2 in let o₄ = owns.4 in
      let o₅ = owns.5 in let o₆ = owns.6 in let s₀ = f.small.0 in let s₃ = f.small.3 in
      omega arith

  pub takes_owner : c / f.each < 256
  takes_owner = let l = owner_low in let s = f.small.0 in omega arith

  pub takes_count : (c / f.each < length p.peers.items)
      × ((peer_in p.peers.items (c / f.each)).unpassed < 2305843009213693952)
  takes_count = let e = mine p.seat.me in (
    ∥∥₁_elim p.counts (search props) (λ n. let l = n.count in let o = owns.2 in
        let low = owner_low in omega arith),
    ∥∥₁_elim p.counts (search props) (λ n. let s =
        unpassed_small e.put e.got e.put_box e.got_box e.box_full e.box_miss e.filling e.emptying
        e.ranks p.peers.items p.held n (c / f.each)
        (subst (λ k. c / f.each < k) (sym owns.2) owner_low) in omega arith),
  )

  own_low : (mine p.seat.me).rank < (mine p.seat.me).ranks
  own_low = subst (λ k. k < (mine p.seat.me).ranks) (sym p.named)
      (subst (λ k. p.rank < k) (sym owns.2) owns.1)

  pub takes_boxes : HoldsBoxes (mine after) after.1
  takes_boxes = boxes_took p.seat.me after b c shadow p.boxes
      (owns.4 ∙ (λ i. sym owns.2 i * sym owns.3 i)) t

  pub takes_kept : AreKept p.loose (mine after) after.1
  takes_kept = kept_took p.loose p.seat.me after b c shadow t p.kept

  pub takes_counts : (peers : List Tally) → peers ≡ counted_after b (c / f.each) p.peers.items
      → ∥ CountsFor (mine after) peers p.held ∥₁
  takes_counts peers is = subst (λ l. ∥ CountsFor (mine after) l p.held ∥₁) (sym is)
      (took_counts p.seat.me after p.peers.items p.held own_low b c shadow (c / f.each)
      (ap (λ m. c / m) (sym owns.3)) (subst (λ k. c / f.each < k) (sym owns.2) owner_low) t
      p.counts)

  taken_same : (k : OwnQueue) (peers : List Tally) → peers ≡ counted_after k (c / f.each) p.peers.items
      → c / f.each < length p.peers.items
      → ((i : ℕ) → (peer_in peers i).taken ≡ (peer_in p.peers.items i).taken)
      × (all_unpassed peers ≡ all_unpassed p.peers.items + arrivals k)
  taken_same receive_queue peers is low = (
    (λ i. ap (λ l. (peer_in l i).taken) is ∙ peer_same (λ (u : Tally). u.taken) one_arrived
        (c / f.each) p.peers.items low (λ u. refl) i),
    ap all_unpassed is ∙ (let s = sum_by-set (λ (u : Tally). u.unpassed) p.peers.items (c / f.each)
        (one_arrived (peer_in p.peers.items (c / f.each))) new_tally low in omega arith),
  )
  taken_same free_queue peers is low = (
    (λ i. ap (λ l. (peer_in l i).taken) is),
    ap all_unpassed is ∙ (let z : all_unpassed p.peers.items ≡ all_unpassed p.peers.items + 0 =
        omega arith in z),
  )

  held_now : (k : OwnQueue) → Took k c shadow p.seat.me after → hand (mine after) c ≡ Held
  held_now receive_queue u = ap (λ m. hand (mine m) c) u.after_is
      ∙ get_or-set_same (mine p.seat.me).hands c Held Away u.low
  held_now free_queue u = ap (λ m. hand (mine m) c) u.after_is
      ∙ get_or-set_same (mine p.seat.me).hands c Held Away u.low

  some_sent : (y : Load A) (i : ℕ) → sender y ≡ suc i → IsSome y
  some_sent (Some x) i e = refl
  some_sent None i e = absurd (let z : 0 ≡ suc i = e in omega arith)

  -- what the cell of either queue holds
  by_receive : (k : OwnQueue) (d : ℕ) → (u : Took k d shadow p.seat.me after) → k ≡ receive_queue
      → sender u.load ≡ suc (d / f.each)
  by_receive receive_queue d u r = u.suits.0 own_low ∙ (λ i. suc (d / owns.3 i))
  by_receive free_queue d u r = absurd (let z = r in cc)

  by_free : (k : OwnQueue) (d : ℕ) → (u : Took k d shadow p.seat.me after) → k ≡ free_queue
      → (u.load ≡ None) × (d / f.each ≡ p.rank)
  by_free free_queue d u r = let e = mine p.seat.me in let s = u.suits.1 (omega arith) in let whose = s.1 in (
    s.0,
    (let same : d / e.each ≡ e.rank = omega arith in (λ i. d / sym owns.3 i) ∙ same ∙ p.named),
  )
  by_free receive_queue d u r = absurd (let z = r in cc)

  -- a cell of the free queue is the rank's own
  pub takes_own : b ≡ free_queue → c / f.each ≡ p.rank
  takes_own r = (by_free b c t r).1

  -- a parcel that was taken from the receive queue is to be passed on
  by_arrival : (k : OwnQueue) (t : Took k c shadow p.seat.me after) → (peers : List Tally)
      → peers ≡ counted_after k (c / f.each) p.peers.items → c / f.each < length p.peers.items
      → (x : Parcel A) → k ≡ receive_queue → t.load ≡ Some x
      → IsUnpassedOf (mine after).ranks (mine after).got peers x
  by_arrival free_queue u peers is low x r loaded = absurd (let z = r in cc)
  by_arrival receive_queue u peers is low x r loaded = let e = mine p.seat.me in let y = u.load in
      let i : ℕ = c / f.each in
      let whose = by_receive receive_queue c u r in let of_x : suc x.from ≡ suc i = ap sender (sym loaded)
      ∙ whose in let from_x : x.from ≡ i = omega arith in
      let got_is : (mine after).got ≡ e.got ++ y ∷ [] = ap (λ m. (mine m).got) u.after_is
      ∙ ap (λ l. e.got ++ l) (below_yes (dec_le (suc e.rank) e.ranks) (y ∷ []) [] own_low) in
      let ranks_is : (mine after).ranks ≡ f.ranks = (same_lengths receive_queue u).3 ∙ owns.2 in
      let whole : from x.from (mine after).got ≡ from x.from e.got ++ y ∷ [] =
      ap (from x.from) got_is ∙ from_here x.from y e.got (whose ∙ ap suc (sym from_x)) in
      let there = subst (λ l. IsOneOf (Some x) l) (sym whole)
      (subst (λ z. IsOneOf z (from x.from e.got ++ y ∷ [])) loaded
      (one_of_last y (from x.from e.got))) in
      let same = (taken_same receive_queue peers is low).0 x.from in
      let late : (peer_in p.peers.items x.from).taken ≤ number y =
      ∥∥₁_elim p.counts (search props) (λ n. not_before e p.peers.items p.held n x.from
      (number y) (subst (λ k. x.from < k) (sym owns.2) (subst (λ k. k < f.ranks) (sym from_x)
      owner_low)) (subst (λ k. ¬ plays.Came e k (number y)) ((λ t. c / owns.3 t) ∙ sym from_x)
      u.news.0)) in
      let as_x = ap number loaded in (
        subst (λ k. k < (mine after).ranks) (sym from_x)
            (subst (λ k. i < k) (sym ranks_is) owner_low),
        there,
        (let z : (peer_in peers x.from).taken ≤ x.seq = omega arith in z),
      )

  -- the cell is in hand
  pub takes_made : (new : Port A) (cell : Cell) → new.seat.me ≡ after → cell.number ≡ c
      → cell.owner ≡ c / f.each → new.held ≡ p.held
      → new.peers.items ≡ counted_after b (c / f.each) p.peers.items → new.hands ≡ p.hands + 1
      → new.loose ≡ p.loose
      → suc c ≡ (plays.heads_of b (mine p.seat.me)).shadow → Takes b f p new cell
  takes_made new cell me is owner same peers one spare first = let e = mine p.seat.me in
      let y = t.load in
      let now : holding new ≡ update (holding p) c y =
      ap (λ m. held_in (length (mine m).hands) m.1) me
      ∙ took_holds p.seat.me after p.carried.items (vec_capacity p.carried) p.hands p.carries b
      c shadow t in
      let here : holding new cell.number ≡ y = ap (holding new) is ∙ ap (λ h. h c) now
      ∙ update_here (holding p) c y c refl in
      let l = same_lengths b t in
      let low = ∥∥₁_elim p.counts (search props) (λ n. let k = n.count in let o = owns.2 in
      let ol = owner_low in (let z : c / f.each < length p.peers.items = omega arith in z)) in
      let u = taken_same b new.peers.items peers low in record {
        has = (
          subst (λ k. k < f.ranks * f.each) (sym is) cell_low,
          owner ∙ ap (λ k. k / f.each) (sym is),
          subst InHand (sym (ap (λ m. hand (mine m) cell.number) me
              ∙ ap (λ k. hand (mine after) k) is ∙ held_now b t)) tt,
          (λ i. away_apart p.loose e p.seat.me.1 p.kept c t.away
              (subst (λ x. IsAmong x c) spare (subst (IsAmong new.loose) is i))),
        );
        of_rank = subst (λ k. k < f.ranks) (sym owner) owner_low;
        first = λ _. let z : cell.number + 1 ≡ suc c = omega arith in z ∙ first;
        fresh = ap (hand e) is ∙ t.away;
        full = λ r. let whose = by_receive b c t r in (
          ap sender here ∙ whose ∙ ap suc (sym owner),
          subst IsSome (sym here) (some_sent y (c / f.each) whose),
        );
        arrived = λ r x held_is. subst (λ (m : Knowing A). IsUnpassedOf (mine m).ranks (mine m).got
            new.peers.items x) (sym me)
            (by_arrival b t new.peers.items peers low x r (sym here ∙ held_is));
        vacant = λ r. let nothing = by_free b c t r in (here ∙ nothing.0, owner ∙ nothing.1);
        knows = ap mine me ∙ ap mine t.after_is
            ∙ (λ i. plays.taken b (sym is i) (sym here i)
            ((sym l.5 ∙ ap (λ m. (plays.heads_of b (mine m)).shadow) (sym me)) i) e);
        holding = now ∙ (λ i. update (holding p) (sym is i) (sym here i));
        taken = λ i j. u.0 j i;
        held = same;
        unpassed = u.1;
        hands = one;
        loose = spare;
      }

-- what is counted of a rank
module _ {A : Type 0} (p : Port A) (j : ℕ) (low : j < (mine p.seat.me).ranks) where
  pub peer_low : j < length p.peers.items
  peer_low = ∥∥₁_elim p.counts (search props) (λ n. let l = n.count in omega arith)

  pub peer_sent : (peer_in p.peers.items j).sent ≡ sent_by p j
  peer_sent = ∥∥₁_elim p.counts (search props) (λ n. (n.each j low).sent)

  pub peer_box_put : (peer_in p.peers.items j).box_put ≡ length
      (put_to j (mine p.seat.me).put_box)
  peer_box_put = ∥∥₁_elim p.counts (search props) (λ n. (n.each j low).box_put)

  pub peer_box_got : (peer_in p.peers.items j).box_got ≡ length
      (from j (mine p.seat.me).got_box)
  peer_box_got = ∥∥₁_elim p.counts (search props) (λ n. (n.each j low).box_got)

  pub peer_full : (peer_in p.peers.items j).box_full ≡ slice_index (mine p.seat.me).box_full j
  peer_full = ∥∥₁_elim p.counts (search props) (λ n. (n.each j low).box_full)

  pub peer_miss : (peer_in p.peers.items j).box_miss ≡ slice_index (mine p.seat.me).box_miss j
  peer_miss = ∥∥₁_elim p.counts (search props) (λ n. (n.each j low).box_miss)

module _ {A : Type 0} where
  -- a port with nothing in hand
  pub idle : (p : Port A) → p.hands ≡ 0 → (p.seat.me.1 ≡ [])
      × ((c : ℕ) → c < length (mine p.seat.me).hands → hand (mine p.seat.me) c ≡ Away)
  idle p zeroed = let e = mine p.seat.me in
      none_in_hand p.seat.me.1 e.hands e.filling e.emptying p.carried.items
      (vec_capacity p.carried) p.hands p.carries zeroed
