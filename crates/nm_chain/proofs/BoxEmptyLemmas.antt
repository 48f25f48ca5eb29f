-- What a receiver's steps on a box make of the words, slots and entries, and that they keep the rule.
use Rattle.std.proofs.Common.{Bool, ◌≡◌, ◌≢◌, ℕ, suc, ◌+◌, ◌*◌, ◌%◌, ◌<◌, Option}
use Rattle.std.proofs.Common.{Some, None, List, [], ◌∷◌, ◌++◌, map, length, set, sym, refl, ap, ◌∙◌}
use Rattle.std.proofs.Common.{inl, subst, arith, length-set, get_or-set_other}
use Rattle.std.proofs.Common.{append-nil}
use Rattle.std.proofs.lemmas.List.{map-append}
use Rattle.std.specs.Prelude.{slice_index}
use mathlib.Core.Option as maybe
use mathlib.Core.Logic.{dite}
use native.Mathlib.Decide.{ℕ_discrete}
use lib.ListN.{get_elem?}
use Rattle.atomic_table.specs.Table.{State}
use Rattle.atomic_table.proofs.Lists.{set_else}
use Rattle.nm_chain.specs.declared.seats.views.View.{View}
use Rattle.nm_chain.specs.Spoken.{view}
use Rattle.nm_chain.proofs.UpdateLemmas.{update_here, update_else}
use Rattle.nm_chain.specs.Update.{update}
use Rattle.nm_chain.specs.Sequence.{InSequence, Got}
use Rattle.nm_chain.proofs.SequenceLemmas.{next_by_box_is_new, first_missing}
use Rattle.nm_chain.proofs.SequenceLemmas.{got_by_box, missing_in_box}
use Rattle.nm_chain.specs.Window.{Window}
use Rattle.nm_chain.proofs.WindowLemmas as windows
use Rattle.nm_types.specs.Sizes.{Sizes}
use Rattle.nm_chain.specs.declared.table.table.Entry.{Entry}
use Rattle.nm_chain.specs.Rule.{GoesByBox}
use Rattle.nm_chain.specs.Rule.{Load, World, Agrees, put_to, sender, from, number, sent_to, loads}
use Rattle.nm_chain.specs.Rule.{box_slot, emptying_of, AllInSequence, Rule, mark}
use Rattle.nm_chain.specs.Plays as plays
use Rattle.nm_chain.proofs.QueueLemmas as queues
use Rattle.nm_chain.proofs.QueueLemmas.{from_append, put_append, pick_yes, pick_no}
use Rattle.nm_chain.proofs.BoxLemmas as boxes
use Rattle.nm_chain.proofs.BoxLemmas.{marked, update2, update2_here, update2_else, update2_row}
use Rattle.nm_chain.proofs.BoxLemmas.{slot_low, turn_along, lids_but, in_four, words_else, homes_else}
use Rattle.nm_chain.proofs.BoxLemmas.{box_homes, box_words, box_home, box_word}
use Rattle.nm_chain.proofs.SeatLemmas.{knows_else, own, own_told, ruled}

module _ {A : Type 0} (boxable : A → Bool) (key : Sizes) (slots id : ℕ) (e : Entry A)
    (low : e.rank < key.ranks) (peer : ℕ)
    (few : peer < key.ranks) where
  abbrev pub n : ℕ
  n = key.ranks

  abbrev pub m : ℕ
  m = key.cells

  -- the slot of the box that the rank empties next of the other
  abbrev pub in_slot : ℕ
  in_slot = box_slot n m peer e.rank (length (from peer e.got_box) % 4)

  module _ (s : State (Load A) (View (Entry A))) (R : Rule boxable key s)
      (at : get_elem? s.views id ≡ maybe.some (view (e ∷ []))) where
    abbrev pub k : Agrees n m R.world e.rank e
    k = own key s R id e at low

    abbrev pub w : World A
    w = R.world

    -- the boxes from the other rank, as the entry has them
    abbrev pub InLane : (ℕ → ℕ) → (ℕ → maybe.Option (maybe.Option (Load A))) → Option (Load A) → List (Load A)
        → List (Load A) → Type 0
    InLane flag slot x gots waits = Window 4 None mark (GoesByBox boxable peer) flag slot
        (w.filling peer e.rank) x (put_to e.rank (w.put_box peer)) gots waits

    abbrev pub in_flag : ℕ → ℕ
    in_flag t = slice_index s.words (4 * n + box_slot n m peer e.rank t)

    abbrev pub in_home : ℕ → maybe.Option (maybe.Option (Load A))
    in_home t = get_elem? s.homes (box_slot n m peer e.rank t)

    pub in_lane : InLane in_flag in_home (emptying_of e peer) (from peer e.got_box)
        (w.waits peer e.rank)
    in_lane = subst (λ x. InLane in_flag in_home x (from peer e.got_box) (w.waits peer e.rank))
        (sym (k.emptying peer few))
        (subst (λ u. InLane in_flag in_home (w.emptying peer e.rank) (from peer u)
        (w.waits peer e.rank)) (sym k.got_box) (R.boxes peer e.rank few low))

    -- the entry with another parcel that is being taken
    pub emptying_shown : (x : Option (Load A)) (w' : World A) → w'.place ≡ w.place → w'.heads ≡ w.heads
        → w'.put ≡ w.put → w'.got ≡ w.got → w'.put_box ≡ w.put_box → w'.got_box ≡ w.got_box
        → w'.filling ≡ w.filling → w'.emptying peer e.rank ≡ x
        → ((l : ℕ) → l ≢ peer → w'.emptying l e.rank ≡ w.emptying l e.rank)
        → Agrees n m w' e.rank (plays.with_emptying peer x e)
    emptying_shown x w' ep ee eu eg epb egb ef here_is else = record {
      rank = k.rank;
      ranks = k.ranks;
      per = k.per;
      long = k.long;
      hands = rw ep k.hands;
      receive = rw ee k.receive;
      free = rw ee k.free;
      put = rw eu k.put;
      got = rw eg k.got;
      put_box = rw epb k.put_box;
      got_box = rw egb k.got_box;
      outs = k.outs;
      ins = length-set e.emptying peer x ∙ k.ins;
      filling = rw ef k.filling;
      emptying = λ i li. let o = k.ins in
          lids_but e.emptying peer x None (λ l. w.emptying l e.rank) (λ l. w'.emptying l e.rank)
          (omega arith) here_is else (λ l ll. k.emptying l (omega arith)) i (omega arith);
    }

    -- the entry with one more miss
    pub miss_known : Agrees n m w e.rank (plays.with_box_miss peer e)
    miss_known = record {
      rank = k.rank;
      ranks = k.ranks;
      per = k.per;
      long = k.long;
      hands = k.hands;
      receive = k.receive;
      free = k.free;
      put = k.put;
      got = k.got;
      put_box = k.put_box;
      got_box = k.got_box;
      outs = k.outs;
      ins = k.ins;
      filling = k.filling;
      emptying = k.emptying;
    }

    -- the receiver finds a parcel
    pub in_starts : (a : ℕ) → in_flag (length (from peer e.got_box) % 4) ≡ suc a → (y : Load A)
        × (ys : List (Load A)) × (w.waits peer e.rank ≡ y ∷ ys) × (number y ≡ a) × (sender y ≡ suc peer)
    in_starts a found = let some : 0 < in_flag (length (from peer e.got_box) % 4) =
        omega (arith, found) in
        let f = windows.first_where_marked 4 None mark (GoesByBox boxable peer)
        (omega arith) marked in_flag in_home (put_to e.rank (w.put_box peer))
        (from peer e.got_box) (w.waits peer e.rank) (w.filling peer e.rank)
        (emptying_of e peer) in_lane some (w.waits peer e.rank) refl in
        let same : suc (number f.0) ≡ suc a = sym f.3 ∙ found in (f.0, f.1, f.2, omega arith, f.4.sent)

    -- what the receiver is taking is first in the boxes
    pub in_first : (z : Load A) → emptying_of e peer ≡ Some z → (ys : List (Load A))
        × (w.waits peer e.rank ≡ z ∷ ys)
        × (in_flag (length (from peer e.got_box) % 4) ≡ suc (number z)) × (sender z ≡ suc peer)
    in_first z is = let f = in_lane.first z is in (
      f.0,
      f.1,
      windows.first_is_marked 4 None mark (GoesByBox boxable peer)
          (omega arith) marked in_flag in_home (put_to e.rank (w.put_box peer))
          (from peer e.got_box) (w.waits peer e.rank) (w.filling peer e.rank)
          (emptying_of e peer) in_lane z f.0 f.1,
      (in_lane.full 0 z (ap (λ l. get_elem? l 0) f.1)).0.sent,
    )

    pub full_home : (y : Load A) (ys : List (Load A)) → emptying_of e peer ≡ None
        → w.waits peer e.rank ≡ y ∷ ys → get_elem? s.homes in_slot ≡ maybe.some (maybe.some y)
    full_home y ys shut is = windows.full_slot_is_home 4 None mark (GoesByBox boxable peer)
        (omega arith) marked in_flag in_home (put_to e.rank (w.put_box peer)) (from peer e.got_box)
        (w.waits peer e.rank) (w.filling peer e.rank)
        (subst (λ x. InLane in_flag in_home x (from peer e.got_box) (w.waits peer e.rank)) shut
        in_lane) y ys is

    -- the receiver takes its slot
    abbrev after_begin : Load A → World A
    after_begin y = record w { emptying = update2 w.emptying peer e.rank (Some y) }

    pub begin_ruled : (y : Load A) (ys : List (Load A)) → emptying_of e peer ≡ None
        → w.waits peer e.rank ≡ y ∷ ys
        → Rule boxable key record {
          words = s.words;
          homes = set s.homes in_slot maybe.none;
          views =
              set s.views id (view (plays.with_emptying peer (Some y) e ∷ []));
        }
    begin_ruled y ys shut is = let t = length (from peer e.got_box) % 4 in
        let lt = in_four (length (from peer e.got_box)) in
        let homes' = set s.homes in_slot maybe.none in let w' = after_begin y in
        let lane = subst (λ x. InLane in_flag in_home x (from peer e.got_box) (w.waits peer e.rank))
        shut in_lane in
        let new = windows.consumer_opens 4 None mark (GoesByBox boxable peer)
        (omega arith) marked in_flag in_home (put_to e.rank (w.put_box peer))
        (from peer e.got_box) (w.waits peer e.rank) (w.filling peer e.rank) lane y ys is
        (λ u. get_elem? homes' (box_slot n m peer e.rank u))
        (box_home n m s.homes R.laid.slots peer e.rank t maybe.none few low lt)
        (λ u lu ne. box_homes n m s.homes peer e.rank t maybe.none u ne) in
        ruled key s R id e at low w' (plays.with_emptying peer (Some y) e) s.words homes'
        (own_told key s R id e at low) (λ _ _. refl) R.ranked
        (queues.elsewhere n m w s.words s.homes R.laid w' refl refl refl refl refl s.words homes'
        refl (length-set s.homes in_slot maybe.none) (λ _ _. refl)
        (λ c lc. set_else s.homes in_slot c maybe.none
        (let b = (slot_low n m peer e.rank t few low lt).0 in omega arith)))
        (boxes.one_lane n m w s.words s.homes R.boxes peer e.rank few low w' s.words homes'
        (λ i j li lj ne. (
          refl,
          update2_else w.emptying peer e.rank (Some y) i j ne,
          refl,
          refl,
          refl,
        )) (λ c ne. (refl, homes_else n m s.homes peer e.rank t maybe.none c ne lt))
        (rw (update2_here w.emptying peer e.rank (Some y))
        (subst (λ u. InLane in_flag (λ u. get_elem? homes' (box_slot n m peer e.rank u))
        (Some y) (from peer u) (w.waits peer e.rank)) k.got_box new)))
        R.turns
        (emptying_shown (Some y) w' refl refl refl refl refl refl refl
        (update2_here w.emptying peer e.rank (Some y))
        (λ l ne. update2_else w.emptying peer e.rank (Some y) l e.rank (λ q. ne q.0)))
        (λ r g _ ne o. knows_else n m w w' r g o (λ c. inl refl) refl refl refl refl refl refl refl
        (λ i. update2_else w.emptying peer e.rank (Some y) i r (λ q. ne q.1)))

    -- the receiver empties the box, where all smaller numbers came
    abbrev after_empty : Load A → List (Load A) → World A
    after_empty y ys = record w {
      got_box =
          update w.got_box e.rank (w.got_box e.rank ++ y ∷ []);
      emptying =
          update2 w.emptying peer e.rank None;
      waits = update2 w.waits peer e.rank ys;
    }

    got_here_from : (y : Load A) → sender y ≡ suc peer
        → from peer (update w.got_box e.rank (w.got_box e.rank ++ y ∷ []) e.rank) ≡ from peer
        (w.got_box e.rank) ++ y ∷ []
    got_here_from y is = ap (from peer)
        (update_here w.got_box e.rank (w.got_box e.rank ++ y ∷ []) e.rank refl)
        ∙ from_append peer (w.got_box e.rank) (y ∷ []) ∙ ap (λ u. from peer (w.got_box e.rank) ++ u)
        (pick_yes (ℕ_discrete (sender y) (suc peer)) (y ∷ []) [] is)

    got_else_from : (y : Load A) → sender y ≡ suc peer → (i j : ℕ) → ¬ ((i ≡ peer) × (j ≡ e.rank))
        → from i (update w.got_box e.rank (w.got_box e.rank ++ y ∷ []) j) ≡ from i (w.got_box j)
    got_else_from y is i j ne = let more = w.got_box e.rank ++ y ∷ [] in dite (ℕ_discrete j e.rank)
        (λ ej. ap (from i) (update_here w.got_box e.rank more j ej)
        ∙ from_append i (w.got_box e.rank) (y ∷ []) ∙ ap (λ u. from i (w.got_box e.rank) ++ u)
        (pick_no (ℕ_discrete (sender y) (suc i)) (y ∷ []) [] (λ q. let same : suc peer ≡ suc i =
        sym is ∙ q in ne (omega arith, ej)))
        ∙ append-nil (from i (w.got_box e.rank)) ∙ ap (λ u. from i (w.got_box u)) (sym ej))
        (λ nj. ap (from i) (update_else w.got_box e.rank more j nj))

    came_all : (a : ℕ) → plays.AllBelow e peer a → (u : ℕ) → u < a
        → Got (map number (from peer (w.got_box e.rank))) (map number (from peer (w.got e.rank))) u
    came_all a all u less =
        subst (λ g. Got (map number (from peer g)) (map number (from peer (w.got e.rank))) u)
        k.got_box (subst (λ g. Got (map number (from peer e.got_box)) (map number (from peer g)) u)
        k.got (all u less))

    empty_turns : (y : Load A) (ys : List (Load A)) → w.waits peer e.rank ≡ y ∷ ys → sender y ≡ suc peer
        → plays.AllBelow e peer (number y) → AllInSequence n (after_empty y ys)
    empty_turns y ys is from_peer all i j li lj = let old = R.turns i j li lj in
        let more = w.got_box e.rank ++ y ∷ [] in let waits' = update2 w.waits peer e.rank ys in
        let st = sent_to j (w.put_box i) (w.put i) in let gb = map number (from i (w.got_box j)) in
        let bx = map number (w.waits i j) in let gc = map number (from i (w.got j)) in
        let ch = map number (from i (loads (w.chain j))) in
        let else : ¬ ((i ≡ peer) × (j ≡ e.rank))
        → InSequence st (map number (from i (update w.got_box e.rank more j)))
        (map number (waits' i j)) gc ch = λ ne.
        turn_along st st gb (map number (from i (update w.got_box e.rank more j))) bx
        (map number (waits' i j)) gc gc ch ch refl
        (ap (map number) (got_else_from y from_peer i j ne))
        (ap (map number) (update2_else w.waits peer e.rank ys i j ne)) refl refl old in
        dite (ℕ_discrete i peer)
        (λ ei. dite (ℕ_discrete j e.rank)
        (λ ej. let here_turn : InSequence (sent_to e.rank (w.put_box peer) (w.put peer))
        (map number (from peer (update w.got_box e.rank more e.rank)))
        (map number (waits' peer e.rank)) (map number (from peer (w.got e.rank)))
        (map number (from peer (loads (w.chain e.rank)))) =
        let s₀ = sent_to e.rank (w.put_box peer) (w.put peer) in
        let gb₀ = map number (from peer (w.got_box e.rank)) in
        let gc₀ = map number (from peer (w.got e.rank)) in
        let ch₀ = map number (from peer (loads (w.chain e.rank))) in
        turn_along s₀ s₀ (gb₀ ++ number y ∷ [])
        (map number (from peer (update w.got_box e.rank more e.rank))) (map number ys)
        (map number (waits' peer e.rank)) gc₀ gc₀ ch₀ ch₀ refl
        (ap (map number) (got_here_from y from_peer) ∙ map-append number
        (from peer (w.got_box e.rank)) (y ∷ []))
        (ap (map number) (update2_here w.waits peer e.rank ys)) refl refl
        (got_by_box s₀ (number y) gb₀ (map number ys) gc₀ ch₀
        (subst (λ u. InSequence s₀ gb₀ (map number u) gc₀ ch₀) is (R.turns peer e.rank few low))
        (came_all (number y) all)) in
        subst (λ u. InSequence (sent_to j (w.put_box u) (w.put u))
        (map number (from u (update w.got_box e.rank more j))) (map number (waits' u j))
        (map number (from u (w.got j))) (map number (from u (loads (w.chain j))))) (sym ei)
        (subst (λ u. InSequence (sent_to u (w.put_box peer) (w.put peer))
        (map number (from peer (update w.got_box e.rank more u))) (map number (waits' peer u))
        (map number (from peer (w.got u))) (map number (from peer (loads (w.chain u)))))
        (sym ej) here_turn))
        (λ nj. else (λ q. nj q.1)))
        (λ ni. else (λ q. ni q.0))

    pub empty_ruled : (y : Load A) → emptying_of e peer ≡ Some y → plays.AllBelow e peer (number y)
        → Rule boxable key record {
          words = set s.words (4 * n + in_slot) 0;
          homes =
              set s.homes in_slot (maybe.some None);
          views =
              set s.views id (view (plays.with_got_box (y ∷ [])
              (plays.with_emptying peer None e) ∷ []));
        }
    empty_ruled y at_work all = let t = length (from peer e.got_box) % 4 in
        let lt = in_four (length (from peer e.got_box)) in
        let words' = set s.words (4 * n + in_slot) 0 in
        let homes' = set s.homes in_slot (maybe.some None) in
        let f = in_first y at_work in let ys = f.0 in let w' = after_empty y ys in
        let lane = subst (λ x. InLane in_flag in_home x (from peer e.got_box)
        (w.waits peer e.rank)) at_work in_lane in
        let flag' : ℕ → ℕ = λ u. slice_index words' (4 * n + box_slot n m peer e.rank u) in
        let home' : ℕ → maybe.Option (maybe.Option (Load A)) =
        λ u. get_elem? homes' (box_slot n m peer e.rank u) in
        let new = windows.consumer_empties 4 None mark (GoesByBox boxable peer)
        (omega arith) marked in_flag in_home (put_to e.rank (w.put_box peer))
        (from peer e.got_box) (w.waits peer e.rank) (w.filling peer e.rank) y ys lane f.1 flag'
        home'
        (box_word n m s.words R.laid.long peer e.rank t 0 few low lt)
        (box_home n m s.homes R.laid.slots peer e.rank t (maybe.some None) few low lt)
        (λ u lu ne. box_words n m s.words peer e.rank t 0 u ne)
        (λ u lu ne. box_homes n m s.homes peer e.rank t (maybe.some None) u ne) in
        let shown = emptying_shown None
        (record w { emptying = update2 w.emptying peer e.rank None }) refl refl refl refl refl
        refl refl (update2_here w.emptying peer e.rank None)
        (λ l ne. update2_else w.emptying peer e.rank None l e.rank (λ q. ne q.0)) in
        let b = slot_low n m peer e.rank t few low lt in
        ruled key s R id e at low w' (plays.with_got_box (y ∷ []) (plays.with_emptying peer None e))
        words' homes' (own_told key s R id e at low) (λ q fits. get_or-set_other s.words
        (4 * n + in_slot) (2 * n + q) 0 0 (omega arith)) R.ranked
        (queues.elsewhere n m w s.words s.homes R.laid w' refl refl refl refl refl words' homes'
        (length-set s.words (4 * n + in_slot) 0) (length-set s.homes in_slot (maybe.some None))
        (λ c lc. get_or-set_other s.words (4 * n + in_slot) c 0 0 (let b₀ = b.0 in omega arith))
        (λ c lc. set_else s.homes in_slot c (maybe.some None) (let b₀ = b.0 in omega arith)))
        (boxes.one_lane n m w s.words s.homes R.boxes peer e.rank few low w' words' homes'
        (λ i j li lj ne. (
          refl,
          update2_else w.emptying peer e.rank None i j ne,
          refl,
          got_else_from y f.3 i j ne,
          update2_else w.waits peer e.rank ys i j ne,
        ))
        (λ c ne. (
          words_else n m s.words peer e.rank t 0 c ne lt,
          homes_else n m s.homes peer e.rank t (maybe.some None) c ne lt,
        ))
        (rw (
          update2_here w.emptying peer e.rank None,
          got_here_from y f.3,
          update2_here w.waits peer e.rank ys,
        )
        (subst (λ u. InLane flag' home' None (from peer u ++ y ∷ []) ys) k.got_box new)))
        (empty_turns y ys f.1 f.3 all)
        record {
          rank = k.rank;
          ranks = k.ranks;
          per = k.per;
          long = k.long;
          hands = k.hands;
          receive = k.receive;
          free = k.free;
          put = k.put;
          got = k.got;
          put_box = k.put_box;
          got_box = ap (λ u. u ++ y ∷ []) k.got_box
              ∙ sym (update_here w.got_box e.rank (w.got_box e.rank ++ y ∷ []) e.rank refl);
          outs = k.outs;
          ins = shown.ins;
          filling = k.filling;
          emptying = shown.emptying;
        }
        (λ r g _ ne o. knows_else n m w w' r g o (λ c. inl refl) refl refl refl refl refl
        (update_else w.got_box e.rank (w.got_box e.rank ++ y ∷ []) r ne) refl
        (λ i. update2_else w.emptying peer e.rank None i r (λ q. ne q.1)))

    -- what the receiver is taking is new
    pub not_come : (y : Load A) → emptying_of e peer ≡ Some y → ¬ plays.Came e peer (number y)
    not_come y at_work = let f = in_first y at_work in
        let st = sent_to e.rank (w.put_box peer) (w.put peer) in
        let ch = map number (from peer (loads (w.chain e.rank))) in
        let turn = subst (λ u. InSequence st (map number (from peer (w.got_box e.rank)))
        (map number u) (map number (from peer (w.got e.rank))) ch) f.1
        (R.turns peer e.rank few low) in
        let new = next_by_box_is_new st (number y) (map number (from peer (w.got_box e.rank)))
        (map number f.0) (map number (from peer (w.got e.rank))) ch turn in
        subst (λ g. ¬ Got (map number (from peer g)) (map number (from peer e.got)) (number y))
        (sym k.got_box) (subst (λ g. ¬ Got (map number (from peer (w.got_box e.rank)))
        (map number (from peer g)) (number y)) (sym k.got) new)

    -- what is overdue has come
    pub overdue : (a : ℕ) → plays.Overdue e peer a → (xs : List (Load A)) → w.waits peer e.rank ≡ xs
        → in_flag (length (from peer e.got_box) % 4) ≡ suc a
    overdue a o xs is = let turn =
        subst (λ g. InSequence (sent_to e.rank (w.put_box peer) (w.put peer))
        (map number (from peer g)) (map number (w.waits peer e.rank))
        (map number (from peer (w.got e.rank))) (map number (from peer (loads (w.chain e.rank)))))
        (sym k.got_box) (R.turns peer e.rank few low) in
        let turn' = subst (λ g. InSequence (sent_to e.rank (w.put_box peer) (w.put peer))
        (map number (from peer e.got_box)) (map number (w.waits peer e.rank))
        (map number (from peer g)) (map number (from peer (loads (w.chain e.rank)))))
        (sym k.got) turn in
        by_waits xs is (subst (λ u. InSequence (sent_to e.rank (w.put_box peer) (w.put peer))
        (map number (from peer e.got_box)) (map number u) (map number (from peer e.got))
        (map number (from peer (loads (w.chain e.rank))))) is turn') where
          by_waits : (xs : List (Load A)) → w.waits peer e.rank ≡ xs
              → InSequence (sent_to e.rank (w.put_box peer) (w.put peer))
              (map number (from peer e.got_box)) (map number xs) (map number (from peer e.got))
              (map number (from peer (loads (w.chain e.rank))))
              → in_flag (length (from peer e.got_box) % 4) ≡ suc a
          by_waits [] is t = absurd (missing_in_box (sent_to e.rank (w.put_box peer) (w.put peer))
              (map number (from peer e.got_box)) [] (map number (from peer e.got))
              (map number (from peer (loads (w.chain e.rank)))) t a o.1.0.0 o.1.0.1 o.1.0.2 o.1.1)
          by_waits (y ∷ ys) is t = windows.first_is_marked 4 None mark (GoesByBox boxable peer)
              (omega arith) marked in_flag in_home (put_to e.rank (w.put_box peer))
              (from peer e.got_box) (w.waits peer e.rank) (w.filling peer e.rank)
              (emptying_of e peer) in_lane y ys is
              ∙ ap suc (first_missing (sent_to e.rank (w.put_box peer) (w.put peer)) a o.1.0.0
              (number y) (map number (from peer e.got_box)) (map number ys)
              (map number (from peer e.got)) (map number (from peer (loads (w.chain e.rank)))) t
              o.0 o.1.0.1 o.1.0.2 o.1.1)
