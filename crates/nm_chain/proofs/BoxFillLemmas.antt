-- What a sender's steps on a box make of the words, slots and entries, and that they keep the rule.
use Rattle.std.proofs.Common.{◌≡◌, ◌≢◌, ℕ, suc, ◌+◌, ◌*◌, ◌%◌, ◌<◌, Bool, true, false}
use Rattle.std.proofs.Common.{None, List, [], ◌∷◌, ◌++◌, map, length, set, sym, refl, ap, ◌∙◌}
use Rattle.std.proofs.Common.{inl, subst, arith, length-set, get_or-set_other}
use Rattle.std.proofs.Common.{append-nil, length-append}
use Rattle.std.proofs.lemmas.List.{map-append}
use Rattle.std.specs.Prelude.{slice_index}
use mathlib.Core.Option as maybe
use mathlib.Core.Logic.{dite}
use native.Mathlib.Decide.{ℕ_discrete}
use lib.ListN.{get_elem?}
use Rattle.atomic_table.specs.Table.{State}
use Rattle.atomic_table.proofs.Lists.{set_else}
use Rattle.nm_chain.specs.declared.seats.views.View.{View}
use Rattle.nm_chain.specs.Spoken.{view}
use Rattle.nm_chain.proofs.UpdateLemmas.{update_here, update_else}
use Rattle.nm_chain.specs.Update.{update}
use Rattle.nm_chain.proofs.SequenceLemmas.{put_by_box}
use Rattle.nm_chain.specs.Window.{Window}
use Rattle.nm_chain.proofs.WindowLemmas as windows
use Rattle.nm_types.specs.Sizes.{Sizes}
use Rattle.nm_chain.specs.declared.table.table.Entry.{Entry}
use Rattle.nm_chain.specs.Rule.{GoesByBox, IsShort}
use Rattle.nm_chain.specs.Rule.{Load, World, Agrees, put_to, sender, from, number, sent_to, loads}
use Rattle.nm_chain.specs.Rule.{box_slot, filling_of, AllInSequence, Rule, mark}
use Rattle.nm_chain.specs.Plays as plays
use Rattle.nm_chain.proofs.QueueLemmas as queues
use Rattle.nm_chain.proofs.QueueLemmas.{from_append, put_append, pick_yes, pick_no}
use Rattle.nm_chain.proofs.BoxLemmas as boxes
use Rattle.nm_chain.proofs.BoxLemmas.{marked, update2, update2_here, update2_else, update2_row}
use Rattle.nm_chain.proofs.BoxLemmas.{slot_low, turn_along, lids_but, in_four, words_else, homes_else}
use Rattle.nm_chain.proofs.BoxLemmas.{box_homes, box_words, box_home, box_word}
use Rattle.nm_chain.proofs.SeatLemmas.{knows_else, own, own_told, ruled}

module _ {A : Type 0} (boxable : A → Bool) (key : Sizes) (slots id : ℕ) (e : Entry A)
    (low : e.rank < key.ranks) (peer : ℕ)
    (few : peer < key.ranks) where
  abbrev pub n : ℕ
  n = key.ranks

  abbrev pub m : ℕ
  m = key.cells

  -- the slot of the box that the rank fills next for the other
  abbrev pub out_slot : ℕ
  out_slot = box_slot n m e.rank peer (length (put_to peer e.put_box) % 4)

  module _ (s : State (Load A) (View (Entry A))) (R : Rule boxable key s)
      (at : get_elem? s.views id ≡ maybe.some (view (e ∷ []))) where
    abbrev pub k : Agrees n m R.world e.rank e
    k = own key s R id e at low

    abbrev pub w : World A
    w = R.world

    -- the boxes to the other rank, as the entry has them
    abbrev pub OutLane : (ℕ → ℕ) → (ℕ → maybe.Option (maybe.Option (Load A))) → Bool → List (Load A) → List (Load A)
        → Type 0
    OutLane flag slot b puts waits = Window 4 None mark (GoesByBox boxable e.rank) flag slot b
        (w.emptying e.rank peer) puts (from e.rank (w.got_box peer)) waits

    abbrev pub out_flag : ℕ → ℕ
    out_flag t = slice_index s.words (4 * n + box_slot n m e.rank peer t)

    abbrev pub out_home : ℕ → maybe.Option (maybe.Option (Load A))
    out_home t = get_elem? s.homes (box_slot n m e.rank peer t)

    pub out_lane : OutLane out_flag out_home (filling_of e peer) (put_to peer e.put_box)
        (w.waits e.rank peer)
    out_lane = subst (λ b. OutLane out_flag out_home b (put_to peer e.put_box)
        (w.waits e.rank peer)) (sym (k.filling peer few))
        (subst (λ u. OutLane out_flag out_home (w.filling e.rank peer) (put_to peer u)
        (w.waits e.rank peer)) (sym k.put_box) (R.boxes e.rank peer low few))

    -- the entry with another lid
    pub filling_shown : (b : Bool) (w' : World A) → w'.place ≡ w.place → w'.heads ≡ w.heads → w'.put ≡ w.put
        → w'.got ≡ w.got → w'.put_box ≡ w.put_box → w'.got_box ≡ w.got_box
        → w'.emptying ≡ w.emptying → w'.filling e.rank peer ≡ b
        → ((l : ℕ) → l ≢ peer → w'.filling e.rank l ≡ w.filling e.rank l)
        → Agrees n m w' e.rank (plays.with_filling peer b e)
    filling_shown b w' ep ee eu eg epb egb em here_is else = record {
      rank = k.rank;
      ranks = k.ranks;
      per = k.per;
      long = k.long;
      hands = rw ep k.hands;
      receive = rw ee k.receive;
      free = rw ee k.free;
      put = rw eu k.put;
      got = rw eg k.got;
      put_box = rw epb k.put_box;
      got_box = rw egb k.got_box;
      outs = length-set e.filling peer b ∙ k.outs;
      ins = k.ins;
      filling = λ j lj. let o = k.outs in
          lids_but e.filling peer b false (w.filling e.rank) (w'.filling e.rank)
          (omega arith) here_is else (λ l ll. k.filling l (omega arith)) j (omega arith);
      emptying = rw em k.emptying;
    }

    -- the entry with one more full box
    pub full_known : Agrees n m w e.rank (plays.with_box_full peer e)
    full_known = record {
      rank = k.rank;
      ranks = k.ranks;
      per = k.per;
      long = k.long;
      hands = k.hands;
      receive = k.receive;
      free = k.free;
      put = k.put;
      got = k.got;
      put_box = k.put_box;
      got_box = k.got_box;
      outs = k.outs;
      ins = k.ins;
      filling = k.filling;
      emptying = k.emptying;
    }

    -- the sender takes the slot of a free box
    abbrev after_open : World A
    after_open = record w { filling = update2 w.filling e.rank peer true }

    pub open_ruled : filling_of e peer ≡ false → out_flag (length (put_to peer e.put_box) % 4) ≡ 0
        → Rule boxable key record {
          words = s.words;
          homes = set s.homes out_slot maybe.none;
          views =
              set s.views id (view (plays.with_filling peer true e ∷ []));
        }
    open_ruled shut found = let t = length (put_to peer e.put_box) % 4 in
        let lt = in_four (length (put_to peer e.put_box)) in
        let homes' = set s.homes out_slot maybe.none in
        let lane = subst (λ b. OutLane out_flag out_home b (put_to peer e.put_box)
        (w.waits e.rank peer)) shut out_lane in
        let room = windows.room_where_free 4 None mark (GoesByBox boxable e.rank)
        (omega arith) marked out_flag out_home (put_to peer e.put_box)
        (from e.rank (w.got_box peer)) (w.waits e.rank peer) false
        (w.emptying e.rank peer) lane found in
        let new = windows.producer_opens 4 None mark (GoesByBox boxable e.rank)
        (omega arith) marked out_flag out_home (put_to peer e.put_box)
        (from e.rank (w.got_box peer)) (w.waits e.rank peer) (w.emptying e.rank peer) lane room
        (λ u. get_elem? homes' (box_slot n m e.rank peer u))
        (box_home n m s.homes R.laid.slots e.rank peer t maybe.none low few lt)
        (λ u lu ne. box_homes n m s.homes e.rank peer t maybe.none u ne) in
        ruled key s R id e at low after_open (plays.with_filling peer true e) s.words homes'
        (own_told key s R id e at low) (λ _ _. refl) R.ranked
        (queues.elsewhere n m w s.words s.homes R.laid after_open refl refl refl refl refl s.words
        homes' refl (length-set s.homes out_slot maybe.none) (λ _ _. refl)
        (λ c lc. set_else s.homes out_slot c maybe.none
        (let b = (slot_low n m e.rank peer t low few lt).0 in omega arith)))
        (boxes.one_lane n m w s.words s.homes R.boxes e.rank peer low few after_open s.words homes'
        (λ i j li lj ne. (update2_else w.filling e.rank peer true i j ne, refl, refl, refl, refl))
        (λ c ne. (refl, homes_else n m s.homes e.rank peer t maybe.none c ne lt))
        (subst (λ b. OutLane out_flag (λ u. get_elem? homes' (box_slot n m e.rank peer u)) b
        (put_to peer (w.put_box e.rank)) (w.waits e.rank peer))
        (sym (update2_here w.filling e.rank peer true))
        (subst (λ u. OutLane out_flag (λ u. get_elem? homes' (box_slot n m e.rank peer u)) true
        (put_to peer u) (w.waits e.rank peer)) k.put_box new)))
        R.turns
        (filling_shown true after_open refl refl refl refl refl refl refl
        (update2_here w.filling e.rank peer true)
        (λ l ne. update2_else w.filling e.rank peer true e.rank l (λ p. ne p.1)))
        (λ r g _ ne o. knows_else n m w after_open r g o (λ c. inl refl) refl refl refl refl refl
        refl (update2_row w.filling e.rank peer true r ne) (λ _. refl))

    pub free_home : filling_of e peer ≡ false → out_flag (length (put_to peer e.put_box) % 4) ≡ 0
        → get_elem? s.homes out_slot ≡ maybe.some (maybe.some None)
    free_home shut found = let lane =
        subst (λ b. OutLane out_flag out_home b (put_to peer e.put_box) (w.waits e.rank peer)) shut
        out_lane in
        windows.free_slot_is_home 4 None mark (GoesByBox boxable e.rank)
        (omega arith) marked out_flag out_home (put_to peer e.put_box)
        (from e.rank (w.got_box peer)) (w.waits e.rank peer) (w.emptying e.rank peer) lane
        (windows.room_where_free 4 None mark (GoesByBox boxable e.rank)
        (omega arith) marked out_flag out_home (put_to peer e.put_box)
        (from e.rank (w.got_box peer)) (w.waits e.rank peer) false
        (w.emptying e.rank peer) lane found)

    -- the sender fills the box
    abbrev after_fill : Load A → World A
    after_fill p = record w {
      put_box =
          update w.put_box e.rank (w.put_box e.rank ++ (peer, p) ∷ []);
      filling =
          update2 w.filling e.rank peer false;
      waits =
          update2 w.waits e.rank peer (w.waits e.rank peer ++ p ∷ []);
    }

    put_here_to : (p : Load A)
        → put_to peer (update w.put_box e.rank (w.put_box e.rank ++ (peer, p) ∷ []) e.rank)
        ≡ put_to peer (w.put_box e.rank) ++ p ∷ []
    put_here_to p = ap (put_to peer)
        (update_here w.put_box e.rank (w.put_box e.rank ++ (peer, p) ∷ []) e.rank refl)
        ∙ put_append peer (w.put_box e.rank) ((peer, p) ∷ [])
        ∙ ap (λ u. put_to peer (w.put_box e.rank) ++ u)
        (pick_yes (ℕ_discrete peer peer) (p ∷ []) [] refl)

    put_else_to : (p : Load A) (i j : ℕ) → ¬ ((i ≡ e.rank) × (j ≡ peer))
        → put_to j (update w.put_box e.rank (w.put_box e.rank ++ (peer, p) ∷ []) i) ≡ put_to j
        (w.put_box i)
    put_else_to p i j ne = let many = w.put_box e.rank ++ (peer, p) ∷ [] in
        dite (ℕ_discrete i e.rank)
        (λ ei. ap (put_to j) (update_here w.put_box e.rank many i ei)
        ∙ put_append j (w.put_box e.rank) ((peer, p) ∷ [])
        ∙ ap (λ u. put_to j (w.put_box e.rank) ++ u)
        (pick_no (ℕ_discrete peer j) (p ∷ []) [] (λ q. ne (ei, sym q)))
        ∙ append-nil (put_to j (w.put_box e.rank)) ∙ ap (λ u. put_to j (w.put_box u)) (sym ei))
        (λ ni. ap (put_to j) (update_else w.put_box e.rank many i ni))

    fill_turns : (p : Load A) → number p ≡ sent_to peer e.put_box e.put
        → AllInSequence n (after_fill p)
    fill_turns p is i j li lj = let old = R.turns i j li lj in
        let many = w.put_box e.rank ++ (peer, p) ∷ [] in
        let waits' = update2 w.waits e.rank peer (w.waits e.rank peer ++ p ∷ []) in
        let st = sent_to j (w.put_box i) (w.put i) in let gb = map number (from i (w.got_box j)) in
        let bx = map number (w.waits i j) in let gc = map number (from i (w.got j)) in
        let ch = map number (from i (loads (w.chain j))) in
        dite (ℕ_discrete i e.rank)
        (λ ei. dite (ℕ_discrete j peer)
        (λ ej. let puts : put_to j (update w.put_box e.rank many i) ≡ put_to j (w.put_box i)
        ++ p ∷ [] = subst (λ u. put_to j (update w.put_box e.rank many u) ≡ put_to j
        (w.put_box u) ++ p ∷ []) (sym ei)
        (subst (λ u. put_to u (update w.put_box e.rank many e.rank) ≡ put_to u
        (w.put_box e.rank) ++ p ∷ []) (sym ej) (put_here_to p)) in
        let ws : waits' i j ≡ w.waits i j ++ p ∷ [] =
        subst (λ u. waits' u j ≡ w.waits u j ++ p ∷ []) (sym ei)
        (subst (λ u. waits' e.rank u ≡ w.waits e.rank u ++ p ∷ []) (sym ej)
        (update2_here w.waits e.rank peer (w.waits e.rank peer ++ p ∷ []))) in
        let next : number p ≡ st = is ∙ ap (λ u. sent_to peer u e.put) k.put_box
        ∙ ap (sent_to peer (w.put_box e.rank)) k.put
        ∙ ap (λ u. sent_to u (w.put_box e.rank) (w.put e.rank)) (sym ej)
        ∙ ap (λ u. sent_to j (w.put_box u) (w.put u)) (sym ei) in
        turn_along (suc st) (sent_to j (update w.put_box e.rank many i) (w.put i)) gb gb
        (bx ++ st ∷ []) (map number (waits' i j)) gc gc ch ch
        (let q = ap length puts in let la = length-append (put_to j (w.put_box i)) (p ∷ []) in
        omega arith) refl
        (ap (map number) ws ∙ map-append number (w.waits i j) (p ∷ [])
        ∙ ap (λ u. bx ++ u ∷ []) next) refl refl (put_by_box st gb bx gc ch old))
        (λ nj. turn_along st (sent_to j (update w.put_box e.rank many i) (w.put i)) gb gb bx
        (map number (waits' i j)) gc gc ch ch
        (ap (λ u. length u + length (put_to j (w.put i))) (put_else_to p i j (λ q. nj q.1)))
        refl
        (ap (map number) (update2_else w.waits e.rank peer (w.waits e.rank peer ++ p ∷ []) i j
        (λ q. nj q.1))) refl refl old))
        (λ ni. turn_along st (sent_to j (update w.put_box e.rank many i) (w.put i)) gb gb bx
        (map number (waits' i j)) gc gc ch ch
        (ap (λ u. length u + length (put_to j (w.put i))) (put_else_to p i j (λ q. ni q.0)))
        refl
        (ap (map number) (update2_else w.waits e.rank peer (w.waits e.rank peer ++ p ∷ []) i j
        (λ q. ni q.0))) refl refl old)

    pub fill_ruled : (p : Load A) → filling_of e peer ≡ true → sender p ≡ suc e.rank
        → IsShort boxable p
        → number p ≡ sent_to peer e.put_box e.put
        → Rule boxable key record {
          words = set s.words (4 * n + out_slot) (suc (number p));
          homes =
              set s.homes out_slot (maybe.some p);
          views =
              set s.views id (view (plays.with_put_box ((peer, p) ∷ [])
              (plays.with_filling peer false e) ∷ []));
        }
    fill_ruled p at_work from_here short is = let t = length (put_to peer e.put_box) % 4 in
        let lt = in_four (length (put_to peer e.put_box)) in
        let words' = set s.words (4 * n + out_slot) (suc (number p)) in
        let homes' = set s.homes out_slot (maybe.some p) in
        let w' = after_fill p in
        let lane = subst (λ b. OutLane out_flag out_home b (put_to peer e.put_box)
        (w.waits e.rank peer)) at_work out_lane in
        let flag' : ℕ → ℕ = λ u. slice_index words' (4 * n + box_slot n m e.rank peer u) in
        let home' : ℕ → maybe.Option (maybe.Option (Load A)) =
        λ u. get_elem? homes' (box_slot n m e.rank peer u) in
        let new = windows.producer_fills 4 None mark (GoesByBox boxable e.rank)
        (omega arith) marked out_flag out_home (put_to peer e.put_box)
        (from e.rank (w.got_box peer)) (w.waits e.rank peer)
        (w.emptying e.rank peer) lane p (record { sent = from_here; short = short }) flag' home'
        (box_word n m s.words R.laid.long e.rank peer t (suc (number p)) low few lt)
        (box_home n m s.homes R.laid.slots e.rank peer t (maybe.some p) low few lt)
        (λ u lu ne. box_words n m s.words e.rank peer t (suc (number p)) u ne)
        (λ u lu ne. box_homes n m s.homes e.rank peer t (maybe.some p) u ne) in
        let shown = filling_shown false (record w { filling = update2 w.filling e.rank peer false })
        refl refl refl refl refl refl refl (update2_here w.filling e.rank peer false)
        (λ l ne. update2_else w.filling e.rank peer false e.rank l (λ q. ne q.1)) in
        let b = slot_low n m e.rank peer t low few lt in
        ruled key s R id e at low w'
        (plays.with_put_box ((peer, p) ∷ []) (plays.with_filling peer false e)) words' homes'
        (own_told key s R id e at low) (λ q fits. get_or-set_other s.words (4 * n + out_slot)
        (2 * n + q) (suc (number p)) 0 (omega arith)) R.ranked
        (queues.elsewhere n m w s.words s.homes R.laid w' refl refl refl refl refl words' homes'
        (length-set s.words (4 * n + out_slot) (suc (number p)))
        (length-set s.homes out_slot (maybe.some p))
        (λ c lc. get_or-set_other s.words (4 * n + out_slot) c (suc (number p)) 0 (let b₀ = b.0 in
        omega arith)) (λ c lc. set_else s.homes out_slot c (maybe.some p) (let b₀ = b.0 in
        omega arith)))
        (boxes.one_lane n m w s.words s.homes R.boxes e.rank peer low few w' words' homes'
        (λ i j li lj ne. (
          update2_else w.filling e.rank peer false i j ne,
          refl,
          put_else_to p i j ne,
          refl,
          update2_else w.waits e.rank peer (w.waits e.rank peer ++ p ∷ []) i j ne,
        ))
        (λ c ne. (
          words_else n m s.words e.rank peer t (suc (number p)) c ne lt,
          homes_else n m s.homes e.rank peer t (maybe.some p) c ne lt,
        ))
        (rw (
          update2_here w.filling e.rank peer false,
          put_here_to p,
          update2_here w.waits e.rank peer (w.waits e.rank peer ++ p ∷ []),
        )
        (subst (λ u. OutLane flag' home' false (put_to peer u ++ p ∷ [])
        (w.waits e.rank peer ++ p ∷ [])) k.put_box new)))
        (fill_turns p is)
        record {
          rank = k.rank;
          ranks = k.ranks;
          per = k.per;
          long = k.long;
          hands = k.hands;
          receive = k.receive;
          free = k.free;
          put = k.put;
          got = k.got;
          put_box = ap (λ u. u ++ (peer, p) ∷ []) k.put_box
              ∙ sym (update_here w.put_box e.rank (w.put_box e.rank ++ (peer, p) ∷ []) e.rank refl);
          got_box = k.got_box;
          outs = shown.outs;
          ins = k.ins;
          filling = shown.filling;
          emptying = k.emptying;
        }
        (λ r g _ ne o. knows_else n m w w' r g o (λ c. inl refl) refl refl refl refl
        (update_else w.put_box e.rank (w.put_box e.rank ++ (peer, p) ∷ []) r ne) refl
        (update2_row w.filling e.rank peer false r ne) (λ _. refl))
