-- Each kind of step of a consumer keeps the rule, whatever the other ranks did.
use Rattle.std.proofs.Common.{◌≡◌, ◌≢◌, ℕ, suc, ◌+◌, ◌-◌, ◌*◌, ◌<◌, ◌≤◌, List, [], ◌∷◌}
use Rattle.std.proofs.Common.{◌++◌, length, set, sym, refl, ap, ◌∙◌, inl, subst, arith, None, Bool}
use Rattle.std.proofs.Common.{false, eqb, length-set, get_or-set_other}
use Rattle.std.proofs.lemmas.List.{set-get_or}
use Rattle.std.specs.Prelude.{slice_index, slice_index_or}
use mathlib.Core.Option as maybe
use mathlib.Core.Logic.{dite}
use native.Mathlib.Decide.{ℕ_discrete}
use lib.ListN.{get_elem?}
use prog.Atomic.{either}
use Rattle.atomic_table.specs.Table.{State, step, Act, keeps, takes, Allows, Valid, carried_after}
use Rattle.atomic_table.specs.Table.{stepped}
use Rattle.nm_chain.specs.declared.seats.views.View.{View}
use Rattle.nm_chain.specs.Spoken.{view}
use Rattle.nm_chain.proofs.UpdateLemmas.{update_here, update_else}
use Rattle.nm_chain.specs.Update.{update}
use Rattle.nm_chain.specs.Chain.{Item, item, held, queued}
use Rattle.nm_types.specs.Sizes.{Sizes}
use Rattle.nm_chain.specs.declared.table.table.Hand.TheVariants.{Away, Held}
use Rattle.nm_chain.specs.declared.table.table.Heads.{Heads}
use Rattle.nm_chain.specs.declared.table.table.Entry.{Entry}
use Rattle.atomic_table.proofs.Lists.{exchanged}
use Rattle.nm_chain.specs.Rule.{BoxesHold, Chain, Agrees, Load, NotOf}
use Rattle.nm_chain.specs.Rule.{QueuesHold, Rule, Shows, Suits, World, fetched, hand}
use Rattle.nm_chain.specs.Rule.{LooksHold, tail}
use Rattle.nm_chain.specs.declared.table.table.Look.TheVariants.{Fresh, LinkEmpty, TailElsewhere}
use Rattle.nm_chain.specs.Looks.{link_empty, look_in}
use Rattle.nm_chain.specs.OwnQueues.{OwnQueue}
use Rattle.nm_chain.specs.Plays as plays
use Rattle.nm_chain.proofs.DequeueLemmas as dequeue
use Rattle.nm_chain.proofs.BoxLemmas as box_laws
use Rattle.nm_chain.proofs.BoxLemmas.{owner_below}
use Rattle.nm_chain.proofs.SeatLemmas.{below_put, knows_else, place_but, hands_but, own, own_told}
use Rattle.nm_chain.proofs.SeatLemmas.{ruled, ruled_by, still_told, only}
use Rattle.nm_chain.proofs.HeadLemmas.{receive_of, free_of, other_receive, other_free, fits_in}
use Rattle.nm_chain.proofs.HeadLemmas.{own_or, own_or_free, own_in, same_rank, same_boxes}
use Rattle.nm_chain.proofs.HeadLemmas.{knows_look, empty_here, no_shadow, told_of, told_seen}
use Rattle.nm_chain.proofs.HeadLemmas.{told_heads, told_link, told_tail, told_taken, knows_missed}
use Rattle.nm_chain.proofs.HeadLemmas.{knows_end, away_in_queue, news}

module _ {A : Type 0} (boxable : A → Bool) (key : Sizes) (slots id : ℕ) (e : Entry A)
    (low : e.rank < key.ranks) (b : OwnQueue) where
  abbrev q : ℕ
  q = plays.queue key.ranks e.rank b

  -- the end of a queue changes, and nothing else
  one_end : (s : State (Load A) (View (Entry A))) (R : Rule boxable key s)
      → get_elem? s.views id ≡ maybe.some (view (e ∷ []))
      → (x : Heads) (words' : List ℕ) (F : Entry A → Entry A)
      → LooksHold key.ranks s.words e.rank (F (plays.with_heads b x e))
      → ((k : ℕ) → k < 2 * key.ranks → tail key.ranks words' k ≡ tail key.ranks s.words k)
      → ((w : World A) (g : Entry A) → Agrees key.ranks key.cells w e.rank g
      → Agrees key.ranks key.cells w e.rank (F g))
      → QueuesHold key.ranks key.cells (record R.world { heads = update R.world.heads q x }) words'
      s.homes → BoxesHold boxable key.ranks key.cells R.world words' s.homes
      → Rule boxable key record {
        words = words';
        homes = s.homes;
        views =
            set s.views id (view (F (plays.with_heads b x e) ∷ []));
      }
  one_end s R at x words' F told same' keep laid boxes = let k = own key s R id e at low in let w = R.world in
      let w' : World A = record w { heads = update w.heads q x } in let f = plays.with_heads b x e in
      let same = same_rank b x e in let boxy = same_boxes b x e in
      ruled key s R id e at low w' (F f) words' s.homes told same' R.ranked laid boxes R.turns
      (keep w' f record {
        rank = same.0 ∙ k.rank;
        ranks = same.1 ∙ k.ranks;
        per = same.5 ∙ k.per;
        long = ap length same.2 ∙ k.long;
        hands = λ c few. subst (λ hs. Shows e.rank (w.place c) (slice_index_or hs c Away))
            (sym same.2) (k.hands c few);
        receive = receive_of key.ranks e.rank low w.heads x b e k.receive;
        free = free_of key.ranks e.rank low w.heads x b e k.free;
        put = same.3 ∙ k.put;
        got = same.4 ∙ k.got;
        put_box = boxy.0 ∙ k.put_box;
        got_box = boxy.1 ∙ k.got_box;
        outs = ap length boxy.2 ∙ k.outs;
        ins = ap length boxy.3 ∙ k.ins;
        filling = λ j few. ap (λ u. slice_index_or u j false) boxy.2 ∙ k.filling j few;
        emptying = λ i few. ap (λ u. slice_index_or u i None) boxy.3 ∙ k.emptying i few;
      })
      (λ r g few ne o. knows_else key.ranks key.cells w w' r g o (λ c. inl refl)
      (other_receive key.ranks e.rank low w.heads x b r few ne)
      (other_free key.ranks e.rank low w.heads x b r few ne) refl refl refl refl refl (λ _. refl))

  -- a load leaves the words
  loaded : (s : State (Load A) (View (Entry A))) (i : ℕ) (hs : List (maybe.Option (Load A)))
      (vs : List (View (Entry A))) → Rule boxable key record { words = s.words; homes = hs; views = vs }
      → Rule boxable key record { words = set s.words i (slice_index s.words i); homes = hs; views = vs }
  loaded s i hs vs R = subst (λ ws. Rule boxable key record { words = ws; homes = hs; views = vs })
      (sym (set-get_or s.words i 0)) R

  note_kept : (hs : List (ℕ × Load A)) → Allows (Rule boxable key) slots id (view (e ∷ []), hs) q (λ k. k)
      (plays.loaded_head b (step slots q 0 0 maybe.none) (view (e ∷ []), hs))
  note_kept hs s R long at small = let k = own key s R id e at low in let w = R.world in
      let found = slice_index s.words q in let x = plays.heads_at (plays.heads_of b e).shadow found in
      let laid = subst (λ u. QueuesHold key.ranks key.cells
      (record w { heads = update w.heads q (plays.heads_at u found) }) s.words s.homes)
      (ap (λ (z : Heads). z.shadow) (sym (knows_end key.ranks key.cells w e.rank e k b)))
      (dequeue.loaded_head key.ranks key.cells w s.words s.homes R.laid q
      (fits_in key.ranks e.rank low w.heads x b)) in
      let fit = subst (λ u. found ≤ u) (sym k.long)
      (dequeue.head_low key.ranks key.cells w s.words s.homes R.laid q
      (fits_in key.ranks e.rank low w.heads x b)) in
      let told = told_seen key.ranks s.words e.rank e b found (own_told key s R id e at low) in
      dite (ℕ_discrete found 0)
      (λ none. (
        view (plays.with_missed b plays.head_miss (plays.with_heads b x e) ∷ []),
        keeps,
        tt,
        loaded s q s.homes _ (one_end s R at x s.words (plays.with_missed b plays.head_miss) told
            (λ _ _. refl)
            (knows_missed key.ranks key.cells e.rank b plays.head_miss) laid R.boxes),
        (
          ap (λ u. plays.queue u e.rank b) (sym k.ranks),
          fit,
          (λ _. ap (λ u. (
            view
                (plays.with_missed b plays.head_miss
                (plays.with_heads b (plays.heads_at (plays.heads_of b e).shadow u) e) ∷ []),
            hs,
          )) none),
          (λ some. absurd (omega arith)),
        ),
      ))
      (λ some. (
        view (plays.with_heads b x e ∷ []),
        keeps,
        tt,
        loaded s q s.homes _ (one_end s R at x s.words (λ g. g) told (λ _ _. refl) (λ _ _ h. h) laid
            R.boxes),
        (
          ap (λ u. plays.queue u e.rank b) (sym k.ranks),
          fit,
          (λ none. absurd (some none)),
          (λ _. refl),
        ),
      ))

  hide_kept : (c : ℕ) (hs : List (ℕ × Load A)) → (plays.heads_of b e).seen ≡ suc c
      → Allows (Rule boxable key) slots id (view (e ∷ []), hs) q (λ _. 0)
      (plays.cleared_head b (step slots q 0 0 maybe.none) (view (e ∷ []), hs))
  hide_kept c hs seen s R long at small = let k = own key s R id e at low in let w = R.world in
      let x = plays.heads_at (plays.heads_of b e).seen 0 in
      let in_world : (w.heads q).seen ≡ suc c =
      ap (λ (z : Heads). z.seen) (sym (knows_end key.ranks key.cells w e.rank e k b)) ∙ seen in
      let laid = subst (λ u. QueuesHold key.ranks key.cells
      (record w { heads = update w.heads q (plays.heads_at u 0) }) (set s.words q 0) s.homes)
      (sym seen)
      (dequeue.cleared_head key.ranks key.cells w s.words s.homes R.laid q c
      (fits_in key.ranks e.rank low w.heads x b) in_world) in (
        view (plays.with_heads b x e ∷ []),
        keeps,
        tt,
        one_end s R at x (set s.words q 0) (λ g. g)
            (told_heads key.ranks s.words e.rank e b x (λ z. let f = fits_in key.ranks e.rank low w.heads x b in
            let o = (told_of key.ranks s.words e.rank e (own_told key s R id e at low) b z).0 in
            let h = R.laid.seen q f (omega arith) in
            let none = no_shadow w.place q (slice_index s.words q) (w.heads q).shadow (w.chain q)
            (R.laid.queues q f).begins (omega arith) in
            let sh = ap (λ (u : Heads). u.shadow) (knows_end key.ranks key.cells w e.rank e k b) in
            omega arith) (own_told key s R id e at low))
            (λ p _. get_or-set_other s.words q (2 * key.ranks + p) 0 0
            (let f = fits_in key.ranks e.rank low w.heads x b in omega arith))
            (λ _ _ h. h) laid
            (box_laws.keep_word key.ranks key.cells w s.words s.homes R.boxes q 0
            (let f = fits_in key.ranks e.rank low w.heads x b in omega arith)),
        (ap (λ u. plays.queue u e.rank b) (sym k.ranks), refl),
      )

  -- the first cell goes into the hand
  one_taken : (s : State (Load A) (View (Entry A))) (R : Rule boxable key s)
      → get_elem? s.views id ≡ maybe.some (view (e ∷ []))
      → (x : Item (Load A)) (xs : Chain A) (shadow : ℕ) (words' : List ℕ)
      → ((k : ℕ) → k < 2 * key.ranks → k ≢ q → tail key.ranks words' k ≡ tail key.ranks s.words k)
      → x.cell < key.ranks * key.cells
      → R.world.place x.cell ≡ queued q
      → QueuesHold key.ranks key.cells
      (dequeue.after_take key.ranks key.cells R.world s.words s.homes R.laid e.rank q x xs
      (plays.heads_at shadow 0)) words' (set s.homes x.cell maybe.none)
      → R.world.chain q ≡ x ∷ xs → BoxesHold boxable key.ranks key.cells R.world words'
      (set s.homes x.cell maybe.none)
      → Rule boxable key record {
        words = words';
        homes = set s.homes x.cell maybe.none;
        views =
            set s.views id (view (plays.taken b x.cell x.load shadow e ∷ []));
      }
  one_taken s R at x xs shadow words' tails few was laid is boxes = let k = own key s R id e at low in
      let w = R.world in let n = key.ranks in let m = key.cells in let y = x.load in
      let z = plays.heads_at shadow 0 in
      let w' = dequeue.after_take n key.cells w s.words s.homes R.laid e.rank q x xs z in
      let f = plays.taken b x.cell y shadow e in let same = same_rank b z e in
      let boxy = same_boxes b z e in
      ruled_by key s R id e at low w' f words' (set s.homes x.cell maybe.none)
      (below_put n w.place x.cell (held e.rank) low R.ranked) laid boxes
      (box_laws.turns_less n w R.turns e.rank q x xs is (own_in n e.rank low w.heads z b) w' refl refl
      refl refl refl refl) record {
        rank = same.0 ∙ k.rank;
        ranks = same.1 ∙ k.ranks;
        per = same.5 ∙ k.per;
        long = length-set (plays.with_heads b z e).hands x.cell Held ∙ ap length same.2 ∙ k.long;
        hands = λ c low'. subst
            (λ hs. Shows e.rank (w'.place c) (slice_index_or (set hs x.cell Held) c Away))
            (sym same.2) (hands_but n m w e.rank x.cell (held e.rank) Held e k few refl c low');
        receive = receive_of n e.rank low w.heads z b e k.receive;
        free = free_of n e.rank low w.heads z b e k.free;
        put = same.3 ∙ k.put;
        got = ap (λ u. u ++ fetched e.ranks (plays.queue e.ranks e.rank b) y) (same.4 ∙ k.got)
            ∙ ap (λ j. w.got e.rank ++ fetched j (plays.queue j e.rank b) y) k.ranks
            ∙ sym (update_here w.got e.rank (w.got e.rank ++ fetched n q y) e.rank refl);
        put_box = boxy.0 ∙ k.put_box;
        got_box = boxy.1 ∙ k.got_box;
        outs = ap length boxy.2 ∙ k.outs;
        ins = ap length boxy.3 ∙ k.ins;
        filling = λ j few. ap (λ u. slice_index_or u j false) boxy.2 ∙ k.filling j few;
        emptying = λ i few. ap (λ u. slice_index_or u i None) boxy.3 ∙ k.emptying i few;
      }
      (λ r g few' ne o. knows_else n m w w' r g o
      (place_but n m w r x.cell (held e.rank) (subst (NotOf r) (sym was) tt) ne)
      (other_receive n e.rank low w.heads z b r few' ne)
      (other_free n e.rank low w.heads z b r few' ne) refl
      (update_else w.got e.rank (w.got e.rank ++ fetched n q y) r ne) refl refl refl (λ _. refl))
      (told_taken n s.words e.rank e words' b x.cell y shadow low tails (own_told key s R id e at low))
      (λ r g few' ne _ t.
      still_told n s.words words' r g
      (tails r (omega arith) (λ u. own_or n e.rank low w.heads z b r few' ne u))
      (tails (n + r) (omega arith) (λ u. own_or_free n e.rank low w.heads z b r few' ne u)) t)

  module _ (c : ℕ) (hs : List (ℕ × Load A)) (shadow : (plays.heads_of b e).shadow ≡ suc c) where
    abbrev me : plays.Knowing A
    me = (view (e ∷ []), hs)

    suited : {w : World A} (x : Item (Load A)) → Agrees key.ranks key.cells w e.rank e
        → Suits key.ranks key.cells q x → Suits e.ranks e.each (plays.queue e.ranks e.rank b) x
    suited x k su = subst (λ u. Suits u e.each (plays.queue u e.rank b) x) (sym k.ranks)
        (subst (λ u. Suits key.ranks u q x) (sym k.per) su)

    took : (x : Item (Load A)) (found : ℕ) → x.cell ≡ c → x.cell < length e.hands
        → found ≤ length e.hands → hand e x.cell ≡ Away
        → Suits e.ranks e.each (plays.queue e.ranks e.rank b) x → plays.HoldsNews b x.cell e x.load
        → plays.Took b c found me (
          view (plays.taken b x.cell x.load found e ∷ []),
          (x.cell, x.load) ∷ hs,
        )
    took x found is few fit away suits new = record {
      low = subst (λ k. k < length e.hands) is few;
      fits = fit;
      away = subst (λ k. hand e k ≡ Away) is away;
      load = x.load;
      suits = subst (λ k. Suits e.ranks e.each (plays.queue e.ranks e.rank b) (item k x.load)) is
          suits;
      news = subst (λ k. plays.HoldsNews b k e x.load) is new;
      after_is = ap (λ k. (view (plays.taken b k x.load found e ∷ []), (k, x.load) ∷ hs)) is;
    }

    pass_kept : (f : Entry A → Entry A) → ((w : World A) → Agrees key.ranks key.cells w e.rank e
        → Agrees key.ranks key.cells w e.rank (f e))
        → ((ws : List ℕ) → LooksHold key.ranks ws e.rank e → LooksHold key.ranks ws e.rank (f e))
        → Allows (Rule boxable key) slots id me (4 * key.ranks + c) (λ k. k)
        (plays.passed_or f b (step slots (4 * key.ranks + c) 0 0 maybe.none) me)
    pass_kept f keep tell s R long at small = let k = own key s R id e at low in let w = R.world in
        let n = key.ranks in let z = plays.heads_at 0 0 in
        let found = slice_index s.words (4 * n + c) in
        let shade : (w.heads q).shadow ≡ suc c =
        ap (λ (u : Heads). u.shadow) (sym (knows_end n key.cells w e.rank e k b)) ∙ shadow in
        let fit = fits_in n e.rank low w.heads z b in let mine = own_in n e.rank low w.heads z b in
        let st = dequeue.start n key.cells w s.words s.homes R.laid e.rank q c fit mine shade in
        let su = dequeue.start_suits n key.cells w s.words s.homes R.laid e.rank q c fit mine shade
        in
        let few = dequeue.start_low n key.cells w s.words s.homes R.laid e.rank q c fit mine shade in
        let named : 4 * n + c ≡ 4 * e.ranks + ((plays.heads_of b e).shadow - 1) =
        let rs = k.ranks in omega arith in
        dite (ℕ_discrete found 0)
        (λ none. (
          view (f e ∷ []),
          keeps,
          tt,
          only key s R id e at low (4 * n + c) (f e) (keep w k) (tell s.words (own_told key s R id e at low)),
          (named, (λ _. refl), (λ some. absurd (omega arith))),
        ))
        (λ some. let leads : found ≡ suc (found - 1) = omega arith in (
          view (plays.taken b st.0.cell st.0.load found e ∷ []),
          takes st.0.cell st.0.load,
          dequeue.at_home n key.cells w s.words s.homes R.laid e.rank q c fit mine shade,
          loaded s (4 * n + c) (set s.homes st.0.cell maybe.none) _
              (one_taken s R at st.0 st.1 found s.words (λ _ _ _. refl) few (ap w.place st.3 ∙ st.4)
              (subst (λ u. QueuesHold n key.cells
              (dequeue.after_take n key.cells w s.words s.homes R.laid e.rank q st.0 st.1
              (plays.heads_at u 0)) s.words (set s.homes st.0.cell maybe.none)) (sym leads)
              (dequeue.passed n key.cells w s.words s.homes R.laid e.rank q c fit mine shade
              (found - 1) leads)) st.2
              (box_laws.keep_slot n key.cells w s.words s.homes R.boxes st.0.cell maybe.none
              few)),
          (
            named,
            (λ none. absurd (some none)),
            (λ _. subst (λ d. plays.Took b d found me (
              view (plays.taken b st.0.cell st.0.load found e ∷ []),
              (st.0.cell, st.0.load) ∷ hs,
            )) (let rs = k.ranks in
                let t : c ≡ (4 * n + c) - 4 * e.ranks = omega arith in t)
                (took st.0 found st.3 (subst (λ u. st.0.cell < u) (sym k.long) few)
                (let nl = dequeue.next_low n key.cells w s.words s.homes R.laid e.rank q c fit
                mine shade (found - 1) leads in let kl = k.long in omega arith)
                (away_in_queue e.rank q (w.place st.0.cell) (hand e st.0.cell)
                (ap w.place st.3 ∙ st.4) (k.hands st.0.cell few)) (suited st.0 k su)
                (news n key.cells w e low k R.turns b st.0 st.1 few st.2 su))),
          ),
        ))

    drain_kept : Allows (Rule boxable key) slots id me (2 * key.ranks + q) (λ k. either (eqb k (suc c)) 0 k)
        (plays.drained b (step slots (2 * key.ranks + q) (suc c) 0 maybe.none) me)
    drain_kept s R long at small = let k = own key s R id e at low in let w = R.world in
        let n = key.ranks in let z = plays.heads_at 0 0 in
        let found = slice_index s.words (2 * n + q) in
        let shade : (w.heads q).shadow ≡ suc c =
        ap (λ (u : Heads). u.shadow) (sym (knows_end n key.cells w e.rank e k b)) ∙ shadow in
        let fit = fits_in n e.rank low w.heads z b in let mine = own_in n e.rank low w.heads z b in
        let st = dequeue.start n key.cells w s.words s.homes R.laid e.rank q c fit mine shade in
        let su = dequeue.start_suits n key.cells w s.words s.homes R.laid e.rank q c fit mine shade
        in
        let few = dequeue.start_low n key.cells w s.words s.homes R.laid e.rank q c fit mine shade in
        exchanged found (suc c) 0
        (λ m. (v : View (Entry A)) × (a : Act (Load A)) × Valid s.homes hs a
        × Rule boxable key (stepped s (2 * n + q) m id hs v a)
        × plays.drained b (step slots (2 * n + q) (suc c) 0 maybe.none) me found
        (v, carried_after hs a))
        (λ last. (
          view (plays.taken b st.0.cell st.0.load 0 e ∷ []),
          takes st.0.cell st.0.load,
          dequeue.at_home n key.cells w s.words s.homes R.laid e.rank q c fit mine shade,
          one_taken s R at st.0 [] 0 (set s.words (2 * n + q) 0)
              (λ p _ ne. get_or-set_other s.words (2 * n + q) (2 * n + p) 0 0 (omega arith)) few
              (ap w.place st.3 ∙ st.4)
              (dequeue.drained n key.cells w s.words s.homes R.laid e.rank q c fit mine shade last)
              (dequeue.sole n key.cells w s.words s.homes R.laid e.rank q c fit mine shade last)
              (box_laws.keep_both n key.cells w s.words s.homes R.boxes
              (2 * n + q) st.0.cell 0 maybe.none (omega arith) few),
          (
            ap (λ u. 2 * u + plays.queue u e.rank b) (sym k.ranks),
            sym shadow,
            (λ other. absurd (other last)),
            (λ _. subst (λ d. plays.Took b d 0 me
                (view (plays.taken b st.0.cell st.0.load 0 e ∷ []), (st.0.cell, st.0.load) ∷ hs))
                (let t : c ≡ suc c - 1 = omega arith in t)
                (took st.0 0 st.3 (subst (λ u. st.0.cell < u) (sym k.long) few) (omega arith)
                (away_in_queue e.rank q (w.place st.0.cell) (hand e st.0.cell)
                (ap w.place st.3 ∙ st.4) (k.hands st.0.cell few)) (suited st.0 k su)
                (news n key.cells w e low k R.turns b st.0 st.1 few st.2 su))),
          ),
        ))
        (λ other. (
          view (plays.with_look b TailElsewhere e ∷ []),
          keeps,
          tt,
          only key s R id e at low (2 * n + q) (plays.with_look b TailElsewhere e)
              (knows_look n key.cells e.rank b TailElsewhere w e k)
              (told_tail n s.words e.rank e b (omega arith) (λ z. other (z ∙ shadow))
              (own_told key s R id e at low)),
          (
            ap (λ u. 2 * u + plays.queue u e.rank b) (sym k.ranks),
            sym shadow,
            (λ _. refl),
            (λ same. absurd (other same)),
          ),
        ))

-- the same for any seat that speaks for one rank, of a fabric of n ranks
module _ {A : Type 0} (boxable : A → Bool) (key : Sizes) (n slots id : ℕ) (me : plays.Knowing A)
    (alone : plays.Alone me)
    (ranks : key.ranks ≡ n) (rank : ℕ) (named : (plays.mine me).rank ≡ rank) (low : rank < n)
    (b : OwnQueue) where
  here : (plays.mine me).rank < key.ranks
  here = rw (ranks, named) low

  own_queue : plays.queue n rank b ≡ plays.queue key.ranks (plays.mine me).rank b
  own_queue = λ i. plays.queue (sym ranks i) (sym named i) b

  pub note_allowed : (word : ℕ) → word ≡ plays.queue n rank b
      → Allows (Rule boxable key) slots id me word (λ k. k)
      (plays.loaded_head b (step slots word 0 0 maybe.none) me)
  note_allowed word is =
      subst (λ k. Allows (Rule boxable key) slots id me k (λ k. k)
      (plays.loaded_head b (step slots k 0 0 maybe.none) me)) (sym (is ∙ own_queue))
      (subst (λ v. Allows (Rule boxable key) slots id (v, me.1)
      (plays.queue key.ranks (plays.mine me).rank b) (λ k. k)
      (plays.loaded_head b (step slots (plays.queue key.ranks (plays.mine me).rank b) 0 0 maybe.none)
      (v, me.1))) (sym alone)
      (note_kept boxable key slots id (plays.mine me) here b me.1))

  pub hide_allowed : (word : ℕ) → word ≡ plays.queue n rank b
      → 0 < (plays.heads_of b (plays.mine me)).seen → Allows (Rule boxable key) slots id me word (λ _. 0)
      (plays.cleared_head b (step slots word 0 0 maybe.none) me)
  hide_allowed word is some =
      subst (λ k. Allows (Rule boxable key) slots id me k (λ _. 0)
      (plays.cleared_head b (step slots k 0 0 maybe.none) me)) (sym (is ∙ own_queue))
      (subst (λ v. Allows (Rule boxable key) slots id (v, me.1)
      (plays.queue key.ranks (plays.mine me).rank b) (λ _. 0)
      (plays.cleared_head b (step slots (plays.queue key.ranks (plays.mine me).rank b) 0 0 maybe.none)
      (v, me.1))) (sym alone)
      (hide_kept boxable key slots id (plays.mine me) here b ((plays.heads_of b (plays.mine me)).seen - 1)
      me.1 (omega arith)))

  pass_or : (f : Entry A → Entry A)
      → ((w : World A) → Agrees key.ranks key.cells w (plays.mine me).rank (plays.mine me)
      → Agrees key.ranks key.cells w (plays.mine me).rank (f (plays.mine me)))
      → ((ws : List ℕ) → LooksHold key.ranks ws (plays.mine me).rank (plays.mine me)
      → LooksHold key.ranks ws (plays.mine me).rank (f (plays.mine me))) → (c : ℕ)
      → (plays.heads_of b (plays.mine me)).shadow ≡ suc c → Allows (Rule boxable key) slots id me (4 * n + c)
      (λ k. k) (plays.passed_or f b (step slots (4 * n + c) 0 0 maybe.none) me)
  pass_or f keep tell c shadow =
      subst (λ k. Allows (Rule boxable key) slots id me (4 * k + c) (λ k. k)
      (plays.passed_or f b (step slots (4 * k + c) 0 0 maybe.none) me)) ranks
      (subst (λ v. Allows (Rule boxable key) slots id (v, me.1) (4 * key.ranks + c) (λ k. k)
      (plays.passed_or f b (step slots (4 * key.ranks + c) 0 0 maybe.none) (v, me.1)))
      (sym alone)
      (pass_kept boxable key slots id (plays.mine me) here b c me.1 shadow f keep tell))

  pub pass_allowed : (c : ℕ) → (plays.heads_of b (plays.mine me)).shadow ≡ suc c
      → Allows (Rule boxable key) slots id me (4 * n + c) (λ k. k)
      (plays.passed b (step slots (4 * n + c) 0 0 maybe.none) me)
  pass_allowed = let l = link_empty (look_in b (plays.mine me).looks) in
      pass_or (plays.with_link_empty b)
      (λ w h. knows_look key.ranks key.cells (plays.mine me).rank b l w (plays.mine me) h)
      (λ ws t. told_link key.ranks ws (plays.mine me).rank (plays.mine me) b l
      (empty_here (look_in b (plays.mine me).looks)) t)

  pub reload_allowed : (c : ℕ) → (plays.heads_of b (plays.mine me)).shadow ≡ suc c
      → Allows (Rule boxable key) slots id me (4 * n + c) (λ k. k)
      (plays.reloaded b (step slots (4 * n + c) 0 0 maybe.none) me)
  reload_allowed = pass_or
      (λ e. plays.with_look b (LinkEmpty 0) (plays.with_missed b plays.link_miss e))
      (λ w h. knows_look key.ranks key.cells (plays.mine me).rank b (LinkEmpty 0) w
      (plays.with_missed b plays.link_miss (plays.mine me))
      (knows_missed key.ranks key.cells (plays.mine me).rank b plays.link_miss w (plays.mine me) h))
      (λ ws t. told_link key.ranks ws (plays.mine me).rank
      (plays.with_missed b plays.link_miss (plays.mine me)) b (LinkEmpty 0)
      (empty_here Fresh) t)

  pub drain_allowed : (word old : ℕ) → word ≡ 2 * n + plays.queue n rank b
      → (plays.heads_of b (plays.mine me)).shadow ≡ old → 0 < old
      → Allows (Rule boxable key) slots id me word (λ k. either (eqb k old) 0 k)
      (plays.drained b (step slots word old 0 maybe.none) me)
  drain_allowed word old is shadow some = let at : word ≡ 2 * key.ranks + plays.queue key.ranks
      (plays.mine me).rank b = is ∙ (λ i. 2 * sym ranks i + own_queue i) in let c : ℕ = old - 1 in
      let plus : suc (old - 1) ≡ old = omega arith in
      subst (λ k. Allows (Rule boxable key) slots id me k (λ k. either (eqb k old) 0 k)
      (plays.drained b (step slots k old 0 maybe.none) me)) (sym at)
      (subst (λ v. Allows (Rule boxable key) slots id (v, me.1)
      (2 * key.ranks + plays.queue key.ranks (plays.mine me).rank b)
      (λ k. either (eqb k old) 0 k)
      (plays.drained b (step slots
      (2 * key.ranks + plays.queue key.ranks (plays.mine me).rank b) old 0 maybe.none)
      (v, me.1))) (sym alone)
      (subst (λ d. Allows (Rule boxable key) slots id (view (plays.mine me ∷ []), me.1)
      (2 * key.ranks + plays.queue key.ranks (plays.mine me).rank b) (λ k. either (eqb k d) 0 k)
      (plays.drained b (step slots
      (2 * key.ranks + plays.queue key.ranks (plays.mine me).rank b) d 0 maybe.none)
      (view (plays.mine me ∷ []), me.1))) plus
      (drain_kept boxable key slots id (plays.mine me) here b (old - 1) me.1 (shadow ∙ sym plus))))
