-- What a step of one seat leaves as it was, and the rule after it.
use Rattle.std.proofs.Common.{Bool, ◌≡◌, ◌≢◌, ℕ, ◌+◌, ◌*◌, ◌<◌, ◌⊎◌, List, [], ◌∷◌}
use Rattle.std.proofs.Common.{length, set, sym, refl, ap, ◌∙◌, inl, inr, subst, ⊎_elim, arith}
use Rattle.std.proofs.Common.{length-set, get_or-set_same, get_or-set_other}
use Rattle.std.proofs.lemmas.List.{set-get_or}
use Rattle.std.specs.Prelude.{slice_index, slice_index_or}
use mathlib.Core.Option as maybe
use mathlib.Core.Logic.{dite}
use native.Mathlib.Decide.{ℕ_discrete}
use lib.ListN.{get_elem?}
use Rattle.atomic_table.specs.Table.{State}
use Rattle.nm_chain.specs.declared.seats.views.View.{View}
use Rattle.nm_chain.specs.Spoken.{view}
use Rattle.nm_chain.specs.Update.{update}
use Rattle.nm_chain.proofs.UpdateLemmas.{update_here, update_else}
use Rattle.nm_chain.proofs.SpokenLemmas.{spoken_steps, spoken_of}
use Rattle.nm_types.specs.Sizes.{Sizes}
use Rattle.nm_chain.specs.declared.table.table.Hand.{Hand}
use Rattle.nm_chain.specs.declared.table.table.Hand.TheVariants.{Away, Loose, Held, Ready, Entering}
use Rattle.nm_chain.specs.declared.table.table.Entry.{Entry}
use Rattle.nm_chain.specs.Rule.{Load, Place, hand, rank_of, World, NotOf, Below, Shows}
use Rattle.nm_chain.specs.Rule.{Agrees}
use Rattle.nm_chain.specs.Rule.{tail}
use Rattle.nm_chain.specs.Rule.{QueuesHold, BoxesHold, AllInSequence, LooksHold, Rule}
use Rattle.nm_chain.specs.Plays as plays

module _ {A : Type 0} where
  -- a rank sees nothing of what has no part of it
  shown_else : (r : ℕ) (p p' : Place A) (h : Hand A) → NotOf r p → NotOf r p' → Shows r p h → Shows r p' h
  shown_else r p p' Away n n' s = n'
  shown_else r p p' Loose n n' s = absurd (subst (NotOf r) s n refl)
  shown_else r p p' Held n n' s = absurd (subst (NotOf r) s n refl)
  shown_else r p p' (Ready y) n n' s = absurd (subst (NotOf r) s n refl)
  shown_else r p p' (Entering q t) n n' s = absurd (subst (NotOf r) s n refl)

  pub below_put : (n : ℕ) (place : ℕ → Place A) (c : ℕ) (p : Place A) → Below n p
      → ((d : ℕ) → Below n (place d)) → (d : ℕ) → Below n (update place c p d)
  below_put n place c p b all d =
      dite (ℕ_discrete d c) (λ e. subst (Below n) (sym (update_here place c p d e)) b)
      (λ ne. subst (Below n) (sym (update_else place c p d ne)) (all d))

  -- what a rank was told is still so where the tails of its queues are the same
  pub still_told : (n : ℕ) (words words' : List ℕ) (r : ℕ) (e : Entry A)
      → tail n words' r ≡ tail n words r → tail n words' (n + r) ≡ tail n words (n + r)
      → LooksHold n words r e → LooksHold n words' r e
  still_told n words words' r e ends frees t = (
    (λ k. let o = t.0 k in (o.0, (λ z. o.1 (sym ends ∙ z)))),
    (λ k. let o = t.1 k in (o.0, (λ z. o.1 (sym frees ∙ z)))),
  )

module _ {A : Type 0} (n m : ℕ) (w : World A) where
  -- the entry of a rank of which nothing changes
  pub knows_else : (w' : World A) (r : ℕ) (e : Entry A) → Agrees n m w r e
      → ((c : ℕ) → (w'.place c ≡ w.place c) ⊎ (NotOf r (w.place c) × NotOf r (w'.place c)))
      → w'.heads r ≡ w.heads r → w'.heads (n + r) ≡ w.heads (n + r) → w'.put r ≡ w.put r
      → w'.got r ≡ w.got r
      → w'.put_box r ≡ w.put_box r → w'.got_box r ≡ w.got_box r → w'.filling r ≡ w.filling r
      → ((i : ℕ) → w'.emptying i r ≡ w.emptying i r) → Agrees n m w' r e
  knows_else w' r e k places ends frees puts gots boxes_put boxes_got outs ins = record {
    rank = k.rank;
    ranks = k.ranks;
    per = k.per;
    long = k.long;
    hands = λ c low. ⊎_elim (λ s. subst (λ p. Shows r p (hand e c)) (sym s) (k.hands c low))
        (λ t. shown_else r (w.place c) (w'.place c) (hand e c) t.0 t.1 (k.hands c low)) (places c);
    receive = k.receive ∙ sym ends;
    free = k.free ∙ sym frees;
    put = k.put ∙ sym puts;
    got = k.got ∙ sym gots;
    put_box = k.put_box ∙ sym boxes_put;
    got_box = k.got_box ∙ sym boxes_got;
    outs = k.outs;
    ins = k.ins;
    filling = λ j low. k.filling j low ∙ ap (λ g. g j) (sym outs);
    emptying = λ i low. k.emptying i low ∙ sym (ins i);
  }

  -- one cell goes from a place of the rank r, or of nobody, to another
  pub place_but : (r : ℕ) (c : ℕ) (p : Place A) → NotOf r (w.place c) → NotOf r p → (d : ℕ)
      → (update w.place c p d ≡ w.place d) ⊎ (NotOf r (w.place d) × NotOf r (update w.place c p d))
  place_but r c p n n' d =
      dite (ℕ_discrete d c)
      (λ e. inr (
        subst (λ k. NotOf r (w.place k)) (sym e) n,
        subst (NotOf r) (sym (update_here w.place c p d e)) n',
      ))
      (λ ne. inl (update_else w.place c p d ne))

  -- the hand of a cell in the entry of its own rank
  pub hands_but : (r c : ℕ) (p : Place A) (h : Hand A) (e : Entry A) → Agrees n m w r e → c < n * m
      → Shows r p h → (d : ℕ) → d < n * m
      → Shows r (update w.place c p d) (slice_index_or (set e.hands c h) d Away)
  hands_but r c p h e k low s d few = dite (ℕ_discrete d c)
      (λ z. subst (λ u. Shows r (update w.place c p u) (slice_index_or (set e.hands c h) u Away))
      (sym z)
      (let there : c < length e.hands = let long = k.long in omega arith in
      rw (update_here w.place c p c refl, get_or-set_same e.hands c h Away there) s))
      (λ ne. rw (update_else w.place c p d ne, get_or-set_other e.hands c d h Away ne)
      (k.hands d few))

module _ {A : Type 0} {boxable : A → Bool} (key : Sizes) (s : State (Load A) (View (Entry A)))
    (R : Rule boxable key s) (id : ℕ) (e : Entry A)
    (at : get_elem? s.views id ≡ maybe.some (view (e ∷ []))) (low : e.rank < key.ranks) where
  abbrev n : ℕ
  n = key.ranks

  abbrev m : ℕ
  m = key.cells

  pub own : Agrees n m R.world e.rank e
  own = subst (Agrees n m R.world e.rank) (spoken_of rank_of R.ledger s.views R.spoken id e [] at)
      (R.knows e.rank low)

  pub own_told : LooksHold n s.words e.rank e
  own_told = subst (LooksHold n s.words e.rank)
      (spoken_of rank_of R.ledger s.views R.spoken id e [] at) (R.told e.rank low)

  -- the rule after a step of this seat
  pub ruled_by : (w' : World A) (f : Entry A) (words' : List ℕ) (homes' : List (maybe.Option (Load A)))
      → ((c : ℕ) → Below n (w'.place c)) → QueuesHold n key.cells w' words' homes'
      → BoxesHold boxable n key.cells w' words' homes' → AllInSequence n w' → Agrees n m w' e.rank f
      → ((r : ℕ) (g : Entry A) → r < key.ranks → r ≢ e.rank → Agrees n m R.world r g
      → Agrees n m w' r g) → LooksHold n words' e.rank f
      → ((r : ℕ) (g : Entry A) → r < key.ranks → r ≢ e.rank → Agrees n m R.world r g
      → LooksHold n s.words r g → LooksHold n words' r g)
      → Rule boxable key record {
        words = words';
        homes = homes';
        views =
            set s.views id (view (f ∷ []));
      }
  ruled_by w' f words' homes' ranked laid boxes turns mine others told told_others = record {
    ledger = update R.ledger e.rank f;
    world = w';
    spoken = spoken_steps rank_of R.ledger s.views R.spoken id e f at mine.rank;
    knows = λ r few. dite (ℕ_discrete r e.rank)
        (λ z. subst (λ k. Agrees n m w' k (update R.ledger e.rank f k)) (sym z)
        (subst (Agrees n m w' e.rank) (sym (update_here R.ledger e.rank f e.rank refl)) mine))
        (λ ne. subst (Agrees n m w' r) (sym (update_else R.ledger e.rank f r ne))
        (others r (R.ledger r) few ne (R.knows r few)));
    ranked = ranked;
    laid = laid;
    boxes = boxes;
    turns = turns;
    told = λ r few. dite (ℕ_discrete r e.rank)
        (λ z. subst (λ k. LooksHold n words' k (update R.ledger e.rank f k)) (sym z)
        (subst (LooksHold n words' e.rank) (sym (update_here R.ledger e.rank f e.rank refl)) told))
        (λ ne. subst (LooksHold n words' r) (sym (update_else R.ledger e.rank f r ne))
        (told_others r (R.ledger r) few ne (R.knows r few) (R.told r few)));
  }

  -- the same where the tails stay
  pub ruled : (w' : World A) (f : Entry A) (words' : List ℕ) (homes' : List (maybe.Option (Load A)))
      → LooksHold n s.words e.rank f
      → ((q : ℕ) → q < 2 * n → tail n words' q ≡ tail n s.words q)
      → ((c : ℕ) → Below n (w'.place c)) → QueuesHold n key.cells w' words' homes'
      → BoxesHold boxable n key.cells w' words' homes' → AllInSequence n w' → Agrees n m w' e.rank f
      → ((r : ℕ) (g : Entry A) → r < key.ranks → r ≢ e.rank → Agrees n m R.world r g
      → Agrees n m w' r g) → Rule boxable key record {
        words = words';
        homes = homes';
        views =
            set s.views id (view (f ∷ []));
      }
  ruled w' f words' homes' told same ranked laid boxes turns mine others =
      ruled_by w' f words' homes' ranked laid boxes turns mine others
      (still_told n s.words words' e.rank f (same e.rank (omega arith))
      (same (n + e.rank) (omega arith)) told)
      (λ r g few _ _ o. still_told n s.words words' r g (same r (omega arith))
      (same (n + r) (omega arith)) o)

  -- one cell changes hands, and nothing else
  pub one_hand : (c : ℕ) (p : Place A) (h : Hand A) (words' : List ℕ)
      (homes' : List (maybe.Option (Load A)))
      → ((q : ℕ) → q < 2 * n → tail n words' q ≡ tail n s.words q)
      → c < key.ranks * key.cells → Below key.ranks p
      → Shows e.rank p h → ((r : ℕ) → r ≢ e.rank → NotOf r (R.world.place c) × NotOf r p)
      → QueuesHold n key.cells (record R.world { place = update R.world.place c p }) words' homes'
      → BoxesHold boxable n key.cells R.world words' homes'
      → Rule boxable key record {
        words = words';
        homes = homes';
        views =
            set s.views id (view (plays.with_hand c h e ∷ []));
      }
  one_hand c p h words' homes' same few below shows others laid boxes = let w' =
      record R.world { place = update R.world.place c p } in
      ruled w' (plays.with_hand c h e) words' homes' own_told same
      (below_put key.ranks R.world.place c p below R.ranked) laid boxes R.turns record {
        rank = own.rank;
        ranks = own.ranks;
        per = own.per;
        long = length-set e.hands c h ∙ own.long;
        hands = hands_but n m R.world e.rank c p h e own few shows;
        receive = own.receive;
        free = own.free;
        put = own.put;
        got = own.got;
        put_box = own.put_box;
        got_box = own.got_box;
        outs = own.outs;
        ins = own.ins;
        filling = own.filling;
        emptying = own.emptying;
      } (λ r g _ ne k. let o = others r ne in
      knows_else n m R.world w' r g k (place_but n m R.world r c p o.0 o.1) refl refl refl refl refl
      refl refl (λ _. refl))

  -- a load that changes the entry alone
  pub only : (i : ℕ) (f : Entry A) → Agrees n m R.world e.rank f → LooksHold n s.words e.rank f
      → Rule boxable key record {
        words = set s.words i (slice_index s.words i);
        homes = s.homes;
        views = set s.views id (view (f ∷ []));
      }
  only i f kf told = subst (λ ws. Rule boxable key record {
    words = ws;
    homes = s.homes;
    views = set s.views id (view (f ∷ []));
  }) (sym (set-get_or s.words i 0))
      (ruled R.world f s.words s.homes told (λ _ _. refl) R.ranked R.laid R.boxes R.turns kf
      (λ _ _ _ _ o. o))
