-- Each kind of step keeps the rule, whatever the other ranks did.
use Rattle.std.proofs.Common.{◌≡◌, ◌≢◌, ℕ, ◌*◌, ◌%◌, ◌<◌}
use Rattle.std.proofs.Common.{List, [], ◌∷◌, length, set, sym, refl, ap, ◌∙◌, subst}
use Rattle.std.proofs.Common.{length-set, get_or-set_other, get_or-set_same, arith}
use Rattle.std.proofs.lemmas.Nat.{mod_below}
use Rattle.std.proofs.lemmas.List.{set-get_or}
use Rattle.std.specs.Prelude.{slice_index}
use mathlib.Core.Option as maybe
use mathlib.Core.Logic.{dite}
use native.Mathlib.Decide.{ℕ_discrete}
use lib.ListN.{get_elem?}
use Rattle.atomic_table.specs.Table.{State}
use Rattle.atomic_table.proofs.Lists.{set_else}
use Rattle.nm_chain.specs.declared.seats.views.View.{View}
use Rattle.nm_chain.specs.Spoken.{view}
use Rattle.nm_chain.specs.Update.{update}
use Rattle.nm_chain.proofs.SpokenLemmas.{spoken_of, spoken_steps}
use Rattle.nm_chain.proofs.UpdateLemmas.{update_here, update_else}
use Rattle.nm_copyring.specs.declared.table.Look.TheVariants.{Fresh}
use Rattle.nm_copyring.specs.declared.table.Lane.{Lane}
use Rattle.nm_copyring.specs.declared.table.Entry.{Entry}
use Rattle.nm_copyring.specs.Rule.{Holds, Load, rank_of, lane, place, Ring, Knows, Rule}
use Rattle.nm_copyring.specs.Plays.{with_lane}
use Rattle.nm_copyring.proofs.ListLemmas.{one_place, place_low}
use Rattle.nm_copyring.proofs.RingLemmas.{SameOut, SameIn, fresh_free, fresh_full, ring_along, lane_here, lane_else}

-- what a change of one lane leaves as it was
pub lane_keeps : {A : Type 0} (e : Entry) (j : ℕ) (few : j < length e.lanes) (f : Lane → Lane)
    (part : Lane → A) → ((x : Lane) → part (f x) ≡ part x) → (l : ℕ)
    → part (lane (with_lane f j e) l) ≡ part (lane e l)
lane_keeps e j few f part same l = dite (ℕ_discrete l j)
    (λ is. ap (λ k. part (lane (with_lane f j e) k)) is ∙ ap part (lane_here e j f few)
    ∙ same (lane e j) ∙ ap (λ k. part (lane e k)) (sym is))
    (λ ne. ap part (lane_else e j l f ne))

-- a word that is not 0 stays so where one is set that is not 0 where it was not, and one that is 0 where
-- one is set that is 0 where it was
set_full : (ws : List ℕ) (w x v : ℕ) → w < length ws → (0 < slice_index ws w → 0 < x) → 0 < slice_index ws v
    → 0 < slice_index (set ws w x) v
set_full ws w x v low fills full = dite (ℕ_discrete v w)
    (λ same. subst (λ u. 0 < slice_index (set ws w x) u) (sym same)
    (subst (λ y. 0 < y) (sym (get_or-set_same ws w x 0 low))
    (fills (subst (λ u. 0 < slice_index ws u) same full))))
    (λ ne. subst (λ y. 0 < y) (sym (get_or-set_other ws w v x 0 ne)) full)

set_free : (ws : List ℕ) (w x v : ℕ) → w < length ws → (slice_index ws w ≡ 0 → x ≡ 0) → slice_index ws v ≡ 0
    → slice_index (set ws w x) v ≡ 0
set_free ws w x v low empties free = dite (ℕ_discrete v w)
    (λ same. ap (λ u. slice_index (set ws w x) u) same ∙ get_or-set_same ws w x 0 low
    ∙ empties (subst (λ u. slice_index ws u ≡ 0) same free))
    (λ ne. get_or-set_other ws w v x 0 ne ∙ free)

small : (k : ℕ) → k % 4 < 4
small k = mod_below k 4 (omega arith)

-- a seat speaks for the rank that knows e
module _ (slots id : ℕ) (e : Entry) (low : e.rank < e.ranks) (wide : length e.lanes ≡ e.ranks)
    (deep : slots ≡ 4 * (e.ranks * e.ranks)) where
  abbrev n : ℕ
  n = e.ranks

  module _ (s : State Load (View Entry)) (R : Rule n s)
      (at : get_elem? s.views id ≡ maybe.some (view (e ∷ []))) where
    -- the ledger has what the seat knows
    is : R.ledger e.rank ≡ e
    is = spoken_of rank_of R.ledger s.views R.spoken id e [] at

    -- the places for b, and those of a
    pub ring_to : (b : ℕ) → b < n → Ring n s.words s.homes e.rank b e (R.ledger b)
    ring_to b lb = subst (λ (g : Entry). Ring n s.words s.homes e.rank b g (R.ledger b)) is
        (R.rings e.rank b low lb)

    pub ring_of : (a : ℕ) → a < n → Ring n s.words s.homes a e.rank (R.ledger a) e
    ring_of a la = subst (λ (g : Entry). Ring n s.words s.homes a e.rank (R.ledger a) g) is
        (R.rings a e.rank la low)

    abbrev after : Entry → ℕ → Entry
    after f = update R.ledger e.rank f

    abbrev Rings : List ℕ → List (maybe.Option Load) → Entry → Type 0
    Rings words homes f = (i j : ℕ) → i < n → j < n
        → Ring n words homes i j (after f i) (after f j)

    -- what the rank found holds
    pub mine_holds : Holds n s.words e
    mine_holds = subst (Holds n s.words) is (R.looks e.rank low)

    -- .. and still does where nothing but counts or the work has changed
    pub holds_same : (f : Entry) → f.rank ≡ e.rank → f.look ≡ e.look
        → ((l : ℕ) → (lane f l).pushed ≡ (lane e l).pushed) → ((l : ℕ) → (lane f l).pulled ≡ (lane e l).pulled)
        → Holds n s.words f
    holds_same f rank look out into = λ j lj. let was = mine_holds j lj in (
      λ found. (λ i. slice_index s.words (place n (rank i) j (length (out j i) % 4))) ∙ was.0 (sym look ∙ found),
      λ found. subst (λ x. 0 < x)
          (sym (λ i. slice_index s.words (place n j (rank i) (length (into j i) % 4)))) (was.1 (sym look ∙ found)),
    )

    -- a rank that looks anew found nothing
    fresh_holds : (words : List ℕ) (f : Entry) → f.look ≡ Fresh → Holds n words f
    fresh_holds words f fresh = λ j lj. (
      (λ found. absurd (fresh_free j (sym fresh ∙ found))),
      (λ found. absurd (fresh_full j (sym fresh ∙ found))),
    )

    all_hold : (f : Entry) (words : List ℕ) → Holds n words f
        → ((r : ℕ) → r < n → r ≢ e.rank → Holds n words (R.ledger r))
        → (r : ℕ) → r < n → Holds n words (after f r)
    all_hold f words own others r lr = dite (ℕ_discrete r e.rank)
        (λ x. subst (Holds n words) (sym (update_here R.ledger e.rank f r x)) own)
        (λ x. subst (Holds n words) (sym (update_else R.ledger e.rank f r x)) (others r lr x))

    ruled : (f : Entry) (words : List ℕ) (homes : List (maybe.Option Load)) → Knows n e.rank f
        → length words ≡ length s.words → Rings words homes f
        → ((r : ℕ) → r < n → Holds n words (after f r))
        → Rule n record {
          words = words;
          homes = homes;
          views = set s.views id (view (f ∷ []));
        }
    ruled f words homes kf long rings looks = record {
      ledger = after f;
      spoken = spoken_steps rank_of R.ledger s.views R.spoken id e f at kf.0;
      knows = λ r lr. dite (ℕ_discrete r e.rank)
          (λ x. subst (Knows n r) (sym (update_here R.ledger e.rank f r x))
          (subst (λ k. Knows n k f) (sym x) kf))
          (λ x. subst (Knows n r) (sym (update_else R.ledger e.rank f r x)) (R.knows r lr));
      long = long ∙ R.long;
      rings = rings;
      looks = looks;
    }

    -- the part that a rank has in the pair of i and j
    out_after : (f : Entry) (i j : ℕ) → (i ≡ e.rank → SameOut e f j)
        → SameOut (R.ledger i) (after f i) j
    out_after f i j same = dite (ℕ_discrete i e.rank)
        (λ x. subst (λ (g : Entry). SameOut g (after f i) j) (sym (ap R.ledger x ∙ is))
        (subst (λ (g : Entry). SameOut e g j) (sym (update_here R.ledger e.rank f i x)) (same x)))
        (λ x. subst (λ (g : Entry). SameOut (R.ledger i) g j)
        (sym (update_else R.ledger e.rank f i x)) (refl, refl))

    in_after : (f : Entry) (i j : ℕ) → (j ≡ e.rank → SameIn e f i)
        → SameIn (R.ledger j) (after f j) i
    in_after f i j same = dite (ℕ_discrete j e.rank)
        (λ x. subst (λ (g : Entry). SameIn g (after f j) i) (sym (ap R.ledger x ∙ is))
        (subst (λ (g : Entry). SameIn e g i) (sym (update_here R.ledger e.rank f j x)) (same x)))
        (λ x. subst (λ (g : Entry). SameIn (R.ledger j) g i)
        (sym (update_else R.ledger e.rank f j x)) (refl, refl))

    -- a load that changes counts alone
    pub only_counts : (f : Entry) (w : ℕ) → Knows n e.rank f → ((l : ℕ) → SameOut e f l)
        → ((l : ℕ) → SameIn e f l) → Holds n s.words f
        → Rule n record {
          words = set s.words w (slice_index s.words w);
          homes = s.homes;
          views = set s.views id (view (f ∷ []));
        }
    only_counts f w kf out into found = subst (λ ws. Rule n record {
      words = ws;
      homes = s.homes;
      views = set s.views id (view (f ∷ []));
    }) (sym (set-get_or s.words w 0))
        (ruled f s.words s.homes kf refl (λ i j li lj. ring_along n s.words s.words s.homes s.homes
        i j (R.ledger i) (after f i) (R.ledger j) (after f j) (λ k lk. refl) (λ k lk. refl)
        (out_after f i j (λ x. out j)) (in_after f i j (λ x. into i)) (R.rings i j li lj))
        (all_hold f s.words found (λ r lr x. R.looks r lr)))

    -- one place changes, of the pair of a and b
    module _ (a b k x : ℕ) (z : maybe.Option Load) (la : a < n) (lb : b < n) (lk : k < 4) where
      abbrev w : ℕ
      w = place n a b k

      abbrev words' : List ℕ
      words' = set s.words w x

      abbrev homes' : List (maybe.Option Load)
      homes' = set s.homes w z

      rings_but : (f : Entry) → ((l : ℕ) → ¬ ((e.rank ≡ a) × (l ≡ b)) → SameOut e f l)
          → ((l : ℕ) → ¬ ((l ≡ a) × (e.rank ≡ b)) → SameIn e f l)
          → Ring n words' homes' a b (after f a) (after f b) → Rings words' homes' f
      rings_but f out into here i j li lj = dite (ℕ_discrete i a)
          (λ ea. dite (ℕ_discrete j b)
          (λ eb. subst (λ u. Ring n words' homes' u j (after f u) (after f j)) (sym ea)
          (subst (λ u. Ring n words' homes' a u (after f a) (after f u)) (sym eb) here))
          (λ nb. away (λ p. nb p.1)))
          (λ na. away (λ p. na p.0)) where
            away : ¬ ((i ≡ a) × (j ≡ b)) → Ring n words' homes' i j (after f i) (after f j)
            away ne = ring_along n s.words words' s.homes homes' i j (R.ledger i) (after f i)
                (R.ledger j) (after f j)
                (λ t lt. get_or-set_other s.words w (place n i j t) x 0
                (λ same. ne (one_place n i j t a b k lj lb lt lk same)))
                (λ t lt. set_else s.homes w (place n i j t) z
                (λ same. ne (one_place n i j t a b k lj lb lt lk same)))
                (out_after f i j (λ y. out j (λ p. ne (y ∙ p.0, p.1))))
                (in_after f i j (λ y. into i (λ p. ne (p.0, y ∙ p.1)))) (R.rings i j li lj)

    -- the rank steps as the sender to b
    module _ (b k x : ℕ) (z : maybe.Option Load) (lb : b < n) (lk : k < 4) (f : Entry)
        (kf : Knows n e.rank f) (out : (l : ℕ) → l ≢ b → SameOut e f l)
        (into : (l : ℕ) → SameIn e f l) where
      abbrev w_out : ℕ
      w_out = place n e.rank b k

      -- what the others found, whose full place the word may be
      out_holds : (0 < slice_index s.words w_out → 0 < x) → (r : ℕ) → r < n → r ≢ e.rank
          → Holds n (set s.words w_out x) (R.ledger r)
      out_holds fills r lr ne j lj =
          let known = R.knows r lr in
          let was = R.looks r lr j lj in
          let d = R.ledger r in
          let inside = place_low n e.rank b k low lb lk in
          let longer = R.long in (
            λ free. get_or-set_other s.words w_out (place n d.rank j (length (lane d j).pushed % 4)) x 0
                (λ same. ne (sym known.0 ∙ (one_place n d.rank j (length (lane d j).pushed % 4) e.rank b k lj lb
                (small (length (lane d j).pushed)) lk same).0)) ∙ was.0 free,
            λ full. set_full s.words w_out x (place n j d.rank (length (lane d j).pulled % 4)) (omega arith) fills
                (was.1 full),
          )

      pub sender_steps : f.look ≡ Fresh → (0 < slice_index s.words w_out → 0 < x)
          → Ring n (set s.words w_out x) (set s.homes w_out z) e.rank b f (R.ledger b)
          → Rule n record {
            words = set s.words w_out x;
            homes = set s.homes w_out z;
            views = set s.views id (view (f ∷ []));
          }
      sender_steps fresh fills change = ruled f (set s.words w_out x) (set s.homes w_out z) kf
          (length-set s.words w_out x)
          (rings_but e.rank b k x z low lb lk f (λ l ne. out l (λ y. ne (refl, y))) (λ l ne. into l)
          (ring_along n (set s.words w_out x) (set s.words w_out x) (set s.homes w_out z)
          (set s.homes w_out z) e.rank b f (after f e.rank) (R.ledger b) (after f b)
          (λ t lt. refl) (λ t lt. refl)
          (subst (λ (g : Entry). SameOut f g b) (sym (update_here R.ledger e.rank f e.rank refl))
          (refl, refl))
          (in_after f e.rank b (λ y. into e.rank)) change))
          (all_hold f (set s.words w_out x) (fresh_holds (set s.words w_out x) f fresh) (out_holds fills))

    -- the rank steps as the receiver of a
    module _ (a k x : ℕ) (z : maybe.Option Load) (la : a < n) (lk : k < 4) (f : Entry)
        (kf : Knows n e.rank f) (out : (l : ℕ) → SameOut e f l)
        (into : (l : ℕ) → l ≢ a → SameIn e f l) where
      abbrev w_in : ℕ
      w_in = place n a e.rank k

      -- what the others found, whose free place the word may be
      in_holds : (slice_index s.words w_in ≡ 0 → x ≡ 0) → (r : ℕ) → r < n → r ≢ e.rank
          → Holds n (set s.words w_in x) (R.ledger r)
      in_holds empties r lr ne j lj =
          let known = R.knows r lr in
          let was = R.looks r lr j lj in
          let d = R.ledger r in
          let inside = place_low n a e.rank k la low lk in
          let longer = R.long in
          let below : d.rank < n = subst (λ u. u < n) (sym known.0) lr in (
            λ free. set_free s.words w_in x (place n d.rank j (length (lane d j).pushed % 4)) (omega arith) empties
                (was.0 free),
            λ full. subst (λ y. 0 < y)
                (sym (get_or-set_other s.words w_in (place n j d.rank (length (lane d j).pulled % 4)) x 0
                (λ same. ne (sym known.0 ∙ (one_place n j d.rank (length (lane d j).pulled % 4) a e.rank k below low
                (small (length (lane d j).pulled)) lk same).1)))) (was.1 full),
          )

      pub receiver_steps : f.look ≡ Fresh → (slice_index s.words w_in ≡ 0 → x ≡ 0)
          → Ring n (set s.words w_in x) (set s.homes w_in z) a e.rank (R.ledger a) f
          → Rule n record {
            words = set s.words w_in x;
            homes = set s.homes w_in z;
            views = set s.views id (view (f ∷ []));
          }
      receiver_steps fresh empties change = ruled f (set s.words w_in x) (set s.homes w_in z) kf
          (length-set s.words w_in x)
          (rings_but a e.rank k x z la low lk f (λ l ne. out l) (λ l ne. into l (λ y. ne (y, refl)))
          (ring_along n (set s.words w_in x) (set s.words w_in x) (set s.homes w_in z)
          (set s.homes w_in z) a e.rank (R.ledger a) (after f a) f (after f e.rank)
          (λ t lt. refl) (λ t lt. refl)
          (out_after f a e.rank (λ y. out e.rank))
          (subst (λ (g : Entry). SameIn f g a) (sym (update_here R.ledger e.rank f e.rank refl))
          (refl, refl)) change))
          (all_hold f (set s.words w_in x) (fresh_holds (set s.words w_in x) f fresh) (in_holds empties))
