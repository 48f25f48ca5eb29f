-- What each kind of step of a producer does to the words, the slots and the world, and what a step leaves alone.
use Rattle.std.proofs.Common.{◌≡◌, ◌≢◌, ℕ, suc, ◌+◌, ◌*◌, ◌<◌, ◌≤◌, List, [], ◌∷◌, ◌++◌, length}
use Rattle.std.proofs.Common.{set, sym, refl, ap, ◌∙◌, inl, inr, subst, ⊎_elim, arith, length-set}
use Rattle.std.proofs.Common.{get_or-set_same, get_or-set_other, append_assoc, append-nil}
use Rattle.std.specs.Prelude.{slice_index}
use mathlib.Core.Option as maybe
use mathlib.Core.Logic.{dite}
use native.Mathlib.Decide.{ℕ_discrete, dec_le}
use lib.ListN.{get_elem?}
use Rattle.atomic_table.proofs.Lists.{set_here, set_else}
use Rattle.nm_chain.proofs.UpdateLemmas.{update_here, update_else}
use Rattle.nm_chain.specs.Update.{update}
use Rattle.nm_chain.specs.Chain.{Item, item, IsIn, Each, Has, Begins, last_from, tail_of, IsChain}
use Rattle.nm_chain.specs.Chain.{loose, held, ready, entering, queued}
use Rattle.nm_chain.proofs.ChainLemmas.{chain_elsewhere, tail_swapped, link_stored}
use Rattle.nm_chain.proofs.ChainLemmas.{head_stored}
use Rattle.nm_chain.specs.declared.table.table.Heads.{Heads}
use Rattle.nm_chain.specs.Rule.{Load, Place, Chain, World, if_below, put_to, sender, from}
use Rattle.nm_chain.specs.Rule.{posted, loads, head, tail, link, IsOut, Suits}
use Rattle.nm_chain.specs.Rule.{Fits, Handed, QueueHolds, QueuesHold}
use Rattle.nm_chain.specs.Update.{pick}

module _ {A : Type 0} where
  pub in_one : (q p : ℕ) (a : Place A) → IsIn q a → IsIn p a → q ≡ p
  in_one q p (loose r) h k = absurd h
  in_one q p (held r) h k = absurd h
  in_one q p (ready r y) h k = absurd h
  in_one q p (entering r s t) h k = h ∙ sym k
  in_one q p (queued s) h k = h ∙ sym k

-- lists of loads
pick_append : {A : Type 0} {j k : ℕ} (d : Dec (j ≡ k)) (x : A) (xs ys zs : List A) → zs ≡ xs ++ ys
    → pick d (x ∷ zs) zs ≡ pick d (x ∷ xs) xs ++ ys
pick_append (yes _) x xs ys zs e = ap (λ l. x ∷ l) e
pick_append (no _) x xs ys zs e = e

module _ {A : Type 0} where
  pub from_append : (i : ℕ) (xs ys : List (Load A)) → from i (xs ++ ys) ≡ from i xs ++ from i ys
  from_append i [] ys = refl
  from_append i (x ∷ xs) ys = pick_append (ℕ_discrete (sender x) (suc i)) x (from i xs) (from i ys)
      (from i (xs ++ ys)) (from_append i xs ys)

  pub put_append : (j : ℕ) (xs ys : List (ℕ × Load A))
      → put_to j (xs ++ ys) ≡ put_to j xs ++ put_to j ys
  put_append j [] ys = refl
  put_append j (x ∷ xs) ys = pick_append (ℕ_discrete x.0 j) x.1 (put_to j xs) (put_to j ys)
      (put_to j (xs ++ ys)) (put_append j xs ys)

  pub loads_append : (xs ys : Chain A) → loads (xs ++ ys) ≡ loads xs ++ loads ys
  loads_append [] ys = refl
  loads_append (x ∷ xs) ys = ap (λ l. x.load ∷ l) (loads_append xs ys)

pub pick_yes : {A : Type 0} {j k : ℕ} (d : Dec (j ≡ k)) (x y : A) → j ≡ k → pick d x y ≡ x
pick_yes (yes _) x y e = refl
pick_yes (no n) x y e = absurd (n e)

pub pick_no : {A : Type 0} {j k : ℕ} (d : Dec (j ≡ k)) (x y : A) → j ≢ k → pick d x y ≡ y
pick_no (yes e) x y n = absurd (n e)
pick_no (no _) x y n = refl

pub below_yes : {A : Type 0} {j k : ℕ} (d : Dec (j ≤ k)) (x y : A) → j ≤ k → if_below d x y ≡ x
below_yes (yes _) x y e = refl
below_yes (no n) x y e = absurd (n e)

pub below_no : {A : Type 0} {j k : ℕ} (d : Dec (j ≤ k)) (x y : A) → ¬ (j ≤ k) → if_below d x y ≡ y
below_no (yes e) x y n = absurd (n e)
below_no (no _) x y n = refl

module _ {A : Type 0} where
  pub posted_here : (n q : ℕ) (y : Load A) → q < n → put_to q (posted n q y) ≡ y ∷ []
  posted_here n q y low = ap (put_to q) (below_yes (dec_le (suc q) n) ((q, y) ∷ []) [] low)
      ∙ pick_yes (ℕ_discrete q q) (y ∷ []) [] refl

  pub posted_else : (n q j : ℕ) (y : Load A) → j ≢ q → put_to j (posted n q y) ≡ []
  posted_else n q j y ne =
      dite (dec_le (suc q) n)
      (λ low. ap (put_to j) (below_yes (dec_le (suc q) n) ((q, y) ∷ []) [] low)
      ∙ pick_no (ℕ_discrete q j) (y ∷ []) [] (λ e. ne (sym e)))
      (λ far. ap (put_to j) (below_no (dec_le (suc q) n) ((q, y) ∷ []) [] far))

module _ {A : Type 0} where
  -- the same chain, its end and its words
  pub moved : (fits : Item (Load A) → Type 0) (place : ℕ → Place A) (ln : ℕ → ℕ) (q h t s h' t' s' : ℕ)
      (xs xs' : Chain A) → h' ≡ h → t' ≡ t → s' ≡ s → xs' ≡ xs → IsChain fits place ln q h t s xs
      → IsChain fits place ln q h' t' s' xs'
  moved fits place ln q h t s h' t' s' xs xs' eh et es ex c = record {
    once = rw ex c.once;
    begins = rw (eh, es, ex) c.begins;
    linked = rw ex c.linked;
    ends = et ∙ c.ends ∙ ap tail_of (sym ex);
    each = rw ex c.each;
    whole = λ d k. rw ex (c.whole d k);
  }

module _ {A : Type 0} where
  pub handed_same : (n : ℕ) (words words' : List ℕ) (homes homes' : List (maybe.Option (Load A))) (c : ℕ)
      (p : Place A) → get_elem? homes' c ≡ get_elem? homes c → link n words' c ≡ link n words c
      → Handed n words homes c p → Handed n words' homes' c p
  handed_same n words words' homes homes' c (loose r) e f h = e ∙ h
  handed_same n words words' homes homes' c (held r) e f h = e ∙ h
  handed_same n words words' homes homes' c (ready r y) e f h = (e ∙ h.0, f ∙ h.1)
  handed_same n words words' homes homes' c (entering r q t) e f h = h
  handed_same n words words' homes homes' c (queued q) e f h = h

  handed_in : (n : ℕ) (words words' : List ℕ) (homes homes' : List (maybe.Option (Load A))) (q c : ℕ)
      (p : Place A) → IsIn q p → Handed n words homes c p → Handed n words' homes' c p
  handed_in n words words' homes homes' q c (loose r) i h = absurd i
  handed_in n words words' homes homes' q c (held r) i h = absurd i
  handed_in n words words' homes homes' q c (ready r y) i h = absurd i
  handed_in n words words' homes homes' q c (entering r s t) i h = h
  handed_in n words words' homes homes' q c (queued s) i h = h

  in_range : (n : ℕ) (words : List ℕ) (homes : List (maybe.Option (Load A))) (q c : ℕ) (p : Place A)
      → IsIn q p → Handed n words homes c p → q < 2 * n
  in_range n words homes q c (loose r) i h = absurd i
  in_range n words homes q c (held r) i h = absurd i
  in_range n words homes q c (ready r y) i h = absurd i
  in_range n words homes q c (entering r s t) i h = subst (λ k. k < 2 * n) (sym i) h
  in_range n words homes q c (queued s) i h = subst (λ k. k < 2 * n) (sym i) h

  pub has_fit : (F : Item (Load A) → Type 0) (P : ℕ → Type 0) → ((x : Item (Load A)) → F x → P x.cell)
      → (xs : Chain A) → Each F xs → (c : ℕ) → Has c xs → P c
  has_fit F P f [] e c h = absurd h
  has_fit F P f (x ∷ xs) e c h =
      ⊎_elim (λ s. subst P (sym s) (f x e.0)) (λ k. has_fit F P f xs e.1 c k) h

  last_fits : (m c : ℕ) (xs : Chain A) → c < m → ((d : ℕ) → Has d xs → d < m) → last_from c xs ≤ m
  last_fits m c [] low all = low
  last_fits m c (x ∷ xs) low all = last_fits m x.cell xs (all x.cell (inl refl))
      (λ d k. all d (inr k))

  tail_fits : (m : ℕ) (xs : Chain A) → ((d : ℕ) → Has d xs → d < m) → tail_of xs ≤ m
  tail_fits m [] all = omega arith
  tail_fits m (x ∷ xs) all = last_fits m x.cell xs (all x.cell (inl refl)) (λ d k. all d (inr k))

  pub head_fits : (m : ℕ) (place : ℕ → Place A) (q hd shadow : ℕ) (xs : Chain A) → Begins place q hd shadow xs
      → ((d : ℕ) → Has d xs → d < m) → hd ≤ m
  head_fits m place q hd shadow [] b all = let z = b.1 in omega arith
  head_fits m place q hd shadow (x ∷ xs) b all = let here = all x.cell (inl refl) in
      ⊎_elim (λ s. let z = s.1 in omega arith)
      (λ b'. ⊎_elim (λ s. let z = s.1 in omega arith) (λ s. let z = s.1 in omega arith) b') b

module _ {A : Type 0} (n each : ℕ) where
  -- a queue that a step leaves alone
  pub rests : (w w' : World A) (words words' : List ℕ) (homes homes' : List (maybe.Option (Load A))) (q : ℕ)
      → QueueHolds n each w words homes q
      → head n words' q ≡ head n words q → tail n words' q ≡ tail n words q
      → (w'.heads q).shadow ≡ (w.heads q).shadow → w'.chain q ≡ w.chain q
      → ((c : ℕ) → IsIn q (w.place c) → (link n words' c ≡ link n words c)
      × (w'.place c ≡ w.place c)) → ((c : ℕ) → IsIn q (w'.place c) → IsIn q (w.place c))
      → ((c : ℕ) → IsIn q (w.place c) → get_elem? homes' c ≡ get_elem? homes c)
      → QueueHolds n each w' words' homes' q
  rests w w' words words' homes homes' q h eh et es ec same back keep =
      moved (Fits n each homes' q) w'.place (link n words') q (head n words q) (tail n words q)
      (w.heads q).shadow (head n words' q) (tail n words' q) (w'.heads q).shadow (w.chain q)
      (w'.chain q) eh et es ec
      (chain_elsewhere (Fits n each homes q) (Fits n each homes' q) w.place (link n words) q
      (head n words q) (tail n words q) (w.heads q).shadow (w.chain q) h w'.place
      (link n words') same back (λ x i f. (f.0, keep x.cell i ∙ f.1, f.2)))

  module _ (w : World A) (words : List ℕ) (homes : List (maybe.Option (Load A)))
      (l : QueuesHold n each w words homes) where
    abbrev pub with_place : (ℕ → Place A) → World A
    with_place p = record w { place = p }

    -- the place of a cell changes from one that is in no other queue to one that is in no other
    pub spared : (q c : ℕ) (p : Place A) → ¬ IsIn q (w.place c) → ¬ IsIn q p → (d : ℕ)
        → IsIn q (w.place d) → update w.place c p d ≡ w.place d
    spared q c p out never d k =
        update_else w.place c p d (λ e. out (subst (λ u. IsIn q (w.place u)) e k))

    pub was_in : (q c : ℕ) (p : Place A) → ¬ IsIn q p → (d : ℕ) → IsIn q (update w.place c p d)
        → IsIn q (w.place d)
    was_in q c p never d k =
        dite (ℕ_discrete d c) (λ e. absurd (never (subst (IsIn q) (update_here w.place c p d e) k)))
        (λ ne. subst (IsIn q) (update_else w.place c p d ne) k)

    pub apart_in : (q c : ℕ) → ¬ IsIn q (w.place c) → (d : ℕ) → IsIn q (w.place d) → d ≢ c
    apart_in q c out d k e = out (subst (λ u. IsIn q (w.place u)) e k)

    -- the cells but one are as they were
    pub cells_but : (c : ℕ) (p : Place A) (words' : List ℕ) (homes' : List (maybe.Option (Load A)))
        → Handed n words' homes' c p → ((d : ℕ) → d ≢ c → Handed n words homes d (w.place d)
        → Handed n words' homes' d (w.place d))
        → (d : ℕ) → d < n * each → Handed n words' homes' d (update w.place c p d)
    cells_but c p words' homes' here else d low =
        dite (ℕ_discrete d c) (λ e. subst (λ u. Handed n words' homes' u (update w.place c p u))
        (sym e) (subst (Handed n words' homes' c) (sym (update_here w.place c p c refl)) here))
        (λ ne. subst (Handed n words' homes' d) (sym (update_else w.place c p d ne))
        (else d ne (l.cells d low)))

    -- a step behind the links and the cells' slots
    pub elsewhere : (w' : World A) → w'.place ≡ w.place → w'.chain ≡ w.chain → w'.heads ≡ w.heads
        → w'.put ≡ w.put → w'.got ≡ w.got → (words' : List ℕ) (homes' : List (maybe.Option (Load A)))
        → length words' ≡ length words → length homes' ≡ length homes
        → ((k : ℕ) → k < 4 * n + n * each → slice_index words' k ≡ slice_index words k)
        → ((k : ℕ) → k < n * each → get_elem? homes' k ≡ get_elem? homes k)
        → QueuesHold n each w' words' homes'
    elsewhere w' ep ec ee eu eg words' homes' lw lh ew eh = record {
      long = lw ∙ l.long;
      slots = lh ∙ l.slots;
      queues = λ q few. let in_q : (c : ℕ) → IsIn q (w.place c) → c < n * each =
          λ c i. has_fit (Fits n each homes q) (λ d. d < n * each) (λ x f. f.0) (w.chain q)
          (l.queues q few).each c ((l.queues q few).whole c i) in
          rests w w' words words' homes homes' q (l.queues q few) (ew q (omega arith))
          (ew (2 * n + q) (omega arith)) (ap (λ (g : ℕ → Heads). (g q).shadow) ee)
          (ap (λ (g : ℕ → Chain A). g q) ec)
          (λ c i. (
            ew (4 * n + c) (let z = in_q c i in omega arith),
            ap (λ (g : ℕ → Place A). g c) ep,
          )) (λ c i. subst (λ (g : ℕ → Place A). IsIn q (g c)) ep i)
          (λ c i. eh c (in_q c i));
      seen = λ q few some. ew q (omega arith)
          ∙ l.seen q few (subst (λ (g : ℕ → Heads). 0 < (g q).seen) ee some)
          ∙ ap (λ (g : ℕ → Heads). (g q).seen) (sym ee);
      cells = λ c low. subst (λ (g : ℕ → Place A). Handed n words' homes' c (g c)) (sym ep)
          (handed_same n words words' homes homes' c (w.place c) (eh c low)
          (ew (4 * n + c) (omega arith)) (l.cells c low));
      paths = λ i j li lj. rw (eu, eg, ec) (l.paths i j li lj);
    }

    -- the slot of a loose cell is taken
    pub picked : (r c : ℕ) → c < n * each → ((q : ℕ) → ¬ IsIn q (w.place c))
        → QueuesHold n each (with_place (update w.place c (held r))) words (set homes c maybe.none)
    picked r c low never = let homes' = set homes c maybe.none in
        let in_homes : c < length homes = let long = l.slots in omega arith in record {
          long = l.long;
          slots = length-set homes c maybe.none ∙ l.slots;
          queues = λ q few. rests w (with_place (update w.place c (held r))) words words homes homes' q
              (l.queues q few) refl refl refl refl
              (λ d k. (refl, spared q c (held r) (never q) (λ x. x) d k))
              (was_in q c (held r) (λ x. x))
              (λ d k. set_else homes c d maybe.none (apart_in q c (never q) d k));
          seen = l.seen;
          cells = cells_but c (held r) words homes' (set_here homes c maybe.none in_homes)
              (λ d ne. handed_same n words words homes homes' d (w.place d)
              (set_else homes c d maybe.none ne) refl);
          paths = l.paths;
        }

    -- the link of a cell in hand is cleared
    pub cleared : (r c : ℕ) (y : Load A) → c < n * each → IsOut homes c
        → ((q : ℕ) → ¬ IsIn q (w.place c))
        → QueuesHold n each (with_place (update w.place c (ready r y)))
        (set words (4 * n + c) 0) homes
    cleared r c y low out never = let words' = set words (4 * n + c) 0 in
        let in_words : 4 * n + c < length words = let long = l.long in omega arith in record {
          long = length-set words (4 * n + c) 0 ∙ l.long;
          slots = l.slots;
          queues = λ q few. rests w (with_place (update w.place c (ready r y))) words words' homes homes
              q (l.queues q few)
              (get_or-set_other words (4 * n + c) q 0 0 (omega arith))
              (get_or-set_other words (4 * n + c) (2 * n + q) 0 0 (omega arith)) refl refl
              (λ d k. let ne = apart_in q c (never q) d k in (
                get_or-set_other words (4 * n + c) (4 * n + d) 0 0 (omega arith),
                spared q c (ready r y) (never q) (λ x. x) d k,
              )) (was_in q c (ready r y) (λ x. x))
              (λ _ _. refl);
          seen = λ q few some. get_or-set_other words (4 * n + c) q 0 0 (omega arith)
              ∙ l.seen q few some;
          cells = cells_but c (ready r y) words' homes
              (out, get_or-set_same words (4 * n + c) 0 0 in_words)
              (λ d ne. handed_same n words words' homes homes d (w.place d) refl
              (get_or-set_other words (4 * n + c) (4 * n + d) 0 0 (omega arith)));
          paths = l.paths;
        }

    -- the head is stored
    pub headed : (r c q : ℕ) → q < 2 * n → c < n * each → w.place c ≡ entering r q 0
        → QueuesHold n each (with_place (update w.place c (queued q))) (set words q (suc c)) homes
    headed r c q few low at = let words' = set words q (suc c) in
        let w' = with_place (update w.place c (queued q)) in
        let t = head_stored (Fits n each homes q) w.place (link n words) q (head n words q)
        (tail n words q) (w.heads q).shadow (w.chain q) (l.queues q few) r c at in
        let in_words : q < length words = let long = l.long in omega arith in
        let here = get_or-set_same words q (suc c) 0 in_words in record {
          long = length-set words q (suc c) ∙ l.long;
          slots = l.slots;
          queues = λ p few'. dite (ℕ_discrete p q)
              (λ e. subst (QueueHolds n each w' words' homes) (sym e)
              (moved (Fits n each homes q) w'.place (link n words') q (suc c) (tail n words q)
              (w.heads q).shadow (head n words' q) (tail n words' q) (w.heads q).shadow (w.chain q)
              (w.chain q)
              here (get_or-set_other words q (2 * n + q) (suc c) 0 (omega arith)) refl refl
              (chain_elsewhere (Fits n each homes q) (Fits n each homes q) w'.place (link n words) q
              (suc c) (tail n words q) (w.heads q).shadow (w.chain q) t.0 w'.place (link n words')
              (λ d k. (get_or-set_other words q (4 * n + d) (suc c) 0 (omega arith), refl))
              (λ d k. k) (λ x i f. f))))
              (λ ne. let out : ¬ IsIn p (w.place c) =
              λ k. ne (in_one p q (w.place c) k (subst (IsIn q) (sym at) refl)) in
              rests w w' words words' homes homes p (l.queues p few')
              (get_or-set_other words q p (suc c) 0 ne)
              (get_or-set_other words q (2 * n + p) (suc c) 0 (omega arith)) refl refl
              (λ d k. (
                get_or-set_other words q (4 * n + d) (suc c) 0 (omega arith),
                spared p c (queued q) out ne d k,
              )) (was_in p c (queued q) ne) (λ _ _. refl));
          seen = λ p few' some. dite (ℕ_discrete p q) (λ e. let s = l.seen p few' some in
              let z : head n words p ≡ 0 = ap (head n words) e ∙ t.1 in absurd (omega arith))
              (λ ne. get_or-set_other words q p (suc c) 0 ne ∙ l.seen p few' some);
          cells = cells_but c (queued q) words' homes few
              (λ d ne. handed_same n words words' homes homes d (w.place d) refl
              (get_or-set_other words q (4 * n + d) (suc c) 0 (omega arith)));
          paths = l.paths;
        }

    -- the cells of a queue are cells of the fabric
    pub low_in : (q c : ℕ) → Has c (w.chain q) → q < 2 * n → c < n * each
    low_in q c h few = has_fit (Fits n each homes q) (λ d. d < n * each) (λ x f. f.0) (w.chain q)
        (l.queues q few).each c h

    pub tail_low : (q : ℕ) → q < 2 * n → tail n words q ≤ n * each
    tail_low q few = let h = l.queues q few in
        subst (λ t. t ≤ n * each) (sym h.ends)
        (tail_fits (n * each) (w.chain q) (λ c k. low_in q c k few))

    -- the cell that a pending enqueue found at the tail
    pub found_low : (r c p q : ℕ) → q < 2 * n → w.place c ≡ entering r q (suc p) → p < n * each
    found_low r c p q few at = let t = link_stored (Fits n each homes q) w.place (link n words) q
        (head n words q) (tail n words q) (w.heads q).shadow (w.chain q) (l.queues q few) r c p at in
        low_in q p ((l.queues q few).whole p t.1) few

    -- the link of the cell that was found at the tail is stored
    pub joined : (r c p q : ℕ) → q < 2 * n → c < n * each → w.place c ≡ entering r q (suc p)
        → QueuesHold n each (with_place (update w.place c (queued q)))
        (set words (4 * n + p) (suc c)) homes
    joined r c p q few low at = let words' = set words (4 * n + p) (suc c) in
        let w' = with_place (update w.place c (queued q)) in
        let t = link_stored (Fits n each homes q) w.place (link n words) q (head n words q)
        (tail n words q) (w.heads q).shadow (w.chain q) (l.queues q few) r c p at in
        let in_words : 4 * n + p < length words = let long = l.long in
        let z = low_in q p ((l.queues q few).whole p t.1) few in omega arith in
        let here = get_or-set_same words (4 * n + p) (suc c) 0 in_words in record {
          long = length-set words (4 * n + p) (suc c) ∙ l.long;
          slots = l.slots;
          queues = λ k few'. dite (ℕ_discrete k q)
              (λ e. subst (QueueHolds n each w' words' homes) (sym e)
              (moved (Fits n each homes q) w'.place (link n words') q (head n words q)
              (tail n words q) (w.heads q).shadow (head n words' q) (tail n words' q)
              (w.heads q).shadow (w.chain q) (w.chain q)
              (get_or-set_other words (4 * n + p) q (suc c) 0 (omega arith))
              (get_or-set_other words (4 * n + p) (2 * n + q) (suc c) 0 (omega arith)) refl refl
              (chain_elsewhere (Fits n each homes q) (Fits n each homes q) w'.place
              (update (link n words) p (suc c)) q (head n words q) (tail n words q)
              (w.heads q).shadow (w.chain q) t.0 w'.place (link n words')
              (λ d i. (
                dite (ℕ_discrete d p) (λ z. ap (link n words') z ∙ here
                    ∙ sym (update_here (link n words) p (suc c) d z))
                    (λ ne. get_or-set_other words (4 * n + p) (4 * n + d) (suc c) 0 (omega arith)
                    ∙ sym (update_else (link n words) p (suc c) d ne)),
                refl,
              )) (λ d i. i)
              (λ x i f. f))))
              (λ ne. let out : ¬ IsIn k (w.place c) =
              λ i. ne (in_one k q (w.place c) i (subst (IsIn q) (sym at) refl)) in
              rests w w' words words' homes homes k (l.queues k few')
              (get_or-set_other words (4 * n + p) k (suc c) 0 (omega arith))
              (get_or-set_other words (4 * n + p) (2 * n + k) (suc c) 0 (omega arith)) refl refl
              (λ d i. let other : d ≢ p =
              λ z. ne (in_one k q (w.place d) i (subst (λ u. IsIn q (w.place u)) (sym z) t.1))
              in (
                get_or-set_other words (4 * n + p) (4 * n + d) (suc c) 0 (omega arith),
                spared k c (queued q) out ne d i,
              )) (was_in k c (queued q) ne) (λ _ _. refl));
          seen = λ k few' some. get_or-set_other words (4 * n + p) k (suc c) 0 (omega arith)
              ∙ l.seen k few' some;
          cells = cells_but c (queued q) words' homes few (λ d ne. dite (ℕ_discrete d p)
              (λ z. handed_in n words words' homes homes q d (w.place d)
              (subst (λ u. IsIn q (w.place u)) (sym z) t.1))
              (λ other. handed_same n words words' homes homes d (w.place d) refl
              (get_or-set_other words (4 * n + p) (4 * n + d) (suc c) 0 (omega arith))));
          paths = l.paths;
        }

    -- the paths after one more load of the rank r in the queue q
    paths_more : (r q : ℕ) (x : Item (Load A)) → (q < n → sender x.load ≡ suc r) → (i j : ℕ) → i < n
        → j < n
        → put_to j (update w.put r (w.put r ++ posted n q x.load) i) ≡ from i (w.got j) ++ from i
        (loads (update w.chain q (w.chain q ++ x ∷ []) j))
    paths_more r q x from_r i j li lj = let y = x.load in let old = l.paths i j li lj in
        let many = w.put r ++ posted n q y in let longer = w.chain q ++ x ∷ [] in
        dite (ℕ_discrete j q)
        (λ ej. let low : q < n = omega arith in let fy = from_r low in
        let chained : loads (update w.chain q longer j) ≡ loads (w.chain j) ++ y ∷ [] =
        ap loads (update_here w.chain q longer j ej) ∙ loads_append (w.chain q) (x ∷ [])
        ∙ ap (λ k. loads (w.chain k) ++ y ∷ []) (sym ej) in
        let right : from i (w.got j) ++ from i (loads (update w.chain q longer j)) ≡ put_to j
        (w.put i) ++ from i (y ∷ []) =
        ap (λ u. from i (w.got j) ++ from i u) chained ∙ ap (λ u. from i (w.got j) ++ u)
        (from_append i (loads (w.chain j)) (y ∷ []))
        ∙ sym (append_assoc (from i (w.got j)) (from i (loads (w.chain j))) (from i (y ∷ [])))
        ∙ ap (λ u. u ++ from i (y ∷ [])) (sym old) in
        dite (ℕ_discrete i r)
        (λ ei. ap (put_to j) (update_here w.put r many i ei) ∙ put_append j (w.put r) (posted n q y)
        ∙ ap (λ k. put_to j (w.put k) ++ put_to j (posted n q y)) (sym ei)
        ∙ ap (λ u. put_to j (w.put i) ++ u) (ap (λ k. put_to k (posted n q y)) ej
        ∙ posted_here n q y low
        ∙ sym (pick_yes (ℕ_discrete (sender y) (suc i)) (y ∷ []) [] (fy ∙ ap suc (sym ei))))
        ∙ sym right)
        (λ ni. ap (put_to j) (update_else w.put r many i ni) ∙ sym (append-nil (put_to j (w.put i)))
        ∙ ap (λ u. put_to j (w.put i) ++ u)
        (sym (pick_no (ℕ_discrete (sender y) (suc i)) (y ∷ []) []
        (λ e. let same : suc r ≡ suc i = sym fy ∙ e in ni (omega arith)))) ∙ sym right))
        (λ nj. let right : from i (w.got j) ++ from i (loads (update w.chain q longer j)) ≡ put_to j
        (w.put i) = ap (λ u. from i (w.got j) ++ from i (loads u))
        (update_else w.chain q longer j nj) ∙ sym old in dite (ℕ_discrete i r)
        (λ ei. ap (put_to j) (update_here w.put r many i ei) ∙ put_append j (w.put r) (posted n q y)
        ∙ ap (λ u. put_to j (w.put r) ++ u) (posted_else n q j y nj)
        ∙ append-nil (put_to j (w.put r)) ∙ ap (λ k. put_to j (w.put k)) (sym ei) ∙ sym right)
        (λ ni. ap (put_to j) (update_else w.put r many i ni) ∙ sym right))

    -- a ready cell is put at the tail
    abbrev pub after_swap : ℕ → ℕ → ℕ → Load A → World A
    after_swap r q c y = record w {
      place =
          update w.place c (entering r q (tail n words q));
      chain =
          update w.chain q (w.chain q ++ item c y ∷ []);
      put =
          update w.put r (w.put r ++ posted n q y);
    }

    pub swapped : (r q c : ℕ) (y : Load A) → q < 2 * n → c < n * each → w.place c ≡ ready r y
        → Suits n each q (item c y) → (q < n → sender y ≡ suc r)
        → QueuesHold n each (after_swap r q c y) (set words (2 * n + q) (suc c))
        (set homes c (maybe.some y))
    swapped r q c y few low at suits from_r = let words' = set words (2 * n + q) (suc c) in
        let homes' = set homes c (maybe.some y) in let w' = after_swap r q c y in
        let spot : Place A = entering r q (tail n words q) in
        let never : (k : ℕ) → ¬ IsIn k (w.place c) = λ k i. subst (IsIn k) at i in
        let mine = subst (Handed n words homes c) at (l.cells c low) in
        let in_words : 2 * n + q < length words = let long = l.long in omega arith in
        let in_homes : c < length homes = let long = l.slots in omega arith in
        let here = get_or-set_same words (2 * n + q) (suc c) 0 in_words in
        let linked : (d : ℕ) → link n words' d ≡ link n words d =
        λ d. get_or-set_other words (2 * n + q) (4 * n + d) (suc c) 0 (omega arith) in record {
          long = length-set words (2 * n + q) (suc c) ∙ l.long;
          slots = length-set homes c (maybe.some y) ∙ l.slots;
          queues = λ k few'. dite (ℕ_discrete k q)
              (λ e. subst (QueueHolds n each w' words' homes') (sym e)
              (moved (Fits n each homes' q) w'.place (link n words') q (head n words q) (suc c)
              (w.heads q).shadow (head n words' q) (tail n words' q) (w.heads q).shadow
              (w.chain q ++ item c y ∷ []) (w'.chain q)
              (get_or-set_other words (2 * n + q) q (suc c) 0 (omega arith)) here refl
              (update_here w.chain q (w.chain q ++ item c y ∷ []) q refl)
              (chain_elsewhere (Fits n each homes' q) (Fits n each homes' q) w'.place
              (link n words) q (head n words q) (suc c) (w.heads q).shadow
              (w.chain q ++ item c y ∷ [])
              (tail_swapped (Fits n each homes q) (Fits n each homes' q) w.place (link n words) q
              (head n words q) (tail n words q) (w.heads q).shadow (w.chain q)
              (l.queues q few) r c y (never q) mine.1
              (low, set_here homes c (maybe.some y) in_homes, suits)
              (λ x ne f. (f.0, set_else homes c x.cell (maybe.some y) ne ∙ f.1, f.2)))
              w'.place (link n words') (λ d _. (linked d, refl)) (λ d i. i) (λ x i f. f))))
              (λ ne. rests w w' words words' homes homes' k (l.queues k few')
              (get_or-set_other words (2 * n + q) k (suc c) 0 (omega arith))
              (get_or-set_other words (2 * n + q) (2 * n + k) (suc c) 0 (omega arith)) refl
              (update_else w.chain q (w.chain q ++ item c y ∷ []) k ne)
              (λ d i. (linked d, spared k c spot (never k) ne d i)) (was_in k c spot ne)
              (λ d i. set_else homes c d (maybe.some y) (apart_in k c (never k) d i)));
          seen = λ k few' some. get_or-set_other words (2 * n + q) k (suc c) 0 (omega arith)
              ∙ l.seen k few' some;
          cells = cells_but c spot words' homes' few
              (λ d ne. handed_same n words words' homes homes' d (w.place d)
              (set_else homes c d (maybe.some y) ne) (linked d));
          paths = paths_more r q (item c y) from_r;
        }
