-- What each kind of step does to the boxes, and to the numbers of each pair's parcels.
use Rattle.std.proofs.Common.{Bool, ◌≡◌, ◌≢◌, ℕ, suc, ◌+◌, ◌*◌, ◌/◌, ◌<◌, ◌≤◌, None, List, [], ◌∷◌, ◌++◌}
use Rattle.std.proofs.Common.{map, length, set, sym, refl, ap, ◌∙◌, subst, arith, get_or-set_other}
use Rattle.std.proofs.Common.{append-nil, length-append, mul-le-mul_right, zero, div-mul-le_self}
use Rattle.std.proofs.Common.{◌%◌, Some, get_or-set_same}
use Rattle.std.proofs.lemmas.Nat.{mod_below}
use Rattle.std.proofs.lemmas.List.{map-append}
use Rattle.std.specs.Prelude.{slice_index, slice_index_or}
use mathlib.Core.Option as maybe
use mathlib.Core.Logic.{dite}
use native.Mathlib.Decide.{ℕ_discrete, dec_le}
use lib.ListN.{get_elem?}
use Rattle.atomic_table.proofs.Lists.{set_here, set_else}
use Rattle.nm_chain.proofs.UpdateLemmas.{update_here, update_else}
use Rattle.nm_chain.specs.Update.{update}
use Rattle.nm_chain.specs.Chain.{Item}
use Rattle.nm_chain.specs.Sequence.{InSequence}
use Rattle.nm_chain.proofs.SequenceLemmas.{put_by_cell, got_by_cell}
use Rattle.nm_chain.specs.Window.{Window}
use Rattle.nm_chain.proofs.WindowLemmas as windows
use Rattle.nm_chain.specs.Rule.{GoesByBox}
use Rattle.nm_chain.specs.Rule.{Load, Chain, World, put_to, sender, from, number, sent_to, posted}
use Rattle.nm_chain.specs.Rule.{fetched, loads, box_slot, BoxesHold, AllInSequence, mark}
use Rattle.nm_chain.proofs.QueueLemmas.{from_append, put_append, loads_append, pick_yes, pick_no}
use Rattle.nm_chain.proofs.QueueLemmas.{below_yes, below_no, posted_here, posted_else}
use Rattle.nm_chain.proofs.PairLemmas.{one_pair, pair_low as inside}

module _ {A : Type 0} where
  pub marked : (y : Load A) → 0 < mark y
  marked y = omega arith

-- the owner of a cell is one of the ranks
pub owner_below : (n each c : ℕ) → c < n * each → c / each < n
owner_below n zero c low = let z : n * 0 ≡ 0 = omega arith in absurd (omega arith)
owner_below n (suc each) c low =
    dite (dec_le n (c / suc each)) (λ far. let s : n * suc each ≤ c / suc each * suc each =
    mul-le-mul_right (suc each) far in let t = div-mul-le_self c (suc each) in absurd (omega arith))
    (λ near. omega arith)

-- a box of the fabric lies behind its cells, and within the slots
pub slot_low : (n each i j k : ℕ) → i < n → j < n → k < 4 → (n * each ≤ box_slot n each i j k)
    × (box_slot n each i j k < n * each + 4 * (n * n))
slot_low n each i j k li lj lk = let at = inside n i j li lj in (omega arith, omega arith)

-- f with y at i, j
abbrev pub update2 : {A : Type 0} → (ℕ → ℕ → A) → ℕ → ℕ → A → ℕ → ℕ → A
update2 f i j y = update f i (update (f i) j y)

module _ {A : Type 0} (f : ℕ → ℕ → A) (i j : ℕ) (y : A) where
  pub update2_here : update2 f i j y i j ≡ y
  update2_here = ap (λ g. g j) (update_here f i (update (f i) j y) i refl)
      ∙ update_here (f i) j y j refl

  pub update2_else : (k l : ℕ) → ¬ ((k ≡ i) × (l ≡ j)) → update2 f i j y k l ≡ f k l
  update2_else k l ne = dite (ℕ_discrete k i)
      (λ e. ap (λ g. g l) (update_here f i (update (f i) j y) k e) ∙ update_else (f i) j y l
      (λ u. ne (e, u)) ∙ ap (λ u. f u l) (sym e))
      (λ other. ap (λ g. g l) (update_else f i (update (f i) j y) k other))

  -- what one rank has of it
  pub update2_row : (k : ℕ) → k ≢ i → update2 f i j y k ≡ f k
  update2_row k ne = update_else f i (update (f i) j y) k ne

pub turn_along : (s s' : ℕ) (gb gb' bx bx' gc gc' ch ch' : List ℕ) → s' ≡ s → gb' ≡ gb → bx' ≡ bx
    → gc' ≡ gc → ch' ≡ ch → InSequence s gb bx gc ch → InSequence s' gb' bx' gc' ch'
turn_along s s' gb gb' bx bx' gc gc' ch ch' es eb ex ec eh t = rw (es, eb, ex, ec, eh) t

module _ {A : Type 0} {boxable : A → Bool} (n each : ℕ) (w : World A) (words : List ℕ)
    (homes : List (maybe.Option (Load A)))
    (b : BoxesHold boxable n each w words homes) where
  -- a step on a word or a slot of the queues
  pub keep : (words' : List ℕ) (homes' : List (maybe.Option (Load A)))
      → ((k : ℕ) → 4 * n + n * each ≤ k → slice_index words' k ≡ slice_index words k)
      → ((k : ℕ) → n * each ≤ k → get_elem? homes' k ≡ get_elem? homes k)
      → BoxesHold boxable n each w words' homes'
  keep words' homes' ew eh i j li lj = windows.window_elsewhere 4 None mark (GoesByBox boxable i)
      (omega arith) marked (λ k. slice_index words (4 * n + box_slot n each i j k))
      (λ k. get_elem? homes (box_slot n each i j k)) (put_to j (w.put_box i)) (from i (w.got_box j))
      (w.waits i j)
      (w.filling i j) (w.emptying i j) (b i j li lj)
      (λ k. slice_index words' (4 * n + box_slot n each i j k))
      (λ k. get_elem? homes' (box_slot n each i j k))
      (λ k lk. ew (4 * n + box_slot n each i j k) (let l = slot_low n each i j k li lj lk in
      let l₀ = l.0 in omega arith))
      (λ k lk. eh (box_slot n each i j k) (slot_low n each i j k li lj lk).0)

  pub keep_word : (c x : ℕ) → c < 4 * n + n * each → BoxesHold boxable n each w (set words c x) homes
  keep_word c x low = keep (set words c x) homes
      (λ k far. get_or-set_other words c k x 0 (omega arith)) (λ k far. refl)

  pub keep_slot : (c : ℕ) (z : maybe.Option (Load A)) → c < n * each
      → BoxesHold boxable n each w words (set homes c z)
  keep_slot c z low = keep words (set homes c z) (λ k far. refl)
      (λ k far. set_else homes c k z (omega arith))

  pub keep_both : (c d x : ℕ) (z : maybe.Option (Load A)) → c < 4 * n + n * each → d < n * each
      → BoxesHold boxable n each w (set words c x) (set homes d z)
  keep_both c d x z low low' =
      keep (set words c x) (set homes d z) (λ k far. get_or-set_other words c k x 0 (omega arith))
      (λ k far. set_else homes d k z (omega arith))

  -- the boxes of one pair change
  pub one_lane : (i j : ℕ) → i < n → j < n
      → (w' : World A) (words' : List ℕ) (homes' : List (maybe.Option (Load A)))
      → ((k l : ℕ) → k < n → l < n → ¬ ((k ≡ i) × (l ≡ j)) → (w'.filling k l ≡ w.filling k l)
      × (w'.emptying k l ≡ w.emptying k l) × (put_to l (w'.put_box k) ≡ put_to l (w.put_box k))
      × (from k (w'.got_box l) ≡ from k (w.got_box l)) × (w'.waits k l ≡ w.waits k l))
      → ((c : ℕ) → ((k : ℕ) → k < 4 → c ≢ box_slot n each i j k)
      → (slice_index words' (4 * n + c) ≡ slice_index words (4 * n + c))
      × (get_elem? homes' c ≡ get_elem? homes c))
      → Window 4 None mark (GoesByBox boxable i)
      (λ k. slice_index words' (4 * n + box_slot n each i j k))
      (λ k. get_elem? homes' (box_slot n each i j k)) (w'.filling i j) (w'.emptying i j)
      (put_to j (w'.put_box i)) (from i (w'.got_box j)) (w'.waits i j)
      → BoxesHold boxable n each w' words' homes'
  one_lane i j li lj w' words' homes' others apart here k l lk ll =
      dite (ℕ_discrete (k * n + l) (i * n + j))
      (λ e. let p = one_pair n k l i j ll lj e in
      subst (λ u. Window 4 None mark (GoesByBox boxable u)
      (λ t. slice_index words' (4 * n + box_slot n each u l t))
      (λ t. get_elem? homes' (box_slot n each u l t)) (w'.filling u l) (w'.emptying u l)
      (put_to l (w'.put_box u)) (from u (w'.got_box l)) (w'.waits u l)) (sym p.0)
      (subst (λ u. Window 4 None mark (GoesByBox boxable i)
      (λ t. slice_index words' (4 * n + box_slot n each i u t))
      (λ t. get_elem? homes' (box_slot n each i u t)) (w'.filling i u) (w'.emptying i u)
      (put_to u (w'.put_box i)) (from i (w'.got_box u)) (w'.waits i u)) (sym p.1) here))
      (λ ne. let o = others k l lk ll (λ p. ne (ap (λ u. u * n + l) p.0 ∙ ap (λ u. i * n + u) p.1))
      in let away : (t : ℕ) → t < 4
      → (slice_index words' (4 * n + box_slot n each k l t) ≡ slice_index words
      (4 * n + box_slot n each k l t))
      × (get_elem? homes' (box_slot n each k l t) ≡ get_elem? homes (box_slot n each k l t)) =
      λ t lt. apart (box_slot n each k l t) (λ u lu. λ e. ne (omega arith)) in
      rw (o.0, o.1, o.2, o.3, o.4) (windows.window_elsewhere 4 None mark (GoesByBox boxable k)
      (omega arith) marked (λ t. slice_index words (4 * n + box_slot n each k l t))
      (λ t. get_elem? homes (box_slot n each k l t)) (put_to l (w.put_box k))
      (from k (w.got_box l)) (w.waits k l) (w.filling k l) (w.emptying k l) (b k l lk ll)
      (λ t. slice_index words' (4 * n + box_slot n each k l t))
      (λ t. get_elem? homes' (box_slot n each k l t)) (λ t lt. (away t lt).0)
      (λ t lt. (away t lt).1)))

module _ {A : Type 0} (n : ℕ) (w : World A) (t : AllInSequence n w) where
  -- one more load of the rank r in the queue q
  pub turns_more : (r q : ℕ) (x : Item (Load A))
      → (q < n → (sender x.load ≡ suc r) × (number x.load ≡ sent_to q (w.put_box r) (w.put r)))
      → (w' : World A) → w'.put ≡ update w.put r (w.put r ++ posted n q x.load)
      → w'.chain ≡ update w.chain q (w.chain q ++ x ∷ []) → w'.got ≡ w.got
      → w'.put_box ≡ w.put_box → w'.got_box ≡ w.got_box → w'.waits ≡ w.waits
      → AllInSequence n w'
  turns_more r q x is w' ep ec eg epb egb ew i j li lj = let y = x.load in
      let many = w.put r ++ posted n q y in let longer = w.chain q ++ x ∷ [] in
      let old = t i j li lj in
      let s = sent_to j (w.put_box i) (w.put i) in let gb = map number (from i (w.got_box j)) in
      let bx = map number (w.waits i j) in let gc = map number (from i (w.got j)) in
      let ch = map number (from i (loads (w.chain j))) in
      rw (ep, ec, eg, epb, egb, ew) (dite (ℕ_discrete j q)
      (λ ej. let low : q < n = omega arith in let f = is low in
      let chained : loads (update w.chain q longer j) ≡ loads (w.chain j) ++ y ∷ [] =
      ap loads (update_here w.chain q longer j ej) ∙ loads_append (w.chain q) (x ∷ [])
      ∙ ap (λ k. loads (w.chain k) ++ y ∷ []) (sym ej) in
      let split : from i (loads (update w.chain q longer j)) ≡ from i (loads (w.chain j)) ++ from i
      (y ∷ []) = ap (from i) chained ∙ from_append i (loads (w.chain j)) (y ∷ []) in
      dite (ℕ_discrete i r)
      (λ ei. let mine : from i (y ∷ []) ≡ y ∷ [] = pick_yes (ℕ_discrete (sender y) (suc i))
      (y ∷ []) [] (f.0 ∙ ap suc (sym ei)) in
      let puts : put_to j (update w.put r many i) ≡ put_to j (w.put i) ++ y ∷ [] =
      ap (put_to j) (update_here w.put r many i ei) ∙ put_append j (w.put r) (posted n q y)
      ∙ ap (λ k. put_to j (w.put k) ++ put_to j (posted n q y)) (sym ei)
      ∙ ap (λ u. put_to j (w.put i) ++ u) (ap (λ k. put_to k (posted n q y)) ej
      ∙ posted_here n q y low) in
      let one_more : sent_to j (w.put_box i) (update w.put r many i) ≡ suc s =
      (let e = ap length puts in let la = length-append (put_to j (w.put i)) (y ∷ []) in
      omega arith) in
      let is_next : number y ≡ s = f.1 ∙ ap (λ k. sent_to k (w.put_box r) (w.put r)) (sym ej)
      ∙ ap (λ k. sent_to j (w.put_box k) (w.put k)) (sym ei) in
      turn_along (suc s) (sent_to j (w.put_box i) (update w.put r many i)) gb gb bx bx gc gc
      (ch ++ s ∷ []) (map number (from i (loads (update w.chain q longer j)))) one_more refl
      refl refl
      (ap (map number) (split ∙ ap (λ u. from i (loads (w.chain j)) ++ u) mine)
      ∙ map-append number (from i (loads (w.chain j))) (y ∷ [])
      ∙ ap (λ k. ch ++ k ∷ []) is_next) (put_by_cell s gb bx gc ch old))
      (λ ni. let other : from i (y ∷ []) ≡ [] = pick_no (ℕ_discrete (sender y) (suc i)) (y ∷ []) []
      (λ e. let same : suc r ≡ suc i = sym f.0 ∙ e in ni (omega arith)) in
      turn_along s (sent_to j (w.put_box i) (update w.put r many i)) gb gb bx bx gc gc ch
      (map number (from i (loads (update w.chain q longer j))))
      (ap (sent_to j (w.put_box i)) (update_else w.put r many i ni)) refl refl refl
      (ap (map number) (split ∙ ap (λ u. from i (loads (w.chain j)) ++ u) other
      ∙ append-nil (from i (loads (w.chain j))))) old))
      (λ nj. turn_along s (sent_to j (w.put_box i) (update w.put r many i)) gb gb bx bx gc gc ch
      (map number (from i (loads (update w.chain q longer j))))
      (dite (ℕ_discrete i r) (λ ei. ap (λ u. length (put_to j (w.put_box i)) + length u)
      (ap (put_to j) (update_here w.put r many i ei) ∙ put_append j (w.put r) (posted n q y)
      ∙ ap (λ u. put_to j (w.put r) ++ u) (posted_else n q j y nj)
      ∙ append-nil (put_to j (w.put r)) ∙ ap (λ k. put_to j (w.put k)) (sym ei)))
      (λ ni. ap (sent_to j (w.put_box i)) (update_else w.put r many i ni)))
      refl refl refl (ap (λ u. map number (from i (loads u))) (update_else w.chain q longer j nj))
      old))

  -- the rank r took the first load of the queue q
  pub turns_less : (r q : ℕ) (x : Item (Load A)) (xs : Chain A) → w.chain q ≡ x ∷ xs → (q < n → q ≡ r)
      → (w' : World A) → w'.got ≡ update w.got r (w.got r ++ fetched n q x.load)
      → w'.chain ≡ update w.chain q xs → w'.put ≡ w.put → w'.put_box ≡ w.put_box
      → w'.got_box ≡ w.got_box → w'.waits ≡ w.waits → AllInSequence n w'
  turns_less r q x xs is own w' eg ec ep epb egb ew i j li lj = let y = x.load in
      let more = w.got r ++ fetched n q y in let old = t i j li lj in
      let s = sent_to j (w.put_box i) (w.put i) in let gb = map number (from i (w.got_box j)) in
      let bx = map number (w.waits i j) in let gc = map number (from i (w.got j)) in
      let ch = map number (from i (loads (w.chain j))) in
      rw (ep, ec, eg, epb, egb, ew) (dite (ℕ_discrete j q)
      (λ ej. let low : q < n = omega arith in let jr : j ≡ r = ej ∙ own low in
      let gets : update w.got r more j ≡ w.got j ++ y ∷ [] = update_here w.got r more j jr
      ∙ ap (λ u. w.got r ++ u) (below_yes (dec_le (suc q) n) (y ∷ []) [] low)
      ∙ ap (λ k. w.got k ++ y ∷ []) (sym jr) in
      let got_split : from i (update w.got r more j) ≡ from i (w.got j) ++ from i (y ∷ []) =
      ap (from i) gets ∙ from_append i (w.got j) (y ∷ []) in
      let was : from i (loads (w.chain j)) ≡ from i (y ∷ []) ++ from i (loads xs) =
      ap (λ k. from i (loads (w.chain k))) ej ∙ ap (λ u. from i (loads u)) is
      ∙ from_append i (y ∷ []) (loads xs) in
      let now : from i (loads (update w.chain q xs j)) ≡ from i (loads xs) =
      ap (λ u. from i (loads u)) (update_here w.chain q xs j ej) in
      dite (ℕ_discrete (sender y) (suc i))
      (λ mine. let one : from i (y ∷ []) ≡ y ∷ [] = pick_yes (ℕ_discrete (sender y) (suc i))
      (y ∷ []) [] mine in
      turn_along s s gb gb bx bx (gc ++ number y ∷ []) (map number (from i (update w.got r more j)))
      (map number (from i (loads xs))) (map number (from i (loads (update w.chain q xs j))))
      refl refl refl
      (ap (map number) (got_split ∙ ap (λ u. from i (w.got j) ++ u) one) ∙ map-append number
      (from i (w.got j)) (y ∷ [])) (ap (map number) now)
      (got_by_cell s (number y) gb bx gc (map number (from i (loads xs)))
      (subst (λ u. InSequence s gb bx gc u)
      (ap (map number) (was ∙ ap (λ u. u ++ from i (loads xs)) one)) old)))
      (λ not_mine. let none : from i (y ∷ []) ≡ [] = pick_no (ℕ_discrete (sender y) (suc i))
      (y ∷ []) [] not_mine in
      turn_along s s gb gb bx bx gc (map number (from i (update w.got r more j))) ch
      (map number (from i (loads (update w.chain q xs j)))) refl refl refl
      (ap (map number) (got_split ∙ ap (λ u. from i (w.got j) ++ u) none
      ∙ append-nil (from i (w.got j))))
      (ap (map number) (now ∙ sym (was ∙ ap (λ u. u ++ from i (loads xs)) none))) old))
      (λ nj. turn_along s s gb gb bx bx gc (map number (from i (update w.got r more j))) ch
      (map number (from i (loads (update w.chain q xs j)))) refl refl refl
      (ap (λ u. map number (from i u)) (dite (ℕ_discrete j r)
      (λ jr. let far : ¬ (suc q ≤ n) = λ low. nj (jr ∙ sym (own low)) in
      update_here w.got r more j jr ∙ ap (λ u. w.got r ++ u)
      (below_no (dec_le (suc q) n) (y ∷ []) [] far) ∙ append-nil (w.got r) ∙ ap w.got (sym jr))
      (λ nr. update_else w.got r more j nr)))
      (ap (λ u. map number (from i (loads u))) (update_else w.chain q xs j nj)) old))

module _ {A : Type 0} where
  -- one value in an option
  pub some_is : (u v : Load A) → Some u ≡ Some v → u ≡ v
  some_is u v e = cc

-- one entry of a list of lids
pub lids_but : {A : Type 0} (xs : List A) (j : ℕ) (x none : A) (g h : ℕ → A) → j < length xs → h j ≡ x
    → ((l : ℕ) → l ≢ j → h l ≡ g l) → ((l : ℕ) → l < length xs → slice_index_or xs l none ≡ g l)
    → (l : ℕ) → l < length xs → slice_index_or (set xs j x) l none ≡ h l
lids_but xs j x none g h low here else old l ll = dite (ℕ_discrete l j)
    (λ e. ap (λ k. slice_index_or (set xs j x) k none) e ∙ get_or-set_same xs j x none low
    ∙ sym here ∙ ap h (sym e))
    (λ ne. get_or-set_other xs j l x none ne ∙ old l ll ∙ sym (else l ne))

-- a remainder by 4
pub in_four : (t : ℕ) → t % 4 < 4
in_four t = mod_below t 4 (omega arith)

-- what a change of one box leaves alone, and what it changes
pub words_else : (n m : ℕ) (words : List ℕ) (i j t x c : ℕ)
    → ((u : ℕ) → u < 4 → c ≢ box_slot n m i j u) → t < 4
    → slice_index (set words (4 * n + box_slot n m i j t) x) (4 * n + c) ≡ slice_index words
    (4 * n + c)
words_else n m words i j t x c ne lt = let ne' = ne t lt in
    get_or-set_other words (4 * n + box_slot n m i j t) (4 * n + c) x 0 (λ u. ne' (omega arith))

module _ {A : Type 0} where
  pub homes_else : (n m : ℕ) (homes : List (maybe.Option (Load A))) (i j t : ℕ) (z : maybe.Option (Load A))
      (c : ℕ) → ((u : ℕ) → u < 4 → c ≢ box_slot n m i j u) → t < 4
      → get_elem? (set homes (box_slot n m i j t) z) c ≡ get_elem? homes c
  homes_else n m homes i j t z c ne lt = set_else homes (box_slot n m i j t) c z (ne t lt)

  pub box_homes : (n m : ℕ) (homes : List (maybe.Option (Load A))) (i j t : ℕ) (z : maybe.Option (Load A))
      (u : ℕ) → u ≢ t
      → get_elem? (set homes (box_slot n m i j t) z) (box_slot n m i j u) ≡ get_elem? homes
      (box_slot n m i j u)
  box_homes n m homes i j t z u ne = set_else homes (box_slot n m i j t) (box_slot n m i j u) z
      (λ q. ne (omega arith))

pub box_words : (n m : ℕ) (words : List ℕ) (i j t x u : ℕ) → u ≢ t
    → slice_index (set words (4 * n + box_slot n m i j t) x) (4 * n + box_slot n m i j u)
    ≡ slice_index words (4 * n + box_slot n m i j u)
box_words n m words i j t x u ne = get_or-set_other words (4 * n + box_slot n m i j t)
    (4 * n + box_slot n m i j u) x 0 (λ q. ne (omega arith))

module _ {A : Type 0} where
  pub box_home : (n m : ℕ) (homes : List (maybe.Option (Load A))) → length homes ≡ n * m + 4 * (n * n)
      → (i j t : ℕ) (z : maybe.Option (Load A)) → i < n → j < n → t < 4
      → get_elem? (set homes (box_slot n m i j t) z) (box_slot n m i j t) ≡ maybe.some z
  box_home n m homes slots i j t z li lj lt = set_here homes (box_slot n m i j t) z
      (let b = (slot_low n m i j t li lj lt).1 in omega arith)

pub box_word : (n m : ℕ) (words : List ℕ) → length words ≡ 4 * n + n * m + 4 * (n * n)
    → (i j t x : ℕ) → i < n → j < n → t < 4
    → slice_index (set words (4 * n + box_slot n m i j t) x) (4 * n + box_slot n m i j t) ≡ x
box_word n m words long i j t x li lj lt =
    get_or-set_same words (4 * n + box_slot n m i j t) x 0
    (let b = (slot_low n m i j t li lj lt).1 in omega arith)
