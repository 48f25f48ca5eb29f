-- The parcels of an ordered pair, by number: each number stands once among those that were sent, and what was taken
-- is their beginning.
use Rattle.std.proofs.Common.{◌≡◌, ℕ, zero, suc, ◌+◌, ◌<◌, ◌≤◌, ◌⊎◌, List, [], ◌∷◌, ◌++◌, map}
use Rattle.std.proofs.Common.{length, Some, None, sym, refl, ap, ◌∙◌, inl, inr, subst, ⊎_elim, arith}
use Rattle.std.proofs.Common.{append_assoc, append-nil, length-append}
use Rattle.std.proofs.lemmas.List.{map-append}
use mathlib.Core.Option as maybe
use mathlib.Core.Logic.{dite}
use native.Mathlib.Decide.{ℕ_discrete, dec_le}
use lib.ListN.{get_elem?}
use Rattle.nm_chain.specs.declared.table.parcels.Parcel.{Parcel}
use Rattle.nm_chain.specs.Sequence.{Each, Has, Rises, Got, Numbered, InSequence}
use Rattle.nm_chain.proofs.SequenceLemmas.{each_has, has_left, has_right, behind}
use Rattle.nm_chain.specs.Rule.{Load, sender, number, from}
use Rattle.nm_chain.proofs.QueueLemmas.{pick_yes, pick_no}
use Rattle.nm_cells.specs.PathLists.{parcels, numbered, by_number, Begins}

module _ {A : Type 0} where
  -- the numbers of parcels
  abbrev pub numbers : List (Parcel A) → List ℕ
  numbers ps = map (λ p. p.seq) ps

  pub packets_append : (xs ys : List (Load A)) → parcels (xs ++ ys) ≡ parcels xs ++ parcels ys
  packets_append [] ys = refl
  packets_append (Some p ∷ xs) ys = ap (λ l. p ∷ l) (packets_append xs ys)
  packets_append (None ∷ xs) ys = packets_append xs ys

  -- where each load is a parcel, the numbers are those of the parcels
  first_numbers : (y : Load A) (ys : List (Load A)) → 0 < sender y
      → numbers (parcels ys) ≡ map number ys → numbers (parcels (y ∷ ys)) ≡ map number (y ∷ ys)
  first_numbers (Some p) ys some e = ap (λ l. p.seq ∷ l) e
  first_numbers None ys some e = absurd (omega arith)

  pub full_numbers : (ys : List (Load A))
      → ((t : ℕ) (y : Load A) → get_elem? ys t ≡ maybe.some y → 0 < sender y)
      → numbers (parcels ys) ≡ map number ys
  full_numbers [] f = refl
  full_numbers (y ∷ ys) f =
      first_numbers y ys (f zero y refl) (full_numbers ys (λ t z at. f (suc t) z at))

  pub from_numbers : (i : ℕ) (ys : List (Load A))
      → numbers (parcels (from i ys)) ≡ map number (from i ys)
  from_numbers i [] = refl
  from_numbers i (y ∷ ys) = dite (ℕ_discrete (sender y) (suc i))
      (λ e. let s : from i (y ∷ ys) ≡ y ∷ from i ys =
      pick_yes (ℕ_discrete (sender y) (suc i)) (y ∷ from i ys) (from i ys) e in
      ap (λ l. numbers (parcels l)) s
      ∙ first_numbers y (from i ys) (omega arith) (from_numbers i ys) ∙ sym (ap (map number) s))
      (λ ne. let s : from i (y ∷ ys) ≡ from i ys =
      pick_no (ℕ_discrete (sender y) (suc i)) (y ∷ from i ys) (from i ys) ne in
      ap (λ l. numbers (parcels l)) s ∙ from_numbers i ys ∙ sym (ap (map number) s))

  -- the parcels with one number
  numbered_append : (k : ℕ) (ps qs : List (Parcel A))
      → numbered k (ps ++ qs) ≡ numbered k ps ++ numbered k qs
  numbered_append k [] qs = refl
  numbered_append k (p ∷ ps) qs = dite (ℕ_discrete p.seq k)
      (λ e. pick_yes (ℕ_discrete p.seq k) (p ∷ numbered k (ps ++ qs)) (numbered k (ps ++ qs)) e
      ∙ ap (λ l. p ∷ l) (numbered_append k ps qs) ∙ ap (λ l. l ++ numbered k qs)
      (sym (pick_yes (ℕ_discrete p.seq k) (p ∷ numbered k ps) (numbered k ps) e)))
      (λ ne. pick_no (ℕ_discrete p.seq k) (p ∷ numbered k (ps ++ qs)) (numbered k (ps ++ qs)) ne
      ∙ numbered_append k ps qs ∙ ap (λ l. l ++ numbered k qs)
      (sym (pick_no (ℕ_discrete p.seq k) (p ∷ numbered k ps) (numbered k ps) ne)))

  numbered_none : (k : ℕ) (ps : List (Parcel A)) → ¬ Has k (numbers ps) → numbered k ps ≡ []
  numbered_none k [] h = refl
  numbered_none k (p ∷ ps) h =
      pick_no (ℕ_discrete p.seq k) (p ∷ numbered k ps) (numbered k ps) (λ e. h (inl (sym e)))
      ∙ numbered_none k ps (λ t. h (inr t))

  numbered_one : (k : ℕ) (ps : List (Parcel A)) → Rises (numbers ps) → Has k (numbers ps)
      → length (numbered k ps) ≡ 1
  numbered_one k [] r h = absurd h
  numbered_one k (p ∷ ps) r h = dite (ℕ_discrete p.seq k)
      (λ e. ap length (pick_yes (ℕ_discrete p.seq k) (p ∷ numbered k ps) (numbered k ps) e)
      ∙ ap (λ l. suc (length l)) (numbered_none k ps (λ t. let less =
      each_has (λ y. p.seq < y) (numbers ps) r.0 k t in absurd (omega arith))))
      (λ ne. ap length (pick_no (ℕ_discrete p.seq k) (p ∷ numbered k ps) (numbered k ps) ne)
      ∙ numbered_one k ps r.1 (⊎_elim (λ e. absurd (ne (sym e))) (λ t. t) h))

  -- the number stands in one of two lists, once
  one_of_two : (k : ℕ) (ps qs : List (Parcel A)) → Rises (numbers ps) → Rises (numbers qs)
      → (Has k (numbers ps) → ¬ Has k (numbers qs)) → Has k (numbers ps) ⊎ Has k (numbers qs)
      → length (numbered k (ps ++ qs)) ≡ 1
  one_of_two k ps qs r t once h = ap length (numbered_append k ps qs)
      ∙ length-append (numbered k ps) (numbered k qs) ∙ ⊎_elim
      (λ u. (λ i. numbered_one k ps r u i + length (numbered_none k qs (once u) i)))
      (λ u. (λ i. length (numbered_none k ps (λ v. once v u) i) + numbered_one k qs t u i)) h

  -- all parcels by number
  by_number_same : (t : ℕ) (ps qs : List (Parcel A))
      → ((k : ℕ) → k < t → numbered k ps ≡ numbered k qs) → by_number t ps ≡ by_number t qs
  by_number_same zero ps qs f = refl
  by_number_same (suc t) ps qs f =
      let before = by_number_same t ps qs (λ k less. f k (omega arith)) in
      let last = f t (omega arith) in λ i. before i ++ last i

  by_number_length : (t : ℕ) (ps : List (Parcel A))
      → ((k : ℕ) → k < t → length (numbered k ps) ≡ 1) → length (by_number t ps) ≡ t
  by_number_length zero ps f = refl
  by_number_length (suc t) ps f =
      let before = by_number_length t ps (λ k less. f k (omega arith)) in
      let last = f t (omega arith) in let sum = length-append (by_number t ps) (numbered t ps) in
      omega arith

  by_number_grows : (t s : ℕ) (ps : List (Parcel A)) → t ≤ s → Begins (by_number t ps) (by_number s ps)
  by_number_grows t zero ps low = let e : t ≡ 0 = omega arith in
      ([], ap (λ u. by_number u ps) (sym e) ∙ sym (append-nil (by_number t ps)))
  by_number_grows t (suc s) ps low = dite (dec_le t s)
      (λ less. let b = by_number_grows t s ps less in (
        b.0 ++ numbered s ps,
        ap (λ l. l ++ numbered s ps) b.1
            ∙ append_assoc (by_number t ps) b.0 (numbered s ps),
      ))
      (λ more. let e : t ≡ suc s = omega arith in
      ([], ap (λ u. by_number u ps) (sym e) ∙ sym (append-nil (by_number t ps))))

rises_left : (xs ys : List ℕ) → Rises (xs ++ ys) → Rises xs
rises_left [] ys r = tt
rises_left (x ∷ xs) ys r = (before x xs ys r.0, rises_left xs ys r.1) where
  before : (x : ℕ) (xs ys : List ℕ) → Each (λ y. x < y) (xs ++ ys) → Each (λ y. x < y) xs
  before x [] ys e = tt
  before x (z ∷ zs) ys e = (e.0, before x zs ys e.1)

-- What went by box is what was got by box and what stands in the boxes, and what went by cell is what was got by
-- cell and what stands in the chain
module _ {A : Type 0} (s : ℕ) (gb bx gc ch : List (Parcel A))
    (t : InSequence s (numbers gb) (numbers bx) (numbers gc) (numbers ch)) where
  by_box : numbers (gb ++ bx) ≡ numbers gb ++ numbers bx
  by_box = map-append (λ p. p.seq) gb bx

  by_cell : numbers (gc ++ ch) ≡ numbers gc ++ numbers ch
  by_cell = map-append (λ p. p.seq) gc ch

  two_ways : Numbered s (numbers (gb ++ bx)) (numbers (gc ++ ch))
  two_ways = subst (λ (x : List ℕ × List ℕ). Numbered s x.0 x.1)
      (λ i. (sym by_box i, sym by_cell i)) t.numbered

  -- as many were sent as are counted
  pub all_sent : length (by_number s ((gb ++ bx) ++ (gc ++ ch))) ≡ s
  all_sent = let d = two_ways in by_number_length s ((gb ++ bx) ++ (gc ++ ch))
      (λ k less. one_of_two k (gb ++ bx) (gc ++ ch) d.box_rises d.cell_rises (d.once k)
      (d.all k less))

  module _ (k : ℕ) (got : Got (numbers gb) (numbers gc) k) where
    low : k < s
    low = let d = t.numbered in ⊎_elim
        (λ h. each_has (λ u. u < s) (numbers gb ++ numbers bx) d.box_sent k
        (has_left (numbers gb) (numbers bx) k h))
        (λ h. each_has (λ u. u < s) (numbers gc ++ numbers ch) d.cell_sent k
        (has_left (numbers gc) (numbers ch) k h)) got

    got_once : length (numbered k (gb ++ gc)) ≡ 1
    got_once = let d = t.numbered in
        one_of_two k gb gc (rises_left (numbers gb) (numbers bx) d.box_rises)
        (rises_left (numbers gc) (numbers ch) d.cell_rises)
        (λ h u. d.once k (has_left (numbers gb) (numbers bx) k h)
        (has_left (numbers gc) (numbers ch) k u)) got

    not_in_boxes : numbered k bx ≡ []
    not_in_boxes = let d = t.numbered in numbered_none k bx (λ h. ⊎_elim
        (λ u. let less = behind (numbers gb) (numbers bx) k k d.box_rises u h in
        absurd (omega arith))
        (λ u. d.once k (has_right (numbers gb) (numbers bx) k h)
        (has_left (numbers gc) (numbers ch) k u)) got)

    not_in_chain : numbered k ch ≡ []
    not_in_chain = let d = t.numbered in numbered_none k ch (λ h. ⊎_elim
        (λ u. d.once k (has_left (numbers gb) (numbers bx) k u)
        (has_right (numbers gc) (numbers ch) k h))
        (λ u. let less = behind (numbers gc) (numbers ch) k k d.cell_rises u h in
        absurd (omega arith)) got)

    -- a parcel that was got is the one that was sent
    same_packet : numbered k (gb ++ gc) ≡ numbered k ((gb ++ bx) ++ (gc ++ ch))
    same_packet = numbered_append k gb gc ∙ sym (numbered_append k (gb ++ bx) (gc ++ ch)
        ∙ (λ i. (numbered_append k gb bx ∙ ap (λ l. numbered k gb ++ l) not_in_boxes
        ∙ append-nil (numbered k gb)) i
        ++ (numbered_append k gc ch ∙ ap (λ l. numbered k gc ++ l) not_in_chain
        ∙ append-nil (numbered k gc)) i))

  -- of parcels that were all got
  module _ (n : ℕ) (all : (k : ℕ) → k < n → Got (numbers gb) (numbers gc) k) where
    few : (m : ℕ) → m ≡ n → m ≤ s
    few zero e = omega arith
    few (suc m) e = let l = low m (all m (omega arith)) in omega arith

    pub all_taken : length (by_number n (gb ++ gc)) ≡ n
    all_taken = by_number_length n (gb ++ gc) (λ k less. got_once k (all k less))

    -- they are the beginning of those that were sent
    pub taken_begin : Begins (by_number n (gb ++ gc)) (by_number s ((gb ++ bx) ++ (gc ++ ch)))
    taken_begin = let g = by_number_grows n s ((gb ++ bx) ++ (gc ++ ch)) (few n refl) in (
      g.0,
      g.1 ∙ ap (λ l. l ++ g.0) (sym (by_number_same n (gb ++ gc)
          ((gb ++ bx) ++ (gc ++ ch)) (λ k less. same_packet k (all k less)))),
    )
