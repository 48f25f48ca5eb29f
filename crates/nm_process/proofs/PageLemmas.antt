-- Places in pages.
use Rattle.std.proofs.Common.{◌≡◌, ℕ, zero, suc, ◌<◌, ◌≤◌, Bool, true, false, cond}
use Rattle.std.proofs.Common.{List, [], ◌∷◌, ◌++◌, length, get_or, set, replicate, refl, sym, ◌∙◌, ap, arith}
use Rattle.std.specs.Prelude.{nat_eq, nat_lt}
use Rattle.std.proofs.lemmas.Bool.Decides.{nat_tests}
use Rattle.std.proofs.lemmas.Grind.{get_or-set_at}
use Rattle.std.proofs.lemmas.List.{get_or-replicate, get_or-set_other, length-replicate}
use Rattle.std.proofs.Math.ListN.{get_or-eq_default}
use Rattle.nm_types.proofs.NumberLemmas.{differ, same_number}
use Rattle.nm_process.specs.Sparse.{page_of, place_of_name, slot_of}

-- an empty page more
pub empty_more : (pages : List (List ℕ)) (k : ℕ) → get_or (pages ++ [] ∷ []) k [] ≡ get_or pages k []
empty_more [] zero = refl
empty_more [] (suc k) = refl
empty_more (page ∷ pages) zero = refl
empty_more (page ∷ pages) (suc k) = empty_more pages k

-- zeros more
zeros : (n k : ℕ) → ◌≡◌ {A = ℕ} (get_or (replicate n 0) k 0) 0
zeros n k = by (nat_lt k n) refl where
  by : (b : Bool) → nat_lt k n ≡ b → ◌≡◌ {A = ℕ} (get_or (replicate n 0) k 0) 0
  by true is = get_or-replicate n k 0 0 (grind (arith, nat_tests))
  by false is = let past : length (replicate {A = ℕ} n 0) ≤ k = grind (arith, nat_tests, length-replicate) in
      get_or-eq_default (replicate n 0) 0 past

pub zeros_more : (page : List ℕ) (n k : ℕ) → get_or (page ++ replicate n 0) k 0 ≡ get_or page k 0
zeros_more [] n k = zeros n k
zeros_more (x ∷ page) n zero = refl
zeros_more (x ∷ page) n (suc k) = zeros_more page n k

-- names of one page that have one place there are the same
pub one_slot : (q k : ℕ) → page_of q ≡ page_of k → slot_of q ≡ slot_of k → q ≡ k
one_slot q k page slot = omega (arith, page, slot)

-- pages that are the same by number
pub same_pages : (pages others : List (List ℕ)) → ((n : ℕ) → get_or pages n [] ≡ get_or others n []) →
    (q : ℕ) → place_of_name pages q ≡ place_of_name others q
unfolding place_of_name
same_pages pages others same q = ap (λ (row : List ℕ). get_or row (slot_of q) 0) (same (page_of q))

-- a page that has the places that another had
pub refill : (pages : List (List ℕ)) (page : List ℕ) (n : ℕ) → n < length pages →
    ((i : ℕ) → get_or page i 0 ≡ get_or (get_or pages n []) i 0) → (k : ℕ) →
    place_of_name (set pages n page) k ≡ place_of_name pages k
unfolding place_of_name
refill pages page n inside same k = by (nat_eq n (page_of k)) refl where
  by : (b : Bool) → nat_eq n (page_of k) ≡ b →
      get_or (get_or (set pages n page) (page_of k) []) (slot_of k) 0
      ≡ get_or (get_or pages (page_of k) []) (slot_of k) 0
  by true is = let here : n ≡ page_of k = same_number n (page_of k) is in
      ap (λ (row : List ℕ). get_or row (slot_of k) 0) (get_or-set_at pages n (page_of k) page [] (sym here) inside)
      ∙ same (slot_of k) ∙ ap (λ (i : ℕ). get_or (get_or pages i []) (slot_of k) 0) here
  by false is = ap (λ (row : List ℕ). get_or row (slot_of k) 0)
      (get_or-set_other pages n (page_of k) page [] (differ n (page_of k) is))

-- a place that is set in a page
pub put : (pages : List (List ℕ)) (page : List ℕ) (q place n s : ℕ) → n ≡ page_of q → s ≡ slot_of q →
    n < length pages → s < length page → ((i : ℕ) → get_or page i 0 ≡ get_or (get_or pages n []) i 0) →
    (k : ℕ) → place_of_name (set pages n (set page s place)) k ≡ cond (nat_eq q k) place (place_of_name pages k)
unfolding place_of_name
put pages page q place n s paged slotted inside there same k =
    by (nat_eq q k) refl (nat_eq n (page_of k)) refl
  where
    by : (b : Bool) → nat_eq q k ≡ b → (d : Bool) → nat_eq n (page_of k) ≡ d →
        get_or (get_or (set pages n (set page s place)) (page_of k) []) (slot_of k) 0
        ≡ cond b place (get_or (get_or pages (page_of k) []) (slot_of k) 0)
    by true is d near = let own : k ≡ q = sym (same_number q k is) in
        ap (λ (row : List ℕ). get_or row (slot_of k) 0)
        (get_or-set_at pages n (page_of k) (set page s place) [] (ap page_of own ∙ sym paged) inside)
        ∙ get_or-set_at page s (slot_of k) place 0 (ap slot_of own ∙ sym slotted) there
    by false is true near = let here : n ≡ page_of k = same_number n (page_of k) near in
        ap (λ (row : List ℕ). get_or row (slot_of k) 0)
        (get_or-set_at pages n (page_of k) (set page s place) [] (sym here) inside)
        ∙ get_or-set_other page s (slot_of k) place 0
        (λ slot. differ q k is (sym (one_slot q k (sym paged ∙ here) (sym slotted ∙ sym slot))))
        ∙ same (slot_of k) ∙ ap (λ (i : ℕ). get_or (get_or pages i []) (slot_of k) 0) here
    by false is false near = ap (λ (row : List ℕ). get_or row (slot_of k) 0)
        (get_or-set_other pages n (page_of k) (set page s place) [] (differ n (page_of k) near))
