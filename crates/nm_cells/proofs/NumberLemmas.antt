-- The numbers of the loads that were put for a rank, or that came from it.
use Rattle.std.proofs.Common.{◌≡◌, ◌≢◌, ℕ, suc, ◌+◌, ◌<◌, ◌≤◌, ◌⊎◌}
use Rattle.std.proofs.Common.{Some, None, List, [], ◌∷◌, ◌++◌, length}
use Rattle.std.proofs.Common.{map, sym, refl, ap, ◌∙◌, inl, inr, subst, ⊎_elim, arith}
use Rattle.std.proofs.Common.{append-nil}
use Rattle.std.proofs.lemmas.List.{map-append}
use mathlib.Core.Logic.{dite}
use native.Mathlib.Decide.{ℕ_discrete, dec_le}
use Rattle.nm_chain.specs.Sequence.{Each, Has, Rises, Got}
use Rattle.nm_chain.proofs.SequenceLemmas.{each_along, each_has}
use Rattle.nm_chain.proofs.SequenceLemmas.{has_left}
use Rattle.nm_chain.specs.Rule.{Load, put_to, from, number, sender, if_below}
use Rattle.nm_cells.specs.Counted.{not_below, IsOneOf}
use Rattle.nm_chain.proofs.QueueLemmas.{from_append, put_append, pick_yes, pick_no, below_yes}
use Rattle.nm_chain.proofs.QueueLemmas.{below_no}

module _ {A : Type 0} where
  -- a number of a parcel is in range
  pub number_small : (y : Load A) → number y < 1152921504606846976
  number_small (Some p) = p.seq_in_range
  number_small None = omega arith

  pub numbers_small : (ys : List (Load A)) → Each (λ k. k < 1152921504606846976) (map number ys)
  numbers_small [] = tt
  numbers_small (y ∷ ys) = (number_small y, numbers_small ys)

-- numbers that rise and stay below a bound are at most as many as it
rises_from : (a b : ℕ) (xs : List ℕ) → Rises xs → Each (λ k. a ≤ k) xs → Each (λ k. k < b) xs
    → a + length xs ≤ b ⊎ (length xs ≡ 0)
rises_from a b [] r low high = inr refl
rises_from a b (x ∷ xs) r low high = ⊎_elim (λ h. inl (let l = low.0 in omega arith))
    (λ h. inl (let l = low.0 in let t = high.0 in omega arith))
    (rises_from (suc x) b xs r.1
    (each_along (λ k. x < k) (λ k. suc x ≤ k) (λ k h. omega arith) xs r.0) high.1)

all_from_zero : (xs : List ℕ) → Each (λ k. 0 ≤ k) xs
all_from_zero [] = tt
all_from_zero (x ∷ xs) = (omega arith, all_from_zero xs)

pub rises_short : (b : ℕ) (xs : List ℕ) → Rises xs → Each (λ k. k < b) xs → length xs ≤ b
rises_short b xs r high = ⊎_elim (λ h. omega arith) (λ h. omega arith)
    (rises_from 0 b xs r (all_from_zero xs) high)

pub not_below_length : (t : ℕ) (xs : List ℕ) → not_below t xs ≤ length xs
not_below_length t [] = omega arith
not_below_length t (x ∷ xs) = let h = not_below_length t xs in let one : ℕ = 1 in
    let none : ℕ = 0 in dite (dec_le (suc x) t)
    (λ low. let e : not_below t (x ∷ xs) ≡ 0 + not_below t xs =
    ap (λ u. u + not_below t xs) (below_yes (dec_le (suc x) t) none one low) in omega arith)
    (λ far. let e : not_below t (x ∷ xs) ≡ 1 + not_below t xs =
    ap (λ u. u + not_below t xs) (below_no (dec_le (suc x) t) none one far) in omega arith)

pub not_below_append : (t k : ℕ) (xs : List ℕ) → t ≤ k → not_below t (xs ++ k ∷ []) ≡ not_below t xs + 1
not_below_append t k [] h = let one : ℕ = 1 in let none : ℕ = 0 in
    let e : not_below t (k ∷ []) ≡ 1 + 0 =
    ap (λ u. u + not_below t []) (below_no (dec_le (suc k) t) none one (λ low. omega arith)) in
    omega arith
not_below_append t k (x ∷ xs) h = let n : ℕ = if_below (dec_le (suc x) t) 0 1 in
    let e : n + (not_below t xs + 1) ≡ (n + not_below t xs) + 1 = omega arith in
    ap (λ u. n + u) (not_below_append t k xs h) ∙ e

-- one number of a rising list is passed
pub not_below_gone : (t : ℕ) (xs : List ℕ) → ¬ Has t xs → not_below (suc t) xs ≡ not_below t xs
not_below_gone t [] h = refl
not_below_gone t (x ∷ xs) h = let one : ℕ = 1 in let none : ℕ = 0 in
    let more = not_below_gone t xs (λ k. h (inr k)) in dite (dec_le (suc x) t)
    (λ low. λ i. (below_yes (dec_le (suc x) (suc t)) none one (omega arith)
    ∙ sym (below_yes (dec_le (suc x) t) none one low)) i + more i)
    (λ far. λ i. (below_no (dec_le (suc x) (suc t)) none one (λ l. h (inl (omega arith)))
    ∙ sym (below_no (dec_le (suc x) t) none one far)) i + more i)

pub not_below_one : (t : ℕ) (xs : List ℕ) → Rises xs → Has t xs
    → not_below (suc t) xs + 1 ≡ not_below t xs
not_below_one t [] r h = absurd h
not_below_one t (x ∷ xs) r h = let one : ℕ = 1 in let none : ℕ = 0 in ⊎_elim
    (λ is. let gone = not_below_gone t xs (λ k. let less = each_has (λ y. x < y) xs r.0 t k in
    omega arith) in
    let a : not_below (suc t) (x ∷ xs) ≡ 0 + not_below (suc t) xs =
    ap (λ u. u + not_below (suc t) xs)
    (below_yes (dec_le (suc x) (suc t)) none one (omega arith)) in
    let b : not_below t (x ∷ xs) ≡ 1 + not_below t xs =
    ap (λ u. u + not_below t xs) (below_no (dec_le (suc x) t) none one (λ l. omega arith))
    in omega arith)
    (λ k. let less = each_has (λ y. x < y) xs r.0 t k in let more = not_below_one t xs r.1 k in
    let a : not_below (suc t) (x ∷ xs) ≡ 0 + not_below (suc t) xs =
    ap (λ u. u + not_below (suc t) xs)
    (below_yes (dec_le (suc x) (suc t)) none one (omega arith)) in
    let b : not_below t (x ∷ xs) ≡ 0 + not_below t xs =
    ap (λ u. u + not_below t xs) (below_yes (dec_le (suc x) t) none one (omega arith)) in
    omega arith)
    h

module _ {A : Type 0} where
  pub one_of_append : (y : Load A) (xs ys : List (Load A)) → IsOneOf y xs → IsOneOf y (xs ++ ys)
  one_of_append y [] ys h = absurd h
  one_of_append y (x ∷ xs) ys h = ⊎_elim (λ e. inl e) (λ k. inr (one_of_append y xs ys k)) h

  pub one_of_last : (y : Load A) (xs : List (Load A)) → IsOneOf y (xs ++ y ∷ [])
  one_of_last y [] = inl refl
  one_of_last y (x ∷ xs) = inr (one_of_last y xs)

  pub one_of_has : (y : Load A) (xs : List (Load A)) → IsOneOf y xs → Has (number y) (map number xs)
  one_of_has y [] h = absurd h
  one_of_has y (x ∷ xs) h = ⊎_elim (λ e. inl (ap number e)) (λ k. inr (one_of_has y xs k)) h

  -- two loads of a rising list with one number are one
  pub one_number : (y z : Load A) (xs : List (Load A)) → Rises (map number xs) → IsOneOf y xs → IsOneOf z xs
      → number y ≡ number z → y ≡ z
  one_number y z [] r h k e = absurd h
  one_number y z (x ∷ xs) r h k e = ⊎_elim
      (λ a. ⊎_elim (λ b. a ∙ sym b) (λ b. let less = each_has (λ u. number x < u) (map number xs) r.0
      (number z) (one_of_has z xs b) in let same = ap number a in absurd (omega arith)) k)
      (λ a. let less = each_has (λ u. number x < u) (map number xs) r.0 (number y)
      (one_of_has y xs a) in ⊎_elim (λ b. let same = ap number b in absurd (omega arith))
      (λ b. one_number y z xs r.1 a b e) k) h

  -- what was put for a rank, or is from it, after one more
  pub put_here : (j : ℕ) (y : Load A) (xs : List (ℕ × Load A)) → put_to j (xs ++ (j, y) ∷ []) ≡ put_to j xs
      ++ y ∷ []
  put_here j y xs = put_append j xs ((j, y) ∷ []) ∙ ap (λ u. put_to j xs ++ u)
      (pick_yes (ℕ_discrete j j) (y ∷ []) [] refl)

  pub put_other : (i j : ℕ) (y : Load A) (xs : List (ℕ × Load A)) → i ≢ j
      → put_to i (xs ++ (j, y) ∷ []) ≡ put_to i xs
  put_other i j y xs ne = put_append i xs ((j, y) ∷ []) ∙ ap (λ u. put_to i xs ++ u)
      (pick_no (ℕ_discrete j i) (y ∷ []) [] (λ e. ne (sym e))) ∙ append-nil (put_to i xs)

  pub from_here : (i : ℕ) (y : Load A) (xs : List (Load A)) → sender y ≡ suc i
      → from i (xs ++ y ∷ []) ≡ from i xs ++ y ∷ []
  from_here i y xs is = from_append i xs (y ∷ []) ∙ ap (λ u. from i xs ++ u)
      (pick_yes (ℕ_discrete (sender y) (suc i)) (y ∷ []) [] is)

  pub from_other : (i j : ℕ) (y : Load A) (xs : List (Load A)) → sender y ≡ suc j → i ≢ j
      → from i (xs ++ y ∷ []) ≡ from i xs
  from_other i j y xs is ne = from_append i xs (y ∷ []) ∙ ap (λ u. from i xs ++ u)
      (pick_no (ℕ_discrete (sender y) (suc i)) (y ∷ []) [] (λ e. let same : suc j ≡ suc i =
      sym is ∙ e in ne (omega arith))) ∙ append-nil (from i xs)

  pub got_cell_more : (i k : ℕ) (y : Load A) (gb got : List (Load A)) → sender y ≡ suc i
      → Got (map number gb) (map number (from i got)) k
      → Got (map number gb) (map number (from i (got ++ y ∷ []))) k
  got_cell_more i k y gb got is g =
      ⊎_elim (λ h. inl h) (λ h. inr (subst (λ u. Has k (map number u)) (sym (from_here i y got is))
      (subst (Has k) (sym (map-append number (from i got) (y ∷ [])))
      (has_left (map number (from i got)) (number y ∷ []) k h)))) g
