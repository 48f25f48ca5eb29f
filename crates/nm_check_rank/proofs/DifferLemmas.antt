-- The place at which two lists differ first.
use Rattle.std.proofs.Common.{◌≡◌, ◌≢◌, ◌⊎◌, inl, inr, ℕ, ◌+◌, ◌<◌, ◌≤◌, Some, None}
use Rattle.std.proofs.Common.{List, [], ◌∷◌, ◌++◌, length, take, refl, sym, ◌∙◌, ap, subst, add-one, arith}
use Rattle.std.specs.List.{slice_get}
use Rattle.std.proofs.lemmas.Bool.{cases_lt}
use Rattle.std.proofs.lemmas.List.{length-take-le, take_all}
use Rattle.std.proofs.lemmas.Option.{none-some, same_Some, slice_get_past}
use Rattle.nm_types.proofs.ListLemmas.{get_some, take_more}
use Rattle.nm_check_rank.specs.Differ.{DifferFirstAt}

-- at the first item
pub differ_here : {X : Type 0} (x y : X) (xs ys : List X) → x ≢ y → DifferFirstAt (x ∷ xs) (y ∷ ys) 0
differ_here x y xs ys not = record { same = refl; other = λ e. not (same_Some x y e) }

-- behind an item that is the same
pub differ_behind : {X : Type 0} (x y : X) (xs ys : List X) (k : ℕ) → x ≡ y → DifferFirstAt xs ys k →
    DifferFirstAt (x ∷ xs) (y ∷ ys) (k + 1)
differ_behind x y xs ys k one d = subst (λ n. DifferFirstAt (x ∷ xs) (y ∷ ys) n) (sym (add-one k)) (record {
  same = ap (λ z. z ∷ take k xs) one ∙ ap (λ zs. y ∷ zs) d.same;
  other = d.other;
})

-- they are two lists
pub differ_not : {X : Type 0} (xs ys : List X) (k : ℕ) → DifferFirstAt xs ys k → xs ≢ ys
differ_not xs ys k d = λ e. d.other (ap (λ zs. slice_get zs k) e)

module _ {X : Type 0} (xs ys : List X) (k : ℕ) (so_far : take k xs ≡ take k ys) where
  -- one more item is the same in both
  pub same_next : (x : X) → slice_get xs k ≡ Some x → slice_get ys k ≡ Some x → take (k + 1) xs ≡ take (k + 1) ys
  same_next x here there =
      subst (λ n. take n xs ≡ take n ys) (sym (add-one k))
      (take_more xs k x here ∙ ap (λ zs. zs ++ x ∷ []) so_far ∙ sym (take_more ys k x there))

  -- one list ends, and the other goes on
  pub differ_past : (y : X) → length xs ≤ k → slice_get ys k ≡ Some y → DifferFirstAt xs ys k
  differ_past y over there = record {
    same = so_far;
    other = λ e. none-some y (sym (slice_get_past xs k over) ∙ e ∙ there);
  }

  -- both end
  pub same_end : length xs ≤ k → slice_get ys k ≡ None → xs ≡ ys
  same_end over none = by_order (cases_lt k (length ys))
    where
      by_order : (k < length ys) ⊎ (length ys ≤ k) → xs ≡ ys
      by_order (inl more) = let next = get_some ys k more in absurd (none-some next.0 (sym none ∙ next.1))
      by_order (inr end) = sym (take_all k xs over) ∙ so_far ∙ take_all k ys end

-- the place is in them or at their end
pub differ_inside : {X : Type 0} (xs ys : List X) (k : ℕ) → DifferFirstAt xs ys k → k ≤ length xs
differ_inside xs ys k d = by_order (cases_lt (length xs) k)
  where
    both_end : length xs < k → length ys ≤ k → k ≤ length xs
    both_end past end = absurd (d.other (slice_get_past xs k (omega (arith, past)) ∙ sym (slice_get_past ys k end)))

    by_ends : length xs < k → (k < length ys) ⊎ (length ys ≤ k) → k ≤ length xs
    by_ends past (inl more) =
        let long = length-take-le k ys (omega (arith, more)) in
        let short = ap length (take_all k xs (omega (arith, past))) in
        let same = ap length d.same in
        absurd (omega (arith, long, short, same, past))
    by_ends past (inr end) = both_end past end

    by_order : (length xs < k) ⊎ (k ≤ length xs) → k ≤ length xs
    by_order (inl past) = by_ends past (cases_lt k (length ys))
    by_order (inr inside) = inside
