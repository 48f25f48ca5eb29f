-- No row gets longer than the greatest length that is kept.
use Rattle.std.proofs.Common.{◌≡◌, ℕ, ◌+◌, ◌<◌, ◌≤◌, ◌==◌, Bool, true, false, cond, List, [], ◌∷◌}
use Rattle.std.proofs.Common.{◌++◌, length, max, refl, sym, ap, subst, arith}
use Rattle.std.proofs.Math.ListN.{set}
use Rattle.std.proofs.Math.Nat.{le-max_left, le-max_right}
use Rattle.nm_sending.specs.declared.departures.Departure.{Departure}
use Rattle.nm_sending.specs.Departures.{IsMost, row_of, with_departure}
use Rattle.nm_sending.proofs.PlaceLemmas.{length-departure_push, length-departure_set}
use Rattle.nm_types.proofs.NumberLemmas.{same_number}

module _ (rows : List (List Departure)) (to most : ℕ) (below : to < length rows)
    (is : IsMost rows most) where
  pub most-set : (n : ℕ) (d : Departure) → IsMost (with_departure rows to n d) most
  most-set n d t =
      subst (λ (k : ℕ). k ≤ most) (sym (length-departure_set rows to below n d t)) (is t)

  pub most-push : (d : Departure) →
      IsMost (set rows to (row_of rows to ++ d ∷ [])) (max most (length (row_of rows to) + 1))
  most-push d t =
      subst (λ (k : ℕ). k ≤ max most (length (row_of rows to) + 1))
      (sym (length-departure_push rows to below d t)) (at (to == t) refl)
    where
      at : (b : Bool) → (to == t) ≡ b →
          length (row_of rows t) + cond b 1 0 ≤ max most (length (row_of rows to) + 1)
      at true same =
          let e : length (row_of rows to) ≡ length (row_of rows t) =
          ap (λ (k : ℕ). length (row_of rows k)) (same_number to t same) in
          let above = le-max_right most (length (row_of rows to) + 1) in
          omega arith
      at false other =
          let before = is t in
          let above = le-max_left most (length (row_of rows to) + 1) in
          omega arith
