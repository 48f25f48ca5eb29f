-- The pieces of some bytes.
use Rattle.std.proofs.Common.{◌≡◌, ℕ, zero, suc, ◌+◌, ◌-◌, ◌*◌, ◌<◌, ◌≤◌, ◌++◌, List, [], ◌∷◌}
use Rattle.std.proofs.Common.{length, take, drop}
use Rattle.std.proofs.Common.{map, get_or, min, refl, sym, ap, ◌∙◌, arith, length-drop, ◌⊎◌, inl}
use Rattle.std.proofs.Common.{inr}
use Rattle.std.proofs.Common.{Bool, true, false, cond, nat_lt, slice_get, Option, Some, None}
use Rattle.std.proofs.Math.Seq.{take-add}
use Rattle.std.proofs.lemmas.Bool.Decides.{nat_tests}
use Rattle.std.proofs.lemmas.List.FromFn.{length-map-range_with_len, get_or-map-range_with_len}
use Rattle.std.proofs.lemmas.Option.{slice_get-get_or, slice_get_within}
use Rattle.std.proofs.lemmas.Bool.{cases_lt}
use Rattle.std.proofs.lemmas.List.{drop-drop, take_all, take_more, get_or-drop}
use Rattle.std.specs.List.{concat, range_with_len}
use Rattle.nm_rndv.specs.Pieces.{piece_at, piece_count, pieces_of}

-- one byte more of the bytes from some place on
pub take_on : (xs : List ℕ) (start k : ℕ) → start ≤ k → k < length xs →
    take ((k + 1) - start) (drop start xs) ≡ take (k - start) (drop start xs) ++ get_or xs k 0 ∷ []
take_on xs start k from within =
    let j : (k + 1) - start ≡ (k - start) + 1 = omega arith in
    let at : start + (k - start) ≡ k = omega arith in
    let lt : k - start < length (drop start xs) = omega (arith, length-drop start xs) in
    ap (λ n. take n (drop start xs)) j ∙ take_more (drop start xs) (k - start) 0 lt
    ∙ ap (λ b. take (k - start) (drop start xs) ++ b ∷ [])
    (get_or-drop start xs (k - start) 0 ∙ ap (λ n. get_or xs n 0) at)

-- up to the end of a piece, or of all bytes
pub take_to : (xs : List ℕ) (start end' : ℕ) → start ≤ length xs → end' ≡ min (length xs) (start + 1024) →
    take (end' - start) (drop start xs) ≡ take 1024 (drop start xs)
take_to xs start end' low is = by (cases_lt (length xs) (start + 1024))
  where
    by : (length xs < start + 1024) ⊎ (start + 1024 ≤ length xs) →
        take (end' - start) (drop start xs) ≡ take 1024 (drop start xs)
    by (inl short) =
        take_all (end' - start) (drop start xs) (omega (arith, length-drop start xs))
        ∙ sym (take_all 1024 (drop start xs) (omega (arith, length-drop start xs)))
    by (inr long) = ap (λ n. take n (drop start xs)) (let e : end' - start ≡ 1024 = omega arith in e)

-- so many pieces from some piece on are so many bytes
pub concat-pieces : (bytes : List ℕ) (m s : ℕ) → concat (map (piece_at bytes) (range_with_len s m)) ≡ take
    (1024 * m) (drop (1024 * s) bytes)
concat-pieces bytes zero s = refl
concat-pieces bytes (suc m) s =
    let size : 1024 * suc m ≡ 1024 + 1024 * m = omega arith in
    let next : 1024 * s + 1024 ≡ 1024 * (s + 1) = omega arith in
    ap (λ rest. piece_at bytes s ++ rest) (concat-pieces bytes m (s + 1)
    ∙ ap (λ n. take (1024 * m) (drop n bytes)) (sym next)
    ∙ ap (take (1024 * m)) (sym (drop-drop 1024 (1024 * s) bytes)))
    ∙ sym (take-add 1024 (1024 * m) (drop (1024 * s) bytes))
    ∙ ap (λ n. take n (drop (1024 * s) bytes)) (sym size)

-- all pieces together are the bytes
pub concat-pieces_of : (bytes : List ℕ) → concat (pieces_of bytes) ≡ bytes
concat-pieces_of bytes =
    let enough : length bytes ≤ 1024 * piece_count (length bytes) = omega arith in
    concat-pieces bytes (piece_count (length bytes)) 0 ∙ take_all (1024 * piece_count (length bytes)) bytes enough

lt_from : {a b : ℕ} → nat_lt a b ≡ true → a < b
lt_from e = grind (arith, nat_tests)

le_from : {a b : ℕ} → nat_lt a b ≡ false → b ≤ a
le_from e = grind (arith, nat_tests)

none_past : {X : Type 0} (xs : List X) (k : ℕ) → length xs ≤ k → slice_get xs k ≡ None
none_past {X} xs k past = by (slice_get xs k) refl
  where
    by : (o : Option X) → slice_get xs k ≡ o → slice_get xs k ≡ None
    by None e = e
    by (Some x) e = absurd (omega (arith, slice_get_within xs k x e))

-- there is a piece at each place whose offset is in the bytes, and no other
pub slice_get-pieces_of : (bytes : List ℕ) (k : ℕ) → slice_get (pieces_of bytes) k ≡ cond
    (nat_lt (1024 * k) (length bytes)) (Some (piece_at bytes k)) None
slice_get-pieces_of bytes k = by (nat_lt (1024 * k) (length bytes)) refl
  where
    by : (b : Bool) → nat_lt (1024 * k) (length bytes) ≡ b →
        slice_get (pieces_of bytes) k ≡ cond b (Some (piece_at bytes k)) None
    by true e =
        let lt : 1024 * k < length bytes = lt_from e in
        let inside : k < piece_count (length bytes) = omega arith in
        let many = length-map-range_with_len (piece_at bytes) 0 (piece_count (length bytes)) in
        let at : get_or (pieces_of bytes) k [] ≡ piece_at bytes k =
        get_or-map-range_with_len (piece_at bytes) 0 (piece_count (length bytes)) k k [] inside (omega arith) in
        slice_get-get_or (pieces_of bytes) k [] (omega (arith, many)) ∙ ap Some at
    by false e =
        let past : length bytes ≤ 1024 * k = le_from e in
        let outside : piece_count (length bytes) ≤ k = omega arith in
        let many = length-map-range_with_len (piece_at bytes) 0 (piece_count (length bytes)) in
        none_past (pieces_of bytes) k (omega (arith, many))
