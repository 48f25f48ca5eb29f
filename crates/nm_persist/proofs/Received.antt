-- The results of a receive's parts, joined, show its body.
use Rattle.std.proofs.Common.{◌≡◌, ℕ, ◌+◌, ◌<◌, ◌≤◌, Bool, true, false, ◌||◌, cond, zero, suc, Option, Some, None}
use Rattle.std.proofs.Common.{List, [], ◌∷◌, ◌++◌, length, map, refl, sym, ◌∙◌, ap, arith, append-nil, length-append}
use Rattle.std.proofs.Common.{inl, inr}
use Rattle.std.specs.Prelude.{codes, decimal, flat_map, sum_by, unwrap_or}
use Rattle.std.specs.List.{list_any, range_with_len}
use Rattle.std.proofs.lemmas.Bool.{false≢true}
use Rattle.std.proofs.lemmas.List.Sums.{sum_by-cons}
use Rattle.hex.specs.Hex.{encode_lower}
use Rattle.nm_types.specs.declared.answers.Answer.{Answer}
use Rattle.nm_persist.specs.Report.{bytes_in, is_cut, len_in, received}
use Rattle.nm_persist.specs.Starts.{part_bytes}
use Rattle.nm_persist.specs.Promises.{IsResultOf, ShowsBody}
use Rattle.nm_persist.proofs.Joined.{parts_join}

module _ (from : ℕ) (tags : ℕ → ℕ) (P : ℕ → List ℕ) (res : ℕ → Option Answer) where
  -- results of these parts, one by one
  abbrev AreResults : ℕ → ℕ → Type 0
  AreResults m n = (k : ℕ) → m ≤ k → k < m + n → IsResultOf from (tags k) (P k) (res k)

  later : (m n : ℕ) → AreResults m (suc n) → AreResults (m + 1) n
  later m n are k low high = are k (omega (arith, low)) (omega (arith, high))

  len_of : (k : ℕ) → IsResultOf from (tags k) (P k) (res k) → len_in (res k) ≡ length (P k)
  len_of k (inl got) = ap (λ (o : Option Answer). len_in o) got
  len_of k (inr cut) = ap (λ (o : Option Answer). len_in o) cut

  sum_of : (m n : ℕ) → AreResults m n → sum_by len_in (map res (range_with_len m n)) ≡ length
      (flat_map P (range_with_len m n))
  sum_of m zero are = refl
  sum_of m (suc n) are =
      sum_by-cons len_in (res m) (map res (range_with_len (m + 1) n))
      ∙ ap (λ (x : ℕ). x + sum_by len_in (map res (range_with_len (m + 1) n)))
      (len_of m (are m (omega arith) (omega arith)))
      ∙ ap (λ (x : ℕ). length (P m) + x) (sum_of (m + 1) n (later m n are))
      ∙ sym (length-append (P m) (flat_map P (range_with_len (m + 1) n)))

  bytes_of_part : (k : ℕ) → IsResultOf from (tags k) (P k) (res k) → is_cut (res k) ≡ false → bytes_in (res k) ≡ P k
  bytes_of_part k (inl got) whole = ap (λ (o : Option Answer). bytes_in o) got
  bytes_of_part k (inr cut) whole = absurd (false≢true (sym whole ∙ ap (λ (o : Option Answer). is_cut o) cut))

  neither : (a b : Bool) → (a || b) ≡ false → (a ≡ false) × (b ≡ false)
  neither true b is = absurd (false≢true (sym is))
  neither false b is = (refl, is)

  bytes_joined : (m n : ℕ) → AreResults m n → list_any is_cut (map res (range_with_len m n)) ≡ false →
      flat_map bytes_in (map res (range_with_len m n)) ≡ flat_map P (range_with_len m n)
  bytes_joined m zero are whole = refl
  bytes_joined m (suc n) are whole =
      let both = neither (is_cut (res m)) (list_any is_cut (map res (range_with_len (m + 1) n))) whole in
      ap (λ (xs : List ℕ). xs ++ flat_map bytes_in (map res (range_with_len (m + 1) n)))
      (bytes_of_part m (are m (omega arith) (omega arith)) both.0)
      ∙ ap (λ (xs : List ℕ). P m ++ xs) (bytes_joined (m + 1) n (later m n are) both.1)

  pub shows_joined : (tag n : ℕ) (body : List ℕ) → AreResults 0 n → flat_map P (range_with_len 0 n) ≡ body →
      ShowsBody from tag body (received from tag (map res (range_with_len 0 n)))
  shows_joined tag n body are joined = by_cut (list_any is_cut (map res (range_with_len 0 n))) refl
    where
      total : sum_by len_in (map res (range_with_len 0 n)) ≡ length body
      total = sum_of 0 n are ∙ ap (λ (xs : List ℕ). length xs) joined

      by_cut : (b : Bool) → list_any is_cut (map res (range_with_len 0 n)) ≡ b →
          ShowsBody from tag body
          (cond b (codes "cut" ∷ decimal from ∷ decimal tag ∷ decimal (sum_by len_in (map res (range_with_len 0 n))) ∷
          [])
          (codes "got" ∷ decimal from ∷ decimal tag ∷ decimal (sum_by len_in (map res (range_with_len 0 n)))
          ∷ (codes "x" ++ encode_lower (flat_map bytes_in (map res (range_with_len 0 n)))) ∷ []))
      by_cut true cut = inr (ap (λ (x : ℕ). codes "cut" ∷ decimal from ∷ decimal tag ∷ decimal x ∷ []) total)
      by_cut false whole =
          inl (ap (λ (x : ℕ). codes "got" ∷ decimal from ∷ decimal tag ∷ decimal x
          ∷ (codes "x" ++ encode_lower (flat_map bytes_in (map res (range_with_len 0 n)))) ∷ []) total
          ∙ ap (λ (xs : List ℕ). codes "got" ∷ decimal from ∷ decimal tag ∷ decimal (length body) ∷
          (codes "x" ++ encode_lower xs) ∷ [])
          (bytes_joined 0 n are whole ∙ joined))

-- the parts of a body, joined, are the body
pub body_joined : (parts : Option ℕ) (body : List ℕ) → 0 < unwrap_or parts 1 →
    flat_map (λ (k : ℕ). part_bytes parts k body) (range_with_len 0 (unwrap_or parts 1)) ≡ body
body_joined None body some = append-nil body
body_joined (Some n) body some = parts_join n body some
