-- What stands behind the items that were let go.
use Rattle.std.proofs.Common.{◌≡◌, ℕ, ◌+◌, ◌<◌, ◌≤◌, List, [], ◌∷◌, ◌++◌, length, Option, Some, None}
use Rattle.std.proofs.Common.{refl, sym, ◌∙◌, inl, inr, ◌⊎◌, arith, slice_get, get_or, drop, zero, suc}
use Rattle.std.proofs.Common.{true≢false}
use Rattle.std.specs.Option.{IfSome, IsSome, option_map}
use Rattle.std.proofs.lemmas.Bool.{cases_lt}
use Rattle.std.proofs.lemmas.Option.{slice_get_past, slice_get_read}

-- an item behind them has its number less how many they are
pub slice_get-behind : {T : Type 0} (past window : List T) (place n : ℕ) → n ≡ length past + place
    → slice_get (past ++ window) n ≡ slice_get window place
slice_get-behind [] window place n is = let same : n ≡ place = omega (arith, is) in rw same refl
slice_get-behind (x ∷ past) window place zero is = absurd (omega (arith, is))
slice_get-behind (x ∷ past) window place (suc n) is = slice_get-behind past window place n (omega (arith, is))

-- the same where the list is whole
pub slice_get-drop : {T : Type 0} (items : List T) (many place n : ℕ) → n ≡ many + place
    → slice_get (drop many items) place ≡ slice_get items n
slice_get-drop items zero place n is = let same : n ≡ place = omega (arith, is) in rw same refl
slice_get-drop [] (suc many) place n is = refl
slice_get-drop (x ∷ items) (suc many) place zero is = absurd (omega (arith, is))
slice_get-drop (x ∷ items) (suc many) place (suc n) is = slice_get-drop items many place n (omega (arith, is))

-- what is lent of the window is the item of the whole list
pub lent-behind : {T X : Type 0} (v : X → T) (past window : List T) (place n : ℕ) (o : Option X)
    → n ≡ length past + place → (IsSome o → place < length window) → (place < length window → IsSome o)
    → IfSome o (λ x. v x ≡ get_or window place (v x)) → option_map v o ≡ slice_get (past ++ window) n
lent-behind v past window place n None is within some read = by (cases_lt place (length window))
  where
    by : (place < length window) ⊎ (length window ≤ place) → None ≡ slice_get (past ++ window) n
    by (inl lt) = absurd (true≢false (sym (some lt)))
    by (inr le) = sym (slice_get-behind past window place n is ∙ slice_get_past window place le)
lent-behind v past window place n (Some x) is within some read =
    sym (slice_get-behind past window place n is
    ∙ slice_get_read window (length window) place (v x) refl (within refl) read)
