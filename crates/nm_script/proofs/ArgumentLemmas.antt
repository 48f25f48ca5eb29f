-- Words begin with one argument alone.
use Rattle.std.proofs.Common.{◌≡◌, ℕ, zero, suc, ◌≤◌, ◌<◌, ◌^◌, inl, inr, List, ◌∷◌, ◌++◌, get_or}
use Rattle.std.proofs.Common.{sym, ap, ◌∙◌, arith, codes, decimal, lit<}
use Rattle.std.proofs.lemmas.Fmt.{first_decimal, decimal_digit}
use Rattle.nm_script.specs.ArgumentWords.{IsOption}

-- a number begins with a digit
digit_first : (n : ℕ) → n < 2 ^ 64 → 48 ≤ get_or (decimal n) 0 0
digit_first zero small = let h = ap (λ ds. get_or ds 0 0) (decimal_digit 0 (lit< tt)) in omega (arith, h)
digit_first (suc n) small = let h = first_decimal (suc n) (omega arith) small in omega (arith, h)

no_dash : (n : ℕ) (word : List ℕ) → n < 2 ^ 64 → decimal n ≡ 45 ∷ word → ⊥
no_dash n word small h =
    let first = digit_first n small in
    let dash = ap (λ ds. get_or ds 0 0) h in
    omega (arith, first, dash)

-- an option is no number
pub no_number : (name : List ℕ) (words others rest : List (List ℕ)) (value n : ℕ) → n ≤ 65535 →
    IsOption (45 ∷ name) value words others → words ≡ decimal n ∷ rest → ⊥
no_number name words others rest value n small (inl h) is =
    let both : decimal n ∷ rest ≡ (45 ∷ name) ∷ decimal value ∷ others = sym is ∙ h in
    let same : decimal n ≡ 45 ∷ name = cc in
    no_dash n name (omega arith) same
no_number name words others rest value n small (inr h) is =
    let both : decimal n ∷ rest ≡ (((45 ∷ name) ++ codes "=") ++ decimal value) ∷ others = sym is ∙ h in
    let same : decimal n ≡ 45 ∷ ((name ++ codes "=") ++ decimal value) = cc in
    no_dash n _ (omega arith) same

-- words that are the same have the same third byte at their front
third : (word other : List ℕ) (words rest others : List (List ℕ)) → words ≡ word ∷ others → words ≡ other ∷ rest →
    get_or word 2 0 ≡ get_or other 2 0
third word other words rest others h is =
    let both : word ∷ others ≡ other ∷ rest = sym h ∙ is in
    let same : word ≡ other = cc in
    ap (λ w. get_or w 2 0) same

-- no word is two options
pub one_option : (words others rest : List (List ℕ)) (cells eager : ℕ) →
    IsOption (codes "--cells") cells words others → IsOption (codes "--eager") eager words rest → ⊥
one_option words others rest cells eager (inl h) (inl is) = let e = third _ _ words _ _ h is in omega (arith, e)
one_option words others rest cells eager (inl h) (inr is) = let e = third _ _ words _ _ h is in omega (arith, e)
one_option words others rest cells eager (inr h) (inl is) = let e = third _ _ words _ _ h is in omega (arith, e)
one_option words others rest cells eager (inr h) (inr is) = let e = third _ _ words _ _ h is in omega (arith, e)
