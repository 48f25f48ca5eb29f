-- A script is plain where no place has a command that isn't.
use Rattle.std.proofs.Common.{◌≡◌, ℕ, ◌+◌, Bool, true, false, not, ◌&&◌, cond, ltb, Some, None, List, [], ◌∷◌, length}
use Rattle.std.proofs.Common.{refl, sym, ◌∙◌, ap, arith}
use Rattle.std.specs.Prelude.{suc}
use Rattle.std.specs.List.{list_all, position, position_or_len}
use Rattle.std.proofs.lemmas.Bool.Decides.{nat_tests}
use Rattle.nm_types.proofs.OptionLemmas.{no_some}

-- the first place that fails is past the end just where none fails
fails_below : {X : Type 0} (p : X → Bool) (xs : List X) → ltb (position_or_len (λ x. not (p x)) xs) (length xs) ≡ not
    (list_all p xs)
fails_below p [] = refl
fails_below p (x ∷ xs) = by_test (p x) (position_or_len (λ x. not (p x)) xs) (length xs) (fails_below p xs)
  where
    more : (m n : ℕ) (b : Bool) → ltb m n ≡ b → ltb (1 + m) (suc n) ≡ b
    more m n b is = sym (shift m n) ∙ is
      where
        shift : (m n : ℕ) → ltb m n ≡ ltb (1 + m) (suc n)
        shift m n = grind (arith, nat_tests)

    here : (n : ℕ) → ltb 0 (suc n) ≡ true
    here n = grind (arith, nat_tests)

    by_test : (b : Bool) (m n : ℕ) → ltb m n ≡ not (list_all p xs) →
        ltb (cond (not (not b)) (1 + m) 0) (suc n) ≡ not (b && list_all p xs)
    by_test true m n later = more m n (not (list_all p xs)) later
    by_test false m n later = here n

pub none_fails : {X : Type 0} (p : X → Bool) (xs : List X) → position (λ x. not (p x)) xs ≡ None → list_all p xs ≡ true
none_fails p xs none =
    by_test (list_all p xs) (position_or_len (λ x. not (p x)) xs)
    (sym (ap (λ (b : Bool). cond b (Some (position_or_len (λ x. not (p x)) xs)) None) (fails_below p xs)) ∙ none)
  where
    by_test : (b : Bool) (k : ℕ) → cond (not b) (Some k) None ≡ None → b ≡ true
    by_test true k none = refl
    by_test false k none = absurd (no_some k (sym none))

pub some_fails : {X : Type 0} (p : X → Bool) (xs : List X) (k : ℕ) → position (λ x. not (p x)) xs ≡ Some k →
    list_all p xs ≡ false
some_fails p xs k some =
    by_test (list_all p xs) (position_or_len (λ x. not (p x)) xs)
    (sym (ap (λ (b : Bool). cond b (Some (position_or_len (λ x. not (p x)) xs)) None) (fails_below p xs)) ∙ some)
  where
    by_test : (b : Bool) (m : ℕ) → cond (not b) (Some m) None ≡ Some k → b ≡ false
    by_test true m some = absurd (no_some k some)
    by_test false m some = refl
