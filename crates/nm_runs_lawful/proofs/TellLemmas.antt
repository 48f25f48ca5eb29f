-- A report of what ranks tell has their answers, each at its line's place.
use Rattle.std.proofs.Common.{◌≡◌, ℕ, zero, suc, ◌+◌, ◌<◌, ◌≤◌, Option, Some, None, length, map}
use Rattle.std.proofs.Common.{◌⊎◌, inl, inr, refl, sym, ◌∙◌, ap, arith}
use Rattle.std.specs.Prelude.{option_and_then, option_map}
use Rattle.std.specs.List.{range_with_len, slice_get}
use Rattle.std.proofs.lemmas.Bool.{cases_lt}
use Rattle.nm_types.specs.declared.answers.Answer.{Answer}
use Rattle.nm_types.specs.declared.scripts.Line.{Line}
use Rattle.nm_types.proofs.ListLemmas.{place_below}
use Rattle.nm_history.specs.Quiescence.{history_of}
use Rattle.nm_lawful.specs.declared.moves.Said.{Said}
use Rattle.nm_lawful.specs.Moves.{counted_lem, told_at_lem}
use Rattle.nm_runs_lawful.specs.Runs.{RanksAreTold, answer_at, answer_in, told_of}

-- the places of a list that is made of a range
at_range : {X : Type 0} (f : ℕ → X) (start n k : ℕ) → k < n →
    slice_get (map f (range_with_len start n)) k ≡ Some (f (start + k))
at_range f start zero k low = absurd (omega (arith, low))
at_range f start (suc n) zero low = ap (λ (k : ℕ). Some (f k)) (omega arith)
at_range f start (suc n) (suc k) low =
    at_range f (start + 1) n k (omega (arith, low)) ∙ ap (λ (k : ℕ). Some (f k)) (omega arith)

past_range : {X : Type 0} (f : ℕ → X) (start n k : ℕ) → n ≤ k → slice_get (map f (range_with_len start n)) k ≡ None
past_range f start zero k past = refl
past_range f start (suc n) zero past = absurd (omega (arith, past))
past_range f start (suc n) (suc k) past = past_range f (start + 1) n k (omega (arith, past))

pub ranks_are_told : RanksAreTold
ranks_are_told lines ranks = record { said = said; waits = refl }
  where
    told_so : ℕ → Option Said
    told_so place = option_map (λ (a : Answer). record { answer = a; at = place }) (answer_at lines ranks place)

    counts : (place : ℕ) (o : Option Answer) →
        option_and_then (counted_lem None) (option_map (λ (a : Answer). record { answer = a; at = place }) o) ≡ o
    counts place None = refl
    counts place (Some a) = refl

    past_all : (place : ℕ) → length lines ≤ place → (o : Option Line) → slice_get lines place ≡ o →
        option_and_then (λ l. answer_in (place + 2) (history_of ranks l.rank)) o ≡ None
    past_all place past None at = refl
    past_all place past (Some l) at = let low = place_below lines place l at in absurd (omega (arith, past, low))

    by_place : (place : ℕ) → (place < length lines) ⊎ (length lines ≤ place) →
        told_at_lem (told_of lines ranks) None place ≡ answer_at lines ranks place
    by_place place (inl low) =
        ap (λ (o : Option (Option Said)). option_and_then (λ o. option_and_then (counted_lem None) o) o)
        (at_range told_so 0 (length lines) place low ∙ ap (λ (k : ℕ). Some (told_so k)) (zero_add place))
        ∙ counts place (answer_at lines ranks place)
      where
        zero_add : (n : ℕ) → 0 + n ≡ n
        zero_add n = omega arith
    by_place place (inr past) =
        ap (λ (o : Option (Option Said)). option_and_then (λ o. option_and_then (counted_lem None) o) o)
        (past_range told_so 0 (length lines) place past)
        ∙ sym (past_all place past (slice_get lines place) refl)

    said : (place : ℕ) → told_at_lem (told_of lines ranks) None place ≡ answer_at lines ranks place
    said place = by_place place (cases_lt place (length lines))
