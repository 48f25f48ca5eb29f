-- The first event by which a receive took a message.
use Rattle.std.proofs.Common.{◌≡◌, ◌⊎◌, inl, inr, ℕ, ◌+◌, ◌<◌, ◌≤◌, true, false, Option, Some, None, List, length, take}
use Rattle.std.proofs.Common.{sym, ◌∙◌, ap, arith}
use Rattle.std.proofs.lemmas.Bool.{cases_lt, false≢true}
use Rattle.std.proofs.lemmas.Bool.Decides.{nat_tests}
use Rattle.std.proofs.lemmas.List.{take_all}
use Rattle.std.specs.Prelude.{nat_lt}
use Rattle.std.specs.Option.{option_map_or}
use Rattle.nm_history.specs.declared.events.Event.{Event}
use Rattle.nm_history.specs.Completion.{is_taken}
use Rattle.nm_check_rank.specs.Takes.{IsTakenAt}

not_below : (t : ℕ) → nat_lt t t ≡ false
not_below t = grind (arith, nat_tests)

next_above : (t : ℕ) → nat_lt t (t + 1) ≡ true
next_above t = grind (arith, nat_tests)

-- a place before which it is not taken, and behind which it is, is inside
inside_of : (h : List Event) (from n t : ℕ) → is_taken (take t h) from n ≡ false →
    is_taken (take (t + 1) h) from n ≡ true → t < length h
inside_of h from n t early late = by_order (cases_lt t (length h))
  where
    by_order : (t < length h) ⊎ (length h ≤ t) → t < length h
    by_order (inl low) = low
    by_order (inr over) =
        let same : take t h ≡ take (t + 1) h =
        take_all t h over ∙ sym (take_all (t + 1) h (omega (arith, over))) in
        absurd (false≢true (sym early ∙ ap (λ (g : List Event). is_taken g from n) same ∙ late))

-- it is the place of the first event by which it is taken
pub taken_found : (h : List Event) (from n : ℕ) (found : Option ℕ) →
    ((k : ℕ) → option_map_or (λ t. nat_lt t k) found false ≡ is_taken (take k h) from n) → IsTakenAt h from n found
taken_found h from n None tells =
    sym (tells (length h) ∙ ap (λ (g : List Event). is_taken g from n) (take_all (length h) h (omega arith)))
taken_found h from n (Some t) tells =
    let early : is_taken (take t h) from n ≡ false = sym (tells t) ∙ not_below t in
    let late : is_taken (take (t + 1) h) from n ≡ true = sym (tells (t + 1)) ∙ next_above t in
    record {
      inside = inside_of h from n t early late;
      kept = early;
      broken = λ none. false≢true (sym none ∙ late);
    }
