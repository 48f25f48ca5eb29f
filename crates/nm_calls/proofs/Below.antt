-- Histories all of whose events are of lines below one.
use Rattle.std.proofs.Common.{◌≡◌, ℕ, ◌<◌, true, Option, List, [], ◌∷◌, ◌++◌, refl, ap, ◌∙◌}
use Rattle.std.specs.Prelude.{nat_lt}
use Rattle.std.proofs.lemmas.Bool.Decides.{nat_tests}
use Rattle.std.proofs.Common.{arith}
use Rattle.nm_types.proofs.TruthLemmas.{and_left, and_right, both}
use Rattle.nm_history.specs.declared.events.Event.{Event}
use Rattle.nm_history.specs.AtEach.{AtEach, AtEachAfter, in_turn, in_turn_after}
use Rattle.nm_process.specs.Work.{are_below, line_of}

pub below_is : (x y : ℕ) → nat_lt x y ≡ true → x < y
below_is x y h = grind (arith, nat_tests)

module _ (b : ℕ) where
  abbrev IsLow : Event → Type 0
  IsLow e = nat_lt (line_of e.what) b ≡ true

  abbrev AreLow : List Event → Type 0
  AreLow h = are_below b h ≡ true

  pub low_first : (e : Event) (h : List Event) → AreLow (e ∷ h) → IsLow e
  low_first e h low = and_left (nat_lt (line_of e.what) b) (are_below b h) low

  pub low_rest : (e : Event) (h : List Event) → AreLow (e ∷ h) → AreLow h
  low_rest e h low = and_right (nat_lt (line_of e.what) b) (are_below b h) low

  low_more : (e : Event) (h : List Event) → IsLow e → AreLow h → AreLow (e ∷ h)
  low_more e h here low = both (nat_lt (line_of e.what) b) (are_below b h) here low

  pub low_front : (xs ys : List Event) → AreLow (xs ++ ys) → AreLow xs
  low_front [] ys low = refl
  low_front (x ∷ xs) ys low =
      low_more x xs (low_first x (xs ++ ys) low) (low_front xs ys (low_rest x (xs ++ ys) low))

  pub low_back : (xs ys : List Event) → AreLow (xs ++ ys) → AreLow ys
  low_back [] ys low = low
  low_back (x ∷ xs) ys low = low_back xs ys (low_rest x (xs ++ ys) low)

  pub low_both : (xs ys : List Event) → AreLow xs → AreLow ys → AreLow (xs ++ ys)
  low_both [] ys one two = two
  low_both (x ∷ xs) ys one two =
      low_more x (xs ++ ys) (low_first x xs one) (low_both xs ys (low_rest x xs one) two)

  low_push : (xs : List Event) (e : Event) → AreLow xs → IsLow e → AreLow (xs ++ e ∷ [])
  low_push xs e low here = low_both xs (e ∷ []) low (low_more e [] here refl)

  -- what is true at each event, where one follows from the other at these
  module _ (R S : List Event → Event → Type 0)
      (step : (before : List Event) (e : Event) → AreLow before → IsLow e → R before e → S before e) where
    pub after_low : (before events : List Event) → AreLow before → AreLow events → AtEachAfter R before events →
        AtEachAfter S before events
    after_low before [] past low each = tt
    after_low before (e ∷ events) past low each = (
      step before e past (low_first e events low) each.0,
      after_low (before ++ e ∷ []) events (low_push before e past (low_first e events low)) (low_rest e events low)
          each.1,
    )

    pub each_low : (h : List Event) → AreLow h → AtEach R h → AtEach S h
    unfolding AtEach
    each_low h low each = after_low [] h refl low each

  -- what events give in turn, where two give the same at these
  module _ {X : Type 0} (f g : List Event → Event → List X)
      (step : (before : List Event) (e : Event) → AreLow before → IsLow e → f before e ≡ g before e) where
    turn_after : (before events : List Event) → AreLow before → AreLow events →
        in_turn_after f before events ≡ in_turn_after g before events
    turn_after before [] past low = refl
    turn_after before (e ∷ events) past low =
        ap (λ (xs : List X). xs ++ in_turn_after f (before ++ e ∷ []) events)
        (step before e past (low_first e events low))
        ∙ ap (λ (xs : List X). g before e ++ xs)
        (turn_after (before ++ e ∷ []) events (low_push before e past (low_first e events low))
        (low_rest e events low))

    pub turn_low : (h : List Event) → AreLow h → in_turn f h ≡ in_turn g h
    unfolding in_turn
    turn_low h low = turn_after [] h refl low
