-- The events of one kind since the last answer, one event after another.
use Rattle.std.proofs.Common.{◌≡◌, ℕ, ◌+◌, ◌≤◌, Bool, true, false, cond, Option, Some, None, List, [], ◌∷◌, ◌++◌}
use Rattle.std.proofs.Common.{length, take, refl, sym, ◌∙◌, ap, subst, arith, length-append}
use Rattle.std.specs.Prelude.{IsSomeAnd}
use Rattle.std.specs.List.{filter, slice_get}
use Rattle.std.proofs.lemmas.List.Elements.{filter-append}
use Rattle.std.proofs.lemmas.Option.{get_or_from_slice_get, slice_get_within}
use Rattle.nm_types.specs.declared.answers.Answer.{Answer}
use Rattle.nm_history.specs.declared.events.Event.{Event}
use Rattle.nm_history.specs.declared.events.Happened.{Happened}
use Rattle.nm_history.specs.declared.events.Happened.TheVariants.{Ran}
use Rattle.nm_history.specs.RankRun.{since_after, since_command}
use Rattle.nm_history.proofs.RankRunLemmas.{since-push}
use Rattle.nm_lookups.specs.SinceAnswer.{IsSince, of_kind}
use Rattle.nm_lookups.specs.declared.asked.since.Since.{Since}
use Rattle.nm_lookups.specs.declared.asked.since.Since.TheVariants.{Nothing, One, More}
use Rattle.nm_types.proofs.ListLemmas.{take_next}

since_more : (since : List Happened) (what : Happened) → ((line : ℕ) (answer : Answer) → what ≡ Ran line answer → ⊥) →
    since_after since what ≡ since ++ what ∷ []
since_more since (Ran line answer) not = absurd (not line answer refl)
since_more since what not = refl

-- where there is not nothing, there is at least one
at_least_one : (p : Happened → Bool) (h : List Event) (k : ℕ) (since : Since) → (since ≡ Nothing → ⊥) →
    IsSince p h k since → 1 ≤ length (of_kind p (take k h))
at_least_one p h k Nothing some before = absurd (some refl)
at_least_one p h k (One t) some before = by_event (slice_get h t) before
  where
    by_event : (o : Option Event) → IsSomeAnd o (λ e. of_kind p (take k h) ≡ e.what ∷ []) →
        1 ≤ length (of_kind p (take k h))
    by_event None before = absurd before
    by_event (Some x) before = let one : length (of_kind p (take k h)) ≡ 1 = ap length before in omega (arith, one)
at_least_one p h k More some before = omega (arith, before)

pub some_since : (p : Happened → Bool) (h : List Event) (k : ℕ) (since : Since) → (since ≡ Nothing → ⊥) →
    IsSince p h k since → of_kind p (take k h) ≡ [] → ⊥
some_since p h k since some before none =
    let least : 1 ≤ length (of_kind p (take k h)) = at_least_one p h k since some before in
    let empty : length (of_kind p (take k h)) ≡ 0 = ap length none in
    omega (arith, least, empty)

module _ (p : Happened → Bool) (h : List Event) (k : ℕ) (e : Event) (here : slice_get h k ≡ Some e) where
  next : take (k + 1) h ≡ take k h ++ e ∷ []
  next = take_next h k e (slice_get_within h k e here) (sym (get_or_from_slice_get h k e e here))

  -- after an answer there is none
  pub since_answer : (line : ℕ) (answer : Answer) → e.what ≡ Ran line answer → IsSince p h (k + 1) Nothing
  since_answer line answer is =
      ap (λ (g : List Event). of_kind p g) next ∙ ap (λ (xs : List Happened). filter p xs) (since-push (take k h) e)
      ∙ ap (λ (what : Happened). filter p (since_after (since_command (take k h)) what)) is

  more : ((line : ℕ) (answer : Answer) → e.what ≡ Ran line answer → ⊥) →
      of_kind p (take (k + 1) h) ≡ of_kind p (take k h) ++ cond (p e.what) (e.what ∷ []) []
  more not =
      ap (λ (g : List Event). of_kind p g) next ∙ ap (λ (xs : List Happened). filter p xs)
      (since-push (take k h) e ∙ since_more (since_command (take k h)) e.what not)
      ∙ filter-append p (since_command (take k h)) (e.what ∷ [])

  nil_behind : {X : Type 0} (xs : List X) → xs ++ [] ≡ xs
  nil_behind [] = refl
  nil_behind {X = X} (x ∷ xs) = ap (λ (ys : List X). x ∷ ys) (nil_behind xs)

  -- another event leaves them
  pub since_other : (since : Since) → ((line : ℕ) (answer : Answer) → e.what ≡ Ran line answer → ⊥) → p e.what ≡ false →
      IsSince p h k since → IsSince p h (k + 1) since
  since_other since not other before =
      let same : of_kind p (take (k + 1) h) ≡ of_kind p (take k h) =
      more not ∙ ap (λ (b : Bool). of_kind p (take k h) ++ cond b (e.what ∷ []) []) other
      ∙ nil_behind (of_kind p (take k h)) in
      by_kind since same before
    where
      by_kind : (since : Since) → of_kind p (take (k + 1) h) ≡ of_kind p (take k h) → IsSince p h k since →
          IsSince p h (k + 1) since
      by_kind Nothing same before = same ∙ before
      by_kind (One t) same before = by_event (slice_get h t) before
        where
          by_event : (o : Option Event) → IsSomeAnd o (λ e. of_kind p (take k h) ≡ e.what ∷ []) →
              IsSomeAnd o (λ e. of_kind p (take (k + 1) h) ≡ e.what ∷ [])
          by_event None before = absurd before
          by_event (Some x) before = same ∙ before
      by_kind More same before = subst (λ (xs : List Happened). 2 ≤ length xs) (sym same) before

  one_longer : ((line : ℕ) (answer : Answer) → e.what ≡ Ran line answer → ⊥) → p e.what ≡ true →
      of_kind p (take (k + 1) h) ≡ of_kind p (take k h) ++ e.what ∷ []
  one_longer not counts = more not ∙ ap (λ (b : Bool). of_kind p (take k h) ++ cond b (e.what ∷ []) []) counts

  -- the first of the kind
  pub since_first : ((line : ℕ) (answer : Answer) → e.what ≡ Ran line answer → ⊥) → p e.what ≡ true →
      IsSince p h k Nothing → IsSince p h (k + 1) (One k)
  since_first not counts before =
      subst (λ (o : Option Event). IsSomeAnd o (λ x. of_kind p (take (k + 1) h) ≡ x.what ∷ [])) (sym here)
      (one_longer not counts ∙ ap (λ (xs : List Happened). xs ++ e.what ∷ []) before)

  -- a further one
  pub since_further : (since : Since) → ((line : ℕ) (answer : Answer) → e.what ≡ Ran line answer → ⊥) →
      p e.what ≡ true → (since ≡ Nothing → ⊥) →
      IsSince p h k since → IsSince p h (k + 1) More
  since_further since not counts some before =
      let longer : length (of_kind p (take (k + 1) h)) ≡ length (of_kind p (take k h)) + 1 =
      ap length (one_longer not counts) ∙ length-append (of_kind p (take k h)) (e.what ∷ []) in
      let least : 1 ≤ length (of_kind p (take k h)) = at_least_one p h k since some before in
      omega (arith, longer, least)
