-- The messages of one sender come in the order of their numbers, so the first that is found is the first of its sender.
-- MPI 3.1, 3.5.
use Rattle.std.proofs.Common.{◌≡◌, ◌⊎◌, ℕ, ◌<◌, Bool, true, false, cond, Option, Some, None, List, [], ◌∷◌}
use Rattle.std.proofs.Common.{◌++◌, length, inl, inr, refl, sym, ◌∙◌, ap, subst, arith, append-nil}
use Rattle.std.specs.Prelude.{All, Contains}
use Rattle.std.specs.List.{cons_option, find}
use Rattle.std.proofs.Math.Dec.{ltb}
use Rattle.std.proofs.lemmas.Bool.Decides.{nat_tests}
use Rattle.std.proofs.lemmas.List.Elements.{All-cons, All-contains, All-nil, Contains-push_cases}
use Rattle.nm_types.specs.declared.messages.Arrival.{Arrival}
use Rattle.nm_types.proofs.OptionLemmas.{no_some, same_some}
use Rattle.nm_history.specs.declared.events.Event.{Event}
use Rattle.nm_history.specs.declared.events.Happened.{Happened}
use Rattle.nm_history.specs.declared.events.Happened.TheVariants as event
use Rattle.nm_history.specs.AtEach.{AtEach}
use Rattle.nm_history.specs.RankRun.{NumberAt}
use Rattle.nm_history.specs.Sends.{arrival_of, arrivals, messages}
use Rattle.nm_history.proofs.OnceLemmas.{messages-push}
use Rattle.nm_history.proofs.SelectionLemmas.{find_contains}
use Rattle.nm_match.specs.Deeds.{is_known_message}
use Rattle.nm_outcomes.specs.Places.{or_else}
use Rattle.nm_outcomes.proofs.Bodies.{came_known}
use Rattle.nm_outcomes.proofs.HappenedLemmas.{history_induction}
use Rattle.nm_outcomes.proofs.PlaceLemmas.{find-append}

below : (a b : ℕ) → ltb a b ≡ true → a < b
below a b is = grind (arith, nat_tests)

-- an element that passes is found, or one before it
pub passes_found : {X : Type 0} (test : X → Bool) (xs : List X) (x : X) → find test xs ≡ None → Contains xs x →
    test x ≡ false
passes_found test xs x none inside =
    All-contains (λ y. test y ≡ false) xs x (none_pass test xs none) inside
  where
    none_pass : {X : Type 0} (test : X → Bool) (xs : List X) → find test xs ≡ None → All (λ y. test y ≡ false) xs
    none_pass test [] none = All-nil (λ y. test y ≡ false)
    none_pass {X} test (y ∷ ys) none = by_test (test y) refl none (none_pass test ys)
      where
        by_test : (b : Bool) → test y ≡ b → cond b (Some y) (find test ys) ≡ None →
            (find test ys ≡ None → All (λ y. test y ≡ false) ys) → All (λ y. test y ≡ false) (y ∷ ys)
        by_test true is none rest = absurd (no_some y (sym none))
        by_test false is none rest = All-cons (λ y. test y ≡ false) y ys is (rest none)

-- what is so of each message that came: its number, at each event
pub record IsNumbered (ranks : ℕ) (b : List Event) (what : Happened) : Type 0 where
  pub number : NumberAt ranks b what
  pub known : (from n : ℕ) → is_known_message b from n ≡ ltb n (length (arrivals b from))

abbrev pub AreFirst : (Arrival → Bool) → List Event → Type 0
AreFirst test h =
    (a a' : Arrival) → find test (messages h) ≡ Some a → Contains (messages h) a' → a'.env.from ≡ a.env.from →
    a'.n < a.n → test a' ≡ false

pub first_of_sender : (ranks : ℕ) (test : Arrival → Bool) (h : List Event) →
    AtEach (λ b e. IsNumbered ranks b e.what) h → AreFirst test h
first_of_sender ranks test h =
    history_induction (λ b e. IsNumbered ranks b e.what) (AreFirst test) grow
    (λ a a' found inside same low. absurd (no_some a found)) h
  where
    known_low : (b : List Event) (e : Event) → IsNumbered ranks b e.what → (x : Arrival) → Contains (messages b) x →
        x.n < length (arrivals b x.env.from)
    known_low b e numbered x inside =
        below x.n (length (arrivals b x.env.from)) (sym (numbered.known x.env.from x.n) ∙ came_known b x inside)

    grow : (b : List Event) (e : Event) → AreFirst test b → IsNumbered ranks b e.what → AreFirst test (b ++ e ∷ [])
    grow b e was numbered a a' found inside same low =
        by_event e.what refl
        (sym (ap (λ (xs : List Arrival). find test xs) (messages-push b e)) ∙ found)
        (subst (λ (xs : List Arrival). Contains xs a') (messages-push b e) inside)
      where
        by_last : (x : Arrival) → e.what ≡ event.Arrive x → (o : Option Arrival) → find test (messages b) ≡ o →
            or_else o (find test (x ∷ [])) ≡ Some a → (Contains (messages b) a') ⊎ (x ≡ a') → test a' ≡ false
        by_last x at (Some y) first found (inl front) = was a a' (first ∙ found) front same low
        by_last x at (Some y) first found (inr last) =
            let here : y ≡ a = same_some y a found in
            let early = known_low b e numbered a (find_contains test (messages b) a (first ∙ ap
            (λ (z : Arrival). Some z)
            here)) in
            let number : x.n ≡ length (arrivals b x.env.from) =
            (subst (λ (what : Happened). NumberAt ranks b what) at numbered.number).1 in
            let of_sender : length (arrivals b x.env.from) ≡ length (arrivals b a.env.from) =
            ap (λ (f : ℕ). length (arrivals b f)) (ap (λ (z : Arrival). z.env.from) last ∙ same) in
            let its : x.n ≡ a'.n = ap (λ (z : Arrival). z.n) last in
            absurd (omega (arith, early, number, of_sender, its, low))
        by_last x at None first found (inl front) = passes_found test (messages b) a' first front
        by_last x at None first found (inr last) =
            let here : x ≡ a = by_test (test x) found in
            let its : a.n ≡ a'.n = ap (λ (z : Arrival). z.n) (sym here ∙ last) in
            absurd (omega (arith, its, low))
          where
            by_test : (t : Bool) → cond t (Some x) None ≡ Some a → x ≡ a
            by_test true found = same_some x a found
            by_test false found = absurd (no_some a found)

        by_event : (what : Happened) → e.what ≡ what →
            find test (messages b ++ cons_option (arrival_of what) []) ≡ Some a →
            Contains (messages b ++ cons_option (arrival_of what) []) a' → test a' ≡ false
        by_event (event.Arrive x) at found inside =
            by_last x at (find test (messages b)) refl (sym (find-append test (messages b) (x ∷ [])) ∙ found)
            (Contains-push_cases (messages b) x a' inside)
        by_event what at found inside =
            was a a' (ap (λ (xs : List Arrival). find test xs) (sym (append-nil (messages b))) ∙ found)
            (subst (λ (xs : List Arrival). Contains xs a') (append-nil (messages b)) inside) same low
