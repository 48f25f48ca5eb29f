-- What is earlier than a stamp, by the place where it happened first.
use Rattle.std.proofs.Common.{◌≡◌, ◌⊎◌, inl, inr, ℕ, zero, suc, ◌+◌, ◌<◌, ◌≤◌, Bool, true, false, cond, Option, Some}
use Rattle.std.proofs.Common.{None, List, [], ◌∷◌, ◌++◌}
use Rattle.std.proofs.Common.{length, take, refl, sym, ◌∙◌, ap, subst, arith, length-append, slice_get}
use Rattle.std.specs.Prelude.{nat_lt, position}
use Rattle.std.specs.List.{AllByRecursion, list_any}
use Rattle.std.specs.Option.{option_map_or}
use Rattle.std.proofs.lemmas.Bool.{cases_lt}
use Rattle.std.proofs.lemmas.Bool.Decides.{nat_tests}
use Rattle.std.proofs.lemmas.List.Quantifiers.{position-Some}
use Rattle.std.proofs.lemmas.Option.{slice_get-get_or}
use Rattle.std.proofs.Math.Seq.{take-append_seam}
use Rattle.nm_history.specs.declared.events.Event.{Event}
use Rattle.nm_history.specs.declared.events.Happened.TheVariants.{Out}
use Rattle.nm_history.specs.AtEach.{AtEach}
use Rattle.nm_history.specs.Completion.{is_taken}
use Rattle.nm_history.specs.Delivery.{earlier_than}
use Rattle.nm_history.specs.RankRun.{StampAt}
use Rattle.nm_history.proofs.EarlierLemmas.{earlier_is_front}
use Rattle.nm_lookups.proofs.FirstLemmas.{first_before}

late_rest : (s : ℕ) (rest : List Event) (t : ℕ) (e : Event) → slice_get rest t ≡ Some e →
    AllByRecursion (λ (x : Event). s ≤ x.stamp) rest → s ≤ e.stamp
late_rest s [] t e here late = absurd (grind arith)
late_rest s (x ∷ rest) zero e here late = let same : x ≡ e = cc in subst (λ (y : Event). s ≤ y.stamp) same late.0
late_rest s (x ∷ rest) (suc t) e here late = late_rest s rest t e here late.1

is_late : (s m : ℕ) → s ≤ m → nat_lt m s ≡ false
is_late s m low = grind (arith, nat_tests)

is_low : (s m : ℕ) → m < s → nat_lt m s ≡ true
is_low s m low = grind (arith, nat_tests)

next_place : (t n : ℕ) → nat_lt t n ≡ nat_lt (suc t) (suc n)
next_place t n = grind (arith, nat_tests)

-- an element of a front and its rest is of the front exactly where it is early
in_front : (s : ℕ) (front rest : List Event) (t : ℕ) (e : Event) → slice_get (front ++ rest) t ≡ Some e →
    AllByRecursion (λ (x : Event). x.stamp < s) front → AllByRecursion (λ (x : Event). s ≤ x.stamp) rest →
    nat_lt e.stamp s ≡ nat_lt t (length front)
in_front s [] rest t e here early late =
    is_late s e.stamp (late_rest s rest t e here late) ∙ sym (is_late 0 t (omega arith))
in_front s (x ∷ front) rest zero e here early late =
    let same : x ≡ e = cc in
    subst (λ (y : Event). nat_lt y.stamp s ≡ nat_lt 0 (length (x ∷ front))) same
    (is_low s x.stamp early.0 ∙ sym (is_low (length (x ∷ front)) 0 (omega arith)))
in_front s (x ∷ front) rest (suc t) e here early late =
    in_front s front rest t e here early.1 late ∙ next_place t (length front)

all_early_at : (s : ℕ) (e : Event) (events : List Event) (b : Bool) → nat_lt e.stamp s ≡ b →
    AllByRecursion (λ (x : Event). x.stamp < s) events → AllByRecursion (λ (x : Event). x.stamp < s)
    (cond b (e ∷ events) events)
all_early_at s e events true is early = (grind (arith, nat_tests), early)
all_early_at s e events false is early = early

all_early : (s : ℕ) (h : List Event) → AllByRecursion (λ (x : Event). x.stamp < s) (earlier_than s h)
all_early s [] = tt
all_early s (e ∷ h) = all_early_at s e (earlier_than s h) (nat_lt e.stamp s) refl (all_early s h)

early_by : (p : Event → Bool) (s : ℕ) (h : List Event) (o : Option ℕ) → AtEach (λ b e. StampAt b e.stamp) h →
    position p h ≡ o → option_map_or (λ t. nat_lt t (length (earlier_than s h))) o false ≡ list_any p (earlier_than s h)
early_by p s h o rising first =
    let front = earlier_is_front s h rising in
    let taken : take (length (earlier_than s h)) h ≡ earlier_than s h =
    ap (λ (g : List Event). take (length (earlier_than s h)) g) front.1 ∙ take-append_seam (earlier_than s h) front.0 in
    ap (λ (q : Option ℕ). option_map_or (λ t. nat_lt t (length (earlier_than s h))) q false) (sym first)
    ∙ first_before p (length (earlier_than s h)) h ∙ ap (λ (g : List Event). list_any p g) taken

-- something of a first place is earlier than a stamp exactly where that place is
pub place_is_earlier : (p : Event → Bool) (s : ℕ) (h : List Event) (t : ℕ) (e : Event) →
    AtEach (λ b e. StampAt b e.stamp) h →
    position p h ≡ Some t → slice_get h t ≡ Some e → nat_lt e.stamp s ≡ list_any p (earlier_than s h)
place_is_earlier p s h t e rising first here =
    let front = earlier_is_front s h rising in
    in_front s (earlier_than s h) front.0 t e (subst (λ (g : List Event). slice_get g t ≡ Some e) front.1 here)
    (all_early s h) front.2
    ∙ early_by p s h (Some t) rising first

-- what never happened is not earlier
pub never_is_earlier : (p : Event → Bool) (s : ℕ) (h : List Event) → AtEach (λ b e. StampAt b e.stamp) h →
    position p h ≡ None → false ≡ list_any p (earlier_than s h)
never_is_earlier p s h rising first = early_by p s h None rising first

-- .. by the answer for the event that is there
pub first_is_earlier : (p : Event → Bool) (s : ℕ) (h : List Event) (t : ℕ) (r : Bool) →
    AtEach (λ b e. StampAt b e.stamp) h →
    position p h ≡ Some t → ((e : Event) → slice_get h t ≡ Some e → r ≡ nat_lt e.stamp s) →
    r ≡ list_any p (earlier_than s h)
first_is_earlier p s h t r rising first answers = by_event (slice_get h t) refl
  where
    by_event : (o : Option Event) → slice_get h t ≡ o → r ≡ list_any p (earlier_than s h)
    by_event (Some e) here = answers e here ∙ place_is_earlier p s h t e rising first here
    by_event None gone =
        let none : Event = record { stamp = 0; what = Out 0 0 } in
        let inside : t < length h = (position-Some p h t none first).0 in
        let there = slice_get-get_or h t none inside in cc

taken_front : (s : ℕ) (h : List Event) → AtEach (λ b e. StampAt b e.stamp) h → take (length (earlier_than s h)) h
    ≡ earlier_than s h
taken_front s h rising =
    let front = earlier_is_front s h rising in
    ap (λ (g : List Event). take (length (earlier_than s h)) g) front.1 ∙ take-append_seam (earlier_than s h) front.0

few_earlier : (s : ℕ) (h : List Event) → AtEach (λ b e. StampAt b e.stamp) h → length (earlier_than s h) ≤ length h
few_earlier s h rising =
    let front = earlier_is_front s h rising in
    let both : length h ≡ length (earlier_than s h) + length front.0 = ap length front.1
    ∙ length-append (earlier_than s h) front.0 in
    omega (arith, both)

not_low : (t m : ℕ) → m ≤ t → false ≡ nat_lt t m
not_low t m high = let late : nat_lt t m ≡ false = is_late m t high in sym late

-- a message that was paired at a place is paired earlier than a stamp exactly where that place is earlier
pub taken_is_earlier : (s : ℕ) (h : List Event) (rank n t : ℕ) (r : Bool) → AtEach (λ b e. StampAt b e.stamp) h →
    ((k : ℕ) → nat_lt t k ≡ is_taken (take k h) rank n) →
    ((e : Event) → slice_get h t ≡ Some e → r ≡ nat_lt e.stamp s) → (length h ≤ t → r ≡ false) →
    r ≡ is_taken (earlier_than s h) rank n
taken_is_earlier s h rank n t r rising taken there past = by_event (slice_get h t) refl (cases_lt t (length h))
  where
    by_event : (o : Option Event) → slice_get h t ≡ o → (t < length h) ⊎ (length h ≤ t) →
        r ≡ is_taken (earlier_than s h) rank n
    by_event (Some e) here inside =
        let front = earlier_is_front s h rising in
        there e here
        ∙ in_front s (earlier_than s h) front.0 t e (subst (λ (g : List Event). slice_get g t ≡ Some e) front.1 here)
        (all_early s h) front.2
        ∙ taken (length (earlier_than s h)) ∙ ap (λ (g : List Event). is_taken g rank n) (taken_front s h rising)
    by_event None here (inr over) =
        past over ∙ not_low t (length (earlier_than s h)) (let few = few_earlier s h rising in omega (arith, few, over))
        ∙ taken (length (earlier_than s h)) ∙ ap (λ (g : List Event). is_taken g rank n) (taken_front s h rising)
    by_event None here (inl inside) =
        let none : Event = record { stamp = 0; what = Out 0 0 } in
        let there = slice_get-get_or h t none inside in cc

pub never_taken_earlier : (s : ℕ) (h : List Event) (rank n : ℕ) → AtEach (λ b e. StampAt b e.stamp) h →
    ((k : ℕ) → false ≡ is_taken (take k h) rank n) → false ≡ is_taken (earlier_than s h) rank n
never_taken_earlier s h rank n rising never =
    never (length (earlier_than s h)) ∙ ap (λ (g : List Event). is_taken g rank n) (taken_front s h rising)
