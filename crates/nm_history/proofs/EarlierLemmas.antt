-- What a rank had seen before a stamp is a front of its history, where stamps rise.
use Rattle.std.proofs.Common.{◌≡◌, ℕ, ◌+◌, ◌<◌, ◌≤◌, ◌⊎◌, inl, inr, Bool, true, false, ltb, List, [], ◌∷◌, ◌++◌}
use Rattle.std.proofs.Common.{refl}
use Rattle.std.proofs.Common.{ap, arith}
use Rattle.std.specs.List.{AllByRecursion}
use Rattle.std.proofs.lemmas.Bool.Decides.{nat_tests}
use Rattle.std.proofs.lemmas.List.Sums.{fold_push}
use Rattle.nm_history.specs.declared.events.Event.{Event}
use Rattle.nm_history.specs.AtEach.{AtEach, AtEachAfter}
use Rattle.nm_history.specs.Delivery.{earlier_than}
use Rattle.nm_history.specs.RankRun.{StampAt, last_stamp}

pub last_stamp-push : (h : List Event) (e : Event) → last_stamp (h ++ e ∷ []) ≡ e.stamp
last_stamp-push h e = fold_push (λ (stamp : ℕ) (e : Event). e.stamp) 0 h e

pub not_earlier : (m s : ℕ) → s ≤ m → ltb m s ≡ false
not_earlier m s low = grind (arith, nat_tests)

at_least : (m s : ℕ) → ltb m s ≡ false → s ≤ m
at_least m s late = grind (arith, nat_tests)

-- behind an event that isn't earlier none is
pub none_later : (s : ℕ) (before events : List Event) → s ≤ last_stamp before →
    AtEachAfter (λ b e. StampAt b e.stamp) before events →
    (earlier_than s events ≡ []) × AllByRecursion (λ (e : Event). s ≤ e.stamp) events
none_later s before [] low rising = (refl, tt)
none_later s before (e ∷ events) low rising =
    let next : last_stamp before < e.stamp = rising.0 in
    let here : s ≤ e.stamp = omega (arith, low, next) in
    let more = none_later s (before ++ e ∷ []) events (rw (last_stamp-push before e) here) rising.1 in
    (rw (not_earlier e.stamp s here) more.0, (here, more.1))

-- nor is one behind it as early as one higher
none_after : (s : ℕ) (before events : List Event) → s ≤ last_stamp before →
    AtEachAfter (λ b e. StampAt b e.stamp) before events → earlier_than (s + 1) events ≡ []
none_after s before [] low rising = refl
none_after s before (e ∷ events) low rising =
    let next : last_stamp before < e.stamp = rising.0 in
    let here : s + 1 ≤ e.stamp = omega (arith, low, next) in
    let same : s ≤ e.stamp = omega (arith, here) in
    let more = none_after s (before ++ e ∷ []) events (rw (last_stamp-push before e) same) rising.1 in
    rw (not_earlier e.stamp (s + 1) here) more

-- the earlier events, and then those that are not
abbrev pub HasFront : ℕ → List Event → Type 0
HasFront s events =
    (rest : List Event) × (events ≡ earlier_than s events ++ rest)
    × AllByRecursion (λ (e : Event). s ≤ e.stamp) rest

front_at : (s : ℕ) (before : List Event) (e : Event) (events : List Event) (b : Bool) → ltb e.stamp s ≡ b →
    AtEachAfter (λ b e. StampAt b e.stamp) (before ++ e ∷ []) events → HasFront s events →
    HasFront s (e ∷ events)
front_at s before e events true is rising later =
    (later.0, rw is (ap (λ (ks : List Event). e ∷ ks) later.1), later.2)
front_at s before e events false is rising later =
    let here : s ≤ e.stamp = at_least e.stamp s is in
    let more = none_later s (before ++ e ∷ []) events (rw (last_stamp-push before e) here) rising in
    (e ∷ events, rw (is, more.0) refl, (here, more.1))

front_after : (s : ℕ) (before events : List Event) → AtEachAfter (λ b e. StampAt b e.stamp) before events →
    HasFront s events
front_after s before [] rising = ([], refl, tt)
front_after s before (e ∷ events) rising =
    front_at s before e events (ltb e.stamp s) refl rising.1 (front_after s (before ++ e ∷ []) events rising.1)

pub earlier_is_front : (s : ℕ) (h : List Event) → AtEach (λ b e. StampAt b e.stamp) h → HasFront s h
unfolding AtEach
earlier_is_front s h rising = front_after s [] h rising

-- before a stamp one higher a rank had seen the same, or one event more
abbrev pub IsOneMore : ℕ → List Event → Type 0
IsOneMore s events =
    (earlier_than (s + 1) events ≡ earlier_than s events)
    ⊎ ((e : Event) × (rest : List Event) × (events ≡ earlier_than s events ++ e ∷ rest)
    × (earlier_than (s + 1) events ≡ earlier_than s events ++ e ∷ []))

data Order (m s : ℕ) : Type 0 where
  Below : (ltb m s ≡ true) → (ltb m (s + 1) ≡ true) → Order m s
  Here : (ltb m s ≡ false) → (ltb m (s + 1) ≡ true) → (s ≤ m) → (s + 1 ≤ m + 1) → Order m s
  Above : (ltb m s ≡ false) → (ltb m (s + 1) ≡ false) → (s ≤ m) → (s + 1 ≤ m) → Order m s

order : (m s : ℕ) → Order m s
order m s = by_first (ltb m s) refl (ltb m (s + 1)) refl
  where
    by_first : (b : Bool) → ltb m s ≡ b → (c : Bool) → ltb m (s + 1) ≡ c → Order m s
    by_first true low true next = Below low next
    by_first true low false next = absurd (let h = at_least m (s + 1) next in grind (arith, nat_tests))
    by_first false low true next = Here low next (at_least m s low) (let h = at_least m s low in omega (arith, h))
    by_first false low false next = Above low next (at_least m s low) (at_least m (s + 1) next)

one_at : (s : ℕ) (before : List Event) (e : Event) (events : List Event) → Order e.stamp s →
    AtEachAfter (λ b e. StampAt b e.stamp) (before ++ e ∷ []) events → IsOneMore s events → IsOneMore s (e ∷ events)
one_at s before e events (Below low next) rising (inl same) =
    inl (rw (low, next) (ap (λ (es : List Event). e ∷ es) same))
one_at s before e events (Below low next) rising (inr more) =
    inr (
      more.0,
      more.1,
      rw low (ap (λ (es : List Event). e ∷ es) more.2),
      rw (low, next)
          (ap (λ (es : List Event). e ∷ es) more.3),
    )
one_at s before e events (Here low next here above) rising later =
    let none = none_later s (before ++ e ∷ []) events (rw (last_stamp-push before e) here) rising in
    let more = none_after s (before ++ e ∷ []) events (rw (last_stamp-push before e) here) rising in
    inr (e, events, rw (low, none.0) refl, rw (low, next, none.0, more) refl)
one_at s before e events (Above low next here above) rising later =
    let none = none_later s (before ++ e ∷ []) events (rw (last_stamp-push before e) here) rising in
    let more = none_after s (before ++ e ∷ []) events (rw (last_stamp-push before e) here) rising in
    inl (rw (low, next, none.0, more) refl)

one_after : (s : ℕ) (before events : List Event) → AtEachAfter (λ b e. StampAt b e.stamp) before events →
    IsOneMore s events
one_after s before [] rising = inl refl
one_after s before (e ∷ events) rising =
    one_at s before e events (order e.stamp s) rising.1 (one_after s (before ++ e ∷ []) events rising.1)

pub one_more : (s : ℕ) (h : List Event) → AtEach (λ b e. StampAt b e.stamp) h → IsOneMore s h
unfolding AtEach
one_more s h rising = one_after s [] h rising
