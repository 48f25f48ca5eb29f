-- What stands before a stamp, and behind it.
use Rattle.std.proofs.Common.{◌≡◌, ℕ, zero, suc, ◌+◌, ◌<◌, ◌≤◌, ◌==◌, Bool, true, false, cond, ltb, Some}
use Rattle.std.proofs.Common.{List, [], ◌∷◌, ◌++◌, refl, ap, arith}
use Rattle.std.specs.List.{AllByRecursion, cons_option, filter, filter_map, slice_get}
use Rattle.std.proofs.lemmas.Bool.Decides.{nat_tests}
use Rattle.nm_history.specs.declared.events.Event.{Event}
use Rattle.nm_history.specs.declared.events.Happened.{Happened}
use Rattle.nm_history.specs.declared.events.Happened.TheVariants as event
use Rattle.nm_history.specs.Delivery.{earlier_than}
use Rattle.nm_history.specs.Sends.{Sent, sends, sent_of}
use Rattle.nm_types.proofs.ListLemmas.{all_at}

pub is_below : (a b : ℕ) → ltb a b ≡ true → a < b
is_below a b is = grind (arith, nat_tests)

pub not_below : (a b : ℕ) → ltb a b ≡ false → b ≤ a
not_below a b is = grind (arith, nat_tests)

pub below_is : (a b : ℕ) → a < b → ltb a b ≡ true
below_is a b low = grind (arith, nat_tests)

pub above_is : (a b : ℕ) → b ≤ a → ltb a b ≡ false
above_is a b low = grind (arith, nat_tests)

pub all_behind : {X : Type 0} (P : X → Type 0) (xs : List X) (x : X) (ys : List X) → AllByRecursion P (xs ++ x ∷ ys) →
    P x
all_behind P [] x ys all = all.0
all_behind P (z ∷ xs) x ys all = all_behind P xs x ys all.1

-- what is earlier than a stamp, among what is earlier than one that is no lower
pub earlier_twice : (s t : ℕ) (h : List Event) → s ≤ t → earlier_than s (earlier_than t h) ≡ earlier_than s h
earlier_twice s t [] low = refl
earlier_twice s t (e ∷ h) low = by_tests (ltb e.stamp t) refl (ltb e.stamp s) refl (earlier_twice s t h low)
  where
    by_tests : (b : Bool) → ltb e.stamp t ≡ b → (c : Bool) → ltb e.stamp s ≡ c →
        earlier_than s (earlier_than t h) ≡ earlier_than s h →
        earlier_than s (cond b (e ∷ earlier_than t h) (earlier_than t h))
        ≡ cond c (e ∷ earlier_than s h) (earlier_than s h)
    by_tests true is true so later = rw so (ap (λ (es : List Event). e ∷ es) later)
    by_tests true is false so later = rw so later
    by_tests false is true so later =
        absurd (let x = is_below e.stamp s so in let y = not_below e.stamp t is in omega (arith, x, y, low))
    by_tests false is false so later = later

-- each is no later
pub none_later : (t : ℕ) (h : List Event) → AllByRecursion (λ (e : Event). e.stamp < t + 1) (earlier_than (t + 1) h)
none_later t [] = tt
none_later t (e ∷ h) = by_test (ltb e.stamp (t + 1)) refl (none_later t h)
  where
    by_test : (b : Bool) → ltb e.stamp (t + 1) ≡ b →
        AllByRecursion (λ (e : Event). e.stamp < t + 1) (earlier_than (t + 1) h) →
        AllByRecursion (λ (e : Event). e.stamp < t + 1) (cond b (e ∷ earlier_than (t + 1) h) (earlier_than (t + 1) h))
    by_test true is later = (is_below e.stamp (t + 1) is, later)
    by_test false is later = later

-- nothing is earlier than 0
pub none_early : (h : List Event) → earlier_than 0 h ≡ []
none_early [] = refl
none_early (e ∷ h) = by_test (ltb e.stamp 0) refl (none_early h)
  where
    by_test : (b : Bool) → ltb e.stamp 0 ≡ b → earlier_than 0 h ≡ [] →
        cond b (e ∷ earlier_than 0 h) (earlier_than 0 h) ≡ []
    by_test true is later = absurd (let x = is_below e.stamp 0 is in omega (arith, x))
    by_test false is later = later

-- a stamp that all events are earlier than
abbrev pub above_all : List Event → ℕ
above_all [] = 0
above_all (e ∷ h) = e.stamp + 1 + above_all h

pub early_whole : (t : ℕ) (h : List Event) → above_all h ≤ t → earlier_than t h ≡ h
early_whole t [] high = refl
early_whole t (e ∷ h) high =
    let sum : e.stamp + 1 + above_all h ≤ t = high in
    let now : e.stamp < t = omega (arith, sum) in
    let more : above_all h ≤ t = omega (arith, sum) in
    rw (below_is e.stamp t now) (ap (λ (es : List Event). e ∷ es) (early_whole t h more))

-- the sends of events that are no earlier are no earlier
late_step : (t to stamp : ℕ) (what : Happened) (ss : List Sent) → t ≤ stamp →
    AllByRecursion (λ (s : Sent). t ≤ s.stamp) (filter (λ s. s.to == to) ss) →
    AllByRecursion (λ (s : Sent). t ≤ s.stamp) (filter (λ s. s.to == to) (cons_option (sent_of stamp what) ss))
late_step t to stamp (event.Send to' n tag ctx len how line) ss low later = by_test (to' == to)
  where
    by_test : (b : Bool) → AllByRecursion (λ (s : Sent). t ≤ s.stamp)
        (cond b (record {
          stamp = stamp;
          to = to';
          n = n;
          tag = tag;
          ctx = ctx;
          len = len;
          how = how;
          line = line;
        } ∷ filter (λ s. s.to == to) ss)
        (filter (λ s. s.to == to) ss))
    by_test true = (low, later)
    by_test false = later
late_step t to stamp what ss low later = later

pub sends_late : (t : ℕ) (h : List Event) (to : ℕ) → AllByRecursion (λ (e : Event). t ≤ e.stamp) h →
    AllByRecursion (λ (s : Sent). t ≤ s.stamp) (sends h to)
sends_late t [] to late = tt
sends_late t (e ∷ h) to late =
    late_step t to e.stamp e.what (filter_map (λ (e : Event). sent_of e.stamp e.what) h) late.0
    (sends_late t h to late.1)

-- an early send does not stand among the late ones
pub place_early : (t : ℕ) (xs ys : List Sent) (k : ℕ) (s : Sent) → AllByRecursion (λ (s : Sent). t ≤ s.stamp) ys →
    s.stamp < t → slice_get (xs ++ ys) k ≡ Some s → slice_get xs k ≡ Some s
place_early t [] ys k s late low here =
    absurd (let x = all_at (λ (s : Sent). t ≤ s.stamp) ys k s late here in omega (arith, x, low))
place_early t (x ∷ xs) ys zero s late low here = here
place_early t (x ∷ xs) ys (suc k) s late low here = place_early t xs ys k s late low here
