-- The messages that came and the sends that they are of, place by place.
use Rattle.std.proofs.Common.{◌≡◌, ℕ, ◌<◌, ◌≤◌, ◌==◌, Bool, true, false, ◌&&◌, cond, ltb, zero, suc, Some}
use Rattle.std.proofs.Common.{List, [], ◌∷◌, ◌++◌, length, refl, sym, ◌∙◌, ap, arith}
use Rattle.std.specs.Prelude.{take}
use Rattle.std.specs.List.{AllByRecursion, cons_option, filter, filter_map, slice_get}
use Rattle.std.proofs.lemmas.Bool.{false≢true}
use Rattle.std.proofs.lemmas.Bool.Decides.{nat_tests}
use Rattle.nm_history.specs.declared.events.Event.{Event}
use Rattle.nm_history.specs.declared.events.Happened.{Happened}
use Rattle.nm_history.specs.declared.events.Happened.TheVariants as event
use Rattle.nm_history.specs.Delivery.{ArriveInOrder, earlier_than}
use Rattle.nm_history.specs.Sends.{Arrived, Sent, arrivals, arrived_of, envelope, sends, sent_of}
use Rattle.nm_sure.proofs.Carried.{came_in, same_channel, sent_in}
use Rattle.nm_sure.proofs.Made.{channel_sends}
use Rattle.nm_types.proofs.OptionLemmas.{no_some, same_some}

-- a send of the channel
abbrev pub goes_in : ℕ → ℕ → Sent → Bool
goes_in tag ctx s = ctx == s.ctx && tag == s.tag

-- the send of a message that came
pub sent_at : (from : ℕ) (ss : List Sent) (as' : List Arrived) (n : ℕ) (a : Arrived) → ArriveInOrder from ss as' →
    slice_get as' n ≡ Some a → (s : Sent) × (slice_get ss n ≡ Some s) × (a.arrival.env ≡ envelope from s)
sent_at from ss [] n a order here = absurd (no_some a here)
sent_at from [] (b ∷ as') n a order here = absurd order
sent_at from (s ∷ ss) (b ∷ as') zero a order here =
    (s, refl, ap (λ (x : Arrived). x.arrival.env) (sym (same_some b a here)) ∙ order.0)
sent_at from (s ∷ ss) (b ∷ as') (suc n) a order here = sent_at from ss as' n a order.2 here

-- before it as many of the channel came as were sent
pub as_many_before : (from tag ctx : ℕ) (ss : List Sent) (as' : List Arrived) (n : ℕ) → ArriveInOrder from ss as' →
    n ≤ length as' → length (filter (came_in from tag ctx) (take n as')) ≡ length (filter (goes_in tag ctx) (take n ss))
as_many_before from tag ctx ss as' zero order low = refl
as_many_before from tag ctx ss [] (suc n) order low = absurd (omega (arith, low))
as_many_before from tag ctx [] (a ∷ as') (suc n) order low = absurd order
as_many_before from tag ctx (s ∷ ss) (a ∷ as') (suc n) order low =
    by_test (came_in from tag ctx a) (goes_in tag ctx s) (same_channel from tag ctx s a.arrival.env order.0)
    (as_many_before from tag ctx ss as' n order.2 (omega (arith, low)))
  where
    by_test : (b c : Bool) → b ≡ c →
        length (filter (came_in from tag ctx) (take n as')) ≡ length (filter (goes_in tag ctx) (take n ss)) →
        length (cond b (a ∷ filter (came_in from tag ctx) (take n as')) (filter (came_in from tag ctx) (take n as')))
        ≡ length (cond c (s ∷ filter (goes_in tag ctx) (take n ss)) (filter (goes_in tag ctx) (take n ss)))
    by_test true true same later = ap (λ (k : ℕ). suc k) later
    by_test false false same later = later
    by_test true false same later = absurd (false≢true (sym same))
    by_test false true same later = absurd (false≢true same)

take_all : {X : Type 0} (xs : List X) → take (length xs) xs ≡ xs
take_all [] = refl
take_all (x ∷ xs) = ap (λ ys. x ∷ ys) (take_all xs)

-- where all that was sent came
pub all_came : (from tag ctx : ℕ) (ss : List Sent) (as' : List Arrived) → ArriveInOrder from ss as' →
    length as' ≡ length ss → length (filter (came_in from tag ctx) as') ≡ length (filter (goes_in tag ctx) ss)
all_came from tag ctx ss as' order all =
    ap (λ (xs : List Arrived). length (filter (came_in from tag ctx) xs)) (sym (take_all as'))
    ∙ as_many_before from tag ctx ss as' (length as') order (omega arith)
    ∙ ap (λ (k : ℕ). length (filter (goes_in tag ctx) (take k ss))) all
    ∙ ap (λ (xs : List Sent). length (filter (goes_in tag ctx) xs)) (take_all ss)

-- what came first is in order too
pub arrive_front : (from : ℕ) (ss : List Sent) (xs ys : List Arrived) → ArriveInOrder from ss (xs ++ ys) →
    ArriveInOrder from ss xs
arrive_front from ss [] ys order = tt
arrive_front from [] (x ∷ xs) ys order = absurd order
arrive_front from (s ∷ ss) (x ∷ xs) ys order = (order.0, order.1, arrive_front from ss xs ys order.2)

-- what came before a stamp has a lower one
lower_step : (limit stamp from : ℕ) (what : Happened) (as' : List Arrived) → stamp < limit →
    AllByRecursion (λ (a : Arrived). a.stamp < limit) (filter (λ a. a.arrival.env.from == from) as') →
    AllByRecursion (λ (a : Arrived). a.stamp < limit)
    (filter (λ a. a.arrival.env.from == from) (cons_option (arrived_of stamp what) as'))
lower_step limit stamp from (event.Arrive a) as' low later = by_test (a.env.from == from)
  where
    by_test : (b : Bool) → AllByRecursion (λ (a : Arrived). a.stamp < limit)
        (cond b (record { stamp = stamp; arrival = a } ∷ filter (λ a. a.arrival.env.from == from) as')
        (filter (λ a. a.arrival.env.from == from) as'))
    by_test true = (low, later)
    by_test false = later
lower_step limit stamp from what as' low later = later

low_of : (a b : ℕ) → ltb a b ≡ true → a < b
low_of a b is = grind (arith, nat_tests)

pub arrivals_lower : (limit : ℕ) (h : List Event) (from : ℕ) →
    AllByRecursion (λ (a : Arrived). a.stamp < limit) (arrivals (earlier_than limit h) from)
arrivals_lower limit [] from = tt
arrivals_lower limit (e ∷ h) from = by_test (ltb e.stamp limit) refl (arrivals_lower limit h from)
  where
    by_test : (b : Bool) → ltb e.stamp limit ≡ b →
        AllByRecursion (λ (a : Arrived). a.stamp < limit) (arrivals (earlier_than limit h) from) →
        AllByRecursion (λ (a : Arrived). a.stamp < limit)
        (arrivals (cond b (e ∷ earlier_than limit h) (earlier_than limit h)) from)
    by_test true is later = lower_step limit e.stamp from e.what
        (filter_map (λ (e : Event). arrived_of e.stamp e.what) (earlier_than limit h)) (low_of e.stamp limit is) later
    by_test false is later = later

-- the sends of a channel before a stamp
early_at : (limit to tag ctx : ℕ) (s : Sent) (xs ys : List Sent) (r b g : Bool) → (ltb s.stamp limit ≡ b) →
    (goes_in tag ctx s ≡ g) →
    filter (sent_in tag ctx limit) xs ≡ filter (goes_in tag ctx) ys →
    filter (sent_in tag ctx limit) (cond r (s ∷ xs) xs) ≡ filter (goes_in tag ctx) (cond b (cond r (s ∷ ys) ys) ys)
early_at limit to tag ctx s xs ys true true true early goes later = rw (goes, early)
    (ap (λ (zs : List Sent). s ∷ zs) later)
early_at limit to tag ctx s xs ys true true false early goes later = rw goes later
early_at limit to tag ctx s xs ys true false true early goes later = rw (goes, early) later
early_at limit to tag ctx s xs ys true false false early goes later = rw goes later
early_at limit to tag ctx s xs ys false true g early goes later = later
early_at limit to tag ctx s xs ys false false g early goes later = later

pushed_out : (to : ℕ) (r b : Bool) (s : Sent) (ys : List Sent) → (s.to == to) ≡ r →
    filter (λ s. s.to == to) (cond b (s ∷ ys) ys)
    ≡ cond b (cond r (s ∷ filter (λ s. s.to == to) ys) (filter (λ s. s.to == to) ys)) (filter (λ s. s.to == to) ys)
pushed_out to r true s ys is = rw is refl
pushed_out to r false s ys is = refl

early_step : (limit to tag ctx stamp : ℕ) (what : Happened) (b : Bool) (xs ys : List Sent) → ltb stamp limit ≡ b →
    filter (sent_in tag ctx limit) (filter (λ s. s.to == to) xs) ≡ filter (goes_in tag ctx)
    (filter (λ s. s.to == to) ys) →
    filter (sent_in tag ctx limit) (filter (λ s. s.to == to) (cons_option (sent_of stamp what) xs))
    ≡ filter (goes_in tag ctx) (filter (λ s. s.to == to) (cond b (cons_option (sent_of stamp what) ys) ys))
early_step limit to tag ctx stamp (event.Send to' n t c len how line) b xs ys is later =
    let s : Sent = record { stamp = stamp; to = to'; n = n; tag = t; ctx = c; len = len; how = how; line = line } in
    early_at limit to tag ctx s (filter (λ s. s.to == to) xs) (filter (λ s. s.to == to) ys) (to' == to) b
    (goes_in tag ctx s)
    is refl later
    ∙ ap (λ (zs : List Sent). filter (goes_in tag ctx) zs) (sym (pushed_out to (to' == to) b s ys refl))
early_step limit to tag ctx stamp what true xs ys is later = later
early_step limit to tag ctx stamp what false xs ys is later = later

pub sends_early : (limit : ℕ) (h : List Event) (to tag ctx : ℕ) →
    filter (sent_in tag ctx limit) (sends h to) ≡ channel_sends (earlier_than limit h) to tag ctx
sends_early limit [] to tag ctx = refl
sends_early limit (e ∷ h) to tag ctx = by_test (ltb e.stamp limit) refl
    (early_step limit to tag ctx e.stamp e.what (ltb e.stamp limit)
    (filter_map (λ (e : Event). sent_of e.stamp e.what) h)
    (filter_map (λ (e : Event). sent_of e.stamp e.what) (earlier_than limit h)) refl (sends_early limit h to tag ctx))
  where
    by_test : (b : Bool) → ltb e.stamp limit ≡ b →
        filter (sent_in tag ctx limit) (sends (e ∷ h) to)
        ≡ filter (goes_in tag ctx) (filter (λ s. s.to == to) (cond b (cons_option (sent_of e.stamp e.what)
        (filter_map (λ (e : Event). sent_of e.stamp e.what) (earlier_than limit h)))
        (filter_map (λ (e : Event). sent_of e.stamp e.what) (earlier_than limit h)))) →
        filter (sent_in tag ctx limit) (sends (e ∷ h) to)
        ≡ channel_sends (cond b (e ∷ earlier_than limit h) (earlier_than limit h)) to tag ctx
    by_test true is same = same
    by_test false is same = same
