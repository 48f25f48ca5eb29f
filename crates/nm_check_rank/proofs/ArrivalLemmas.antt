-- A message's arrival, by the first place at which it came.
use Rattle.std.proofs.Common.{◌≡◌, ℕ, ◌<◌, ◌≤◌, ◌==◌, ◌&&◌, Bool, true, false, cond, Option, Some, None, List, []}
use Rattle.std.proofs.Common.{◌∷◌, take}
use Rattle.std.proofs.Common.{refl, sym, ◌∙◌, ap}
use Rattle.std.specs.Prelude.{IsTrue, filter_map, is_some, option_and_then, position}
use Rattle.std.specs.List.{cons_option, find, slice_get}
use Rattle.std.specs.Option.{option_map_or}
use Rattle.nm_types.specs.declared.messages.Arrival.{Arrival}
use Rattle.nm_history.specs.declared.events.Event.{Event}
use Rattle.nm_history.specs.declared.events.Happened.{Happened}
use Rattle.nm_history.specs.declared.events.Happened.TheVariants as happening
use Rattle.nm_history.specs.Happens.{is_arrival}
use Rattle.nm_history.specs.Sends.{arrival_of, message_of}
use Rattle.nm_lookups.proofs.GivenLemmas.{given_before, given_later, given_never}
use Rattle.nm_lookups.proofs.RequestLemmas.{an_event, made_at}

module _ {X Y : Type 0} (f : X → Option Y) (q : Y → Bool) where
  -- what an element gives, if it passes
  abbrev pub passed : X → Option Y
  passed x = option_and_then (λ y. cond (q y) (Some y) None) (f x)

  find_given : (xs : List X) → slice_get (filter_map passed xs) 0 ≡ find q (filter_map f xs)
  find_given [] = refl
  find_given (x ∷ xs) = by_first (f x) (find_given xs)
    where
      by_test : (y : Y) (b : Bool) → slice_get (filter_map passed xs) 0 ≡ find q (filter_map f xs) →
          slice_get (cons_option (cond b (Some y) None) (filter_map passed xs)) 0 ≡ cond b (Some y)
          (find q (filter_map f xs))
      by_test y true more = refl
      by_test y false more = more

      by_first : (o : Option Y) → slice_get (filter_map passed xs) 0 ≡ find q (filter_map f xs) →
          slice_get (cons_option (option_and_then (λ y. cond (q y) (Some y) None) o) (filter_map passed xs)) 0
          ≡ find q (cons_option o (filter_map f xs))
      by_first None more = more
      by_first (Some y) more = by_test y (q y) more

  passed_some : (o : Option Y) → is_some (option_and_then (λ y. cond (q y) (Some y) None) o) ≡ option_map_or q o false
  passed_some None = refl
  passed_some (Some y) = by_test (q y)
    where
      by_test : (b : Bool) → is_some (cond b (Some y) None) ≡ b
      by_test true = refl
      by_test false = refl

  passed_is : (o : Option Y) → IsTrue (is_some (option_and_then (λ y. cond (q y) (Some y) None) o)) →
      o ≡ option_and_then (λ y. cond (q y) (Some y) None) o
  passed_is None some = refl
  passed_is (Some y) some = made_at (q y) y some

module _ (h : List Event) (k from n : ℕ) where
  abbrev Names : Arrival → Bool
  Names a = a.env.from == from && a.n == n

  abbrev given : Event → Option Arrival
  given e = passed (λ (e : Event). arrival_of e.what) Names e

  arrives : (what : Happened) → is_arrival from n what ≡ option_map_or Names (arrival_of what) false
  arrives (happening.Arrive a) = refl
  arrives what = refl

  tests_same : (e : Event) → is_some (given e) ≡ is_arrival from n e.what
  tests_same e = passed_some (λ (e : Event). arrival_of e.what) Names (arrival_of e.what) ∙ sym (arrives e.what)

  first_same : (o : Option ℕ) → position (λ e. is_arrival from n e.what) h ≡ o → position (λ e. is_some (given e)) h ≡ o
  first_same o first = ap (λ (p : Event → Bool). position p h) (λ i e. tests_same e i) ∙ first

  found : slice_get (filter_map given (take k h)) 0 ≡ message_of (take k h) from n
  found = find_given (λ (e : Event). arrival_of e.what) Names (take k h)

  pub came_never : position (λ e. is_arrival from n e.what) h ≡ None → None ≡ message_of (take k h) from n
  came_never first = given_never given h k (first_same None first) ∙ found

  pub came_later : (t : ℕ) → position (λ e. is_arrival from n e.what) h ≡ Some t → k ≤ t →
      None ≡ message_of (take k h) from n
  came_later t first late = given_later given h k t (first_same (Some t) first) late ∙ found

  pub came_before : (t : ℕ) (r : Option Arrival) → position (λ e. is_arrival from n e.what) h ≡ Some t → t < k →
      ((e : Event) → slice_get h t ≡ Some e → r ≡ arrival_of e.what) → r ≡ message_of (take k h) from n
  came_before t r first low answers =
      given_before given h k an_event t r (first_same (Some t) first) low
      (λ e there some. answers e there ∙ passed_is (λ (e : Event). arrival_of e.what) Names (arrival_of e.what) some)
      ∙ found
