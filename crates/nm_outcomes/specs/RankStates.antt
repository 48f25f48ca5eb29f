-- The state of a rank: what it did, and what matching has of it.
use Rattle.std.specs.Prelude.{◌≡◌, ℕ, ◌==◌, ◌&&◌, ◌||◌, Bool, true, false, not, if◌then◌else◌, nat_lt}
use Rattle.std.specs.Prelude.{Option, Some, None, List, [], ◌∷◌, ◌++◌, length, map, filter, find}
use Rattle.std.specs.List.{list_any}
use Rattle.nm_types.specs.declared.messages.Arrival.{Arrival}
use Rattle.nm_types.specs.declared.scripts.Line.{Line}
use Rattle.nm_history.specs.declared.events.Event.{Event}
use Rattle.nm_history.specs.declared.events.Happened.{Happened}
use Rattle.nm_history.specs.declared.events.Happened.TheVariants.{Arrive, Withdraw}
use Rattle.nm_history.specs.declared.plain.Pair.{Pair}
use Rattle.nm_history.specs.Completion.{is_taken as is_taken_in, pair_of_receive}
use Rattle.nm_history.specs.Happens.{happened, is_withdraw}
use Rattle.nm_history.specs.Matching.{is_of_message, is_of_receive}
use Rattle.nm_history.specs.Selection.{matches}
use Rattle.nm_history.specs.Sends.{arrivals, message_of}
use Rattle.nm_history.specs.Underway.{is_of_packet}
use Rattle.nm_match.specs.Deeds.{is_message}
use Rattle.nm_lookups.specs.Queues.{free_messages, open_receives, without_message}
use Rattle.nm_outcomes.specs.Places.{IsProper}
use Rattle.nm_outcomes.specs.declared.spots.deeds.Deed.{Deed}
use Rattle.nm_outcomes.specs.declared.spots.deeds.Deed.TheVariants as deed
use Rattle.nm_match.specs.declared.names.Message.{Message}
use Rattle.nm_outcomes.specs.declared.spots.deeds.Receive.{Receive}
use Rattle.nm_outcomes.specs.Deeds.{happening, post_of_lem}

-- a rank at some moment
pub record Spot : Type 0 where
  pub deeds : List Deed
  pub receives : List Receive
  pub free : List Arrival
  pub pairs : List Pair
  pub came : List Arrival
  pub withdrawn : List Message

-- a rank that did nothing
abbrev pub first_spot : Spot
first_spot = record { deeds = []; receives = []; free = []; pairs = []; came = []; withdrawn = [] }

-- the events of a history that come of commands
abbrev pub own_of : List Event → List Happened
own_of h = filter (λ what. not (is_of_packet what)) (map (λ e. e.what) h)

-- a message with this number
abbrev pub is_that : ℕ → ℕ → Message → Bool
is_that from n m = m.rank == from && m.n == n

-- The rank is so after this history.
pub record IsSpotOf (lines : List Line) (h : List Event) (spot : Spot) : Type 0 where
  pub deeds : map (happening lines) spot.deeds ≡ own_of h
  pub receives : map post_of_lem spot.receives ≡ open_receives h
  pub free : spot.free ≡ free_messages h
  pub paired : (number : ℕ) → find (is_of_receive number) spot.pairs ≡ pair_of_receive h number
  pub taken : (from n : ℕ) → list_any (is_of_message from n) spot.pairs ≡ is_taken_in h from n
  pub known : (from n : ℕ) → find (is_message from n) spot.came ≡ message_of h from n
  pub came :
      (from : ℕ) → length (filter (λ a. a.env.from == from) spot.came) ≡ length (arrivals h from)
  pub withdrawn :
      (from n : ℕ) → list_any (is_that from n) spot.withdrawn ≡ happened (is_withdraw from n true) h

-- the list with an element put before the first one that stands behind it
abbrev pub placed : {X : Type 0} → (X → Bool) → X → List X → List X
placed behind x [] = x ∷ []
placed behind x (y ∷ ys) = if behind y then x ∷ y ∷ ys else y ∷ placed behind x ys

-- .. or at the end, where another one is the same
abbrev pub placed_new : {X : Type 0} → (X → Bool) → (X → Bool) → X → List X → List X
placed_new same behind x xs = if list_any same xs then xs ++ x ∷ [] else placed behind x xs

-- one message stands behind another one: by sender, and then by number
abbrev pub is_behind : ℕ → ℕ → ℕ → ℕ → Bool
is_behind from n rank m = nat_lt from rank || (rank == from && nat_lt n m)

-- the oldest free message that a receive selects, and the oldest open receive that selects a message
abbrev pub message_of_spot : Spot → Receive → Option Arrival
message_of_spot spot r = find (λ a. matches r.from r.tag r.ctx a.env) spot.free

-- the oldest open receive that selects a message
abbrev pub receive_of_spot : Spot → Arrival → Option Receive
receive_of_spot spot a = find (λ r. matches r.from r.tag r.ctx a.env) spot.receives

-- a deed cancels a receive, and claims a message
abbrev pub is_cancel_by : ℕ → Deed → Bool
is_cancel_by number (deed.Cancel number' done) = number' == number && done
is_cancel_by number _ = false

-- a deed claims message n of a rank
abbrev pub is_claim_by : ℕ → ℕ → Deed → Bool
is_claim_by from n (deed.Claim from' n' line) = from' == from && n' == n
is_claim_by from n _ = false

-- a receive is paired or was cancelled
abbrev pub is_closed_at : Spot → ℕ → Bool
is_closed_at spot number =
    list_any (is_of_receive number) spot.pairs || list_any (is_cancel_by number) spot.deeds

-- a message is paired, or was claimed or withdrawn
abbrev pub is_gone_at : Spot → ℕ → ℕ → Bool
is_gone_at spot from n =
    list_any (is_of_message from n) spot.pairs || list_any (is_claim_by from n) spot.deeds
    || list_any (is_that from n) spot.withdrawn

-- the receives without the one of this number, and the pairs with one more
abbrev pub without_number : ℕ → List Receive → List Receive
without_number number rs = filter (λ r. not (number == r.number)) rs

-- the pairs with one more, by number
abbrev pub with_pair : Pair → List Pair → List Pair
with_pair pair pairs =
    placed_new (is_of_receive pair.number) (λ p. nat_lt pair.number p.number) pair pairs

-- a receive that was posted took this message, or none
abbrev pub posted_at : Spot → Receive → Option Arrival → Spot
posted_at spot r None =
    if is_closed_at spot r.number then spot else record spot { receives = spot.receives ++ r ∷ [] }
posted_at spot r (Some a) = record spot {
  free = without_message a.env.from a.n spot.free;
  pairs = with_pair (record { number = r.number; cap = r.cap; arrival = a }) spot.pairs;
}

-- a receive takes a message that was claimed
abbrev pub taken_at : Spot → ℕ → ℕ → ℕ → ℕ → Option Arrival → Spot
taken_at spot number cap from n None = record spot { free = without_message from n spot.free }
taken_at spot number cap from n (Some a) = record spot {
  free = without_message from n spot.free;
  pairs = with_pair (record { number = number; cap = cap; arrival = a }) spot.pairs;
}

-- what a deed does to the queues
abbrev pub settled_at : Spot → Deed → Spot
settled_at spot (deed.Post r line) = posted_at spot r (message_of_spot spot r)
settled_at spot (deed.Match number from n cap line) =
    taken_at spot number cap from n (find (is_message from n) spot.came)
settled_at spot (deed.Cancel number done) =
    if done then record spot { receives = without_number number spot.receives } else spot
settled_at spot (deed.Claim from n line) = record spot { free = without_message from n spot.free }
settled_at spot _ = spot

-- the rank after a deed
abbrev pub spot_after : Spot → Deed → Spot
spot_after spot d = let s = settled_at spot d in record s { deeds = s.deeds ++ d ∷ [] }

-- the rank after a message came, and went to this receive or to none
abbrev pub arrived_by : Spot → Arrival → Option Receive → Spot
arrived_by spot a None =
    if is_gone_at spot a.env.from a.n then spot else record spot { free = spot.free ++ a ∷ [] }
arrived_by spot a (Some r) = record spot {
  receives = without_number r.number spot.receives;
  pairs = with_pair (record { number = r.number; cap = r.cap; arrival = a }) spot.pairs;
}

-- the messages that came with one more, by sender and number
abbrev pub with_arrival : Arrival → List Arrival → List Arrival
with_arrival a came =
    placed_new (is_message a.env.from a.n) (λ b. is_behind a.env.from a.n b.env.from b.n) a came

-- the rank after a message came
abbrev pub arrived_at : Spot → Arrival → Spot
arrived_at spot a =
    let s = arrived_by spot a (receive_of_spot spot a) in
    record s { came = with_arrival a s.came }

-- the rank after its sender withdrew a message
abbrev pub withdrawn_at : Spot → ℕ → ℕ → Spot
withdrawn_at spot from n = record spot {
  free = without_message from n spot.free;
  withdrawn =
      placed (λ m. is_behind from n m.rank m.n) (record { rank = from; n = n }) spot.withdrawn;
}

-- a message is free: it is not gone
abbrev pub free_lem : Spot → ℕ → ℕ → Bool
free_lem spot from n = not (is_gone_at spot from n)

-- the history with one event more
abbrev pub grown : List Event → ℕ → Happened → List Event
grown h stamp what = h ++ record { stamp = stamp; what = what } ∷ []

-- the state of a rank follows its history
pub record SpotsFollow : Type 0 where
  pub acts :
      (lines : List Line) (h : List Event) (spot : Spot) (stamp : ℕ) → IsSpotOf lines h spot → (d : Deed) →
      IsProper h (happening lines d) → IsSpotOf lines (grown h stamp (happening lines d)) (spot_after spot d)
  pub arrives :
      (lines : List Line) (h : List Event) (spot : Spot) (stamp : ℕ) → IsSpotOf lines h spot → (a : Arrival) →
      IsProper h (Arrive a) → IsSpotOf lines (grown h stamp (Arrive a)) (arrived_at spot a)
  pub withdraws :
      (lines : List Line) (h : List Event) (spot : Spot) (stamp : ℕ) → IsSpotOf lines h spot → (from n : ℕ) →
      IsSpotOf lines (grown h stamp (Withdraw from n true)) (withdrawn_at spot from n)
