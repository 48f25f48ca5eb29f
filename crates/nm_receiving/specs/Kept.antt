-- What the tables of a rank's receiving side keep among each other, which no contract of theirs shows.
use Rattle.std.specs.Prelude.{◌≡◌, ℕ, ◌+◌, ◌<◌, ◌≤◌, true, false}
use Rattle.std.specs.Prelude.{IsSomeAnd, Some, List, [], All, length, nat_eq}
use Rattle.std.specs.List.{slice_get, IsDistinct}
use Rattle.std.specs.Map.{keys_of}
use Rattle.nm_types.specs.declared.messages.Arrival.{Arrival}
use Rattle.nm_history.specs.declared.events.Event.{Event}
use Rattle.nm_history.specs.Completion.{is_complete, is_taken}
use Rattle.nm_history.specs.Completion.Request.{Receiving}
use Rattle.nm_history.specs.Happens.{happened, is_withdraw}
use Rattle.nm_history.specs.Sends.{is_ask, posts}
use Rattle.nm_history.specs.Rules.{AreRight}
use Rattle.nm_eager.specs.Streams.{Incoming, message_of, missing}
use Rattle.nm_rndv.specs.Grants.{Granted, grant_in, is_open}
use Rattle.nm_receiving.specs.declared.receipts.Receipt.{Receipt}
use Rattle.nm_receiving.specs.declared.receipts.Receive.{Receive}
use Rattle.nm_receiving.specs.Receipts.{ReceivingView, stream_of, granted_to, receipts_from, receipt_of}
use Rattle.nm_receiving.specs.Received.{AreReceived}
use Rattle.nm_receiving.specs.Receives.{has_ended_at}

-- the bytes of an eager message are here, all of them where it is whole
pub record IsJoined (r : Receipt) (m : Incoming) : Type 0 where
  pub len : m.len ≡ r.arrival.env.len
  pub whole : r.whole ≡ true → m.len ≤ length m.bytes

-- the bytes of a granted message are here, all of them where it is whole
pub record IsGranted (r : Receipt) (g : Granted) : Type 0 where
  pub len : g.len ≡ r.arrival.env.len
  pub bytes : IsSomeAnd g.bytes (λ bytes. r.whole ≡ true → length bytes ≡ g.len)

-- the bytes of a message that came in packets, or was granted, are here
pub record HasBytes (v : ReceivingView) (r : Receipt) : Type 0 where
  pub granted :
      is_ask r.arrival.env.how ≡ true →
      IsSomeAnd (grant_in (granted_to v r.arrival.env.from) r.arrival.n) (IsGranted r)
  pub joined :
      is_ask r.arrival.env.how ≡ false →
      IsSomeAnd (message_of (stream_of v r.arrival.env.from) r.arrival.n) (IsJoined r)

-- this message came
abbrev pub IsHere : ReceivingView → Arrival → Receipt → Type 0
IsHere v a r = (receipt_of v a.env.from a.n ≡ Some r) × (r.arrival ≡ a)

-- the message was sent by asking and a receive took it; while pieces of it are due, it is not whole
pub record IsCleared (h : List Event) (from : ℕ) (e : ℕ × Granted) (r : Receipt) : Type 0 where
  pub asked : is_ask r.arrival.env.how ≡ true
  pub taken : is_taken h from e.0 ≡ true
  pub due : is_open e.1 ≡ true → r.whole ≡ false

-- How the tables stand to each other, and to a history: there is one row for each rank; as many
-- messages were counted as came, and one whose bytes are missing is eager and not whole; the bytes of
-- an eager message that no receive took are here, and those of a message whose receive did not end; one
-- that was sent by asking is not whole before a receive took it; two receives took two messages; each grant is of a
-- message that a receive took, and each once; and each
-- posted receive has its capacity.
pub record TablesAgree (v : ReceivingView) (h : List Event) : Type 0 where
  pub streams : length v.streams ≡ v.sizes.ranks
  pub grants : length v.grants ≡ v.sizes.ranks
  pub receipts : length v.receipts ≡ v.sizes.ranks
  pub drawn : length v.drawn ≡ v.sizes.ranks
  pub counts : (from : ℕ) → (stream_of v from).count ≡ length (receipts_from v from)
  pub unfinished :
      (from n : ℕ) → n + 1 ≡ (stream_of v from).count → 0 < missing (stream_of v from) →
      IsSomeAnd (receipt_of v from n) (λ r. (is_ask r.arrival.env.how ≡ false) × (r.whole ≡ false))
  pub untaken :
      (from n : ℕ) (r : Receipt) → receipt_of v from n ≡ Some r →
      is_ask r.arrival.env.how ≡ false → is_taken h from n ≡ false → HasBytes v r
  pub waiting :
      (from n : ℕ) (r : Receipt) → receipt_of v from n ≡ Some r →
      is_ask r.arrival.env.how ≡ true → is_taken h from n ≡ false → r.whole ≡ false
  pub taken :
      (k : ℕ) (receive : Receive) (a : Arrival) → slice_get v.receives k ≡ Some receive →
      receive.taken ≡ Some a →
      (r : Receipt) × IsHere v a r × (receive.ended ≡ false → HasBytes v r)
  pub apart :
      (k l : ℕ) (receive other : Receive) (a b : Arrival) → slice_get v.receives k ≡ Some receive →
      slice_get v.receives l ≡ Some other → receive.taken ≡ Some a → other.taken ≡ Some b →
      a.env.from ≡ b.env.from → a.n ≡ b.n → k ≡ l
  pub cleared :
      (from : ℕ) →
      All (λ e. IsSomeAnd (receipt_of v from e.0) (IsCleared h from e)) (granted_to v from)
  pub once : (from : ℕ) → IsDistinct nat_eq (keys_of (granted_to v from))
  pub caps : All (λ p. IsSomeAnd (slice_get v.receives p.number) (λ r. r.cap ≡ p.cap)) (posts h)

-- pieces of the message are to come: it was sent by asking and has a body, a receive took it, and it is not whole
pub record IsAwaited (h : List Event) (from n : ℕ) (r : Receipt) : Type 0 where
  pub asked : is_ask r.arrival.env.how ≡ true
  pub body : 0 < r.arrival.env.len
  pub taken : is_taken h from n ≡ true
  pub lacking : r.whole ≡ false

-- message n has an open grant
abbrev pub HasOpen : List (ℕ × Granted) → ℕ → Type 0
HasOpen grants n = IsSomeAnd (grant_in grants n) (λ g. is_open g ≡ true)

-- message n of a sender has an open grant, if pieces of it are to come
abbrev pub IsGrantedFor : ReceivingView → List Event → ℕ → ℕ → Type 0
IsGrantedFor v h from n =
    (r : Receipt) → receipt_of v from n ≡ Some r → IsAwaited h from n r →
    HasOpen (granted_to v from) n

-- so has each
abbrev pub AreGrantedFor : ReceivingView → List Event → Type 0
AreGrantedFor v h = (from n : ℕ) → IsGrantedFor v h from n

-- The tables stand for some history, in which no withdrawal came late: such a one leaves no trace. Each
-- message whose pieces are to come has an open grant. A receive whose result was given is complete.
pub record ReceivingInvariant (v : ReceivingView) : Type 0 where
  pub history : List Event
  pub received : AreReceived v history
  pub right : AreRight v.sizes.ranks [] history
  pub in_time : (from n : ℕ) → happened (is_withdraw from n false) history ≡ false
  pub tables : TablesAgree v history
  pub owed : AreGrantedFor v history
  pub over :
      (number : ℕ) → has_ended_at v.receives number ≡ true →
      is_complete history (Receiving number) ≡ true
