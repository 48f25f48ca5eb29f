-- What a replay has of a history.
use Rattle.std.specs.Prelude.{◌≡◌, ℕ, ◌==◌, Some, is_some, List, [], ◌∷◌, ◌++◌}
use Rattle.std.specs.Prelude.{Option}
use Rattle.std.specs.List.{All}
use Rattle.indexmap.specs.IndexMap.{get}
use Rattle.indexmap.specs.IndexSet.{contains}
use Rattle.nm_history.specs.declared.events.Event.{Event}
use Rattle.nm_history.specs.declared.plain.Pair.{Pair}
use Rattle.nm_history.specs.Matching.{matched_pairs, new_pair}
use Rattle.nm_history.specs.Sends.{message_of, posts as posted_receives}
use Rattle.nm_match.specs.declared.names.Message.{Message}
use Rattle.nm_lookups.specs.declared.pairing.replays.Replay.{Replay}
use Rattle.nm_match.specs.Names.{same_message}
use Rattle.nm_lookups.specs.Queues.{HasQueuesOf, is_closed, is_gone, is_posted}

-- The replay has the queues of this history, its receives and its messages by their numbers, and
-- which of them take no part in matching any more.
pub record Replays (h : List Event) (replay : Replay) : Type 0 where
  pub queues : HasQueuesOf h replay.matcher
  pub kept : All (λ p. get ◌==◌ replay.posts p.number ≡ Some p) (posted_receives h)
  pub posted : (number : ℕ) → is_some (get ◌==◌ replay.posts number) ≡ is_posted h number
  pub messages :
      (m : Message) → get same_message replay.messages m ≡ message_of h m.rank m.n
  pub closed : (number : ℕ) → contains ◌==◌ replay.closed number ≡ is_closed h number
  pub gone : (m : Message) → contains same_message replay.gone m ≡ is_gone h m.rank m.n

-- the replay after one event more, which made this pair, or none
pub record IsNextReplay (h : List Event) (e : Event) (made : Option Pair) (replay : Replay) : Type 0 where
  pub made_is : made ≡ new_pair h (matched_pairs h) e.what
  pub replays : Replays (h ++ e ∷ []) replay

-- the two have the same queues, and the same receives and messages by their numbers
pub record HasSameQueues (old new : Replay) : Type 0 where
  pub matcher : new.matcher ≡ old.matcher
  pub posts : new.posts ≡ old.posts
  pub messages : new.messages ≡ old.messages

-- the two have the same receives and messages by their numbers, closed ones and gone ones too
pub record HasSameTables (old new : Replay) : Type 0 where
  pub posts : new.posts ≡ old.posts
  pub messages : new.messages ≡ old.messages
  pub closed : new.closed ≡ old.closed
  pub gone : new.gone ≡ old.gone

-- .. all but those gone
pub record HasSameReceives (old new : Replay) : Type 0 where
  pub posts : new.posts ≡ old.posts
  pub messages : new.messages ≡ old.messages
  pub closed : new.closed ≡ old.closed
