-- What receives and messages are known by, and where they stand.
use Rattle.std.specs.Prelude.{◌≡◌, ℕ, ◌==◌, ◌&&◌, Bool, true, false, List, Option, Some, None}
use Rattle.std.specs.Prelude.{if◌then◌else◌}
use Rattle.std.specs.List.{find, list_any}
use Rattle.std.specs.Option.{option_map_or}
use Rattle.indexmap.specs.IndexMap.{get}
use Rattle.nm_types.specs.declared.messages.Arrival.{Arrival}
use Rattle.nm_types.specs.declared.messages.Post as post
use Rattle.nm_history.specs.Continues.{has}
use Rattle.nm_match.specs.declared.names.Message.{Message}
use Rattle.nm_match.specs.declared.names.Standing.{Standing}
use Rattle.nm_match.specs.declared.names.Standing.TheVariants.{Waits, Aside}
use Rattle.nm_match.specs.declared.picks.Picks.{Picks}
use Rattle.nm_match.specs.declared.posted.Posted.{Posted}
use Rattle.nm_match.specs.declared.unexpected.Unexpected.{Unexpected}
use Rattle.nm_match.specs.Buckets.{IsQueue, bucket_of}
use Rattle.nm_match.specs.Deeds.{is_message}
use Rattle.nm_match.specs.Fronts.{front_at}
use Rattle.nm_match.specs.Picks.{names_both, picks_of_arrival, picks_of_post}
use Rattle.nm_match.specs.Rings.{AreRings}
use Rattle.nm_match.specs.Standings.{receive_at, standing_at}
use Rattle.nm_match.specs.Wildcards.{IndexQueue}

-- the same message of the same rank
abbrev pub same_message : Message → Message → Bool
same_message a b = a.rank == b.rank && a.n == b.n

-- what a message is known by
abbrev pub id_of_arrival : Arrival → Message
id_of_arrival a = record { rank = a.env.from; n = a.n }

-- what a receive is known by: all receives are one group
abbrev pub id_of_receive : ℕ → Message
id_of_receive number = record { rank = 0; n = number }

-- the receive has this number
abbrev pub has_number : post.Post → ℕ → Bool
has_number p number = p.number == number

-- the message is known by this
abbrev pub has_id : Arrival → Message → Bool
has_id a id = is_message id.rank id.n a

-- one of these is known by this
abbrev pub has_one : List Arrival → Message → Bool
has_one arrivals id = list_any (is_message id.rank id.n) arrivals

-- it waits no more
abbrev pub is_aside : Standing → Bool
is_aside (Waits key order) = false
is_aside Aside = true

-- where what is known by this name stands: in its bucket, if it waits in the queue, or aside
abbrev pub standing_of : {X K : Type 0} → (X → K → Bool) → (X → Picks) → List (ℕ × X) → (K → Bool) → K
    → Option Standing
standing_of known key queue aside name =
    option_map_or (λ x. Some (Waits (key x.1) x.0)) (find (λ x. known x.1 name) queue)
    (if aside name then Some Aside else None)

-- The buckets hold these things in order of age, and it is known of each name where it stands.
pub record IsNamedQueue {X K : Type 0} (known : X → K → Bool) (key : X → Picks) (items : List X)
    (aside : K → Bool) (next : ℕ) (bucket : Picks → List (ℕ × X)) (standing : K → Option Standing)
    : Type 0 where
  pub is : IsQueue key items next bucket
  pub stands : (name : K) → standing name ≡ standing_of known key is.queue aside name

-- the number of the oldest receive under a key: those that name a source and a tag stand apart from the others
abbrev pub fronts_of : Posted → Picks → Option ℕ
fronts_of p key = if names_both key then front_at p.named key else front_at p.wild key

-- these receives wait, in rings by what they name, and these numbers are of cancelled ones
pub record ArePosted (posts : List post.Post) (cancelled : List ℕ) (next : ℕ) (p : Posted) : Type 0 where
  pub under : Picks → List (ℕ × post.Post)
  pub is :
      IsNamedQueue has_number picks_of_post posts (has cancelled) next under (standing_at p.standings)
  pub rings : AreRings (fronts_of p) (receive_at p.standings) under

-- these messages wait, and these are claimed
pub record AreUnexpected (arrivals claimed : List Arrival) (next : ℕ) (u : Unexpected) : Type 0 where
  pub named :
      IsNamedQueue has_id picks_of_arrival arrivals (has_one claimed) next (bucket_of u.waiting.named.map)
      (get same_message u.standings)
  pub wildcards : IndexQueue named.is.queue u.waiting.wildcards
