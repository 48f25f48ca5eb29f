-- What waits in buckets, and the queue that it makes.
use Rattle.std.specs.Prelude.{◌≡◌, ℕ, ◌<◌, Bool, false, List, [], ◌∷◌, ◌++◌, Option, Some, None}
use Rattle.std.specs.Prelude.{if◌then◌else◌, map, nat_le, slice_get, filter}
use Rattle.std.specs.List.{All}
use Rattle.std.specs.BTreeMap.{insert_entry, is_at}
use Rattle.std.specs.Map.{remove_entry}
use Rattle.std.specs.Option.{option_map_or}
use Rattle.std.specs.Ordering.{nat_cmp}
use Rattle.indexmap.specs.IndexMap.{IndexMap, get}
use Rattle.nm_types.specs.declared.messages.Envelope.{Envelope}
use Rattle.nm_types.specs.declared.messages.Peer.{Peer}
use Rattle.nm_types.specs.declared.messages.Peer.TheVariants as peer
use Rattle.nm_types.specs.declared.messages.TagPick.{TagPick}
use Rattle.nm_types.specs.declared.messages.TagPick.TheVariants as tag
use Rattle.nm_match.specs.declared.buckets.Bucket.{Bucket}
use Rattle.nm_match.specs.declared.picks.Picks.{Picks}
use Rattle.nm_match.specs.Picks.{same_picks}

-- what waits in a bucket, the oldest first
abbrev pub entries_of : {X : Type 0} → Bucket X → List (ℕ × X)
entries_of b = b.oldest ∷ b.rest.entries

-- what waits under a key
abbrev pub bucket_of : {X S : Type 0} → IndexMap Picks (Bucket X) S → Picks → List (ℕ × X)
bucket_of m key = option_map_or entries_of (get same_picks m key) []

-- an item was put last, where its order number is above the others
abbrev pub IsPutLast : {X : Type 0} → ℕ → X → List (ℕ × X) → List (ℕ × X) → Type 0
IsPutLast order item before after = All (λ x. x.0 < order) before → after ≡ before ++ (order, item) ∷ []

-- the entry of this key and this order number was taken, and nothing else
abbrev pub IsTaken : {X : Type 0} → Picks → ℕ → (Picks → List (ℕ × X)) → (Picks → List (ℕ × X))
    → Type 0
IsTaken key order before after =
    (after key ≡ remove_entry (is_at (nat_cmp order)) (before key))
    × ((k : Picks) → same_picks key k ≡ false → after k ≡ before k)

-- what waits in the bucket at this place of the map
abbrev pub bucket_at : {X S : Type 0} → IndexMap Picks (Bucket X) S → ℕ → List (ℕ × X)
bucket_at m index = option_map_or (λ e. bucket_of m e.0) (slice_get m.entries index) []

-- entries in order of age, with others put among them
abbrev pub with_entries : {X : Type 0} → List (ℕ × X) → List (ℕ × X) → List (ℕ × X)
with_entries es [] = es
with_entries es (x ∷ xs) = with_entries (insert_entry nat_cmp es x.0 x.1) xs

-- the one with the smaller order number
abbrev pub earlier_of : {X : Type 0} → Option (ℕ × X) → Option (ℕ × X) → Option (ℕ × X)
earlier_of None b = b
earlier_of (Some a) None = Some a
earlier_of (Some a) (Some b) = if nat_le a.0 b.0 then Some a else Some b

-- the oldest that waits under the key of this source and this tag, in the context of a message
abbrev pub front_of : {X : Type 0} → (Picks → List (ℕ × X)) → Peer → TagPick → Envelope
    → Option (ℕ × X)
front_of bucket from t env = slice_get (bucket (record { from = from; tag = t; ctx = env.ctx })) 0

-- the oldest that waits under the four keys that select a message
abbrev pub oldest_of : {X : Type 0} → (Picks → List (ℕ × X)) → Envelope → Option (ℕ × X)
oldest_of bucket env =
    earlier_of (earlier_of (front_of bucket (peer.One env.from) (tag.One env.tag) env)
    (front_of bucket peer.Any (tag.One env.tag) env))
    (earlier_of (front_of bucket (peer.One env.from) tag.Any env) (front_of bucket peer.Any tag.Any env))

-- the order numbers rise
abbrev pub Rising : {X : Type 0} → List (ℕ × X) → Type 0
Rising [] = Unit {0}
Rising {X} (x ∷ xs) = All (λ (y : ℕ × X). x.0 < y.0) xs × Rising xs

-- The buckets hold this queue, whose order numbers rise and are below the next one: each bucket has
-- what the queue has of its key, in the same order.
pub record AreBuckets {X : Type 0} (key : X → Picks) (queue : List (ℕ × X)) (next : ℕ)
    (bucket : Picks → List (ℕ × X)) : Type 0 where
  pub holds : (k : Picks) → bucket k ≡ filter (λ x. same_picks k (key x.1)) queue
  pub below : All (λ x. x.0 < next) queue
  pub rising : Rising queue

-- the buckets hold these things in order of age
pub record IsQueue {X : Type 0} (key : X → Picks) (items : List X) (next : ℕ)
    (bucket : Picks → List (ℕ × X)) : Type 0 where
  pub queue : List (ℕ × X)
  pub are : AreBuckets key queue next bucket
  pub same : map (λ x. x.1) queue ≡ items

-- the oldest in the bucket at this place of the map, if its key fits
abbrev pub fitting_at : {X S : Type 0} → (Picks → Bool) → IndexMap Picks (Bucket X) S → ℕ
    → Option (ℕ × X)
fitting_at fits m index = option_map_or (λ e. if fits e.0 then slice_get (bucket_of m e.0) 0 else None)
    (slice_get m.entries index) None
