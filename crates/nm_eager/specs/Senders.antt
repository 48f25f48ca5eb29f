-- What contracts see of what came from one sender.
use Rattle.std.specs.Prelude.{◌≡◌, ℕ, ◌+◌, ◌-◌, ◌<◌, ◌≤◌, Option, Some, None, IfSome, List, [], ◌∷◌, ◌++◌, length}
use Rattle.std.specs.Prelude.{Bool, true, false, option_to_list, replicate}
use Rattle.std.specs.List.{AllByRecursion, flat_map}
use Rattle.std.specs.Option.{option_map, option_map_or}
use Rattle.nm_types.specs.declared.limits.TheConstants.{MAX_PACKETS}
use Rattle.nm_types.specs.declared.packets.What.{What}
use Rattle.nm_types.specs.declared.packets.What.TheVariants.{Head}
use Rattle.nm_eager.specs.Streams.{Incoming, Stream, nothing_came, AreNumbered}

-- what came from one sender; for how many of its messages there is a place, counted ones among them;
-- and how many bytes the next message may have so that it needs no memory
pub record Received : Type 0 where
  pub stream : Stream
  pub places : ℕ
  pub room : ℕ

-- nothing came, and there is no room
abbrev pub nothing_received : Received
nothing_received = record { stream = nothing_came; places = 0; room = 0 }

-- a message of this length can begin without memory
pub record CanBegin (received : Received) (len : ℕ) : Type 0 where
  pub kept : received.stream.count < received.places
  pub buffered : len ≤ received.room

-- what a packet begins can begin without memory; what goes on needs none
abbrev pub IsReadyAt : Received → What → Type 0
IsReadyAt received (Head tag ctx len) = CanBegin received len
IsReadyAt received _ = Unit {0}

-- the same came, and what could begin without memory still can
pub record SameReceived (old new : Received) : Type 0 where
  pub same : new.stream ≡ old.stream
  pub kept : old.places ≤ new.places
  pub buffered : old.room ≤ new.room

-- the whole message with this number that has these bytes
abbrev pub whole_message : ℕ → List ℕ → Incoming
whole_message n bytes = record { n = n; len = length bytes; bytes = bytes }

-- the whole messages whose bytes stand at places, where the first of these places has this number
abbrev pub placed : ℕ → List (Option (List ℕ)) → List (Option Incoming)
placed first [] = []
placed first (place ∷ places) = option_map (whole_message first) place ∷ placed (first + 1) places

-- the messages that stand at these places
abbrev pub standing : List (Option Incoming) → List Incoming
standing whole = flat_map option_to_list whole

-- what stands at a place has its number, where the first of these places has this one
abbrev pub AreAtNumbers : ℕ → List (Option Incoming) → Type 0
AreAtNumbers first [] = Unit {0}
AreAtNumbers first (place ∷ places) = IfSome place (λ m. m.n ≡ first) × AreAtNumbers (first + 1) places

-- an unfinished message is the last one counted, behind all whole ones, and there is a place for it
pub record IsLast (count : ℕ) (whole : List Incoming) (places : ℕ) (m : Incoming) : Type 0 where
  pub last : m.n + 1 ≡ count
  pub behind : AreNumbered 0 m.n whole
  pub unfinished : length m.bytes < m.len
  pub kept : count ≤ places

-- what the fields of a sender keep: whole messages by rising numbers, and perhaps an unfinished one
pub record AreReceived (count : ℕ) (whole : List Incoming) (unfinished : Option Incoming)
    (places : ℕ) : Type 0 where
  pub numbered : AreNumbered 0 count whole
  pub are_whole : AllByRecursion (λ m. length m.bytes ≡ m.len) whole
  pub last : IfSome unfinished (IsLast count whole places)

-- each whole message stands at the place of its number, where the first place has this one, and those
-- that were counted are not too many
pub record AreAtPlaces (first count : ℕ) (whole : List (Option Incoming))
    (unfinished : Option Incoming) : Type 0 where
  pub numbers : AreAtNumbers first whole
  pub counted : first + length whole ≤ count
  pub behind : IfSome unfinished (λ m. first + length whole ≤ m.n)
  pub few : count ≤ MAX_PACKETS

-- a message that lacks nothing is put at its place, where the first place has this number, and an
-- unfinished one is left
pub record IsPut (first : ℕ) (old new : List (Option Incoming)) (m : Incoming)
    (left : Option Incoming) : Type 0 where
  pub finished : length m.bytes ≡ m.len → (left ≡ None)
      × (new ≡ old ++ replicate (m.n - first - length old) None ++ Some m ∷ [])
  pub unfinished : length m.bytes < m.len → (left ≡ Some m) × (new ≡ old)

-- the first of the places is empty
abbrev pub begins_empty : List (Option (List ℕ)) → Bool
begins_empty [] = false
begins_empty (None ∷ places) = true
begins_empty (Some bytes ∷ places) = false

-- the number of the first place, where a message with this number is put next
abbrev pub first_place : ℕ → List (Option (List ℕ)) → ℕ → ℕ
first_place first [] next = next
first_place first (place ∷ places) next = first

-- the number of the message that is put next
abbrev pub next_put : ℕ → Option Incoming → ℕ
next_put count unfinished = option_map_or (λ m. m.n) unfinished count
