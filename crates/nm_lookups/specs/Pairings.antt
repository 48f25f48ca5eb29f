-- What a pairing tells of a history.
use Rattle.std.specs.Prelude.{◌≡◌, ℕ, ◌==◌, if◌then◌else◌, nat_lt, Option, Some, None}
use Rattle.std.specs.Prelude.{option_and_then, List, slice_get, take}
use Rattle.indexmap.specs.IndexMap.{IndexMap, get}
use Rattle.nm_types.specs.Commands.{commands_of}
use Rattle.nm_types.specs.declared.messages.Arrival.{Arrival}
use Rattle.nm_types.specs.declared.scripts.Line.{Line}
use Rattle.nm_history.specs.declared.events.Event.{Event}
use Rattle.nm_history.specs.declared.plain.Pair.{Pair}
use Rattle.nm_history.specs.Completion.{pair_of_receive}
use Rattle.nm_history.specs.Matching.{matched_pairs}
use Rattle.nm_lookups.specs.Placed.{AreTaken}
use Rattle.nm_lookups.specs.declared.pairing.pairings.Paired.{Paired}
use Rattle.nm_lookups.specs.declared.pairing.pairings.Pairing.{Pairing}
use Rattle.nm_lookups.specs.declared.pairing.pairings.Tables.{Tables}
use Rattle.nm_lookups.specs.Looks.{look_of}
use Rattle.nm_lookups.specs.Queues.{HasQueuesOf}

-- the pair, if it was made before this place
abbrev pub pair_before : ℕ → Option Paired → Option Pair
pair_before k paired = option_and_then (λ p. if nat_lt p.place k then Some p.pair else None) paired

-- the pairs of the receives, each with the place at which it was made
abbrev pub ArePaired : {S : Type 0} → List Event → IndexMap ℕ Paired S → Type 0
ArePaired h receives =
    (number k : ℕ) →
    pair_before k (get ◌==◌ receives number) ≡ pair_of_receive (take k h) number

-- what was found at each place
abbrev pub AreLooks : ℕ → List Line → List Event → List (Option Arrival) → Type 0
AreLooks rank lines h looks =
    (k : ℕ) (e : Event) → slice_get h k ≡ Some e →
    slice_get looks k ≡ Some (look_of (commands_of rank lines) (take k h) e.what)

-- the pairs of a history, in order and by name
pub record ArePairTables (h : List Event) (tables : Tables) : Type 0 where
  pub pairs : tables.pairs.items ≡ matched_pairs h
  pub taken : AreTaken h tables.taken
  pub receives : ArePaired h tables.receives

-- what was paired with what before each event of a history, and what was free
pub record Tells (rank : ℕ) (lines : List Line) (h : List Event) (pairing : Pairing) : Type 0 where
  pub tables : ArePairTables h pairing.tables
  pub looks : AreLooks rank lines h pairing.looks.items
  pub queues : HasQueuesOf h pairing.matcher
