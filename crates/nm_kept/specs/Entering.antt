-- Entries by number, of which memory holds some.
use Rattle.std.specs.Prelude.{◌≡◌, ℕ, Bool, if◌then◌else◌, List, [], length, count_by, nat_eq}
use Rattle.std.specs.Prelude.{Option, Some, None}
use Rattle.std.specs.List.{IsDistinct}
use Rattle.std.specs.Map.{keys_of, lookup, set_value, values_of}
use Rattle.indexmap.specs.IndexMap.{insert_all}

-- all entries, by number, each new one behind the others; those in memory; and the room for more of them
pub record Entering (T : Type 0) : Type 0 where
  pub entries : List (ℕ × T)
  pub live : List (ℕ × T)
  pub spare : ℕ

-- the entries that come of these puts and changes: a new number goes behind the others, and one that is
-- there gets the value
abbrev pub noted : {T : Type 0} → List (ℕ × T) → List (ℕ × T)
noted log = insert_all nat_eq [] log

-- the value, where it passes the test
abbrev pub kept_if : {T : Type 0} → (T → Bool) → Option T → Option T
kept_if lives None = None
kept_if lives (Some x) = if lives x then Some x else None

-- number n has this value in memory, or none, and each other number what it had
abbrev pub SetsLive : {T : Type 0} → ℕ → Option T → List (ℕ × T) → List (ℕ × T) → Type 0
SetsLive n value old new =
    (q : ℕ) → lookup (nat_eq q) new ≡ (if nat_eq n q then value else lookup (nat_eq q) old)

-- the entries are the same, but for the value of number n
abbrev pub SameOthers : {T : Type 0} → ℕ → List (ℕ × T) → List (ℕ × T) → Type 0
SameOthers {T} n old new = (value : T) → set_value (nat_eq n) new value ≡ set_value (nat_eq n) old value

-- No number stands twice, and memory holds the entries that pass the test, and no other.
pub record AreLive {T : Type 0} (lives : T → Bool) (e : Entering T) : Type 0 where
  pub there : (n : ℕ) → lookup (nat_eq n) e.live ≡ kept_if lives (lookup (nat_eq n) e.entries)
  pub many : length e.live ≡ count_by lives (values_of e.entries)
  pub distinct : IsDistinct nat_eq (keys_of e.entries)
