-- What a source and a sink tell of their bytes. Of bytes that are not told nothing is said.
use Rattle.std.specs.Prelude.{◌≡◌, ℕ, ◌-◌, ◌<◌, ◌≤◌, ◌^◌, ◌⊎◌, List, ◌++◌, length, take, drop}
use Rattle.std.specs.Prelude.{Option, Some, None}

-- a count rose, or stands at its last value
abbrev pub Rose : ℕ → ℕ → Type 0
Rose old new = (old < new) ⊎ (new ≡ 2 ^ 64 - 1)

-- the bytes are as they were
abbrev pub Stays : Option (List ℕ) → Option (List ℕ) → Type 0
Stays (Some old) new = new ≡ Some old
Stays None new = Unit {0}

-- the first n of the bytes went to the buffer's front, and the others are left
abbrev pub Moves : Option (List ℕ) → Option (List ℕ) → List ℕ → ℕ → Type 0
Moves (Some old) left buffer n =
    (n ≤ length old) × (take n buffer ≡ take n old) × (left ≡ Some (drop n old))
Moves None left buffer n = Unit {0}

-- the bytes went to the end
abbrev pub Appends : Option (List ℕ) → Option (List ℕ) → List ℕ → Type 0
Appends (Some old) new bytes = new ≡ Some (old ++ bytes)
Appends None new bytes = Unit {0}

-- a front of the bytes went to the end
abbrev pub AppendsPart : Option (List ℕ) → Option (List ℕ) → List ℕ → Type 0
AppendsPart old new bytes = (n : ℕ) × (n ≤ length bytes) × Appends old new (take n bytes)

-- at most so many bytes went, all from the front
abbrev pub LosesAtMost : ℕ → Option (List ℕ) → Option (List ℕ) → Type 0
LosesAtMost limit (Some old) left = (n : ℕ) × (n ≤ limit) × (left ≡ Some (drop n old))
LosesAtMost limit None left = Unit {0}

-- what was read is the front of all, and the source has the rest
abbrev pub ReadSoFar : Option (List ℕ) → Option (List ℕ) → List ℕ → Type 0
ReadSoFar (Some all) left read = (rest : List ℕ) × (left ≡ Some rest) × (all ≡ read ++ rest)
ReadSoFar None left read = Unit {0}

-- the front of the bytes was written, and this is the rest
abbrev pub WrittenSoFar : Option (List ℕ) → Option (List ℕ) → List ℕ → List ℕ → Type 0
WrittenSoFar old new bytes rest =
    (n : ℕ) × (n ≤ length bytes) × (rest ≡ drop n bytes) × Appends old new (take n bytes)
