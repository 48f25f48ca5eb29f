-- What a slot holds.
use Rattle.std.specs.Prelude.{Bool, true, false, Option, Some, None}
use Rattle.std.specs.declared.boxed.Box.{Box}

-- the value in the box where the slot is full, and none where it isn't
abbrev pub load_of : {A Z : Type 0} → Bool → Option (Box A Z) → Option A
load_of true (Some b) = Some b.value
load_of true None = None
load_of false y = None
