-- A list of which memory holds the end alone.
use Rattle.std.specs.Prelude.{ℕ, ◌<◌, ◌≤◌, List, length, drop, take}

-- the whole list; how many items at its front were let go; and for how many there is a place, those
-- among them
pub record Keeping (T : Type 0) : Type 0 where
  pub items : List T
  pub forgotten : ℕ
  pub places : ℕ

-- the items that were let go
abbrev pub past : {T : Type 0} → Keeping T → List T
past kept = take kept.forgotten kept.items

-- the items in memory
abbrev pub window : {T : Type 0} → Keeping T → List T
window kept = drop kept.forgotten kept.items

-- item n is in memory
pub record IsHeld {T : Type 0} (kept : Keeping T) (n : ℕ) : Type 0 where
  pub behind : kept.forgotten ≤ n
  pub within : n < length kept.items
