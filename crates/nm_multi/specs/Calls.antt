-- The calls that were made, and the range of their arguments.
use Rattle.std.specs.Prelude.{ℕ, ◌≤◌, List}
use Rattle.nm_types.specs.Bodies.{body_len}
use Rattle.nm_types.specs.declared.limits.TheConstants.{MAX_BODY, MAX_CAPACITY, MAX_TAG}
use Rattle.nm_multi.specs.declared.calls.Call.{Call}
use Rattle.nm_multi.specs.declared.calls.Call.TheVariants.{Isend, Irecv}
use Rattle.nm_multi.specs.declared.calls.Entry.{Entry}

-- the calls that were made, oldest first, and for how many more there is room
pub record Logged : Type 0 where
  pub entries : List Entry
  pub spare : ℕ

-- the arguments of a call are in range
abbrev pub IsInRange : Call → Type 0
IsInRange (Isend tag body) = (tag ≤ MAX_TAG) × (body_len body ≤ MAX_BODY)
IsInRange (Irecv tag cap) = (tag ≤ MAX_TAG) × (cap ≤ MAX_CAPACITY)
IsInRange _ = Unit {0}
