-- The numbers of packets.
use Rattle.std.specs.Prelude.{ℕ, zero, suc, ◌+◌, ◌<◌}
use Rattle.std.specs.Coded.{×_prop, Unit-prop, le_prop}
use Rattle.nm_types.specs.declared.limits.TheConstants.{MAX_PACKETS}

-- so many numbers from this one on are numbers of packets
abbrev pub AreInRange : ℕ → ℕ → Type 0
AreInRange number zero = Unit {0}
AreInRange number (suc more) = (number < MAX_PACKETS) × AreInRange (number + 1) more

-- which can be so in one way only
pub AreInRange-prop : (number many : ℕ) → IsProp (AreInRange number many)
AreInRange-prop number zero = Unit-prop
AreInRange-prop number (suc more) = ×_prop le_prop (AreInRange-prop (number + 1) more)
