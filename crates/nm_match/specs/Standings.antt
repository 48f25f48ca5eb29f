-- Where receives stand, by their numbers.
use Rattle.std.specs.Prelude.{◌≡◌, ℕ, ◌-◌, ◌<◌, ◌&&◌, Bool, false, Option, None, nat_eq, nat_le, nat_lt}
use Rattle.std.specs.Prelude.{get_or, if◌then◌else◌, length}
use Rattle.std.specs.Option.{option_map, option_or}
use Rattle.indexmap.specs.IndexMap.{get, spare}
use Rattle.nm_match.specs.declared.names.Receive.{Receive}
use Rattle.nm_match.specs.declared.names.Receive.TheVariants as kept
use Rattle.nm_match.specs.declared.names.Standing.{Standing}
use Rattle.nm_match.specs.declared.names.Standing.TheVariants.{Waits, Aside}
use Rattle.nm_match.specs.declared.standings.Row.{Row}
use Rattle.nm_match.specs.declared.standings.Standings.{Standings}

-- a number has a place in the row
abbrev pub has_place : Row → ℕ → Bool
has_place r number = nat_le r.first number && nat_lt (number - r.first) (length r.places.items)

-- what stands at the place of a number in the row
abbrev pub in_row : Row → ℕ → Option Receive
in_row r number = if nat_le r.first number then get_or r.places.items (number - r.first) None else None

-- what is kept of the receive of a number
abbrev pub receive_at : Standings → ℕ → Option Receive
receive_at s number = option_or (in_row s.row number) (get nat_eq s.apart number)

-- where a receive stands: in the bucket of what it names, or aside
abbrev pub standing_of : Receive → Standing
standing_of (kept.Waits ctx from t cap order before next) = Waits (record { from = from; tag = t; ctx = ctx }) order
standing_of kept.Cancelled = Aside

-- where the receive of a number stands
abbrev pub standing_at : Standings → ℕ → Option Standing
standing_at s number = option_map standing_of (receive_at s number)

-- there is room for a number: in the row, or else apart
abbrev pub HasRoom : Standings → ℕ → Type 0
HasRoom s number = has_place s.row number ≡ false → 0 < spare s.apart
