-- The events of a trace, and their lines.
use Rattle.std.specs.Prelude.{◌≡◌, ℕ, ◌+◌, Option, Some, None, List, length, sum_by, take}
use Rattle.nm_history.specs.Quiescence.{Ended}
use Rattle.nm_check_rank.specs.declared.breaks.Break.{Break}
use Rattle.nm_check_rank.specs.declared.breaks.Break.TheVariants.{At, Behind}
use Rattle.nm_check.specs.declared.firsts.Spot.{Spot}
use Rattle.nm_breaks.specs.declared.places.EventLine.{EventLine}

-- how many events these ranks have
abbrev pub events_in : List Ended → ℕ
events_in ranks = sum_by (λ e. length e.events) ranks

-- The line of a trace, counted from 1, with the event of a rank at a place: the events of the ranks before
-- it stand before, a line each.
abbrev pub line_of : List Ended → ℕ → ℕ → ℕ
line_of ranks rank k = events_in (take rank ranks) + k + 1

-- an event with its line
abbrev pub told_at : List Ended → Spot → EventLine
told_at ranks spot = record { spot = spot; line = line_of ranks spot.rank spot.at }

-- the event of a rank at which a rule breaks, if it breaks at one
abbrev pub told_of : List Ended → ℕ → Break → Option EventLine
told_of ranks rank (At k) = Some (told_at ranks (record { rank = rank; at = k }))
told_of ranks rank Behind = None

-- it is an event of which this is so, with its line
abbrev pub IsTold : List Ended → (Spot → Type 0) → EventLine → Type 0
IsTold ranks P event = (spot : Spot) × P spot × (event ≡ told_at ranks spot)
