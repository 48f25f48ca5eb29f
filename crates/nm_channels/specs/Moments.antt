-- The moments of a rank: its events, with the packets and pieces that it took. No program keeps
-- them: they are what its calls did, one after another.
use Rattle.std.specs.Prelude.{ℕ, ◌+◌, ◌==◌, max, if◌then◌else◌, Option, Some, None, List, [], ◌∷◌}
use Rattle.std.specs.Prelude.{◌++◌, length, fold, filter_map}
use Rattle.nm_history.specs.declared.events.Event.{Event}
use Rattle.nm_history.specs.Known.{Taken}
use Rattle.nm_history.specs.Pieces.{Pulled}

-- why something happened at a rank: by a command or by what left it, or by a packet or a piece that
-- it took
pub data Cause : Type 0 where
  Acted : Cause
  Took : (t : Taken) → Cause
  Drew : (d : Pulled) → Cause

-- a moment of a rank: its cause, and the events that it made
pub record LogEntry : Type 0 where
  pub cause : Cause
  pub events : List Event

-- the history of a rank with these moments
abbrev pub history_of : List LogEntry → List Event
history_of [] = []
history_of (m ∷ log) = m.events ++ history_of log

-- the packet of a cause, if it is of this rank
abbrev pub taken_of : ℕ → Cause → Option Taken
taken_of from (Took t) = if t.packet.from == from then Some t else None
taken_of from _ = None

-- the piece of a cause, if it is of this rank
abbrev pub pulled_of : ℕ → Cause → Option Pulled
pulled_of from (Drew d) = if d.piece.from == from then Some d else None
pulled_of from _ = None

-- the packets that were taken from a rank
abbrev pub taken_from : ℕ → List LogEntry → List Taken
taken_from from log = filter_map (λ m. taken_of from m.cause) log

-- the pieces that were taken from a rank
abbrev pub pulled_from : ℕ → List LogEntry → List Pulled
pulled_from from log = filter_map (λ m. pulled_of from m.cause) log

-- a packet sets the clock forward to its stamp
abbrev pub clock_at : ℕ → Cause → ℕ
clock_at clock (Took t) = max clock t.packet.stamp
clock_at clock _ = clock

-- the clock after one moment more: each event adds 1
abbrev pub clock_after : ℕ → LogEntry → ℕ
clock_after clock m = clock_at clock m.cause + length m.events

-- the clock after these moments
abbrev pub clock_of : List LogEntry → ℕ
clock_of log = fold clock_after 0 log

-- R holds of each of these moments and the moments before it, of which the first ones are given
abbrev pub EachMomentAfter : (List LogEntry → LogEntry → Type 0) → List LogEntry → List LogEntry → Type 0
EachMomentAfter R before [] = Unit {0}
EachMomentAfter R before (m ∷ log) = R before m × EachMomentAfter R (before ++ m ∷ []) log

-- R holds of each moment and the moments before it
abbrev pub EachMoment : (List LogEntry → LogEntry → Type 0) → List LogEntry → Type 0
EachMoment R log = EachMomentAfter R [] log
