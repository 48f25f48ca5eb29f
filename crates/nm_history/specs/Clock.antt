-- A rank's clock. Lamport 1978: each event adds 1, and a packet sets the clock forward to its
-- stamp.
use Rattle.std.specs.Prelude.{◌≡◌, ℕ, ◌+◌, List, [], ◌∷◌}
use Rattle.nm_history.specs.declared.events.Event.{Event}
use Rattle.nm_history.specs.declared.events.Happened.{Happened}

-- the events of what happens from this clock on
abbrev pub stamped : ℕ → List Happened → List Event
stamped clock [] = []
stamped clock (w ∷ ws) = record { stamp = clock + 1; what = w } ∷ stamped (clock + 1) ws

-- the events have the stamps that follow this clock
abbrev pub AreStamped : ℕ → List Event → Type 0
AreStamped clock [] = Unit {0}
AreStamped clock (e ∷ events) = (e.stamp ≡ clock + 1) × AreStamped (clock + 1) events
