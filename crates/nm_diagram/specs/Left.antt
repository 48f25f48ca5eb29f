-- Messages that nobody took: those that arrived and are still free at the end of the trace. MPI 3.1, 3.5.
use Rattle.std.specs.Prelude.{ℕ, ◌&&◌, Bool, false, nat_le, if◌then◌else◌, List, [], ◌∷◌, flat_map, length}
use Rattle.std.specs.List.{list_any}
use Rattle.nm_types.specs.declared.messages.Arrival.{Arrival}
use Rattle.nm_history.specs.declared.events.Event.{Event}
use Rattle.nm_history.specs.declared.events.Happened.{Happened}
use Rattle.nm_history.specs.declared.events.Happened.TheVariants.{Arrive}
use Rattle.nm_history.specs.declared.plain.Pair.{Pair}
use Rattle.nm_history.specs.Matching.{is_free, matched_pairs}
use Rattle.nm_report.specs.declared.accounts.RankAccount.{RankAccount}
use Rattle.nm_diagram.specs.declared.frames.Span.{Span}
use Rattle.nm_diagram.specs.declared.rings.Ring.{Ring}
use Rattle.nm_diagram.specs.Diagrams.{from_lane}
use Rattle.nm_diagram.specs.Frames.{is_shown}

-- an event is the arrival of a message that is free at the end
abbrev pub is_left : List Event → List Pair → Happened → Bool
is_left events pairs (Arrive a) = is_free events pairs a
is_left events pairs _ = false

-- the same, and it is shown
abbrev pub is_left_at : Span → List Event → List Pair → Event → Bool
is_left_at span events pairs event = is_shown span event && is_left events pairs event.what

-- the ring of an arrival
abbrev pub ring_by : ℕ → ℕ → Arrival → Ring
ring_by rank stamp a = record { lane = rank; stamp = stamp; n = a.n; from = a.env.from }

-- the ring of an event, if it is an arrival
abbrev pub ring_of : ℕ → ℕ → Happened → List Ring
ring_of rank stamp (Arrive a) = ring_by rank stamp a ∷ []
ring_of rank stamp _ = []

-- an arrival of a message that is left has one ring
abbrev pub rings_at : Span → ℕ → List Event → List Pair → Event → List Ring
rings_at span rank events pairs event =
    if is_left_at span events pairs event then ring_of rank event.stamp event.what else []

-- a rank has at most 4,096 events, among which messages that are left are looked for
abbrev pub are_few : List Event → Bool
are_few events = nat_le (length events) 4096

-- the rings of these events
abbrev pub rings_among : Span → ℕ → List Event → List Ring
rings_among span rank events = flat_map (rings_at span rank events (matched_pairs events)) events

-- the rings of a rank
abbrev pub rings_of : Span → ℕ → RankAccount → List Ring
rings_of span rank account =
    if are_few account.history.events then rings_among span rank account.history.events else []

-- the rings of all ranks
abbrev pub all_rings : Span → List RankAccount → List Ring
all_rings span ranks = from_lane (rings_of span) 0 ranks

-- some message of these events is left
abbrev pub some_left : Span → List Event → Bool
some_left span events = list_any (is_left_at span events (matched_pairs events)) events

-- a rank has a message that is left
abbrev pub has_left : Span → RankAccount → Bool
has_left span account = if are_few account.history.events then some_left span account.history.events else false
