-- The event of the other rank that an event is held against.
use Rattle.std.specs.Prelude.{◌≡◌, ◌==◌, ◌||◌, ℕ, Bool, true, false, if◌then◌else◌, Option, None, List}
use Rattle.std.specs.Prelude.{MatchOption, option_and_then, option_map, position, slice_get, take}
use Rattle.nm_types.specs.declared.scripts.Line.{Line}
use Rattle.nm_types.specs.Commands.{Numbered, command_at, commands_of}
use Rattle.nm_history.specs.declared.events.Event.{Event}
use Rattle.nm_history.specs.declared.events.Happened.{Happened}
use Rattle.nm_history.specs.declared.events.Happened.TheVariants.{Arrive, Out, Withdraw, Undone, Ran}
use Rattle.nm_history.specs.declared.plain.Pair.{Pair}
use Rattle.nm_history.specs.Delivery.{asked_pair}
use Rattle.nm_history.specs.Happens.{is_recall, is_send, is_withdraw}
use Rattle.nm_history.specs.Quiescence.{Ended, history_of}
use Rattle.nm_check_rank.specs.Takes.{IsTakenAt}
use Rattle.nm_check.specs.declared.firsts.Spot.{Spot}
use Rattle.nm_breaks.specs.Places.{told_at}
use Rattle.nm_breaks.specs.declared.places.EventLine.{EventLine}

-- message n of this rank was withdrawn, done or late
abbrev pub is_withdrawal : ℕ → ℕ → Happened → Bool
is_withdrawal from n what = is_withdraw from n true what || is_withdraw from n false what

-- What happened at rank x is held against this at the other rank: an arrival against its send, a withdrawal against
-- its recall, and the answer to a recall against its withdrawal.
abbrev pub is_mate : ℕ → Happened → Happened → Bool
is_mate x (Arrive a) other = is_send x a.n other
is_mate x (Withdraw from n done) other = is_recall x n other
is_mate x (Undone to n done) other = is_withdrawal x n other
is_mate x what other = false

-- the event of rank y at a place, with its line of the trace
abbrev pub held_at : List Ended → ℕ → ℕ → EventLine
held_at ranks y k = told_at ranks (record { rank = y; at = k })

-- the first event of rank y that passes a test
abbrev pub first_held : List Ended → ℕ → (Happened → Bool) → Option EventLine
first_held ranks y test = option_map (held_at ranks y) (position (λ e. test e.what) (history_of ranks y))

-- it is that by which a receive of rank y took message n of rank x, if one did
abbrev pub IsTakenBy : List Ended → ℕ → ℕ → ℕ → Option EventLine → Type 0
IsTakenBy ranks x n y other =
    (t : Option ℕ) × IsTakenAt (history_of ranks y) x n t × (other ≡ option_map (held_at ranks y) t)

-- the pair whose message an answer shows
abbrev pub pair_shown : List Numbered → List Event → Happened → Option Pair
pair_shown commands before (Ran line answer) = option_and_then (asked_pair commands before) (command_at commands line)
pair_shown commands before what = None

-- the send of the message that a pair of rank x has
abbrev pub sent_held : List Ended → ℕ → Option Pair → Option EventLine
sent_held ranks x pair =
    option_and_then (λ p. first_held ranks p.arrival.env.from (is_send x p.arrival.n)) pair

-- The event of rank x with this before it is held against this one of rank y: a message that left, against the
-- event by which a receive took it, and an answer, against the send of the message that it shows.
abbrev pub IsHeldAgainst : List Line → List Ended → ℕ → List Event → Happened → ℕ → Option EventLine → Type 0
IsHeldAgainst lines ranks x before (Out to n) y other = IsTakenBy ranks x n y other
IsHeldAgainst lines ranks x before (Ran line answer) y other =
    other ≡ sent_held ranks x (pair_shown (commands_of x lines) before (Ran line answer))
IsHeldAgainst lines ranks x before what y other = other ≡ first_held ranks y (is_mate x what)

-- .. of the event at a place of rank i or rank j
abbrev pub IsOtherEvent : List Line → List Ended → ℕ → ℕ → Spot → Option EventLine → Type 0
IsOtherEvent lines ranks i j spot other =
    MatchOption (slice_get (history_of ranks spot.rank) spot.at) (other ≡ None)
    (λ e. IsHeldAgainst lines ranks spot.rank (take spot.at (history_of ranks spot.rank)) e.what
    (if spot.rank == i then j else i) other)
