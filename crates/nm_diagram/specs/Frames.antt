-- What fits a picture: its lanes, and the events that it shows.
use Rattle.std.specs.Prelude.{◌≡◌, ℕ, ◌+◌, ◌-◌, ◌<◌, ◌≤◌, ◌^◌, ◌⊎◌, ◌&&◌, ◌==◌, Bool, true, nat_lt, nat_le, List}
use Rattle.std.specs.Prelude.{[], ◌∷◌, false, replicate, slice_set}
use Rattle.std.specs.Prelude.{min, max, None, length, drop, count_by, sum_by, if◌then◌else◌}
use Rattle.std.specs.List.{AllByRecursion, list_any}
use Rattle.nm_types.specs.declared.answers.Answer.TheVariants.{Started}
use Rattle.nm_history.specs.declared.events.Event.{Event}
use Rattle.nm_history.specs.declared.events.Happened.{Happened}
use Rattle.nm_history.specs.declared.events.Happened.TheVariants.{Ran}
use Rattle.nm_report.specs.declared.accounts.RankAccount.{RankAccount}
use Rattle.nm_diagram.specs.declared.frames.Frame.{Frame}
use Rattle.nm_diagram.specs.declared.frames.Part.{Part}
use Rattle.nm_diagram.specs.declared.frames.Span.{Span}

-- an event is shown: its stamp is the first one or a later one, and below the end
abbrev pub is_shown : Span → Event → Bool
is_shown span event = nat_le span.first event.stamp && nat_lt event.stamp span.end

-- the same of a stamp
abbrev pub IsIn : Span → ℕ → Type 0
IsIn span stamp = (span.first ≤ stamp) × (stamp < span.end)

-- how many events of a rank are shown
abbrev pub shown_of : Span → RankAccount → ℕ
shown_of span account = count_by (is_shown span) account.history.events

-- how many events of these ranks are shown
abbrev pub shown_count : Span → List RankAccount → ℕ
shown_count span ranks = sum_by (shown_of span) ranks

-- an event is later than those that are shown
abbrev pub is_later : ℕ → Event → Bool
is_later end event = nat_le end event.stamp

-- how many later events a rank has
abbrev pub later_count : ℕ → RankAccount → ℕ
later_count end account = count_by (is_later end) account.history.events

-- the greatest stamp of an event that is shown, or what was found before
abbrev pub latest : Span → ℕ → List Event → ℕ
latest span found [] = found
latest span found (event ∷ events) =
    latest span (if is_shown span event then max found event.stamp else found) events

-- the same of the events of all these ranks
abbrev pub latest_of_all : Span → ℕ → List RankAccount → ℕ
latest_of_all span found [] = found
latest_of_all span found (account ∷ accounts) =
    latest_of_all span (latest span found account.history.events) accounts

-- an event tells more than that a command was started
abbrev pub tells_more : Happened → Bool
tells_more (Ran line Started) = false
tells_more _ = true

-- which rows are full, with that of an event: one that tells more than a start fills the row of its stamp. Rows are
-- numbered from the stamp below this one on, and the first 1,024 are looked at
abbrev pub with_row : ℕ → List Bool → Event → List Bool
with_row top rows event =
    if tells_more event.what && nat_lt top event.stamp && nat_le (event.stamp - top) 1024
    then slice_set rows (event.stamp - top - 1) true else rows

-- the same with those of all these events
abbrev pub with_rows : ℕ → List Bool → List Event → List Bool
with_rows top rows [] = rows
with_rows top rows (event ∷ events) = with_rows top (with_row top rows event) events

-- and of all these ranks
abbrev pub full_rows : ℕ → List Bool → List RankAccount → List Bool
full_rows top rows [] = rows
full_rows top rows (account ∷ accounts) =
    full_rows top (with_rows top rows account.history.events) accounts

-- an event has this stamp, and tells more than a start
abbrev pub is_more : ℕ → Event → Bool
is_more stamp event = tells_more event.what && event.stamp == stamp

-- a rank has such an event
abbrev pub has_more : ℕ → RankAccount → Bool
has_more stamp account = list_any (is_more stamp) account.history.events

-- the trace says nothing of a rank
abbrev pub IsSilent : RankAccount → Type 0
IsSilent account = (account.history.events ≡ []) × (account.waits ≡ None)

-- the whole of a trace: every stamp that a picture has a place for, every rank, and none behind the last one of
-- which something is said
abbrev pub whole : Part
whole = record { span = record { first = 0; end = 1000001 }; lanes = 0; chosen = replicate 256 true }

-- the stamps from the first one of a span on, below this end
abbrev pub up_to : Span → ℕ → Span
up_to span end = record { first = span.first; end = end }

-- the frame of a part of these ranks: as many lanes as are asked for, or as the last rank has of which the trace
-- says something; the ranks that are chosen; the stamps from the first one that is asked for up to the greatest
-- end such that at most 20,000 events are shown; the greatest stamp of those; how many later events there are; and
-- which rows are full
pub record IsFrame (part : Part) (ranks : List RankAccount) (frame : Frame) : Type 0 where
  pub lanes : frame.lanes ≤ length ranks
  pub asked : part.lanes ≤ frame.lanes
  pub beyond : AllByRecursion IsSilent (drop frame.lanes ranks)
  pub spoken : part.lanes < frame.lanes → ¬ (AllByRecursion IsSilent (drop (frame.lanes - 1) ranks))
  pub chosen : frame.chosen ≡ part.chosen
  pub first : frame.span.first ≡ part.span.first
  pub few : shown_count (up_to part.span frame.span.end) ranks ≤ 20000
  pub most : (frame.span.end ≡ part.span.end)
      ⊎ ((frame.span.end < part.span.end) × (20000 < shown_count (up_to part.span (frame.span.end + 1)) ranks))
  pub bottom : frame.bottom ≡ latest_of_all (up_to part.span frame.span.end) part.span.first ranks
  pub left_out : frame.left_out ≡ min (sum_by (later_count frame.span.end) ranks) (2 ^ 64 - 1)
  pub full : frame.full ≡ full_rows (part.span.first - 1) (replicate 1024 false) ranks
