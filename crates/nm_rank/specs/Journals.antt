-- What contracts see of a journal.
use Rattle.std.specs.Prelude.{ℕ, ◌≤◌, List}
use Rattle.nm_types.specs.declared.limits.TheConstants.{MAX_STAMP}
use Rattle.nm_history.specs.declared.events.Event.{Event}
use Rattle.nm_history.specs.AtEach.{AtEach}
use Rattle.nm_history.specs.RankRun.{StampAt, last_stamp}

-- the events, oldest first, the clock, and how many more events there is room for
pub record JournalView : Type 0 where
  pub events : List Event
  pub clock : ℕ
  pub spare : ℕ

-- stamps rise, none is past the clock, and the clock is within the limit of stamps
pub record IsJournal (h : List Event) (clock : ℕ) : Type 0 where
  pub stamps : AtEach (λ before e. StampAt before e.stamp) h
  pub reached : last_stamp h ≤ clock
  pub in_time : clock ≤ MAX_STAMP
