-- What is counted of a history.
use Rattle.std.specs.Prelude.{◌≡◌, ℕ, ◌<◌, List, length, slice_index}
use Rattle.nm_history.specs.declared.events.Event.{Event}
use Rattle.nm_history.specs.Sends.{sends, arrivals, receives}
use Rattle.nm_check_rank.specs.declared.numbers.Counts.{Counts}

-- the sends to each rank, the arrivals from each, and the receives, for the ranks that 8 bits name
pub record AreCounted (h : List Event) (counts : Counts) : Type 0 where
  pub sent : (to : ℕ) → to < 256 → slice_index counts.sends to ≡ length (sends h to)
  pub came : (from : ℕ) → from < 256 → slice_index counts.arrivals from ≡ length (arrivals h from)
  pub received : counts.receives ≡ length (receives h)
