-- What is looked up of each rank of a run.
use Rattle.std.specs.Prelude.{◌≡◌, ℕ, ◌<◌, IsSomeAnd, List, length, slice_get, slice_index_or}
use Rattle.nm_types.specs.declared.scripts.Line.{Line}
use Rattle.nm_history.specs.Quiescence.{Ended}
use Rattle.nm_check_rank.specs.Tabled.{AreRankTables}
use Rattle.nm_check_rank.specs.declared.paired.tables.Tables.{Tables}

-- these are the tables of each of these ranks, by its lines of a script
pub record EachTabled (lines : List Line) (ranks : List Ended) (tables : List Tables) : Type 0 where
  pub as_many : length tables ≡ length ranks
  pub each :
      (i : ℕ) (table : Tables) → i < length tables → table ≡ slice_index_or tables i table →
      IsSomeAnd (slice_get ranks i) (λ rank. AreRankTables i lines rank.events table)

-- .. by the lines of some script
abbrev pub AreTabled : List Ended → List Tables → Type 0
AreTabled ranks tables = (lines : List Line) × EachTabled lines ranks tables
