-- What is looked up of a rank's history.
use Rattle.std.specs.Prelude.{ℕ, List}
use Rattle.nm_types.specs.Commands.{commands_of}
use Rattle.nm_types.specs.declared.scripts.Line.{Line}
use Rattle.nm_types.specs.Sizes.{Sizes}
use Rattle.nm_history.specs.declared.events.Event.{Event}
use Rattle.nm_history.specs.RankRun.{IsRankRun}
use Rattle.nm_lookups.specs.AskedFor.{IsAskedOf}
use Rattle.nm_check_rank.specs.Counted.{AreCounted}
use Rattle.nm_check_rank.specs.FirstBroken.{IsFirstBroken}
use Rattle.nm_check_rank.specs.OwnBreaks.{IsBreach}
use Rattle.nm_check_rank.specs.OwnClauses.{KeepsOwn, own_order}
use Rattle.nm_lookups.specs.Pairings.{Tells}
use Rattle.nm_lookups.specs.Placed.{ArePlaces}
use Rattle.nm_check_rank.specs.declared.paired.judging.Judged.{Judged}
use Rattle.nm_check_rank.specs.declared.paired.judging.Judged.TheVariants.{Breaks, Runs}
use Rattle.nm_check_rank.specs.declared.paired.tables.Tables.{Tables}

-- these are the tables of a history, of the rank with this number in a script of these lines
pub record AreRankTables (rank : ℕ) (lines : List Line) (h : List Event) (tables : Tables) :
    Type 0 where
  pub counts : AreCounted h tables.counts
  pub places : ArePlaces h tables.places
  pub tells : Tells rank lines h tables.pairing
  pub asked : IsAskedOf (commands_of rank lines) h tables.asked

-- The verdict on a rank's own run: its tables where it is a run of the rank's first commands, else
-- the first of its rules that is broken, and where it breaks a rule first.
abbrev pub IsJudged : Sizes → ℕ → List Line → ℕ → List Event → Judged → Type 0
IsJudged shape rank lines at h (Runs tables) =
    IsRankRun shape (commands_of rank lines) at h × AreRankTables rank lines h tables
IsJudged shape rank lines at h (Breaks clause first) =
    IsFirstBroken (KeepsOwn shape (commands_of rank lines) at h) own_order clause
    × IsBreach shape (commands_of rank lines) at h first
