-- All reports that the runs of a script can have.
use Rattle.std.specs.Prelude.{◌≡◌, ℕ, ◌<◌, ◌⊎◌, false, List, [], ◌∷◌, Contains, map, option_map}
use Rattle.std.specs.List.{All, AllByRecursion, range_with_len, slice_get}
use Rattle.nm_types.specs.declared.scripts.Line.{Line}
use Rattle.nm_types.specs.Sizes.{Sizes}
use Rattle.nm_report.specs.declared.records.RunRecord.{RunRecord}
use Rattle.nm_report.specs.Lawful.{IsRunIn}
use Rattle.nm_report.specs.Report.{report_text}
use Rattle.nm_report.specs.Told.{RankTold, told_of}
use Rattle.nm_types.specs.Commands.{commands_of}
use Rattle.nm_types.specs.Limits.{IsScript}
use Rattle.nm_outcomes.specs.Logs.{Step}
use Rattle.nm_outcomes.specs.Paths.{AreMoves, first_place, moved_by}
use Rattle.nm_outcomes.specs.Places.{RankPoint, is_quiet}
use Rattle.nm_outcomes.specs.Rests.{AreAtRest}

-- some run of the script in these sizes has this report
abbrev pub IsReportOfRun : Sizes → List Line → List ℕ → Type 0
IsReportOfRun shape lines text =
    (run : RunRecord) × IsRunIn shape lines run × (report_text false run ≡ text)

-- one text stands before another one in the order of a dictionary
abbrev pub IsBefore : List ℕ → List ℕ → Type 0
IsBefore [] [] = ⊥
IsBefore [] (y ∷ ys) = Unit {0}
IsBefore (x ∷ xs) [] = ⊥
IsBefore (x ∷ xs) (y ∷ ys) = (x < y) ⊎ ((x ≡ y) × IsBefore xs ys)

-- the texts rise, so that each stands there once
abbrev pub AreRising : List (List ℕ) → Type 0
AreRising [] = Unit {0}
AreRising (text ∷ texts) = All (IsBefore text) texts × AreRising texts

-- These are the reports of all runs of the script in these sizes, each once. So they are a function
-- of the script and the sizes alone.
pub record AreOutcomes (shape : Sizes) (lines : List Line) (texts : List (List ℕ)) : Type 0 where
  pub rising : AreRising texts
  pub lawful : All (IsReportOfRun shape lines) texts
  pub complete :
      (run : RunRecord) → IsRunIn shape lines run → Contains texts (report_text false run)

-- what a rank at a place told, and the line of its next command
abbrev pub told_at : List Line → (ℕ → RankPoint) → ℕ → RankTold
told_at lines w i =
    record {
      answers = (w i).told;
      waits = option_map (λ c. c.line) (slice_get (commands_of i lines) (w i).done);
    }

-- these moves, none of which is quiet, lead to places at rest, at which the ranks told what the run tells
pub record IsPathTo (shape : Sizes) (lines : List Line) (run : RunRecord) (log : List Step) : Type 0 where
  pub moves : AreMoves shape lines (λ i. first_place) log
  pub loud : AllByRecursion (λ (step : Step). is_quiet step.event.what ≡ false) log
  pub rest : AreAtRest shape lines (moved_by lines (λ i. first_place) log)
  pub told :
      told_of run
      ≡ map (told_at lines (moved_by lines (λ i. first_place) log)) (range_with_len 0 shape.ranks)

-- what a run tells is told at the end of some moves
abbrev pub RunsAreFound : Type 0
RunsAreFound =
    (shape : Sizes) (lines : List Line) (run : RunRecord) → IsScript shape.ranks lines →
    IsRunIn shape lines run → (log : List Step) × IsPathTo shape lines run log
