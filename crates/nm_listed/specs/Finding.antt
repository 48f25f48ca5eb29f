-- What was found of a script.
use Rattle.std.specs.Prelude.{◌≡◌, ℕ, ◌-◌, ◌<◌, ◌≤◌, true, false, List, Some, is_none, length, slice_get}
use Rattle.std.specs.List.{list_all}
use Rattle.nm_types.specs.declared.scripts.Line.{Line}
use Rattle.nm_types.specs.Sizes.{Sizes}
use Rattle.nm_report.specs.declared.records.RunRecord.{RunRecord}
use Rattle.nm_report.specs.Lawful.{IsRunIn}
use Rattle.nm_report.specs.Report.{report_text}
use Rattle.nm_report.specs.Told.{RankTold, told_text}
use Rattle.nm_report.specs.Cells.{all_home}
use Rattle.nm_outcomes.specs.Outcomes.{AreOutcomes}
use Rattle.nm_listed.specs.Texts.{total_length}
use Rattle.nm_listed.specs.declared.finding.Found.{Found}
use Rattle.nm_listed.specs.declared.finding.Found.TheVariants as found
use Rattle.nm_listed.specs.declared.tracing.Traced.{Traced}
use Rattle.nm_listed.specs.declared.tracing.Traced.TheVariants as traced

-- the report of what the ranks of a run told: all cells are home, and it is done where no rank waits
abbrev pub text_of_told : Sizes → List RankTold → List ℕ
text_of_told shape told = told_text told (all_home shape) (list_all (λ rank. is_none rank.waits) told)

-- all reports that the script can have have too many bytes
abbrev pub AreTooLong : Sizes → List Line → Type 0
AreTooLong shape lines =
    (texts : List (List ℕ)) × AreOutcomes shape lines texts × (134217728 < total_length texts)

-- What was found is right: these are all reports that the script can have, or they have too many bytes.
abbrev pub IsFound : Sizes → List Line → Found → Type 0
IsFound shape lines (found.All texts) = AreOutcomes shape lines texts × (total_length texts ≤ 134217728)
IsFound shape lines found.TooLong = AreTooLong shape lines

-- These bytes are the trace of a lawful run, and its report has this number, 1 for the first, among all reports that
-- the script can have.
pub record IsOutcomeTrace (shape : Sizes) (lines : List Line) (number : ℕ) (trace : List ℕ) : Type 0 where
  pub texts : List (List ℕ)
  pub outcomes : AreOutcomes shape lines texts
  pub run : RunRecord
  pub lawful : IsRunIn shape lines run
  pub report : slice_get texts (number - 1) ≡ Some (report_text false run)
  pub trace_is : trace ≡ report_text true run

-- the script can have so many reports, and they are fewer than this number
pub record HasFewer (shape : Sizes) (lines : List Line) (number count : ℕ) : Type 0 where
  pub texts : List (List ℕ)
  pub outcomes : AreOutcomes shape lines texts
  pub many : count ≡ length texts
  pub fewer : count < number

-- What was traced is right: the report with this number, or there are fewer, or they have too many bytes.
abbrev pub IsTraced : Sizes → List Line → ℕ → Traced → Type 0
IsTraced shape lines number (traced.Trace trace) = IsOutcomeTrace shape lines number trace.items
IsTraced shape lines number (traced.Fewer count) = HasFewer shape lines number count
IsTraced shape lines number traced.TooLong = AreTooLong shape lines
