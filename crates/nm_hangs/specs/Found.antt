-- What is found of a script that may hang.
use Rattle.std.specs.Prelude.{◌≡◌, ℕ, true, false, List}
use Rattle.nm_types.specs.declared.scripts.Line.{Line}
use Rattle.nm_types.specs.Sizes.{Sizes}
use Rattle.nm_report.specs.declared.records.RunRecord.{RunRecord}
use Rattle.nm_report.specs.Lawful.{IsRunIn}
use Rattle.nm_report.specs.Report.{report_text}
use Rattle.nm_explored.specs.Met.{AreTooMany}
use Rattle.nm_hangs.specs.declared.hangs.Hang.{Hang}
use Rattle.nm_hangs.specs.declared.hangs.Hang.TheVariants.{Found, Never, Open}

-- Each lawful run of the script in these sizes ends with each rank at its end: no blocking call is left that never
-- returns (MPI 3.1, 3.5 and 3.7.3).
abbrev pub HasNoHang : Sizes → List Line → Type 0
HasNoHang shape lines = (run : RunRecord) → IsRunIn shape lines run → run.done ≡ true

-- these bytes are the trace of a lawful run that hangs
pub record IsHangTrace (shape : Sizes) (lines : List Line) (trace : List ℕ) : Type 0 where
  pub run : RunRecord
  pub lawful : IsRunIn shape lines run
  pub hung : run.done ≡ false
  pub trace_is : trace ≡ report_text true run

-- what was found of a script is so; where the limit came, only that there are more states
abbrev pub IsHang : Sizes → List Line → ℕ → Hang → Type 0
IsHang shape lines states (Found trace) = IsHangTrace shape lines trace.items
IsHang shape lines states Never = HasNoHang shape lines
IsHang shape lines states Open = AreTooMany shape.eager shape.ranks lines states
