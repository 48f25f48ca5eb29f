-- All runs of a plain script have the report of its plain run.
use Rattle.std.specs.Prelude.{◌≡◌, false, IsTrue, List}
use Rattle.std.specs.List.{list_all}
use Rattle.nm_types.specs.declared.scripts.Line.{Line}
use Rattle.nm_types.specs.Limits.{IsScript}
use Rattle.nm_types.specs.Sizes.{Sizes}
use Rattle.nm_report.specs.declared.records.RunRecord.{RunRecord}
use Rattle.nm_report.specs.Lawful.{IsRunIn}
use Rattle.nm_report.specs.Report.{report_text}
use Rattle.nm_report.specs.Told.{told_of}
use Rattle.nm_sure.specs.Plain.{is_plain}
use Rattle.nm_sure.specs.PlainText.{plain_done, plain_text, plain_told}

-- each command is plain
abbrev pub ArePlain : List Line → Type 0
ArePlain lines = IsTrue (list_all (λ line. is_plain line.command) lines)

-- each run of this script has the report of its plain run
abbrev pub IsDeterminate : Sizes → List Line → Type 0
IsDeterminate shape lines =
    (run : RunRecord) → IsRunIn shape lines run → report_text false run ≡ plain_text shape lines

-- all plain scripts are determinate
abbrev pub PlainRunsAgree : Type 0
PlainRunsAgree =
    (shape : Sizes) (lines : List Line) → IsScript shape.ranks lines → ArePlain lines →
    IsDeterminate shape lines

-- each run of a plain script tells what its plain run does, and is done where that is
abbrev pub PlainRunsTell : Type 0
PlainRunsTell =
    (shape : Sizes) (lines : List Line) (run : RunRecord) → IsScript shape.ranks lines → ArePlain lines →
    IsRunIn shape lines run →
    (told_of run ≡ plain_told shape lines) × (run.done ≡ plain_done shape lines)
