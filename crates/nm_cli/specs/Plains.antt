-- What is said of a plain script, all of whose runs have one report.
use Rattle.std.specs.Prelude.{◌≡◌, ℕ, Bool, List, ◌++◌, Some, codes, decimal}
use Rattle.nm_types.specs.declared.scripts.Line.{Line}
use Rattle.nm_types.specs.Sizes.{Sizes}
use Rattle.nm_script.specs.declared.command_line.CommandLine.{CommandLine}
use Rattle.nm_script.specs.declared.command_line.Mode.{Mode}
use Rattle.nm_script.specs.declared.command_line.Mode.TheVariants.{Run, Flood}
use Rattle.nm_script.specs.Spelled.{IsTextOf}
use Rattle.nm_report.specs.Summary.{told_summary}
use Rattle.nm_report.specs.Cells.{all_home}
use Rattle.nm_sure.specs.Agree.{ArePlain}
use Rattle.nm_sure.specs.Plain.{first_free}
use Rattle.nm_sure.specs.PlainText.{plain_done, plain_text, plain_told}
use Rattle.nm_cli.specs.Scripts.{read_of, sizes_for}

-- what is said of a script that is not plain: the line of its first command that is not
abbrev pub free_text : ℕ → List ℕ
free_text line = codes "fault plain " ++ (decimal line ++ codes "\n")

-- the bytes spell a script whose first command that is not plain stands on this line
pub record IsNotPlain (number : ℕ) (bytes : List ℕ) : Type 0 where
  pub ranks : ℕ
  pub lines : List Line
  pub spelled : IsTextOf (read_of bytes) ranks lines
  pub first : first_free lines ≡ Some number

-- the bytes spell a plain script, of whose plain run this is the report and the end
pub record IsPlain (line : CommandLine) (text : List ℕ) (done : Bool) (bytes : List ℕ) : Type 0 where
  pub ranks : ℕ
  pub lines : List Line
  pub spelled : IsTextOf (read_of bytes) ranks lines
  pub plain : ArePlain lines
  pub reported : text ≡ plain_text (sizes_for line ranks) lines
  pub ended : done ≡ plain_done (sizes_for line ranks) lines

-- these words say the same of each run of this script: of a plain one its report, of a flood its summary
abbrev pub IsDeterminate : Mode → List Line → Type 0
IsDeterminate Run lines = ArePlain lines
IsDeterminate (Flood key ranks messages) lines = Unit {0}
IsDeterminate _ lines = ⊥

-- what they say of it, by the script and the sizes alone
abbrev pub sure_text : Mode → Sizes → List Line → List ℕ
sure_text (Flood key ranks messages) shape lines =
    told_summary key shape.ranks messages (plain_told shape lines) (all_home shape) (plain_done shape lines)
sure_text _ shape lines = plain_text shape lines
