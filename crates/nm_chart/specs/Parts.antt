-- What the program answers where it has words: the picture of the part that they ask for.
use Rattle.std.specs.Prelude.{◌≡◌, ℕ, ◌<◌, Bool, true, false, List, IfSome, Option, Some, None}
use Rattle.std.specs.Prelude.{get_or, length}
use Rattle.nm_outside.specs.Told.{Rose}
use Rattle.nm_report.specs.declared.accounts.RankAccount.{RankAccount}
use Rattle.nm_report.specs.declared.records.RunRecord.{RunRecord}
use Rattle.nm_diagram.specs.declared.frames.Part.{Part}
use Rattle.nm_diagram.specs.Frames.{IsSilent}
use Rattle.nm_picture.specs.Pictures.{IsPictureIn}
use Rattle.nm_page.specs.Pages.{IsPageIn}
use Rattle.nm_shell.specs.Done.{Ending, unread}
use Rattle.nm_chart.specs.Given.{IsReadFor, IsSaid}
use Rattle.nm_chart.specs.PartWords.{InRange, asked_of}
use Rattle.nm_chart.specs.declared.outcomes.Form.{Form}
use Rattle.nm_chart.specs.declared.outcomes.Form.TheVariants.{Picture, Page}
use Rattle.nm_chart.specs.declared.outcomes.Outcome.{Outcome}
use Rattle.nm_chart.specs.declared.outcomes.Outcome.TheVariants.{Usage, Unread, Refused, Drawn}
use Rattle.nm_chart.specs.Endings.{IsBadTrace, IsTraceOfOne, usage}
use Rattle.nm_check.specs.Texts.{trace_fault_text}
use Rattle.nm_shell.specs.Inputs.{read_of}

-- what is left of a rank: all where it is chosen, and nothing where it is not
abbrev pub IsKept : Bool → RankAccount → RankAccount → Type 0
IsKept true old new = new ≡ old
IsKept false old new = IsSilent new

-- the same of each of these ranks
pub record AreKept (chosen : List Bool) (old new : List RankAccount) : Type 0 where
  pub many : length new ≡ length old
  pub each : (rank : ℕ) (none : RankAccount) → rank < length old →
      IsKept (get_or chosen rank false) (get_or old rank none) (get_or new rank none)

-- the text shows this part of a run, by its picture or by the page that holds it
abbrev pub Shows : Form → Part → RunRecord → List ℕ → Type 0
Shows Picture part run text = IsPictureIn part run text
Shows Page part run text = IsPageIn part run text

-- the text is that of the outcome
abbrev pub Says : Form → Outcome → List ℕ → Type 0
Says form Usage text = text ≡ usage
Says form Unread text = text ≡ unread
Says form (Refused line) text = text ≡ trace_fault_text line
Says form (Drawn run part) text = Shows form part run text

-- the status of an outcome that was written
abbrev pub outcome_status : Outcome → ℕ
outcome_status (Drawn run part) = 0
outcome_status Usage = 2
outcome_status Unread = 4
outcome_status (Refused line) = 9

-- a picture has room for the ranks, and the part is one
abbrev pub CanBeShown : Outcome → Type 0
CanBeShown (Drawn run part) = (length run.ranks ≡ 64) × InRange part
CanBeShown _ = Unit {0}

-- an outcome of bytes that were read is right: what is drawn is this part of the record whose trace they are,
-- with nothing of the ranks that are not chosen
abbrev pub IsFoundIn : Part → List ℕ → Outcome → Type 0
IsFoundIn part bytes (Drawn kept drawn) =
    (drawn ≡ part) × (run : RunRecord) × IsTraceOfOne bytes run × AreKept part.chosen run.ranks kept.ranks
IsFoundIn part bytes (Refused line) = IsBadTrace bytes line
IsFoundIn part bytes _ = ⊥

-- an outcome is right: by the words, by the bytes of the source where it tells them, and by its count of faults
-- before and after
abbrev pub IsOutcome : List (List ℕ) → Option (List ℕ) → ℕ → ℕ → Outcome → Type 0
IsOutcome words input old new Usage = asked_of words ≡ None
IsOutcome words input old new Unread = ((part : Part) × (asked_of words ≡ Some part)) × Rose old new
IsOutcome words input old new outcome =
    (part : Part) × (asked_of words ≡ Some part) × IfSome input (λ bytes. IsFoundIn part (read_of bytes) outcome)

-- the source was read
abbrev pub WasTaken : Outcome → Type 0
WasTaken Usage = ⊥
WasTaken Unread = ⊥
WasTaken _ = Unit {0}

-- no read failed
abbrev pub WasQuiet : Outcome → Type 0
WasQuiet Unread = ⊥
WasQuiet _ = Unit {0}

-- `chart_part` ends with this outcome, said in this form: it is right, and the source was read for it
pub record ChartsPart (form : Form) (e : Ending) (outcome : Outcome) : Type 0 where
  pub right : IsOutcome e.words e.input e.read_old e.read_new outcome
  pub read : IsReadFor (WasQuiet outcome) (WasTaken outcome) e.input e.left e.read_old e.read_new
  pub said :
      IsSaid (Says form outcome) (outcome_status outcome) e.status e.before e.after (Rose e.write_old e.write_new)
