-- What the program answers: a text, a status, the record of a run, and what the closed ports kept.
use Rattle.std.specs.Prelude.{◌≡◌, ℕ, ◌^◌, ◌<◌, Bool, true, false, if◌then◌else◌, List, [], ◌++◌, IfSome, Option}
use Rattle.std.specs.Prelude.{Some, None, codes, drop}
use Rattle.nm_outside.specs.Told.{Rose}
use Rattle.nm_script.specs.CommandWords.{IsTaken}
use Rattle.nm_script.specs.declared.command_line.CommandLine.{CommandLine}
use Rattle.nm_script.specs.declared.command_line.Mode.{Mode}
use Rattle.nm_script.specs.declared.command_line.Mode.TheVariants as mode
use Rattle.nm_script.specs.Rules.{IsFirstFault}
use Rattle.nm_script.specs.Spelled.{IsTextOf, SpellsNone}
use Rattle.nm_script.specs.declared.faults.Kind.{Kind}
use Rattle.nm_script.specs.declared.faults.TextFault.{TextFault}
use Rattle.nm_script.specs.declared.faults.TextFault.TheVariants as fault
use Rattle.nm_script.specs.FaultTexts.{fault_text}
use Rattle.nm_report.specs.Report.{report_text}
use Rattle.nm_report.specs.Summary.{CountsFit, summary_text}
use Rattle.nm_report.specs.Told.{told_of}
use Rattle.nm_report.specs.declared.records.RunRecord.{RunRecord}
use Rattle.nm_types.specs.declared.scripts.Line.{Line}
use Rattle.nm_multi.specs.Calls.{Logged as Log}
use Rattle.nm_multi.specs.Programs.{IsWhole}
use Rattle.nm_multi.specs.Text.{bytes_got, log_text}
use Rattle.nm_world.specs.declared.whole.Ways.{Ways}
use Rattle.nm_cli.specs.declared.answers.Response.{Response}
use Rattle.nm_cli.specs.declared.answers.Response.TheVariants.{Usage, Unread, Refused, Ran}
use Rattle.nm_cli.specs.declared.answers.Response.TheVariants.{Free, Determinate, Checked, NoPlan, Planned}
use Rattle.nm_cli.specs.declared.answers.Response.TheVariants.{Logged}
use Rattle.nm_sure.specs.Agree.{ArePlain}
use Rattle.nm_sure.specs.Plain.{first_free}
use Rattle.nm_sure.specs.PlainText.{plain_done, plain_text}
use Rattle.nm_plans.specs.Expansion.{expand}
use Rattle.nm_plans.specs.declared.lines.PlanLine.{PlanLine}
use Rattle.nm_persist.specs.Report.{run_text as plan_run_text}
use Rattle.nm_persist.specs.Rules.{IsTextOf as IsPlanText}
use Rattle.nm_shell.specs.Done.{unread}
use Rattle.nm_check.specs.Answers.{IsTrialOf, trial_status}
use Rattle.nm_cli.specs.Checks.{IsCheckedAs, checked_text}
use Rattle.nm_cli.specs.Plains.{IsNotPlain, IsPlain, free_text}
use Rattle.nm_cli.specs.Plans.{IsRunOfPlan, PlanRefuses, plan_fault_text}
use Rattle.nm_cli.specs.Scripts.{IsRunOfScript, IsRunOfWords, Reads, ReadsSource, Runs}
use Rattle.nm_cli.specs.Scripts.{limit_of, read_of, sizes_for}

-- what is said of words that are not taken
abbrev pub usage : List ℕ
usage =
    codes "usage: nemesis run [--cells N] [--eager N]\n"
    ++ codes "       nemesis trace [--cells N] [--eager N]\n"
    ++ codes "       nemesis flood KEY RANKS MESSAGES [--cells N] [--eager N]\n"
    ++ codes "       nemesis plain [--cells N] [--eager N]\n"
    ++ codes "       nemesis check [--cells N] [--eager N]\n"
    ++ codes "       nemesis parts [--cells N] [--eager N]\n"
    ++ codes "       nemesis multi THREADS ROUNDS\n"

-- what is said of a run: its report, its report with each event, or its summary
abbrev pub run_text : Mode → RunRecord → List ℕ
run_text mode.Run run = report_text false run
run_text mode.Trace run = report_text true run
run_text (mode.Flood key ranks messages) run = summary_text key messages run
run_text _ run = []

-- the text of an answer
abbrev pub text_of : Response → List ℕ
text_of Usage = usage
text_of Unread = unread
text_of (Refused line kind) = fault_text line kind
text_of (Ran mode run ways) = run_text mode run
text_of (Free line) = free_text line
text_of (Determinate run) = run.text.items
text_of (Checked trial) = checked_text trial
text_of (NoPlan line kind) = plan_fault_text line kind
text_of (Planned plan run ways) = plan_run_text plan.lines run
text_of (Logged threads rounds log) = log_text threads rounds log.entries

-- the status of a run: whether every rank is at its end
abbrev pub end_status : Bool → ℕ
end_status done = if done then 0 else 1

-- the status of an answer that was written
abbrev pub status_of : Response → ℕ
status_of Usage = 2
status_of Unread = 4
status_of (Refused line kind) = 3
status_of (Ran mode run ways) = end_status run.done
status_of (Free line) = 7
status_of (Determinate run) = end_status run.done
status_of (Checked trial) = trial_status trial
status_of (NoPlan line kind) = 3
status_of (Planned plan run ways) = end_status run.done
status_of (Logged threads rounds log) = 0

-- the record of an answer
abbrev pub run_of : Response → Option RunRecord
run_of (Ran mode run ways) = Some run
run_of (Planned plan run ways) = Some run
run_of _ = None

-- what the closed ports of its run kept
abbrev pub ways_of : Response → Option Ways
ways_of (Ran mode run ways) = Some ways
ways_of (Planned plan run ways) = Some ways
ways_of _ = None

-- the log of an answer
abbrev pub log_of : Response → Option Log
log_of (Logged threads rounds log) = Some log
log_of _ = None

-- the numbers of a summary fit
abbrev pub CanBeTold : Response → Type 0
CanBeTold (Ran mode run ways) = CountsFit (told_of run)
CanBeTold (Logged threads rounds log) = bytes_got log.entries < 2 ^ 64
CanBeTold _ = Unit {0}

-- A script of these lines is answered by its run, whose numbers fit a summary, or, where only what all its
-- runs report is asked for, by that, or by the line at which it is not plain.
abbrev pub IsAnswerFor : CommandLine → ℕ → List Line → Response → Type 0
IsAnswerFor line ranks lines (Ran mode run ways) =
    Runs line.mode × (mode ≡ line.mode) × IsRunOfScript line ranks lines run ways × CountsFit (told_of run)
IsAnswerFor line ranks lines (Free number) = (line.mode ≡ mode.Plain) × (first_free lines ≡ Some number)
IsAnswerFor line ranks lines (Determinate run) =
    (line.mode ≡ mode.Plain) × ArePlain lines
    × (run.text.items ≡ plain_text (sizes_for line ranks) lines)
    × (run.done ≡ plain_done (sizes_for line ranks) lines)
IsAnswerFor line ranks lines _ = ⊥

-- the script of a plan ran
abbrev pub IsAnswerForPlan : CommandLine → ℕ → List PlanLine → Response → Type 0
IsAnswerForPlan line ranks lines (Planned plan run ways) =
    (plan.lines ≡ lines) × IsRunOfScript line ranks (expand lines) run ways
IsAnswerForPlan line ranks lines _ = ⊥

-- the log is that of so many threads of so many rounds, and its numbers fit a summary
abbrev pub IsLogOf : ℕ → ℕ → Response → Type 0
IsLogOf many_threads many_rounds (Logged threads rounds log) =
    (threads ≡ many_threads) × (rounds ≡ many_rounds) × IsWhole threads rounds log.entries
    × (bytes_got log.entries < 2 ^ 64)
IsLogOf many_threads many_rounds _ = ⊥

-- the source was read
abbrev pub WasRead : Response → Type 0
WasRead Unread = ⊥
WasRead _ = Unit {0}

-- Unless a read failed, the source was read to its end or to the limit, where the words read it, and its
-- count of faults is as it was.
pub record IsRead (line : CommandLine) (input left : Option (List ℕ)) (old new : ℕ) (answer : Response)
    : Type 0 where
  pub quiet : WasRead answer → new ≡ old
  pub whole : WasRead answer → ReadsSource line.mode →
      IfSome input (λ bytes. left ≡ Some (drop (limit_of line.mode) bytes))

-- and so it was for what the words ask for
pub record IsReadFor (words : List (List ℕ)) (input left : Option (List ℕ)) (old new : ℕ)
    (answer : Response) : Type 0 where
  pub quiet : WasRead answer → new ≡ old
  pub whole : WasRead answer → (line : CommandLine) → IsTaken words line → ReadsSource line.mode →
      IfSome input (λ bytes. left ≡ Some (drop (limit_of line.mode) bytes))

-- the words are not taken
abbrev pub NotTaken : List (List ℕ) → Type 0
NotTaken words = (line : CommandLine) → ¬ (IsTaken words line)

-- the first fault of the bytes
unfoldable pub IsTold : List ℕ → ℕ → Kind → Type 0
IsTold bytes line kind = IsFirstFault bytes line kind

-- a refusal says the first fault of the bytes, which spell no script; want of memory says nothing
abbrev pub Refuses : List ℕ → TextFault Kind → Type 0
Refuses bytes (fault.Bad line kind) = IsTold bytes line kind × SpellsNone bytes
Refuses bytes fault.Memory = Unit {0}

-- An answer to the bytes that were read is right, by what the words ask for: the bytes spell no script or
-- no plan, or they spell one, which is answered, or they are a script and a trace, or none.
abbrev pub IsAnswerForBytes : CommandLine → List ℕ → Response → Type 0
IsAnswerForBytes line bytes (Refused number kind) = Reads line.mode × Refuses bytes (fault.Bad number kind)
IsAnswerForBytes line bytes (Checked trial) =
    (line.mode ≡ mode.Check) × IsTrialOf line trial bytes
IsAnswerForBytes line bytes (NoPlan number kind) =
    (line.mode ≡ mode.Parts) × PlanRefuses bytes (fault.Bad number kind)
IsAnswerForBytes line bytes (Planned plan run ways) =
    (line.mode ≡ mode.Parts) × (ranks : ℕ) × IsPlanText bytes ranks plan.lines
    × IsRunOfScript line ranks (expand plan.lines) run ways
IsAnswerForBytes line bytes answer =
    Reads line.mode × (ranks : ℕ) × (lines : List Line) × IsTextOf bytes ranks lines
    × IsAnswerFor line ranks lines answer

-- An answer to words that are taken is right: by what they ask for, by the bytes of the source where it
-- tells them, and by its count of faults before and after.
abbrev pub IsAnswerTo : CommandLine → Option (List ℕ) → ℕ → ℕ → Response → Type 0
IsAnswerTo line input old new Usage = ⊥
IsAnswerTo line input old new Unread = ReadsSource line.mode × Rose old new
IsAnswerTo line input old new (Refused number kind) =
    Reads line.mode × IfSome input (λ bytes. Refuses (read_of bytes) (fault.Bad number kind))
IsAnswerTo line input old new (Ran mode run ways) =
    Runs line.mode × (mode ≡ line.mode) × IsRunOfWords line input run ways
IsAnswerTo line input old new (Free number) = (line.mode ≡ mode.Plain) × IfSome input (IsNotPlain number)
IsAnswerTo line input old new (Determinate run) =
    (line.mode ≡ mode.Plain) × IfSome input (IsPlain line run.text.items run.done)
IsAnswerTo line input old new (Checked trial) =
    (line.mode ≡ mode.Check) × IfSome input (IsCheckedAs line trial)
IsAnswerTo line input old new (NoPlan number kind) =
    (line.mode ≡ mode.Parts) × IfSome input (λ bytes. PlanRefuses (read_of bytes) (fault.Bad number kind))
IsAnswerTo line input old new (Planned plan run ways) =
    (line.mode ≡ mode.Parts) × IsRunOfPlan line input plan.lines run ways
IsAnswerTo line input old new (Logged threads rounds log) =
    (line.mode ≡ mode.Multi threads rounds) × IsWhole threads rounds log.entries

-- the words ask for one thing, and the answer to it is right
pub record IsAnswered (words : List (List ℕ)) (input : Option (List ℕ)) (old new : ℕ) (answer : Response)
    : Type 0 where
  pub line : CommandLine
  pub taken : IsTaken words line
  pub only : (other : CommandLine) → IsTaken words other → other ≡ line
  pub right : IsAnswerTo line input old new answer

-- the answer is right: the words are not taken, or they are answered
abbrev pub IsAnswer : List (List ℕ) → Option (List ℕ) → ℕ → ℕ → Response → Type 0
IsAnswer words input old new Usage = NotTaken words
IsAnswer words input old new answer = IsAnswered words input old new answer
