-- What there is to say of a script and a trace, and the flag in its picture.
use Rattle.std.specs.Prelude.{◌≡◌, ℕ, ◌≤◌, List, ◌++◌, IfSome, Option, Some, None, codes, decimal, length}
use Rattle.std.specs.Prelude.{slice_get}
use Rattle.nm_history.specs.declared.events.Event.{Event}
use Rattle.nm_outside.specs.Told.{Rose}
use Rattle.nm_script.specs.declared.command_line.CommandLine.{CommandLine}
use Rattle.nm_report.specs.declared.accounts.RankAccount.{RankAccount}
use Rattle.nm_diagram.specs.Frames.{whole}
use Rattle.nm_picture.specs.declared.flags.Flag.{Flag}
use Rattle.nm_picture.specs.declared.flags.Flag.TheVariants as flag
use Rattle.nm_picture.specs.Flags.{IsFlaggedIn}
use Rattle.nm_shell.specs.Done.{Ending, unread}
use Rattle.nm_chart.specs.Given.{IsReadFor, IsSaid}
use Rattle.nm_chart.specs.Endings.{usage}
use Rattle.nm_breaks.specs.Answers.{IsAsked, NotAsked}
use Rattle.nm_check.specs.Answers.{verdict_status}
use Rattle.nm_shell.specs.Inputs.{read_of}
use Rattle.nm_breaks.specs.Found.{IsFound}
use Rattle.nm_breaks.specs.declared.finding.Found.{Found}
use Rattle.nm_breaks.specs.declared.finding.Found.TheVariants as found
use Rattle.nm_breaks.specs.Judgements.{judged_as}
use Rattle.nm_breaks.specs.declared.judgements.Judgement.{Judgement}
use Rattle.nm_breaks.specs.declared.judgements.Judgement.TheVariants.{Holds, Own, Carried, Left, Standing, Counted}
use Rattle.nm_breaks.specs.declared.judgements.Judgement.TheVariants.{Home, Done}
use Rattle.nm_breaks.specs.declared.places.EventLine.{EventLine}
use Rattle.nm_chart.specs.declared.check.findings.Finding.{Finding}
use Rattle.nm_chart.specs.declared.check.findings.Finding.TheVariants.{Usage, Unread, NoScript, NoTrace, Drawn}

-- the flag at an event, in its line of the trace
abbrev pub event_flag : EventLine → Option Event → Option Flag
event_flag event None = None
event_flag event (Some happened) = Some (flag.Event event.spot.rank happened.stamp event.line)

-- .. of a rank, where there is that rank
abbrev pub flag_at : EventLine → Option RankAccount → Option Flag
flag_at event None = None
flag_at event (Some account) = event_flag event (slice_get account.history.events event.spot.at)

-- the flag at the event at which a rank breaks a rule, or at its end
abbrev pub own_flag : List RankAccount → ℕ → Option EventLine → Option Flag
own_flag ranks rank (Some event) = flag_at event (slice_get ranks event.spot.rank)
own_flag ranks rank None = Some (flag.Behind rank)

-- the flag of a judgement: at an event, at the end of a rank, or a line alone
abbrev pub flag_of : List RankAccount → Judgement → Option Flag
flag_of ranks Holds = None
flag_of ranks (Own clause rank first event) = own_flag ranks rank event
flag_of ranks (Carried clause from to event other against) = flag_at event (slice_get ranks event.spot.rank)
flag_of ranks (Left rule event) = flag_at event (slice_get ranks event.spot.rank)
flag_of ranks (Standing rank waits next) = Some (flag.Behind rank)
flag_of ranks (Counted line miscount) = Some (flag.Line line)
flag_of ranks (Home line cells) = Some (flag.Line line)
flag_of ranks (Done line) = Some (flag.Line line)

-- what is said of a script or a trace that is none
abbrev pub fault_text : List ℕ → ℕ → List ℕ
fault_text of line = codes "fault " ++ (of ++ (codes " " ++ (decimal line ++ codes "\n")))

-- the text is that of a finding
abbrev pub Says : Finding → List ℕ → Type 0
Says Usage text = text ≡ usage
Says Unread text = text ≡ unread
Says (NoScript line) text = text ≡ fault_text (codes "script") line
Says (NoTrace line) text = text ≡ fault_text (codes "trace") line
Says (Drawn run verdict its_flag) text = IsFlaggedIn whole its_flag run text

-- the status of a finding that was written
abbrev pub status_of : Finding → ℕ
status_of (Drawn run verdict its_flag) = verdict_status verdict
status_of Usage = 2
status_of (NoScript line) = 3
status_of Unread = 4
status_of (NoTrace line) = 9

-- a picture has room for the ranks
abbrev pub CanBeDrawn : Finding → Type 0
CanBeDrawn (Drawn run verdict its_flag) = length run.ranks ≤ 256
CanBeDrawn _ = Unit {0}

-- .. of a record that was found
abbrev pub CanBeFound : Found → Type 0
CanBeFound (found.Judged before j run) = length run.ranks ≤ 256
CanBeFound _ = Unit {0}

-- what there is to say of what was found: of a trace its record, the verdict, and the flag at its place
abbrev pub finding_of : Found → Finding
finding_of found.NoTrace = NoTrace 0
finding_of (found.NoScript line kind) = NoScript line
finding_of (found.BadTrace before line stop) = NoTrace line
finding_of (found.Judged before j run) = Drawn run (judged_as j) (flag_of run.ranks j)

-- what there is to say of bytes in these sizes
pub record IsAnswerIn (line : CommandLine) (finding : Finding) (bytes : List ℕ) : Type 0 where
  pub what : Found
  pub right : IsFound line.cells line.eager bytes what
  pub said : finding ≡ finding_of what

-- an answer is right: by the words, by the bytes of the source, and by its count of faults before and after
abbrev pub IsAnswer : List (List ℕ) → Option (List ℕ) → ℕ → ℕ → Finding → Type 0
IsAnswer words input old new Usage = NotAsked words
IsAnswer words input old new Unread = ((line : CommandLine) × IsAsked words line) × Rose old new
IsAnswer words input old new finding =
    (line : CommandLine) × IsAsked words line × IfSome input (λ bytes. IsAnswerIn line finding (read_of bytes))

-- the source was read
abbrev pub WasRead : Finding → Type 0
WasRead Usage = ⊥
WasRead Unread = ⊥
WasRead _ = Unit {0}

-- no read failed
abbrev pub WasQuiet : Finding → Type 0
WasQuiet Unread = ⊥
WasQuiet _ = Unit {0}

-- `chart_check` ends with this finding: it is right, the source was read for it, and it was said
pub record ChartsCheck (e : Ending) (finding : Finding) : Type 0 where
  pub right : IsAnswer e.words e.input e.read_old e.read_new finding
  pub read : IsReadFor (WasQuiet finding) (WasRead finding) e.input e.left e.read_old e.read_new
  pub said : IsSaid (Says finding) (status_of finding) e.status e.before e.after (Rose e.write_old e.write_new)
