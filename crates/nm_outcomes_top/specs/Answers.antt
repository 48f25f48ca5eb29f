-- What the program answers: a text and a status.
use Rattle.std.specs.Prelude.{◌≡◌, ◌≢◌, ℕ, ◌⊎◌, List, [], Option, IfSome, if◌then◌else◌, nat_lt, take}
use Rattle.nm_outside.specs.Told.{Rose}
use Rattle.nm_types.specs.declared.scripts.Line.{Line}
use Rattle.nm_types.specs.Sizes.{Sizes}
use Rattle.nm_script.specs.Rules.{IsFirstFault}
use Rattle.nm_script.specs.Spelled.{IsTextOf}
use Rattle.nm_script.specs.FaultTexts.{fault_text}
use Rattle.nm_shell.specs.Inputs.{HasNoParts, IsInput}
use Rattle.nm_shell.specs.Done.{Ending, IsSaid, unread}
use Rattle.nm_outcomes.specs.Outcomes.{AreOutcomes}
use Rattle.nm_explored.specs.Met.{AreTooMany}
use Rattle.nm_hangs.specs.Found.{HasNoHang, IsHangTrace}
use Rattle.nm_listed.specs.Finding.{AreTooLong, HasFewer, IsOutcomeTrace}
use Rattle.nm_listed.specs.Places.{IsPlace}
use Rattle.nm_listed.specs.declared.places.Place.{Place}
use Rattle.nm_listed.specs.declared.places.Place.TheVariants.{At, Not}
use Rattle.nm_variants.specs.Reports.{AreVariantOutcomes, HasTooManyStates, HaveTooManyBytes}
use Rattle.nm_variants.specs.Variants.{variants}
use Rattle.nm_outcomes_top.specs.declared.answers.Response.{Response}
use Rattle.nm_outcomes_top.specs.declared.answers.Response.TheVariants.{NoReport, Outgrown, Refused, Told, Unread, Usage}
use Rattle.nm_outcomes_top.specs.declared.asking.Finding.{Finding}
use Rattle.nm_outcomes_top.specs.declared.asking.Finding.TheVariants as finding
use Rattle.nm_outcomes_top.specs.declared.tellings.Telling.{Telling}
use Rattle.nm_outcomes_top.specs.declared.tellings.Telling.TheVariants.{Fewer, Hung, Joined, Listed, NoHang, Placed, Traced}
use Rattle.nm_outcomes_top.specs.declared.words.Asked.{Asked}
use Rattle.nm_outcomes_top.specs.declared.words.Question.{Question}
use Rattle.nm_outcomes_top.specs.declared.words.Question.TheVariants.{All, Trace, Among, Either, Hangs}
use Rattle.nm_outcomes_top.specs.Texts.{fewer_text, is_stuck, joined_text, no_hang_text, no_report, outcomes_text}
use Rattle.nm_outcomes_top.specs.Texts.{over_text, place_text, stuck_count, usage}
use Rattle.nm_outcomes_top.specs.OptionWords.{IsTaken, NotTaken, sizes_for}

-- how many bytes are read at most: one more than a script's text may have, or than a script and a report may
abbrev pub limit_of : Question → ℕ
limit_of Among = 67108865
limit_of _ = 8388609

-- what is read of a source: all of it, or as many bytes
abbrev pub read_of : Question → List ℕ → List ℕ
read_of question bytes = take (limit_of question) bytes

-- what is told of the reports that a script can have
abbrev pub telling_text : Telling → List ℕ
telling_text (Listed texts) = outcomes_text texts
telling_text (Traced trace) = trace.items
telling_text (Fewer number count) = fewer_text number count
telling_text (Placed place) = place_text place
telling_text (Joined texts count) = joined_text count texts
telling_text (Hung trace) = trace.items
telling_text NoHang = no_hang_text

-- the text of an answer
abbrev pub text_of : Response → List ℕ
text_of Usage = usage
text_of Unread = unread
text_of NoReport = no_report
text_of (Refused line kind) = fault_text line kind
text_of (Outgrown question states) = over_text question states
text_of (Told telling) = telling_text telling

-- the status of reports that were listed: whether one of them is stuck
abbrev pub listed_status : List (List ℕ) → ℕ
listed_status texts = if nat_lt 0 (stuck_count texts) then 1 else 0

-- the status of a trace: whether its last line says that a rank is stuck
abbrev pub traced_status : List ℕ → ℕ
traced_status trace = if is_stuck trace then 1 else 0

-- the status of a given report: whether it is one of those that the script can have
abbrev pub placed_status : Place → ℕ
placed_status (At number) = 0
placed_status (Not line) = 8

-- the status of what is told
abbrev pub telling_status : Telling → ℕ
telling_status (Listed texts) = listed_status texts
telling_status (Traced trace) = traced_status trace.items
telling_status (Fewer number count) = 7
telling_status (Placed place) = placed_status place
telling_status (Joined texts count) = listed_status texts
telling_status (Hung trace) = 1
telling_status NoHang = 0

-- the status of an answer that was written
abbrev pub status_of : Response → ℕ
status_of Usage = 2
status_of Unread = 4
status_of NoReport = 9
status_of (Refused line kind) = 3
status_of (Outgrown question states) = 10
status_of (Told telling) = telling_status telling

-- What is told is right, by what is asked of the reports that the script can have in these sizes: all of them; a trace
-- of the one with this number, or that there are fewer; where the given report stands among them; all of them where
-- each standard send may wait, and how many variants that makes; a trace of a run that hangs, or that none does.
abbrev pub IsTelling : Question → Sizes → List Line → List ℕ → Telling → Type 0
IsTelling All shape lines report (Listed texts) = AreOutcomes shape lines texts
IsTelling (Trace number) shape lines report (Traced trace) = IsOutcomeTrace shape lines number trace.items
IsTelling (Trace number) shape lines report (Fewer other count) =
    (other ≡ number) × HasFewer shape lines number count
IsTelling Among shape lines report (Placed place) =
    (texts : List (List ℕ)) × AreOutcomes shape lines texts × IsPlace texts report place
IsTelling Either shape lines report (Joined texts count) =
    AreVariantOutcomes shape lines texts × (count ≡ variants shape.eager lines)
IsTelling Hangs shape lines report (Hung trace) = IsHangTrace shape lines trace.items
IsTelling Hangs shape lines report NoHang = HasNoHang shape lines
IsTelling question shape lines report telling = ⊥

-- the search for all reports, at the one eager limit, answers this question
abbrev pub IsOfReports : Question → Type 0
IsOfReports Either = ⊥
IsOfReports Hangs = ⊥
IsOfReports _ = Unit {0}

-- what was found out is right: what is told, or that the reports that the script can have have too many bytes
abbrev pub IsFinding : Question → Sizes → List Line → List ℕ → Finding → Type 0
IsFinding question shape lines report (finding.Told telling) = IsTelling question shape lines report telling
IsFinding question shape lines report finding.TooLong = AreTooLong shape lines

-- the ranks come into more states than the words allow, or all reports that the script can have have too many bytes
abbrev pub IsOutgrowing : Asked → Sizes → List Line → Type 0
IsOutgrowing asked shape lines =
    AreTooMany shape.eager shape.ranks lines asked.states ⊎ AreTooLong shape lines

-- .. where each standard send may wait
abbrev pub IsOutgrowingEither : Asked → Sizes → List Line → Type 0
IsOutgrowingEither asked shape lines = HasTooManyStates shape lines asked.states ⊎ HaveTooManyBytes shape lines

-- .. by the question
abbrev pub IsOver : Asked → Sizes → List Line → Type 0
IsOver asked shape lines =
    ((asked.question ≢ Either) × IsOutgrowing asked shape lines)
    ⊎ ((asked.question ≡ Either) × IsOutgrowingEither asked shape lines)

-- an answer for a script is right: what is asked of its reports, or that there are too many states or bytes
abbrev pub IsAnswerFor : Asked → ℕ → List Line → List ℕ → Response → Type 0
IsAnswerFor asked ranks lines report (Told telling) =
    IsTelling asked.question (sizes_for asked ranks) lines report telling
IsAnswerFor asked ranks lines report (Outgrown question states) =
    (question ≡ asked.question) × (states ≡ asked.states) × IsOver asked (sizes_for asked ranks) lines
IsAnswerFor asked ranks lines report _ = ⊥

-- the text of a script has this answer, with the given report
pub record IsSpelled (asked : Asked) (script report : List ℕ) (answer : Response) : Type 0 where
  pub ranks : ℕ
  pub lines : List Line
  pub spelled : IsTextOf script ranks lines
  pub right : IsAnswerFor asked ranks lines report answer

-- an answer to the text of a script and a given report is right
abbrev pub IsAnswerIn : Asked → List ℕ → List ℕ → Response → Type 0
IsAnswerIn asked script report Usage = ⊥
IsAnswerIn asked script report Unread = ⊥
IsAnswerIn asked script report NoReport = ⊥
IsAnswerIn asked script report (Refused line kind) = IsFirstFault script line kind
IsAnswerIn asked script report answer = IsSpelled asked script report answer

-- the bytes are the text of a script, and where a report is asked of, that stands behind the first line `---`
abbrev pub IsInputOf : Question → List ℕ → List ℕ → List ℕ → Type 0
IsInputOf Among bytes script report = IsInput bytes script report
IsInputOf _ bytes script report = (script ≡ bytes) × (report ≡ [])

-- the answer is right for the parts of these bytes
pub record IsParted (asked : Asked) (bytes : List ℕ) (answer : Response) : Type 0 where
  pub script : List ℕ
  pub report : List ℕ
  pub input : IsInputOf asked.question bytes script report
  pub right : IsAnswerIn asked script report answer

-- an answer to bytes that were read is right
abbrev pub IsAnswerTo : Asked → List ℕ → Response → Type 0
IsAnswerTo asked bytes Usage = ⊥
IsAnswerTo asked bytes Unread = ⊥
IsAnswerTo asked bytes NoReport = (asked.question ≡ Among) × HasNoParts bytes
IsAnswerTo asked bytes answer = IsParted asked bytes answer

-- an answer to words that are taken is right: by the bytes of the source where it tells them, and by its
-- count of faults before and after
abbrev pub IsAnswerOf : Asked → Option (List ℕ) → ℕ → ℕ → Response → Type 0
IsAnswerOf asked input old new Usage = ⊥
IsAnswerOf asked input old new Unread = Rose old new
IsAnswerOf asked input old new answer =
    IfSome input (λ bytes. IsAnswerTo asked (read_of asked.question bytes) answer)

-- the words ask for one thing, and this is a right answer to them
pub record IsAnswerToWords (words : List (List ℕ)) (input : Option (List ℕ)) (old new : ℕ)
    (answer : Response) : Type 0 where
  pub asked : Asked
  pub taken : IsTaken words asked
  pub only : (other : Asked) → IsTaken words other → other ≡ asked
  pub right : IsAnswerOf asked input old new answer

-- an answer is right
abbrev pub IsAnswer : List (List ℕ) → Option (List ℕ) → ℕ → ℕ → Response → Type 0
IsAnswer words input old new Usage = NotTaken words
IsAnswer words input old new answer = IsAnswerToWords words input old new answer

-- it ends with this answer: it is right, and its text was written, whole and with its status, or the sink failed
pub record TellsOutcomes (e : Ending) (answer : Response) : Type 0 where
  pub right : IsAnswer e.words e.input e.read_old e.read_new answer
  pub said : IsSaid (text_of answer) (status_of answer) e.status e.before e.after (Rose e.write_old e.write_new)
