-- What the program answers: a text and a status.
use Rattle.std.specs.Prelude.{◌≡◌, ℕ, List, Option, Ok, Err, IfSome}
use Rattle.nm_outside.specs.Told.{Rose}
use Rattle.nm_types.specs.declared.scripts.Line.{Line}
use Rattle.nm_script.specs.Rules.{IsFirstFault}
use Rattle.nm_script.specs.Spelled.{IsTextOf}
use Rattle.nm_script.specs.FaultTexts.{fault_text}
use Rattle.nm_shell.specs.Inputs.{HasNoParts, IsInput, read_of}
use Rattle.nm_shell.specs.Done.{Ending, IsSaid, unread}
use Rattle.nm_lawful.specs.declared.judging.Judged.{Judged as the_judged}
use Rattle.nm_lawful.specs.Moves.{Report}
use Rattle.nm_lawful.specs.Searches.{JudgedSays}
use Rattle.nm_lawful_top.specs.declared.responses.Response.{Response}
use Rattle.nm_lawful_top.specs.declared.responses.Response.TheVariants.{BadLine, Judged, NoAnswers, Refused, Unread, Usage}
use Rattle.nm_lawful_top.specs.declared.words.Asked.{Asked}
use Rattle.nm_lawful_top.specs.Readings.{reading_of}
use Rattle.nm_lawful_top.specs.Texts.{bad_line_lem, judged_status_lem, judged_text, named_line, named_wait, no_answers}
use Rattle.nm_lawful_top.specs.Texts.{usage}
use Rattle.nm_lawful_top.specs.Words.{IsTaken, NotTaken}

-- the text of an answer
abbrev pub text_of : Response → List ℕ
text_of Usage = usage
text_of Unread = unread
text_of (Refused line kind) = fault_text line kind
text_of NoAnswers = no_answers
text_of (BadLine line) = bad_line_lem line
text_of (Judged judged line wait) = judged_text judged line.items wait

-- the status of an answer that was written
abbrev pub status_of : Response → ℕ
status_of Usage = 2
status_of (Refused line kind) = 3
status_of Unread = 4
status_of NoAnswers = 9
status_of (BadLine line) = 9
status_of (Judged judged line wait) = judged_status_lem judged

-- The answers tell this of the script, and so it is judged; the line and the wait are named that go with that.
pub record IsJudged (asked : Asked) (ranks : ℕ) (lines : List Line) (text : List ℕ) (judged : the_judged)
    (line : List ℕ) (wait : Option ℕ) : Type 0 where
  pub told : Report
  pub count : ℕ
  pub read : reading_of asked.cuts ranks lines text ≡ Ok (told, count)
  pub says : JudgedSays lines told ranks count asked.states judged
  pub line_is : line ≡ named_line judged text
  pub wait_is : wait ≡ named_wait judged told.waits

-- an answer for a script is right
abbrev pub IsDueFor : Asked → ℕ → List Line → List ℕ → Response → Type 0
IsDueFor asked ranks lines text (BadLine line) = reading_of asked.cuts ranks lines text ≡ Err line
IsDueFor asked ranks lines text (Judged judged line wait) = IsJudged asked ranks lines text judged line.items wait
IsDueFor asked ranks lines text _ = ⊥

-- the text of a script has this answer, with the given answers
pub record IsSpelled (asked : Asked) (script text : List ℕ) (answer : Response) : Type 0 where
  pub ranks : ℕ
  pub lines : List Line
  pub spelled : IsTextOf script ranks lines
  pub right : IsDueFor asked ranks lines text answer

-- an answer to the text of a script and to given answers is right
abbrev pub IsDueIn : Asked → List ℕ → List ℕ → Response → Type 0
IsDueIn asked script text Usage = ⊥
IsDueIn asked script text Unread = ⊥
IsDueIn asked script text NoAnswers = ⊥
IsDueIn asked script text (Refused line kind) = IsFirstFault script line kind
IsDueIn asked script text answer = IsSpelled asked script text answer

-- the answer is right for the parts of these bytes: the text of a script, and what stands behind the first line `---`
pub record IsParted (asked : Asked) (bytes : List ℕ) (answer : Response) : Type 0 where
  pub script : List ℕ
  pub text : List ℕ
  pub input : IsInput bytes script text
  pub right : IsDueIn asked script text answer

-- an answer to bytes that were read is right; there are none behind a script where they are too long, or have no
-- line `---`
abbrev pub IsDueTo : Asked → List ℕ → Response → Type 0
IsDueTo asked bytes Usage = ⊥
IsDueTo asked bytes Unread = ⊥
IsDueTo asked bytes NoAnswers = HasNoParts bytes
IsDueTo asked bytes answer = IsParted asked bytes answer

-- an answer to words that are taken is right: by the bytes of the source where it tells them, and by its
-- count of faults before and after
abbrev pub IsDueOf : Asked → Option (List ℕ) → ℕ → ℕ → Response → Type 0
IsDueOf asked input old new Usage = ⊥
IsDueOf asked input old new Unread = Rose old new
IsDueOf asked input old new answer = IfSome input (λ bytes. IsDueTo asked (read_of bytes) answer)

-- the words ask for this, and the answer to it is right
pub record IsDueToWords (words : List (List ℕ)) (input : Option (List ℕ)) (old new : ℕ)
    (answer : Response) : Type 0 where
  pub asked : Asked
  pub taken : IsTaken words asked
  pub right : IsDueOf asked input old new answer

-- an answer is right
abbrev pub IsDue : List (List ℕ) → Option (List ℕ) → ℕ → ℕ → Response → Type 0
IsDue words input old new Usage = NotTaken words
IsDue words input old new answer = IsDueToWords words input old new answer

-- it ends with this answer: it is right, and its text was written, whole and with its status, or the sink failed
pub record TellsLawful (e : Ending) (answer : Response) : Type 0 where
  pub right : IsDue e.words e.input e.read_old e.read_new answer
  pub said : IsSaid (text_of answer) (status_of answer) e.status e.before e.after (Rose e.write_old e.write_new)
