-- What the program answers: a text and a status.
use Rattle.std.specs.Prelude.{◌≡◌, ℕ, ◌≤◌, List, [], IfSome, Option, length}
use Rattle.nm_outside.specs.Told.{Rose}
use Rattle.nm_chart.specs.declared.answers.Response.{Response}
use Rattle.nm_chart.specs.declared.answers.Response.TheVariants.{Usage, Unread, Refused, Drawn}
use Rattle.nm_picture.specs.Pictures.{IsPictureOf}
use Rattle.nm_shell.specs.Done.{Ending, unread}
use Rattle.nm_chart.specs.Given.{IsReadFor, IsSaid}
use Rattle.nm_chart.specs.Endings.{IsBadTrace, IsTraceOfOne, usage}
use Rattle.nm_shell.specs.Inputs.{read_of}
use Rattle.nm_check.specs.Texts.{trace_fault_text}

-- the text is that of the answer
abbrev pub Tells : Response → List ℕ → Type 0
Tells Usage text = text ≡ usage
Tells Unread text = text ≡ unread
Tells (Refused line) text = text ≡ trace_fault_text line
Tells (Drawn run) text = IsPictureOf run text

-- the status of an answer that was written
abbrev pub status_of : Response → ℕ
status_of (Drawn run) = 0
status_of Usage = 2
status_of Unread = 4
status_of (Refused line) = 9

-- a picture has room for the ranks
abbrev pub CanBeDrawn : Response → Type 0
CanBeDrawn (Drawn run) = length run.ranks ≤ 256
CanBeDrawn _ = Unit {0}

-- an answer to bytes that were read is right
abbrev pub IsAnswerTo : List ℕ → Response → Type 0
IsAnswerTo bytes (Drawn run) = IsTraceOfOne bytes run
IsAnswerTo bytes (Refused line) = IsBadTrace bytes line
IsAnswerTo bytes _ = ⊥

-- an answer is right: by the words, by the bytes of the source where it tells them, and by its count of
-- faults before and after
abbrev pub IsAnswer : List (List ℕ) → Option (List ℕ) → ℕ → ℕ → Response → Type 0
IsAnswer words input old new Usage = ¬ (words ≡ [])
IsAnswer words input old new Unread = (words ≡ []) × Rose old new
IsAnswer words input old new answer =
    (words ≡ []) × IfSome input (λ bytes. IsAnswerTo (read_of bytes) answer)

-- no read failed
abbrev pub WasQuiet : Response → Type 0
WasQuiet Unread = ⊥
WasQuiet _ = Unit {0}

-- the source was read
abbrev pub WasRead : Response → Type 0
WasRead Usage = ⊥
WasRead Unread = ⊥
WasRead _ = Unit {0}

-- `chart` ends with this answer: it is right, the source was read for it, and it was said
pub record Charts (e : Ending) (answer : Response) : Type 0 where
  pub right : IsAnswer e.words e.input e.read_old e.read_new answer
  pub read : IsReadFor (WasQuiet answer) (WasRead answer) e.input e.left e.read_old e.read_new
  pub said : IsSaid (Tells answer) (status_of answer) e.status e.before e.after (Rose e.write_old e.write_new)
