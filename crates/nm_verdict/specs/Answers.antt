-- What the program answers: a text and a status.
use Rattle.std.specs.Prelude.{◌≡◌, ℕ, List, IfSome, Option, Some, codes, drop}
use Rattle.nm_script.specs.declared.command_line.CommandLine.{CommandLine}
use Rattle.nm_outside.specs.Told.{Rose}
use Rattle.nm_shell.specs.Inputs.{read_of}
use Rattle.nm_shell.specs.Done.{Ending, IsSaid, unread}
use Rattle.nm_breaks.specs.Answers.{IsAsked, IsFoundIn, NotAsked, found_status}
use Rattle.nm_check.specs.Answers.{IsTraced}
use Rattle.nm_breaks.specs.declared.finding.Found.{Found}
use Rattle.nm_verdict.specs.Quotes.{quotes_of}
use Rattle.nm_verdict.specs.declared.quotes.Quotes.{Quotes}
use Rattle.nm_verdict.specs.Texts.{found_text}
use Rattle.nm_verdict.specs.declared.answers.Response.{Response}
use Rattle.nm_verdict.specs.declared.answers.Response.TheVariants.{Usage, Unread, Told}

-- what is said of words that are not taken
abbrev pub usage : List ℕ
usage = codes "usage: verdict [--cells N] [--eager N] <SCRIPT_AND_TRACE\n"

-- the text of an answer
abbrev pub text_of : Response → List ℕ
text_of Usage = usage
text_of Unread = unread
text_of (Told found quotes) = found_text found quotes

-- the status of an answer that was written
abbrev pub status_of : Response → ℕ
status_of Usage = 2
status_of Unread = 4
status_of (Told found quotes) = found_status found

-- the bytes are, as far as they are read
abbrev pub IsWritten : CommandLine → List ℕ → Type 0
IsWritten line bytes = IsTraced line (read_of bytes)

-- what was found is so of the bytes of a source where it tells them
abbrev pub IsFoundOf : CommandLine → Option (List ℕ) → Found → Type 0
IsFoundOf line input found = IfSome input (λ bytes. IsFoundIn line found (read_of bytes))

-- .. and these are the lines that are told, as they stand in them
abbrev pub AreQuotesOf : Option (List ℕ) → Found → Quotes → Type 0
AreQuotesOf input found quotes = IfSome input (λ bytes. quotes ≡ quotes_of (read_of bytes) found)

-- the words ask for this and nothing else
pub record AsksFor (words : List (List ℕ)) (line : CommandLine) : Type 0 where
  pub asked : IsAsked words line
  pub only : (other : CommandLine) → IsAsked words other → other ≡ line

-- an answer is right: by the words, by the bytes of the source, and by its count of faults before and after
abbrev pub IsAnswer : List (List ℕ) → Option (List ℕ) → ℕ → ℕ → Response → Type 0
IsAnswer words input old new Usage = NotAsked words
IsAnswer words input old new Unread = ((line : CommandLine) × IsAsked words line) × Rose old new
IsAnswer words input old new (Told found quotes) =
    (line : CommandLine) × AsksFor words line × IsFoundOf line input found × AreQuotesOf input found quotes

-- the source was read
abbrev pub WasRead : Response → Type 0
WasRead Unread = ⊥
WasRead _ = Unit {0}

-- the words ask for a verdict
abbrev pub AreAsked : List (List ℕ) → Type 0
AreAsked words = (line : CommandLine) × IsAsked words line

-- Unless a read failed, the source was read to its end or to the limit, where the words ask for a verdict, and
-- its count of faults is as it was.
pub record IsRead (words : List (List ℕ)) (input left : Option (List ℕ)) (old new : ℕ) (answer : Response)
    : Type 0 where
  pub quiet : WasRead answer → new ≡ old
  pub whole : WasRead answer → AreAsked words → IfSome input (λ bytes. left ≡ Some (drop 67108865 bytes))

-- It ends with this answer: it is right, the source was read for it, and its text was written, whole and with its
-- status, or the sink failed.
pub record SaysVerdict (e : Ending) (answer : Response) : Type 0 where
  pub right : IsAnswer e.words e.input e.read_old e.read_new answer
  pub read : IsRead e.words e.input e.left e.read_old e.read_new answer
  pub said : IsSaid (text_of answer) (status_of answer) e.status e.before e.after (Rose e.write_old e.write_new)
