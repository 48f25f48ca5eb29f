-- Answers by the lines behind the events, which give the bytes that came.
use Rattle.std.specs.Prelude.{ℕ, ◌*◌, Bool, true, false, ◌&&◌, ◌==◌, List, [], ◌∷◌}
use Rattle.std.specs.Prelude.{length, Option, Some, None, Result, Ok, Err, if◌then◌else◌}
use Rattle.std.specs.Prelude.{codes, decimal, take, drop}
use Rattle.std.specs.List.{join_with_byte, list_all}
use Rattle.std.specs.Str.{bytes_eq}
use Rattle.hex.specs.Hex.{decode_of}
use Rattle.hex.specs.declared.error.FromHexError.{FromHexError}
use Rattle.nm_types.specs.declared.answers.Answer.{Answer}
use Rattle.nm_types.specs.declared.answers.Answer.TheVariants as answer
use Rattle.nm_history.specs.declared.events.Event.{Event}
use Rattle.nm_history.specs.declared.events.Happened.{Happened}
use Rattle.nm_history.specs.declared.events.Happened.TheVariants as what
use Rattle.nm_report.specs.Answers.{answer_words}
use Rattle.nm_script.specs.Digits.{is_lower_digit}
use Rattle.nm_trace.specs.declared.notes.Note.{Note}
use Rattle.nm_trace.specs.Steps.{◌>>=◌}

-- a start that was taken has no line behind the events
abbrev pub has_line : Answer → Bool
has_line answer.Started = false
has_line _ = true

-- a line behind the events gives this answer
abbrev pub is_due : Happened → Bool
is_due (what.Ran line answer) = has_line answer
is_due _ = false

-- the words of an answer with this number of bytes, and the `x` before them
abbrev pub start_words : Answer → ℕ → List (List ℕ)
start_words (answer.Got from tag body) len =
    codes "got" ∷ decimal from ∷ decimal tag ∷ decimal len ∷ codes "x" ∷ []
start_words a len = answer_words a

-- the line of an answer, up to the digits of the bytes
abbrev pub answer_start : ℕ → ℕ → Answer → ℕ → List ℕ
answer_start rank line answer len =
    join_with_byte 32 (decimal rank ∷ decimal line ∷ start_words answer len)

-- what stands behind this start of a line
unfoldable pub behind : List ℕ → List ℕ → Option (List ℕ)
behind line start =
    if bytes_eq (take (length start) line) start then Some (drop (length start) line) else None

-- the bytes, if there are any
abbrev pub decoded : Result (List ℕ) FromHexError → Option (List ℕ)
decoded (Ok bytes) = Some bytes
decoded (Err e) = None

-- the bytes of this number that the digits spell
unfoldable pub bytes_of : List ℕ → ℕ → Option (List ℕ)
bytes_of digits len =
    if length digits == 2 * len && list_all is_lower_digit digits
    then decoded (decode_of digits) else None

-- the answer with the bytes that stand behind the start of its line
unfoldable pub given_answer : Answer → ℕ → List ℕ → Option Answer
given_answer (answer.Got from tag body) len rest =
    bytes_of rest len >>= λ bytes. Some (answer.Got from tag bytes)
given_answer a len rest = if bytes_eq rest [] then Some a else None

-- what happened, if this line gives its answer
unfoldable pub given_what : ℕ → Happened → ℕ → List ℕ → Option Happened
given_what rank (what.Ran line answer) len text = do
  rest ← behind text (answer_start rank line answer len)
  whole ← given_answer answer len rest
  Some (what.Ran line whole)
given_what rank w len text = None

-- the event of a note, if this line gives its answer
unfoldable pub given : Note → List ℕ → Option Event
given note text = do
  what ← given_what note.rank note.event.what note.len text
  Some (record { stamp = note.event.stamp; what = what })
