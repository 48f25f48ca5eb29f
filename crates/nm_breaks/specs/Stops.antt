-- What stops a text that is no trace.
use Rattle.std.specs.Prelude.{◌≡◌, ℕ, ◌-◌, ◌<◌, ◌≤◌, ◌==◌, ◌&&◌, Bool, true, false, not, None, IsSomeAnd}
use Rattle.std.specs.Prelude.{if◌then◌else◌, List, [], ◌∷◌, ◌++◌, codes, filter, length, slice_get}
use Rattle.std.specs.Char.{is_ascii_digit}
use Rattle.std.specs.List.{list_all, list_any}
use Rattle.std.specs.Str.{bytes_eq}
use Rattle.nm_types.specs.Sizes.{Sizes}
use Rattle.nm_script.specs.Lines.{lines_of, words_of}
use Rattle.nm_trace.specs.Sorts.{sort_text, sorts}
use Rattle.nm_trace.specs.Traces.{Begins}
use Rattle.nm_breaks.specs.declared.stops.Stop.{Stop}
use Rattle.nm_breaks.specs.declared.stops.Stop.TheVariants as stop

-- how many lines there are, each with its line feed
abbrev pub lines_in : List ℕ → ℕ
lines_in bytes = length (filter (λ b. b == 10) bytes)

-- some trace of this shape begins with this line
abbrev pub StartsTrace : Sizes → List ℕ → Type 0
StartsTrace shape line = Begins shape (line ++ 10 ∷ [])

-- a line with one 0 for each run of digits in it; before its first byte stands a digit, or none
abbrev pub zeroed : Bool → List ℕ → List ℕ
zeroed behind [] = []
zeroed behind (b ∷ bytes) =
    (if is_ascii_digit b then (if behind then [] else 48 ∷ []) else b ∷ []) ++ zeroed (is_ascii_digit b) bytes

-- the name of an event
abbrev pub is_event_name : List ℕ → Bool
is_event_name word = list_any (λ s. bytes_eq word (sort_text s)) sorts

-- the words of an event of which there is none of this name
abbrev pub is_odd_event : List (List ℕ) → Bool
is_odd_event (at ∷ rank ∷ stamp ∷ name ∷ words) = bytes_eq at (codes "@") && not (is_event_name name)
is_odd_event words = false

-- the word is a number
abbrev pub is_number : List ℕ → Bool
is_number word = list_all is_ascii_digit word

-- the words of a line of a report: a rank, a line and an answer
abbrev pub is_report_line : List (List ℕ) → Bool
is_report_line (rank ∷ line ∷ answer ∷ words) = is_number rank && is_number line
is_report_line words = false

-- no trace of this shape begins with this line, nor with other numbers in it
abbrev pub IsStray : Sizes → List ℕ → Type 0
IsStray shape line = (¬ StartsTrace shape line) × (¬ StartsTrace shape (zeroed false line))

-- What stops a text at this line: it begins some trace, but stands behind lines that it can't follow; it begins
-- one with other numbers; it names an event that there isn't; it is one of a report, which the events before it
-- do not call for; or it is another one that begins none.
abbrev pub IsLineStop : Sizes → List ℕ → Stop → Type 0
IsLineStop shape line stop.Order = StartsTrace shape line
IsLineStop shape line stop.Number = (¬ StartsTrace shape line) × StartsTrace shape (zeroed false line)
IsLineStop shape line stop.Event = IsStray shape line × (is_odd_event (words_of line) ≡ true)
IsLineStop shape line stop.Report =
    IsStray shape line × (is_odd_event (words_of line) ≡ false) × (is_report_line (words_of line) ≡ true)
IsLineStop shape line stop.Line =
    IsStray shape line × (is_odd_event (words_of line) ≡ false) × (is_report_line (words_of line) ≡ false)
IsLineStop shape line _ = ⊥

-- What stops a text at the line of this number, counted from 1: there is none; it has no line feed; or it is the
-- line itself.
abbrev pub IsStop : Sizes → List ℕ → ℕ → Stop → Type 0
IsStop shape bytes line stop.Short = slice_get (lines_of bytes) (line - 1) ≡ None
IsStop shape bytes line stop.Unfed =
    IsSomeAnd (slice_get (lines_of bytes) (line - 1)) (λ text. lines_in bytes < line)
IsStop shape bytes line s =
    IsSomeAnd (slice_get (lines_of bytes) (line - 1)) (λ text. (line ≤ lines_in bytes) × IsLineStop shape text s)
