-- Reading a script: what a line gives, or its fault.
use Rattle.std.specs.Prelude.{ℕ, zero, suc, ◌+◌, List, [], ◌∷◌, Option, Some, None, length}
use Rattle.std.specs.Prelude.{Result, Ok, Err, nat_lt, if◌then◌else◌, codes, sum_by}
use Rattle.std.specs.Option.{ok_or}
use Rattle.std.specs.Str.{bytes_eq}
use Rattle.nm_types.specs.declared.limits.TheConstants.{MAX_RANKS, MAX_LINES, MAX_BODIES}
use Rattle.nm_types.specs.declared.scripts.Line.{Line}
use Rattle.nm_types.specs.declared.scripts.Script.{Script}
use Rattle.nm_types.specs.Limits.{sent_len}
use Rattle.nm_script.specs.declared.faults.Kind.{Kind}
use Rattle.nm_script.specs.declared.faults.Kind.TheVariants as kind
use Rattle.nm_script.specs.Commands.{line_of}
use Rattle.nm_script.specs.Decimal.{number_of}
use Rattle.nm_script.specs.Faults.{◌>>=◌}
use Rattle.nm_script.specs.Lines.{is_printable, words_of}
use Rattle.nm_script.specs.TextReading.{Reader, read_in}

-- one rank or more
abbrev pub positive : Option ℕ → Option ℕ
positive (Some (suc n)) = Some (suc n)
positive (Some zero) = None
positive None = None

-- the number of ranks, by the words of the first line
unfoldable pub ranks_of : List (List ℕ) → Option ℕ
ranks_of (name ∷ count ∷ []) =
    if bytes_eq name (codes "ranks") then positive (number_of (MAX_RANKS + 1) count) else None
ranks_of _ = None

-- the first line, with these faults where a byte is not printable, and where it says no number of ranks
unfoldable pub ranks_at : {K : Type 0} → K → K → List ℕ → Result ℕ K
ranks_at odd none line =
    if is_printable line then ok_or (ranks_of (words_of line)) none else Err odd

-- the line, if its body fits behind those before it
abbrev pub fitting : ℕ → Line → Result Line Kind
fitting total line =
    if nat_lt MAX_BODIES (total + sent_len line.command) then Err kind.BodyTotal else Ok line

-- line k, which isn't the first, behind bodies of this total length
unfoldable pub line_at : ℕ → ℕ → ℕ → List ℕ → Result Line Kind
line_at ranks k total line =
    if is_printable line
    then (if nat_lt MAX_LINES k then Err kind.Lines
    else line_of ranks (words_of line) >>= fitting total)
    else Err kind.NotAscii

-- how long the bodies of lines are together
abbrev pub bodies_len : List Line → ℕ
bodies_len lines = sum_by (λ line. sent_len line.command) lines

-- how scripts are read
abbrev pub script_reader : Reader Line Kind
script_reader = record {
  first_at = ranks_at kind.NotAscii kind.First;
  line_at = λ ranks before text. line_at ranks (length before + 2) (bodies_len before) text;
  too_long = kind.TooLong;
  no_first = kind.First;
}

-- the whole text
unfoldable pub read_of : List ℕ → Result (ℕ × List Line) (ℕ × Kind)
read_of bytes = read_in script_reader bytes

-- a script without where it lies in memory
abbrev pub parts : Script → ℕ × List Line
parts script = (script.ranks, script.lines)
