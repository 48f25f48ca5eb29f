-- How a first fault is said.
use Rattle.std.specs.Prelude.{ℕ, List, ◌++◌, codes, decimal}
use Rattle.nm_script.specs.declared.faults.Kind.{Kind}
use Rattle.nm_script.specs.declared.faults.Kind.TheVariants as kind

-- the word for a kind of fault
abbrev pub kind_word : Kind → List ℕ
kind_word kind.TooLong = codes "too long"
kind_word kind.NotAscii = codes "not printable"
kind_word kind.Lines = codes "too many lines"
kind_word kind.First = codes "no ranks"
kind_word kind.Rank = codes "rank"
kind_word kind.Command = codes "command"
kind_word kind.Count = codes "count of words"
kind_word kind.Number = codes "number"
kind_word kind.Body = codes "body"
kind_word kind.BodyTotal = codes "bodies too long"

-- the line that tells it
abbrev pub fault_line : ℕ → Kind → List ℕ
fault_line line kind = codes "line " ++ (decimal line ++ (codes ": " ++ (kind_word kind ++ codes "\n")))
