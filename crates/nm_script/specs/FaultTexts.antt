-- What is said of a fault of the script.
use Rattle.std.specs.Prelude.{ℕ, List, ◌++◌, codes, decimal}
use Rattle.nm_script.specs.declared.faults.Kind.{Kind}
use Rattle.nm_script.specs.declared.faults.Kind.TheVariants as kind

-- the name of a kind of fault
abbrev pub kind_text : Kind → List ℕ
kind_text kind.TooLong = codes "toolong"
kind_text kind.NotAscii = codes "notascii"
kind_text kind.Lines = codes "lines"
kind_text kind.First = codes "first"
kind_text kind.Rank = codes "rank"
kind_text kind.Command = codes "command"
kind_text kind.Count = codes "count"
kind_text kind.Number = codes "number"
kind_text kind.Body = codes "body"
kind_text kind.BodyTotal = codes "bodytotal"

-- what is said of a fault of the script
abbrev pub fault_text : ℕ → Kind → List ℕ
fault_text line kind =
    codes "fault script " ++ (decimal line ++ (codes " " ++ (kind_text kind ++ codes "\n")))
