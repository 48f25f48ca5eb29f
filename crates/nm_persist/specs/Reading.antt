-- Reading a plan: what a line gives, or its fault.
use Rattle.std.specs.Prelude.{ℕ, ◌+◌, List, Option, Some, None, length}
use Rattle.std.specs.Prelude.{Result, Ok, Err, nat_lt, if◌then◌else◌}
use Rattle.nm_types.specs.declared.limits.TheConstants.{MAX_LINES}
use Rattle.nm_script.specs.Lines.{is_printable, words_of}
use Rattle.nm_script.specs.Faults.{◌>>=◌}
use Rattle.nm_script.specs.Reading.{ranks_at}
use Rattle.nm_script.specs.TextReading.{Reader, read_in}
use Rattle.nm_plans.specs.declared.faults.PlanKind.{PlanKind}
use Rattle.nm_plans.specs.declared.faults.PlanKind.TheVariants as kind
use Rattle.nm_persist.specs.declared.plans.Plan.{Plan}
use Rattle.nm_plans.specs.declared.lines.PlanLine.{PlanLine}
use Rattle.nm_plans.specs.Commands.{line_of}
use Rattle.nm_persist.specs.Table.{fault_in}

-- the line, unless it has a fault
abbrev pub unless : Option PlanKind → PlanLine → Result PlanLine PlanKind
unless (Some fault) line = Err fault
unless None line = Ok line

-- a line that isn't the first, behind lines that were read
unfoldable pub line_at : ℕ → List PlanLine → List ℕ → Result PlanLine PlanKind
line_at ranks before text =
    if is_printable text
    then (if nat_lt MAX_LINES (length before + 2) then Err kind.Lines
    else line_of ranks (words_of text) >>= λ line. unless (fault_in ranks before line) line)
    else Err kind.NotAscii

-- how plans are read
abbrev pub plan_reader : Reader PlanLine PlanKind
plan_reader = record {
  first_at = ranks_at kind.NotAscii kind.First;
  line_at = line_at;
  too_long = kind.TooLong;
  no_first = kind.First;
}

-- the whole text
unfoldable pub read_of : List ℕ → Result (ℕ × List PlanLine) (ℕ × PlanKind)
read_of bytes = read_in plan_reader bytes

-- a plan without where it lies in memory
abbrev pub parts : Plan → ℕ × List PlanLine
parts plan = (plan.ranks, plan.lines)
