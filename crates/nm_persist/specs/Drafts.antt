-- What is known of lines that were read, and their script's size.
use Rattle.std.specs.Prelude.{◌≡◌, ℕ, ◌&&◌, nat_lt, true}
use Rattle.std.specs.Prelude.{List, [], ◌∷◌, ◌++◌, Result, Ok, Err}
use Rattle.std.specs.List.{list_all}
use Rattle.indexmap.specs.IndexMap.{IndexMap, get}
use Rattle.nm_persist.specs.declared.drafts.Draft.{Draft}
use Rattle.nm_plans.specs.declared.requests.ends.End.{End}
use Rattle.nm_script.specs.declared.faults.LineFault.{LineFault}
use Rattle.nm_script.specs.declared.faults.LineFault.TheVariants as fault
use Rattle.nm_script.specs.declared.faults.TextFault.{TextFault}
use Rattle.nm_script.specs.Faults.{Fails, at_line}
use Rattle.nm_plans.specs.declared.faults.PlanKind.{PlanKind}
use Rattle.nm_plans.specs.declared.lines.PlanLine.{PlanLine}
use Rattle.nm_plans.specs.Ends.{parts_at, same_end}
use Rattle.nm_plans.specs.Expansion.{expand}
use Rattle.nm_plans.specs.Grammar.{is_in_range}
use Rattle.nm_plans.specs.PlanRequests.{AreRequests}
use Rattle.nm_persist.specs.Sizes.{IsSizeOf}
use Rattle.nm_persist.specs.Table.{are_sound}

-- a map has the ends of the requests that these lines make
pub record AreEnds {S : Type 0} (lines : List PlanLine) (map : IndexMap End ℕ S) : Type 0 where
  pub each : (e : End) → get same_end map e ≡ parts_at lines e

-- what was read is in range and has no fault, and its requests, ends and size are known
pub record IsDraft (d : Draft) : Type 0 where
  pub in_range : list_all (λ line. nat_lt line.rank d.ranks && is_in_range d.ranks line.command) d.lines
      ≡ true
  pub sound : are_sound d.ranks [] d.lines ≡ true
  pub requests : AreRequests d.lines d.requests.map
  pub ends : AreEnds d.lines d.ends.map
  pub size : IsSizeOf d.size d.ranks (expand d.lines)

-- a line was read and put behind the others, or there is this fault, unless memory ran out
abbrev pub Adds : Result (Unit {0}) (LineFault PlanKind) → List PlanLine → List PlanLine → Result PlanLine PlanKind
    → Type 0
Adds (Ok done) old new read = (line : PlanLine) × (read ≡ Ok line) × (new ≡ old ++ line ∷ [])
Adds (Err (fault.Bad e)) old new read = read ≡ Err e
Adds (Err fault.Memory) old new read = Unit {0}

-- the same, with the number of the line at a fault
abbrev pub AddsAt : ℕ → Result (Unit {0}) (TextFault PlanKind) → List PlanLine → List PlanLine
    → Result PlanLine PlanKind → Type 0
AddsAt number (Ok done) old new read = (line : PlanLine) × (read ≡ Ok line) × (new ≡ old ++ line ∷ [])
AddsAt number (Err f) old new read = Fails f (at_line number read)
