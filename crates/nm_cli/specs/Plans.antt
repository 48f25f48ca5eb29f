-- What is said of a plan: a script of persistent and partitioned requests.
use Rattle.std.specs.Prelude.{◌≡◌, ℕ, List, ◌++◌, Option, Some, IfSome, codes, decimal, slice_get}
use Rattle.std.specs.List.{AllByRecursion}
use Rattle.nm_script.specs.declared.command_line.CommandLine.{CommandLine}
use Rattle.nm_plans.specs.Expansion.{expand}
use Rattle.nm_persist.specs.Plans.{IsPlan}
use Rattle.nm_persist.specs.Rules.{IsFirstFault, IsTextOf}
use Rattle.nm_persist.specs.Promises.{KeepsPromise, shown_of}
use Rattle.nm_script.specs.declared.faults.TextFault.{TextFault}
use Rattle.nm_script.specs.declared.faults.TextFault.TheVariants as fault
use Rattle.nm_plans.specs.declared.faults.PlanKind.{PlanKind}
use Rattle.nm_plans.specs.declared.faults.PlanKind.TheVariants as kind
use Rattle.nm_plans.specs.declared.lines.PlanLine.{PlanLine}
use Rattle.nm_report.specs.declared.accounts.RankAccount.{RankAccount}
use Rattle.nm_report.specs.declared.records.RunRecord.{RunRecord}
use Rattle.nm_world.specs.declared.whole.Ways.{Ways}
use Rattle.nm_cli.specs.Scripts.{IsRunOfScript, read_of}

-- the name of a kind of fault
abbrev pub plan_kind_text : PlanKind → List ℕ
plan_kind_text kind.TooLong = codes "toolong"
plan_kind_text kind.NotAscii = codes "notascii"
plan_kind_text kind.Lines = codes "lines"
plan_kind_text kind.First = codes "first"
plan_kind_text kind.Rank = codes "rank"
plan_kind_text kind.Command = codes "command"
plan_kind_text kind.Count = codes "count"
plan_kind_text kind.Number = codes "number"
plan_kind_text kind.Body = codes "body"
plan_kind_text kind.Taken = codes "taken"
plan_kind_text kind.Parts = codes "parts"
plan_kind_text kind.Order = codes "order"
plan_kind_text kind.Size = codes "size"

-- what is said of a fault of a plan
abbrev pub plan_fault_text : ℕ → PlanKind → List ℕ
plan_fault_text line kind =
    codes "fault parts " ++ (decimal line ++ (codes " " ++ (plan_kind_text kind ++ codes "\n")))

-- a refusal says the first fault of the bytes, which spell no plan; want of memory says nothing
abbrev pub PlanRefuses : List ℕ → TextFault PlanKind → Type 0
PlanRefuses bytes (fault.Bad line kind) =
    IsFirstFault bytes line kind × ((ranks : ℕ) (lines : List PlanLine) → ¬ (IsTextOf bytes ranks lines))
PlanRefuses bytes fault.Memory = Unit {0}

-- the record is of a run of the script that the plan of the source stands for
pub record IsRunOfPlan (line : CommandLine) (input : Option (List ℕ)) (lines : List PlanLine)
    (run : RunRecord) (ways : Ways) : Type 0 where
  pub ranks : ℕ
  pub plan : IsPlan ranks lines
  pub spelled : IfSome input (λ bytes. IsTextOf (read_of bytes) ranks lines)
  pub of_script : IsRunOfScript line ranks (expand lines) run ways

-- each line that the text shows of a rank keeps what its command promises: a wait for a receive shows the
-- body of this start at its sender, and an arrived is yes only where its part is here
abbrev pub KeepsPromises : List PlanLine → RunRecord → Type 0
KeepsPromises lines run =
    (rank : ℕ) (account : RankAccount) → slice_get run.ranks rank ≡ Some account →
    AllByRecursion (KeepsPromise lines rank) (shown_of lines rank account)
