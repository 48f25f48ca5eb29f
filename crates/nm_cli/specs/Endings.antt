-- How the program ends: what was said, with which status, and what is handed out.
use Rattle.std.specs.Prelude.{◌≡◌, ℕ, ◌⊎◌, Bool, List, Option, Some, IfSome}
use Rattle.nm_outside.specs.Told.{Appends}
use Rattle.nm_script.specs.declared.command_line.CommandLine.{CommandLine}
use Rattle.nm_script.specs.declared.faults.Kind.{Kind}
use Rattle.nm_script.specs.declared.faults.TextFault.TheVariants as fault
use Rattle.nm_script.specs.FaultTexts.{fault_text}
use Rattle.nm_report.specs.declared.records.RunRecord.{RunRecord}
use Rattle.nm_world.specs.declared.whole.Ways.{Ways}
use Rattle.nm_multi.specs.Calls.{Logged as Log}
use Rattle.nm_multi.specs.Programs.{IsWhole}
use Rattle.nm_multi.specs.Text.{log_text}
use Rattle.nm_cli.specs.Answers.{Refuses, end_status, run_text}
use Rattle.nm_persist.specs.Report.{run_text as plan_run_text}
use Rattle.nm_plans.specs.declared.faults.PlanKind.{PlanKind}
use Rattle.nm_plans.specs.declared.lines.PlanLine.{PlanLine}
use Rattle.nm_cli.specs.Plans.{IsRunOfPlan, KeepsPromises, PlanRefuses, plan_fault_text}
use Rattle.nm_cli.specs.Plains.{IsNotPlain, IsPlain, free_text}
use Rattle.nm_cli.specs.Scripts.{IsRunOfWords, read_of}

-- the bytes spell no script, and their first fault was said
pub record IsRefused (old new : Option (List ℕ)) (bytes : List ℕ) : Type 0 where
  pub line : ℕ
  pub kind : Kind
  pub told : Refuses (read_of bytes) (fault.Bad line kind)
  pub said : Appends old new (fault_text line kind)

-- a run that the words ask for was reported, and its record and what its ports kept are handed out
pub record IsReported (line : CommandLine) (input : Option (List ℕ)) (status : ℕ)
    (run : Option RunRecord) (closed : Option Ways) (old new : Option (List ℕ)) : Type 0 where
  pub record_of : RunRecord
  pub ways : Ways
  pub record_given : run ≡ Some record_of
  pub ways_given : closed ≡ Some ways
  pub of_words : IsRunOfWords line input record_of ways
  pub ended : status ≡ end_status record_of.done
  pub said : Appends old new (run_text line.mode record_of)

-- a script that is not plain was answered by its first line that is not
pub record IsFree (old new : Option (List ℕ)) (bytes : List ℕ) : Type 0 where
  pub number : ℕ
  pub not_plain : IsNotPlain number bytes
  pub said : Appends old new (free_text number)

-- a plain script was answered by the report of its plain run
pub record IsSure (line : CommandLine) (status : ℕ) (old new : Option (List ℕ)) (bytes : List ℕ)
    : Type 0 where
  pub text : List ℕ
  pub done : Bool
  pub plain : IsPlain line text done bytes
  pub ended : status ≡ end_status done
  pub said : Appends old new text

-- With plain, by what the bytes spell: no script, one that is not plain, or a plain one.
abbrev pub IsWorkedOut : CommandLine → Option (List ℕ) → ℕ → Option (List ℕ) → Option (List ℕ) → Type 0
IsWorkedOut line input status old new =
    ((status ≡ 3) × IfSome input (IsRefused old new))
    ⊎ (((status ≡ 7) × IfSome input (IsFree old new))
    ⊎ (((status ≡ 0) ⊎ (status ≡ 1)) × IfSome input (IsSure line status old new)))

-- bytes that spell no plan were answered by their first fault
pub record IsPlanRefused (old new : Option (List ℕ)) (bytes : List ℕ) : Type 0 where
  pub line : ℕ
  pub kind : PlanKind
  pub told : PlanRefuses (read_of bytes) (fault.Bad line kind)
  pub said : Appends old new (plan_fault_text line kind)

-- a run of a plan was reported, and its record and what its ports kept are handed out
pub record IsPlanReported (line : CommandLine) (input : Option (List ℕ)) (status : ℕ)
    (run : Option RunRecord) (closed : Option Ways) (old new : Option (List ℕ)) : Type 0 where
  pub lines : List PlanLine
  pub record_of : RunRecord
  pub ways : Ways
  pub record_given : run ≡ Some record_of
  pub ways_given : closed ≡ Some ways
  pub of_plan : IsRunOfPlan line input lines record_of ways
  pub promised : KeepsPromises lines record_of
  pub ended : status ≡ end_status record_of.done
  pub said : Appends old new (plan_run_text lines record_of)

-- With parts, by what the bytes spell: no plan, or a plan, whose script ran.
abbrev pub IsPlanEnded :
    CommandLine → Option (List ℕ) → ℕ → Option RunRecord → Option Ways → Option (List ℕ) → Option (List ℕ) → Type 0
IsPlanEnded line input status run closed old new =
    ((status ≡ 3) × IfSome input (IsPlanRefused old new))
    ⊎ IsPlanReported line input status run closed old new

-- the log of several threads that shared one rank was summed up, and is handed out
pub record IsLogged (threads rounds : ℕ) (log : Option Log) (old new : Option (List ℕ)) : Type 0 where
  pub log_of : Log
  pub given : log ≡ Some log_of
  pub whole : IsWhole threads rounds log_of.entries
  pub said : Appends old new (log_text threads rounds log_of.entries)

-- the statuses that there are
abbrev pub IsStatus : ℕ → Type 0
IsStatus status =
    (status ≡ 0) ⊎ ((status ≡ 1) ⊎ ((status ≡ 2) ⊎ ((status ≡ 3) ⊎ ((status ≡ 4)
    ⊎ ((status ≡ 5) ⊎ ((status ≡ 6) ⊎ ((status ≡ 7) ⊎ ((status ≡ 8) ⊎ (status ≡ 9)))))))))
