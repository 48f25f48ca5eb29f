-- What is said of a script and its trace.
use Rattle.std.specs.Prelude.{◌≡◌, ℕ, List, take, Option, IfSome}
use Rattle.nm_outside.specs.Told.{Appends}
use Rattle.nm_script.specs.declared.command_line.CommandLine.{CommandLine}
use Rattle.nm_script.specs.FaultTexts.{fault_text}
use Rattle.nm_check.specs.Answers.{IsTraced, IsTrialOf, trial_status}
use Rattle.nm_check.specs.Texts.{trace_fault_text, verdict_text}
use Rattle.nm_check.specs.declared.trials.Trial.{Trial}
use Rattle.nm_check.specs.declared.trials.Trial.TheVariants.{NoTrace, NoScript, BadTrace, Judged}
use Rattle.nm_cli.specs.Scripts.{limit_of}

-- what is said of a script and its trace: of a script that is none, what is said of it without a trace
abbrev pub checked_text : Trial → List ℕ
checked_text NoTrace = trace_fault_text 0
checked_text (NoScript line kind) = fault_text line kind
checked_text (BadTrace line) = trace_fault_text line
checked_text (Judged verdict) = verdict_text verdict

-- the bytes are, as far as they are read, a script and the trace of one of its runs
abbrev pub IsWritten : CommandLine → List ℕ → Type 0
IsWritten line bytes = IsTraced line (take (limit_of line.mode) bytes)

-- it is what the bytes are, as far as they are read
abbrev pub IsCheckedAs : CommandLine → Trial → List ℕ → Type 0
IsCheckedAs line trial bytes = IsTrialOf line trial (take (limit_of line.mode) bytes)

-- With check, by what the bytes are: no script with a trace, or one, with the verdict.
pub record IsCheckedEnd (line : CommandLine) (input : Option (List ℕ)) (status : ℕ)
    (old new : Option (List ℕ)) : Type 0 where
  pub trial : Trial
  pub right : IfSome input (IsCheckedAs line trial)
  pub ended : status ≡ trial_status trial
  pub said : Appends old new (checked_text trial)
