-- What is answered: the statuses, and what the bytes come to.
use Rattle.std.specs.Prelude.{◌≡◌, ℕ, List, Some}
use Rattle.nm_types.specs.declared.scripts.Line.{Line}
use Rattle.nm_script.specs.declared.command_line.CommandLine.{CommandLine}
use Rattle.nm_script.specs.Spelled.{IsTextOf}
use Rattle.nm_report.specs.Lawful.{IsRunIn}
use Rattle.nm_report.specs.declared.records.RunRecord.{RunRecord}
use Rattle.nm_shell.specs.Inputs.{IsInput}
use Rattle.nm_trace.specs.Traces.{IsTraceOf}
use Rattle.nm_check.specs.Trials.{IsTrial, sizes, verdict_in}
use Rattle.nm_check.specs.declared.trials.Trial.{Trial}
use Rattle.nm_check.specs.declared.trials.Trial.TheVariants.{NoTrace, NoScript, BadTrace, Judged}
use Rattle.nm_check.specs.declared.verdicts.Verdict.{Verdict}
use Rattle.nm_check.specs.declared.verdicts.Verdict.TheVariants.{Holds}

-- the status of a verdict: whether the trace holds
abbrev pub verdict_status : Verdict → ℕ
verdict_status Holds = 0
verdict_status _ = 8

-- the status of what a script and a trace come to
abbrev pub trial_status : Trial → ℕ
trial_status NoTrace = 9
trial_status (NoScript line kind) = 3
trial_status (BadTrace line) = 9
trial_status (Judged verdict) = verdict_status verdict

-- these bytes are a script and the trace of one of its runs
pub record IsTraced (line : CommandLine) (bytes : List ℕ) : Type 0 where
  pub front : List ℕ
  pub rest : List ℕ
  pub ranks : ℕ
  pub lines : List Line
  pub run : RunRecord
  pub input : IsInput bytes front rest
  pub script : IsTextOf front ranks lines
  pub trace : IsTraceOf (sizes line.cells line.eager ranks) rest run
  pub lawful : IsRunIn (sizes line.cells line.eager ranks) lines run

-- It is what these bytes come to, in the sizes of the words. The trace of a run of the script holds.
pub record IsTrialOf (line : CommandLine) (trial : Trial) (bytes : List ℕ) : Type 0 where
  pub right : IsTrial line.cells line.eager bytes trial
  pub holds : IsTraced line bytes → verdict_in trial ≡ Some Holds
