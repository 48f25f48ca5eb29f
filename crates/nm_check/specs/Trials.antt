-- What a script and a trace in one text come to.
use Rattle.std.specs.Prelude.{ℕ, List, Option, Some, None}
use Rattle.nm_types.specs.declared.scripts.Line.{Line}
use Rattle.nm_types.specs.Sizes.{Sizes}
use Rattle.nm_script.specs.Rules.{IsFirstFault}
use Rattle.nm_script.specs.Spelled.{IsTextOf}
use Rattle.nm_report.specs.declared.records.RunRecord.{RunRecord}
use Rattle.nm_trace.specs.Traces.{IsFirstBad, IsTraceOf}
use Rattle.nm_shell.specs.Inputs.{HasNoParts, IsInput}
use Rattle.nm_check.specs.Verdicts.{Judges}
use Rattle.nm_check.specs.declared.trials.Trial.{Trial}
use Rattle.nm_check.specs.declared.trials.Trial.TheVariants.{NoTrace, NoScript, BadTrace, Judged}
use Rattle.nm_check.specs.declared.verdicts.Verdict.{Verdict}

-- the sizes of a run: so many ranks, cells of each, and this eager limit
abbrev pub sizes : ℕ → ℕ → ℕ → Sizes
sizes cells eager ranks = record { ranks = ranks; cells = cells; eager = eager }

-- the verdict on a trace, if there is one
abbrev pub verdict_in : Trial → Option Verdict
verdict_in (Judged verdict) = Some verdict
verdict_in trial = None

-- the trace is that of a record, which is judged by the script's lines; or it is none
abbrev pub IsTraceTrial : Sizes → List Line → List ℕ → Trial → Type 0
IsTraceTrial shape lines rest (BadTrace line) = IsFirstBad shape rest line
IsTraceTrial shape lines rest (Judged verdict) =
    (run : RunRecord) × IsTraceOf shape rest run × Judges lines run verdict
IsTraceTrial shape lines rest _ = ⊥

-- the lines before it are no script, or the trace is judged by it
abbrev pub IsScriptTrial : ℕ → ℕ → List ℕ → List ℕ → Trial → Type 0
IsScriptTrial cells eager front rest (NoScript line kind) = IsFirstFault front line kind
IsScriptTrial cells eager front rest NoTrace = ⊥
IsScriptTrial cells eager front rest trial =
    (ranks : ℕ) × (lines : List Line) × IsTextOf front ranks lines
    × IsTraceTrial (sizes cells eager ranks) lines rest trial

-- the input is too long or has no line `---`, or its two parts come to this
abbrev pub IsTrial : ℕ → ℕ → List ℕ → Trial → Type 0
IsTrial cells eager bytes NoTrace = HasNoParts bytes
IsTrial cells eager bytes trial =
    (front : List ℕ) × (rest : List ℕ) × IsInput bytes front rest × IsScriptTrial cells eager front rest trial
