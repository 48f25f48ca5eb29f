-- What is found of a script and a trace in one text.
use Rattle.std.specs.Prelude.{◌≡◌, ℕ, List, Option, Some, None}
use Rattle.nm_types.specs.declared.scripts.Line.{Line}
use Rattle.nm_types.specs.Sizes.{Sizes}
use Rattle.nm_script.specs.Rules.{IsFirstFault}
use Rattle.nm_script.specs.Spelled.{IsTextOf}
use Rattle.nm_trace.specs.Traces.{IsFirstBad, IsTraceOf}
use Rattle.nm_shell.specs.Inputs.{HasNoParts, IsInput}
use Rattle.nm_breaks.specs.Judgements.{IsJudgement, judged_as}
use Rattle.nm_breaks.specs.Lines.{Stands}
use Rattle.nm_breaks.specs.Stops.{IsStop, lines_in}
use Rattle.nm_check.specs.Trials.{sizes}
use Rattle.nm_check.specs.declared.verdicts.Verdict.{Verdict}
use Rattle.nm_breaks.specs.declared.finding.Found.{Found}
use Rattle.nm_breaks.specs.declared.finding.Found.TheVariants.{NoTrace, NoScript, BadTrace, Judged}

-- the verdict on a trace, if there is one
abbrev pub verdict_in : Found → Option Verdict
verdict_in (Judged before j run) = Some (judged_as j)
verdict_in found = None

-- behind so many lines, the trace is judged by the script's lines, and breaks the rule there first; or it is none
abbrev pub IsTraceFound : Sizes → List Line → ℕ → List ℕ → Found → Type 0
IsTraceFound shape lines before rest (BadTrace front line stop) =
    (front ≡ before) × IsFirstBad shape rest line × IsStop shape rest line stop
IsTraceFound shape lines before rest (Judged front j run) =
    (front ≡ before) × IsTraceOf shape rest run × IsJudgement (lines_in rest) lines run j
    × Stands rest run j
IsTraceFound shape lines before rest _ = ⊥

-- the lines before it are no script, or the trace is judged by it
abbrev pub IsScriptFound : ℕ → ℕ → List ℕ → List ℕ → Found → Type 0
IsScriptFound cells eager front rest (NoScript line kind) = IsFirstFault front line kind
IsScriptFound cells eager front rest NoTrace = ⊥
IsScriptFound cells eager front rest found =
    (ranks : ℕ) × (lines : List Line) × IsTextOf front ranks lines
    × IsTraceFound (sizes cells eager ranks) lines (lines_in front) rest found

-- the input is too long or has no line `---`, or its two parts are found to be this
abbrev pub IsFound : ℕ → ℕ → List ℕ → Found → Type 0
IsFound cells eager bytes NoTrace = HasNoParts bytes
IsFound cells eager bytes found =
    (front : List ℕ) × (rest : List ℕ) × IsInput bytes front rest × IsScriptFound cells eager front rest found
