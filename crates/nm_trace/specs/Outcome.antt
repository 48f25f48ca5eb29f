-- What a text tells from a state on: the whole trace, or the number of the line that stops it.
use Rattle.std.specs.Prelude.{◌≡◌, ℕ, ◌+◌, ◌<◌, List, [], ◌∷◌, ◌++◌, length, Option, Some, None}
use Rattle.std.specs.Prelude.{Result, Ok, Err}
use Rattle.nm_history.specs.declared.events.Event.{Event}
use Rattle.nm_history.specs.Quiescence.{Ended}
use Rattle.nm_report.specs.declared.pairs.PairCount.{PairCount}
use Rattle.nm_trace.specs.declared.faults.TraceFault.{TraceFault}
use Rattle.nm_trace.specs.declared.faults.TraceFault.TheVariants as fault
use Rattle.nm_trace.specs.declared.notes.Note.{Note}
use Rattle.nm_trace.specs.Lines.{cut_lines, first_line}
use Rattle.nm_trace.specs.Machine.{Trace, Stage, Telling, Over, feed}
use Rattle.nm_trace.specs.Steps.{◌>>=◌}

-- where no line is left: the trace is told if nothing stands behind its last line
abbrev pub at_end : Stage → List ℕ → ℕ → Result Trace ℕ
at_end (Over trace) [] number = Ok trace
at_end state behind number = Err number

-- the next step, or else the number of the line
abbrev pub or_stop : {A B : Type 0} → ℕ → Option A → (A → Result B ℕ) → Result B ℕ
or_stop number (Some x) next = next x
or_stop number None next = Err number

-- what lines tell, of which the first has this number, with the bytes behind the last one
abbrev pub outcome : ℕ → Stage → List (List ℕ) → List ℕ → ℕ → Result Trace ℕ
outcome ranks state [] behind number = at_end state behind number
outcome ranks state (line ∷ lines) behind number =
    or_stop number (feed ranks state line) (λ next. outcome ranks next lines behind (number + 1))

-- what a text tells, of which the first line has this number
unfoldable pub told : ℕ → Stage → List ℕ → ℕ → Result Trace ℕ
told ranks state bytes number =
    outcome ranks state (cut_lines bytes).0 (cut_lines bytes).1 number

-- what the first line is read as, and the bytes behind it
abbrev pub line_as : {A : Type 0} → (List ℕ → Option A) → List ℕ → Option (A × List ℕ)
line_as read bytes = do
  cut ← first_line bytes
  x ← read cut.0
  Some (x, cut.1)

-- where the answers stand: the counts of packets, and the ranks that are whole, but not all
pub record AnswerPlace : Type 0 where
  pub ranks : ℕ
  pub pairs : List PairCount
  pub ends : List Ended
  pub fewer : length ends < ranks

-- the state at this place, with these events of its rank, and these notes that are left
abbrev pub tells : AnswerPlace → List Event → List Note → Stage
tells p events due = Telling p.pairs (record { ends = p.ends; events = events; due = due })

-- the state where the rank of this place is whole
abbrev pub tells_next : AnswerPlace → Ended → List Note → Stage
tells_next p rank due =
    Telling p.pairs (record { ends = p.ends ++ rank ∷ []; events = []; due = due })

-- a fault that names a line names the one that stops the text
abbrev pub Stops : Result Trace ℕ → TraceFault → Type 0
Stops outcome (fault.Bad line) = outcome ≡ Err line
Stops outcome fault.Memory = Unit {0}
