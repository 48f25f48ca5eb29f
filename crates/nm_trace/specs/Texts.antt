-- The lines that a state of the machine stands for.
use Rattle.std.specs.Prelude.{◌≡◌, ℕ, ◌+◌, ◌≤◌, ◌<◌, List, [], ◌∷◌, ◌++◌, length, flat_map}
use Rattle.nm_history.specs.declared.events.Event.{Event}
use Rattle.nm_history.specs.Quiescence.{Ended}
use Rattle.nm_report.specs.declared.pairs.PairCount.{PairCount}
use Rattle.nm_report.specs.declared.records.RunRecord.{RunRecord}
use Rattle.nm_report.specs.Ends.{ends_of}
use Rattle.nm_report.specs.Events.{event_line, pair_line}
use Rattle.nm_report.specs.Report.{ran_line, waits_line, cells_line, end_line}
use Rattle.nm_trace.specs.declared.notes.Note.{Note}
use Rattle.nm_trace.specs.Machine.{Trace, Stage, Noting, Counting, Telling, Closing, Over}
use Rattle.nm_trace.specs.Notes.{NoteIn, note_line}

-- the events of the ranks, of which the first has this number
abbrev pub events_from : ℕ → List Ended → List ℕ
events_from rank [] = []
events_from rank (e ∷ ends) = flat_map (event_line rank) e.events ++ events_from (rank + 1) ends

-- the lines of their answers, and where they wait
abbrev pub answers_from : ℕ → List Ended → List ℕ
answers_from rank [] = []
answers_from rank (e ∷ ends) =
    (flat_map (λ event. ran_line rank event.what) e.events ++ waits_line rank e.waits)
    ++ answers_from (rank + 1) ends

-- the lines up to somewhere in the answers
abbrev pub telling_text : List PairCount → List Ended → List Event → List Note → List ℕ
telling_text pairs ends events due =
    events_from 0 ends ++ flat_map (event_line (length ends)) events ++ flat_map note_line due
    ++ flat_map pair_line pairs ++ answers_from 0 ends
    ++ flat_map (λ event. ran_line (length ends) event.what) events

-- the lines up to the cells
abbrev pub closing_text : List PairCount → List Ended → List ℕ
closing_text pairs ends =
    events_from 0 ends ++ flat_map pair_line pairs ++ answers_from 0 ends

-- the lines of a state
abbrev pub state_text : Stage → List ℕ
state_text (Noting notes) = flat_map note_line notes
state_text (Counting notes pairs) = flat_map note_line notes ++ flat_map pair_line pairs
state_text (Telling pairs part) = telling_text pairs part.ends part.events part.due
state_text (Closing pairs ends cells) = closing_text pairs ends ++ cells_line cells
state_text (Over t) = closing_text t.pairs t.ends ++ cells_line t.cells ++ end_line t.done

-- notes within their types, whose ranks don't fall from this one on, and are below that
abbrev pub InOrder : ℕ → ℕ → List Note → Type 0
InOrder low ranks [] = Unit {0}
InOrder low ranks (note ∷ notes) =
    (low ≤ note.rank) × (note.rank < ranks) × NoteIn note × InOrder note.rank ranks notes

-- what holds of each state that is reached
abbrev pub Right : ℕ → Stage → Type 0
Right ranks (Noting notes) = InOrder 0 ranks notes
Right ranks (Counting notes pairs) = InOrder 0 ranks notes
Right ranks (Telling pairs part) =
    (length part.ends ≤ ranks) × (length part.ends ≡ ranks → part.events ≡ [])
    × InOrder (length part.ends) ranks part.due
Right ranks (Closing pairs ends cells) = length ends ≡ ranks
Right ranks (Over t) = length t.ends ≡ ranks

-- what the trace of a record tells
abbrev pub trace_of : RunRecord → Trace
trace_of run =
    record { ends = ends_of run.ranks; pairs = run.pairs; cells = run.cells; done = run.done }
