-- A machine over the lines of a trace: what was told so far, and what a further line makes of it.
use Rattle.std.specs.Prelude.{ℕ, zero, suc, ◌-◌, ◌^◌, Bool, true, false, not, ◌&&◌, ◌==◌}
use Rattle.std.specs.Prelude.{List, [], ◌∷◌, ◌++◌, length, filter, Option, Some, None, nat_lt, nat_le}
use Rattle.std.specs.Prelude.{if◌then◌else◌, codes}
use Rattle.std.specs.Str.{bytes_eq}
use Rattle.nm_types.specs.declared.answers.Account.{Account}
use Rattle.nm_history.specs.declared.events.Event.{Event}
use Rattle.nm_history.specs.Quiescence.{Ended}
use Rattle.nm_history.specs.Underway.{is_answer}
use Rattle.nm_report.specs.declared.pairs.PairCount.{PairCount}
use Rattle.nm_script.specs.Decimal.{number_of}
use Rattle.nm_script.specs.Lines.{words_of}
use Rattle.nm_trace.specs.declared.notes.Note.{Note}
use Rattle.nm_trace.specs.Answers.{is_due, given}
use Rattle.nm_trace.specs.Events.{note_of, pair_of}
use Rattle.nm_trace.specs.Steps.{◌>>=◌}

-- what a trace tells: what became of each rank, the packets, the cells, and whether all is done
pub record Trace : Type 0 where
  pub ends : List Ended
  pub pairs : List PairCount
  pub cells : Account
  pub done : Bool

-- the answers so far: the ranks that are whole, the next rank's events so far, and the notes that
-- are left
pub record Part : Type 0 where
  pub ends : List Ended
  pub events : List Event
  pub due : List Note

-- where the lines so far end: in the events, in the counts of packets, in the answers, behind the
-- cells, or behind it all
pub data Stage : Type 0 where
  Noting : List Note → Stage
  Counting : List Note → List PairCount → Stage
  Telling : List PairCount → Part → Stage
  Closing : List PairCount → List Ended → Account → Stage
  Over : Trace → Stage

-- before the first line
abbrev pub start : Stage
start = Noting []

-- the rank of the last of these notes, of which the first stands behind one of this rank
abbrev pub last_rank : ℕ → List Note → ℕ
last_rank rank [] = rank
last_rank rank (note ∷ notes) = last_rank note.rank notes

-- the note may stand behind one of this rank: ranks don't fall, and there are only so many
abbrev pub may_follow : ℕ → ℕ → Note → Bool
may_follow ranks last note = nat_lt note.rank ranks && nat_le last note.rank

-- the note of a line behind one of this rank
unfoldable pub next_note : ℕ → ℕ → List (List ℕ) → Option Note
next_note ranks last words = do
  note ← note_of words
  if may_follow ranks last note then Some note else None

-- a rank by its events and the line at which it waits
abbrev pub ended : List Event → Option ℕ → Ended
ended events waits =
    record { at = length (filter (λ e. is_answer e.what) events); waits = waits; events = events }

-- the line at which a rank waits
unfoldable pub waits_of : ℕ → List (List ℕ) → Option ℕ
waits_of rank (r ∷ line ∷ name ∷ []) = do
  n ← number_of (2 ^ 8) r
  if n == rank && bytes_eq name (codes "waits") then number_of (2 ^ 64) line else None
waits_of rank _ = None

-- the account of the cells, by its four words
unfoldable pub cells_with : List ℕ → List ℕ → List ℕ → List ℕ → Option Account
cells_with name total_word word home_word =
    if bytes_eq name (codes "cells") && bytes_eq word (codes "home")
    then (do
      total ← number_of (2 ^ 32) total_word
      home ← number_of (2 ^ 32) home_word
      Some (record { total = total; home = home }))
    else None

-- the account of the cells
unfoldable pub cells_of : List (List ℕ) → Option Account
cells_of (name ∷ total ∷ word ∷ home ∷ []) = cells_with name total word home
cells_of _ = None

-- the last line: every rank is at its end, or not
unfoldable pub end_of : List ℕ → Option Bool
end_of line =
    if bytes_eq line (codes "done") then Some true
    else if bytes_eq line (codes "stuck") then Some false else None

-- the notes of the rank that have no line behind the events become its events
abbrev pub settled : ℕ → List Event → List Note → List Event × List Note
settled rank events [] = (events, [])
settled rank events (note ∷ due) =
    if note.rank == rank && not (is_due note.event.what)
    then settled rank (events ++ note.event ∷ []) due
    else (events, note ∷ due)

-- the next note that is left is of this rank
abbrev pub is_next : ℕ → List Note → Bool
is_next rank [] = false
is_next rank (note ∷ due) = note.rank == rank

-- the line gives the answer of the next note
abbrev pub with_given : List PairCount → List Ended → List Event → List Note → List ℕ → Option Stage
with_given pairs ends events [] line = None
with_given pairs ends events (note ∷ due) line =
    if is_due note.event.what
    then (given note line >>= λ event.
    Some (Telling pairs (record { ends = ends; events = events ++ event ∷ []; due = due })))
    else None

-- the first choice, or else the second
abbrev pub or_else : {A : Type 0} → Option A → Option A → Option A
or_else (Some x) other = Some x
or_else None other = other

-- The line behind the answers so far, where this many ranks are left: the next answer that is due, or
-- that the rank waits, or a line of a later rank, or that of the cells.
unfoldable pub telling : ℕ → List PairCount → List Ended → List Event → List Note → List ℕ
    → Option Stage
telling zero pairs ends events due line =
    cells_of (words_of line) >>= λ cells. Some (Closing pairs ends cells)
telling (suc left) pairs ends events due line =
    let s = settled (length ends) events due in
    if is_next (length ends) s.1 then with_given pairs ends s.0 s.1 line
    else or_else
    (waits_of (length ends) (words_of line) >>= λ at.
    Some (Telling pairs (record { ends = ends ++ ended s.0 (Some at) ∷ []; events = []; due = s.1 })))
    (telling left pairs (ends ++ ended s.0 None ∷ []) [] s.1 line)

-- the line behind the counts of packets, or one more of them
unfoldable pub counting : ℕ → List Note → List PairCount → List ℕ → Option Stage
counting ranks notes pairs line =
    or_else (pair_of (words_of line) >>= λ pair. Some (Counting notes (pairs ++ pair ∷ [])))
    (telling ranks pairs [] [] notes line)

-- the line behind the events, or one more of them
unfoldable pub noting : ℕ → List Note → List ℕ → Option Stage
noting ranks notes line =
    or_else (next_note ranks (last_rank 0 notes) (words_of line) >>= λ note.
    Some (Noting (notes ++ note ∷ [])))
    (counting ranks notes [] line)

-- what a line makes of a state; none, if no trace begins so
unfoldable pub feed : ℕ → Stage → List ℕ → Option Stage
feed ranks (Noting notes) line = noting ranks notes line
feed ranks (Counting notes pairs) line = counting ranks notes pairs line
feed ranks (Telling pairs part) line =
    telling (ranks - length part.ends) pairs part.ends part.events part.due line
feed ranks (Closing pairs ends cells) line =
    end_of line >>= λ done.
    Some (Over (record { ends = ends; pairs = pairs; cells = cells; done = done }))
feed ranks (Over trace) line = None

-- what lines make of a state
abbrev pub fed : ℕ → Stage → List (List ℕ) → Option Stage
fed ranks state [] = Some state
fed ranks state (line ∷ lines) = feed ranks state line >>= λ next. fed ranks next lines
