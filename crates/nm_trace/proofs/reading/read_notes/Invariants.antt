use Rattle.std.proofs.Common.{◌≡◌, ◌≤◌, ◌+◌, length}
use Rattle.nm_trace.specs.Machine.{Noting, last_rank, start}
use Rattle.nm_trace.specs.Outcome.{told}
use Rattle.nm_trace.proofs.reading.read_notes.Given as goal

-- what is left tells what the whole told, behind these events
abbrev pub invariant-loop-notes : goal.invariant-loop-notes
invariant-loop-notes l = record {
  told : told l.ranks start l.initial.text.rest.now l.initial.text.number
      ≡ told l.ranks (Noting l.notes.items) l.text.rest.now l.text.number;
  last : l.last ≡ last_rank 0 l.notes.items;
  few : length l.notes.items + l.initial.text.number ≤ l.text.number;
}

abbrev pub decreases-loop-notes : goal.decreases-loop-notes
decreases-loop-notes l = length l.text.rest.now
