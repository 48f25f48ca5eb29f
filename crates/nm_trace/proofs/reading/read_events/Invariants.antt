use Rattle.std.proofs.Common.{◌≡◌, ◌≤◌, ◌+◌, [], filter, length}
use Rattle.nm_history.specs.Underway.{is_answer}
use Rattle.nm_trace.specs.Outcome.{AnswerPlace, tells, told}
use Rattle.nm_trace.proofs.reading.read_events.Given as goal

-- what is left tells what the whole told, behind these events and with the notes that are left
abbrev pub invariant-loop-note : goal.invariant-loop-note
invariant-loop-note l = record {
  told : (p : AnswerPlace) → l.rank ≡ length p.ends
      → told p.ranks (tells p [] l.initial.notes.items) l.initial.text.rest.now l.initial.text.number
      ≡ told p.ranks (tells p l.events.items l.notes.items) l.text.rest.now l.text.number;
  at : l.at ≡ length (filter (λ event. is_answer event.what) l.events.items);
  few : l.at + length l.notes.items ≤ length l.initial.notes.items;
}

abbrev pub decreases-loop-note : goal.decreases-loop-note
decreases-loop-note l = length l.notes.items
