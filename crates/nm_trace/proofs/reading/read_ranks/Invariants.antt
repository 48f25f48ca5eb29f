use Rattle.std.proofs.Common.{◌≡◌, ◌≤◌, List, [], length}
use Rattle.nm_report.specs.declared.pairs.PairCount.{PairCount}
use Rattle.nm_report.specs.Ends.{ends_of}
use Rattle.nm_trace.specs.Machine.{Telling}
use Rattle.nm_trace.specs.Outcome.{told}
use Rattle.nm_trace.proofs.reading.read_ranks.Given as goal

-- what is left tells what the whole told, behind these ranks and with the notes that are left
abbrev pub invariant-loop-rank : goal.invariant-loop-rank
invariant-loop-rank l = record {
  told : (pairs : List PairCount)
      → told l.ranks (Telling pairs (record { ends = []; events = []; due = l.initial.notes.items }))
      l.initial.text.rest.now l.initial.text.number
      ≡ told l.ranks (Telling pairs (record {
        ends = ends_of l.accounts;
        events = [];
        due = l.notes.items;
      })) l.text.rest.now l.text.number;
  whole : length l.accounts ≡ l.rank;
  few : length l.notes.items ≤ 67108864;
}
