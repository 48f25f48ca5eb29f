use Rattle.std.proofs.Common.{◌≡◌, ℕ, List, [], length}
use Rattle.nm_trace.specs.declared.notes.Note.{Note}
use Rattle.nm_trace.specs.Machine.{Counting}
use Rattle.nm_trace.specs.Outcome.{told}
use Rattle.nm_trace.proofs.reading.read_pairs.Given as goal

-- what is left tells what the whole told, behind these counts
abbrev pub invariant-loop-pairs : goal.invariant-loop-pairs
invariant-loop-pairs l = (ranks : ℕ) (notes : List Note)
    → told ranks (Counting notes []) l.initial.text.rest.now l.initial.text.number
    ≡ told ranks (Counting notes l.pairs) l.text.rest.now l.text.number

abbrev pub decreases-loop-pairs : goal.decreases-loop-pairs
decreases-loop-pairs l = length l.text.rest.now
