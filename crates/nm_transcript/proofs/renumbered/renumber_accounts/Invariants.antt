use Rattle.std.proofs.Common.{◌≡◌, ℕ, ◌+◌, ◌++◌, length}
use Rattle.std.specs.Prelude.{IfSome}
use Rattle.std.specs.List.{slice_get}
use Rattle.std.specs.Vec.Iter.{into_iter_items}
use Rattle.nm_report.specs.Ends.{ends_of}
use Rattle.nm_transcript.specs.Renumbered.{number_in, renumbered_ends}
use Rattle.nm_transcript.specs.Transcripts.{IsEndOf, numbers_of}
use Rattle.nm_transcript.proofs.renumbered.renumber_accounts.Given as goal

-- those so far, and those to come
abbrev pub invariant-loop-account : goal.invariant-loop-account
invariant-loop-account l =
    record {
      all : ends_of l.later.items ++ renumbered_ends (λ i. number_in (numbers_of l.lines i)) (length l.later.items)
          (ends_of (into_iter_items l.account-iterator))
          ≡ renumbered_ends (λ i. number_in (numbers_of l.lines i)) 0 (ends_of l.fn.accounts.items);
      own : (i : ℕ) → IfSome (slice_get (ends_of (into_iter_items l.account-iterator)) i)
          (IsEndOf (length (numbers_of l.lines (length l.later.items + i))));
    }
