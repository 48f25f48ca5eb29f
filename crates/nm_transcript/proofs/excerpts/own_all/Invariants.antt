use Rattle.std.proofs.Common.{◌≡◌, ◌+◌, length}
use Rattle.std.specs.Vec.Iter.{into_iter_items}
use Rattle.nm_transcript.specs.Excerpts.{AreOwn}
use Rattle.nm_transcript.proofs.excerpts.own_all.Given as goal

-- those so far, and as many of both are left
abbrev pub invariant-loop-kept : goal.invariant-loop-kept
invariant-loop-kept l =
    record {
      own : AreOwn l.own.given.items l.own.accounts.items;
      left : length (into_iter_items l.accounts) ≡ length (into_iter_items l.kept-iterator);
      many : length l.own.given.items + length (into_iter_items l.kept-iterator) ≡ length l.fn.calls.items;
    }
