use Rattle.std.proofs.Common.{◌≡◌, ◌++◌, length}
use Rattle.std.specs.Vec.Iter.{into_iter_items}
use Rattle.nm_transcript.specs.Renumbered.{AreOf, number_in, renumbered_all}
use Rattle.nm_transcript.proofs.renumbered.renumber_events.Given as goal

-- those so far, and those to come
abbrev pub invariant-loop-event : goal.invariant-loop-event
invariant-loop-event l =
    record {
      all : l.all.items ++ renumbered_all (number_in l.numbers) (into_iter_items l.event-iterator)
          ≡ renumbered_all (number_in l.numbers) l.fn.events.items;
      own : AreOf (length l.numbers) (into_iter_items l.event-iterator);
    }
