use Rattle.std.proofs.Common.{◌≡◌, ◌++◌, map}
use Rattle.std.specs.Vec.Iter.{into_iter_items}
use Rattle.nm_noted.specs.Noted.{bare, noted_calls}
use Rattle.nm_noted.proofs.runs.part.Given as goal

-- those so far, and those to come
abbrev pub invariant-loop-finished : goal.invariant-loop-finished
invariant-loop-finished g l =
    record {
      ranks : l.parted.ranks.items ++ map bare (into_iter_items l.finished-iterator) ≡ map bare l.fn.noted.items;
      calls : l.parted.calls.items ++ noted_calls (into_iter_items l.finished-iterator) ≡ noted_calls l.fn.noted.items;
    }
