use Rattle.std.specs.Vec.Iter.{into_iter_items}
use Rattle.nm_programs.specs.Turns.{BeginsWith}
use Rattle.nm_programs.proofs.SoFar.{SoFar}
use Rattle.nm_programs.proofs.running.begin.Given as goal

-- those so far
abbrev pub invariant-loop-program : goal.invariant-loop-program
invariant-loop-program g l =
    SoFar (BeginsWith l.fn.ranks) l.fn.programs.items (into_iter_items l.program-iterator) l.sources.items
