use Rattle.std.specs.Vec.Iter.{into_iter_items}
use Rattle.nm_programs.specs.Turns.{IsLeft}
use Rattle.nm_programs.proofs.SoFar.{SoFar}
use Rattle.nm_programs.proofs.running.finish.Given as goal

-- those so far
abbrev pub invariant-loop-source : goal.invariant-loop-source
invariant-loop-source g l =
    SoFar (IsLeft g.P.Program.says) l.fn.sources.items (into_iter_items l.source-iterator) l.ranks.items
