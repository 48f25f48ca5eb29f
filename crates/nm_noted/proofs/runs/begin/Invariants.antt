use Rattle.std.specs.Vec.Iter.{into_iter_items}
use Rattle.nm_programs.proofs.SoFar.{SoFar}
use Rattle.nm_noted.specs.Noted.{IsFresh}
use Rattle.nm_noted.proofs.runs.begin.Given as goal

-- those so far
abbrev pub invariant-loop-program : goal.invariant-loop-program
invariant-loop-program g l =
    SoFar (IsFresh g.C.Keeper.calls) l.fn.programs.items (into_iter_items l.program-iterator) l.all.items
