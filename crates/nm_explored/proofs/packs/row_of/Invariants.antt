-- The numbers of the parts so far.
use Rattle.std.proofs.Common.{take}
use Rattle.nm_search.specs.Lists.{Extends}
use Rattle.nm_explored.specs.Packs.{AreNumbers}
use Rattle.nm_explored.proofs.packs.row_of.Given as goal

abbrev pub invariant-loop-part : goal.invariant-loop-part
invariant-loop-part l = record {
  named : AreNumbers l.parts l.row.items (take l.part-index l.part-items);
  kept : Extends l.fn.parts l.parts;
}
