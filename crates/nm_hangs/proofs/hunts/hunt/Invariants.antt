-- All states but those that are ahead were looked at, or go on as one that was.
use Rattle.std.proofs.Common.{◌+◌, ◌≤◌, length}
use Rattle.nm_explored.specs.Met.{AreBack, IsMade}
use Rattle.nm_explored.specs.Stores.{AreOf, Grows}
use Rattle.nm_hangs.specs.Hunts.{AreOpen}
use Rattle.nm_hangs.proofs.hunts.hunt.Given as goal

abbrev pub invariant-loop-state : goal.invariant-loop-state
invariant-loop-state l = record {
  grows : Grows l.fn.search l.search;
  made : IsMade l.of.eager l.of.ranks l.of.lines.now l.search;
  back : AreBack l.of.eager l.of.ranks l.of.lines.now l.search;
  ahead : AreOpen l.of.eager l.of.ranks l.of.lines.now l.search l.classes l.ahead.items (length l.search.states);
  shown : AreOf l.search.table l.all;
  count : l._state + length l.ahead.items ≤ length l.search.states;
}
