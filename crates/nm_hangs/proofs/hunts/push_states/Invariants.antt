-- The states so far were noted.
use Rattle.std.proofs.Common.{◌+◌, ◌≤◌, length}
use Rattle.nm_search.specs.Lists.{Extends}
use Rattle.nm_hangs.specs.Hunts.{AreOpen}
use Rattle.nm_hangs.proofs.hunts.push_states.Given as goal

abbrev pub invariant-loop-n : goal.invariant-loop-n
invariant-loop-n l = record {
  noted : AreOpen l.of.eager l.of.ranks l.of.lines.now l.search l.classes l.ahead.items l.n;
  kept : Extends l.fn.classes l.classes;
  count : length l.ahead.items + l.from ≤ length l.fn.ahead.items + l.n;
  low : l.n ≤ l.to;
}
