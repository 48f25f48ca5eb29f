-- All states but those that are ahead were looked at, and none is sought.
use Rattle.nm_explored.specs.Met.{AreBack, IsMade}
use Rattle.nm_explored.specs.Stores.{Grows}
use Rattle.nm_why_top.specs.Seeking.{AreAhead}
use Rattle.nm_why_top.proofs.seeking.seek_in.Given as goal

abbrev pub invariant-loop-state : goal.invariant-loop-state
invariant-loop-state l = record {
  grows : Grows l.fn.search l.search;
  made : IsMade l.of.eager l.of.ranks l.of.lines.now l.search;
  back : AreBack l.of.eager l.of.ranks l.of.lines.now l.search;
  ahead : AreAhead l.sought l.of.eager l.of.ranks l.of.lines.now l.search l.ahead.items;
}
