-- The first states are expanded.
use Rattle.std.proofs.Common.{◌<◌, length}
use Rattle.nm_explored.specs.Moves.{AreSendsShort}
use Rattle.nm_explored.specs.Met.{AreBack, IsMade}
use Rattle.nm_explored.specs.Stores.{AreExpanded, Grows}
use Rattle.nm_explored.proofs.searches.Search.run.Given as goal

abbrev pub invariant-loop-k : goal.invariant-loop-k
invariant-loop-k l =
    record {
      grows : Grows l.fn.self l.self;
      all : length l.of.lines.now < 4294967293 → AreSendsShort l.of.lines.now →
          IsMade l.of.eager l.of.ranks l.of.lines.now l.fn.self → AreExpanded l.of.eager l.of.ranks l.of.lines.now
          l.self l.k;
      made : length l.of.lines.now < 4294967293 → AreSendsShort l.of.lines.now →
          IsMade l.of.eager l.of.ranks l.of.lines.now l.fn.self → IsMade l.of.eager l.of.ranks l.of.lines.now l.self;
      back : length l.of.lines.now < 4294967293 → AreSendsShort l.of.lines.now →
          IsMade l.of.eager l.of.ranks l.of.lines.now l.fn.self →
          AreBack l.of.eager l.of.ranks l.of.lines.now l.fn.self → AreBack l.of.eager l.of.ranks l.of.lines.now l.self;
    }
