-- The states that the first moves lead to are there.
use Rattle.std.proofs.Common.{◌≡◌, ℕ, ◌<◌, Some, List, length}
use Rattle.std.specs.List.{slice_get}
use Rattle.nm_outcomes.specs.RankStates.{Spot}
use Rattle.nm_explored.specs.declared.choices.moves.Turn.{Turn}
use Rattle.nm_explored.specs.Successors.{spot_in}
use Rattle.nm_explored.specs.Moves.{AreSendsShort, moved_at}
use Rattle.nm_explored.specs.Met.{AreBack, IsMade}
use Rattle.nm_explored.specs.Stores.{Grows, Leads, Shows}
use Rattle.nm_explored.proofs.searches.Search.expand_from.Given as goal

abbrev pub invariant-loop-turn : goal.invariant-loop-turn
invariant-loop-turn l =
    record {
      grows : Grows l.fn.self l.self;
      leads : (ids : List ℕ) → slice_get l.fn.self.states l.k ≡ Some ids → (m : ℕ) → m < l.turn-index → (t : Turn) →
          slice_get l.turn-items m ≡ Some t → (spot : Spot) → spot_in l.fn.self.table ids t.rank ≡ Some spot →
          Leads l.self ids t.rank (moved_at spot t.by);
      made : length l.of.lines.now < 4294967293 → AreSendsShort l.of.lines.now →
          Shows l.fn.self l.k l.all → l.k < length l.fn.self.states →
          IsMade l.of.eager l.of.ranks l.of.lines.now l.fn.self →
          IsMade l.of.eager l.of.ranks l.of.lines.now l.self;
      back : length l.of.lines.now < 4294967293 → AreSendsShort l.of.lines.now →
          Shows l.fn.self l.k l.all → l.k < length l.fn.self.states →
          IsMade l.of.eager l.of.ranks l.of.lines.now l.fn.self →
          AreBack l.of.eager l.of.ranks l.of.lines.now l.fn.self → AreBack l.of.eager l.of.ranks l.of.lines.now l.self;
    }
