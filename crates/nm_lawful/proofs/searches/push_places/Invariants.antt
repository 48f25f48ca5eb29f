-- The moves at the first places are there.
use Rattle.std.proofs.Common.{ℕ, ◌<◌}
use Rattle.nm_search.specs.Lists.{Extends}
use Rattle.nm_lawful.specs.Searches.{HasMoves}
use Rattle.nm_lawful.proofs.searches.push_places.Given as goal

abbrev pub invariant-loop-j : goal.invariant-loop-j
invariant-loop-j l =
    record {
      kept : Extends l.initial.moves.items l.moves.items;
      added : (m : ℕ) → m < l.j → HasMoves l.i m l.moves.items;
    }
