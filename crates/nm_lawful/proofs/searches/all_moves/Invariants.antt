-- The moves of the first ranks are there.
use Rattle.std.proofs.Common.{◌≡◌, ℕ, ◌<◌, Some}
use Rattle.std.specs.List.{slice_get}
use Rattle.nm_lawful.specs.Ranks.{RankState}
use Rattle.nm_lawful.specs.Searches.{HasMovesOf}
use Rattle.nm_lawful.proofs.searches.all_moves.Given as goal

abbrev pub invariant-loop-i : goal.invariant-loop-i
invariant-loop-i l =
    (i : ℕ) → i < l.i → (rank : RankState) → slice_get l.ranks i ≡ Some rank → HasMovesOf i rank l.moves.items
