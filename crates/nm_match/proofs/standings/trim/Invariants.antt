-- What stands at each place stays.
use Rattle.std.proofs.Common.{◌≡◌, ◌≤◌, ℕ, None, get_or, length, vec_len}
use Rattle.nm_match.proofs.standings.trim.Given as goal

abbrev pub invariant-loop-places : goal.invariant-loop-places
invariant-loop-places l =
    ((i : ℕ) → get_or l.places.items i None ≡ get_or l.fn.places.items i None)
    × (length l.places.items ≤ length l.fn.places.items)

abbrev pub decreases-loop-places : goal.decreases-loop-places
decreases-loop-places l = vec_len l.places
