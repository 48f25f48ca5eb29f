-- No rank has a place.
use Rattle.std.proofs.Common.{ℕ, ◌+◌, List, ap, map}
use Rattle.nm_world.proofs.by_rank.no_places.Goals as goal

pub returns-clause-places : goal.returns-clause-places
returns-clause-places c = record {
  each = λ rank d low. ap (λ (ps : List ℕ). map (λ (p : ℕ). p + 2) ps) (c.loop.invariant.each rank d low);
}
