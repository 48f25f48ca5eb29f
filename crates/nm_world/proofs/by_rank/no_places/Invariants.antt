use Rattle.std.proofs.Common.{◌≡◌, ℕ, ◌<◌, [], length, Vec, Global}
use Rattle.std.specs.Prelude.{slice_index_or}
use Rattle.nm_world.proofs.by_rank.no_places.Given as goal

-- the lists so far are empty
abbrev pub invariant-loop : goal.invariant-loop
invariant-loop l = record {
  many : length l.all.items ≡ l.counter;
  each : (rank : ℕ) (d : Vec ℕ Global) → rank < length l.all.items → (slice_index_or l.all.items rank d).items ≡ [];
}
