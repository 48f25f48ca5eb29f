use Rattle.std.proofs.Common.{◌≡◌, ℕ, ◌<◌, [], length, Vec, Global}
use Rattle.std.specs.Prelude.{slice_index_or}
use Rattle.nm_persist.specs.declared.asked.Asked.{Asked}
use Rattle.nm_persist.proofs.asked.no_rows.Given as goal

-- the rows so far are empty
abbrev pub invariant-loop : goal.invariant-loop
invariant-loop l = record {
  len : length l.all.items ≡ l.counter;
  each : (rank : ℕ) (d : Vec Asked Global) → rank < length l.all.items → (slice_index_or l.all.items rank d).items ≡ [];
}
