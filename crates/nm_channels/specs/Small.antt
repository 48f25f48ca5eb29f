-- What the worked runs are written with.
use Rattle.std.specs.Prelude.{ℕ}
use Rattle.nm_types.specs.Sizes.{Sizes}

-- a run on this many ranks, with eight cells each and an eager limit of 1024 bytes
abbrev pub run_on : ℕ → Sizes
run_on ranks = record { ranks = ranks; cells = 8; eager = 1024 }
