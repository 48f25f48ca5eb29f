-- What has come of a message so far.
use Rattle.std.specs.Prelude.{◌≡◌, ℕ, ◌+◌, ◌<◌}
use Rattle.nm_history.specs.Known.{Known}

-- Message n of a rank was announced, and lacks nothing: each one before the last does, and the last
-- one where no bytes are missing.
pub record IsOver (n : ℕ) (known : Known) : Type 0 where
  pub announced : n < known.count
  pub finished : n + 1 ≡ known.count → known.missing ≡ 0
