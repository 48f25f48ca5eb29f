-- The lines that a run takes.
use Rattle.std.specs.Prelude.{ℕ, ◌<◌, IsTrue, List, length}
use Rattle.std.specs.List.{list_all}
use Rattle.nm_types.specs.declared.limits.TheConstants.{MAX_LINES}
use Rattle.nm_types.specs.declared.scripts.Line.{Line}
use Rattle.nm_types.specs.Limits.{is_in_range}

-- each command has its arguments in range, and a script has room for the lines
pub record AreLines (ranks : ℕ) (lines : List Line) : Type 0 where
  pub few : length lines < MAX_LINES
  pub in_range : IsTrue (list_all (λ line. is_in_range ranks line.command) lines)
