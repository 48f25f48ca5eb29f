-- The lines of a rank's commands.
use Rattle.std.specs.Prelude.{ℕ, Option, List, option_map}
use Rattle.std.specs.List.{slice_get}
use Rattle.nm_types.specs.declared.scripts.Line.{Line}
use Rattle.nm_types.specs.Commands.{commands_of}

-- the line of a rank's command at a place, from 0
abbrev pub line_in : List Line → ℕ → ℕ → Option ℕ
line_in lines i place = option_map (λ c. c.line) (slice_get (commands_of i lines) place)
