-- The script that bytes spell, and what reading promises.
use Rattle.std.specs.Prelude.{ℕ, Bool, true, List, nat_lt}
use Rattle.std.specs.List.{list_all}
use Rattle.nm_types.specs.declared.scripts.Body.{Body}
use Rattle.nm_types.specs.declared.scripts.Body.TheVariants.{Hex, Gen}
use Rattle.nm_types.specs.declared.scripts.Command.{Command}
use Rattle.nm_types.specs.declared.scripts.Command.TheVariants.{Send}
use Rattle.nm_types.specs.declared.scripts.Line.{Line}
use Rattle.nm_types.specs.Limits.{IsScriptOf}

-- a body that is written out has bytes, which are numbers below 256
abbrev pub are_bytes : Body → Bool
are_bytes (Hex bytes) = list_all (λ b. nat_lt b 256) bytes
are_bytes (Gen len) = true

-- and so has what a command sends
abbrev pub has_bytes : Command → Bool
has_bytes (Send to q tag ctx sync body) = are_bytes body
has_bytes _ = true

-- the bytes spell this script, whose limits hold
abbrev pub IsTextOf : List ℕ → ℕ → List Line → Type 0
IsTextOf bytes ranks lines = IsScriptOf has_bytes bytes ranks lines

-- the bytes spell no script
abbrev pub SpellsNone : List ℕ → Type 0
SpellsNone bytes = (ranks : ℕ) (lines : List Line) → ¬ (IsTextOf bytes ranks lines)
