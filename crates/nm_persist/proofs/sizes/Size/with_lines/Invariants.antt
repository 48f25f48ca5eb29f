use Rattle.std.proofs.Common.{ℕ, List, ◌++◌, take}
use Rattle.nm_types.specs.declared.scripts.Line.{Line}
use Rattle.nm_persist.specs.Sizes.{IsSizeOf}
use Rattle.nm_persist.proofs.sizes.Size.with_lines.Given as goal

-- the size so far is that of the script with the lines so far
abbrev pub invariant-loop-line : goal.invariant-loop-line
invariant-loop-line l =
    (ranks : ℕ) (before : List Line) → IsSizeOf l.fn.self ranks before
    → IsSizeOf l.size ranks (before ++ take l.line-index l.lines)
