use Rattle.std.proofs.Common.{◌≡◌, ℕ, ◌+◌}
use Rattle.std.specs.Prelude.{slice_get}
use Rattle.nm_script.specs.Lines.{lines_of}
use Rattle.nm_breaks.proofs.stops.line_at.Given as goal

-- the lines that are left are those behind the ones that were passed
abbrev pub invariant-loop-line : goal.invariant-loop-line
invariant-loop-line l =
    (k : ℕ) → slice_get (lines_of l.bytes) (l._line + k) ≡ slice_get (lines_of l.rest) k
