-- The command that is left to find is the one that is wanted.
use Rattle.std.proofs.Common.{◌≡◌}
use Rattle.std.specs.List.{slice_get}
use Rattle.nm_types.specs.Commands.{commands_of}
use Rattle.nm_explored.proofs.LineLemmas.{left_at}
use Rattle.nm_explored.proofs.choices.choices.line_at.Given as goal

abbrev pub invariant-loop-k : goal.invariant-loop-k
invariant-loop-k l = left_at l.rank l.lines l.k l.left ≡ slice_get (commands_of l.rank l.lines) l.place
