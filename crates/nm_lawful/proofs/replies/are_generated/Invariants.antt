-- The first bytes are those.
use Rattle.std.proofs.Common.{◌≡◌, ℕ, ◌<◌, get_or}
use Rattle.nm_types.specs.Bodies.{generated_byte}
use Rattle.nm_lawful.proofs.replies.are_generated.Given as goal

abbrev pub invariant-loop-k : goal.invariant-loop-k
invariant-loop-k l = (j : ℕ) → j < l.k → generated_byte j ≡ get_or l.bytes j 0
