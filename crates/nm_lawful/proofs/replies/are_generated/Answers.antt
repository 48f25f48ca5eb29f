-- The first byte that differs, or none.
use Rattle.std.proofs.Common.{ℕ, ◌≡◌, get_or, arith}
use Rattle.nm_types.specs.Bodies.{generated_byte}
use Rattle.nm_lawful.proofs.ByteLemmas.{other_byte, same_bytes}
use Rattle.nm_search.proofs.ListLemmas.{each_next}
use Rattle.nm_lawful.proofs.replies.are_generated.Goals as goal

pub returns-then-generated-bytes : goal.returns-then-generated-bytes
returns-then-generated-bytes c =
    other_byte c.args.len c.loop-k.k c.args.bytes.now (omega (arith, c.requires)) (omega arith)
    (λ e. omega (arith, e))

pub loop-k-preserved : goal.loop-k-preserved
loop-k-preserved c =
    each_next (λ (j : ℕ). generated_byte j ≡ get_or c.args.bytes.now j 0) c.loop-k.k c.loop-k.invariant
    (omega arith)

pub returns : goal.returns
returns c =
    same_bytes c.args.len c.args.bytes.now c.requires
    (λ j low. c.loop-k.invariant j (omega (arith, low)))
