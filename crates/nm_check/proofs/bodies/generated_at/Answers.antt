use Rattle.std.proofs.Common.{◌∙◌, ℕ, Some, sym, ap, arith}
use Rattle.std.proofs.lemmas.Option.{slice_get-get_or, slice_get_past}
use Rattle.nm_types.specs.Bodies.{bytes_of}
use Rattle.nm_types.specs.declared.scripts.Body.TheVariants.{Gen}
use Rattle.nm_check.proofs.BodyLemmas.{generated_at, generated_length}
use Rattle.nm_check.proofs.bodies.generated_at.Goals as goal

pub returns-then-k-len : goal.returns-then-k-len
returns-then-k-len c =
    let many = generated_length c.args.len in
    ap (λ (n : ℕ). Some n) c.generated.ensures
    ∙ sym (slice_get-get_or (bytes_of (Gen c.args.len)) c.args.k 0 (omega (arith, many, c.if-k-len.true))
    ∙ ap (λ (n : ℕ). Some n) (generated_at c.args.len c.args.k (omega (arith, c.if-k-len.true))))

pub returns-else-k-len : goal.returns-else-k-len
returns-else-k-len c =
    let many = generated_length c.args.len in
    sym (slice_get_past (bytes_of (Gen c.args.len)) c.args.k (omega (arith, many, c.if-k-len.false)))
