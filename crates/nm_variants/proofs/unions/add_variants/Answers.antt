-- All below the number.
use Rattle.std.proofs.Common.{◌≡◌, ℕ, arith, subst}
use Rattle.nm_variants.specs.Reports.{AreReportsBelow}
use Rattle.nm_variants.proofs.unions.add_variants.Goals as goal

pub returns : goal.returns
returns c =
    let end : c.loop-number.number ≡ c.args.count =
    omega (arith, c.loop-number-test.false, c.loop-number.auto.number-end) in
    subst (λ (n : ℕ). AreReportsBelow c.args.shape c.args.script.now.lines n c.loop-number.texts) end
    c.loop-number.invariant
