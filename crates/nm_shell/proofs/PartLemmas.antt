-- The two parts of a text.
use Rattle.std.proofs.Common.{◌≡◌, ℕ, ◌+◌, ◌<◌, ◌≤◌, inl, inr, List, ap, ◌∙◌, arith, length, length-append, codes}
use Rattle.nm_shell.specs.Inputs.{HasNoParts, IsInput}

-- bytes that have no parts
pub no_input : (bytes front rest : List ℕ) → HasNoParts bytes → IsInput bytes front rest → ⊥
no_input bytes front rest (inl long) input = let short = input.short in omega (arith, long, short)
no_input bytes front rest (inr none) input = none front rest input.cut.cut

-- no part is longer than all
pub parts_short : (bytes front rest : List ℕ) → IsInput bytes front rest →
    (length front ≤ 67108864) × (length rest < 67108864)
parts_short bytes front rest input =
    let cut = input.cut.cut in
    let short = input.short in
    let all = ap length cut.split ∙ length-append front cut.behind in (
      omega (arith, all, short),
      elim cut.follows [
        | inl is ↦
            let n : length cut.behind ≡ 4 + length rest = ap length is ∙ length-append (codes "---\n") rest in
            omega (arith, all, short, n)
        | inr is ↦ let n : length rest ≡ 0 = ap length is.1 in omega (arith, n)
      ],
    )
