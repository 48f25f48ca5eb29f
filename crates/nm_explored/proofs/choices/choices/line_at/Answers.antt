-- Line by line.
use Rattle.std.proofs.Common.{◌≡◌, ℕ, ◌<◌, ◌&&◌, Bool, true, false, Option, refl, sym, ◌∙◌, ap, arith}
use Rattle.std.specs.Prelude.{nat_eq, option_map}
use Rattle.nm_types.specs.Commands.{Numbered}
use Rattle.nm_types.proofs.NumberLemmas.{nat_unequal}
use Rattle.nm_explored.proofs.LineLemmas.{left_at, own_here, own_next}
use Rattle.nm_explored.proofs.choices.choices.line_at.Goals as goal
use Rattle.nm_explored.proofs.choices.choices.line_at.Goals.{else-own-via-then-own+else-left-eq0, else-own-via-else-own}

and_false : (b : Bool) → (b && false) ≡ false
and_false true = refl
and_false false = refl

pub returns-then-left-eq0 : goal.returns-then-left-eq0
returns-then-left-eq0 c few =
    let below = c.loop-k-test.true in
    let small : c.loop-k.k < 4294967293 = omega (arith, below, few) in
    c.number_of_line.ensures small
    ∙ sym (own_here c.args.rank c.args.lines.now c.loop-k.k below (sym c.is_own-own.ensures ∙ c.if-own.true))
    ∙ ap (λ (n : ℕ). option_map (λ (x : Numbered). x.line) (left_at c.args.rank c.args.lines.now c.loop-k.k n))
    (sym c.if-left-eq0.true)
    ∙ ap (λ (o : Option Numbered). option_map (λ (x : Numbered). x.line) o) c.loop-k.invariant

pub loop-k-preserved : goal.loop-k-preserved
loop-k-preserved c =
    let some : (c.is_own-own.result && nat_eq c.loop-k.left 0) ≡ false =
    elim c.else-own.branch [
      | else-own-via-then-own+else-left-eq0 w ↦
          ap (λ (b : Bool). c.is_own-own.result && b) (nat_unequal c.loop-k.left 0 w.if-left-eq0.false)
          ∙ and_false c.is_own-own.result
      | else-own-via-else-own w ↦ ap (λ (b : Bool). b && nat_eq c.loop-k.left 0) w.if-own.false
    ] in
    own_next c.args.rank c.args.lines.now c.loop-k.k c.loop-k-test.true c.is_own-own.result c.loop-k.left
    c.left_after-left.result (sym c.is_own-own.ensures) some c.left_after-left.ensures
    ∙ c.loop-k.invariant
