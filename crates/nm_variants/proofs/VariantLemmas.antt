-- Each variant has a number, and each number that is small enough is that of a variant.
use Rattle.std.proofs.Common.{◌≡◌, ◌⊎◌, inl, inr, ℕ, ◌+◌, ◌*◌, ◌/◌, ◌%◌, ◌<◌, ◌&&◌, Bool, true, false, List, [], ◌∷◌, refl, sym, ◌∙◌, ap, subst, arith}
use Rattle.std.specs.Prelude.{◌==◌, if◌then◌else◌}
use Rattle.std.proofs.lemmas.Bool.{false≢true}
use Rattle.std.proofs.lemmas.Nat.{div-mul-add}
use Rattle.std.proofs.Math.Nat.{mul-add-mod_self_right}
use Rattle.nm_types.specs.declared.scripts.Line.{Line}
use Rattle.nm_variants.specs.Variants.{IsEither, IsVariant, line_by, may_wait, number_behind, variant_of, variants, waiting}

-- a line by a number is as it is, or its send waits
either_by : (eager : ℕ) (line : Line) (wait odd : Bool) → may_wait eager line.command ≡ wait →
    IsEither eager line (if wait && odd then waiting line else line)
either_by eager line true true is = inr (is, refl)
either_by eager line true false is = inl refl
either_by eager line false odd is = inl refl

-- what a number stands for is a variant
pub is_variant : (eager number : ℕ) (lines : List Line) → IsVariant eager lines (variant_of eager number lines)
is_variant eager number [] = refl
is_variant eager number (line ∷ lines) = (
  either_by eager line (may_wait eager line.command) (number % 2 == 1) refl,
  is_variant eager (number_behind eager number line) lines,
)

-- a variant has a number
abbrev HasNumber : ℕ → List Line → List Line → Type 0
HasNumber eager lines variant =
    (number : ℕ) × (number < variants eager lines) × (variant_of eager number lines ≡ variant)

module _ (eager : ℕ) (line other : Line) (lines others : List Line) where
  -- a variant of the lines behind one, and that line
  joined : (n k : ℕ) (wait odd : Bool) → may_wait eager line.command ≡ wait → (n % 2 == 1) ≡ odd →
      (if wait then n / 2 else n) ≡ k → variant_of eager k lines ≡ others →
      other ≡ (if wait && odd then waiting line else line) → variant_of eager n (line ∷ lines) ≡ other ∷ others
  joined n k wait odd is digit behind rest here =
      let first : line_by eager n line ≡ other =
      ap (λ (b : Bool). if b && (n % 2 == 1) then waiting line else line) is
      ∙ ap (λ (b : Bool). if wait && b then waiting line else line) digit ∙ sym here in
      let left : number_behind eager n line ≡ k = ap (λ (b : Bool). if b then n / 2 else n) is ∙ behind in
      let rest_is : variant_of eager (number_behind eager n line) lines ≡ others =
      ap (λ (j : ℕ). variant_of eager j lines) left ∙ rest in
      ap (λ (l : Line). l ∷ variant_of eager (number_behind eager n line) lines) first
      ∙ ap (λ (ls : List Line). other ∷ ls) rest_is

  -- so many are below
  below : (n : ℕ) (wait : Bool) → may_wait eager line.command ≡ wait →
      n < (if wait then 2 * variants eager lines else variants eager lines) → n < variants eager (line ∷ lines)
  below n wait is low =
      subst (λ (b : Bool). n < (if b then 2 * variants eager lines else variants eager lines)) (sym is) low

  -- the number of a variant that has one line more
  more : (wait : Bool) → may_wait eager line.command ≡ wait → IsEither eager line other →
      HasNumber eager lines others → HasNumber eager (line ∷ lines) (other ∷ others)
  more false is (inl same) (k, low, rest) =
      (k, below k false is low, joined k k false (k % 2 == 1) is refl refl rest same)
  more false is (inr (may, same)) rest = absurd (false≢true (sym is ∙ may))
  more true is (inl same) (k, low, rest) = (
    k * 2 + 0,
    below (k * 2 + 0) true is (omega (arith, low)),
    joined (k * 2 + 0) k true false is (ap (λ (d : ℕ). d == 1) (mul-add-mod_self_right k 2 0))
        (div-mul-add k 2 0 (omega arith)) rest same,
  )
  more true is (inr (may, same)) (k, low, rest) = (
    k * 2 + 1,
    below (k * 2 + 1) true is (omega (arith, low)),
    joined (k * 2 + 1) k true true is (ap (λ (d : ℕ). d == 1) (mul-add-mod_self_right k 2 1))
        (div-mul-add k 2 1 (omega arith)) rest same,
  )

pub number_of : (eager : ℕ) (lines variant : List Line) → IsVariant eager lines variant →
    HasNumber eager lines variant
number_of eager [] variant is = (0, omega arith, sym is)
number_of eager (line ∷ lines) [] is = absurd is
number_of eager (line ∷ lines) (other ∷ others) (here, rest) =
    more eager line other lines others (may_wait eager line.command) refl here (number_of eager lines others rest)
