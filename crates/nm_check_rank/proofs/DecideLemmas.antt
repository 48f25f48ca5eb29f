-- Tests that tell exactly whether something holds.
use Rattle.std.proofs.Common.{◌≡◌, ℕ, ◌==◌, ◌&&◌, Bool, true, false, refl, sym, ◌∙◌, arith}
use Rattle.std.proofs.lemmas.Bool.{false≢true}
use Rattle.std.proofs.lemmas.Bool.Decides.{nat_tests}
use Rattle.nm_lookups.specs.Deciding.{Decides}

-- what tells of one tells of another that holds where it does
pub decides_by : {P Q : Type 0} (b : Bool) → (P → Q) → (Q → P) → Decides b P → Decides b Q
decides_by true there back p = there p
decides_by false there back not = λ q. not (back q)

-- .. of both
pub decides_both : (P Q : Type 0) (a b : Bool) → Decides a P → Decides b Q → Decides (a && b) (P × Q)
decides_both P Q true true p q = (p, q)
decides_both P Q true false p not = λ both. not both.1
decides_both P Q false b not q = λ both. not both.0

-- equal numbers
pub decides_nat : (m n : ℕ) → Decides (m == n) (m ≡ n)
decides_nat m n = by_test (m == n) refl
  where
    by_test : (b : Bool) → (m == n) ≡ b → Decides b (m ≡ n)
    by_test true is = let same : m ≡ n = grind (arith, nat_tests) in same
    by_test false is = λ same. let equal : (m == n) ≡ true = grind (arith, nat_tests) in false≢true (sym is ∙ equal)
