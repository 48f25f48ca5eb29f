-- The pair of the ranks i and j, of n, has the number i * n + j.
use Rattle.std.proofs.Common.{◌≡◌, ℕ, suc, ◌+◌, ◌*◌, ◌/◌, ◌<◌, ◌≤◌, sym, ap, ◌∙◌, arith}
use Rattle.std.proofs.Common.{mul-le-mul_right}
use Rattle.std.proofs.lemmas.Nat.{div-mul-add}

pub one_pair : (n i j k l : ℕ) → j < n → l < n → i * n + j ≡ k * n + l → (i ≡ k) × (j ≡ l)
one_pair n i j k l lj ll e = let same : i ≡ k = sym (div-mul-add i n j lj) ∙ ap (λ x. x / n) e
    ∙ div-mul-add k n l ll in
    (same, let e' : i * n + j ≡ i * n + l = e ∙ ap (λ x. x * n + l) (sym same) in omega arith)

pub pair_low : (n i j : ℕ) → i < n → j < n → i * n + j < n * n
pair_low n i j li lj = let s : suc i * n ≤ n * n = mul-le-mul_right n li in
    let t : suc i * n ≡ i * n + n = omega arith in omega arith
