-- The first line of a text.
use Rattle.std.proofs.Common.{◌≡◌, ℕ, zero, suc, ◌+◌, ◌<◌, List, [], ◌∷◌, length, get_or, take, drop}
use Rattle.std.proofs.Common.{Some, None, refl, arith, add-one}
use Rattle.std.proofs.lemmas.Bool.{eq-eqb, ne_eqb}
use Rattle.nm_trace.specs.Lines.{first_line}

-- a line that a line feed ends
pub first_cut : (bs : List ℕ) (i : ℕ) → i < length bs → ((k : ℕ) → k < i → get_or bs k 0 ≡ 10 → ⊥)
    → get_or bs i 0 ≡ 10 → first_line bs ≡ Some (take i bs, drop (i + 1) bs)
first_cut [] i within none here = absurd (omega arith)
first_cut (b ∷ bs) zero within none here = rw (eq-eqb b 10 here) refl
first_cut (b ∷ bs) (suc i) within none here =
    let rest = first_cut bs i (omega arith) (λ k h e. none (suc k) (omega arith) e) here in
    rw (ne_eqb b 10 (λ e. none 0 (omega arith) e)) (rw rest (simp add-one))

-- no line feed
pub first_none : (bs : List ℕ) → ((k : ℕ) → k < length bs → get_or bs k 0 ≡ 10 → ⊥)
    → first_line bs ≡ None
first_none [] none = refl
first_none (b ∷ bs) none =
    let rest = first_none bs (λ k h e. none (suc k) (omega arith) e) in
    rw (ne_eqb b 10 (λ e. none 0 (omega arith) e)) (rw rest refl)
