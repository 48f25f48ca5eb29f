-- Ranks that are kept or not, one by one.
use Rattle.std.proofs.Common.{◌≡◌, ◌≢◌, ℕ, ◌+◌, ◌<◌, ◌≤◌, Bool, true, false, List, nat_lt, get_or, get_or-set_other}
use Rattle.std.proofs.Common.{length, length-set, set, refl, sym, ◌∙◌, subst, arith}
use Rattle.std.proofs.lemmas.Bool.{ltb-true, ltb-false}
use Rattle.std.proofs.lemmas.List.{get_or-set_same, get_or_default}
use Rattle.nm_report.specs.declared.accounts.RankAccount.{RankAccount}
use Rattle.nm_chart.specs.Parts.{AreKept, IsKept}

-- the first k were visited, and the others are as they were
pub record KeptTo (chosen : List Bool) (k : ℕ) (xs ys : List RankAccount) : Type 0 where
  pub rest : (j : ℕ) (d : RankAccount) → k ≤ j → get_or ys j d ≡ get_or xs j d
  pub many : length ys ≡ length xs
  pub each : (j : ℕ) (d : RankAccount) → j < k → IsKept (get_or chosen j false) (get_or xs j d) (get_or ys j d)

pub kept_start : (chosen : List Bool) (xs : List RankAccount) → KeptTo chosen 0 xs xs
kept_start chosen xs =
    record { rest = λ j d low. refl; many = refl; each = λ j d below. absurd (omega (arith, below)) }

-- the next one
next_kept : (chosen : List Bool) (k : ℕ) (xs ys : List RankAccount) (b : RankAccount) → KeptTo chosen k xs ys →
    k < length ys → (item : RankAccount) → IsKept (get_or chosen k false) (get_or ys k item) b →
    (j : ℕ) (d : RankAccount) → j < k + 1 → (t : Bool) → nat_lt j k ≡ t →
    IsKept (get_or chosen j false) (get_or xs j d) (get_or (set ys k b) j d)
next_kept chosen k xs ys b s low item is j d below true before =
    let less = ltb-true j k before in
    let other : j ≢ k = omega (arith, less) in
    subst (λ y. IsKept (get_or chosen j false) (get_or xs j d) y) (sym (get_or-set_other ys k j b d other))
    (s.each j d less)
next_kept chosen k xs ys b s low item is j d below false before =
    let past = ltb-false j k before in
    let same : k ≡ j = omega (arith, below, past) in
    subst (λ n. IsKept (get_or chosen n false) (get_or xs n d) (get_or (set ys k b) n d)) same
    (subst (λ y. IsKept (get_or chosen k false) (get_or xs k d) y) (sym (get_or-set_same ys k b d low))
    (subst (λ x. IsKept (get_or chosen k false) x b)
    (get_or_default ys k item d low ∙ s.rest k d (omega arith)) is))

pub kept_step : (chosen : List Bool) (k : ℕ) (xs ys : List RankAccount) (b : RankAccount) → KeptTo chosen k xs ys →
    k < length ys → (item : RankAccount) → IsKept (get_or chosen k false) (get_or ys k item) b →
    KeptTo chosen (k + 1) xs (set ys k b)
kept_step chosen k xs ys b s low item is =
    let many = s.many in
    record {
      rest = λ j d past. let other : j ≢ k = omega (arith, past) in
          get_or-set_other ys k j b d other ∙ s.rest j d (omega (arith, past));
      many = length-set ys k b ∙ many;
      each = λ j d below. next_kept chosen k xs ys b s low item is j d below (nat_lt j k) refl;
    }

pub kept_end : (chosen : List Bool) (k : ℕ) (xs ys : List RankAccount) → KeptTo chosen k xs ys → length ys ≤ k →
    AreKept chosen xs ys
kept_end chosen k xs ys s past =
    let many = s.many in
    record { many = many; each = λ j d below. s.each j d (omega (arith, below, past, many)) }
