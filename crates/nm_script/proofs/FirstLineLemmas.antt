-- The first line of a text, and the first of the rules that are broken.
use Rattle.std.proofs.Common.{◌≡◌, ℕ, zero, suc, ◌+◌, ◌<◌, ◌≤◌, inl, inr, true, List, [], ◌∷◌, Option, Some, None}
use Rattle.std.proofs.Common.{Ok, Err, refl, sym, ap, ◌∙◌, arith, codes, decimal}
use Rattle.std.specs.List.{join_with_byte}
use Rattle.std.specs.Option.{ok_or}
use Rattle.std.specs.Str.{bytes_eq}
use Rattle.std.proofs.lemmas.Slice.Eq.{bytes_eq-Decides}
use Rattle.nm_types.specs.declared.limits.TheConstants.{MAX_RANKS}
use Rattle.nm_script.specs.Decimal.{number_of}
use Rattle.nm_script.specs.Lines.{is_printable, words_of}
use Rattle.nm_script.specs.Reading.{positive, ranks_at, ranks_of}
use Rattle.nm_script.specs.TextRules.{AllKept, IsFirstOf, IsRanks, ranks_text}
use Rattle.nm_script.proofs.NumberLemmas.{number_again, number_taken}
use Rattle.nm_script.proofs.StepLemmas.{err_or, found_in, guard_ok, guard_some}
use Rattle.nm_script.proofs.WordLemmas.{Solid, decimal_solid, joined_printable, line_is, words_again}
use Rattle.nm_script.proofs.WordsStepLemmas.{chosen}

-- ---- the first of the rules that are broken is one

pub one_first : {K : Type 0} (keeps : K → Type 0) (kinds : List K) (a b : K) → IsFirstOf keeps kinds a →
    IsFirstOf keeps kinds b → a ≡ b
one_first keeps [] a b x y = absurd x
one_first keeps (k ∷ kinds) a b x y =
    elim x [
      | inl p ↦ elim y [ inl q ↦ p.0 ∙ sym q.0 | inr q ↦ absurd (p.1 q.0) ]
      | inr p ↦ elim y [ inl q ↦ absurd (q.1 p.0) | inr q ↦ one_first keeps kinds a b p.1 q.1 ]
    ]

pub none_first : {K : Type 0} (keeps : K → Type 0) (kinds : List K) (a : K) → AllKept keeps kinds →
    IsFirstOf keeps kinds a → ⊥
none_first keeps [] a all x = x
none_first keeps (k ∷ kinds) a all x =
    elim x [ inl p ↦ p.1 all.0 | inr p ↦ none_first keeps kinds a all.1 p.1 ]

-- ---- the first line

pub ranks_solid : (n : ℕ) → n ≤ MAX_RANKS → Solid (codes "ranks" ∷ decimal n ∷ [])
ranks_solid n few = (refl, (decimal_solid n (omega arith), tt))

ranks_printable : (n : ℕ) → n ≤ MAX_RANKS → is_printable (ranks_text n) ≡ true
ranks_printable n few = joined_printable (codes "ranks") (decimal n ∷ []) (ranks_solid n few)

positive_is : (n : ℕ) → 0 < n → positive (Some n) ≡ Some n
positive_is zero h = absurd (omega arith)
positive_is (suc n) h = refl

positive_some : (o : Option ℕ) (n : ℕ) → positive o ≡ Some n → (o ≡ Some n) × (0 < n)
positive_some None n h = cc
positive_some (Some zero) n h = cc
positive_some (Some (suc m)) n h = let e : suc m ≡ n = cc in (ap Some e, omega (arith, e))

ranks_of_taken : (ws : List (List ℕ)) (n : ℕ) → ranks_of ws ≡ Some n →
    (ws ≡ codes "ranks" ∷ decimal n ∷ []) × (0 < n) × (n ≤ MAX_RANKS)
unfolding ranks_of
ranks_of_taken [] n h = cc
ranks_of_taken (name ∷ []) n h = cc
ranks_of_taken (name ∷ count ∷ []) n h =
    let p = guard_some (bytes_eq name (codes "ranks")) (positive (number_of (MAX_RANKS + 1) count)) n h in
    let q = positive_some (number_of (MAX_RANKS + 1) count) n p.1 in
    let r = number_taken (MAX_RANKS + 1) n count (omega arith) q.0 in
    let word : name ≡ codes "ranks" = (bytes_eq-Decides name (codes "ranks")).0 p.0 in
    (ap (λ x. x ∷ count ∷ []) word ∙ ap (λ x. codes "ranks" ∷ x ∷ []) r.1, q.1, omega (arith, r.0))
ranks_of_taken (name ∷ count ∷ x ∷ more) n h = cc

module _ {K : Type 0} (odd none : K) where
  pub ranks_taken : (line : List ℕ) (n : ℕ) → ranks_at odd none line ≡ Ok n →
      (line ≡ ranks_text n) × (0 < n) × (n ≤ MAX_RANKS)
  unfolding ranks_at
  ranks_taken line n h =
      let p = guard_ok (is_printable line) (ok_or (ranks_of (words_of line)) none) odd n h in
      let t = ranks_of_taken (words_of line) n (found_in (ranks_of (words_of line)) none n p.1) in
      (sym (line_is line) ∙ ap (join_with_byte 32) t.0, t.1, t.2)

  pub ranks_again : (n : ℕ) → 0 < n → n ≤ MAX_RANKS → ranks_at odd none (ranks_text n) ≡ Ok n
  unfolding ranks_at ranks_of
  ranks_again n some few =
      rw (ranks_printable n few, words_again _ _ (ranks_solid n few))
      (rw (number_again (MAX_RANKS + 1) n (omega arith) (omega arith)) (rw (positive_is n some) refl))

  module _ (keeps : K → Type 0) (text : List ℕ) (keeps_odd : is_printable text ≡ true → keeps odd)
      (keeps_none : IsRanks text → keeps none) where
    pub ranks_kept : (n : ℕ) → (text ≡ ranks_text n) × (0 < n) × (n ≤ MAX_RANKS) → AllKept keeps (odd ∷ none ∷ [])
    ranks_kept n h =
        (keeps_odd (ap is_printable h.0 ∙ ranks_printable n h.2), (keeps_none (n, h.1, h.2, h.0), tt))

    pub ranks_fault : (keeps odd → is_printable text ≡ true) → (keeps none → IsRanks text) → (e : K) →
        ranks_at odd none text ≡ Err e → IsFirstOf keeps (odd ∷ none ∷ []) e
    unfolding ranks_at
    ranks_fault odd_keeps none_keeps e h =
        let no : ¬ (keeps none) = λ k.
        let is = none_keeps k in
        let same : ranks_at odd none text ≡ Ok is.0 = ap (ranks_at odd none) is.3 ∙ ranks_again is.0 is.1 is.2 in
        cc (same, h) in
        elim (chosen (is_printable text) (ok_or (ranks_of (words_of text)) none) (Err odd) (Err e) h) [
          | inl p ↦ inr (keeps_odd p.0, inl ((err_or (ranks_of (words_of text)) none e p.1).1, no))
          | inr p ↦ inl (cc (p.1), λ k. let yes = odd_keeps k in cc (p.0, yes))
        ]
