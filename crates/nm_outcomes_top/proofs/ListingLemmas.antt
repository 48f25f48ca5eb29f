-- The text of a listing, and its status.
use Rattle.std.proofs.Common.{◌≡◌, ℕ, ◌+◌, ◌<◌, ◌⊎◌, Bool, true, false, inl, inr, refl, if◌then◌else◌, nat_lt}
use Rattle.std.proofs.Common.{List, [], ◌∷◌, ◌++◌, length, map, take, get_or, sym, ◌∙◌, ap, arith}
use Rattle.std.proofs.Common.{add-zero, append-nil, append_assoc, length-take}
use Rattle.std.proofs.lemmas.List.{length-map, map-append, take_more}
use Rattle.nm_outcomes_top.specs.Answers.{listed_status}
use Rattle.nm_outcomes_top.specs.Texts.{outcome_text, outcomes_from, stuck_count}

pub low_by : (b : Bool) → let n : ℕ = if b then 1 else 0 in (n ≡ 0) ⊎ (n ≡ 1)
low_by true = inr refl
low_by false = inl refl

-- a listing has status 0 or 1
pub low : (texts : List (List ℕ)) → (listed_status texts ≡ 0) ⊎ (listed_status texts ≡ 1)
low texts = low_by (nat_lt 0 (stuck_count texts))

-- one report more at the end
outcomes_more : (k : ℕ) (texts : List (List ℕ)) (text : List ℕ) →
    outcomes_from k (texts ++ text ∷ []) ≡ outcomes_from k texts ++ outcome_text (k + length texts) text
outcomes_more k [] text =
    append-nil (outcome_text k text) ∙ ap (λ (n : ℕ). outcome_text n text) (sym (add-zero k))
outcomes_more k (first ∷ texts) text =
    let place : k + 1 + length texts ≡ k + length (first ∷ texts) = omega arith in
    ap (λ (rest : List ℕ). outcome_text k first ++ rest)
    (outcomes_more (k + 1) texts text ∙ ap (λ (n : ℕ). outcomes_from (k + 1) texts ++ outcome_text n text) place)
    ∙ sym (append_assoc (outcome_text k first) (outcomes_from (k + 1) texts) _)

-- the next report was written
pub next_written : {X : Type 0} (f : X → List ℕ) (texts : List X) (i : ℕ) (x : X) (before out new : List ℕ) →
    i < length texts → x ≡ get_or texts i x → out ≡ before ++ outcomes_from 1 (map f (take i texts)) →
    new ≡ out ++ outcome_text (i + 1) (f x) → new ≡ before ++ outcomes_from 1 (map f (take (i + 1) texts))
next_written f texts i x before out new below is written next =
    let more : take (i + 1) texts ≡ take i texts ++ x ∷ [] =
    take_more texts i x below ∙ ap (λ y. take i texts ++ y ∷ []) (sym is) in
    let many : 1 + length (map f (take i texts)) ≡ i + 1 =
    omega (arith, length-map (take i texts) f, length-take i texts) in
    next ∙ ap (λ (out : List ℕ). out ++ outcome_text (i + 1) (f x)) written
    ∙ append_assoc before (outcomes_from 1 (map f (take i texts))) (outcome_text (i + 1) (f x))
    ∙ ap (λ (rest : List ℕ). before ++ rest)
    (ap (λ (n : ℕ). outcomes_from 1 (map f (take i texts)) ++ outcome_text n (f x)) (sym many)
    ∙ sym (outcomes_more 1 (map f (take i texts)) (f x))
    ∙ ap (outcomes_from 1) (sym (ap (map f) more ∙ map-append f (take i texts) (x ∷ []))))
