-- What a sparse set of names keeps.
use Rattle.std.proofs.Common.{◌≡◌, ℕ, zero, suc, ◌<◌, ◌≤◌, Bool, true, false, cond, Option, Some, None}
use Rattle.std.proofs.Common.{List, [], ◌∷◌, ◌++◌, length, length-append, get_or, true≢false, refl, sym, ◌∙◌, ap, subst, arith}
use Rattle.std.specs.Prelude.{nat_eq, nat_lt, slice_get}
use Rattle.std.specs.Map.{lookup}
use Rattle.std.proofs.Math.ListN.{set}
use Rattle.std.proofs.lemmas.Bool.Decides.{nat_tests}
use Rattle.std.specs.Cmp.{nat_eq_equiv}
use Rattle.std.proofs.lemmas.Map.Entries.{place_from_lookup}
use Rattle.std.proofs.lemmas.Option.{slice_get-get_or}
use Rattle.indexmap.proofs.IndexTableLemmas.Probe.{pigeonhole}
use Rattle.nm_types.proofs.ListLemmas.{get_front, get_last, get_set_other, get_set_same, place_below}
use Rattle.nm_types.proofs.NumberLemmas.{differ, eq_true, same_number}
use Rattle.nm_types.proofs.OptionLemmas.{no_some, same_some}
use Rattle.nm_types.proofs.TruthLemmas.{not_true}
use Rattle.nm_request.specs.declared.Req.{Req}
use Rattle.nm_process.specs.Sparse.{StandAt}

-- the name and the request of an entry that is known twice
same_name : (q p : ℕ) (r x : Req) → ◌≡◌ {A = Option (ℕ × Req)} (Some (q, r)) (Some (p, x)) → q ≡ p
same_name q p r x is = ap (λ (e : ℕ × Req). e.0) (same_some (q, r) (p, x) is)

same_request : (q p : ℕ) (r x : Req) → ◌≡◌ {A = Option (ℕ × Req)} (Some (q, r)) (Some (p, x)) → r ≡ x
same_request q p r x is = ap (λ (e : ℕ × Req). e.1) (same_some (q, r) (p, x) is)

-- a name that is not found stands nowhere
pub not_here : (names : List (ℕ × Req)) (k q p : ℕ) (r : Req) → lookup (nat_eq q) names ≡ None →
    slice_get names k ≡ Some (p, r) → nat_eq q p ≡ false
not_here [] k q p r none here = absurd (no_some (p, r) here)
not_here (e ∷ es) k q p r none here =
    by_head k (nat_eq q e.0) refl none here (λ i absent there. not_here es i q p r absent there)
  where
    by_head : (k : ℕ) (b : Bool) → nat_eq q e.0 ≡ b → cond b (Some e.1) (lookup (nat_eq q) es) ≡ None →
        slice_get (e ∷ es) k ≡ Some (p, r) → ((i : ℕ) → lookup (nat_eq q) es ≡ None →
        slice_get es i ≡ Some (p, r) → nat_eq q p ≡ false) → nat_eq q p ≡ false
    by_head k true is none here again = absurd (no_some e.1 (sym none))
    by_head zero false is none here again =
        ap (λ (x : ℕ). nat_eq q x) (sym (ap (λ (x : ℕ × Req). x.0) (same_some e (p, r) here))) ∙ is
    by_head (suc k) false is none here again = again k none here

module _ (place : ℕ → ℕ) (names : List (ℕ × Req)) (stand : StandAt place names) where
  -- a name that is found stands at its place
  pub found_at : (q : ℕ) (r : Req) → lookup (nat_eq q) names ≡ Some r →
      slice_get names (place q) ≡ Some (q, r)
  found_at q r is = let w = place_from_lookup (nat_eq q) names r is in
      let same : q ≡ w.1 = same_number q w.1 w.3 in
      ap (λ (p : ℕ). slice_get names (place p)) same
      ∙ ap (λ (k : ℕ). slice_get names k) (stand w.0 w.1 r w.2).1 ∙ w.2
      ∙ ap (λ (p : ℕ). Some (p, r)) (sym same)

  -- a name that does not stand at its place is not found
  pub none_at : (q : ℕ) → ((r : Req) → slice_get names (place q) ≡ Some (q, r) → ⊥) →
      lookup (nat_eq q) names ≡ None
  none_at q never = by (lookup (nat_eq q) names) refl where
    by : (o : Option Req) → lookup (nat_eq q) names ≡ o → o ≡ None
    by None is = refl
    by (Some r) is = absurd (never r (found_at q r is))

  -- what stands somewhere is found
  pub here_found : (k q : ℕ) (r : Req) → slice_get names k ≡ Some (q, r) → lookup (nat_eq q) names ≡ Some r
  here_found k q r here = by (lookup (nat_eq q) names) refl where
    by : (o : Option Req) → lookup (nat_eq q) names ≡ o → o ≡ Some r
    by None is = absurd (true≢false (sym (eq_true q q refl) ∙ not_here names k q q r is here))
    by (Some x) is = ap (λ (y : Req). Some y) (same_request q q x r (sym (found_at q x is)
        ∙ ap (λ (k : ℕ). slice_get names k) (stand k q r here).1 ∙ here))

  -- no more names than there are numbers of 16 bits
  pub few : length names ≤ 65536
  few = pigeonhole (length names) 65536 (λ k. (get_or names k none).0)
      (λ k below. (stand k _ _ (slice_get-get_or names k none below)).0)
      (λ i j low high same. sym (stand i _ _ (slice_get-get_or names i none low)).1 ∙ ap place same
      ∙ (stand j _ _ (slice_get-get_or names j none high)).1)
    where
      none : ℕ × Req
      none = (0, record { key = 0; turn = 0 })

  -- places that are the same for all names
  pub stand_still : (other : ℕ → ℕ) → ((q : ℕ) → other q ≡ place q) → StandAt other names
  stand_still other same k q r here = let was = stand k q r here in (was.0, same q ∙ was.1)

-- a name that stands somewhere is given another request
module _ (place : ℕ → ℕ) (names : List (ℕ × Req)) (stand : StandAt place names) (k q : ℕ) (was r : Req)
    (here : slice_get names k ≡ Some (q, was)) where
  there : slice_get (set names k (q, r)) k ≡ Some (q, r)
  there = get_set_same names k (q, r) (place_below names k (q, was) here)

  others : (i : ℕ) → nat_eq k i ≡ false → slice_get (set names k (q, r)) i ≡ slice_get names i
  others i other = get_set_other names k i (q, r) (differ k i other)

  pub set_stand : StandAt place (set names k (q, r))
  set_stand i p x at = by (nat_eq k i) refl where
    by : (b : Bool) → nat_eq k i ≡ b → (p < 65536) × (place p ≡ i)
    by true is = let same : k ≡ i = same_number k i is in
        let own : q ≡ p = same_name q p r x (sym there
        ∙ ap (λ (j : ℕ). slice_get (set names k (q, r)) j) same ∙ at) in
        subst (λ (y : ℕ). (y < 65536) × (place y ≡ i)) own
        (subst (λ (j : ℕ). (q < 65536) × (place q ≡ j)) same (stand k q was here))
    by false is = stand i p x (sym (others i is) ∙ at)

  set_others : (p : ℕ) → nat_eq q p ≡ false →
      lookup (nat_eq p) (set names k (q, r)) ≡ lookup (nat_eq p) names
  set_others p other = by (lookup (nat_eq p) names) refl where
    apart : (x : Req) → slice_get names k ≡ Some (p, x) → ⊥
    apart x at = true≢false (sym (eq_true q p (same_name q p was x (sym here ∙ at))) ∙ other)

    elsewhere : (x : Req) → lookup (nat_eq p) names ≡ Some x → nat_eq k (place p) ≡ false
    elsewhere x is = not_true (nat_eq k (place p)) (λ same. apart x
        (ap (λ (i : ℕ). slice_get names i) (same_number k (place p) same) ∙ found_at place names stand p x is))

    by : (o : Option Req) → lookup (nat_eq p) names ≡ o → lookup (nat_eq p) (set names k (q, r)) ≡ o
    by None none = none_at place (set names k (q, r)) set_stand p (λ x at. at_none x at
        (nat_eq k (place p)) refl)
      where
        at_none : (x : Req) → slice_get (set names k (q, r)) (place p) ≡ Some (p, x) →
            (b : Bool) → nat_eq k (place p) ≡ b → ⊥
        at_none x at true is = true≢false (sym (eq_true q p (same_name q p r x (sym there
            ∙ ap (λ (j : ℕ). slice_get (set names k (q, r)) j) (same_number k (place p) is) ∙ at))) ∙ other)
        at_none x at false is = true≢false (sym (eq_true p p refl)
            ∙ not_here names (place p) p p x none (sym (others (place p) is) ∙ at))
    by (Some x) is = here_found place (set names k (q, r)) set_stand (place p) p x
        (others (place p) (elsewhere x is) ∙ found_at place names stand p x is)

  pub set_found : (p : ℕ) → lookup (nat_eq p) (set names k (q, r))
      ≡ cond (nat_eq q p) (Some r) (lookup (nat_eq p) names)
  set_found p = by (nat_eq q p) refl where
    by : (b : Bool) → nat_eq q p ≡ b → lookup (nat_eq p) (set names k (q, r))
        ≡ cond b (Some r) (lookup (nat_eq p) names)
    by true is = here_found place (set names k (q, r)) set_stand k p r
        (there ∙ ap (λ (y : ℕ). Some (y, r)) (same_number q p is))
    by false is = set_others p is

-- a new name is given the next place
module _ (place next : ℕ → ℕ) (names : List (ℕ × Req)) (stand : StandAt place names) (q : ℕ)
    (new : lookup (nat_eq q) names ≡ None)
    (placed : (p : ℕ) → next p ≡ cond (nat_eq q p) (length names) (place p)) where
  -- before it stands there
  pub stand_ahead : StandAt next names
  stand_ahead k p x at = let was = stand k p x at in
      (was.0, placed p ∙ rw (not_here names k q p x new at) was.1)

  -- and then
  pub push_stand : (r : Req) → q < 65536 → StandAt next (names ++ (q, r) ∷ [])
  push_stand r small k p x at = by (nat_lt k (length names)) refl where
    by : (b : Bool) → nat_lt k (length names) ≡ b → (p < 65536) × (next p ≡ k)
    by true is = stand_ahead k p x (sym (get_front names ((q, r) ∷ []) k (grind (arith, nat_tests))) ∙ at)
    by false is = let below = place_below (names ++ (q, r) ∷ []) k (p, x) at in
        let last : length names ≡ k = grind (arith, nat_tests, length-append) in
        let own : q ≡ p = same_name q p r x (sym (get_last names (q, r))
        ∙ ap (λ (j : ℕ). slice_get (names ++ (q, r) ∷ []) j) last ∙ at) in
        subst (λ (y : ℕ). (y < 65536) × (next y ≡ k)) own (small, placed q ∙ rw (eq_true q q refl) last)

-- so there are fewer names than numbers of 16 bits, where one more comes
pub room : (place : ℕ → ℕ) (names : List (ℕ × Req)) (q : ℕ) → StandAt place names →
    lookup (nat_eq q) names ≡ None → q < 65536 → length names < 65536
room place names q stand new small =
    let next : ℕ → ℕ = λ p. cond (nat_eq q p) (length names) (place p) in
    let r : Req = record { key = 0; turn = 0 } in
    omega (
      arith,
      few next (names ++ (q, r) ∷ []) (push_stand place next names stand q new (λ p. refl) r small),
      length-append names ((q, r) ∷ []),
    )

-- what is found where one name more stands behind the others
pub push_found : (names : List (ℕ × Req)) (q : ℕ) (r : Req) → lookup (nat_eq q) names ≡ None → (p : ℕ) →
    lookup (nat_eq p) (names ++ (q, r) ∷ []) ≡ cond (nat_eq q p) (Some r) (lookup (nat_eq p) names)
push_found [] q r none p = ap (λ (b : Bool). cond b (Some r) None) (nat_eq_equiv.symm p q)
push_found (e ∷ es) q r none p = by (nat_eq q e.0) refl none (λ absent. push_found es q r absent p) where
  with_p : nat_eq q e.0 ≡ false → (c : Bool) → nat_eq p e.0 ≡ c → (d : Bool) → nat_eq q p ≡ d →
      lookup (nat_eq p) (es ++ (q, r) ∷ []) ≡ cond d (Some r) (lookup (nat_eq p) es) →
      cond c (Some e.1) (lookup (nat_eq p) (es ++ (q, r) ∷ []))
      ≡ cond d (Some r) (cond c (Some e.1) (lookup (nat_eq p) es))
  with_p other true at true same rest =
      absurd (true≢false (sym at ∙ ap (λ (k : ℕ). nat_eq k e.0) (sym (same_number q p same)) ∙ other))
  with_p other true at false same rest = refl
  with_p other false at d same rest = rest

  by : (b : Bool) → nat_eq q e.0 ≡ b → cond b (Some e.1) (lookup (nat_eq q) es) ≡ None →
      (lookup (nat_eq q) es ≡ None → lookup (nat_eq p) (es ++ (q, r) ∷ [])
      ≡ cond (nat_eq q p) (Some r) (lookup (nat_eq p) es)) →
      cond (nat_eq p e.0) (Some e.1) (lookup (nat_eq p) (es ++ (q, r) ∷ []))
      ≡ cond (nat_eq q p) (Some r) (cond (nat_eq p e.0) (Some e.1) (lookup (nat_eq p) es))
  by true is none rest = absurd cc
  by false other none rest = with_p other (nat_eq p e.0) refl (nat_eq q p) refl (rest none)
