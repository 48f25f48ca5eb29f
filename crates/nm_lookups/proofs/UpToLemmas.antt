-- What is said of each place of a history, one event after another.
use Rattle.std.proofs.Common.{◌≡◌, ◌⊎◌, inl, inr, ◌++◌, length-append, ℕ, ◌+◌, ◌<◌, ◌≤◌, Option, Some}
use Rattle.std.proofs.Common.{List, [], ◌∷◌, length, get_or, sym, subst, arith}
use Rattle.std.specs.Prelude.{IsSomeAnd}
use Rattle.std.specs.List.{slice_get}
use Rattle.std.proofs.lemmas.Bool.{cases_lt}
use Rattle.std.proofs.lemmas.Option.{slice_get-get_or, slice_get_past, slice_get_within}
use Rattle.nm_types.proofs.ListLemmas.{get_last, some_still}

module _ {X Y : Type 0} (P : ℕ → X → Y → Type 0) (xs : List X) where
  -- at each place there is one for its element
  abbrev pub AtPlaces : List Y → Type 0
  AtPlaces ys = (t : ℕ) (x : X) → slice_get xs t ≡ Some x → IsSomeAnd (slice_get ys t) (P t x)

  -- .. at the places before this one
  abbrev pub UpTo : ℕ → List Y → Type 0
  UpTo k ys =
      (length ys ≡ k)
      × ((t : ℕ) (x : X) → t < k → slice_get xs t ≡ Some x → IsSomeAnd (slice_get ys t) (P t x))

  -- .. and at this one
  pub up_to_next : (k : ℕ) (x : X) (ys : List Y) (y : Y) → slice_get xs k ≡ Some x → P k x y → UpTo k ys →
      UpTo (k + 1) (ys ++ y ∷ [])
  up_to_next k x ys y here right before = (
    (let both : length (ys ++ y ∷ []) ≡ length ys + 1 = length-append ys (y ∷ []) in
        let many : length ys ≡ k = before.0 in omega (arith, both, many)),
    λ t z low there. by_place t z there (cases_lt t k) low,
  )
    where
      by_place : (t : ℕ) (z : X) → slice_get xs t ≡ Some z → (t < k) ⊎ (k ≤ t) → t < k + 1 →
          IsSomeAnd (slice_get (ys ++ y ∷ []) t) (P t z)
      by_place t z there (inl less) low = some_still (P t z) ys (y ∷ []) t (before.1 t z less there)
      by_place t z there (inr more) low =
          let same : k ≡ t = omega (arith, more, low) in
          subst (λ (t : ℕ). (z : X) → slice_get xs t ≡ Some z → IsSomeAnd (slice_get (ys ++ y ∷ []) t) (P t z)) same
          (λ z there. let one : x ≡ z = cc in
          subst (λ (w : X). IsSomeAnd (slice_get (ys ++ y ∷ []) k) (P k w)) one
          (subst (λ (n : ℕ). IsSomeAnd (slice_get (ys ++ y ∷ []) n) (P k x)) before.0
          (subst (λ (o : Option Y). IsSomeAnd o (P k x)) (sym (get_last ys y)) right)))
          z there

  -- all of them
  pub up_to_all : (k : ℕ) (ys : List Y) → length xs ≤ k → UpTo k ys → AtPlaces ys
  up_to_all k ys over before = λ t x there.
      let inside : t < length xs = slice_get_within xs t x there in
      before.1 t x (omega (arith, inside, over)) there

-- what is said of the element at a place
pub some_at : {Y : Type 0} (P : Y → Type 0) (ys : List Y) (k : ℕ) (y : Y) → k < length ys → y ≡ get_or ys k y →
    IsSomeAnd (slice_get ys k) P → P y
some_at P ys k y inside is said =
    subst P (sym is) (subst (λ o. IsSomeAnd o P) (slice_get-get_or ys k y inside) said)

-- nothing is said behind the last
pub none_at : {Y : Type 0} (P : Y → Type 0) (ys : List Y) (k : ℕ) → length ys ≤ k → IsSomeAnd (slice_get ys k) P → ⊥
none_at P ys k over said = subst (λ o. IsSomeAnd o P) (slice_get_past ys k over) said
