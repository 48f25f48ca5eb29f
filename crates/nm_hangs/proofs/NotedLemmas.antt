-- The classes of the states of all ranks, one after another.
use Rattle.std.proofs.Common.{◌≡◌, ℕ, ◌+◌, ◌<◌, ◌≤◌, Bool, true, false, Option, Some, None, List, [], ◌∷◌, ◌++◌, length}
use Rattle.std.proofs.Common.{get_or, refl, sym, ◌∙◌, ap, subst, arith}
use Rattle.std.specs.Prelude.{IfSome, if◌then◌else◌, nat_lt, option_and_then, unwrap_or}
use Rattle.std.specs.List.{slice_get}
use Rattle.std.proofs.lemmas.Bool.Decides.{nat_tests}
use Rattle.std.proofs.lemmas.Option.{get_or_from_slice_get, slice_get_past}
use Rattle.nm_types.specs.declared.scripts.Line.{Line}
use Rattle.nm_types.proofs.ListLemmas.{get_before, get_last, get_some, place_below}
use Rattle.nm_outcomes.specs.RankStates.{Spot}
use Rattle.nm_search.proofs.ListLemmas.{each_next}
use Rattle.nm_explored.specs.Stores.{AreLow}
use Rattle.nm_explored.specs.Successors.{spot_in}
use Rattle.nm_hangs.specs.Alike.{IsAlikeOr}
use Rattle.nm_hangs.specs.Hunts.{AreAlikeIn, AreNear}
use Rattle.nm_hangs.proofs.ClassLemmas.{other_there}

-- the states of a rank, by number
pub spot_by : (table : List Spot) (ids : List ℕ) (j : ℕ) (o : Option ℕ) → slice_get ids j ≡ o →
    spot_in table ids j ≡ option_and_then (λ (id : ℕ). slice_get table id) o
spot_by table ids j o here = ap (λ (o : Option ℕ). option_and_then (λ (id : ℕ). slice_get table id) o) here

-- states that go on as their classes do so rank by rank
pub are_near : (lines : List Line) (table : List Spot) (ids classes : List ℕ) → AreAlikeIn lines table ids classes →
    AreNear lines table ids classes
are_near lines table ids classes are j id class here there =
    subst (λ (o : Option Spot). IsAlikeOr lines j o (slice_get table class)) (spot_by table ids j (Some id) here)
    (subst (λ (o : Option Spot). IsAlikeOr lines j (spot_in table ids j) o) (spot_by table classes j (Some class) there)
    (are.2 j))

module _ (lines : List Line) (table : List Spot) (ids : List ℕ) where
  -- one class more
  pub class_next : (old new : List ℕ) (place class : ℕ) → length old ≡ place → new ≡ old ++ class ∷ [] →
      IsAlikeOr lines place (spot_in table ids place) (slice_get table class) →
      ((j : ℕ) → j < place → IsAlikeOr lines j (spot_in table ids j) (spot_in table old j)) →
      (j : ℕ) → j < place + 1 → IsAlikeOr lines j (spot_in table ids j) (spot_in table new j)
  class_next old new place class long is alike before =
      each_next (λ (j : ℕ). IsAlikeOr lines j (spot_in table ids j) (spot_in table new j)) place
      (λ j low. subst (λ (o : Option Spot). IsAlikeOr lines j (spot_in table ids j) o) (kept j low) (before j low))
      (subst (λ (o : Option Spot). IsAlikeOr lines place (spot_in table ids place) o)
      (sym (spot_by table new place (Some class) last)) alike)
    where
      last : slice_get new place ≡ Some class
      last =
          ap (λ (xs : List ℕ). slice_get xs place) is ∙ ap (λ (k : ℕ). slice_get (old ++ class ∷ []) k) (sym long)
          ∙ get_last old class

      kept : (j : ℕ) → j < place → spot_in table old j ≡ spot_in table new j
      kept j low =
          let x = get_some old j (omega (arith, low, long)) in
          spot_by table old j (Some x.0) x.1
          ∙ sym (spot_by table new j (Some x.0)
          (ap (λ (xs : List ℕ). slice_get xs j) is ∙ get_before old (class ∷ []) j x.0 x.1))

  -- all of them
  pub classes_are : (classes : List ℕ) → AreLow table ids → length classes ≡ length ids →
      ((j : ℕ) → j < length ids → IsAlikeOr lines j (spot_in table ids j) (spot_in table classes j)) →
      AreAlikeIn lines table ids classes
  classes_are classes low long alike = (low, lower, λ j. by_place j (nat_lt j (length ids)) refl)
    where
      lower : AreLow table classes
      lower j class here =
          let inside = place_below classes j class here in
          let below : j < length ids = omega (arith, inside, long) in
          let id = get_some ids j below in
          let x = get_some table id.0 (low j id.0 id.1) in
          let y = other_there lines j (spot_in table ids j) (spot_in table classes j) x.0 (alike j below)
          (spot_by table ids j (Some id.0) id.1 ∙ x.1) in
          place_below table class y.0 (sym (spot_by table classes j (Some class) here) ∙ y.1)

      by_place : (j : ℕ) (b : Bool) → nat_lt j (length ids) ≡ b →
          IsAlikeOr lines j (spot_in table ids j) (spot_in table classes j)
      by_place j true so = alike j (grind (arith, nat_tests))
      by_place j false so =
          let past : length ids ≤ j = grind (arith, nat_tests) in
          subst (λ (o : Option Spot). IsAlikeOr lines j o (spot_in table classes j))
          (sym (spot_by table ids j None (slice_get_past ids j past)))
          (subst (λ (o : Option Spot). IsAlikeOr lines j None o)
          (sym (spot_by table classes j None (slice_get_past classes j (omega (arith, past, long))))) tt)

-- what an option has, if a test is passed
pub if_some : {X : Type 0} (P : X → Type 0) (b : Bool) (x : X) (o : Option X) → o ≡ (if b then Some x else None) →
    (b ≡ true → P x) → IfSome o P
if_some {X} P true x o is so = subst (λ (p : Option X). IfSome p P) (sym is) (so refl)
if_some {X} P false x o is so = subst (λ (p : Option X). IfSome p P) (sym is) tt

pub of_some : {X : Type 0} (P : X → Type 0) (x : X) (o : Option X) → o ≡ Some x → IfSome o P → P x
of_some {X} P x o is all = subst (λ (p : Option X). IfSome p P) is all

-- what holds of each element up to a place, and of the one there
pub each_at : {X : Type 0} (Q : X → Type 0) (xs : List X) (k : ℕ) (d : X) → Q (get_or xs k d) →
    ((m : ℕ) (x : X) → m < k → slice_get xs m ≡ Some x → Q x) → (m : ℕ) (x : X) → m < k + 1 → slice_get xs m ≡ Some x →
    Q x
each_at {X} Q xs k d here before m x low at =
    each_next (λ (m : ℕ). (x : X) → slice_get xs m ≡ Some x → Q x) k (λ m low x at. before m x low at)
    (λ x at. subst Q (get_or_from_slice_get xs k x d at) here) m low x at

-- what holds of the numbers that are there, or of none
pub unwrapped : (P : List ℕ → Type 0) (o : Option (List ℕ)) → P [] → ((ids : List ℕ) → o ≡ Some ids → P ids) →
    P (unwrap_or o [])
unwrapped P None none some = none
unwrapped P (Some ids) none some = some ids refl
