-- The grants of a sender: one more, and one that changes.
use Rattle.std.proofs.Common.{◌≡◌, ℕ, ◌<◌, Bool, true, false, cond, is_some, nat_eq, Option, Some, None, List}
use Rattle.std.proofs.Common.{[], ◌∷◌, ◌++◌}
use Rattle.std.proofs.Common.{length, get_or, refl, sym, ◌∙◌, ap, subst, ◌⊎◌, inl, inr}
use Rattle.std.specs.Cmp.{nat_eq_equiv}
use Rattle.std.specs.List.{All, IsDistinct}
use Rattle.std.specs.Map.{keys_of, set_value}
use Rattle.std.proofs.Math.ListN.{set}
use Rattle.std.proofs.lemmas.Bool.{cases_eq, cases_Bool, lt-ltb}
use Rattle.std.proofs.lemmas.Bool.Decides.{nat_tests}
use Rattle.std.proofs.Common.{arith}
use Rattle.std.proofs.lemmas.List.{length-set, map-append}
use Rattle.std.proofs.lemmas.List.Elements.{All-cons, All-head, All-tail}
use Rattle.std.proofs.lemmas.Map.{lookup-set_value}
use Rattle.std.proofs.lemmas.Map.Entries.{place_from_lookup}
use Rattle.std.proofs.lemmas.Map.Keys.{IsDistinct-push}
use Rattle.std.proofs.lemmas.Map.Made.{is_some-lookup}
use Rattle.std.proofs.lemmas.Option.{get_or_from_slice_get, slice_get_within}
use Rattle.nm_types.specs.declared.messages.Arrival.{Arrival}
use Rattle.nm_history.specs.Sends.{is_ask}
use Rattle.nm_rndv.specs.Grants.{Granted, fresh, grant_in, is_open}
use Rattle.nm_rndv.proofs.StateLemmas.{equal}
use Rattle.nm_receiving.specs.Kept.{HasOpen}
use Rattle.nm_receiving.specs.Steps.{grants_after, grants_with}
use Rattle.nm_receiving.proofs.Lists.{row-other, row-same, some_from}
use Rattle.nm_types.proofs.OptionLemmas.{some_and}

abbrev pub Row : Type 0
Row = List (ℕ × Granted)

pub self : (n : ℕ) → nat_eq n n ≡ true
self n = grind (arith, nat_tests)

-- a grant that was there still is
pub grant_still : (row more : Row) (n : ℕ) (g : Granted) → grant_in row n ≡ Some g → grant_in (row ++ more) n ≡ Some g
grant_still [] more n g is = absurd (let h : ⊥ = cc in h)
grant_still (e ∷ row) more n g is = by (nat_eq n e.0) refl (grant_still row more n g)
  where
    by : (b : Bool) → nat_eq n e.0 ≡ b → (grant_in row n ≡ Some g → grant_in (row ++ more) n ≡ Some g)
        → cond (nat_eq n e.0) (Some e.1) (grant_in (row ++ more) n) ≡ Some g
    by true same later = rw same (rw same at is)
    by false other later = rw other (later (rw other at is))

-- the new one is there
pub grant_new : (row : Row) (n : ℕ) (g : Granted) → grant_in row n ≡ None → grant_in (row ++ (n, g) ∷ []) n ≡ Some g
grant_new [] n g none = rw (self n) refl
grant_new (e ∷ row) n g none = by (nat_eq n e.0) refl (grant_new row n g)
  where
    by : (b : Bool) → nat_eq n e.0 ≡ b → (grant_in row n ≡ None → grant_in (row ++ (n, g) ∷ []) n ≡ Some g)
        → cond (nat_eq n e.0) (Some e.1) (grant_in (row ++ (n, g) ∷ []) n) ≡ Some g
    by true same later = absurd (let h : Some e.1 ≡ None = rw same at none in let h' : ⊥ = cc in h')
    by false other later = rw other (later (rw other at none))

pub keys_push : (row : Row) (n : ℕ) (g : Granted) → keys_of (row ++ (n, g) ∷ []) ≡ keys_of row ++ n ∷ []
keys_push row n g = map-append (λ (e : ℕ × Granted). e.0) row ((n, g) ∷ [])

pub once_push : (row : Row) (n : ℕ) (g : Granted) → grant_in row n ≡ None → IsDistinct nat_eq (keys_of row)
    → IsDistinct nat_eq (keys_of (row ++ (n, g) ∷ []))
once_push row n g none once =
    subst (λ (ks : List ℕ). IsDistinct nat_eq ks) (sym (keys_push row n g))
    (IsDistinct-push nat_eq_equiv (keys_of row) n once (sym (is_some-lookup (nat_eq n) row)
    ∙ ap (λ (o : Option Granted). is_some o) none))

-- a grant stands among the others
pub grant_among : (P : ℕ × Granted → Type 0) (row : Row) (n : ℕ) (g : Granted) → All P row → grant_in row n ≡ Some g →
    P (n, g)
grant_among P row n g all is =
    let at = place_from_lookup (nat_eq n) row g is in
    let key : n ≡ at.1 = equal n at.1 at.3 in
    let inside : at.0 < length row = slice_get_within row at.0 (at.1, g) at.2 in
    let held : P (get_or row at.0 (at.1, g)) = all at.0 (at.1, g) inside in
    let e : get_or row at.0 (at.1, g) ≡ (at.1, g) = get_or_from_slice_get row at.0 (at.1, g) (at.1, g) at.2 in
    subst (λ (k : ℕ). P (k, g)) (sym key) (subst P e held)

-- a grant that changes
pub grant_set : (row : Row) (n : ℕ) (g w : Granted) → grant_in row n ≡ Some g → (k : ℕ)
    → grant_in (set_value (nat_eq n) row w) k ≡ cond (nat_eq n k) (Some w) (grant_in row k)
grant_set row n g w was k =
    let one : (x y : ℕ) → nat_eq n x ≡ true → nat_eq n y ≡ nat_eq x y = λ x y h. ap (λ (k : ℕ). nat_eq k y)
    (equal n x h) in
    lookup-set_value nat_eq_equiv (nat_eq n) one k w row (ap (λ (o : Option Granted). is_some o) was)

pub all_set : (P : ℕ × Granted → Type 0) (test : ℕ → Bool) (row : Row) (w : Granted) →
    ((k : ℕ) → test k ≡ true → P (k, w))
    → All P row → All P (set_value test row w)
all_set P test [] w new all = all
all_set P test (e ∷ row) w new all = by (test e.0) refl (all_set P test row w new)
  where
    by : (b : Bool) → test e.0 ≡ b → (All P row → All P (set_value test row w))
        → All P (cond (test e.0) ((e.0, w) ∷ row) (e ∷ set_value test row w))
    by true is later = rw is (All-cons P (e.0, w) row (new e.0 is) (All-tail P e row all))
    by false is later = rw is (All-cons P e (set_value test row w) (All-head P e row all)
        (later (All-tail P e row all)))

-- an open grant that still stands
pub open_still : (row row' : Row) (n : ℕ) → ((g : Granted) → grant_in row n ≡ Some g → grant_in row' n ≡ Some g)
    → HasOpen row n → HasOpen row' n
open_still row row' n still was =
    let g = some_and (λ (g : Granted). is_open g ≡ true) (grant_in row n) was in
    some_from (λ (g : Granted). is_open g ≡ true) (grant_in row' n) g.0 (still g.0 g.1) g.2

-- a new grant of a message with a body is open
pub open_new : (row : Row) (n len : ℕ) → grant_in row n ≡ Some (fresh len) → 0 < len → HasOpen row n
open_new row n len there body =
    some_from (λ (g : Granted). is_open g ≡ true) (grant_in row n) (fresh len) there (lt-ltb 0 len body)

-- the grants after a receive took a message, if it took one
pub granted_new : (grants : List Row) (a : Arrival) → is_ask a.env.how ≡ true → a.env.from < length grants →
    (from : ℕ) → from ≡ a.env.from
    → get_or (grants_after grants a) from [] ≡ get_or grants from [] ++ (a.n, fresh a.env.len) ∷ []
granted_new grants a how inside from same =
    let row : Row = get_or grants a.env.from [] ++ (a.n, fresh a.env.len) ∷ [] in
    let is : grants_after grants a ≡ set grants a.env.from row = rw how refl in
    ap (λ (rows : List Row). get_or rows from []) is ∙ row-same grants a.env.from row from same inside
    ∙ ap (λ (k : ℕ). get_or grants k [] ++ (a.n, fresh a.env.len) ∷ []) (sym same)

abbrev pub Granted_now : List Row → Option Arrival → ℕ → Type 0
Granted_now grants taken from =
    (a : Arrival) × (taken ≡ Some a) × (is_ask a.env.how ≡ true) × (from ≡ a.env.from)
    × (get_or (grants_with grants taken) from [] ≡ get_or grants from [] ++ (a.n, fresh a.env.len) ∷ [])

pub granted_cases : (grants : List Row) (taken : Option Arrival) (from : ℕ) →
    ((a : Arrival) → taken ≡ Some a → a.env.from < length grants)
    → (get_or (grants_with grants taken) from [] ≡ get_or grants from []) ⊎ Granted_now grants taken from
granted_cases grants None from inside = inl refl
granted_cases grants (Some a) from inside = by (cases_Bool (is_ask a.env.how)) (cases_eq from a.env.from)
  where
    by : (is_ask a.env.how ≡ true) ⊎ (is_ask a.env.how ≡ false) → (from ≡ a.env.from) ⊎ (from ≡ a.env.from → ⊥)
        → (get_or (grants_after grants a) from [] ≡ get_or grants from []) ⊎ Granted_now grants (Some a) from
    by (inr eager) place =
        let is : grants_after grants a ≡ grants = rw eager refl in
        inl (ap (λ (rows : List Row). get_or rows from []) is)
    by (inl how) (inl same) = inr (a, refl, how, same, granted_new grants a how (inside a refl) from same)
    by (inl how) (inr differ) =
        let row : Row = get_or grants a.env.from [] ++ (a.n, fresh a.env.len) ∷ [] in
        let is : grants_after grants a ≡ set grants a.env.from row = rw how refl in
        inl (ap (λ (rows : List Row). get_or rows from []) is ∙ row-other grants a.env.from row from differ)

pub granted_length : (grants : List Row) (taken : Option Arrival) → length (grants_with grants taken) ≡ length grants
granted_length grants None = refl
granted_length grants (Some a) = by (is_ask a.env.how)
  where
    row : Row
    row = get_or grants a.env.from [] ++ (a.n, fresh a.env.len) ∷ []

    by : (b : Bool) → length (cond b (set grants a.env.from row) grants) ≡ length grants
    by true = length-set grants a.env.from row
    by false = refl
