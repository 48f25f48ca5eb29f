-- The grants of one sender, and the numbers of those that are not whole.
use Rattle.std.proofs.Common.{◌<◌, ◌≤◌, [], ◌∷◌, ◌++◌, Bool, cond, not, drop, filter, get_or, true≢false}
use Rattle.std.proofs.lemmas.List.{get_or_default}
use Rattle.std.proofs.lemmas.List.Sums.{get_or-le-sum_by, sum_by-le}
use Rattle.std.proofs.Common.{◌≡◌, ℕ, true, false, List, slice_get, Option, Some, None, refl, sym}
use Rattle.std.proofs.Common.{ap, ◌∙◌, subst, nat_eq, nat_lt, arith, length, suc, IsNone, ◌↔◌}
use Rattle.std.proofs.lemmas.Bool.Decides.{nat_tests}
use Rattle.std.proofs.lemmas.Map.Keys.{IsDistinct-head, IsDistinct-tail}
use Rattle.std.specs.Cmp.{nat_eq_equiv}
use Rattle.std.specs.List.{AllByRecursion, IsDistinct, position_or_len}
use Rattle.std.specs.Map.{keys_of, lookup, set_value}
use Rattle.std.specs.Option.{is_some, option_map, option_map_or}
use Rattle.nm_rndv.specs.Grants.{Granted, came, has_bytes, is_open, is_whole, is_unfinished, expected_in}
use Rattle.nm_rndv.specs.Grants.{count_unfinished, due_in, due_of, has_unfinished, first_unfinished, AllWhole}
use Rattle.nm_rndv.specs.Pieces.{piece_size}
use Rattle.nm_types.proofs.NumberLemmas.{eq_true, same_number}
use Rattle.nm_rndv.proofs.Places.{find-first, found_none, none_found, passes_there}

-- a whole message is not open
pub closed_whole : (g : Granted) → is_whole g ≡ true → is_open g ≡ false
closed_whole g h = by g.bytes h
  where
    by : (o : Option (List ℕ)) → option_map_or (λ bytes. nat_eq (length bytes) g.len) o false ≡ true →
        option_map_or (λ bytes. nat_lt (length bytes) g.len) o false ≡ false
    by None h = refl
    by (Some bytes) h = grind (arith, nat_tests)

unmapped : (o : Option (ℕ × Granted)) → IsNone {T = ℕ × ℕ} (option_map (λ e. (e.0, came e.1)) o) → IsNone o
unmapped None h = refl
unmapped (Some e) h = h

mapped : (o : Option (ℕ × Granted)) → IsNone o → IsNone {T = ℕ × ℕ} (option_map (λ e. (e.0, came e.1)) o)
mapped None h = refl
mapped (Some e) h = h

-- none is expected exactly where every grant is whole
pub none_expected : (es : List (ℕ × Granted)) → IsNone (expected_in es) ↔ AllWhole es
none_expected es = (there, back)
  where
    there : IsNone (expected_in es) → AllWhole es
    there none = none_found is_unfinished es (unmapped (first_unfinished es) none)

    back : AllWhole es → IsNone (expected_in es)
    back whole = mapped (first_unfinished es) (found_none is_unfinished es whole)

-- whether a piece comes next, by the first grant that is not whole
pub next_by : (es : List (ℕ × Granted)) (e : ℕ × Granted) (n at size : ℕ) → Some e ≡ first_unfinished es →
    ((e.0 ≡ n) × (came e.1 ≡ at) × (size ≡ piece_size (due_of e.1)))
    ↔ ((expected_in es ≡ Some (n, at)) × (size ≡ piece_size (due_in es)))
next_by es e n at size first = subst (λ (o : Option (ℕ × Granted)).
    ((e.0 ≡ n) × (came e.1 ≡ at) × (size ≡ piece_size (due_of e.1)))
    ↔ ((option_map {U = ℕ × ℕ} (λ x. (x.0, came x.1)) o ≡ Some (n, at))
    × (size ≡ piece_size (option_map_or (λ x. due_of x.1) o 0)))) first (there, back)
  where
    there : (e.0 ≡ n) × (came e.1 ≡ at) × (size ≡ piece_size (due_of e.1)) →
        (◌≡◌ {A = Option (ℕ × ℕ)} (Some (e.0, came e.1)) (Some (n, at))) × (size ≡ piece_size (due_of e.1))
    there h = (ap (λ k. Some (k, came e.1)) h.0 ∙ ap (λ k. Some (n, k)) h.1, h.2)

    back : (◌≡◌ {A = Option (ℕ × ℕ)} (Some (e.0, came e.1)) (Some (n, at))) × (size ≡ piece_size (due_of e.1)) →
        (e.0 ≡ n) × (came e.1 ≡ at) × (size ≡ piece_size (due_of e.1))
    back h = (
      ap (λ (o : Option (ℕ × ℕ)). option_map_or (λ x. x.0) o 0) h.0,
      ap (λ (o : Option (ℕ × ℕ)). option_map_or (λ x. x.1) o 0) h.0,
      h.1,
    )

-- where every grant is whole, none comes next
pub none_next : (es : List (ℕ × Granted)) (n at size : ℕ) → None ≡ first_unfinished es →
    (false ≡ true) ↔ ((expected_in es ≡ Some (n, at)) × (size ≡ piece_size (due_in es)))
none_next es n at size none = (λ no. absurd (true≢false (sym no)), λ goes. absurd (true≢false (sym (some goes.0))))
  where
    some : expected_in es ≡ Some (n, at) → false ≡ true
    some is = ap is_some (ap (option_map (λ (x : ℕ × Granted). (x.0, came x.1))) none ∙ is)

-- none is unfinished exactly where every grant is whole
pub none_unfinished : (es : List (ℕ × Granted)) → (has_unfinished es ≡ false) ↔ AllWhole es
none_unfinished es = (there, back)
  where
    nothing : (o : Option (ℕ × Granted)) → is_some o ≡ false → IsNone o
    nothing None h = refl
    nothing (Some e) h = absurd cc

    no_some : (o : Option (ℕ × Granted)) → IsNone o → is_some o ≡ false
    no_some None h = refl
    no_some (Some e) h = absurd cc

    there : has_unfinished es ≡ false → AllWhole es
    there none = none_found is_unfinished es (nothing (first_unfinished es) none)

    back : AllWhole es → has_unfinished es ≡ false
    back whole = no_some (first_unfinished es) (found_none is_unfinished es whole)

-- the count is 0 exactly where no sender has an unfinished grant
pub none_counted : (rows : List (List (ℕ × Granted))) → (count_unfinished rows ≡ 0)
    ↔ ((from : ℕ) → from < length rows → AllWhole (get_or rows from []))
none_counted rows = (there, back)
  where
    one : List (ℕ × Granted) → ℕ
    one row = cond (has_unfinished row) 1 0

    closed : (b : Bool) → cond b 1 0 ≤ 0 → b ≡ false
    closed true h = absurd (omega arith)
    closed false h = refl

    there : count_unfinished rows ≡ 0 → (from : ℕ) → from < length rows → AllWhole (get_or rows from [])
    there none from within = (none_unfinished (get_or rows from [])).0 (closed (has_unfinished (get_or rows from []))
        (omega (arith, none, get_or-le-sum_by one rows from [] within)))

    back : ((from : ℕ) → from < length rows → AllWhole (get_or rows from [])) → count_unfinished rows ≡ 0
    back whole = omega (
      arith,
      sum_by-le one 0 rows (λ k d within. subst (λ row. one row ≤ 0)
          (get_or_default rows k [] d within)
          (rw ((none_unfinished (get_or rows k [])).1 (whole k within)) (omega arith))),
    )

-- one whose bytes were taken is neither open nor whole
pub taken_closed : (g : Granted) → has_bytes g ≡ false → is_open g ≡ false
taken_closed g h = by g.bytes h
  where
    by : (o : Option (List ℕ)) → is_some o ≡ false →
        option_map_or (λ bytes. nat_lt (length bytes) g.len) o false ≡ false
    by None h = refl
    by (Some bytes) h = absurd (true≢false h)

pub taken_unwhole : (g : Granted) → has_bytes g ≡ false → is_whole g ≡ false
taken_unwhole g h = by g.bytes h
  where
    by : (o : Option (List ℕ)) → is_some o ≡ false →
        option_map_or (λ bytes. nat_eq (length bytes) g.len) o false ≡ false
    by None h = refl
    by (Some bytes) h = absurd (true≢false h)

-- an open one and a whole one have their bytes
pub open_has_bytes : (g : Granted) → is_open g ≡ true → has_bytes g ≡ true
open_has_bytes g h = by (has_bytes g) refl
  where
    by : (b : Bool) → has_bytes g ≡ b → has_bytes g ≡ true
    by true e = e
    by false e = absurd (true≢false (sym h ∙ taken_closed g e))

pub whole_has_bytes : (g : Granted) → is_whole g ≡ true → has_bytes g ≡ true
whole_has_bytes g h = by (has_bytes g) refl
  where
    by : (b : Bool) → has_bytes g ≡ b → has_bytes g ≡ true
    by true e = e
    by false e = absurd (true≢false (sym h ∙ taken_unwhole g e))

-- the numbers of those that are not whole
abbrev pub open_in : List (ℕ × Granted) → List ℕ
open_in es = keys_of (filter is_unfinished es)

-- one grant more
pub open_more : (es : List (ℕ × Granted)) (n : ℕ) (g : Granted) →
    open_in (es ++ (n, g) ∷ []) ≡ open_in es ++ cond (is_open g) (n ∷ []) []
open_more [] n g = by (is_open g)
  where
    by : (b : Bool) → keys_of (cond b ((n, g) ∷ []) []) ≡ cond b (n ∷ []) []
    by true = refl
    by false = refl
open_more (e ∷ es) n g = by (is_open e.1) (open_more es n g)
  where
    by : (b : Bool) → open_in (es ++ (n, g) ∷ []) ≡ open_in es ++ cond (is_open g) (n ∷ []) [] →
        keys_of (cond b (e ∷ filter is_unfinished (es ++ (n, g) ∷ [])) (filter is_unfinished (es ++ (n, g) ∷ [])))
        ≡ keys_of (cond b (e ∷ filter is_unfinished es) (filter is_unfinished es)) ++ cond (is_open g) (n ∷ []) []
    by true rest = ap (λ l. e.0 ∷ l) rest
    by false rest = rest

positive : (n : ℕ) → nat_lt 0 (suc n) ≡ true
positive n = grind (arith, nat_tests)

-- one is unfinished exactly where there is such a number
pub unfinished_seen : (es : List (ℕ × Granted)) → nat_lt 0 (length (open_in es)) ≡ has_unfinished es
unfinished_seen [] = refl
unfinished_seen (e ∷ es) = by (is_open e.1) (unfinished_seen es)
  where
    by : (b : Bool) → nat_lt 0 (length (open_in es)) ≡ has_unfinished es →
        nat_lt 0 (length (keys_of (cond b (e ∷ filter is_unfinished es) (filter is_unfinished es))))
        ≡ is_some (cond b (Some e) (first_unfinished es))
    by true rest = positive (length (keys_of (filter is_unfinished es)))
    by false rest = rest

-- where there is none, none is unfinished
pub none_open : (es : List (ℕ × Granted)) → slice_get (open_in es) 0 ≡ None → first_unfinished es ≡ None
none_open [] none = refl
none_open (e ∷ es) none = by (is_open e.1) (none_open es) none
  where
    by : (b : Bool) → (slice_get (open_in es) 0 ≡ None → first_unfinished es ≡ None) →
        slice_get (keys_of (cond b (e ∷ filter is_unfinished es) (filter is_unfinished es))) 0 ≡ None →
        cond b (Some e) (first_unfinished es) ≡ None
    by true rest none = absurd cc
    by false rest none = rest none

-- what is found of a number that is apart from those of all entries
apart_found : (k : ℕ) (es : List (ℕ × Granted)) (n : ℕ) (g : Granted) →
    AllByRecursion (λ y. nat_eq k y ≡ false) (keys_of es) → lookup (nat_eq n) es ≡ Some g → nat_eq n k ≡ false
apart_found k [] n g all at = absurd cc
apart_found k (e ∷ es) n g all at = by (nat_eq n e.0) refl at (λ there. apart_found k es n g all.1 there)
  where
    by : (b : Bool) → nat_eq n e.0 ≡ b → cond b (Some e.1) (lookup (nat_eq n) es) ≡ Some g →
        (lookup (nat_eq n) es ≡ Some g → nat_eq n k ≡ false) → nat_eq n k ≡ false
    by true is at rest = ap (λ m. nat_eq m k) (same_number n e.0 is) ∙ nat_eq_equiv.symm e.0 k ∙ all.0
    by false is at rest = rest at

-- the first of them is that of the first unfinished grant, which is found by it
pub first_open : (es : List (ℕ × Granted)) → IsDistinct nat_eq (keys_of es) → (n : ℕ) →
    slice_get (open_in es) 0 ≡ Some n →
    (g : Granted) × (first_unfinished es ≡ Some (n, g)) × (lookup (nat_eq n) es ≡ Some g) × (is_open g ≡ true)
first_open [] distinct n at = absurd cc
first_open (e ∷ es) distinct n at =
    by (is_open e.1) refl (first_open es (IsDistinct-tail nat_eq e.0 (keys_of es) distinct) n) at
  where
    Found : List (ℕ × Granted) → Bool → Type 0
    Found es b = (g : Granted) × (cond b (Some e) (first_unfinished es) ≡ Some (n, g))
        × (lookup (nat_eq n) (e ∷ es) ≡ Some g) × (is_open g ≡ true)

    by : (b : Bool) → is_open e.1 ≡ b →
        (slice_get (open_in es) 0 ≡ Some n → (g : Granted) × (first_unfinished es ≡ Some (n, g))
        × (lookup (nat_eq n) es ≡ Some g) × (is_open g ≡ true)) →
        slice_get (keys_of (cond b (e ∷ filter is_unfinished es) (filter is_unfinished es))) 0 ≡ Some n → Found es b
    by true is rest at =
        let same : e.0 ≡ n = cc in
        let here : nat_eq n e.0 ≡ true = eq_true n e.0 (sym same) in (
          e.1,
          ap (λ (m : ℕ). Some (m, e.1)) same,
          ap (λ b. cond b (Some e.1) (lookup (nat_eq n) es)) here,
          is,
        )
    by false is rest at =
        let found = rest at in
        let other = apart_found e.0 es n found.0 (IsDistinct-head nat_eq e.0 (keys_of es) distinct) found.2 in (
          found.0,
          found.1,
          ap (λ b. cond b (Some e.1) (lookup (nat_eq n) es)) other ∙ found.2,
          found.3,
        )

module _ (n : ℕ) (w : Granted) where
  -- where the first unfinished grant is set, its number goes if it is not open
  pub open_set : (es : List (ℕ × Granted)) (g : Granted) → first_unfinished es ≡ Some (n, g) →
      lookup (nat_eq n) es ≡ Some g → is_open g ≡ true →
      open_in (set_value (nat_eq n) es w) ≡ cond (not (is_open w)) (drop 1 (open_in es)) (open_in es)
  open_set [] g first there opens = absurd cc
  open_set (e ∷ es) g first there opens = by (nat_eq n e.0) refl (is_open e.1) refl first there
      (λ f t. open_set es g f t opens)
    where
      Sets : Bool → Bool → Type 0
      Sets b c =
          open_in (cond b ((e.0, w) ∷ es) (e ∷ set_value (nat_eq n) es w))
          ≡ cond (not (is_open w)) (drop 1 (keys_of (cond c (e ∷ filter is_unfinished es) (filter is_unfinished es))))
          (keys_of (cond c (e ∷ filter is_unfinished es) (filter is_unfinished es)))

      here : (d : Bool) → keys_of (cond d ((e.0, w) ∷ filter is_unfinished es) (filter is_unfinished es))
          ≡ cond (not d) (keys_of (filter is_unfinished es)) (e.0 ∷ keys_of (filter is_unfinished es))
      here true = refl
      here false = refl

      by : (b : Bool) → nat_eq n e.0 ≡ b → (c : Bool) → is_open e.1 ≡ c →
          cond c (Some e) (first_unfinished es) ≡ Some (n, g) →
          cond b (Some e.1) (lookup (nat_eq n) es) ≡ Some g →
          (first_unfinished es ≡ Some (n, g) → lookup (nat_eq n) es ≡ Some g →
          open_in (set_value (nat_eq n) es w) ≡ cond (not (is_open w)) (drop 1 (open_in es)) (open_in es)) →
          Sets b c
      by true is true at first there rest = here (is_open w)
      by true is false at first there rest =
          let same : e.1 ≡ g = cc in absurd (true≢false (sym opens ∙ ap is_open (sym same) ∙ at))
      by false is true at first there rest =
          let same : e.0 ≡ n = ap {B = ℕ} (λ o. option_map_or (λ (p : ℕ × Granted). p.0) o 0) first in
          absurd (true≢false (sym (eq_true n e.0 (sym same)) ∙ is))
      by false is false at first there rest =
          ap (λ c. keys_of (cond c (e ∷ filter is_unfinished (set_value (nat_eq n) es w))
          (filter is_unfinished (set_value (nat_eq n) es w)))) at
          ∙ rest first there

  -- where one is set that is as open as before, the numbers stay
  pub open_same : (es : List (ℕ × Granted)) (g : Granted) → lookup (nat_eq n) es ≡ Some g → is_open w ≡ is_open g →
      open_in (set_value (nat_eq n) es w) ≡ open_in es
  open_same [] g there same = refl
  open_same (e ∷ es) g there same = by (nat_eq n e.0) there (λ t. open_same es g t same)
    where
      further : (c : Bool) → open_in (set_value (nat_eq n) es w) ≡ open_in es →
          keys_of (cond c (e ∷ filter is_unfinished (set_value (nat_eq n) es w))
          (filter is_unfinished (set_value (nat_eq n) es w)))
          ≡ keys_of (cond c (e ∷ filter is_unfinished es) (filter is_unfinished es))
      further true rest = ap (λ l. e.0 ∷ l) rest
      further false rest = rest

      here : (c : Bool) → keys_of (cond c ((e.0, w) ∷ filter is_unfinished es) (filter is_unfinished es))
          ≡ keys_of (cond c (e ∷ filter is_unfinished es) (filter is_unfinished es))
      here true = refl
      here false = refl

      by : (b : Bool) → cond b (Some e.1) (lookup (nat_eq n) es) ≡ Some g →
          (lookup (nat_eq n) es ≡ Some g → open_in (set_value (nat_eq n) es w) ≡ open_in es) →
          open_in (cond b ((e.0, w) ∷ es) (e ∷ set_value (nat_eq n) es w)) ≡ open_in (e ∷ es)
      by true there rest =
          let is : e.1 ≡ g = cc in
          here (is_open w)
          ∙ ap (λ c. keys_of (cond c (e ∷ filter is_unfinished es) (filter is_unfinished es)))
          (same ∙ ap is_open (sym is))
      by false there rest = further (is_open e.1) (rest there)

-- an expected message has an unfinished grant, which is found by its number
pub expected_there : (es : List (ℕ × Granted)) → IsDistinct nat_eq (keys_of es) → (n : ℕ) →
    option_map (λ at. at.0) (expected_in es) ≡ Some n →
    (g : Granted) × (first_unfinished es ≡ Some (n, g)) × (lookup (nat_eq n) es ≡ Some g) × (is_open g ≡ true)
expected_there es distinct n named = by (slice_get (open_in es) 0) refl
  where
    Names : Option (ℕ × Granted) → Type 0
    Names o = option_map (λ (at : ℕ × ℕ). at.0) (option_map (λ (e : ℕ × Granted). (e.0, came e.1)) o) ≡ Some n

    by : (o : Option ℕ) → slice_get (open_in es) 0 ≡ o →
        (g : Granted) × (first_unfinished es ≡ Some (n, g)) × (lookup (nat_eq n) es ≡ Some g) × (is_open g ≡ true)
    by None at = absurd (let none : Names None = subst Names (none_open es at) named in cc)
    by (Some m) at =
        let found = first_open es distinct m at in
        let is : Names (Some (m, found.0)) = subst Names found.1 named in
        let same : m ≡ n = cc in
        subst (λ (k : ℕ). (g : Granted) × (first_unfinished es ≡ Some (k, g)) × (lookup (nat_eq k) es ≡ Some g)
        × (is_open g ≡ true)) same found

module _ (es : List (ℕ × Granted)) (i : ℕ) (first : i ≡ position_or_len is_unfinished es) where
  -- none is expected where none stands there
  pub expected_in-none : slice_get es i ≡ None → expected_in es ≡ None
  expected_in-none at =
      ap (λ o. option_map (λ e. (e.0, came e.1)) o) (find-first is_unfinished es i first ∙ at)

  -- the one that stands there is expected
  pub expected_in-some : (e : ℕ × Granted) → slice_get es i ≡ Some e → expected_in es ≡ Some (e.0, came e.1)
  expected_in-some e at =
      ap (λ o. option_map (λ e. (e.0, came e.1)) o) (find-first is_unfinished es i first ∙ at)

  -- and it is unfinished
  pub open_there : (e : ℕ × Granted) → slice_get es i ≡ Some e → is_open e.1 ≡ true
  open_there e at = passes_there is_unfinished es i e first at
