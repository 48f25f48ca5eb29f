-- States of ranks as numbers of their parts.
use Rattle.std.proofs.Common.{◌≡◌, ◌⊎◌, inl, inr, ℕ, suc, ◌+◌, ◌<◌, Bool, true, Option, Some, None, List, [], ◌∷◌, ◌++◌}
use Rattle.std.proofs.Common.{zero, false, ◌≤◌, fold, get_or, length, length-set, map, take, refl, sym, ◌∙◌}
use Rattle.std.proofs.Common.{ap, subst, arith}
use Rattle.std.specs.Prelude.{nat_lt, option_and_then, unwrap_or}
use Rattle.std.specs.List.{IsDistinct, cons_option, filter_map, range_with_len, slice_get, slice_set}
use Rattle.std.specs.Option.{option_map_or}
use Rattle.std.proofs.lemmas.Bool.Decides.{nat_tests}
use Rattle.std.proofs.lemmas.Grind.{fold-append}
use Rattle.std.proofs.lemmas.List.{map-append, map-set}
use Rattle.std.proofs.lemmas.List.Elements.{filter_map-append}
use Rattle.std.proofs.lemmas.Option.{get_or_from_slice_get, slice_get-get_or, slice_get_past}
use Rattle.indexmap.specs.IndexSet.{insert_key}
use Rattle.nm_types.proofs.ListLemmas.{get_from_map, get_map, get_set_other, get_set_same, map_length, take_next}
use Rattle.nm_types.proofs.OptionLemmas.{no_some, same_some}
use Rattle.nm_outcomes.proofs.PartLemmas.{parts_make}
use Rattle.nm_outcomes.proofs.SentLemmas.{get_more}
use Rattle.nm_outcomes.specs.contracts.spots.deeds.PartPartialEq.TheImpl.{ghosts as part_eq}
use Rattle.nm_outcomes.specs.declared.spots.deeds.Part.{Part}
use Rattle.nm_outcomes.specs.Parts.{parts_of, with_part}
use Rattle.nm_outcomes.specs.RankStates.{Spot, first_spot}
use Rattle.nm_outcomes.specs.SameLaws.{parts_equiv, same_part}
use Rattle.nm_search.specs.Lists.{Extends, StandOnce}
use Rattle.nm_search.proofs.ListLemmas.{each_next}
use Rattle.nm_search.proofs.SetLemmas.{inserted, kept_in, once_in}
use Rattle.nm_explored.specs.Packs.{AreNumbers, AreWhole, spot_by, with_number}
use Rattle.nm_explored.specs.declared.stores.Unpacked.{Unpacked}
use Rattle.nm_explored.specs.Stores.{AreAllLow, AreAt, AreLow, AreOf, Shows, Store, states_in}
use Rattle.nm_explored.specs.Successors.{spot_in}
use Rattle.nm_explored.proofs.MetLemmas.{low_kept, low_set, state_at, states_kept}

-- a set of parts has each once, and keeps what it has
pub parts_once : (xs : List Part) → IsDistinct part_eq.eq xs → StandOnce xs
parts_once xs distinct = once_in part_eq.eq parts_equiv.refl xs distinct

pub parts_keep : (xs ys : List Part) (x : Part) → ys ≡ insert_key part_eq.eq xs x → Extends xs ys
parts_keep xs ys x is = kept_in xs ys x (inserted part_eq.eq xs ys x is)

pub part_there : (ys : List Part) (id : ℕ) (x : Part) →
    (k : Part) × (slice_get ys id ≡ Some k) × (part_eq.eq x k ≡ true) → slice_get ys id ≡ Some x
part_there ys id x at = at.1 ∙ ap (λ (s : Part). Some s) (sym ((same_part x at.0).0 at.2))

-- the part at a place, if a test finds it the same
pub part_at : (xs ys : List Part) (k : ℕ) (x p : Part) → xs ≡ ys → k < length xs →
    ((d : Part) → x ≡ get_or xs k d) → part_eq.eq x p ≡ true → slice_get ys k ≡ Some p
part_at xs ys k x p same below is so =
    ap (λ (zs : List Part). slice_get zs k) (sym same) ∙ slice_get-get_or xs k x below
    ∙ ap (λ (q : Part). Some q) (sym (is x) ∙ (same_part x p).0 so)

-- the first number, and the others
first_is : (parts : List Part) (n : ℕ) (row : List ℕ) (p : Part) (ps : List Part) →
    AreNumbers parts (n ∷ row) (p ∷ ps) → slice_get parts n ≡ Some p
first_is parts n row p ps are =
    same_some (slice_get parts n) (Some p) (ap (λ (os : List (Option Part)). slice_get os 0) are)

abbrev behind_first : List (Option Part) → List (Option Part)
behind_first [] = []
behind_first (o ∷ os) = os

others_are : (parts : List Part) (n : ℕ) (row : List ℕ) (p : Part) (ps : List Part) →
    AreNumbers parts (n ∷ row) (p ∷ ps) → AreNumbers parts row ps
others_are parts n row p ps are = ap (λ (os : List (Option Part)). behind_first os) are

none_more : (o : Option Part) (os : List (Option Part)) → [] ≡ o ∷ os → ⊥
none_more o os is =
    let long : 0 ≡ suc (length os) = ap (λ (os : List (Option Part)). length os) is in omega (arith, long)

-- numbers of parts are so where there are more parts
pub numbers_kept : (old new : List Part) → Extends old new → (row : List ℕ) (ps : List Part) →
    AreNumbers old row ps → AreNumbers new row ps
numbers_kept old new kept [] [] are = refl
numbers_kept old new kept [] (p ∷ ps) are = absurd (none_more (Some p) (map Some ps) are)
numbers_kept old new kept (n ∷ row) [] are =
    absurd (none_more (slice_get old n) (map (λ (n : ℕ). slice_get old n) row) (sym are))
numbers_kept old new kept (n ∷ row) (p ∷ ps) are =
    λ i. kept n p (first_is old n row p ps are) i
    ∷ numbers_kept old new kept row ps (others_are old n row p ps are) i

-- .. and with one more
numbers_push : (parts : List Part) (row : List ℕ) (n : ℕ) (ps : List Part) (p : Part) → AreNumbers parts row ps →
    slice_get parts n ≡ Some p → AreNumbers parts (row ++ n ∷ []) (ps ++ p ∷ [])
numbers_push parts row n ps p are here =
    map-append (λ (n : ℕ). slice_get parts n) row (n ∷ [])
    ∙ ap (λ (os : List (Option Part)). os ++ slice_get parts n ∷ []) are
    ∙ ap (λ (o : Option Part). map Some ps ++ o ∷ []) here ∙ sym (map-append Some ps (p ∷ []))

pub numbers_next : (old new : List Part) (row more : List ℕ) (n : ℕ) (ps : List Part) (k : ℕ) (d : Part) →
    k < length ps → Extends old new → AreNumbers old row (take k ps) → slice_get new n ≡ Some (get_or ps k d) →
    more ≡ row ++ n ∷ [] → AreNumbers new more (take (k + 1) ps)
numbers_next old new row more n ps k d low kept are here is =
    ap (λ (row : List ℕ). map (λ (n : ℕ). slice_get new n) row) is
    ∙ numbers_push new row n (take k ps) (get_or ps k d) (numbers_kept old new kept row (take k ps) are) here
    ∙ ap (λ (ps : List Part). map Some ps)
    (sym (take_next ps k (get_or ps k d) low
    (same_some (get_or ps k d) (get_or ps k (get_or ps k d))
    (sym (slice_get-get_or ps k d low) ∙ slice_get-get_or ps k (get_or ps k d) low))))

-- numbers that name the same parts are the same
same_row : (parts : List Part) → StandOnce parts → (a b : List ℕ) (ps : List Part) → AreNumbers parts a ps →
    AreNumbers parts b ps → a ≡ b
same_row parts once [] [] ps one two = refl
same_row parts once [] (n ∷ b) ps one two =
    absurd (none_more (slice_get parts n) (map (λ (n : ℕ). slice_get parts n) b) (one ∙ sym two))
same_row parts once (n ∷ a) [] ps one two =
    absurd (none_more (slice_get parts n) (map (λ (n : ℕ). slice_get parts n) a) (two ∙ sym one))
same_row parts once (m ∷ a) (n ∷ b) [] one two =
    absurd (none_more (slice_get parts m) (map (λ (n : ℕ). slice_get parts n) a) (sym one))
same_row parts once (m ∷ a) (n ∷ b) (p ∷ ps) one two =
    λ i. once m n p (first_is parts m a p ps one) (first_is parts n b p ps two) i
    ∷ same_row parts once a b ps (others_are parts m a p ps one) (others_are parts n b p ps two) i

-- the state of the parts of a state is that one
put_all : (parts : List Part) (row : List ℕ) (ps : List Part) (s : Spot) → AreNumbers parts row ps →
    fold (with_number parts) s row ≡ fold with_part s ps
put_all parts [] [] s are = refl
put_all parts [] (p ∷ ps) s are = absurd (none_more (Some p) (map Some ps) are)
put_all parts (n ∷ row) [] s are =
    absurd (none_more (slice_get parts n) (map (λ (n : ℕ). slice_get parts n) row) (sym are))
put_all parts (n ∷ row) (p ∷ ps) s are =
    ap (λ (o : Option Part). fold (with_number parts) (option_map_or (with_part s) o s) row)
    (first_is parts n row p ps are)
    ∙ put_all parts row ps (with_part s p) (others_are parts n row p ps are)

pub spot_is : (parts : List Part) (row : List ℕ) (s : Spot) → AreNumbers parts row (parts_of s) →
    spot_by parts row ≡ s
spot_is parts row s are = put_all parts row (parts_of s) first_spot are ∙ parts_make s

-- the state of the first numbers, with one more
pub spot_next : (parts : List Part) (row : List ℕ) (k d : ℕ) (s t : Spot) → k < length row →
    s ≡ spot_by parts (take k row) → t ≡ with_number parts s (get_or row k d) → t ≡ spot_by parts (take (k + 1) row)
spot_next parts row k d s t low before is =
    is ∙ ap (λ (s : Spot). with_number parts s (get_or row k d)) before
    ∙ sym (fold-append (with_number parts) first_spot (take k row) (get_or row k d ∷ []))
    ∙ ap (λ (row : List ℕ). spot_by parts row)
    (sym (take_next row k (get_or row k d) low
    (same_some (get_or row k d) (get_or row k (get_or row k d))
    (sym (slice_get-get_or row k d low) ∙ slice_get-get_or row k (get_or row k d) low))))

-- rows with more parts, and more rows
pub whole_kept : (old new : List Part) (rows : List (List ℕ)) → Extends old new → AreWhole old rows → AreWhole new rows
whole_kept old new rows kept whole k row here =
    let s = whole k row here in (s.0, numbers_kept old new kept row (parts_of s.0) s.1)

whole_more : (parts : List Part) (rows more : List (List ℕ)) (row : List ℕ) (s : Spot) → AreWhole parts rows →
    AreNumbers parts row (parts_of s) → (more ≡ rows) ⊎ (more ≡ rows ++ row ∷ []) → AreWhole parts more
whole_more parts rows more row s whole are (inl same) =
    subst (λ (rs : List (List ℕ)). AreWhole parts rs) (sym same) whole
whole_more parts rows more row s whole are (inr is) = λ k other here. by_place k other
    (get_more rows row true k other (ap (λ (rs : List (List ℕ)). slice_get rs k) (sym is) ∙ here))
  where
    by_place : (k : ℕ) (other : List ℕ) →
        (slice_get rows k ≡ Some other) ⊎ ((k ≡ length rows) × (row ≡ other) × (true ≡ true)) →
        (s : Spot) × AreNumbers parts other (parts_of s)
    by_place k other (inl at) = whole k other at
    by_place k other (inr last) =
        subst (λ (row : List ℕ). (s : Spot) × AreNumbers parts row (parts_of s)) last.1 (s, are)

pub whole_next : (old new : List Part) (rows more : List (List ℕ)) (row : List ℕ) (s : Spot) → Extends old new →
    AreWhole old rows → AreNumbers new row (parts_of s) → (more ≡ rows) ⊎ (more ≡ rows ++ row ∷ []) → AreWhole new more
whole_next old new rows more row s kept whole are is =
    whole_more new rows more row s (whole_kept old new rows kept whole) are is

-- the states of rows
pub row_there : (parts : List Part) (rows : List (List ℕ)) (id : ℕ) (row : List ℕ) (s : Spot) →
    slice_get rows id ≡ Some row → AreNumbers parts row (parts_of s) →
    slice_get (map (spot_by parts) rows) id ≡ Some s
row_there parts rows id row s here are =
    get_map (spot_by parts) rows id row here ∙ ap (λ (s : Spot). Some s) (spot_is parts row s are)

pub rows_keep : (old new : List Part) (rows more : List (List ℕ)) → Extends old new → Extends rows more →
    AreWhole old rows → Extends (map (spot_by old) rows) (map (spot_by new) more)
rows_keep old new rows more parts kept whole k x here =
    let row = get_from_map (spot_by old) rows k x here in
    let s = whole k row.0 row.1 in
    row_there new more k row.0 s.0 (kept k row.0 row.1) (numbers_kept old new parts row.0 (parts_of s.0) s.1)
    ∙ ap (λ (s : Spot). Some s) (sym (spot_is old row.0 s.0 s.1) ∙ row.2)

pub rows_once : (parts : List Part) (rows : List (List ℕ)) → StandOnce parts → StandOnce rows → AreWhole parts rows →
    StandOnce (map (spot_by parts) rows)
rows_once parts rows each once whole j k x one two =
    let a = get_from_map (spot_by parts) rows j x one in
    let b = get_from_map (spot_by parts) rows k x two in
    let s = whole j a.0 a.1 in
    let t = whole k b.0 b.1 in
    let is_x : s.0 ≡ x = sym (spot_is parts a.0 s.0 s.1) ∙ a.2 in
    let is_too : t.0 ≡ x = sym (spot_is parts b.0 t.0 t.1) ∙ b.2 in
    let same : a.0 ≡ b.0 =
    same_row parts each a.0 b.0 (parts_of x)
    (s.1 ∙ ap (λ (s : Spot). map Some (parts_of s)) is_x) (t.1 ∙ ap (λ (s : Spot). map Some (parts_of s)) is_too) in
    once j k b.0 (a.1 ∙ ap (λ (row : List ℕ). Some row) same) b.1

pub row_missing : (parts : List Part) (rows : List (List ℕ)) (id : ℕ) → length rows ≤ id →
    slice_get (map (spot_by parts) rows) id ≡ None
row_missing parts rows id past =
    let long = map_length (spot_by parts) rows in
    slice_get_past (map (spot_by parts) rows) id (omega (arith, past, long))

-- what is found by the first numbers, with one more
pub found_next : (table : List Spot) (ids : List ℕ) (k d : ℕ) → k < length ids →
    filter_map (λ (id : ℕ). slice_get table id) (take (k + 1) ids)
    ≡ filter_map (λ (id : ℕ). slice_get table id) (take k ids) ++ cons_option (slice_get table (get_or ids k d)) []
found_next table ids k d low =
    ap (λ (ids : List ℕ). filter_map (λ (id : ℕ). slice_get table id) ids)
    (take_next ids k (get_or ids k d) low
    (same_some (get_or ids k d) (get_or ids k (get_or ids k d))
    (sym (slice_get-get_or ids k d low) ∙ slice_get-get_or ids k (get_or ids k d) low)))
    ∙ filter_map-append (λ (id : ℕ). slice_get table id) (take k ids) (get_or ids k d ∷ [])

-- all of them, where they are in the table
pub all_found : (table : List Spot) (ids : List ℕ) → AreLow table ids →
    filter_map (λ (id : ℕ). slice_get table id) ids ≡ states_in table ids
all_found table [] low = refl
all_found table (id ∷ ids) low =
    ap (λ (o : Option Spot). cons_option o (filter_map (λ (id : ℕ). slice_get table id) ids))
    (slice_get-get_or table id first_spot (low 0 id refl))
    ∙ ap (λ (ss : List Spot). get_or table id first_spot ∷ ss)
    (all_found table ids (λ j x here. low (suc j) x here))

-- the numbers from one on
place_is : (a n k : ℕ) → k < n → slice_get (range_with_len a n) k ≡ Some (a + k)
place_is a zero k low = absurd (omega (arith, low))
place_is a (suc n) zero low = let e : a ≡ a + 0 = omega arith in ap (λ (k : ℕ). Some k) e
place_is a (suc n) (suc k) low =
    let e : a + 1 + k ≡ a + suc k = omega arith in
    let less : k < n = omega (arith, low) in
    place_is (a + 1) n k less ∙ ap (λ (k : ℕ). Some k) e

pub places_next : (a n : ℕ) → range_with_len a (n + 1) ≡ range_with_len a n ++ (a + n) ∷ []
places_next a zero = let e : a ≡ a + 0 = omega arith in ap (λ (k : ℕ). k ∷ []) e
places_next a (suc n) =
    let e : suc n + 1 ≡ suc (n + 1) = omega arith in
    let g : a + 1 + n ≡ a + suc n = omega arith in
    ap (λ (k : ℕ). range_with_len a k) e ∙ ap (λ (ks : List ℕ). a ∷ ks) (places_next (a + 1) n)
    ∙ ap (λ (k : ℕ). a ∷ range_with_len (a + 1) n ++ k ∷ []) g

no_place : (a n k : ℕ) → n ≤ k → slice_get (range_with_len a n) k ≡ None
no_place a zero k past = refl
no_place a (suc n) zero past = absurd (omega (arith, past))
no_place a (suc n) (suc k) past = let more : n ≤ k = omega (arith, past) in no_place (a + 1) n k more

-- states by their own places
by_places : (ranks : List Spot) (i : ℕ) → spot_in ranks (range_with_len 0 (length ranks)) i ≡ slice_get ranks i
by_places ranks i = by_test (nat_lt i (length ranks)) refl
  where
    found : Option ℕ → Option Spot
    found o = option_and_then (λ (id : ℕ). slice_get ranks id) o

    by_test : (b : Bool) → nat_lt i (length ranks) ≡ b →
        found (slice_get (range_with_len 0 (length ranks)) i) ≡ slice_get ranks i
    by_test true so =
        let low : i < length ranks = grind (arith, nat_tests) in
        let e : 0 + i ≡ i = omega arith in
        ap found (place_is 0 (length ranks) i low) ∙ ap (λ (k : ℕ). slice_get ranks k) e
    by_test false so =
        let past : length ranks ≤ i = grind (arith, nat_tests) in
        ap found (no_place 0 (length ranks) i past) ∙ sym (slice_get_past ranks i past)

-- the states of all ranks by their own places are those of these numbers
pub shown : (table : List Spot) (all : Unpacked) → AreOf table all →
    spot_in all.ranks.items all.places.items ≡ spot_in table all.ids.items
shown table all are = λ j i. at i j
  where
    many : length all.ids.items ≡ length all.ranks.items
    many =
        sym (map_length (λ (id : ℕ). get_or table id first_spot) all.ids.items)
        ∙ sym (ap (λ (ss : List Spot). length ss) are.ranks)

    at : (i : ℕ) → spot_in all.ranks.items all.places.items i ≡ spot_in table all.ids.items i
    at i =
        ap (λ (places : List ℕ). spot_in all.ranks.items places i)
        (are.places ∙ ap (λ (n : ℕ). range_with_len 0 n) many)
        ∙ by_places all.ranks.items i
        ∙ ap (λ (ss : List Spot). slice_get ss i) are.ranks ∙ state_at table all.ids.items are.low i

-- .. and of these
pub shown_at : (table : List Spot) (ids : List ℕ) (all : Unpacked) → AreAt table ids all →
    spot_in all.ranks.items all.places.items ≡ spot_in table ids
shown_at table ids all are =
    shown table all are.0
    ∙ (λ j i. option_and_then (λ (id : ℕ). slice_get table id) (are.1 i j))

-- .. of the state that was looked up
pub viewed : (table known ranks shown : List Spot) (ids named places own : List ℕ) → shown ≡ ranks → own ≡ places →
    (AreLow table ids → spot_in ranks places ≡ spot_in table ids) → table ≡ known → ids ≡ named → AreLow known named →
    spot_in shown own ≡ spot_in known named
viewed table known ranks shown ids named places own one two are three four low =
    (λ k. spot_in (one k) (two k))
    ∙ are
    (subst (λ (x : List Spot). AreLow x ids) (sym three) (subst (λ (y : List ℕ). AreLow known y) (sym four) low))
    ∙ (λ k. spot_in (three k) (four k))

-- those of the state with a number
pub shows : (store : Store) (k : ℕ) (all : Unpacked) → AreAt store.table (unwrap_or (slice_get store.states k) []) all →
    Shows store k all
shows store k all are ids here =
    shown_at store.table ids all
    (subst (λ (o : Option (List ℕ)). AreAt store.table (unwrap_or o []) all) here are)

-- the numbers at the state with a number are low
none_low : (store : Store) (k : ℕ) → AreAllLow store → AreLow store.table (unwrap_or (slice_get store.states k) [])
none_low store k low = by_option (slice_get store.states k) refl
  where
    by_option : (o : Option (List ℕ)) → slice_get store.states k ≡ o → AreLow store.table (unwrap_or o [])
    by_option None here = λ j id at. absurd (no_some id at)
    by_option (Some ids) here = low k ids here

-- what was found by the fields of a store
pub found_at : (table : List Spot) (store : Store) (k : ℕ) (ids : List ℕ) (all : Unpacked) → table ≡ store.table →
    ids ≡ unwrap_or (slice_get store.states k) [] → AreAllLow store → (AreLow table ids → AreAt table ids all) →
    AreAt store.table (unwrap_or (slice_get store.states k) []) all
found_at table store k ids all one two low are =
    subst (λ (x : List Spot). AreAt x (unwrap_or (slice_get store.states k) []) all) one
    (subst (λ (y : List ℕ). AreAt table y all) two
    (are
    (subst (λ (x : List Spot). AreLow x ids) (sym one)
    (subst (λ (y : List ℕ). AreLow store.table y) (sym two) (none_low store k low)))))

pub found_from : (table : List Spot) (store : Store) (k : ℕ) (ids : List ℕ) (old new : Unpacked)
    (P : Type 0 → Type 0) → table ≡ store.table → ids ≡ unwrap_or (slice_get store.states k) [] → AreAllLow store →
    AreOf store.table old → (AreLow table ids → AreOf table old → P (AreAt table ids new)) →
    P (AreAt store.table (unwrap_or (slice_get store.states k) []) new)
found_from table store k ids old new P one two low before are =
    subst (λ (x : List Spot). P (AreAt x (unwrap_or (slice_get store.states k) []) new)) one
    (subst (λ (y : List ℕ). P (AreAt table y new)) two
    (are
    (subst (λ (x : List Spot). AreLow x ids) (sym one)
    (subst (λ (y : List ℕ). AreLow store.table y) (sym two) (none_low store k low)))
    (subst (λ (x : List Spot). AreOf x old) (sym one) before)))

-- in a table with more
pub of_kept : (old new : List Spot) (all : Unpacked) → Extends old new → AreOf old all → AreOf new all
of_kept old new all kept are =
    record {
      low = low_kept old new all.ids.items kept are.low;
      ranks = are.ranks ∙ sym (states_kept old new all.ids.items kept are.low);
      places = are.places;
    }

-- a number that stands there already
set_same : (xs : List ℕ) (k x : ℕ) → slice_get xs k ≡ Some x → slice_set xs k x ≡ xs
set_same [] k x here = refl
set_same (y ∷ ys) zero x here = ap (λ (z : ℕ). z ∷ ys) (sym (same_some y x here))
set_same (y ∷ ys) (suc k) x here = ap (λ (zs : List ℕ). y ∷ zs) (set_same ys k x here)

pub refreshed_same : (table : List Spot) (all : Unpacked) (place id : ℕ) → slice_get all.ids.items place ≡ Some id →
    AreOf table all → AreOf table all × (all.ids.items ≡ slice_set all.ids.items place id)
refreshed_same table all place id here are = (are, sym (set_same all.ids.items place id here))

-- the state of a rank that became another one
pub refreshed : (table : List Spot) (old new : Unpacked) (place id : ℕ) (rank : Spot) → slice_get table id ≡ Some rank →
    new.ids.items ≡ slice_set old.ids.items place id → new.ranks.items ≡ slice_set old.ranks.items place rank →
    new.places.items ≡ old.places.items → id < length table → place < length old.ids.items → AreOf table old →
    AreOf table new
refreshed table old new place id rank here ids ranks places low inside are =
    record {
      low = subst (λ (xs : List ℕ). AreLow table xs) (sym ids)
          (low_set table old.ids.items place id are.low inside low);
      ranks = ranks ∙ ap (λ (ss : List Spot). slice_set ss place rank) are.ranks
          ∙ ap (λ (s : Spot). slice_set (states_in table old.ids.items) place s)
          (sym (get_or_from_slice_get table id rank first_spot here))
          ∙ sym (map-set (λ (n : ℕ). get_or table n first_spot) old.ids.items place id)
          ∙ ap (λ (xs : List ℕ). states_in table xs) (sym ids);
      places = places ∙ are.places
          ∙ ap (λ (n : ℕ). range_with_len 0 n)
          (sym (length-set old.ids.items place id) ∙ sym (ap (λ (xs : List ℕ). length xs) ids));
    }

-- the first ones have become those with these numbers
pub record AreFresh (table : List Spot) (ids : List ℕ) (all : Unpacked) (n : ℕ) : Type 0 where
  pub are : AreOf table all
  pub many : length all.ids.items ≡ length ids
  pub same : (j : ℕ) → j < n → slice_get all.ids.items j ≡ slice_get ids j

pub fresh_next : (table : List Spot) (ids : List ℕ) (old new : Unpacked) (n id : ℕ) → n < length ids →
    slice_get ids n ≡ Some id → AreFresh table ids old n →
    AreOf table new × (new.ids.items ≡ slice_set old.ids.items n id) → AreFresh table ids new (n + 1)
fresh_next table ids old new n id low is fresh next =
    record {
      are = next.0;
      many = ap (λ (xs : List ℕ). length xs) next.1 ∙ length-set old.ids.items n id ∙ fresh.many;
      same = each_next (λ (j : ℕ). slice_get new.ids.items j ≡ slice_get ids j) n
          (λ j less. ap (λ (xs : List ℕ). slice_get xs j) next.1
          ∙ get_set_other old.ids.items n j id (λ (e : j ≡ n). omega (arith, less, e)) ∙ fresh.same j less)
          (ap (λ (xs : List ℕ). slice_get xs n) next.1
          ∙ get_set_same old.ids.items n id (let many = fresh.many in omega (arith, low, many))
          ∙ sym is);
    }

pub fresh_all : (table : List Spot) (ids : List ℕ) (all : Unpacked) (n : ℕ) → length ids ≤ n →
    AreFresh table ids all n → AreAt table ids all
fresh_all table ids all n end fresh = (fresh.are, λ j. by_test j (nat_lt j (length ids)) refl)
  where
    by_test : (j : ℕ) (b : Bool) → nat_lt j (length ids) ≡ b → slice_get all.ids.items j ≡ slice_get ids j
    by_test j true so =
        let less : j < length ids = grind (arith, nat_tests) in
        fresh.same j (omega (arith, less, end))
    by_test j false so =
        let past : length ids ≤ j = grind (arith, nat_tests) in
        let many = fresh.many in
        slice_get_past all.ids.items j (omega (arith, past, many)) ∙ sym (slice_get_past ids j past)
