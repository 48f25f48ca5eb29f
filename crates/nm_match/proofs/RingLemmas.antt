-- Rings: where one begins plays no part, and what is left after one has left, or has come last.
use Rattle.std.proofs.Common.{◌≡◌, ◌≢◌, ℕ, false, Option, Some, List, [], ◌∷◌, ◌++◌}
use Rattle.std.proofs.Common.{refl, sym, ◌∙◌, ap, subst, append-nil}
use Rattle.std.specs.List.{AllByRecursion}
use Rattle.std.specs.Option.{option_map}
use Rattle.std.specs.Prelude.{AllPairs, nat_eq}
use Rattle.std.proofs.lemmas.Bool.{eqb-true, false_from_ne_true}
use Rattle.std.proofs.lemmas.List.Elements.{recursion_from_All}
use Rattle.nm_types.specs.declared.messages.Post as post
use Rattle.nm_types.proofs.ListLemmas.{all_append, all_split}
use Rattle.nm_match.specs.declared.names.Receive.{Receive}
use Rattle.nm_match.specs.Rings.{AreLinked, IsRing, before_set, ends_set, first_number, last_number, next_set}
use Rattle.nm_match.specs.Rings.{waits_between, with_before, with_next}
use Rattle.nm_match.proofs.BucketLemmas.{pairs_head, pairs_tail}
use Rattle.nm_match.proofs.NameLemmas.{number_itself}

abbrev Entry : Type 0
Entry = ℕ × post.Post

-- two of them have two numbers
abbrev pub Two : Entry → Entry → Type 0
Two x y = x.1.number ≢ y.1.number

-- any two of them do
abbrev pub Apart : List Entry → Type 0
Apart [] = Unit {0}
Apart (x ∷ xs) = AllByRecursion (Two x) xs × Apart xs

pub apart_pairs : (xs : List Entry) → AllPairs Two xs → Apart xs
apart_pairs [] two = tt
apart_pairs (x ∷ xs) two =
    (recursion_from_All (Two x) xs (pairs_head Two x xs two), apart_pairs xs (pairs_tail Two x xs two))

-- a number that is none of theirs
abbrev pub NoneHas : ℕ → List Entry → Type 0
NoneHas n xs = AllByRecursion (λ (y : Entry). n ≢ y.1.number) xs

pub other_number : (a b : ℕ) → a ≢ b → nat_eq a b ≡ false
other_number a b other = false_from_ne_true (nat_eq a b) (λ same. other (eqb-true a b same))

-- of each of the first to each of the last, and back
cross_back : (x : Entry) (ys : List Entry) → AllByRecursion (λ (y : Entry). y.1.number ≢ x.1.number) ys →
    AllByRecursion (Two x) ys
cross_back x [] each = tt
cross_back x (y ∷ ys) each = ((λ same. each.0 (sym same)), cross_back x ys each.1)

cross : (xs : List Entry) (y : Entry) (ys : List Entry) → Apart (xs ++ y ∷ ys) →
    AllByRecursion (λ (x : Entry). x.1.number ≢ y.1.number) xs × Apart (xs ++ ys)
cross [] y ys two = (tt, two.1)
cross (x ∷ xs) y ys two =
    let later = cross xs y ys two.1 in
    let split = all_split (Two x) xs (y ∷ ys) two.0 in
    ((split.1.0, later.0), (all_append (Two x) xs ys split.0 split.1.1, later.1))

pub apart_turned : (xs ys : List Entry) → Apart (xs ++ ys) → Apart (ys ++ xs)
apart_turned xs [] two = subst (λ (l : List Entry). Apart l) (append-nil xs) two
apart_turned xs (y ∷ ys) two =
    let parts = cross xs y ys two in
    let rest = apart_turned xs ys parts.1 in
    (all_append (Two y) ys xs (behind xs two) (cross_back y xs parts.0), rest)
  where
    behind : (xs : List Entry) → Apart (xs ++ y ∷ ys) → AllByRecursion (Two y) ys
    behind [] two = two.0
    behind (x ∷ xs) two = behind xs two.1

last_append : (d : ℕ) (xs ys : List Entry) → last_number d (xs ++ ys) ≡ last_number (last_number d xs) ys
last_append d [] ys = refl
last_append d (x ∷ xs) ys = last_append x.1.number xs ys

first_append : (d : ℕ) (xs ys : List Entry) → first_number d (xs ++ ys) ≡ first_number (first_number d ys) xs
first_append d [] ys = refl
first_append d (x ∷ xs) ys = refl

module _ (at : ℕ → Option Receive) where
  linked_split : (b n : ℕ) (xs ys : List Entry) → AreLinked at b n (xs ++ ys) →
      AreLinked at b (first_number n ys) xs × AreLinked at (last_number b xs) n ys
  linked_split b n [] ys links = (tt, links)
  linked_split b n (x ∷ xs) ys links =
      let later = linked_split x.1.number n xs ys links.1 in
      ((links.0 ∙ ap (λ (m : ℕ). Some (waits_between x b m)) (first_append n xs ys), later.0), later.1)

  linked_join : (b n : ℕ) (xs ys : List Entry) → AreLinked at b (first_number n ys) xs →
      AreLinked at (last_number b xs) n ys → AreLinked at b n (xs ++ ys)
  linked_join b n [] ys first rest = rest
  linked_join b n (x ∷ xs) ys first rest = (
    first.0 ∙ ap (λ (m : ℕ). Some (waits_between x b m)) (sym (first_append n xs ys)),
    linked_join x.1.number n xs ys first.1 rest,
  )

  -- a ring begins where one likes
  pub ring_turned : (xs ys : List Entry) → IsRing at (xs ++ ys) → IsRing at (ys ++ xs)
  ring_turned [] ys ring = subst (λ (l : List Entry). IsRing at l) (sym (append-nil ys)) ring
  ring_turned (x ∷ xs) [] ring = subst (λ (l : List Entry). IsRing at l) (append-nil (x ∷ xs)) ring
  ring_turned (x ∷ xs) (y ∷ ys) ring =
      let last : last_number x.1.number (xs ++ y ∷ ys) ≡ last_number y.1.number ys
      = last_append x.1.number xs (y ∷ ys) in
      let parts = linked_split (last_number y.1.number ys) x.1.number (x ∷ xs) (y ∷ ys)
      (subst (λ (b : ℕ). AreLinked at b x.1.number (x ∷ xs ++ y ∷ ys)) last ring) in
      subst (λ (b : ℕ). AreLinked at b y.1.number (y ∷ ys ++ x ∷ xs)) (sym (last_append y.1.number ys (x ∷ xs)))
      (linked_join (last_number x.1.number xs) y.1.number (y ∷ ys) (x ∷ xs) parts.1 parts.0)

-- what is kept of none of them changes nothing
pub linked_same : (at at' : ℕ → Option Receive) (b n : ℕ) (xs : List Entry) →
    AllByRecursion (λ (x : Entry). at' x.1.number ≡ at x.1.number) xs → AreLinked at b n xs → AreLinked at' b n xs
linked_same at at' b n [] same links = tt
linked_same at at' b n (x ∷ xs) same links =
    (same.0 ∙ links.0, linked_same at at' x.1.number n xs same.1 links.1)

before_other : (at : ℕ → Option Receive) (n before : ℕ) (xs : List Entry) → NoneHas n xs →
    AllByRecursion (λ (x : Entry). before_set at n before x.1.number ≡ at x.1.number) xs
before_other at n before [] none = tt
before_other at n before (x ∷ xs) none =
    (rw (other_number n x.1.number none.0) refl, before_other at n before xs none.1)

pub next_other : (at : ℕ → Option Receive) (n next : ℕ) (xs : List Entry) → NoneHas n xs →
    AllByRecursion (λ (x : Entry). next_set at n next x.1.number ≡ at x.1.number) xs
next_other at n next [] none = tt
next_other at n next (x ∷ xs) none =
    (rw (other_number n x.1.number none.0) refl, next_other at n next xs none.1)

-- the last is one of them
pub last_passes : (P : ℕ → Type 0) (x : Entry) (xs : List Entry) →
    AllByRecursion (λ (y : Entry). P y.1.number) (x ∷ xs) → P (last_number x.1.number xs)
last_passes P x [] each = each.0
last_passes P x (y ∷ ys) each = last_passes P y ys each.1

-- the last has another one behind it
next_ends : (at : ℕ → Option Receive) (b n next : ℕ) (z : Entry) (zs : List Entry) → Apart (z ∷ zs) →
    AreLinked at b n (z ∷ zs) → AreLinked (next_set at (last_number z.1.number zs) next) b next (z ∷ zs)
next_ends at b n next z [] two links =
    (rw (number_itself z.1.number) (ap (λ (o : Option Receive). option_map (with_next next) o) links.0), tt)
next_ends at b n next z (w ∷ ws) two links = (
  rw (other_number (last_number w.1.number ws) z.1.number
      (λ same. last_passes (λ (m : ℕ). z.1.number ≢ m) w ws two.0 (sym same))) links.0,
  next_ends at z.1.number n next w ws two.1 links.1,
)

-- the first has another one before it, and the last another one behind it
pub ends_linked : (at : ℕ → Option Receive) (b n before next : ℕ) (z : Entry) (zs : List Entry) → Apart (z ∷ zs) →
    AreLinked at b n (z ∷ zs) →
    AreLinked (ends_set at z.1.number before (last_number z.1.number zs) next) before next (z ∷ zs)
ends_linked at b n before next z zs two links =
    next_ends (before_set at z.1.number before) before n next z zs two (
      rw (number_itself z.1.number) (ap (λ (o : Option Receive). option_map (with_before before) o) links.0),
      linked_same at (before_set at z.1.number before) z.1.number n zs
          (before_other at z.1.number before zs two.0) links.1,
    )

-- what is kept of others stays where the first and the last of a row get other neighbours
pub ends_other : (at : ℕ → Option Receive) (first before last next : ℕ) (xs : List Entry) → NoneHas first xs →
    NoneHas last xs → AllByRecursion (λ (x : Entry). ends_set at first before last next x.1.number ≡ at x.1.number) xs
ends_other at first before last next [] no_first no_last = tt
ends_other at first before last next (x ∷ xs) no_first no_last = (
  rw (other_number last x.1.number no_last.0, other_number first x.1.number no_first.0) refl,
  ends_other at first before last next xs no_first.1 no_last.1,
)
