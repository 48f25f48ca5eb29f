-- The rings of a queue: their first ones, and what is left after one has left, or has come last.
use Rattle.std.proofs.Common.{◌≡◌, ◌≢◌, ℕ, ◌==◌, Bool, true, false, cond, Option, Some, None, List, [], ◌∷◌, ◌++◌}
use Rattle.std.proofs.Common.{refl, sym, ◌∙◌, ap, subst, arith, slice_get}
use Rattle.std.specs.BTreeMap.{is_at}
use Rattle.std.specs.List.{AllByRecursion, filter, find}
use Rattle.std.specs.Map.{remove_entry}
use Rattle.std.specs.Option.{option_map_or}
use Rattle.std.specs.Ordering.{nat_cmp}
use Rattle.std.specs.Prelude.{AllPairs, nat_eq}
use Rattle.std.proofs.lemmas.Bool.{false≢true}
use Rattle.std.proofs.lemmas.List.Kept.{AllPairs-filter}
use Rattle.nm_types.specs.declared.messages.Post as post
use Rattle.nm_types.proofs.ListLemmas.{all_append, all_split}
use Rattle.nm_types.proofs.OptionLemmas.{same_some}
use Rattle.nm_match.specs.declared.names.Receive.{Receive}
use Rattle.nm_match.specs.declared.names.Receive.TheVariants.{Waits}
use Rattle.nm_match.specs.declared.picks.Picks.{Picks}
use Rattle.nm_match.specs.Buckets.{AreBuckets}
use Rattle.nm_match.specs.Picks.{picks_of_post, same_picks}
use Rattle.nm_match.specs.Queues.{without_first}
use Rattle.nm_match.specs.Rings.{AreLinked, AreRings, IsPassed, IsRing, before_of, ends_set, first_number}
use Rattle.nm_match.specs.Rings.{front_number, last_number, let_in, next_of, passed, shut_out, waiting_at, waiting_of}
use Rattle.nm_match.specs.Rings.{waits_between}
use Rattle.nm_match.specs.SameKeys.{same_picks-self, same_picks-true}
use Rattle.nm_match.proofs.NameLemmas.{number_itself}
use Rattle.nm_match.proofs.OrderLemmas.{entry_left, order_found}
use Rattle.nm_match.proofs.RingLemmas.{Apart, NoneHas, Two, apart_pairs, apart_turned, ends_linked, ends_other}
use Rattle.nm_match.proofs.RingLemmas.{last_passes, linked_same, other_number, ring_turned}

abbrev Entry : Type 0
Entry = ℕ × post.Post

each_weaker : (P Q : Entry → Type 0) → ((y : Entry) → P y → Q y) → (ys : List Entry) → AllByRecursion P ys →
    AllByRecursion Q ys
each_weaker P Q f [] each = tt
each_weaker P Q f (y ∷ ys) each = (f y each.0, each_weaker P Q f ys each.1)

pub each_kept : (P : Entry → Type 0) (q : Entry → Bool) (ys : List Entry) → AllByRecursion P ys →
    AllByRecursion P (filter q ys)
each_kept P q [] each = tt
each_kept P q (y ∷ ys) each = at (each_kept P q ys each.1) (q y)
  where
    at : AllByRecursion P (filter q ys) → (b : Bool) → AllByRecursion P (cond b (y ∷ filter q ys) (filter q ys))
    at rest true = (each.0, rest)
    at rest false = rest

each_passes : (q : Entry → Bool) (ys : List Entry) → AllByRecursion (λ (y : Entry). q y ≡ true) (filter q ys)
each_passes q [] = tt
each_passes q (y ∷ ys) = at (each_passes q ys) (q y) refl
  where
    at : AllByRecursion (λ (z : Entry). q z ≡ true) (filter q ys) → (b : Bool) → q y ≡ b →
        AllByRecursion (λ (z : Entry). q z ≡ true) (cond b (y ∷ filter q ys) (filter q ys))
    at rest true passes = (passes, rest)
    at rest false fails = rest

-- a number that no receive has
pub none_has : (n : ℕ) (ys : List Entry) → find (λ (y : Entry). y.1.number == n) ys ≡ None → NoneHas n ys
none_has n [] none = tt
none_has n (y ∷ ys) none = at (λ later. none_has n ys later) (y.1.number == n) refl none
  where
    at : (find (λ (z : Entry). z.1.number == n) ys ≡ None → NoneHas n ys) → (b : Bool) → (y.1.number == n) ≡ b →
        cond b (Some y) (find (λ (z : Entry). z.1.number == n) ys) ≡ None → NoneHas n (y ∷ ys)
    at later true is none = absurd (grind arith)
    at later false other none = (
      (λ same. false≢true (sym other ∙ subst (λ (m : ℕ). (m == n) ≡ true) same (number_itself n))),
      later none,
    )

-- what a search finds, with what stands before it and behind it
record Found (test : Entry → Bool) (xs : List Entry) (x : Entry) : Type 0 where
  ls : List Entry
  rs : List Entry
  whole : xs ≡ ls ++ x ∷ rs
  left : without_first test xs ≡ ls ++ rs

found_at : (test : Entry → Bool) (xs : List Entry) (x : Entry) → find test xs ≡ Some x → Found test xs x
found_at test [] x found = absurd (grind arith)
found_at test (y ∷ ys) x found = at (λ later. found_at test ys x later) (test y) refl found
  where
    at : (find test ys ≡ Some x → Found test ys x) → (b : Bool) → test y ≡ b →
        cond b (Some y) (find test ys) ≡ Some x → Found test (y ∷ ys) x
    at more true passes found = record {
      ls = [];
      rs = ys;
      whole = ap (λ (z : Entry). z ∷ ys) (same_some y x found);
      left = rw passes refl;
    }
    at more false fails found =
        let later = more found in record {
          ls = y ∷ later.ls;
          rs = later.rs;
          whole = ap (λ (l : List Entry). y ∷ l) later.whole;
          left = rw fails (ap (λ (l : List Entry). y ∷ l) later.left);
        }

-- what is found is found among those of its key
found_kept : (p q : Entry → Bool) (xs : List Entry) (x : Entry) → find p xs ≡ Some x → q x ≡ true →
    find p (filter q xs) ≡ Some x
found_kept p q [] x found passes = found
found_kept p q (y ∷ ys) x found passes = at (λ later. found_kept p q ys x later passes) (p y) (q y) refl refl found
  where
    at : (find p ys ≡ Some x → find p (filter q ys) ≡ Some x) → (b c : Bool) → p y ≡ b → q y ≡ c →
        cond b (Some y) (find p ys) ≡ Some x → find p (cond c (y ∷ filter q ys) (filter q ys)) ≡ Some x
    at later true true is kept found = rw is found
    at later true false is lost found =
        absurd (false≢true (sym lost ∙ subst (λ (z : Entry). q z ≡ true) (sym (same_some y x found)) passes))
    at later false true other kept found = rw other (later found)
    at later false false other lost found = later found

-- the key of what waits at a number
key_of : Option Receive → Option Picks
key_of (Some (Waits ctx from t cap order before next)) = Some (record { from = from; tag = t; ctx = ctx })
key_of _ = None

-- each receive of a ring has its key
HaveKey : (ℕ → Option Receive) → Picks → List Entry → Type 0
HaveKey at k ys = AllByRecursion (λ (y : Entry). key_of (at y.1.number) ≡ Some k) ys

have_key : (at : ℕ → Option Receive) (k : Picks) (b n : ℕ) (ys : List Entry) → AreLinked at b n ys →
    AllByRecursion (λ (y : Entry). same_picks k (picks_of_post y.1) ≡ true) ys → HaveKey at k ys
unfolding HaveKey key_of
have_key at k b n [] links each = tt
have_key at k b n (y ∷ ys) links each = (
  ap (λ (o : Option Receive). key_of o) links.0
      ∙ ap (λ (l : Picks). Some l) (sym (same_picks-true k (picks_of_post y.1) each.0)),
  have_key at k y.1.number n ys links.1 each.1,
)

-- a number of one ring is of no receive of another one
other_ring : (at : ℕ → Option Receive) (k l : Picks) (m : ℕ) → same_picks k l ≡ false → key_of (at m) ≡ Some k →
    (ys : List Entry) → HaveKey at l ys → NoneHas m ys
unfolding HaveKey
other_ring at k l m apart here [] each = tt
other_ring at k l m apart here (y ∷ ys) each = (
  (λ same. false≢true (sym apart ∙ subst (λ (j : Picks). same_picks k j ≡ true)
      (same_some k l (sym here ∙ ap (λ (n : ℕ). key_of (at n)) same ∙ each.0)) (same_picks-self k))),
  other_ring at k l m apart here ys each.1,
)

module _ (at : ℕ → Option Receive) (x : Entry) (zs : List Entry) (ring : IsRing at (x ∷ zs)) where
  -- the one behind the first
  pub next_is : next_of x.1.number (at x.1.number) ≡ first_number x.1.number zs
  next_is = ap (λ (o : Option Receive). next_of x.1.number o) ring.0

  -- the one before the first is the last
  pub before_is : before_of x.1.number (at x.1.number) ≡ last_number x.1.number zs
  before_is = ap (λ (o : Option Receive). before_of x.1.number o) ring.0

-- without its first one a ring is a ring
shut : (at at' : ℕ → Option Receive) (x : Entry) → ((n : ℕ) → nat_eq x.1.number n ≡ false → at' n
    ≡ shut_out at x.1.number n) → (zs : List Entry) → Apart (x ∷ zs) → IsRing at (x ∷ zs) → IsRing at' zs
shut at at' x changed [] two ring = tt
shut at at' x changed (z ∷ zs) two ring =
    let next = next_is at x (z ∷ zs) ring in
    let before = before_is at x (z ∷ zs) ring in
    let tied : ℕ → Option Receive
    = ends_set at z.1.number (last_number z.1.number zs) (last_number z.1.number zs) z.1.number in
    linked_same tied at' (last_number z.1.number zs) z.1.number (z ∷ zs)
    (each_weaker (Two x) (λ (y : Entry). at' y.1.number ≡ tied y.1.number)
    (λ y other. changed y.1.number (other_number x.1.number y.1.number other)
    ∙ (λ i. ends_set at (next i) (before i) (before i) (next i) y.1.number)) (z ∷ zs) two.0)
    (ends_linked at x.1.number x.1.number (last_number z.1.number zs) z.1.number z zs two.1 ring.1)

-- the first number, after one has left
passed_front : (x : Entry) (ls rs : List Entry) → Apart (ls ++ x ∷ rs) →
    passed x.1.number (first_number x.1.number (rs ++ ls)) (front_number (ls ++ x ∷ rs)) ≡ front_number (ls ++ rs)
passed_front x [] [] two = rw (number_itself x.1.number) refl
passed_front x [] (r ∷ rs) two =
    rw (number_itself x.1.number, other_number r.1.number x.1.number (λ same. two.0.0 (sym same))) refl
passed_front x (l ∷ ls) rs two =
    rw (other_number l.1.number x.1.number (behind ls two.0)) refl
  where
    behind : (ms : List Entry) → AllByRecursion (Two l) (ms ++ x ∷ rs) → l.1.number ≢ x.1.number
    behind [] each = each.0
    behind (m ∷ ms) each = behind ms each.1

-- what is left of a ring after one has left it
module _ (at at' : ℕ → Option Receive) (x : Entry) (changed : (n : ℕ) → nat_eq x.1.number n ≡ false →
    at' n ≡ shut_out at x.1.number n) (ls rs : List Entry) (two : Apart (ls ++ x ∷ rs))
    (ring : IsRing at (ls ++ x ∷ rs)) where
  turned : IsRing at (x ∷ rs ++ ls)
  turned = ring_turned at ls (x ∷ rs) ring

  left_ring : IsRing at' (ls ++ rs)
  left_ring = ring_turned at' rs ls (shut at at' x changed (rs ++ ls) (apart_turned ls (x ∷ rs) two) turned)

  left_front : (front front' : Option ℕ) → front ≡ front_number (ls ++ x ∷ rs) →
      front' ≡ passed x.1.number (next_of x.1.number (at x.1.number)) front → front' ≡ front_number (ls ++ rs)
  left_front front front' was now =
      now ∙ (λ i. passed x.1.number (next_is at x (rs ++ ls) turned i) (was i)) ∙ passed_front x ls rs two

  -- its neighbours are of the same ring
  near : (k : Picks) → HaveKey at k (x ∷ rs ++ ls) →
      (key_of (at (next_of x.1.number (at x.1.number))) ≡ Some k)
      × (key_of (at (before_of x.1.number (at x.1.number))) ≡ Some k)
  unfolding HaveKey
  near k each = (
    subst (λ (m : ℕ). key_of (at m) ≡ Some k) (sym (next_is at x (rs ++ ls) turned)) (first (rs ++ ls) each.0 each.1),
    subst (λ (m : ℕ). key_of (at m) ≡ Some k) (sym (before_is at x (rs ++ ls) turned))
        (last_passes (λ (m : ℕ). key_of (at m) ≡ Some k) x (rs ++ ls) each),
  )
    where
      first : (zs : List Entry) → key_of (at x.1.number) ≡ Some k →
          AllByRecursion (λ (y : Entry). key_of (at y.1.number) ≡ Some k) zs →
          key_of (at (first_number x.1.number zs)) ≡ Some k
      first [] itself more = itself
      first (z ∷ zs) itself more = more.0

-- the keys of a ring that begins elsewhere
turn_keys : (at : ℕ → Option Receive) (k : Picks) (x : Entry) (ls rs : List Entry) → HaveKey at k (ls ++ x ∷ rs) →
    HaveKey at k (x ∷ rs ++ ls)
unfolding HaveKey
turn_keys at k x ls rs each =
    let parts = all_split (λ (y : Entry). key_of (at y.1.number) ≡ Some k) ls (x ∷ rs) each in
    all_append (λ (y : Entry). key_of (at y.1.number) ≡ Some k) (x ∷ rs) ls parts.1 parts.0

its_own : (at : ℕ → Option Receive) (k : Picks) (x : Entry) (zs : List Entry) → HaveKey at k (x ∷ zs) →
    key_of (at x.1.number) ≡ Some k
unfolding HaveKey
its_own at k x zs each = each.0

last_own : (at : ℕ → Option Receive) (k : Picks) (x : Entry) (zs : List Entry) → IsRing at (x ∷ zs) →
    HaveKey at k (x ∷ zs) → key_of (at (before_of x.1.number (at x.1.number))) ≡ Some k
unfolding HaveKey
last_own at k x zs ring each = subst (λ (m : ℕ). key_of (at m) ≡ Some k) (sym (before_is at x zs ring))
    (last_passes (λ (m : ℕ). key_of (at m) ≡ Some k) x zs each)

unchanged : (at at' : ℕ → Option Receive) (x : Entry) → ((n : ℕ) → nat_eq x.1.number n ≡ false →
    at' n ≡ shut_out at x.1.number n) → (ys : List Entry) → NoneHas x.1.number ys →
    AllByRecursion (λ (y : Entry). shut_out at x.1.number y.1.number ≡ at y.1.number) ys →
    AllByRecursion (λ (y : Entry). at' y.1.number ≡ at y.1.number) ys
unchanged at at' x changed [] none same = tt
unchanged at at' x changed (y ∷ ys) none same = (
  changed y.1.number (other_number x.1.number y.1.number none.0) ∙ same.0,
  unchanged at at' x changed ys none.1 same.1,
)

let_others : (at at' : ℕ → Option Receive) (x : Entry) (first : ℕ) → ((n : ℕ) → at' n ≡ let_in at x first n) →
    (ys : List Entry) → NoneHas x.1.number ys → NoneHas first ys → NoneHas (before_of first (at first)) ys →
    AllByRecursion (λ (y : Entry). at' y.1.number ≡ at y.1.number) ys
let_others at at' x first changed [] none no_first no_last = tt
let_others at at' x first changed (y ∷ ys) none no_first no_last = (
  changed y.1.number ∙ rw (
    other_number (before_of first (at first)) y.1.number no_last.0,
    other_number first y.1.number no_first.0,
    other_number x.1.number y.1.number none.0,
  ) refl,
  let_others at at' x first changed ys none.1 no_first.1 no_last.1,
)

-- a ring into which one has come last
come : (at at' : ℕ → Option Receive) (x : Entry) (ys : List Entry) → Apart ys → IsRing at ys →
    NoneHas x.1.number ys → before_of x.1.number (at x.1.number) ≡ x.1.number →
    ((n : ℕ) → at' n ≡ let_in at x (first_number x.1.number ys) n) → IsRing at' (ys ++ x ∷ [])
come at at' x [] two ring none alone changed =
    (changed x.1.number ∙ rw (alone, number_itself x.1.number) refl, tt)
come at at' x (y ∷ ys) two ring none alone changed =
    ring_turned at' (x ∷ []) (y ∷ ys) (
      changed x.1.number
          ∙ rw (
            other_number (before_of y.1.number (at y.1.number)) x.1.number (λ same. no_last (sym same)),
            other_number y.1.number x.1.number (λ same. none.0 (sym same)),
            number_itself x.1.number,
          )
          (ap (λ (m : ℕ). Some (waits_between x m y.1.number)) last),
      linked_same tied at' x.1.number x.1.number (y ∷ ys)
          (each (y ∷ ys))
          (ends_linked there (last_number y.1.number ys) y.1.number x.1.number x.1.number y ys two
          (linked_same at there (last_number y.1.number ys) y.1.number (y ∷ ys) (still (y ∷ ys) none) ring)),
    )
  where
    last : before_of y.1.number (at y.1.number) ≡ last_number y.1.number ys
    last = before_is at y ys ring

    no_last : x.1.number ≢ before_of y.1.number (at y.1.number)
    no_last same = last_passes (λ (m : ℕ). x.1.number ≢ m) y ys none (same ∙ last)

    there : ℕ → Option Receive
    there n = cond (nat_eq x.1.number n)
        (Some (waits_between x (before_of y.1.number (at y.1.number)) y.1.number)) (at n)

    tied : ℕ → Option Receive
    tied = ends_set there y.1.number x.1.number (last_number y.1.number ys) x.1.number

    each : (zs : List Entry) → AllByRecursion (λ (z : Entry). at' z.1.number ≡ tied z.1.number) zs
    each [] = tt
    each (z ∷ zs) = (
      changed z.1.number ∙ (λ i. ends_set there y.1.number x.1.number (last i) x.1.number z.1.number),
      each zs,
    )

    still : (zs : List Entry) → NoneHas x.1.number zs →
        AllByRecursion (λ (z : Entry). there z.1.number ≡ at z.1.number) zs
    still [] none = tt
    still (z ∷ zs) none = (rw (other_number x.1.number z.1.number none.0) refl, still zs none.1)

-- the first of a ring waits
pub first_waits : (at : ℕ → Option Receive) (o : Option ℕ) (b n : ℕ) (ys : List Entry) → o ≡ front_number ys →
    AreLinked at b n ys → waiting_at at o ≡ slice_get ys 0
first_waits at o b n [] same links = ap (λ (o : Option ℕ). waiting_at at o) same
first_waits at o b n (y ∷ ys) same links =
    ap (λ (o : Option ℕ). waiting_at at o) same ∙ ap (λ (r : Option Receive). waiting_of y.1.number r) links.0

-- what is under each key once a receive has left, and once one has come
abbrev pub taken_from : (Picks → List Entry) → Entry → Picks → List Entry
taken_from under x k =
    cond (same_picks (picks_of_post x.1) k) (remove_entry (is_at (nat_cmp x.0)) (under k)) (under k)

abbrev pub put_under : (Picks → List Entry) → Entry → Picks → List Entry
put_under under x k = cond (same_picks (picks_of_post x.1) k) (under k ++ x ∷ []) (under k)

module _ {queue : List Entry} {next : ℕ} {under : Picks → List Entry}
    (are : AreBuckets picks_of_post queue next under) (two : AllPairs Two queue) (front : Picks → Option ℕ)
    (at : ℕ → Option Receive) (rings : AreRings front at under) where
  its_key : (k : Picks) → HaveKey at k (under k)
  its_key k = have_key at k (last_number 0 (under k)) (first_number 0 (under k)) (under k) (rings k).1
      (subst (λ (l : List Entry). AllByRecursion (λ (y : Entry). same_picks k (picks_of_post y.1) ≡ true) l)
      (sym (are.holds k)) (each_passes (λ (y : Entry). same_picks k (picks_of_post y.1)) queue))

  apart_under : (k : Picks) → Apart (under k)
  apart_under k = subst (λ (l : List Entry). Apart l) (sym (are.holds k))
      (apart_pairs (filter (λ (y : Entry). same_picks k (picks_of_post y.1)) queue)
      (AllPairs-filter Two (λ (y : Entry). same_picks k (picks_of_post y.1)) queue two))

  -- after a receive has left
  pub rings_left : (test : Entry → Bool) (x : Entry) → find test queue ≡ Some x → (front' : Picks → Option ℕ)
      (at' : ℕ → Option Receive) →
      IsPassed (picks_of_post x.1) x.1.number (next_of x.1.number (at x.1.number)) front front' →
      ((n : ℕ) → nat_eq x.1.number n ≡ false → at' n ≡ shut_out at x.1.number n) →
      AreRings front' at' (taken_from under x)
  rings_left test x found front' at' passes changed = λ k. by_key k (same_picks key k) refl
    where
      key : Picks
      key = picks_of_post x.1

      kept : find (λ (y : Entry). x.0 == y.0) (under key) ≡ Some x
      kept = subst (λ (l : List Entry). find (λ (y : Entry). x.0 == y.0) l ≡ Some x) (sym (are.holds key))
          (found_kept (λ (y : Entry). x.0 == y.0) (λ (y : Entry). same_picks key (picks_of_post y.1)) queue x
          (order_found test queue x are.rising found) (same_picks-self key))

      parts : Found (λ (y : Entry). x.0 == y.0) (under key) x
      parts = found_at (λ (y : Entry). x.0 == y.0) (under key) x kept

      apart : Apart (parts.ls ++ x ∷ parts.rs)
      apart = subst (λ (l : List Entry). Apart l) parts.whole (apart_under key)

      ring : IsRing at (parts.ls ++ x ∷ parts.rs)
      ring = subst (λ (l : List Entry). IsRing at l) parts.whole (rings key).1

      own : (front' key ≡ front_number (remove_entry (is_at (nat_cmp x.0)) (under key)))
          × IsRing at' (remove_entry (is_at (nat_cmp x.0)) (under key))
      own = subst (λ (l : List Entry). (front' key ≡ front_number l) × IsRing at' l)
          (sym (entry_left x.0 (under key) ∙ parts.left)) (
            left_front at at' x changed parts.ls parts.rs apart ring (front key) (front' key)
                ((rings key).0 ∙ ap (λ (l : List Entry). front_number l) parts.whole) passes.0,
            left_ring at at' x changed parts.ls parts.rs apart ring,
          )

      keys : HaveKey at key (x ∷ parts.rs ++ parts.ls)
      keys = turn_keys at key x parts.ls parts.rs
          (subst (λ (l : List Entry). HaveKey at key l) parts.whole (its_key key))

      by_key : (k : Picks) (b : Bool) → same_picks key k ≡ b →
          (front' k ≡ front_number (taken_from under x k)) × IsRing at' (taken_from under x k)
      by_key k true same = subst (λ (k : Picks). (front' k ≡ front_number (taken_from under x k))
          × IsRing at' (taken_from under x k)) (same_picks-true key k same) (rw (same_picks-self key) own)
      by_key k false other =
          let close = near at at' x changed parts.ls parts.rs apart ring key keys in
          let none = other_ring at key k x.1.number other (its_own at key x (parts.rs ++ parts.ls) keys) (under k)
          (its_key k) in
          let same = ends_other at (next_of x.1.number (at x.1.number)) (before_of x.1.number (at x.1.number))
          (before_of x.1.number (at x.1.number)) (next_of x.1.number (at x.1.number)) (under k)
          (other_ring at key k (next_of x.1.number (at x.1.number)) other close.0 (under k) (its_key k))
          (other_ring at key k (before_of x.1.number (at x.1.number)) other close.1 (under k) (its_key k)) in
          rw other (
            passes.1 k other ∙ (rings k).0,
            linked_same at at' (last_number 0 (under k)) (first_number 0 (under k)) (under k)
                (unchanged at at' x changed (under k) none same) (rings k).1,
          )

  -- after a receive has come last
  pub rings_come : (x : Entry) → ((k : Picks) → NoneHas x.1.number (under k)) →
      before_of x.1.number (at x.1.number) ≡ x.1.number → (front' : Picks → Option ℕ) (at' : ℕ → Option Receive) →
      (first : ℕ) → first ≡ option_map_or (λ n. n) (front (picks_of_post x.1)) x.1.number →
      front' (picks_of_post x.1) ≡ Some first →
      ((k : Picks) → same_picks (picks_of_post x.1) k ≡ false → front' k ≡ front k) →
      ((n : ℕ) → at' n ≡ let_in at x first n) → AreRings front' at' (put_under under x)
  rings_come x none alone front' at' first is own others changed = λ k. by_key k (same_picks key k) refl
    where
      key : Picks
      key = picks_of_post x.1

      first_is : first ≡ first_number x.1.number (under key)
      first_is = is ∙ ap (λ (o : Option ℕ). option_map_or (λ n. n) o x.1.number) (rings key).0
          ∙ at_front (under key)
        where
          at_front : (l : List Entry) → option_map_or (λ n. n) (front_number l) x.1.number
              ≡ first_number x.1.number l
          at_front [] = refl
          at_front (y ∷ ys) = refl

      front_is : front' key ≡ front_number (under key ++ x ∷ [])
      front_is = own ∙ ap (λ (n : ℕ). Some n) first_is ∙ at_end (under key)
        where
          at_end : (l : List Entry) → Some (first_number x.1.number l) ≡ front_number (l ++ x ∷ [])
          at_end [] = refl
          at_end (y ∷ ys) = refl

      of_key : IsRing at' (under key ++ x ∷ [])
      of_key = come at at' x (under key) (apart_under key) (rings key).1 (none key) alone
          (λ n. changed n ∙ ap (λ (m : ℕ). let_in at x m n) first_is)

      by_key : (k : Picks) (b : Bool) → same_picks key k ≡ b →
          (front' k ≡ front_number (put_under under x k)) × IsRing at' (put_under under x k)
      by_key k true same = subst (λ (k : Picks). (front' k ≡ front_number (put_under under x k))
          × IsRing at' (put_under under x k)) (same_picks-true key k same)
          (rw (same_picks-self key) (front_is, of_key))
      by_key k false other = rw other (
        others k other ∙ (rings k).0,
        linked_same at at' (last_number 0 (under k)) (first_number 0 (under k)) (under k)
            (let_others at at' x first changed (under k) (none k) (ends (under key) refl).0 (ends (under key) refl).1)
            (rings k).1,
      )
        where
          -- the first and the last are of another ring, or the receive itself
          ends : (l : List Entry) → under key ≡ l →
              NoneHas first (under k) × NoneHas (before_of first (at first)) (under k)
          ends [] empty =
              let itself : first ≡ x.1.number
              = first_is ∙ ap (λ (l : List Entry). first_number x.1.number l) empty in
              subst (λ (m : ℕ). NoneHas m (under k) × NoneHas (before_of m (at m)) (under k)) (sym itself)
              (none k, subst (λ (m : ℕ). NoneHas m (under k)) (sym alone) (none k))
          ends (y ∷ ys) is =
              let theirs = subst (λ (l : List Entry). HaveKey at key l) is (its_key key) in
              let ring = subst (λ (l : List Entry). IsRing at l) is (rings key).1 in
              let itself : first ≡ y.1.number
              = first_is ∙ ap (λ (l : List Entry). first_number x.1.number l) is in
              subst (λ (m : ℕ). NoneHas m (under k) × NoneHas (before_of m (at m)) (under k)) (sym itself) (
                other_ring at key k y.1.number other (its_own at key y ys theirs) (under k) (its_key k),
                other_ring at key k (before_of y.1.number (at y.1.number)) other
                    (last_own at key y ys ring theirs) (under k) (its_key k),
              )

-- where no first number and nothing that is kept has changed
pub rings_same : (under : Picks → List Entry) (front front' : Picks → Option ℕ) (at at' : ℕ → Option Receive) →
    ((k : Picks) → front' k ≡ front k) → ((n : ℕ) → at' n ≡ at n) → AreRings front at under →
    AreRings front' at' under
rings_same under front front' at at' fronts receives rings = λ k. (
  fronts k ∙ (rings k).0,
  linked_same at at' (last_number 0 (under k)) (first_number 0 (under k)) (under k) (each (under k)) (rings k).1,
)
  where
    each : (ys : List Entry) → AllByRecursion (λ (y : Entry). at' y.1.number ≡ at y.1.number) ys
    each [] = tt
    each (y ∷ ys) = (receives y.1.number, each ys)
