-- A receive that is posted, and a message that comes, may be swapped.
use Rattle.std.proofs.Common.{◌≡◌, ℕ, zero, suc, ◌==◌, ◌&&◌, ◌||◌, not, Bool, true, false, cond, Option, Some, None, List, [], ◌∷◌}
use Rattle.std.proofs.Common.{◌++◌, append-nil, arith, refl, sym, ◌∙◌, ap, subst}
use Rattle.std.specs.Prelude.{if◌then◌else◌, nat_lt}
use Rattle.std.specs.List.{filter, find, list_any, slice_get}
use Rattle.std.proofs.lemmas.Bool.{false≢true}
use Rattle.std.proofs.lemmas.Bool.Decides.{nat_tests}
use Rattle.std.proofs.lemmas.List.Elements.{filter-append}
use Rattle.std.proofs.lemmas.List.Folds.{list_any-append}
use Rattle.nm_types.specs.declared.messages.Arrival.{Arrival}
use Rattle.nm_history.specs.declared.plain.Pair.{Pair}
use Rattle.nm_history.specs.Matching.{is_of_message, is_of_receive}
use Rattle.nm_history.specs.Selection.{matches}
use Rattle.nm_match.specs.Deeds.{is_message}
use Rattle.nm_lookups.specs.Queues.{without_message}
use Rattle.nm_types.proofs.NumberLemmas.{eq_true, same_number}
use Rattle.nm_types.proofs.OptionLemmas.{no_some, same_some}
use Rattle.nm_types.proofs.TruthLemmas.{neither, same_test}
use Rattle.nm_outcomes.specs.Places.{or_else}
use Rattle.nm_outcomes.proofs.PlaceLemmas.{find-append}
use Rattle.nm_outcomes.specs.declared.spots.deeds.Deed.{Deed}
use Rattle.nm_outcomes.specs.declared.spots.deeds.Deed.TheVariants as deed
use Rattle.nm_outcomes.specs.declared.spots.deeds.Receive.{Receive}
use Rattle.nm_outcomes.specs.RankStates.{Spot, arrived_at, arrived_by, is_cancel_by, is_claim_by, is_closed_at, is_gone_at}
use Rattle.nm_outcomes.specs.RankStates.{is_that, message_of_spot, placed, placed_new, posted_at, receive_of_spot, spot_after, with_arrival}
use Rattle.nm_outcomes.specs.RankStates.{with_pair, without_number}
use Rattle.nm_outcomes.proofs.ListLemmas.{any-placed, any-placed_new}
use Rattle.nm_search.specs.Lists.{Has}
use Rattle.nm_explored.specs.Orderly.{is_numbered}

-- lists in which nothing passes a test
pub none_has : {X : Type 0} (test : X → Bool) (xs : List X) (x : X) → list_any test xs ≡ false → Has xs x →
    test x ≡ false
none_has test [] x none at = absurd (no_some x at.1)
none_has {X} test (y ∷ ys) x none at = by_place at.0 at.1 (none_has test ys x parts.1)
  where
    parts : (test y ≡ false) × (list_any test ys ≡ false)
    parts = neither (test y) (list_any test ys) none

    by_place : (k : ℕ) → slice_get (y ∷ ys) k ≡ Some x → (Has ys x → test x ≡ false) → test x ≡ false
    by_place zero here later = subst (λ (z : X). test z ≡ false) (same_some y x here) parts.0
    by_place (suc k) here later = later (k, here)

pub found_has : {X : Type 0} (test : X → Bool) (xs : List X) (x : X) → find test xs ≡ Some x → Has xs x
found_has test [] x found = absurd (no_some x found)
found_has {X} test (y ∷ ys) x found = by_test (test y) found (found_has test ys x)
  where
    by_test : (b : Bool) → cond b (Some y) (find test ys) ≡ Some x → (find test ys ≡ Some x → Has ys x) → Has (y ∷ ys) x
    by_test true found later = (0, found)
    by_test false found later = let at = later found in (suc at.0, at.1)

pub none_push : {X : Type 0} (test : X → Bool) (xs : List X) (y : X) → list_any test xs ≡ false → test y ≡ false →
    list_any test (xs ++ y ∷ []) ≡ false
none_push test xs y none other =
    list_any-append test xs (y ∷ []) ∙ ap (λ (b : Bool). b || (test y || false)) none
    ∙ ap (λ (b : Bool). b || false) other

pub none_placed : {X : Type 0} (same test behind : X → Bool) (x : X) (xs : List X) → list_any test xs ≡ false →
    test x ≡ false → list_any test (placed_new same behind x xs) ≡ false
none_placed same test behind x xs none other =
    any-placed_new same test behind x xs ∙ ap (λ (b : Bool). b || (test x || false)) none
    ∙ ap (λ (b : Bool). b || false) other

pub turned : (a b : ℕ) → (a == b) ≡ (b == a)
turned a b =
    same_test (a == b) (b == a) (λ is. eq_true b a (sym (same_number a b is)))
    (λ is. eq_true a b (sym (same_number b a is)))

pub self_is : (a : ℕ) → (a == a) ≡ true
self_is a = eq_true a a refl

-- three truth values of which none is true
pub three_none : (a b c : Bool) → (a || b || c) ≡ false → (a ≡ false) × (b ≡ false) × (c ≡ false)
three_none false false false none = (refl, refl, refl)
three_none true true true none = absurd (false≢true (sym none))
three_none true true false none = absurd (false≢true (sym none))
three_none true false true none = absurd (false≢true (sym none))
three_none true false false none = absurd (false≢true (sym none))
three_none false true true none = absurd (false≢true (sym none))
three_none false true false none = absurd (false≢true (sym none))
three_none false false true none = absurd (false≢true (sym none))

pub none_of_three : (a b c : Bool) → a ≡ false → b ≡ false → c ≡ false → (a || b || c) ≡ false
none_of_three true b c x y z = absurd (false≢true (sym x))
none_of_three false true c x y z = absurd (false≢true (sym y))
none_of_three false false true x y z = absurd (false≢true (sym z))
none_of_three false false false x y z = refl

if_true : {X : Type 0} (b : Bool) (x y : X) → b ≡ true → cond b x y ≡ x
if_true b x y is = ap (λ (c : Bool). cond c x y) is

if_false : {X : Type 0} (b : Bool) (x y : X) → b ≡ false → cond b x y ≡ y
if_false b x y is = ap (λ (c : Bool). cond c x y) is

-- two elements that are put at their places
module _ {X : Type 0} (less : X → X → Bool) (x y : X) (first : less x y ≡ true) (last : less y x ≡ false)
    (along : (z : X) → less y z ≡ true → less x z ≡ true)
  where
    abbrev one : List X → List X
    one zs = placed (less x) x zs

    abbrev two : List X → List X
    two zs = placed (less y) y zs

    pub placed_swap : (zs : List X) → placed (less y) y (placed (less x) x zs) ≡ placed (less x) x
        (placed (less y) y zs)
    placed_swap [] =
        if_false (less y x) (y ∷ x ∷ []) (x ∷ y ∷ []) last ∙ sym (if_true (less x y) (x ∷ y ∷ []) (y ∷ x ∷ []) first)
    placed_swap (z ∷ zs) = by_place (less x z) (less y z) refl refl (placed_swap zs)
      where
        by_place : (a b : Bool) → less x z ≡ a → less y z ≡ b → two (one zs) ≡ one (two zs) →
            placed (less y) y (cond a (x ∷ z ∷ zs) (z ∷ one zs)) ≡ placed (less x) x (cond b (y ∷ z ∷ zs) (z ∷ two zs))
        by_place true true is_x is_y later =
            if_false (less y x) (y ∷ x ∷ z ∷ zs) (x ∷ two (z ∷ zs)) last
            ∙ ap (λ (ws : List X). x ∷ ws) (if_true (less y z) (y ∷ z ∷ zs) (z ∷ two zs) is_y)
            ∙ sym (if_true (less x y) (x ∷ y ∷ z ∷ zs) (y ∷ one (z ∷ zs)) first)
        by_place true false is_x is_y later =
            if_false (less y x) (y ∷ x ∷ z ∷ zs) (x ∷ two (z ∷ zs)) last
            ∙ ap (λ (ws : List X). x ∷ ws) (if_false (less y z) (y ∷ z ∷ zs) (z ∷ two zs) is_y)
            ∙ sym (if_true (less x z) (x ∷ z ∷ two zs) (z ∷ one (two zs)) is_x)
        by_place false true is_x is_y later = absurd (false≢true (sym is_x ∙ along z is_y))
        by_place false false is_x is_y later =
            if_false (less y z) (y ∷ z ∷ one zs) (z ∷ two (one zs)) is_y ∙ ap (λ (ws : List X). z ∷ ws) later
            ∙ sym (if_false (less x z) (x ∷ z ∷ two zs) (z ∷ one (two zs)) is_x)

-- .. where each is new
module _ {X : Type 0} (same : X → X → Bool) (less : X → X → Bool) (xs : List X) (x y : X)
    (new_x : list_any (same x) xs ≡ false) (new_y : list_any (same y) xs ≡ false) (differ : same x y ≡ false)
    (differs : same y x ≡ false)
  where
    abbrev put : X → List X → List X
    put z zs = placed_new (same z) (less z) z zs

    new_put : (z : X) (zs : List X) → list_any (same z) zs ≡ false → put z zs ≡ placed (less z) z zs
    new_put z zs new = if_false (list_any (same z) zs) (zs ++ z ∷ []) (placed (less z) z zs) new

    pub put_swap : less x y ≡ true → less y x ≡ false → ((z : X) → less y z ≡ true → less x z ≡ true) →
        put y (put x xs) ≡ put x (put y xs)
    put_swap first last along =
        ap (λ (zs : List X). put y zs) (new_put x xs new_x)
        ∙ new_put y (placed (less x) x xs) (none_put x y new_y differs)
        ∙ placed_swap less x y first last along xs
        ∙ sym (new_put x (placed (less y) y xs) (none_put y x new_x differ))
        ∙ sym (ap (λ (zs : List X). put x zs) (new_put y xs new_y))
      where
        none_put : (z w : X) → list_any (same w) xs ≡ false → same w z ≡ false →
            list_any (same w) (placed (less z) z xs) ≡ false
        none_put z w none other =
            any-placed (same w) (less z) z xs ∙ ap (λ (b : Bool). b || (same w z || false)) none
            ∙ ap (λ (b : Bool). b || false) other

-- two pairs of receives that have none yet
pub pairs_swap : (p q : Pair) (pairs : List Pair) → list_any (is_of_receive p.number) pairs ≡ false →
    list_any (is_of_receive q.number) pairs ≡ false → (p.number == q.number) ≡ false →
    with_pair q (with_pair p pairs) ≡ with_pair p (with_pair q pairs)
pairs_swap p q pairs new_p new_q other = by_order (nat_lt p.number q.number) refl
  where
    reverse : (q.number == p.number) ≡ false
    reverse = turned q.number p.number ∙ other

    not_less : (a b : ℕ) → nat_lt a b ≡ true → nat_lt b a ≡ false
    not_less a b is = grind (arith, nat_tests)

    less_then : (a b c : ℕ) → nat_lt a b ≡ true → nat_lt b c ≡ true → nat_lt a c ≡ true
    less_then a b c one two = grind (arith, nat_tests)

    more : (a b : ℕ) → nat_lt a b ≡ false → (a == b) ≡ false → nat_lt b a ≡ true
    more a b is apart = grind (arith, nat_tests)

    by_order : (b : Bool) → nat_lt p.number q.number ≡ b →
        with_pair q (with_pair p pairs) ≡ with_pair p (with_pair q pairs)
    by_order true is =
        put_swap (λ (a b : Pair). is_of_receive a.number b) (λ (a b : Pair). nat_lt a.number b.number) pairs p q new_p
        new_q reverse other is (not_less p.number q.number is)
        (λ z later. less_then p.number q.number z.number is later)
    by_order false is =
        let lt : nat_lt q.number p.number ≡ true = more p.number q.number is other in
        sym (put_swap (λ (a b : Pair). is_of_receive a.number b) (λ (a b : Pair). nat_lt a.number b.number) pairs q p
        new_q new_p other reverse lt is
        (λ z later. less_then q.number p.number z.number lt later))

-- what is found is found without others
pub find_still : {X : Type 0} (p q : X → Bool) (xs : List X) (x : X) → find p xs ≡ Some x → q x ≡ true →
    find p (filter q xs) ≡ Some x
find_still p q [] x found keeps = absurd (no_some x found)
find_still {X} p q (y ∷ ys) x found keeps =
    by_both (p y) (q y) refl refl found (λ found. find_still p q ys x found keeps)
  where
    by_both : (a b : Bool) → p y ≡ a → q y ≡ b → cond a (Some y) (find p ys) ≡ Some x →
        (find p ys ≡ Some x → find p (filter q ys) ≡ Some x) →
        find p (cond b (y ∷ filter q ys) (filter q ys)) ≡ Some x
    by_both true true one two found later = ap (λ (c : Bool). cond c (Some y) (find p (filter q ys))) one ∙ found
    by_both true false one two found later =
        absurd (false≢true (sym two ∙ ap q (same_some y x found) ∙ keeps))
    by_both false true one two found later =
        ap (λ (c : Bool). cond c (Some y) (find p (filter q ys))) one ∙ later found
    by_both false false one two found later = later found

-- two receives that are left out
pub both_left : (a b : ℕ) (rs : List Receive) → without_number a (without_number b rs) ≡ without_number b
    (without_number a rs)
both_left a b [] = refl
both_left a b (r ∷ rs) = by_both (a == r.number) (b == r.number) refl refl (both_left a b rs)
  where
    by_both : (c d : Bool) → (a == r.number) ≡ c → (b == r.number) ≡ d →
        without_number a (without_number b rs) ≡ without_number b (without_number a rs) →
        without_number a (if not d then r ∷ without_number b rs else without_number b rs)
        ≡ without_number b (if not c then r ∷ without_number a rs else without_number a rs)
    by_both true true one two later = later
    by_both true false one two later =
        ap (λ (e : Bool). if not e then r ∷ without_number a (without_number b rs)
        else without_number a (without_number b rs)) one ∙ later
    by_both false true one two later =
        later ∙ sym (ap (λ (e : Bool). if not e then r ∷ without_number b (without_number a rs)
        else without_number b (without_number a rs)) two)
    by_both false false one two later =
        ap (λ (e : Bool). if not e then r ∷ without_number a (without_number b rs)
        else without_number a (without_number b rs)) one
        ∙ ap (λ (qs : List Receive). r ∷ qs) later
        ∙ sym (ap (λ (e : Bool). if not e then r ∷ without_number b (without_number a rs)
        else without_number b (without_number a rs)) two)

-- what is new is not left out
without_new : (number : ℕ) (rs : List Receive) → list_any (is_numbered number) rs ≡ false →
    without_number number rs ≡ rs
without_new number [] none = refl
without_new number (r ∷ rs) none =
    let parts = neither (r.number == number) (list_any (is_numbered number) rs) none in
    ap (λ (b : Bool). if not b then r ∷ without_number number rs else without_number number rs)
    (turned number r.number ∙ parts.0)
    ∙ ap (λ (qs : List Receive). r ∷ qs) (without_new number rs parts.1)

free_without_new : (from n : ℕ) (ms : List Arrival) → list_any (is_message from n) ms ≡ false →
    without_message from n ms ≡ ms
free_without_new from n [] none = refl
free_without_new from n (m ∷ ms) none =
    let parts = neither (is_message from n m) (list_any (is_message from n) ms) none in
    ap (λ (b : Bool). if not b then m ∷ without_message from n ms else without_message from n ms) parts.0
    ∙ ap (λ (qs : List Arrival). m ∷ qs) (free_without_new from n ms parts.1)

abbrev pub pair_for : Receive → Arrival → Pair
pair_for o m = record { number = o.number; cap = o.cap; arrival = m }

-- the state after a receive was posted, and found this message or none
abbrev pub posted : Receive → ℕ → Spot → Option Arrival → Spot
posted r line y None = record y { deeds = y.deeds ++ deed.Post r line ∷ []; receives = y.receives ++ r ∷ [] }
posted r line y (Some m) = record y {
  deeds = y.deeds ++ deed.Post r line ∷ [];
  free = without_message m.env.from m.n y.free;
  pairs = with_pair (pair_for r m) y.pairs;
}

pub posts_found : (r : Receive) (line : ℕ) (y : Spot) (m : Arrival) → message_of_spot y r ≡ Some m →
    spot_after y (deed.Post r line) ≡ posted r line y (Some m)
posts_found r line y m is =
    ap (λ (o : Option Arrival). let s = posted_at y r o in record s { deeds = s.deeds ++ deed.Post r line ∷ [] }) is

pub posts_open : (r : Receive) (line : ℕ) (y : Spot) → message_of_spot y r ≡ None → is_closed_at y r.number ≡ false →
    spot_after y (deed.Post r line) ≡ posted r line y None
posts_open r line y is open_is =
    ap (λ (o : Option Arrival). let s = posted_at y r o in record s { deeds = s.deeds ++ deed.Post r line ∷ [] }) is
    ∙ ap (λ (b : Bool). let s = cond b y (record y { receives = y.receives ++ r ∷ [] }) in
    record s { deeds = s.deeds ++ deed.Post r line ∷ [] }) open_is

-- .. and after a message came, and went to this receive or to none
abbrev pub arrived : Arrival → Spot → Option Receive → Spot
arrived a y None = record y { free = y.free ++ a ∷ []; came = with_arrival a y.came }
arrived a y (Some o) = record y {
  receives = without_number o.number y.receives;
  pairs = with_pair (pair_for o a) y.pairs;
  came = with_arrival a y.came;
}

pub arrives_at : (a : Arrival) (y : Spot) (o : Receive) → receive_of_spot y a ≡ Some o →
    arrived_at y a ≡ arrived a y (Some o)
arrives_at a y o is =
    ap (λ (o : Option Receive). let s = arrived_by y a o in record s { came = with_arrival a s.came }) is

pub arrives_free : (a : Arrival) (y : Spot) → receive_of_spot y a ≡ None → is_gone_at y a.env.from a.n ≡ false →
    arrived_at y a ≡ arrived a y None
arrives_free a y is gone_is =
    ap (λ (o : Option Receive). let s = arrived_by y a o in record s { came = with_arrival a s.came }) is
    ∙ ap (λ (b : Bool). let s = cond b y (record y { free = y.free ++ a ∷ [] }) in
    record s { came = with_arrival a s.came }) gone_is

module _ (x : Spot) (r : Receive) (line : ℕ) (a : Arrival)
    (new_open : list_any (is_numbered r.number) x.receives ≡ false)
    (new_pair : list_any (is_of_receive r.number) x.pairs ≡ false)
    (stays : list_any (is_cancel_by r.number) x.deeds ≡ false)
    (new_free : list_any (is_message a.env.from a.n) x.free ≡ false)
    (not_gone : is_gone_at x a.env.from a.n ≡ false)
    (alone : (o : Receive) → Has x.receives o → list_any (is_of_receive o.number) x.pairs ≡ false)
  where
    abbrev post : Deed
    post = deed.Post r line

    parts : (list_any (is_of_message a.env.from a.n) x.pairs ≡ false)
        × (list_any (is_claim_by a.env.from a.n) x.deeds ≡ false)
        × (list_any (is_that a.env.from a.n) x.withdrawn ≡ false)
    parts =
        three_none (list_any (is_of_message a.env.from a.n) x.pairs) (list_any (is_claim_by a.env.from a.n) x.deeds)
        (list_any (is_that a.env.from a.n) x.withdrawn) not_gone

    -- the message is not gone behind the receive
    not_gone_behind : (pairs : List Pair) → list_any (is_of_message a.env.from a.n) pairs ≡ false →
        (list_any (is_of_message a.env.from a.n) pairs
        || list_any (is_claim_by a.env.from a.n) (x.deeds ++ post ∷ [])
        || list_any (is_that a.env.from a.n) x.withdrawn) ≡ false
    not_gone_behind pairs none =
        none_of_three (list_any (is_of_message a.env.from a.n) pairs)
        (list_any (is_claim_by a.env.from a.n) (x.deeds ++ post ∷ []))
        (list_any (is_that a.env.from a.n) x.withdrawn) none
        (none_push (is_claim_by a.env.from a.n) x.deeds post parts.1 refl) parts.2

    open_at : (pairs : List Pair) → list_any (is_of_receive r.number) pairs ≡ false →
        (list_any (is_of_receive r.number) pairs || list_any (is_cancel_by r.number) x.deeds) ≡ false
    open_at pairs none =
        ap (λ (b : Bool). b || list_any (is_cancel_by r.number) x.deeds) none ∙ stays

    abbrev IsSwap : Option Arrival → Option Receive → Type 0
    IsSwap m o = arrived_at (posted r line x m) a ≡ spot_after (arrived a x o) post

    -- an older receive has another number, and an older message is another one
    other_number : (o : Receive) → receive_of_spot x a ≡ Some o → (o.number == r.number) ≡ false
    other_number o to =
        none_has (is_numbered r.number) x.receives o new_open
        (found_has (λ (o : Receive). matches o.from o.tag o.ctx a.env) x.receives o to)

    other_message : (m : Arrival) → message_of_spot x r ≡ Some m → is_message a.env.from a.n m ≡ false
    other_message m of =
        none_has (is_message a.env.from a.n) x.free m new_free
        (found_has (λ (m : Arrival). matches r.from r.tag r.ctx m.env) x.free m of)

    both_older : (m : Arrival) (o : Receive) → message_of_spot x r ≡ Some m → receive_of_spot x a ≡ Some o →
        IsSwap (Some m) (Some o)
    both_older m o of to =
        arrives_at a (posted r line x (Some m)) o to
        ∙ ap (λ (ps : List Pair). record {
          deeds = x.deeds ++ post ∷ [];
          receives = without_number o.number x.receives;
          free = without_message m.env.from m.n x.free;
          pairs = ps;
          came = with_arrival a x.came;
          withdrawn = x.withdrawn;
        })
        (pairs_swap (pair_for r m) (pair_for o a) x.pairs new_pair
        (alone o (found_has (λ (o : Receive). matches o.from o.tag o.ctx a.env) x.receives o to))
        (turned r.number o.number ∙ other_number o to))
        ∙ sym (posts_found r line (arrived a x (Some o)) m of)

    older_receive : (o : Receive) → message_of_spot x r ≡ None → receive_of_spot x a ≡ Some o → IsSwap None (Some o)
    older_receive o of to =
        arrives_at a (posted r line x None) o
        (find-append (λ (o : Receive). matches o.from o.tag o.ctx a.env) x.receives (r ∷ [])
        ∙ ap (λ (p : Option Receive). or_else p (find (λ (o : Receive). matches o.from o.tag o.ctx a.env) (r ∷ []))) to)
        ∙ ap (λ (rs : List Receive). record {
          deeds = x.deeds ++ post ∷ [];
          receives = rs;
          free = x.free;
          pairs = with_pair (pair_for o a) x.pairs;
          came = with_arrival a x.came;
          withdrawn = x.withdrawn;
        })
        (filter-append (λ (q : Receive). not (o.number == q.number)) x.receives (r ∷ [])
        ∙ ap (λ (b : Bool). without_number o.number x.receives ++ (if not b then r ∷ [] else [])) (other_number o to))
        ∙ sym (posts_open r line (arrived a x (Some o)) of
        (open_at (with_pair (pair_for o a) x.pairs)
        (none_placed (is_of_receive o.number) (is_of_receive r.number) (λ p. nat_lt o.number p.number) (pair_for o a)
        x.pairs new_pair (other_number o to))))

    older_message : (m : Arrival) → message_of_spot x r ≡ Some m → receive_of_spot x a ≡ None → IsSwap (Some m) None
    older_message m of to =
        arrives_free a (posted r line x (Some m)) to
        (not_gone_behind (with_pair (pair_for r m) x.pairs)
        (none_placed (is_of_receive r.number) (is_of_message a.env.from a.n) (λ p. nat_lt r.number p.number)
        (pair_for r m) x.pairs parts.0 (other_message m of)))
        ∙ ap (λ (ms : List Arrival). record {
          deeds = x.deeds ++ post ∷ [];
          receives = x.receives;
          free = ms;
          pairs = with_pair (pair_for r m) x.pairs;
          came = with_arrival a x.came;
          withdrawn = x.withdrawn;
        })
        (sym (filter-append (λ (q : Arrival). not (is_message m.env.from m.n q)) x.free (a ∷ [])
        ∙ ap (λ (b : Bool). without_message m.env.from m.n x.free ++ (if not b then a ∷ [] else []))
        (swapped_test ∙ other_message m of)))
        ∙ sym (posts_found r line (arrived a x None) m
        (find-append (λ (m : Arrival). matches r.from r.tag r.ctx m.env) x.free (a ∷ [])
        ∙ ap (λ (p : Option Arrival). or_else p (find (λ (m : Arrival). matches r.from r.tag r.ctx m.env) (a ∷ [])))
        of))
      where
        swapped_test : is_message m.env.from m.n a ≡ is_message a.env.from a.n m
        swapped_test =
            ap (λ (b : Bool). b && a.n == m.n) (turned a.env.from m.env.from)
            ∙ ap (λ (b : Bool). (m.env.from == a.env.from) && b) (turned a.n m.n)

    one_another : message_of_spot x r ≡ None → receive_of_spot x a ≡ None → matches r.from r.tag r.ctx a.env ≡ true →
        IsSwap None None
    one_another of to so =
        arrives_at a (posted r line x None) r
        (find-append (λ (o : Receive). matches o.from o.tag o.ctx a.env) x.receives (r ∷ [])
        ∙ ap (λ (p : Option Receive). or_else p (find (λ (o : Receive). matches o.from o.tag o.ctx a.env) (r ∷ []))) to
        ∙ if_true (matches r.from r.tag r.ctx a.env) (Some r) None so)
        ∙ ap (λ (rs : List Receive). record {
          deeds = x.deeds ++ post ∷ [];
          receives = rs;
          free = x.free;
          pairs = with_pair (pair_for r a) x.pairs;
          came = with_arrival a x.came;
          withdrawn = x.withdrawn;
        })
        (filter-append (λ (q : Receive). not (r.number == q.number)) x.receives (r ∷ [])
        ∙ ap (λ (b : Bool). without_number r.number x.receives ++ (if not b then r ∷ [] else [])) (self_is r.number)
        ∙ append-nil (without_number r.number x.receives) ∙ without_new r.number x.receives new_open)
        ∙ ap (λ (ms : List Arrival). record {
          deeds = x.deeds ++ post ∷ [];
          receives = x.receives;
          free = ms;
          pairs = with_pair (pair_for r a) x.pairs;
          came = with_arrival a x.came;
          withdrawn = x.withdrawn;
        })
        (sym (filter-append (λ (q : Arrival). not (is_message a.env.from a.n q)) x.free (a ∷ [])
        ∙ ap (λ (b : Bool). without_message a.env.from a.n x.free ++ (if not b then a ∷ [] else [])) own
        ∙ append-nil (without_message a.env.from a.n x.free)
        ∙ free_without_new a.env.from a.n x.free new_free))
        ∙ sym (posts_found r line (arrived a x None) a
        (find-append (λ (m : Arrival). matches r.from r.tag r.ctx m.env) x.free (a ∷ [])
        ∙ ap (λ (p : Option Arrival). or_else p (find (λ (m : Arrival). matches r.from r.tag r.ctx m.env) (a ∷ []))) of
        ∙ if_true (matches r.from r.tag r.ctx a.env) (Some a) None so))
      where
        own : is_message a.env.from a.n a ≡ true
        own =
            ap (λ (b : Bool). b && a.n == a.n) (self_is a.env.from) ∙ self_is a.n

    neither_other : message_of_spot x r ≡ None → receive_of_spot x a ≡ None → matches r.from r.tag r.ctx a.env ≡ false →
        IsSwap None None
    neither_other of to so =
        arrives_free a (posted r line x None)
        (find-append (λ (o : Receive). matches o.from o.tag o.ctx a.env) x.receives (r ∷ [])
        ∙ ap (λ (p : Option Receive). or_else p (find (λ (o : Receive). matches o.from o.tag o.ctx a.env) (r ∷ []))) to
        ∙ if_false (matches r.from r.tag r.ctx a.env) (Some r) None so)
        (not_gone_behind x.pairs parts.0)
        ∙ sym (posts_open r line (arrived a x None)
        (find-append (λ (m : Arrival). matches r.from r.tag r.ctx m.env) x.free (a ∷ [])
        ∙ ap (λ (p : Option Arrival). or_else p (find (λ (m : Arrival). matches r.from r.tag r.ctx m.env) (a ∷ []))) of
        ∙ if_false (matches r.from r.tag r.ctx a.env) (Some a) None so)
        (open_at x.pairs new_pair))

    -- the message comes behind the receive as it does before it
    pub post_behind : arrived_at (spot_after x post) a ≡ spot_after (arrived_at x a) post
    post_behind = by_both (message_of_spot x r) (receive_of_spot x a) refl refl
      where
        before : (m : Option Arrival) → message_of_spot x r ≡ m → spot_after x post ≡ posted r line x m
        before None is = posts_open r line x is (open_at x.pairs new_pair)
        before (Some m) is = posts_found r line x m is

        behind : (o : Option Receive) → receive_of_spot x a ≡ o → arrived_at x a ≡ arrived a x o
        behind None is = arrives_free a x is not_gone
        behind (Some o) is = arrives_at a x o is

        by_match : (b : Bool) → matches r.from r.tag r.ctx a.env ≡ b → message_of_spot x r ≡ None →
            receive_of_spot x a ≡ None → IsSwap None None
        by_match true so of to = one_another of to so
        by_match false so of to = neither_other of to so

        swap : (m : Option Arrival) (o : Option Receive) → message_of_spot x r ≡ m → receive_of_spot x a ≡ o →
            IsSwap m o
        swap (Some m) (Some o) of to = both_older m o of to
        swap None (Some o) of to = older_receive o of to
        swap (Some m) None of to = older_message m of to
        swap None None of to = by_match (matches r.from r.tag r.ctx a.env) refl of to

        by_both : (m : Option Arrival) (o : Option Receive) → message_of_spot x r ≡ m → receive_of_spot x a ≡ o →
            arrived_at (spot_after x post) a ≡ spot_after (arrived_at x a) post
        by_both m o of to =
            ap (λ (y : Spot). arrived_at y a) (before m of) ∙ swap m o of to
            ∙ sym (ap (λ (y : Spot). spot_after y post) (behind o to))
