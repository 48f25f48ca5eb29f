-- A queue in buckets: what is found in it, and what is left after each change.
use Rattle.std.proofs.Common.{◌≡◌, ℕ, suc, ◌<◌, ◌≤◌, Bool, true, false, ◌||◌}
use Rattle.std.proofs.Common.{cond, Option, Some, None, List, [], ◌∷◌, ◌++◌, map}
use Rattle.std.proofs.Common.{refl, sym, ◌∙◌, ap, subst, append-nil, arith, slice_get, get_or}
use Rattle.std.proofs.lemmas.List.{length-map, get_or-map}
use Rattle.std.specs.Prelude.{nat_le, AllPairs}
use Rattle.std.specs.List.{All, filter, find}
use Rattle.std.specs.Option.{option_map}
use Rattle.std.proofs.lemmas.Bool.{false≢true}
use Rattle.std.proofs.lemmas.Bool.Decides.{nat_tests}
use Rattle.std.proofs.lemmas.List.Elements.{All-head, All-tail, All-cons, All-push, All-weaker}
use Rattle.std.proofs.lemmas.List.Elements.{filter-append}
use Rattle.nm_history.proofs.OnceLemmas.{find_among}
use Rattle.nm_match.specs.declared.picks.Picks.{Picks}
use Rattle.nm_match.specs.Buckets.{AreBuckets, IsPutLast, Rising, earlier_of}
use Rattle.nm_match.specs.Picks.{same_picks}
use Rattle.nm_match.specs.Queues.{without_first}
use Rattle.nm_match.specs.SameKeys.{same_picks-flip, same_picks-self, same_picks-true}

-- what was put last in a bucket was put last in one with the same entries
pub same_put : {X : Type 0} (order : ℕ) (item : X) {before was after now : List (ℕ × X)} → was ≡ before →
    now ≡ after → IsPutLast order item before after → IsPutLast order item was now
same_put {X} order item first second put = λ below.
    second ∙ put (subst (λ (l : List (ℕ × X)). All (λ (x : ℕ × X). x.0 < order) l) first below)
    ∙ ap (λ (l : List (ℕ × X)). l ++ (order, item) ∷ []) (sym first)

module _ {X : Type 0} (p q : X → Bool) where
  gone_here_at : (y : X) (ys : List X) (x : X) (b c : Bool) → p y ≡ b → q y ≡ c → q x ≡ true →
      cond b (Some y) (find p ys) ≡ Some x →
      (find p ys ≡ Some x → filter q (without_first p ys) ≡ without_first p (filter q ys)) →
      filter q (cond b ys (y ∷ without_first p ys)) ≡ without_first p (cond c (y ∷ filter q ys) (filter q ys))
  gone_here_at y ys x true true py qy qx found later = rw py refl
  gone_here_at y ys x true false py qy qx found later =
      let same : y ≡ x = cc in absurd (false≢true (sym qy ∙ ap q same ∙ qx))
  gone_here_at y ys x false true py qy qx found later = rw (py, qy) (ap (λ (zs : List X). y ∷ zs) (later found))
  gone_here_at y ys x false false py qy qx found later = rw qy (later found)

  -- the first that passes leaves what it belongs to
  pub gone_here : (xs : List X) (x : X) → find p xs ≡ Some x → q x ≡ true →
      filter q (without_first p xs) ≡ without_first p (filter q xs)
  gone_here [] x found qx = refl
  gone_here (y ∷ ys) x found qx = gone_here_at y ys x (p y) (q y) refl refl qx found
      (λ later. gone_here ys x later qx)

  gone_there_at : (y : X) (ys : List X) (x : X) (b c : Bool) → p y ≡ b → q y ≡ c → q x ≡ false →
      cond b (Some y) (find p ys) ≡ Some x →
      (find p ys ≡ Some x → filter q (without_first p ys) ≡ filter q ys) →
      filter q (cond b ys (y ∷ without_first p ys)) ≡ cond c (y ∷ filter q ys) (filter q ys)
  gone_there_at y ys x true true py qy qx found later =
      let same : y ≡ x = cc in absurd (false≢true (sym qx ∙ sym (ap q same) ∙ qy))
  gone_there_at y ys x true false py qy qx found later = refl
  gone_there_at y ys x false true py qy qx found later = rw qy (ap (λ (zs : List X). y ∷ zs) (later found))
  gone_there_at y ys x false false py qy qx found later = rw qy (later found)

  -- and nothing else
  pub gone_there : (xs : List X) (x : X) → find p xs ≡ Some x → q x ≡ false →
      filter q (without_first p xs) ≡ filter q xs
  gone_there [] x found qx = refl
  gone_there (y ∷ ys) x found qx = gone_there_at y ys x (p y) (q y) refl refl qx found
      (λ later. gone_there ys x later qx)

module _ {X : Type 0} (p : X → Bool) where
  All_at : (P : X → Type 0) (y : X) (ys : List X) (b : Bool) → P y → All P ys →
      All P (without_first p ys) → All P (cond b ys (y ∷ without_first p ys))
  All_at P y ys true here all rest = all
  All_at P y ys false here all rest = All-cons P y (without_first p ys) here rest

  -- what holds of all holds of those that are left
  pub All-without_first : (P : X → Type 0) (xs : List X) → All P xs → All P (without_first p xs)
  All-without_first P [] all = all
  All-without_first P (y ∷ ys) all = All_at P y ys (p y) (All-head P y ys all) (All-tail P y ys all)
      (All-without_first P ys (All-tail P y ys all))

module _ {X : Type 0} (p : ℕ × X → Bool) where
  rising_at : (y : ℕ × X) (ys : List (ℕ × X)) (b : Bool) → Rising (y ∷ ys) →
      Rising (without_first p ys) → Rising (cond b ys (y ∷ without_first p ys))
  rising_at y ys true was rest = was.1
  rising_at y ys false was rest = (All-without_first p (λ (z : ℕ × X). y.0 < z.0) ys was.0, rest)

  -- and their numbers rise
  pub Rising-without_first : (xs : List (ℕ × X)) → Rising xs → Rising (without_first p xs)
  Rising-without_first [] was = was
  Rising-without_first (y ∷ ys) was = rising_at y ys (p y) was (Rising-without_first ys was.1)

-- a number past all others goes last
pub Rising-push : {X : Type 0} (xs : List (ℕ × X)) (n : ℕ) (x : X) → Rising xs →
    All (λ (y : ℕ × X). y.0 < n) xs → Rising (xs ++ (n, x) ∷ [])
Rising-push {X} [] n x was below = ((λ k d inside. absurd (omega arith)), was)
Rising-push {X} (y ∷ ys) n x was below = (
  All-push (λ (z : ℕ × X). y.0 < z.0) ys (n, x) was.0 (All-head (λ (z : ℕ × X). z.0 < n) y ys below),
  Rising-push ys n x was.1 (All-tail (λ (z : ℕ × X). z.0 < n) y ys below),
)

module _ {X Y : Type 0} (f : X → Y) (test : Y → Bool) where
  map_at : (x : X) (xs ys : List X) (zs : List Y) (b : Bool) → map f ys ≡ zs →
      map f (cond b xs (x ∷ ys)) ≡ cond b (map f xs) (f x ∷ zs)
  map_at x xs ys zs true same = refl
  map_at x xs ys zs false same = ap (λ (l : List Y). f x ∷ l) same

  -- the things that are left, without their numbers
  pub map-without_first : (xs : List X) → map f (without_first (λ x. test (f x)) xs) ≡ without_first test (map f xs)
  map-without_first [] = refl
  map-without_first (x ∷ xs) = map_at x xs (without_first (λ x. test (f x)) xs)
      (without_first test (map f xs)) (test (f x)) (map-without_first xs)

  found_at : (x : X) (o : Option X) (r : Option Y) (b : Bool) → option_map f o ≡ r →
      option_map f (cond b (Some x) o) ≡ cond b (Some (f x)) r
  found_at x o r true same = refl
  found_at x o r false same = same

  -- the thing that is found, without its number
  pub find-map : (xs : List X) → option_map f (find (λ x. test (f x)) xs) ≡ find test (map f xs)
  find-map [] = refl
  find-map (x ∷ xs) = found_at x (find (λ x. test (f x)) xs) (find test (map f xs)) (test (f x)) (find-map xs)

-- one more at the end, without its number
pub map_push : {X Y : Type 0} (f : X → Y) (xs : List X) (x : X) → map f (xs ++ x ∷ []) ≡ map f xs ++ f x ∷ []
map_push f [] x = refl
map_push {X} {Y} f (y ∷ ys) x = ap (λ (l : List Y). f y ∷ l) (map_push f ys x)

module _ {X : Type 0} {key : X → Picks} {queue : List (ℕ × X)} {next : ℕ}
    {m : Picks → List (ℕ × X)} (are : AreBuckets key queue next m) (m' : Picks → List (ℕ × X)) where
  taken_bucket : (test : ℕ × X → Bool) (x : ℕ × X) → find test queue ≡ Some x →
      m' (key x.1) ≡ without_first test (m (key x.1)) →
      ((k : Picks) → same_picks (key x.1) k ≡ false → m' k ≡ m k) →
      (k : Picks) (b : Bool) → same_picks (key x.1) k ≡ b →
      m' k ≡ filter (λ (y : ℕ × X). same_picks k (key y.1)) (without_first test queue)
  taken_bucket test x found own others k true same =
      subst (λ (k : Picks). m' k
      ≡ filter (λ (y : ℕ × X). same_picks k (key y.1)) (without_first test queue))
      (same_picks-true (key x.1) k same)
      (own ∙ ap (λ (l : List (ℕ × X)). without_first test l) (are.holds (key x.1))
      ∙ sym (gone_here test (λ (y : ℕ × X). same_picks (key x.1) (key y.1)) queue x found
      (same_picks-self (key x.1))))
  taken_bucket test x found own others k false apart =
      others k apart ∙ are.holds k
      ∙ sym (gone_there test (λ (y : ℕ × X). same_picks k (key y.1)) queue x found
      (same_picks-flip (key x.1) k apart))

  -- after the first that passes was taken from its bucket
  pub taken : (test : ℕ × X → Bool) (x : ℕ × X) → find test queue ≡ Some x →
      m' (key x.1) ≡ without_first test (m (key x.1)) →
      ((k : Picks) → same_picks (key x.1) k ≡ false → m' k ≡ m k) →
      AreBuckets key (without_first test queue) next m'
  taken test x found own others = record {
    holds = λ k. taken_bucket test x found own others k (same_picks (key x.1) k) refl;
    below = All-without_first test (λ (y : ℕ × X). y.0 < next) queue are.below;
    rising = Rising-without_first test queue are.rising;
  }

  put_bucket : (item : X) →
      m' (key item) ≡ m (key item) ++ (next, item) ∷ [] →
      ((k : Picks) → same_picks (key item) k ≡ false → m' k ≡ m k) →
      (k : Picks) (b : Bool) → same_picks (key item) k ≡ b →
      m' k ≡ filter (λ (y : ℕ × X). same_picks k (key y.1)) (queue ++ (next, item) ∷ [])
  put_bucket item own others k true same =
      subst (λ (k : Picks). m' k
      ≡ filter (λ (y : ℕ × X). same_picks k (key y.1)) (queue ++ (next, item) ∷ []))
      (same_picks-true (key item) k same)
      (own ∙ ap (λ (l : List (ℕ × X)). l ++ (next, item) ∷ []) (are.holds (key item))
      ∙ sym (filter-append (λ (y : ℕ × X). same_picks (key item) (key y.1)) queue ((next, item) ∷ [])
      ∙ rw (same_picks-self (key item)) refl))
  put_bucket item own others k false apart =
      others k apart ∙ are.holds k
      ∙ sym (filter-append (λ (y : ℕ × X). same_picks k (key y.1)) queue ((next, item) ∷ [])
      ∙ rw (same_picks-flip (key item) k apart)
      (append-nil (filter (λ (y : ℕ × X). same_picks k (key y.1)) queue)))

  -- after a thing was put last in its bucket
  pub put_last : (item : X) (later : ℕ) → next < later →
      m' (key item) ≡ m (key item) ++ (next, item) ∷ [] →
      ((k : Picks) → same_picks (key item) k ≡ false → m' k ≡ m k) →
      AreBuckets key (queue ++ (next, item) ∷ []) later m'
  put_last item later before own others = record {
    holds = λ k. put_bucket item own others k (same_picks (key item) k) refl;
    below = All-push (λ (y : ℕ × X). y.0 < later) queue (next, item)
        (All-weaker (λ (y : ℕ × X). y.0 < next) (λ (y : ℕ × X). y.0 < later)
        (λ y below. omega (arith, below, before)) queue are.below) before;
    rising = Rising-push queue next item are.rising are.below;
  }

  -- where no bucket changed
  pub kept : (later : ℕ) → next ≤ later → ((k : Picks) → m' k ≡ m k) →
      AreBuckets key queue later m'
  kept later after same = record {
    holds = λ k. same k ∙ are.holds k;
    below = All-weaker (λ (y : ℕ × X). y.0 < next) (λ (y : ℕ × X). y.0 < later)
        (λ y below. omega (arith, below, after)) queue are.below;
    rising = are.rising;
  }

le_self : (n : ℕ) → nat_le n n ≡ true
le_self n = grind (arith, nat_tests)

le_below : (m n : ℕ) → m < n → nat_le m n ≡ true
le_below m n h = grind (arith, nat_tests)

not_le_above : (m n : ℕ) → m < n → nat_le n m ≡ false
not_le_above m n h = grind (arith, nat_tests)

first_of : {X : Type 0} (x : ℕ × X) (o : Option (ℕ × X)) → ((y : ℕ × X) → o ≡ Some y → x.0 < y.0) →
    earlier_of (Some x) o ≡ Some x
first_of x None later = refl
first_of x (Some y) later = rw (le_below x.0 y.0 (later y refl)) refl

last_of : {X : Type 0} (x : ℕ × X) (o : Option (ℕ × X)) → ((y : ℕ × X) → o ≡ Some y → x.0 < y.0) →
    earlier_of o (Some x) ≡ Some x
last_of x None later = refl
last_of x (Some y) later = rw (not_le_above x.0 y.0 (later y refl)) refl

either_at : {X : Type 0} (x : ℕ × X) (o u both : Option (ℕ × X)) (p q : Bool) →
    ((y : ℕ × X) → o ≡ Some y → x.0 < y.0) → ((y : ℕ × X) → u ≡ Some y → x.0 < y.0) → both ≡ earlier_of o u →
    cond (p || q) (Some x) both ≡ earlier_of (cond p (Some x) o) (cond q (Some x) u)
either_at x o u both true true of_o of_u same = rw (le_self x.0) refl
either_at x o u both true false of_o of_u same = sym (first_of x u of_u)
either_at x o u both false true of_o of_u same = sym (last_of x o of_o)
either_at x o u both false false of_o of_u same = same

-- the first that passes one of two tests is the earlier_of of the first ones of both
pub find_either : {X : Type 0} (p q : ℕ × X → Bool) (xs : List (ℕ × X)) → Rising xs →
    find (λ x. p x || q x) xs ≡ earlier_of (find p xs) (find q xs)
find_either p q [] rising = refl
find_either {X} p q (x ∷ xs) rising =
    either_at x (find p xs) (find q xs) (find (λ x. p x || q x) xs) (p x) (q x)
    (λ y found. find_among (λ (y : ℕ × X). x.0 < y.0) p xs y rising.0 found)
    (λ y found. find_among (λ (y : ℕ × X). x.0 < y.0) q xs y rising.0 found)
    (find_either p q xs rising.1)

front_at : {X : Type 0} (x : X) (kept : List X) (o : Option X) (b : Bool) → slice_get kept 0 ≡ o →
    slice_get (cond b (x ∷ kept) kept) 0 ≡ cond b (Some x) o
front_at x kept o true same = refl
front_at x kept o false same = same

-- a bucket's first entry is the first one of its key
pub front_is_found : {X : Type 0} (p : X → Bool) (xs : List X) → slice_get (filter p xs) 0 ≡ find p xs
front_is_found p [] = refl
front_is_found p (x ∷ xs) = front_at x (filter p xs) (find p xs) (p x) (front_is_found p xs)

-- where each bucket is empty nothing waits
pub none_waits : {X : Type 0} {key : X → Picks} {next : ℕ} {m : Picks → List (ℕ × X)} (queue : List (ℕ × X)) →
    AreBuckets key queue next m → ((k : Picks) → m k ≡ []) → queue ≡ []
none_waits [] are empty = refl
none_waits {key = key} (x ∷ xs) are empty =
    let holds = rw (same_picks-self (key x.1)) at (are.holds (key x.1)) in
    let never = sym holds ∙ empty (key x.1) in absurd (grind arith)

-- where nothing passes nothing is found
pub find_never : {X : Type 0} (p : X → Bool) (xs : List X) → ((x : X) → p x ≡ false) → find p xs ≡ None
find_never p [] never = refl
find_never p (x ∷ xs) never = rw (never x) (find_never p xs never)

-- two tests that agree find the same
pub find_same : {X : Type 0} (p q : X → Bool) (xs : List X) → ((x : X) → p x ≡ q x) → find p xs ≡ find q xs
find_same p q [] same = refl
find_same {X} p q (x ∷ xs) same = rw (same x) (ap (λ (o : Option X). cond (q x) (Some x) o) (find_same p q xs same))

-- the first of a list, whose elements differ two by two, and each later one
pub pairs_head : {X : Type 0} (R : X → X → Type 0) (x : X) (xs : List X) → AllPairs R (x ∷ xs) → All (λ y. R x y) xs
pairs_head R x xs two = λ k d inside. two 0 (suc k) d (omega arith) (omega arith)

-- the others
pub pairs_tail : {X : Type 0} (R : X → X → Type 0) (x : X) (xs : List X) → AllPairs R (x ∷ xs) → AllPairs R xs
pairs_tail R x xs two = λ i j d below inside. two (suc i) (suc j) d (omega arith) (omega arith)

-- what any two have without their numbers
pub pairs_unmap : {X Y : Type 0} (R : Y → Y → Type 0) (f : X → Y) (xs : List X) → AllPairs R (map f xs) →
    AllPairs (λ x y. R (f x) (f y)) xs
pairs_unmap {X} {Y} R f xs two = λ i j d below inside.
    let len = length-map xs f in
    subst (λ (y : Y). R (f (get_or xs i d)) y) (get_or-map f xs j d (f d) inside)
    (subst (λ (y : Y). R y (get_or (map f xs) j (f d))) (get_or-map f xs i d (f d) (omega (arith, inside, below)))
    (two i j (f d) below (omega (arith, inside, len))))
