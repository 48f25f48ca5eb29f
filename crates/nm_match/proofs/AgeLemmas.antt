-- What waits, put in order of age: bucket by bucket, and one by one.
use Rattle.std.proofs.Common.{◌≡◌, ℕ, suc, ◌+◌, ◌<◌, ◌≤◌, ◌==◌, Bool, true, false, cond, ◌||◌, Option, Some, None}
use Rattle.std.proofs.Common.{List, [], ◌∷◌, ◌++◌, length, refl, sym, ◌∙◌, ap, arith, slice_get, take}
use Rattle.std.proofs.Math.Bool.{or-false}
use Rattle.std.specs.BTreeMap.{insert_entry}
use Rattle.std.specs.List.{All, filter, list_any}
use Rattle.std.specs.Option.{option_map_or}
use Rattle.std.specs.Ordering.{nat_cmp}
use Rattle.std.specs.Prelude.{nat_lt}
use Rattle.std.proofs.lemmas.Bool.Decides.{nat_tests}
use Rattle.std.proofs.lemmas.List.Elements.{All-cons, All-filter, All-head, All-nil, All-tail, filter_agree}
use Rattle.indexmap.specs.IndexMap.{IndexMap}
use Rattle.nm_match.specs.declared.buckets.Bucket.{Bucket}
use Rattle.nm_match.specs.declared.picks.Picks.{Picks}
use Rattle.nm_match.specs.Buckets.{AreBuckets, Rising, bucket_at, bucket_of, with_entries}
use Rattle.nm_match.specs.Picks.{same_picks}
use Rattle.nm_match.proofs.BestLemmas.{any_next, each_fits}
use Rattle.nm_match.proofs.ListLemmas.{filter_all}

-- a number below all others goes first
first_put : {X : Type 0} (x : ℕ × X) (es : List (ℕ × X)) → All (λ (e : ℕ × X). x.0 < e.0) es →
    insert_entry nat_cmp es x.0 x.1 ≡ x ∷ es
first_put x [] below = refl
first_put {X} x (e ∷ es) below =
    let here = All-head (λ (e : ℕ × X). x.0 < e.0) e es below in
    let less : nat_lt x.0 e.0 ≡ true = grind (arith, nat_tests) in rw less refl

-- one that is there stays
same_put : {X : Type 0} (x : ℕ × X) (es : List (ℕ × X)) → insert_entry nat_cmp (x ∷ es) x.0 x.1 ≡ x ∷ es
same_put x es =
    let not_less : nat_lt x.0 x.0 ≡ false = grind (arith, nat_tests) in
    let same : (x.0 == x.0) ≡ true = grind (arith, nat_tests) in rw (not_less, same) refl

-- one behind the first goes among the others
later_put : {X : Type 0} (x e : ℕ × X) (es : List (ℕ × X)) → e.0 < x.0 →
    insert_entry nat_cmp (e ∷ es) x.0 x.1 ≡ e ∷ insert_entry nat_cmp es x.0 x.1
later_put x e es above =
    let not_less : nat_lt x.0 e.0 ≡ false = grind (arith, nat_tests) in
    let other : (x.0 == e.0) ≡ false = grind (arith, nat_tests) in rw (not_less, other) refl

-- and so do all behind it
later_entries : {X : Type 0} (e : ℕ × X) (es xs : List (ℕ × X)) → All (λ (x : ℕ × X). e.0 < x.0) xs →
    with_entries (e ∷ es) xs ≡ e ∷ with_entries es xs
later_entries e es [] above = refl
later_entries {X} e es (x ∷ xs) above =
    ap (λ (l : List (ℕ × X)). with_entries l xs)
    (later_put x e es (All-head (λ (x : ℕ × X). e.0 < x.0) x xs above))
    ∙ later_entries e (insert_entry nat_cmp es x.0 x.1) xs (All-tail (λ (x : ℕ × X). e.0 < x.0) x xs above)

both_at : {X : Type 0} (x : ℕ × X) (ps qs both : List (ℕ × X)) (p q : Bool) →
    All (λ (y : ℕ × X). x.0 < y.0) ps → All (λ (y : ℕ × X). x.0 < y.0) qs → with_entries ps qs ≡ both →
    with_entries (cond p (x ∷ ps) ps) (cond q (x ∷ qs) qs) ≡ cond (p || q) (x ∷ both) both
both_at {X} x ps qs both true true of_p of_q same =
    ap (λ (l : List (ℕ × X)). with_entries l qs) (same_put x ps) ∙ later_entries x ps qs of_q
    ∙ ap (λ (l : List (ℕ × X)). x ∷ l) same
both_at {X} x ps qs both true false of_p of_q same =
    later_entries x ps qs of_q ∙ ap (λ (l : List (ℕ × X)). x ∷ l) same
both_at {X} x ps qs both false true of_p of_q same =
    ap (λ (l : List (ℕ × X)). with_entries l qs) (first_put x ps of_p) ∙ later_entries x ps qs of_q
    ∙ ap (λ (l : List (ℕ × X)). x ∷ l) same
both_at x ps qs both false false of_p of_q same = same

-- what passes one test, put among what passes another, is what passes one of them
pub both_put : {X : Type 0} (p q : ℕ × X → Bool) (xs : List (ℕ × X)) → Rising xs →
    with_entries (filter p xs) (filter q xs) ≡ filter (λ x. p x || q x) xs
both_put p q [] rising = refl
both_put {X} p q (x ∷ xs) rising =
    both_at x (filter p xs) (filter q xs) (filter (λ x. p x || q x) xs) (p x) (q x)
    (All-filter p (λ (y : ℕ × X). x.0 < y.0) xs rising.0) (All-filter q (λ (y : ℕ × X). x.0 < y.0) xs rising.0)
    (both_put p q xs rising.1)

none_kept : {X : Type 0} (xs : List X) → filter (λ x. false) xs ≡ []
none_kept [] = refl
none_kept (x ∷ xs) = none_kept xs

module _ {X S : Type 0} {key : X → Picks} {queue : List (ℕ × X)} {next : ℕ}
    (m : IndexMap Picks (Bucket X) S) (are : AreBuckets key queue next (bucket_of m)) where
  -- whether it is in one of the first buckets of the map
  abbrev pub is_among : ℕ → ℕ × X → Bool
  is_among n x = list_any (λ e. same_picks e.0 (key x.1)) (take n m.entries)

  -- no bucket yet
  pub among_none : filter (is_among 0) queue ≡ []
  among_none = none_kept queue

  next_at : (n : ℕ) (o : Option (Picks × Bucket X)) →
      filter (λ x. is_among n x || option_map_or (λ e. same_picks e.0 (key x.1)) o false) queue
      ≡ with_entries (filter (is_among n) queue) (option_map_or (λ e. bucket_of m e.0) o [])
  next_at n None = filter_agree (λ x. is_among n x || false) (is_among n) (λ x. or-false (is_among n x)) queue
  next_at n (Some e) =
      sym (ap (λ (l : List (ℕ × X)). with_entries (filter (is_among n) queue) l) (are.holds e.0)
      ∙ both_put (is_among n) (λ (x : ℕ × X). same_picks e.0 (key x.1)) queue are.rising)

  -- one bucket more
  pub among_next : (n : ℕ) →
      with_entries (filter (is_among n) queue) (bucket_at m n) ≡ filter (is_among (n + 1)) queue
  among_next n =
      let up : n + 1 ≡ suc n = omega arith in
      sym (rw up (filter_agree (is_among (suc n))
      (λ x. is_among n x || option_map_or (λ e. same_picks e.0 (key x.1)) (slice_get m.entries n) false)
      (λ x. any_next (λ e. same_picks e.0 (key x.1)) m.entries n) queue
      ∙ next_at n (slice_get m.entries n)))

  -- all buckets
  pub among_all : (n : ℕ) → length m.entries ≤ n → filter (is_among n) queue ≡ queue
  among_all n all = filter_all (is_among n) queue (each_fits m are (λ (k : Picks). true) n all)

-- what comes before one is older
pub older : {X : Type 0} (xs : List (ℕ × X)) (x : ℕ × X) (ys : List (ℕ × X)) → Rising (xs ++ x ∷ ys) →
    All (λ (y : ℕ × X). y.0 < x.0) xs
older {X} [] x ys rising = All-nil (λ (y : ℕ × X). y.0 < x.0)
older {X} (y ∷ xs) x ys rising =
    All-cons (λ (y : ℕ × X). y.0 < x.0) y xs (behind xs x ys rising.0) (older xs x ys rising.1)
  where
    behind : (xs : List (ℕ × X)) (x : ℕ × X) (ys : List (ℕ × X)) → All (λ (z : ℕ × X). y.0 < z.0) (xs ++ x ∷ ys) →
        y.0 < x.0
    behind [] x ys all = All-head (λ (z : ℕ × X). y.0 < z.0) x ys all
    behind (z ∷ xs) x ys all = behind xs x ys (All-tail (λ (z : ℕ × X). y.0 < z.0) z (xs ++ x ∷ ys) all)

all_first : {X : Type 0} (P : X → Type 0) (xs ys : List X) → All P (xs ++ ys) → All P xs
all_first P [] ys all = All-nil P
all_first P (x ∷ xs) ys all =
    All-cons P x xs (All-head P x (xs ++ ys) all) (all_first P xs ys (All-tail P x (xs ++ ys) all))

-- and in order of age
pub rising_first : {X : Type 0} (xs ys : List (ℕ × X)) → Rising (xs ++ ys) → Rising xs
rising_first [] ys rising = tt
rising_first {X} (x ∷ xs) ys rising =
    (all_first (λ (y : ℕ × X). x.0 < y.0) xs ys rising.0, rising_first xs ys rising.1)

-- what one has and no bucket of a queue
pub first_buckets : {X : Type 0} (key : X → Picks) (xs : List (ℕ × X)) (x : ℕ × X) (ys : List (ℕ × X)) →
    Rising (xs ++ x ∷ ys) →
    AreBuckets key xs x.0 (λ k. filter (λ (y : ℕ × X). same_picks k (key y.1)) xs)
first_buckets key xs x ys rising = record {
  holds = λ k. refl;
  below = older xs x ys rising;
  rising = rising_first xs (x ∷ ys) rising;
}
