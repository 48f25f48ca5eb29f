-- The oldest of all buckets whose keys fit.
use Rattle.std.proofs.Common.{◌≡◌, ℕ, zero, suc, ◌+◌, ◌≤◌, Bool, true, false, ◌&&◌, ◌||◌, cond}
use Rattle.std.proofs.Common.{Option, Some, None, List, [], ◌∷◌, length, refl, sym, ◌∙◌, ap, arith}
use Rattle.std.proofs.Common.{slice_get, take, get_or, is_some}
use Rattle.std.specs.Prelude.{if◌then◌else◌}
use Rattle.std.specs.List.{All, filter, find, list_any}
use Rattle.std.specs.Map.{keys_of, lookup}
use Rattle.std.specs.Option.{option_map_or}
use Rattle.std.proofs.lemmas.Bool.{false≢true}
use Rattle.std.proofs.lemmas.List.Elements.{All-cons, All-head, All-nil, All-tail}
use Rattle.std.proofs.lemmas.Map.Made.{is_some-lookup}
use Rattle.indexmap.specs.IndexMap.{IndexMap}
use Rattle.nm_match.specs.declared.buckets.Bucket.{Bucket}
use Rattle.nm_match.specs.declared.picks.Picks.{Picks}
use Rattle.nm_match.specs.Buckets.{AreBuckets, bucket_of, earlier_of, entries_of, fitting_at}
use Rattle.nm_match.specs.Picks.{same_picks}
use Rattle.nm_match.proofs.BucketLemmas.{find_either, find_never, find_same, front_is_found}
use Rattle.nm_match.specs.SameKeys.{same_picks-self, same_picks-true}

or_none : (x : Bool) → (x || false) ≡ x
or_none true = refl
or_none false = refl

or_true : (x : Bool) → (x || true) ≡ true
or_true true = refl
or_true false = refl

and_false : (x : Bool) → (x && false) ≡ false
and_false true = refl
and_false false = refl

or_assoc : (x y z : Bool) → (x || (y || z)) ≡ ((x || y) || z)
or_assoc true y z = refl
or_assoc false y z = refl

pub any_next : {E : Type 0} (f : E → Bool) (es : List E) (i : ℕ) →
    list_any f (take (suc i) es) ≡ (list_any f (take i es) || option_map_or f (slice_get es i) false)
any_next f [] zero = refl
any_next f [] (suc i) = refl
any_next f (e ∷ es) zero = or_none (f e)
any_next f (e ∷ es) (suc i) = ap (λ b. f e || b) (any_next f es i)
    ∙ or_assoc (f e) (list_any f (take i es)) (option_map_or f (slice_get es i) false)

any_all : {E : Type 0} (f : E → Bool) (es : List E) (n : ℕ) → length es ≤ n → list_any f (take n es) ≡ list_any f es
any_all f [] zero inside = refl
any_all f [] (suc n) inside = refl
any_all f (e ∷ es) zero inside = absurd (omega (arith, inside))
any_all f (e ∷ es) (suc n) inside = ap (λ b. f e || b) (any_all f es n (omega (arith, inside)))

find_among_same : {X : Type 0} (p q : X → Bool) (xs : List X) → All (λ x. p x ≡ q x) xs → find p xs ≡ find q xs
find_among_same p q [] same = refl
find_among_same {X} p q (x ∷ xs) same = rw (All-head (λ x. p x ≡ q x) x xs same)
    (ap (λ (o : Option X). cond (q x) (Some x) o) (find_among_same p q xs (All-tail (λ x. p x ≡ q x) x xs same)))

filter_nil : {X : Type 0} (p : X → Bool) (xs : List X) → filter p xs ≡ [] → All (λ x. p x ≡ false) xs
filter_nil p [] none = All-nil (λ x. p x ≡ false)
filter_nil {X} p (x ∷ xs) none = at (filter_nil p xs) (p x) refl none
  where
    at : (filter p xs ≡ [] → All (λ x. p x ≡ false) xs) → (b : Bool) → p x ≡ b →
        cond b (x ∷ filter p xs) (filter p xs) ≡ [] → All (λ x. p x ≡ false) (x ∷ xs)
    at later true here none = absurd (grind arith)
    at later false here none = All-cons (λ x. p x ≡ false) x xs here (later none)

module _ {V : Type 0} (fits : Picks → Bool) (t : Picks) where
  abbrev fitting_key : Picks × V → Bool
  fitting_key e = fits e.0 && same_picks e.0 t

  none_fits : fits t ≡ false → (es : List (Picks × V)) → list_any fitting_key es ≡ false
  none_fits unfit [] = refl
  none_fits unfit (e ∷ es) = at (none_fits unfit es) (same_picks e.0 t) refl
    where
      at : list_any fitting_key es ≡ false → (b : Bool) → same_picks e.0 t ≡ b →
          ((fits e.0 && b) || list_any fitting_key es) ≡ false
      at later true same = rw (same_picks-true e.0 t same, unfit) later
      at later false other = rw (and_false (fits e.0)) later

  one_fits : fits t ≡ true → (es : List (Picks × V)) → list_any (same_picks t) (keys_of es) ≡ true →
      list_any fitting_key es ≡ true
  one_fits fit [] some = absurd (false≢true some)
  one_fits fit (e ∷ es) some = at (one_fits fit es) (same_picks t e.0) refl some
    where
      at : (list_any (same_picks t) (keys_of es) ≡ true → list_any fitting_key es ≡ true) → (b : Bool) →
          same_picks t e.0 ≡ b → (b || list_any (same_picks t) (keys_of es)) ≡ true →
          (fitting_key e || list_any fitting_key es) ≡ true
      at later true same some = rw (← same_picks-true t e.0 same, fit, same_picks-self t) refl
      at later false other some = rw (later some) (or_true (fitting_key e))

  some_fits : (es : List (Picks × V)) → list_any (same_picks t) (keys_of es) ≡ true →
      list_any fitting_key es ≡ fits t
  some_fits es some = at (fits t) refl
    where
      at : (b : Bool) → fits t ≡ b → list_any fitting_key es ≡ fits t
      at true fit = one_fits fit es some ∙ sym fit
      at false unfit = none_fits unfit es ∙ sym unfit

module _ {X S : Type 0} {key : X → Picks} {queue : List (ℕ × X)} {next : ℕ}
    (m : IndexMap Picks (Bucket X) S) (are : AreBuckets key queue next (bucket_of m))
    (fits : Picks → Bool) where
  -- the oldest of the first buckets of the map whose key fits
  abbrev pub first_of : ℕ → Option (ℕ × X)
  first_of n = find (λ x. list_any (λ e. fits e.0 && same_picks e.0 (key x.1)) (take n m.entries)) queue

  -- no bucket yet
  pub first_none : first_of 0 ≡ None
  first_none = find_never (λ x. list_any (λ e. fits e.0 && same_picks e.0 (key x.1)) (take 0 m.entries)) queue
      (λ x. refl)

  fitting_is : (o : Option (Picks × Bucket X)) →
      find (λ x. option_map_or (λ e. fits e.0 && same_picks e.0 (key x.1)) o false) queue
      ≡ option_map_or (λ e. if fits e.0 then slice_get (bucket_of m e.0) 0 else None) o None
  fitting_is None = find_never (λ x. false) queue (λ x. refl)
  fitting_is (Some e) = at (fits e.0)
    where
      at : (b : Bool) → find (λ x. b && same_picks e.0 (key x.1)) queue
          ≡ cond b (slice_get (bucket_of m e.0) 0) None
      at true = sym (ap (λ (l : List (ℕ × X)). slice_get l 0) (are.holds e.0)
          ∙ front_is_found (λ (x : ℕ × X). same_picks e.0 (key x.1)) queue)
      at false = find_never (λ x. false) queue (λ x. refl)

  -- one bucket more
  pub first_next : (n : ℕ) → earlier_of (first_of n) (fitting_at fits m n) ≡ first_of (n + 1)
  first_next n =
      let up : n + 1 ≡ suc n = omega arith in
      rw up (sym (find_same
      (λ x. list_any (λ e. fits e.0 && same_picks e.0 (key x.1)) (take (suc n) m.entries))
      (λ x. list_any (λ e. fits e.0 && same_picks e.0 (key x.1)) (take n m.entries)
      || option_map_or (λ e. fits e.0 && same_picks e.0 (key x.1)) (slice_get m.entries n) false) queue
      (λ x. any_next (λ e. fits e.0 && same_picks e.0 (key x.1)) m.entries n)
      ∙ find_either (λ x. list_any (λ e. fits e.0 && same_picks e.0 (key x.1)) (take n m.entries))
      (λ x. option_map_or (λ e. fits e.0 && same_picks e.0 (key x.1)) (slice_get m.entries n) false)
      queue are.rising
      ∙ ap (λ (o : Option (ℕ × X)). earlier_of (first_of n) o) (fitting_is (slice_get m.entries n))))

  has_key : (x : ℕ × X) → (filter (λ (y : ℕ × X). same_picks (key x.1) (key y.1)) queue ≡ [] → ⊥) →
      list_any (same_picks (key x.1)) (keys_of m.entries) ≡ true
  has_key x some = sym (is_some-lookup (same_picks (key x.1)) m.entries)
      ∙ at (lookup (same_picks (key x.1)) m.entries) refl
    where
      at : (o : Option (Bucket X)) → lookup (same_picks (key x.1)) m.entries ≡ o → is_some o ≡ true
      at (Some b) found = refl
      at None none = absurd (some (sym (are.holds (key x.1))
          ∙ ap (λ (o : Option (Bucket X)). option_map_or entries_of o []) none))

  -- in one of all buckets whose keys fit is what fits
  pub each_fits : (n : ℕ) → length m.entries ≤ n →
      All (λ x. list_any (λ e. fits e.0 && same_picks e.0 (key x.1)) (take n m.entries) ≡ fits (key x.1)) queue
  each_fits n all = λ k d inside.
      let x : ℕ × X = get_or queue k d in
      any_all (λ e. fits e.0 && same_picks e.0 (key x.1)) m.entries n all
      ∙ some_fits fits (key x.1) m.entries (has_key x (λ none.
      false≢true (sym (filter_nil (λ (y : ℕ × X). same_picks (key x.1) (key y.1)) queue none k d inside)
      ∙ same_picks-self (key x.1))))

  -- all buckets
  pub first_last : (n : ℕ) → length m.entries ≤ n → first_of n ≡ find (λ x. fits (key x.1)) queue
  first_last n all = find_among_same
      (λ x. list_any (λ e. fits e.0 && same_picks e.0 (key x.1)) (take n m.entries))
      (λ x. fits (key x.1)) queue (each_fits n all)
