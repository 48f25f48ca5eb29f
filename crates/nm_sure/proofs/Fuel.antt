-- As many steps as there are lines are enough: then no rank can run a command.
use Rattle.std.proofs.Common.{◌≡◌, ℕ, ◌+◌, ◌<◌, ◌≤◌, ◌==◌, Bool, true, false, cond, zero, suc, Option, Some, None}
use Rattle.std.proofs.Common.{List, [], ◌∷◌, length, refl, sym, ◌∙◌, ap, subst, arith, inl, inr}
use Rattle.std.specs.Prelude.{replicate, slice_set}
use Rattle.std.specs.List.{find, range_with_len, slice_get}
use Rattle.std.specs.Option.{option_map_or}
use Rattle.std.proofs.lemmas.Bool.{false≢true}
use Rattle.std.proofs.lemmas.Bool.Decides.{nat_tests}
use Rattle.std.proofs.lemmas.List.{length-replicate}
use Rattle.nm_types.specs.declared.scripts.Line.{Line}
use Rattle.nm_types.specs.Commands.{Numbered, commands_from, commands_of}
use Rattle.nm_sure.specs.Plain.{at_of, can_run, goes_on, next_of, next_rank, plain_after, with_one_more}
use Rattle.nm_sure.proofs.Floor.{more_at}
use Rattle.nm_sure.proofs.Lists.{found_at}
use Rattle.nm_types.proofs.NumberLemmas.{same_number}
use Rattle.nm_types.proofs.OptionLemmas.{no_some, same_some}
use Rattle.nm_types.proofs.ListLemmas.{place_below}

-- the sum over some ranks, from the last one on
abbrev pub sum_over : (ℕ → ℕ) → List ℕ → ℕ
sum_over f [] = 0
sum_over f (r ∷ rs) = f r + sum_over f rs

-- a sum that is nowhere less is no less, and greater where it is greater somewhere
no_less : (f g : ℕ → ℕ) → ((r : ℕ) → f r ≤ g r) → (rs : List ℕ) → sum_over f rs ≤ sum_over g rs
no_less f g each [] = omega arith
no_less f g each (r ∷ rs) = let first = each r in let later = no_less f g each rs in omega (arith, first, later)

greater : (f g : ℕ → ℕ) → ((r : ℕ) → f r ≤ g r) → (rs : List ℕ) (k i : ℕ) → slice_get rs k ≡ Some i → f i < g i →
    sum_over f rs < sum_over g rs
greater f g each [] k i here more = absurd (no_some i here)
greater f g each (r ∷ rs) zero i here more =
    let later = no_less f g each rs in
    let first : f r < g r = subst (λ (j : ℕ). f j < g j) (sym (same_some r i here)) more in
    omega (arith, first, later)
greater f g each (r ∷ rs) (suc k) i here more =
    let first = each r in
    let later = greater f g each rs k i here more in
    omega (arith, first, later)

-- a rank stands in a range at most once
none_hit : (l : ℕ) (f g : ℕ → ℕ) → ((r : ℕ) → g r ≡ cond (l == r) (f r + 1) (f r)) → (a n : ℕ) → l < a →
    sum_over g (range_with_len a n) ≤ sum_over f (range_with_len a n)
none_hit l f g hit a zero low = omega arith
none_hit l f g hit a (suc n) low =
    let later = none_hit l f g hit (a + 1) n (omega (arith, low)) in
    let first : g a ≡ f a = hit a ∙ (rw (other l a low) refl) in
    omega (arith, first, later)
  where
    other : (l a : ℕ) → l < a → (l == a) ≡ false
    other l a low = grind (arith, nat_tests)

one_hit : (l : ℕ) (f g : ℕ → ℕ) → ((r : ℕ) → g r ≡ cond (l == r) (f r + 1) (f r)) → (a n : ℕ) →
    sum_over g (range_with_len a n) ≤ sum_over f (range_with_len a n) + 1
one_hit l f g hit a zero = omega arith
one_hit l f g hit a (suc n) = by_test (l == a) refl (hit a) (one_hit l f g hit (a + 1) n) (none_hit l f g hit (a + 1) n)
  where
    by_test : (b : Bool) → (l == a) ≡ b → g a ≡ cond b (f a + 1) (f a) →
        sum_over g (range_with_len (a + 1) n) ≤ sum_over f (range_with_len (a + 1) n) + 1 →
        (l < a + 1 → sum_over g (range_with_len (a + 1) n) ≤ sum_over f (range_with_len (a + 1) n)) →
        g a + sum_over g (range_with_len (a + 1) n) ≤ f a + sum_over f (range_with_len (a + 1) n) + 1
    by_test true is first later none =
        let same : l ≡ a = same_number l a is in
        let rest = none (omega (arith, same)) in
        omega (arith, first, rest)
    by_test false is first later none = omega (arith, first, later)

-- all ranks together have no more commands than there are lines
few_commands : (a n number : ℕ) (lines : List Line) →
    sum_over (λ r. length (commands_from r number lines)) (range_with_len a n) ≤ length lines
few_commands a n number [] = let none = nothing (range_with_len a n) in omega (arith, none)
  where
    nothing : (rs : List ℕ) → sum_over (λ (r : ℕ). 0) rs ≡ 0
    nothing [] = refl
    nothing (r ∷ rs) = let later = nothing rs in omega (arith, later)
few_commands a n number (l ∷ lines) =
    let later = few_commands a n (number + 1) lines in
    let one = one_hit l.rank (λ (r : ℕ). length (commands_from r (number + 1) lines))
    (λ (r : ℕ). length (commands_from r number (l ∷ lines)))
    (λ r. by_test r (l.rank == r)) a n in
    omega (arith, later, one)
  where
    by_test : (r : ℕ) (b : Bool) →
        length (cond b (record { line = number; command = l.command } ∷ commands_from r (number + 1) lines)
        (commands_from r (number + 1) lines))
        ≡ cond b (length (commands_from r (number + 1) lines) + 1) (length (commands_from r (number + 1) lines))
    by_test r true = more (length (commands_from r (number + 1) lines))
      where
        more : (n : ℕ) → suc n ≡ n + 1
        more n = omega arith
    by_test r false = refl

-- the place of a rank in a range
pub in_range : (a n k : ℕ) → k < n → slice_get (range_with_len a n) k ≡ Some (a + k)
in_range a zero k low = absurd (omega (arith, low))
in_range a (suc n) zero low = ap (λ (m : ℕ). Some m) (add_zero a)
  where
    add_zero : (a : ℕ) → a ≡ a + 0
    add_zero a = omega arith
in_range a (suc n) (suc k) low = in_range (a + 1) n k (omega (arith, low)) ∙ ap (λ (m : ℕ). Some m) (shift a k)
  where
    shift : (a k : ℕ) → a + 1 + k ≡ a + suc k
    shift a k = omega arith

pub range_below : (a n k r : ℕ) → slice_get (range_with_len a n) k ≡ Some r → (k < n) × (r ≡ a + k)
range_below a zero k r here = absurd (no_some r here)
range_below a (suc n) zero r here = (omega arith, let same = same_some a r here in omega (arith, same))
range_below a (suc n) (suc k) r here =
    let more = range_below (a + 1) n k r here in
    (let low = more.0 in omega (arith, low), let same = more.1 in omega (arith, same))

-- where none is found none passes
pub none_found : {X : Type 0} (test : X → Bool) (xs : List X) (k : ℕ) (x : X) → find test xs ≡ None →
    slice_get xs k ≡ Some x →
    test x ≡ false
none_found test [] k x none here = absurd (no_some x here)
none_found test (y ∷ xs) k x none here = by_test (test y) refl k none here
    (λ j there rest. none_found test xs j x there rest)
  where
    by_test : (b : Bool) → test y ≡ b → (k : ℕ) → cond b (Some y) (find test xs) ≡ None →
        slice_get (y ∷ xs) k ≡ Some x →
        ((j : ℕ) → find test xs ≡ None → slice_get xs j ≡ Some x → test x ≡ false) → test x ≡ false
    by_test true is k none here later = absurd (no_some y (sym none))
    by_test false is zero none here later = subst (λ z. test z ≡ false) (same_some y x here) is
    by_test false is (suc k) none here later = later k none here

pub same_length : (F : List ℕ) (i : ℕ) → length (with_one_more F i) ≡ length F
same_length F i = set_length F i (at_of F i + 1)
  where
    set_length : (F : List ℕ) (i v : ℕ) → length (slice_set F i v) ≡ length F
    set_length [] i v = refl
    set_length (n ∷ F) zero v = refl
    set_length (n ∷ F) (suc i) v = ap (λ (k : ℕ). suc k) (set_length F i v)

module _ (eager : ℕ) (lines : List Line) where
  abbrev total : List ℕ → ℕ
  total F = sum_over (at_of F) (range_with_len 0 (length F))

  abbrev IsWithin : List ℕ → Type 0
  IsWithin F = (r : ℕ) → at_of F r ≤ length (commands_of r lines)

  has_next : (F : List ℕ) (i : ℕ) → can_run eager lines F i ≡ true → at_of F i < length (commands_of i lines)
  has_next F i can = by_next (next_of lines F i) refl can
    where
      by_next : (o : Option Numbered) → next_of lines F i ≡ o → option_map_or (λ c. goes_on eager lines F i c.command)
          o false ≡ true →
          at_of F i < length (commands_of i lines)
      by_next None next can = absurd (false≢true can)
      by_next (Some c) next can = place_below (commands_of i lines) (at_of F i) c next

  pub next_in : (F : List ℕ) (i : ℕ) → next_rank eager lines F ≡ Some i →
      (slice_get (range_with_len 0 (length F)) i ≡ Some i) × (can_run eager lines F i ≡ true)
  next_in F i next =
      let found = found_at (can_run eager lines F) (range_with_len 0 (length F)) i next in
      let spot = range_below 0 (length F) found.0 i found.1 in
      let same : found.0 ≡ i = (let s = spot.1 in omega (arith, s)) in
      (subst (λ (k : ℕ). slice_get (range_with_len 0 (length F)) k ≡ Some i) same found.1, found.2)

  one_more_each : (F : List ℕ) (i r : ℕ) → at_of F r ≤ at_of (with_one_more F i) r
  one_more_each F i r = elim (more_at F i r) [
    | inl same ↦ omega (arith, same)
    | inr here ↦
        let same = here.1 in
        let own : at_of F r ≡ at_of F i = ap (λ (k : ℕ). at_of F k) here.0 in
        omega (arith, same, own)
  ]

  more_within : (F : List ℕ) (i : ℕ) → IsWithin F → can_run eager lines F i ≡ true → IsWithin (with_one_more F i)
  more_within F i within can r = elim (more_at F i r) [
    | inl same ↦ let low = within r in omega (arith, same, low)
    | inr here ↦
        let same = here.1 in
        let next = has_next F i can in
        let own : length (commands_of r lines) ≡ length (commands_of i lines) =
        ap (λ (k : ℕ). length (commands_of k lines)) here.0 in
        omega (arith, same, next, own)
  ]

  -- one step more is one command more
  total_grows : (F : List ℕ) (i : ℕ) → i < length F → slice_get (range_with_len 0 (length F)) i ≡ Some i →
      total F < total (with_one_more F i)
  total_grows F i low here =
      subst (λ (n : ℕ). total F < sum_over (at_of (with_one_more F i)) (range_with_len 0 n)) (sym (same_length F i))
      (greater (at_of F) (at_of (with_one_more F i)) (one_more_each F i) (range_with_len 0 (length F)) i i here
      (let own = set_here F i (at_of F i + 1) low in omega (arith, own)))
    where
      set_here : (F : List ℕ) (i v : ℕ) → i < length F → at_of (slice_set F i v) i ≡ v
      set_here [] i v low = absurd (omega (arith, low))
      set_here (n ∷ F) zero v low = refl
      set_here (n ∷ F) (suc i) v low = set_here F i v (omega (arith, low))

  pub enough : (more : ℕ) (F : List ℕ) → IsWithin F → length lines ≤ total F + more →
      next_rank eager lines (plain_after eager lines more F) ≡ None
  unfolding plain_after
  enough zero F within high = by_next (next_rank eager lines F) refl
    where
      by_next : (o : Option ℕ) → next_rank eager lines F ≡ o → o ≡ None
      by_next None next = refl
      by_next (Some i) next =
          let spot = next_in F i next in
          let few = few_commands 0 (length F) 2 lines in
          let low = greater (at_of F) (λ (r : ℕ). length (commands_of r lines)) within (range_with_len 0 (length F)) i
          i spot.0
          (has_next F i spot.1) in
          absurd (omega (arith, high, few, low))
  enough (suc more) F within high =
      by_next (next_rank eager lines F) refl (λ i inside high. enough more (with_one_more F i) inside high)
    where
      by_next : (o : Option ℕ) → next_rank eager lines F ≡ o →
          ((i : ℕ) → IsWithin (with_one_more F i) → length lines ≤ total (with_one_more F i) + more →
          next_rank eager lines (plain_after eager lines more (with_one_more F i)) ≡ None) →
          next_rank eager lines (option_map_or (λ i. plain_after eager lines more (with_one_more F i)) o F) ≡ None
      by_next None next later = next
      by_next (Some i) next later =
          let spot = next_in F i next in
          let grows = total_grows F i (range_below 0 (length F) i i spot.0).0 spot.0 in
          later i (more_within F i within spot.1) (omega (arith, high, grows))

  -- the length of an end
  pub end_length : (more : ℕ) (F : List ℕ) → length (plain_after eager lines more F) ≡ length F
  unfolding plain_after
  end_length zero F = refl
  end_length (suc more) F = by_next (next_rank eager lines F) (λ i. end_length more (with_one_more F i))
    where
      by_next : (o : Option ℕ) →
          ((i : ℕ) → length (plain_after eager lines more (with_one_more F i)) ≡ length (with_one_more F i)) →
          length (option_map_or (λ i. plain_after eager lines more (with_one_more F i)) o F) ≡ length F
      by_next None later = refl
      by_next (Some i) later = later i ∙ same_length F i

  pub at_start : (n r : ℕ) → at_of (replicate n 0) r ≡ 0
  at_start zero r = refl
  at_start (suc n) zero = refl
  at_start (suc n) (suc r) = at_start n r

  -- at the end no rank of the run can run a command
  pub ended : (ranks i : ℕ) → i < ranks →
      can_run eager lines (plain_after eager lines (length lines) (replicate ranks 0)) i ≡ false
  ended ranks i low =
      let F : List ℕ = plain_after eager lines (length lines) (replicate ranks 0) in
      let none = enough (length lines) (replicate ranks 0) (λ r. let zero_at = at_start ranks r in
      omega (arith, zero_at)) (omega arith) in
      let count : length F ≡ ranks = end_length (length lines) (replicate ranks 0) ∙ length-replicate ranks 0 in
      none_found (can_run eager lines F) (range_with_len 0 (length F)) i i none
      (subst (λ (n : ℕ). slice_get (range_with_len 0 n) i ≡ Some i) (sym count)
      (in_range 0 ranks i low ∙ ap (λ (m : ℕ). Some m) (zero_add i)))
    where
      zero_add : (m : ℕ) → 0 + m ≡ m
      zero_add m = omega arith
