-- The lines of a rank's commands rise, so that a line has one place; the starts of the first commands
-- are the first of all starts.
use Rattle.std.proofs.Common.{◌≡◌, ℕ, ◌+◌, ◌<◌, ◌≤◌, ◌==◌, zero, suc, Bool, true, false, cond, ltb, Some, List, []}
use Rattle.std.proofs.Common.{◌∷◌, ◌++◌, length, refl, sym, ◌∙◌, ap, subst, arith, inl, inr, append-nil, append_assoc}
use Rattle.std.specs.List.{filter, list_any, position, position_or_len, slice_get}
use Rattle.std.proofs.lemmas.Bool.Decides.{nat_tests}
use Rattle.std.proofs.lemmas.List.Elements.{filter-append}
use Rattle.nm_types.specs.declared.scripts.Line.{Line}
use Rattle.nm_types.specs.Commands.{Numbered, commands_from, commands_of}
use Rattle.nm_history.proofs.OnceLemmas.{eqb_self}
use Rattle.nm_sure.specs.Names.{is_taken, started, started_after}
use Rattle.nm_sure.proofs.Lists.{any_at, at_any, kept_from, place_behind, place_split}
use Rattle.nm_types.proofs.NumberLemmas.{same_number, eq_later}
use Rattle.nm_types.proofs.ListLemmas.{get_before, place_below}
use Rattle.nm_types.proofs.OptionLemmas.{no_some, same_some}

-- each line is at least this number, and greater than the one before
abbrev pub Rising : ℕ → List Numbered → Type 0
Rising n [] = Unit {0}
Rising n (c ∷ cs) = (n ≤ c.line) × Rising (c.line + 1) cs

pub rising_lower : (m n : ℕ) (cs : List Numbered) → m ≤ n → Rising n cs → Rising m cs
rising_lower m n [] low rising = tt
rising_lower m n (c ∷ cs) low rising = (let first = rising.0 in omega (arith, low, first), rising.1)

rising_from : (rank number : ℕ) (lines : List Line) → Rising number (commands_from rank number lines)
rising_from rank number [] = tt
rising_from rank number (l ∷ lines) = by_rank (l.rank == rank) (rising_from rank (number + 1) lines)
  where
    by_rank : (b : Bool) → Rising (number + 1) (commands_from rank (number + 1) lines) →
        Rising number (cond b (record { line = number; command = l.command } ∷ commands_from rank (number + 1) lines)
        (commands_from rank (number + 1) lines))
    by_rank true later = (omega arith, later)
    by_rank false later = rising_lower number (number + 1) (commands_from rank (number + 1) lines) (omega arith) later

pub commands_rise : (rank : ℕ) (lines : List Line) → Rising 2 (commands_of rank lines)
commands_rise rank lines = rising_from rank 2 lines

rising_started : (n : ℕ) (before cs : List Numbered) → Rising n cs → Rising n (started_after before cs)
rising_started n before [] rising = tt
rising_started n before (c ∷ cs) rising =
    by_test (is_taken before c.command) (rising_started (c.line + 1) (before ++ c ∷ []) cs rising.1)
  where
    by_test : (b : Bool) → Rising (c.line + 1) (started_after (before ++ c ∷ []) cs) →
        Rising n (cond b (c ∷ started_after (before ++ c ∷ []) cs) (started_after (before ++ c ∷ []) cs))
    by_test true later = (rising.0, later)
    by_test false later = rising_lower n (c.line + 1) (started_after (before ++ c ∷ []) cs)
        (let first = rising.0 in omega (arith, first)) later

pub rising_kept : (g : Numbered → Bool) (n : ℕ) (cs : List Numbered) → Rising n cs → Rising n (filter g cs)
rising_kept g n [] rising = tt
rising_kept g n (c ∷ cs) rising = by_test (g c) (rising_kept g (c.line + 1) cs rising.1)
  where
    by_test : (b : Bool) → Rising (c.line + 1) (filter g cs) → Rising n (cond b (c ∷ filter g cs) (filter g cs))
    by_test true later = (rising.0, later)
    by_test false later = rising_lower n (c.line + 1) (filter g cs) (let first = rising.0 in omega (arith, first)) later

pub rising_at : (n k : ℕ) (cs : List Numbered) (c : Numbered) → Rising n cs → slice_get cs k ≡ Some c → n ≤ c.line
rising_at n k [] c rising here = absurd (no_some c here)
rising_at n zero (d ∷ cs) c rising here = subst (λ (x : Numbered). n ≤ x.line) (same_some d c here) rising.0
rising_at n (suc k) (d ∷ cs) c rising here =
    let later = rising_at (d.line + 1) k cs c rising.1 here in
    let first = rising.0 in
    omega (arith, later, first)

-- an earlier command has a lower line
rising_apart : (n : ℕ) (xs ys : List Numbered) (k m : ℕ) (c d : Numbered) → Rising n (xs ++ ys) →
    slice_get xs k ≡ Some c → slice_get ys m ≡ Some d → c.line < d.line
rising_apart n [] ys k m c d rising here there = absurd (no_some c here)
rising_apart n (x ∷ xs) ys zero m c d rising here there =
    let later = rising_at (x.line + 1) (length xs + m) (xs ++ ys) d rising.1 (place_behind xs ys m ∙ there) in
    subst (λ (z : Numbered). z.line < d.line) (same_some x c here) (omega (arith, later))
rising_apart n (x ∷ xs) ys (suc k) m c d rising here there =
    rising_apart (x.line + 1) xs ys k m c d rising.1 here there

-- the place of a line
first_rising : (n k : ℕ) (cs : List Numbered) (c : Numbered) → Rising n cs → slice_get cs k ≡ Some c →
    position_or_len (λ d. d.line == c.line) cs ≡ k
first_rising n k [] c rising here = absurd (no_some c here)
first_rising n zero (d ∷ cs) c rising here =
    let same : d ≡ c = same_some d c here in
    rw (same, eqb_self c.line) refl
first_rising n (suc k) (d ∷ cs) c rising here =
    let later = rising_at (d.line + 1) k cs c rising.1 here in
    rw (eq_later d.line c.line later, first_rising (d.line + 1) k cs c rising.1 here) (one_more k)
  where
    one_more : (k : ℕ) → 1 + k ≡ suc k
    one_more k = omega arith

below_length : (k n : ℕ) → k < n → ltb k n ≡ true
below_length k n below = grind (arith, nat_tests)

position_rising : (n k : ℕ) (cs : List Numbered) (c : Numbered) → Rising n cs → slice_get cs k ≡ Some c →
    position (λ d. d.line == c.line) cs ≡ Some k
position_rising n k cs c rising here =
    rw (first_rising n k cs c rising here, below_length k (length cs) (place_below cs k c here)) refl

pub position_at : (g : Numbered → Bool) (commands : List Numbered) (k : ℕ) (c : Numbered) → Rising 2 commands →
    slice_get (filter g (started commands)) k ≡ Some c →
    position (λ d. d.line == c.line) (filter g (started commands)) ≡ Some k
position_at g commands k c rising here =
    position_rising 2 k (filter g (started commands)) c
    (rising_kept g 2 (started commands) (rising_started 2 [] commands rising)) here

pub started-append : (before xs ys : List Numbered) →
    started_after before (xs ++ ys) ≡ started_after before xs ++ started_after (before ++ xs) ys
started-append before [] ys = ap (λ (b : List Numbered). started_after b ys) (sym (append-nil before))
started-append before (x ∷ xs) ys =
    by_test (is_taken before x.command) (started-append (before ++ x ∷ []) xs ys
    ∙ ap (λ (b : List Numbered). started_after (before ++ x ∷ []) xs ++ started_after b ys)
    (append_assoc before (x ∷ []) xs))
  where
    by_test : (b : Bool) → started_after (before ++ x ∷ []) (xs ++ ys)
        ≡ started_after (before ++ x ∷ []) xs ++ started_after (before ++ x ∷ xs) ys →
        cond b (x ∷ started_after (before ++ x ∷ []) (xs ++ ys)) (started_after (before ++ x ∷ []) (xs ++ ys))
        ≡ cond b (x ∷ started_after (before ++ x ∷ []) xs) (started_after (before ++ x ∷ []) xs)
        ++ started_after (before ++ x ∷ xs) ys
    by_test true later = ap (λ (cs : List Numbered). x ∷ cs) later
    by_test false later = later

pub started_from : (before cs : List Numbered) (k : ℕ) (c : Numbered) → slice_get (started_after before cs) k ≡ Some c →
    (m : ℕ) × (slice_get cs m ≡ Some c)
started_from before [] k c here = absurd (no_some c here)
started_from before (d ∷ cs) k c here =
    by_test (is_taken before d.command) k (λ j there. started_from (before ++ d ∷ []) cs j c there) here
  where
    by_test : (b : Bool) (k : ℕ) →
        ((j : ℕ) → slice_get (started_after (before ++ d ∷ []) cs) j ≡ Some c → (m : ℕ) × (slice_get cs m ≡ Some c)) →
        slice_get (cond b (d ∷ started_after (before ++ d ∷ []) cs) (started_after (before ++ d ∷ []) cs)) k ≡ Some c →
        (m : ℕ) × (slice_get (d ∷ cs) m ≡ Some c)
    by_test true zero later here = (zero, here)
    by_test true (suc k) later here = let more = later k here in (suc more.0, more.1)
    by_test false k later here = let more = later k here in (suc more.0, more.1)

-- where commands stand in two parts, so do those of their starts that pass
pub starts_split : (g : Numbered → Bool) (xs ys : List Numbered) →
    filter g (started (xs ++ ys)) ≡ filter g (started xs) ++ filter g (started_after xs ys)
starts_split g xs ys =
    ap (λ (cs : List Numbered). filter g cs) (started-append [] xs ys) ∙ filter-append g (started xs)
    (started_after xs ys)

-- a start of the first commands is one of all, at the same place, and is among the first commands
pub front_run : (g : Numbered → Bool) (xs ys : List Numbered) (k : ℕ) (s : Numbered) →
    slice_get (filter g (started xs)) k ≡ Some s →
    (slice_get (filter g (started (xs ++ ys))) k ≡ Some s) × (list_any (λ c. c.line == s.line) xs ≡ true)
front_run g xs ys k s here =
    let kept = kept_from g (started xs) k s here in
    let own = started_from [] xs kept.0 s kept.1 in (
      (rw (starts_split g xs ys) (get_before (filter g (started xs)) (filter g (started_after xs ys)) k s here)),
      at_any (λ c. c.line == s.line) xs own.0 s own.1 (eqb_self s.line),
    )

-- a start whose line is among the first commands is one of theirs
pub run_front : (g : Numbered → Bool) (n : ℕ) (xs ys : List Numbered) (k : ℕ) (s : Numbered) → Rising n (xs ++ ys) →
    slice_get (filter g (started (xs ++ ys))) k ≡ Some s → list_any (λ c. c.line == s.line) xs ≡ true →
    slice_get (filter g (started xs)) k ≡ Some s
run_front g n xs ys k s rising here ran =
    elim (place_split (filter g (started xs)) (filter g (started_after xs ys)) k s
    (subst (λ (cs : List Numbered). slice_get cs k ≡ Some s) (starts_split g xs ys) here)) [
      | inl first ↦ first
      | inr second ↦
          let kept = kept_from g (started_after xs ys) second.0 s second.2 in
          let own = started_from xs ys kept.0 s kept.1 in
          let some = any_at (λ (c : Numbered). c.line == s.line) xs ran in
          let low : some.1.line < s.line = rising_apart n xs ys some.0 own.0 some.1 s rising some.2 own.1 in
          let same : some.1.line ≡ s.line = same_number some.1.line s.line some.3 in
          absurd (omega (arith, low, same))
    ]
