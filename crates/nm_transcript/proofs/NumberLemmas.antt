-- The numbers of a rank's lines, and a record by these.
use Rattle.std.proofs.Common.{◌≡◌, ℕ, suc, ◌+◌, ◌<◌, ◌≤◌, ◌==◌, Bool, true, false, cond, List}
use Rattle.std.proofs.Common.{[], ◌∷◌, ◌++◌, length, drop, get_or, map, refl, sym, ◌∙◌, ap, subst, arith, append_assoc, append-nil}
use Rattle.std.specs.Prelude.{if◌then◌else◌, IfSome}
use Rattle.std.proofs.lemmas.List.{drop_all, drop_more, length_push}
use Rattle.std.specs.List.{slice_get}
use Rattle.nm_types.specs.declared.scripts.Line.{Line}
use Rattle.nm_types.specs.Commands.{Numbered, commands_from}
use Rattle.nm_history.specs.declared.events.Event.{Event}
use Rattle.nm_history.specs.declared.events.Happened.{Happened}
use Rattle.nm_history.specs.Happens.{at}
use Rattle.nm_history.specs.Quiescence.{Ended}
use Rattle.nm_report.specs.declared.accounts.RankAccount.{RankAccount}
use Rattle.nm_report.specs.Ends.{end_of_account, ends_of}
use Rattle.nm_transcript.specs.Transcripts.{IsEndOf, numbers_of}
use Rattle.nm_transcript.specs.Renumbered.{number_in, renumbered, renumbered_end, renumbered_ends, renumbered_event}

-- a line more
pub number_more : (rank n : ℕ) (line : Line) (lines : List Line) (numbers more whole : List ℕ) →
    more ≡ numbers ++ (if line.rank == rank then n ∷ [] else []) →
    numbers ++ map (λ (c : Numbered). c.line) (commands_from rank n (line ∷ lines)) ≡ whole →
    more ++ map (λ (c : Numbered). c.line) (commands_from rank (n + 1) lines) ≡ whole
number_more rank n line lines numbers more whole grown so_far =
    ap (λ (xs : List ℕ). xs ++ map (λ (c : Numbered). c.line) (commands_from rank (n + 1) lines)) grown
    ∙ by (line.rank == rank) ∙ so_far where
      by : (b : Bool) →
          (numbers ++ (if b then n ∷ [] else [])) ++ map (λ (c : Numbered). c.line) (commands_from rank (n + 1) lines)
          ≡ numbers ++ map (λ (c : Numbered). c.line)
          (cond b (record { line = n; command = line.command } ∷ commands_from rank (n + 1) lines)
          (commands_from rank (n + 1) lines))
      by true = append_assoc numbers (n ∷ []) (map (λ (c : Numbered). c.line) (commands_from rank (n + 1) lines))
      by false =
          append_assoc numbers [] (map (λ (c : Numbered). c.line) (commands_from rank (n + 1) lines))

pub numbers_step : (lines : List Line) (rank place : ℕ) (line : Line) (numbers more : List ℕ) → place < length lines →
    line ≡ get_or lines place line → more ≡ numbers ++ (if line.rank == rank then (place + 2) ∷ [] else []) →
    numbers ++ map (λ (c : Numbered). c.line) (commands_from rank (place + 2) (drop place lines)) ≡ numbers_of lines rank →
    more ++ map (λ (c : Numbered). c.line) (commands_from rank ((place + 1) + 2) (drop (place + 1) lines))
    ≡ numbers_of lines rank
numbers_step lines rank place line numbers more low read grown so_far =
    let sum : (place + 2) + 1 ≡ (place + 1) + 2 = omega arith in
    let split : drop place lines ≡ line ∷ drop (place + 1) lines =
    drop_more lines place line low ∙ ap (λ (l : Line). l ∷ drop (place + 1) lines) (sym read) in
    subst (λ (n : ℕ). more ++ map (λ (c : Numbered). c.line) (commands_from rank n (drop (place + 1) lines))
    ≡ numbers_of lines rank) sum
    (number_more rank (place + 2) line (drop (place + 1) lines) numbers more (numbers_of lines rank) grown
    (subst (λ (ls : List Line). numbers ++ map (λ (c : Numbered). c.line) (commands_from rank (place + 2) ls)
    ≡ numbers_of lines rank) split so_far))

pub numbers_done : (lines : List Line) (rank place : ℕ) (numbers : List ℕ) → length lines ≤ place →
    numbers ++ map (λ (c : Numbered). c.line) (commands_from rank (place + 2) (drop place lines)) ≡ numbers_of lines rank →
    numbers ≡ numbers_of lines rank
numbers_done lines rank place numbers all so_far =
    sym (append-nil numbers)
    ∙ ap (λ (ls : List Line). numbers ++ map (λ (c : Numbered). c.line) (commands_from rank (place + 2) ls))
    (sym (drop_all place lines all))
    ∙ so_far

-- an event by its parts
pub event_is : (f : ℕ → ℕ) (y x : Event) → y.stamp ≡ x.stamp → y.what ≡ renumbered f x.what → y ≡ renumbered_event f x
event_is f y x stamp what =
    ap (λ (s : ℕ). at s y.what) stamp ∙ ap (λ (w : Happened). at x.stamp w) what

-- a rank more
pub rank_more : (f : ℕ → ℕ → ℕ) (ranks later more : List RankAccount) (x y : RankAccount) (left : List RankAccount)
    (k : ℕ) (whole : List Ended) → k ≡ length later → ranks ≡ x ∷ left → more ≡ later ++ y ∷ [] →
    end_of_account y ≡ renumbered_end (f k) (end_of_account x) →
    ends_of later ++ renumbered_ends f (length later) (ends_of ranks) ≡ whole →
    ends_of more ++ renumbered_ends f (length more) (ends_of left) ≡ whole
rank_more f ranks later more x y left k whole place split grown one so_far =
    let longer : length more ≡ length later + 1 = ap (λ (xs : List RankAccount). length xs) grown ∙ pushed later y in
    ap (λ (n : ℕ). ends_of more ++ renumbered_ends f n (ends_of left)) longer
    ∙ ap (λ (xs : List RankAccount). ends_of xs ++ renumbered_ends f (length later + 1) (ends_of left)) grown
    ∙ ap (λ (es : List Ended). es ++ renumbered_ends f (length later + 1) (ends_of left)) (ends_pushed later y)
    ∙ append_assoc (ends_of later) (end_of_account y ∷ []) (renumbered_ends f (length later + 1) (ends_of left))
    ∙ ap (λ (e : Ended). ends_of later ++ e ∷ renumbered_ends f (length later + 1) (ends_of left))
    (one ∙ ap (λ (n : ℕ). renumbered_end (f n) (end_of_account x)) place)
    ∙ ap (λ (xs : List RankAccount). ends_of later ++ renumbered_ends f (length later) (ends_of xs)) (sym split)
    ∙ so_far where
      pushed : (xs : List RankAccount) (z : RankAccount) → length (xs ++ z ∷ []) ≡ length xs + 1
      pushed [] z = omega arith
      pushed (w ∷ xs) z = let rest = pushed xs z in omega (arith, rest)

      ends_pushed : (xs : List RankAccount) (z : RankAccount) →
          ends_of (xs ++ z ∷ []) ≡ ends_of xs ++ end_of_account z ∷ []
      ends_pushed [] z = refl
      ends_pushed (w ∷ xs) z = ap (λ (es : List Ended). end_of_account w ∷ es) (ends_pushed xs z)

pub ranks_done : (f : ℕ → ℕ → ℕ) (ranks later : List RankAccount) (whole : List Ended) → ranks ≡ [] →
    ends_of later ++ renumbered_ends f (length later) (ends_of ranks) ≡ whole → ends_of later ≡ whole
ranks_done f ranks later whole none so_far =
    sym (append-nil (ends_of later))
    ∙ ap (λ (xs : List RankAccount). ends_of later ++ renumbered_ends f (length later) (ends_of xs)) (sym none)
    ∙ so_far

-- what holds of each rank from one on
pub each_left : (P : ℕ → Ended → Type 0) (ranks left : List RankAccount) (x : RankAccount) (k : ℕ) → ranks ≡ x ∷ left →
    ((i : ℕ) → IfSome (slice_get (ends_of ranks) i) (P (k + i))) →
    P k (end_of_account x) × ((i : ℕ) → IfSome (slice_get (ends_of left) i) (P ((k + 1) + i)))
each_left P ranks left x k split each =
    let all = subst (λ (xs : List RankAccount). (i : ℕ) → IfSome (slice_get (ends_of xs) i) (P (k + i))) split each in
    let here : k + 0 ≡ k = omega arith in
    (subst (λ (n : ℕ). P n (end_of_account x)) here (all 0), later all) where
      later : ((i : ℕ) → IfSome (slice_get (ends_of (x ∷ left)) i) (P (k + i))) → (i : ℕ) →
          IfSome (slice_get (ends_of left) i) (P ((k + 1) + i))
      later all i =
          let sum : k + suc i ≡ (k + 1) + i = omega arith in
          subst (λ (n : ℕ). IfSome (slice_get (ends_of left) i) (P n)) sum (all (suc i))

pub account_step : (lines : List Line) (ranks left later more : List RankAccount) (x y : RankAccount) (k : ℕ)
    (numbers : List ℕ) (whole : List Ended) → k ≡ length later → numbers ≡ numbers_of lines k → ranks ≡ x ∷ left →
    more ≡ later ++ y ∷ [] → end_of_account y ≡ renumbered_end (number_in numbers) (end_of_account x) →
    ends_of later ++ renumbered_ends (λ i. number_in (numbers_of lines i)) (length later) (ends_of ranks) ≡ whole →
    ends_of more ++ renumbered_ends (λ i. number_in (numbers_of lines i)) (length more) (ends_of left) ≡ whole
account_step lines ranks left later more x y k numbers whole place are split grown one so_far =
    rank_more (λ i. number_in (numbers_of lines i)) ranks later more x y left k whole place split grown
    (one ∙ ap (λ (ns : List ℕ). renumbered_end (number_in ns) (end_of_account x)) are) so_far

pub own_here : (lines : List Line) (ranks left later : List RankAccount) (x : RankAccount) (k : ℕ) (numbers : List ℕ) →
    ranks ≡ x ∷ left → k ≡ length later → numbers ≡ numbers_of lines k →
    ((i : ℕ) → IfSome (slice_get (ends_of ranks) i) (IsEndOf (length (numbers_of lines (length later + i))))) →
    IsEndOf (length numbers) (end_of_account x)
own_here lines ranks left later x k numbers split place are each =
    let parts = each_left (λ i. IsEndOf (length (numbers_of lines i))) ranks left x (length later) split each in
    subst (λ (ns : List ℕ). IsEndOf (length ns) (end_of_account x)) (sym are)
    (subst (λ (n : ℕ). IsEndOf (length (numbers_of lines n)) (end_of_account x)) (sym place) parts.0)

-- what holds of the ranks that are left
pub own_step : (lines : List Line) (ranks left later more : List RankAccount) (x y : RankAccount) → ranks ≡ x ∷ left →
    more ≡ later ++ y ∷ [] →
    ((i : ℕ) → IfSome (slice_get (ends_of ranks) i) (IsEndOf (length (numbers_of lines (length later + i))))) →
    IsEndOf (length (numbers_of lines (length later))) (end_of_account x)
    × ((i : ℕ) → IfSome (slice_get (ends_of left) i) (IsEndOf (length (numbers_of lines (length more + i)))))
own_step lines ranks left later more x y split grown each =
    let parts = each_left (λ i. IsEndOf (length (numbers_of lines i))) ranks left x (length later) split each in
    let longer : length later + 1 ≡ length more =
    sym (ap (λ (xs : List RankAccount). length xs) grown ∙ length_push later y) in (
      parts.0,
      subst (λ (k : ℕ). (i : ℕ) → IfSome (slice_get (ends_of left) i) (IsEndOf (length (numbers_of lines (k + i)))))
          longer parts.1,
    )
