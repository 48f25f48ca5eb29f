-- One step of the plain run: which lines ran, and how far it is to its end.
use Rattle.std.proofs.Common.{◌≡◌, ℕ, ◌+◌, ◌-◌, ◌<◌, ◌≤◌, ◌==◌, ◌||◌, zero, suc, Bool, true, false, Option, Some}
use Rattle.std.proofs.Common.{None, List, []}
use Rattle.std.proofs.Common.{◌∷◌, ◌++◌, length, get_or, refl, sym, ◌∙◌, ap, arith, inl, inr}
use Rattle.std.specs.Prelude.{option_map, replicate, slice_set, take, unwrap_or}
use Rattle.std.specs.List.{list_any, slice_get}
use Rattle.std.specs.Option.{option_map_or}
use Rattle.std.specs.declared.vec.Vec.{Vec}
use Rattle.std.proofs.lemmas.Bool.{false≢true}
use Rattle.std.proofs.lemmas.List.{length-replicate}
use Rattle.std.proofs.lemmas.List.Folds.{list_any-append}
use Rattle.std.proofs.lemmas.Option.{slice_get_read}
use Rattle.nm_types.specs.declared.scripts.Line.{Line}
use Rattle.nm_types.specs.Commands.{Numbered, commands_of}
use Rattle.nm_history.proofs.OnceLemmas.{eqb_self}
use Rattle.nm_sure.specs.Plain.{at_of, can_run, goes_on, next_of, next_rank, plain_after, plain_end, ran_of}
use Rattle.nm_sure.specs.Plain.{with_one_more}
use Rattle.nm_sure.specs.PlainText.{waits_at}
use Rattle.nm_sure.specs.Planned.{AreRan, IsPlan, is_run}
use Rattle.nm_sure.proofs.Assembled.{from_line}
use Rattle.nm_sure.proofs.Floor.{more_at}
use Rattle.nm_sure.proofs.Fuel.{at_start, end_length, next_in}
use Rattle.nm_sure.proofs.Standing.{OwnFrom, own_at}
use Rattle.nm_types.proofs.NumberLemmas.{same_number}
use Rattle.nm_types.proofs.OptionLemmas.{no_some, same_some}
use Rattle.nm_types.proofs.ListLemmas.{take_more, place_below}

-- a place that was set, and the others
set_here : {X : Type 0} (xs : List X) (i : ℕ) (v : X) → i < length xs → slice_get (slice_set xs i v) i ≡ Some v
set_here [] i v low = absurd (omega (arith, low))
set_here (x ∷ xs) zero v low = refl
set_here (x ∷ xs) (suc i) v low = set_here xs i v (omega (arith, low))

set_other : {X : Type 0} (xs : List X) (i k : ℕ) (v : X) → (k ≡ i → ⊥) → slice_get (slice_set xs i v) k ≡ slice_get xs k
set_other [] i k v other = refl
set_other (x ∷ xs) zero zero v other = absurd (other refl)
set_other (x ∷ xs) zero (suc k) v other = refl
set_other (x ∷ xs) (suc i) zero v other = refl
set_other (x ∷ xs) (suc i) (suc k) v other = set_other xs i k v (λ same. other (ap (λ (n : ℕ). suc n) same))

set_count : {X : Type 0} (xs : List X) (i : ℕ) (v : X) → length (slice_set xs i v) ≡ length xs
set_count [] i v = refl
set_count (x ∷ xs) zero v = refl
set_count (x ∷ xs) (suc i) v = ap (λ (k : ℕ). suc k) (set_count xs i v)

or_left : (b c : Bool) → c ≡ true → (b || (c || false)) ≡ true
or_left true c is = refl
or_left false true is = refl
or_left false false is = absurd (false≢true is)

or_none : (b c : Bool) → c ≡ false → (b || (c || false)) ≡ b
or_none true c is = refl
or_none false false is = refl
or_none false true is = absurd (false≢true (sym is))

-- the next command of a rank ran
module _ (lines : List Line) (at : List ℕ) (ran : List Bool) (rank : ℕ) (c : Numbered) (place : ℕ)
    (are : AreRan lines at ran)
    (next : next_of lines at rank ≡ Some c) (number : c.line ≡ place + 2) (low : rank < length at) where
  stands : OwnFrom lines rank 2 (at_of at rank) c
  stands = own_at lines rank (at_of at rank) c next

  here : slice_get lines place ≡ Some stands.line
  here =
      let same : place ≡ stands.place = (let is = stands.is in omega (arith, is, number)) in
      ap (λ (k : ℕ). slice_get lines k) same ∙ stands.here

  grown : ran_of lines (with_one_more at rank) rank ≡ ran_of lines at rank ++ c ∷ []
  grown =
      ap (λ (n : ℕ). take n (commands_of rank lines)) one ∙ take_more (commands_of rank lines) (at_of at rank) c next
    where
      one : at_of (with_one_more at rank) rank ≡ suc (at_of at rank)
      one =
          let sum : at_of at rank + 1 ≡ suc (at_of at rank) = omega arith in
          ap (λ (o : Option ℕ). unwrap_or o 0) (set_here at rank (at_of at rank + 1) low) ∙ sum

  -- a line of the rank
  own_line : (k : ℕ) (line : Line) → slice_get lines k ≡ Some line → line.rank ≡ rank →
      slice_get (slice_set ran place true) k ≡ Some (is_run lines (with_one_more at rank) k line)
  own_line k line there own = by_test (c.line == k + 2) refl
    where
      now : is_run lines (with_one_more at rank) k line ≡ (is_run lines at k line || (c.line == k + 2 || false))
      now =
          ap (λ (r : ℕ). list_any (λ d. d.line == k + 2) (ran_of lines (with_one_more at rank) r)) own
          ∙ ap (λ (cs : List Numbered). list_any (λ d. d.line == k + 2) cs) grown
          ∙ list_any-append (λ d. d.line == k + 2) (ran_of lines at rank) (c ∷ [])
          ∙ ap (λ (r : ℕ). list_any (λ d. d.line == k + 2) (ran_of lines at r) || (c.line == k + 2 || false)) (sym own)

      by_test : (b : Bool) → (c.line == k + 2) ≡ b → slice_get (slice_set ran place true) k ≡ Some
          (is_run lines (with_one_more at rank) k line)
      by_test true is =
          let same : k ≡ place = (let line = same_number c.line (k + 2) is in omega (arith, line, number)) in
          let short : place < length ran = (let below = place_below lines place stands.line here in
          let count = are.count in omega (arith, below, count)) in
          ap (λ (m : ℕ). slice_get (slice_set ran place true) m) same ∙ set_here ran place true short
          ∙ ap (λ (b : Bool). Some b) (sym (now ∙ or_left (is_run lines at k line) (c.line == k + 2) is))
      by_test false is =
          set_other ran place k true
          (λ same. false≢true (sym is ∙ ap (λ (n : ℕ). n == k + 2) (number ∙ ap (λ (m : ℕ). m + 2) (sym same))
          ∙ eqb_self (k + 2)))
          ∙ are.each k line there
          ∙ ap (λ (b : Bool). Some b) (sym (now ∙ or_none (is_run lines at k line) (c.line == k + 2) is))

  -- a line of another rank
  other_line : (k : ℕ) (line : Line) → slice_get lines k ≡ Some line → (line.rank ≡ rank → ⊥) →
      slice_get (slice_set ran place true) k ≡ Some (is_run lines (with_one_more at rank) k line)
  other_line k line there other =
      set_other ran place k true (λ same. other (
      ap (λ (l : Line). l.rank)
      (same_some line stands.line (sym there ∙ ap (λ (m : ℕ). slice_get lines m) same ∙ here)) ∙ stands.own))
      ∙ are.each k line there
      ∙ ap (λ (n : ℕ). Some (list_any (λ d. d.line == k + 2) (take n (commands_of line.rank lines)))) (sym kept)
    where
      kept : at_of (with_one_more at rank) line.rank ≡ at_of at line.rank
      kept = elim (more_at at rank line.rank) [
        | inl same ↦ same
        | inr moved ↦ absurd (other moved.0)
      ]

  pub ran_more : AreRan lines (with_one_more at rank) (slice_set ran place true)
  ran_more = record {
    count = set_count ran place true ∙ are.count;
    each = λ k line there. by_rank k line there (line.rank == rank) refl;
  }
    where
      apart : (a b : ℕ) → (a == b) ≡ false → a ≡ b → ⊥
      apart a b is same = false≢true (sym is ∙ ap (λ (n : ℕ). n == b) same ∙ eqb_self b)

      by_rank : (k : ℕ) (line : Line) → slice_get lines k ≡ Some line → (b : Bool) → (line.rank == rank) ≡ b →
          slice_get (slice_set ran place true) k ≡ Some (is_run lines (with_one_more at rank) k line)
      by_rank k line there true is = own_line k line there (same_number line.rank rank is)
      by_rank k line there false is = other_line k line there (apart line.rank rank is)

-- the next command by its number
pub next_command : (lines : List Line) (at : List ℕ) (rank number : ℕ) → waits_at lines at rank ≡ Some number →
    (c : Numbered) × (next_of lines at rank ≡ Some c) × (c.line ≡ number)
next_command lines at rank number next = by_next (next_of lines at rank) refl next
  where
    by_next : (o : Option Numbered) → next_of lines at rank ≡ o → option_map (λ (c : Numbered). c.line) o
        ≡ Some number →
        (c : Numbered) × (next_of lines at rank ≡ Some c) × (c.line ≡ number)
    by_next None own next = absurd (no_some number next)
    by_next (Some c) own next = (c, own, same_some c.line number next)

-- the rank of a next command is one of the run, and fewer of its commands ran than there are lines
pub next_within : {A : Type 0} (lines : List Line) (ranks : List (Vec ℕ A)) (held partners : List (Option ℕ))
    (at : List ℕ) (rank : ℕ) (c : Numbered) →
    IsPlan lines ranks held partners → next_of lines at rank ≡ Some c → (rank < length ranks) × (at_of at rank < 65536)
next_within lines ranks held partners at rank c plan next =
    let o = own_at lines rank (at_of at rank) c next in
    let low = o.low in
    let below = place_below lines o.place o.line o.here in
    let few = plan.limits.few_lines in (
      (from_line (length ranks) rank 2 lines (at_of at rank) c plan.limits.lines_in_range next).0,
      omega
          (arith, low, below, few),
    )

-- how many ran, as it is read
pub at_read : (at : List ℕ) (rank x : ℕ) → rank < length at → x ≡ get_or at rank x → x ≡ at_of at rank
at_read at rank x low here =
    sym (ap (λ (o : Option ℕ). unwrap_or o 0) (slice_get_read at (length at) rank x refl low here))

-- what can run has a next command
can_next : (eager : ℕ) (lines : List Line) (at : List ℕ) (rank : ℕ) → can_run eager lines at rank ≡ true →
    (c : Numbered) × (next_of lines at rank ≡ Some c)
can_next eager lines at rank can = by_next (next_of lines at rank) refl can
  where
    by_next : (o : Option Numbered) → next_of lines at rank ≡ o →
        option_map_or (λ c. goes_on eager lines at rank c.command) o false ≡ true →
        (c : Numbered) × (next_of lines at rank ≡ Some c)
    by_next None next can = absurd (false≢true can)
    by_next (Some c) next can = (c, next)

pub chosen_next : (eager : ℕ) (lines : List Line) (at : List ℕ) (rank : ℕ) → next_rank eager lines at ≡ Some rank →
    (c : Numbered) × (next_of lines at rank ≡ Some c)
chosen_next eager lines at rank chosen = can_next eager lines at rank (next_in eager lines at rank chosen).1

-- a step on the way to the end
pub step_on : (eager : ℕ) (lines : List Line) (at new F : List ℕ) (rank n m : ℕ) →
    next_rank eager lines at ≡ Some rank →
    new ≡ with_one_more at rank → m < n → plain_after eager lines (n - m) at ≡ F →
    plain_after eager lines (n - (m + 1)) new ≡ F
unfolding plain_after
step_on eager lines at new F rank n m chosen moved low far =
    ap (λ (f : List ℕ). plain_after eager lines (n - (m + 1)) f) moved
    ∙ ap (λ (o : Option ℕ). option_map_or (λ r. plain_after eager lines (n - (m + 1)) (with_one_more at r)) o at)
    (sym chosen)
    ∙ ap (λ (k : ℕ). plain_after eager lines k at) one
    ∙ far
  where
    one : suc (n - (m + 1)) ≡ n - m
    one = omega (arith, low)

-- no step is left
pub step_none : (eager : ℕ) (lines : List Line) (at : List ℕ) (n : ℕ) → next_rank eager lines at ≡ None →
    plain_after eager lines n at ≡ at
unfolding plain_after
step_none eager lines at zero none = refl
step_none eager lines at (suc n) none =
    ap (λ (o : Option ℕ). option_map_or (λ r. plain_after eager lines n (with_one_more at r)) o at) none

pub step_last : (eager : ℕ) (lines : List Line) (at F : List ℕ) (n m : ℕ) → n ≤ m → plain_after eager lines (n - m) at
    ≡ F → at ≡ F
unfolding plain_after
step_last eager lines at F n m high far =
    let none : 0 ≡ n - m = omega (arith, high) in
    ap (λ (k : ℕ). plain_after eager lines k at) none ∙ far

-- no more commands of a rank run than it has
pub within_end : (eager : ℕ) (lines : List Line) (more : ℕ) (at : List ℕ) →
    ((r : ℕ) → at_of at r ≤ length (commands_of r lines)) →
    (r : ℕ) → at_of (plain_after eager lines more at) r ≤ length (commands_of r lines)
unfolding plain_after
within_end eager lines zero at within = within
within_end eager lines (suc more) at within =
    by_next (next_rank eager lines at) refl (λ i within. within_end eager lines more (with_one_more at i) within)
  where
    grown : (i : ℕ) → next_rank eager lines at ≡ Some i →
        (r : ℕ) → at_of (with_one_more at i) r ≤ length (commands_of r lines)
    grown i chosen r = elim (more_at at i r) [
      | inl same ↦ let low = within r in omega (arith, same, low)
      | inr moved ↦
          let next = chosen_next eager lines at i chosen in
          let below = place_below (commands_of i lines) (at_of at i) next.0 next.1 in
          let same : length (commands_of r lines) ≡ length (commands_of i lines) =
          ap (λ (k : ℕ). length (commands_of k lines)) moved.0 in
          let one = moved.1 in
          omega (arith, below, same, one)
    ]

    by_next : (o : Option ℕ) → next_rank eager lines at ≡ o →
        ((i : ℕ) → ((r : ℕ) → at_of (with_one_more at i) r ≤ length (commands_of r lines)) →
        (r : ℕ) → at_of (plain_after eager lines more (with_one_more at i)) r ≤ length (commands_of r lines)) →
        (r : ℕ) → at_of (option_map_or (λ i. plain_after eager lines more (with_one_more at i)) o at) r ≤ length
        (commands_of r lines)
    by_next None chosen later = within
    by_next (Some i) chosen later = later i (grown i chosen)

pub end_within : (eager ranks : ℕ) (lines : List Line) (r : ℕ) → at_of (plain_end eager ranks lines) r ≤ length
    (commands_of r lines)
end_within eager ranks lines r =
    within_end eager lines (length lines) (replicate ranks 0) (λ s. let none = at_start eager lines ranks s in
    omega (arith, none)) r

pub end_counts : (eager ranks : ℕ) (lines : List Line) → length (plain_end eager ranks lines) ≡ ranks
end_counts eager ranks lines = end_length eager lines (length lines) (replicate ranks 0) ∙ length-replicate ranks 0
