-- The command of a rank that comes after so many.
use Rattle.std.proofs.Common.{◌≡◌, ℕ, ◌+◌, ◌-◌, ◌<◌, ◌≤◌, ◌==◌, ◌&&◌, suc, Bool, true, false, not, cond, Option, Some, None}
use Rattle.std.proofs.Common.{List, ◌∷◌, length, drop, get_or, refl, sym, ◌∙◌, ap, subst, arith, add-one}
use Rattle.std.specs.Prelude.{IsSomeAnd, MatchOption, is_some}
use Rattle.std.specs.List.{slice_get}
use Rattle.std.proofs.lemmas.Bool.{false≢true}
use Rattle.std.proofs.lemmas.Bool.Decides.{nat_tests}
use Rattle.std.proofs.lemmas.List.{drop_all}
use Rattle.std.proofs.lemmas.Option.{none-some, slice_get-get_or, slice_get_within}
use Rattle.std.proofs.Math.Seq.{drop-cons}
use Rattle.nm_types.specs.declared.scripts.Line.{Line}
use Rattle.nm_types.specs.Commands.{Numbered, commands_from, commands_of}
use Rattle.nm_types.proofs.NumberLemmas.{eq_true}
use Rattle.nm_history.specs.Answers.{can_go_on}
use Rattle.nm_history.specs.Quiescence.{Ended, IsStopped}
use Rattle.nm_lookups.specs.Deciding.{Decides}
use Rattle.nm_check.specs.RestBreaks.{IsNext}
use Rattle.nm_check.specs.declared.rest.waits.Next.TheVariants as next

other_line : (a b : ℕ) → (a ≡ b → ⊥) → (a == b) ≡ false
other_line a b apart = grind (arith, nat_tests)

module _ (rank at : ℕ) (lines : List Line) where
  -- the command is the one after so many of those from a line on
  abbrev pub ComesAfter : ℕ → ℕ → Type 0
  ComesAfter k left = slice_get (commands_of rank lines) at ≡ slice_get (commands_from rank (k + 2) (drop k lines)) left

  module _ (k left : ℕ) (l : Line) (inside : k < length lines) (is : l ≡ get_or lines k l) (after : ComesAfter k left)
    where
      first_line : drop k lines ≡ l ∷ drop (k + 1) lines
      first_line = drop-cons lines k l inside ∙ ap (λ (x : Line). x ∷ drop (suc k) lines) (sym is)
          ∙ ap (λ (n : ℕ). l ∷ drop n lines) (sym (add-one k))

      rest_is : commands_from rank ((k + 2) + 1) (drop (k + 1) lines) ≡ commands_from rank ((k + 1) + 2)
          (drop (k + 1) lines)
      rest_is = let same : (k + 2) + 1 ≡ (k + 1) + 2 = omega arith in
          ap (λ (n : ℕ). commands_from rank n (drop (k + 1) lines)) same

      from_here : (b : Bool) → (l.rank == rank) ≡ b →
          slice_get (commands_of rank lines) at
          ≡ slice_get (cond b (record { line = k + 2; command = l.command } ∷ commands_from rank ((k + 1) + 2)
          (drop (k + 1) lines))
          (commands_from rank ((k + 1) + 2) (drop (k + 1) lines))) left
      from_here b same =
          after ∙ ap (λ (ls : List Line). slice_get (commands_from rank (k + 2) ls) left) first_line
          ∙ ap (λ (b : Bool). slice_get
          (cond b (record { line = k + 2; command = l.command } ∷ commands_from rank ((k + 2) + 1) (drop (k + 1) lines))
          (commands_from rank ((k + 2) + 1) (drop (k + 1) lines))) left) same
          ∙ ap (λ (cs : List Numbered). slice_get (cond b (record { line = k + 2; command = l.command } ∷ cs) cs) left)
          rest_is

      -- it is this line's
      pub it_is : l.rank ≡ rank → left ≡ 0 → IsSomeAnd (slice_get lines k)
          (λ l. slice_get (commands_of rank lines) at ≡ Some (record { line = k + 2; command = l.command }))
      it_is own none =
          subst (λ (o : Option Line). IsSomeAnd o
          (λ l. slice_get (commands_of rank lines) at ≡ Some (record { line = k + 2; command = l.command })))
          (sym (slice_get-get_or lines k l inside ∙ ap (λ (x : Line). Some x) (sym is)))
          (from_here true (eq_true l.rank rank own)
          ∙ ap (λ (n : ℕ). slice_get (record { line = k + 2; command = l.command } ∷ commands_from rank ((k + 1) + 2)
          (drop (k + 1) lines)) n) none)

      -- .. or comes behind it
      pub behind_own : l.rank ≡ rank → (left ≡ 0 → ⊥) → ComesAfter (k + 1) (left - 1)
      behind_own own some =
          let more : left ≡ suc (left - 1) = omega arith in
          from_here true (eq_true l.rank rank own)
          ∙ ap (λ (n : ℕ). slice_get (record { line = k + 2; command = l.command } ∷ commands_from rank ((k + 1) + 2)
          (drop (k + 1) lines)) n) more

      pub behind_other : (l.rank ≡ rank → ⊥) → ComesAfter (k + 1) left
      behind_other apart = from_here false (other_line l.rank rank apart)

  -- there is none behind the last line
  pub none_behind : (k left : ℕ) → length lines ≤ k → ComesAfter k left → slice_get (commands_of rank lines) at ≡ None
  none_behind k left over after = after ∙ ap (λ (ls : List Line). slice_get (commands_from rank (k + 2) ls) left)
      (drop_all k lines over)

-- a place of which something is so is inside
pub some_inside : {X : Type 0} (xs : List X) (k : ℕ) (P : X → Type 0) → IsSomeAnd (slice_get xs k) P → k < length xs
some_inside {X} xs k P = by_item (slice_get xs k) refl
  where
    by_item : (o : Option X) → slice_get xs k ≡ o → IsSomeAnd o P → k < length xs
    by_item None is there = absurd there
    by_item (Some x) is there = slice_get_within xs k x is

-- what is decided by whether there is something
pub none_decided : {X : Type 0} (P : Type 0) (o : Option X) (none : Bool) → is_some o ≡ not none →
    Decides (not (is_some o)) P → Decides none P
none_decided P o true is decided = subst (λ (b : Bool). Decides (not b) P) is decided
none_decided P o false is decided = subst (λ (b : Bool). Decides (not b) P) is decided

-- a rank of which no command is left stands where it is at its end
pub end_decided : (commands : List Numbered) (e : Ended) → slice_get commands e.at ≡ None →
    Decides (not (is_some e.waits)) (IsStopped commands e)
end_decided commands e none =
    subst (λ (o : Option Numbered). Decides (not (is_some e.waits)) (MatchOption o (e.waits ≡ None)
    (λ c. (e.waits ≡ Some c.line) × (can_go_on commands e.events c.command ≡ false)))) (sym none) (by_waits e.waits)
  where
    by_waits : (waits : Option ℕ) → Decides (not (is_some waits)) (waits ≡ None)
    by_waits None = refl
    by_waits (Some line) = λ same. none-some line (sym same)

-- .. and another one where it waits for its next command, which can't go on
pub wait_decided : (commands : List Numbered) (e : Ended) (line : ℕ) (goes_on waiting : Bool) →
    IsNext commands e (next.Command line goes_on) → Decides waiting (e.waits ≡ Some line) →
    Decides (waiting && not goes_on) (IsStopped commands e)
wait_decided commands e line goes_on waiting its decided = by_next (slice_get commands e.at) its
  where
    by_case : (c : Numbered) (w g : Bool) → c.line ≡ line → can_go_on commands e.events c.command ≡ g →
        Decides w (e.waits ≡ Some line) →
        Decides (w && not g) ((e.waits ≡ Some c.line) × (can_go_on commands e.events c.command ≡ false))
    by_case c true false same can waits = (waits ∙ ap (λ (n : ℕ). Some n) (sym same), can)
    by_case c true true same can waits = λ both. false≢true (sym both.1 ∙ can)
    by_case c false g same can apart = λ both. apart (both.0 ∙ ap (λ (n : ℕ). Some n) same)

    by_next : (o : Option Numbered) →
        IsSomeAnd o (λ c. (c.line ≡ line) × (can_go_on commands e.events c.command ≡ goes_on)) →
        Decides (waiting && not goes_on) (MatchOption o (e.waits ≡ None)
        (λ c. (e.waits ≡ Some c.line) × (can_go_on commands e.events c.command ≡ false)))
    by_next None there = absurd there
    by_next (Some c) there = by_case c waiting goes_on there.0 there.1 decided
