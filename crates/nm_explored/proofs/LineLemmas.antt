-- The commands of a rank, line by line.
use Rattle.std.proofs.Common.{◌≡◌, ℕ, zero, suc, ◌+◌, ◌-◌, ◌<◌, ◌≤◌, ◌==◌, ◌&&◌, Bool, true, false, cond, Option, Some}
use Rattle.std.proofs.Common.{None, List, [], ◌∷◌, length, drop, refl, sym, ◌∙◌, ap, arith}
use Rattle.std.specs.Prelude.{if◌then◌else◌, nat_eq, option_map}
use Rattle.std.specs.List.{slice_get}
use Rattle.std.specs.Option.{option_map_or}
use Rattle.std.proofs.lemmas.Bool.{false≢true}
use Rattle.nm_types.specs.declared.scripts.Line.{Line}
use Rattle.nm_types.specs.Commands.{Numbered, commands_from}
use Rattle.nm_types.proofs.ListLemmas.{get_some, no_item}
use Rattle.nm_types.proofs.OptionLemmas.{same_some}

-- what follows an element
dropped : {X : Type 0} (xs : List X) (k : ℕ) (x : X) → slice_get xs k ≡ Some x → drop k xs ≡ x ∷ drop (k + 1) xs
dropped [] k x here = absurd (no_item k x here)
dropped {X} (y ∷ ys) zero x here = ap (λ (z : X). z ∷ ys) (same_some y x here)
dropped (y ∷ ys) (suc k) x here =
    let e : suc k + 1 ≡ suc (k + 1) = omega arith in
    dropped ys k x here ∙ ap (λ n. x ∷ drop n (y ∷ ys)) (sym e)

drop_past : {X : Type 0} (xs : List X) (k : ℕ) → length xs ≤ k → drop k xs ≡ []
drop_past [] zero past = refl
drop_past [] (suc k) past = refl
drop_past (y ∷ ys) zero past = absurd (omega (arith, past))
drop_past (y ∷ ys) (suc k) past = let x : length ys ≤ k = omega (arith, past) in drop_past ys k x

-- the command of a rank behind this many others, from the line at a place on
abbrev pub left_at : ℕ → List Line → ℕ → ℕ → Option Numbered
left_at rank lines k left = slice_get (commands_from rank (k + 2) (drop k lines)) left

-- a line is of this rank
abbrev pub owns : ℕ → List Line → ℕ → Bool
owns rank lines k = option_map_or (λ (line : Line). line.rank == rank) (slice_get lines k) false

module _ (rank : ℕ) (lines : List Line) (k : ℕ) (below : k < length lines) where
  pub own_here : owns rank lines k ≡ true → option_map (λ (c : Numbered). c.line) (left_at rank lines k 0) ≡ Some
      (k + 2)
  own_here own =
      let x = get_some lines k below in
      let mine : (x.0.rank == rank) ≡ true =
      ap (λ (o : Option Line). option_map_or (λ (line : Line). line.rank == rank) o false)
      (sym x.1) ∙ own in
      ap (λ (ls : List Line). option_map (λ (c : Numbered). c.line) (slice_get (commands_from rank (k + 2) ls) 0))
      (dropped lines k x.0 x.1)
      ∙ ap (λ (b : Bool). option_map (λ (c : Numbered). c.line) (slice_get
      (cond b (record { line = k + 2; command = x.0.command } ∷ commands_from rank (k + 2 + 1) (drop (k + 1) lines))
      (commands_from rank (k + 2 + 1) (drop (k + 1) lines))) 0)) mine

  next_by : (own : Bool) (left next : ℕ) (x : Line) → (x.rank == rank) ≡ own → (own && nat_eq left 0) ≡ false →
      next ≡ (if own then left - 1 else left) →
      slice_get (commands_from rank (k + 2) (x ∷ drop (k + 1) lines)) left
      ≡ slice_get (commands_from rank (k + 2 + 1) (drop (k + 1) lines)) next
  next_by true zero next x mine some is = absurd (false≢true (sym some))
  next_by true (suc left) next x mine some is =
      let e : left ≡ next = omega (arith, is) in
      ap (λ (b : Bool). slice_get
      (cond b (record { line = k + 2; command = x.command } ∷ commands_from rank (k + 2 + 1) (drop (k + 1) lines))
      (commands_from rank (k + 2 + 1) (drop (k + 1) lines))) (suc left)) mine
      ∙ ap (λ (n : ℕ). slice_get (commands_from rank (k + 2 + 1) (drop (k + 1) lines)) n) e
  next_by false left next x mine some is =
      ap (λ (b : Bool). slice_get
      (cond b (record { line = k + 2; command = x.command } ∷ commands_from rank (k + 2 + 1) (drop (k + 1) lines))
      (commands_from rank (k + 2 + 1) (drop (k + 1) lines))) left) mine
      ∙ ap (λ (n : ℕ). slice_get (commands_from rank (k + 2 + 1) (drop (k + 1) lines)) n) (sym is)

  pub own_next : (own : Bool) (left next : ℕ) → owns rank lines k ≡ own → (own && nat_eq left 0) ≡ false →
      next ≡ (if own then left - 1 else left) → left_at rank lines (k + 1) next ≡ left_at rank lines k left
  own_next own left next mine some is =
      let x = get_some lines k below in
      let e : k + 2 + 1 ≡ k + 1 + 2 = omega arith in
      sym (ap (λ (ls : List Line). slice_get (commands_from rank (k + 2) ls) left) (dropped lines k x.0 x.1)
      ∙ next_by own left next x.0
      (ap (λ (o : Option Line). option_map_or (λ (line : Line). line.rank == rank) o false) (sym x.1) ∙ mine) some is
      ∙ ap (λ (n : ℕ). slice_get (commands_from rank n (drop (k + 1) lines)) next) e)

pub none_left : (rank : ℕ) (lines : List Line) (k left : ℕ) → length lines ≤ k → left_at rank lines k left ≡ None
none_left rank lines k left past =
    ap (λ (ls : List Line). slice_get (commands_from rank (k + 2) ls) left) (drop_past lines k past)
    ∙ nothing left
  where
    nothing : (left : ℕ) → slice_get {X = Numbered} [] left ≡ None
    nothing zero = refl
    nothing (suc left) = refl
