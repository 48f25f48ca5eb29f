-- The slots of the boxes that a port is filling or emptying, among those that it has taken.
use Rattle.std.specs.Prelude.{◌≡◌, ℕ, zero, suc, ◌+◌, ◌*◌, ◌<◌, ◌≤◌, Bool, true, false}
use Rattle.std.specs.Prelude.{Option, Some, List, map}
use native.Mathlib.Decide.{ℕ_discrete}
use Rattle.nm_chain.specs.Update.{pick}
use Rattle.nm_chain.specs.declared.table.table.Entry.{Entry}
use Rattle.nm_chain.specs.Rule.{Load}
use Rattle.nm_chain.specs.Plays.{load_in}
use Rattle.nm_cells.specs.Carried.{times, empties}
use Rattle.nm_chain.specs.NextBox.{next_box, work, BoxesApart}

-- f 0 + f 1 + .. , of the first n
abbrev pub sum_to : (ℕ → ℕ) → ℕ → ℕ
sum_to f zero = 0
sum_to f (suc n) = sum_to f n + f n

module _ {A : Type 0} where
  -- 1 where the box is at work and its slot is k
  abbrev pub one_at : ℕ → Option (Load A) → ℕ → ℕ
  one_at k x slot = pick (ℕ_discrete slot k) (empties x) 0

  -- how many of the boxes at work have the slot k
  abbrev pub all_at : ℕ → ℕ → (Bool → ℕ → ℕ) → (Bool → ℕ → Option (Load A)) → ℕ
  all_at n k box x = sum_to (λ j. one_at k (x true j) (box true j)) n
      + sum_to (λ j. one_at k (x false j) (box false j)) n

  -- Of n ranks: behind the first m slots, those of the boxes at work are taken, each once and with what
  -- the box holds, and no others
  pub record Holds (n m : ℕ) (box : Bool → ℕ → ℕ) (x : Bool → ℕ → Option (Load A))
      (slots : List (ℕ × Load A)) : Type 0 where
    pub counted : (k : ℕ) → m ≤ k → times k (map (λ s. s.0) slots) ≡ all_at n k box x
    pub loaded : (b : Bool) (j : ℕ) → j < n → (y : Load A) → x b j ≡ Some y
        → load_in (box b j) slots ≡ y

  -- the same of a rank's entry, whose boxes at work are apart
  abbrev pub HoldsBoxes : Entry A → List (ℕ × Load A) → Type 0
  HoldsBoxes e slots = (e.rank < e.ranks)
      × Holds e.ranks (e.ranks * e.each) (next_box e) (work e) slots × BoxesApart e
