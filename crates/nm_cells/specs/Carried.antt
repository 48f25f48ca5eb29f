-- The slots that a port has taken, as its program knows them.
use Rattle.std.specs.Prelude.{◌≡◌, ℕ, suc, ◌+◌, ◌<◌, ◌≤◌, Bool, true, false, Option, Some, None}
use Rattle.std.specs.Prelude.{List, [], ◌∷◌, length, map, sum_by, slice_index_or}
use native.Mathlib.Decide.{ℕ_discrete, dec_le}
use Rattle.nm_chain.specs.Update.{pick}
use Rattle.nm_chain.specs.declared.table.table.Hand.{Hand}
use Rattle.nm_chain.specs.declared.table.table.Hand.TheVariants.{Away, Loose, Held, Ready, Entering}
use Rattle.nm_chain.specs.Rule.{Load, if_below}
use Rattle.nm_chain.specs.Plays.{load_in}

-- how often the number k stands among these
abbrev pub times : ℕ → List ℕ → ℕ
times k [] = 0
times k (x ∷ xs) = pick (ℕ_discrete x k) 1 0 + times k xs

module _ {A : Type 0} where
  -- 1 where the slot of the cell is with the rank
  abbrev pub slots_with : Hand A → ℕ
  slots_with Away = 0
  slots_with Loose = 0
  slots_with Held = 1
  slots_with (Ready y) = 1
  slots_with (Entering q t) = 0

  -- 1 where the cell is loose, or it or its pending enqueue is in the rank's hand
  abbrev pub in_hand : Hand A → ℕ
  in_hand Away = 0
  in_hand Loose = 1
  in_hand Held = 1
  in_hand (Ready y) = 1
  in_hand (Entering q t) = 1

-- 1 where a box is being filled
abbrev pub fills : Bool → ℕ
fills false = 0
fills true = 1

module _ {A : Type 0} where
  -- 1 where a box is being emptied
  abbrev pub empties : Option (Load A) → ℕ
  empties None = 0
  empties (Some y) = 1

  -- the boxes that a rank is filling or emptying
  abbrev pub open_boxes : List Bool → List (Option (Load A)) → ℕ
  open_boxes filling emptying = sum_by fills filling + sum_by empties emptying

  -- The numbers of the slots that a seat has taken are these, the one taken last first. The slot of each
  -- cell in hand is among them once, and there are no others but those of the boxes at work
  pub record Carries (slots : List (ℕ × Load A)) (hands : List (Hand A)) (filling : List Bool)
      (emptying : List (Option (Load A))) (carried : List ℕ) (room count : ℕ) : Type 0 where
    pub order : map (λ x. x.0) slots ≡ carried
    pub cells : (c : ℕ) → c < length hands
        → times c carried ≡ slots_with (slice_index_or hands c Away)
    pub counted : length carried ≡ sum_by slots_with hands + open_boxes filling emptying
    pub handed : count ≡ sum_by in_hand hands + open_boxes filling emptying
    pub fits : length hands + (length filling + length emptying) ≤ room

  -- what the cell c of m cells holds, where its slot is among those taken
  abbrev pub held_in : ℕ → List (ℕ × Load A) → ℕ → Load A
  held_in m slots c = if_below (dec_le (suc c) m) (load_in c slots) None
