-- The packets of an ordered pair of ranks are numbered from 0, and go two racing ways: by box, or by
-- cell. What went by box is what the receiver got by box, and then what stands in the boxes; what went
-- by cell is what it got by cell, and then what stands in the chain of its receive queue.
use Rattle.std.specs.Prelude.{◌≡◌, ℕ, ◌<◌, ◌⊎◌, List, [], ◌∷◌, ◌++◌}

-- P holds of each number
abbrev pub Each : (ℕ → Type 0) → List ℕ → Type 0
Each P [] = Unit {0}
Each P (x ∷ xs) = P x × Each P xs

-- the number k is one of them
abbrev pub Has : ℕ → List ℕ → Type 0
Has k [] = ⊥
Has k (x ∷ xs) = (k ≡ x) ⊎ Has k xs

-- each number is smaller than those behind it
abbrev pub Rises : List ℕ → Type 0
Rises [] = Unit {0}
Rises (x ∷ xs) = Each (λ y. x < y) xs × Rises xs

-- the receiver got the number k
abbrev pub Got : List ℕ → List ℕ → ℕ → Type 0
Got got_box got_cell k = Has k got_box ⊎ Has k got_cell

-- the numbers below s went two ways, on each of them in order: each went one way, and no other number did
pub record Numbered (s : ℕ) (put_box put_cell : List ℕ) : Type 0 where
  pub box_rises : Rises put_box
  pub cell_rises : Rises put_cell
  pub box_sent : Each (λ k. k < s) put_box
  pub cell_sent : Each (λ k. k < s) put_cell
  pub all : (k : ℕ) → k < s → Has k put_box ⊎ Has k put_cell
  pub once : (k : ℕ) → Has k put_box → ¬ Has k put_cell

-- of s packets each stands in one of the four places, in order on its way, and a packet that was got
-- by box was got after all packets with smaller numbers
pub record InSequence (s : ℕ) (got_box boxes got_cell chain : List ℕ) : Type 0 where
  pub numbered : Numbered s (got_box ++ boxes) (got_cell ++ chain)
  pub in_turn : (k : ℕ) → Has k got_box → (j : ℕ) → j < k → Got got_box got_cell j
