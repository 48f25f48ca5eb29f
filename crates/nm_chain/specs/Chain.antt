-- A queue of cells has many producers and one consumer, and is a chain of cells: the head word has the
-- first cell, each cell's link the next one, the tail word the last one. A cell stands in a word as its
-- number plus 1, and 0 is none.
-- An enqueue exchanges the tail first, and then stores the head, or the link of the cell that it found
-- at the tail. Until that store it is pending, and its cell is in the chain already. The consumer keeps
-- the first cell as its shadow head, once it has cleared the head word.
use Rattle.std.specs.Prelude.{◌≡◌, ◌≢◌, ℕ, suc, ◌⊎◌, List, [], ◌∷◌}

-- a cell, with what its slot holds
pub record Item (L : Type 0) : Type 0 where
  pub cell : ℕ
  pub load : L

-- Where a cell is: loose with a rank, while its slot is at home; in the hand of a rank; there with its
-- link cleared, when it held this; in a queue while the enqueue of a rank, which found this tail, is
-- pending; or in a queue with its enqueue done
pub data Place (L : Type 0) : Type 0 where
  loose : ℕ → Place L
  held : ℕ → Place L
  ready : ℕ → L → Place L
  entering : ℕ → ℕ → ℕ → Place L
  queued : ℕ → Place L

module _ {L : Type 0} where
  -- the cell c, with y in its slot
  abbrev pub item : ℕ → L → Item L
  item c y = record { cell = c; load = y }

  -- the place is in the queue q
  abbrev pub IsIn : ℕ → Place L → Type 0
  IsIn q (loose r) = ⊥
  IsIn q (held r) = ⊥
  IsIn q (ready r y) = ⊥
  IsIn q (entering r p t) = q ≡ p
  IsIn q (queued p) = q ≡ p

  -- P holds of each item
  abbrev pub Each : (Item L → Type 0) → List (Item L) → Type 0
  Each P [] = Unit {0}
  Each P (x ∷ xs) = P x × Each P xs

  -- the cell c stands in the chain
  abbrev pub Has : ℕ → List (Item L) → Type 0
  Has c [] = ⊥
  Has c (x ∷ xs) = (c ≡ x.cell) ⊎ Has c xs

  -- the cell c does not
  abbrev pub Lacks : ℕ → List (Item L) → Type 0
  Lacks c xs = Each (λ x. c ≢ x.cell) xs

  -- no cell stands in the chain twice
  abbrev pub Once : List (Item L) → Type 0
  Once [] = Unit {0}
  Once (x ∷ xs) = Lacks x.cell xs × Once xs

  -- the last cell of a chain that begins with c, as a word has it
  abbrev pub last_from : ℕ → List (Item L) → ℕ
  last_from c [] = suc c
  last_from c (x ∷ xs) = last_from x.cell xs

  -- the tail word of a chain
  abbrev pub tail_of : List (Item L) → ℕ
  tail_of [] = 0
  tail_of (x ∷ xs) = last_from x.cell xs

  module _ (place : ℕ → Place L) (q : ℕ) where
    module _ (head shadow : ℕ) where
      -- the first cell is the shadow head, and the head word is 0
      abbrev pub IsShadowHead : ℕ → Type 0
      IsShadowHead c = (shadow ≡ suc c) × (head ≡ 0) × (place c ≡ queued q)

      -- the head word has the first cell
      abbrev pub IsHead : ℕ → Type 0
      IsHead c = (shadow ≡ 0) × (head ≡ suc c) × (place c ≡ queued q)

      -- the first cell's enqueue found no tail, and has still to store the head
      abbrev pub IsHeadPending : ℕ → Type 0
      IsHeadPending c = (shadow ≡ 0) × (head ≡ 0) × ((r : ℕ) × (place c ≡ entering r q 0))

      -- how a chain begins; where it is empty there is no head and no shadow head
      abbrev pub Begins : List (Item L) → Type 0
      Begins [] = (shadow ≡ 0) × (head ≡ 0)
      Begins (x ∷ xs) = IsShadowHead x.cell ⊎ (IsHead x.cell ⊎ IsHeadPending x.cell)

    module _ (link : ℕ → ℕ) where
      -- the link of c has its next cell d
      abbrev pub IsLinked : ℕ → ℕ → Type 0
      IsLinked c d = (link c ≡ suc d) × (place d ≡ queued q)

      -- the enqueue of d found c at the tail, and has still to store its link
      abbrev pub IsLinkPending : ℕ → ℕ → Type 0
      IsLinkPending c d = (link c ≡ 0) × ((r : ℕ) × (place d ≡ entering r q (suc c)))

      -- what follows the cell c; the last cell's link is 0
      abbrev pub Follows : ℕ → List (Item L) → Type 0
      Follows c [] = link c ≡ 0
      Follows c (x ∷ xs) = IsLinked c x.cell ⊎ IsLinkPending c x.cell

      -- each cell is linked to the next one, or that link is pending
      abbrev pub Linked : List (Item L) → Type 0
      Linked [] = Unit {0}
      Linked (x ∷ xs) = Follows x.cell xs × Linked xs

  -- The chain of the queue q, whose items meet `fits`. Each cell whose place is in the queue stands in it
  pub record IsChain (fits : Item L → Type 0) (place : ℕ → Place L) (link : ℕ → ℕ)
      (q head tail shadow : ℕ) (chain : List (Item L)) : Type 0 where
    pub once : Once chain
    pub begins : Begins place q head shadow chain
    pub linked : Linked place q link chain
    pub ends : tail ≡ tail_of chain
    pub each : Each fits chain
    pub whole : (c : ℕ) → IsIn q (place c) → Has c chain
