-- A script and another text in one, with a line `---` between them.
use Rattle.std.specs.Prelude.{◌≡◌, ◌≢◌, ◌<◌, ◌≤◌, ℕ, ◌⊎◌, List, [], ◌++◌, codes, length, take}
use Rattle.std.specs.List.{AllByRecursion}
use Rattle.nm_script.specs.Lines.{ended_lines}

-- a line, without its line feed, that is not the one between
pub record IsBefore (line : List ℕ) : Type 0 where
  pub one : AllByRecursion (λ b. b ≢ 10) line
  pub other : line ≢ codes "---"

-- the line between, with its line feed, or at the end without it
abbrev pub IsDivider : List ℕ → List ℕ → Type 0
IsDivider bytes rest = (bytes ≡ codes "---\n" ++ rest) ⊎ ((bytes ≡ codes "---") × (rest ≡ []))

-- The first line `---` of the bytes stands behind this front, and this rest behind it.
pub record IsCut (bytes front rest : List ℕ) : Type 0 where
  pub lines : List (List ℕ)
  pub behind : List ℕ
  pub before : AllByRecursion IsBefore lines
  pub front_is : front ≡ ended_lines lines
  pub split : bytes ≡ front ++ behind
  pub follows : IsDivider behind rest

-- no line of the bytes is `---`
abbrev pub HasNoCut : List ℕ → Type 0
HasNoCut bytes = (front rest : List ℕ) → ¬ (IsCut bytes front rest)

-- the bytes are cut so, and in no other way
pub record IsOnlyCut (bytes front rest : List ℕ) : Type 0 where
  pub cut : IsCut bytes front rest
  pub only : (f r : List ℕ) → IsCut bytes f r → (f ≡ front) × (r ≡ rest)

-- what is read of a source: all of it, or one byte more than both parts may have
abbrev pub read_of : List ℕ → List ℕ
read_of bytes = take 67108865 bytes

-- the bytes are short enough, and have the two parts
pub record IsInput (bytes front rest : List ℕ) : Type 0 where
  pub short : length bytes ≤ 67108864
  pub cut : IsOnlyCut bytes front rest

-- the bytes are too long, or have no line `---`
abbrev pub HasNoParts : List ℕ → Type 0
HasNoParts bytes = (67108864 < length bytes) ⊎ HasNoCut bytes
