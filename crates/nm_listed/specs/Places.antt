-- Where a given text stands among the reports that a script can have.
use Rattle.std.specs.Prelude.{◌≡◌, ℕ, ◌-◌, ◌<◌, ◌≤◌, List, ◌++◌, Contains, Some, count_by}
use Rattle.std.specs.Prelude.{nat_eq, slice_get}
use Rattle.nm_listed.specs.declared.places.Place.{Place}
use Rattle.nm_listed.specs.declared.places.Place.TheVariants.{At, Not}

-- how many line feeds there are, so how many whole lines
abbrev pub lines_in : List ℕ → ℕ
lines_in bytes = count_by (λ b. nat_eq b 10) bytes

-- both texts begin with the same bytes, in which there are so many whole lines
pub record ShareLines (text other : List ℕ) (count : ℕ) : Type 0 where
  pub front : List ℕ
  pub behind : List ℕ
  pub others : List ℕ
  pub lines : lines_in front ≡ count
  pub text_is : text ≡ front ++ behind
  pub other_is : other ≡ front ++ others

-- one of the texts begins with the first lines of this one, of which there are so many
abbrev pub IsShared : List (List ℕ) → List ℕ → ℕ → Type 0
IsShared texts text count = (other : List ℕ) × Contains texts other × ShareLines text other count

-- The first line of a text that none of the others begins with, behind the lines before it: one of them begins with
-- all lines before it, and none with this one, too.
pub record IsFirstNew (texts : List (List ℕ)) (text : List ℕ) (line : ℕ) : Type 0 where
  pub some : 1 ≤ line
  pub before : 1 < line → IsShared texts text (line - 1)
  pub none : (count : ℕ) → IsShared texts text count → count < line

-- the text is the one with this number, or is none, and this is its first line that none of them has there
abbrev pub IsPlace : List (List ℕ) → List ℕ → Place → Type 0
IsPlace texts text (At number) = (1 ≤ number) × (slice_get texts (number - 1) ≡ Some text)
IsPlace texts text (Not line) = ¬ (Contains texts text) × IsFirstNew texts text line
