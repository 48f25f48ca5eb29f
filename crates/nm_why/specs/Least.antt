-- A least part of a script that still does something.
use Rattle.std.specs.Prelude.{◌⊎◌, ℕ, ◌<◌, ◌≤◌, List, AllPairs, Contains, length, remove}
use Rattle.nm_types.specs.declared.scripts.Line.{Line}
use Rattle.nm_types.specs.Sizes.{Sizes}
use Rattle.nm_why.specs.declared.hangs.Aim.{Aim}
use Rattle.nm_why.specs.declared.least.Least.{Least}
use Rattle.nm_why.specs.declared.least.Scan.{Scan}
use Rattle.nm_why.specs.declared.least.Scan.TheVariants.{Shorter, Needed}
use Rattle.nm_why.specs.Hangs.{Does}
use Rattle.nm_why.specs.Parts.{lines_at}

-- Without the command at place k of the part it is no such part any more: the lines that are left can't do it.
-- So it is from this place on, but for the places at which a search gave up.
abbrev pub AreNeededFrom : ℕ → Aim → Sizes → List Line → List ℕ → List ℕ → Type 0
AreNeededFrom from aim shape lines places undecided =
    (k : ℕ) → from ≤ k → k < length places →
    (¬ (Does aim shape (lines_at lines (remove places k)))) ⊎ Contains undecided k

-- what was found out of the commands from a place on: the part does it without the one at place k, or they are needed
abbrev pub IsScan : Aim → Sizes → List Line → List ℕ → ℕ → Scan → Type 0
IsScan aim shape lines places from (Shorter k) =
    (k < length places) × Does aim shape (lines_at lines (remove places k))
IsScan aim shape lines places from (Needed undecided) = AreNeededFrom from aim shape lines places undecided.items

-- places that rise, so that the lines stand in the order of the script
abbrev pub AreRising : List ℕ → Type 0
AreRising places = AllPairs (λ j k. j < k) places

-- the part does it, and its lines stand in the order of the script
pub record IsPart (aim : Aim) (shape : Sizes) (lines : List Line) (places : List ℕ) : Type 0 where
  pub rising : AreRising places
  pub does : Does aim shape (lines_at lines places)

-- The part does it, and with one command less it does not, but for those commands at which a search gave up.
pub record IsLeast (aim : Aim) (shape : Sizes) (lines : List Line) (least : Least) : Type 0 where
  pub rising : AreRising least.places.items
  pub does : Does aim shape (lines_at lines least.places.items)
  pub needed : AreNeededFrom 0 aim shape lines least.places.items least.undecided.items
