-- Single changes after which no run of a script can hang.
use Rattle.std.specs.Prelude.{◌≡◌, ◌⊎◌, List, Contains, Some}
use Rattle.nm_types.specs.declared.scripts.Line.{Line}
use Rattle.nm_types.specs.Limits.{IsScript}
use Rattle.nm_types.specs.Sizes.{Sizes}
use Rattle.nm_why.specs.declared.changes.Change.{Change}
use Rattle.nm_why.specs.declared.cures.Cures.{Cures}
use Rattle.nm_why.specs.declared.hangs.Fate.{Fate}
use Rattle.nm_why.specs.declared.hangs.Fate.TheVariants.{Ends, Hangs, Either, MayHang, Open}
use Rattle.nm_why.specs.declared.cures.Trial.{Trial}
use Rattle.nm_why.specs.declared.cures.Trial.TheVariants.{Cured, Not, Unknown}
use Rattle.nm_why.specs.Changes.{changed}
use Rattle.nm_why.specs.Hangs.{CanHang}

-- these lines are a script, and none of its runs hangs
abbrev pub IsSafe : Sizes → List Line → Type 0
IsSafe shape lines = IsScript shape.ranks lines × (¬ (CanHang shape lines))

-- so it is after this change
abbrev pub IsCure : Sizes → List Line → Change → Type 0
IsCure shape lines change = (other : List Line) × (changed lines change ≡ Some other) × IsSafe shape other

-- what a complete search said of the lines after a change, or nothing
abbrev pub IsTrialOf : Sizes → List Line → Trial → Type 0
IsTrialOf shape other Cured = IsSafe shape other
IsTrialOf shape other Not = ¬ (IsSafe shape other)
IsTrialOf shape other Unknown = Unit {0}

-- what it says, by how the runs end
abbrev pub trial_by : Fate → Trial
trial_by Ends = Cured
trial_by Hangs = Not
trial_by Either = Not
trial_by MayHang = Not
trial_by Open = Unknown

-- .. of the change
abbrev pub IsTrial : Sizes → List Line → Change → Trial → Type 0
IsTrial shape lines change Cured = IsCure shape lines change
IsTrial shape lines change Not = ¬ (IsCure shape lines change)
IsTrial shape lines change Unknown = Unit {0}

-- Those that are told are cures. Of those that were tried, each other one is none, but for those at which a search
-- gave up.
pub record AreCures (shape : Sizes) (lines : List Line) (tried : List Change) (found : Cures) : Type 0 where
  pub cures : (change : Change) → Contains found.cures.items change → IsCure shape lines change
  pub others :
      (change : Change) → Contains tried change →
      Contains found.cures.items change ⊎ (Contains found.undecided.items change ⊎ (¬ (IsCure shape lines change)))
