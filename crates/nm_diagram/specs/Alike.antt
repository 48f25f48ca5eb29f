-- Runs that a picture doesn't tell apart.
use Rattle.std.specs.Prelude.{◌≡◌, List, [], ◌∷◌}
use Rattle.std.specs.List.{AllByRecursion}
use Rattle.nm_report.specs.declared.accounts.RankAccount.{RankAccount}
use Rattle.nm_diagram.specs.Frames.{IsSilent}

-- the same ranks, by their events and by where they wait, but for silent ones at the end of either list
abbrev pub AreAlike : List RankAccount → List RankAccount → Type 0
AreAlike [] others = AllByRecursion IsSilent others
AreAlike (rank ∷ ranks) [] = AllByRecursion IsSilent (rank ∷ ranks)
AreAlike (rank ∷ ranks) (other ∷ others) =
    (rank.history.events ≡ other.history.events) × (rank.waits ≡ other.waits) × AreAlike ranks others
