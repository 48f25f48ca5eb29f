-- Where the commands of each rank stand in a script.
use Rattle.std.specs.Prelude.{◌≡◌, ◌≢◌, ℕ, ◌+◌, ◌<◌, List, [], ◌∷◌, ◌++◌, Vec, length, slice_index_or}
use Rattle.nm_types.specs.declared.scripts.Line.{Line}
use Rattle.nm_process.specs.Places.{ArePlaces, ScriptedView}

-- by rank, the places of its commands in the script, in order
pub record AreByRank {A : Type 0} (lines : List Line) (all : List (Vec ℕ A)) : Type 0 where
  pub each :
      (rank : ℕ) (d : Vec ℕ A) → rank < length all →
      ArePlaces lines rank (slice_index_or all rank d).items

-- a place more, behind those of its rank
pub record Notes {A : Type 0} (rank place : ℕ) (old new : List (Vec ℕ A)) : Type 0 where
  pub own :
      (d : Vec ℕ A) →
      (slice_index_or new rank d).items ≡ (slice_index_or old rank d).items ++ place ∷ []
  pub others :
      (other : ℕ) (d : Vec ℕ A) → other ≢ rank → slice_index_or new other d ≡ slice_index_or old other d
  pub many : length new ≡ length old

-- they give the commands in a script of the ranks from k on, of which none ran
abbrev pub AreScripts : ℕ → List Line → ℕ → List ScriptedView → Type 0
AreScripts ranks lines k [] = Unit {0}
AreScripts ranks lines k (s ∷ scripts) =
    (s.lines ≡ lines) × (s.me ≡ k) × (s.ranks ≡ ranks) × (s.at ≡ 0) × AreScripts ranks lines (k + 1) scripts
