-- A source that asks a program, at the start of a run and at its end.
use Rattle.std.specs.Prelude.{◌≡◌, ℕ, false, Option, Some, List, [], ◌∷◌, ◌++◌}
use Rattle.std.specs.List.{slice_get}
use Rattle.nm_types.specs.declared.answers.Answer.{Answer}
use Rattle.nm_types.specs.declared.scripts.Command.{Command}
use Rattle.nm_process.specs.Playing.{AllInRange, GivenView, HasPlayed, IsCounted, NeverRuns}
use Rattle.nm_programs.specs.declared.running.Finished.{Finished}
use Rattle.nm_programs.specs.declared.stops.Stop.{Stop}
use Rattle.nm_programs.specs.declared.stops.Stop.TheVariants.{Memory, Range}

-- it asks this program, of which no command ran, in a run of n ranks
pub record BeginsWith {P : Type 0} (n : ℕ) (p : P) (g : GivenView P) : Type 0 where
  pub start : g.start ≡ p ∷ []
  pub at : g.at ≡ 0
  pub ranks : g.ranks ≡ n
  pub told : g.told ≡ []
  pub works : g.failed ≡ false

-- What its program was told and gave, where all that it gave is in range.
pub record IsLeft {P : Type 0} (says : P → Option Answer → Option Command → P → Type 0) (g : GivenView P)
    (left : Finished P) : Type 0 where
  pub waits : left.waits ≡ g.next
  pub counted : IsCounted g.given left.waits g.at
  pub in_range : AllInRange g.ranks g.given
  pub played :
      g.failed ≡ false → (start : P) → g.start ≡ start ∷ [] →
      HasPlayed says start g.told left.program left.waits g.given

-- The source of this rank has this command, which never runs.
pub record HasStray {P : Type 0} (says : P → Option Answer → Option Command → P → Type 0) (sources : List (GivenView P))
    (rank : ℕ) (command : Command) : Type 0 where
  pub source : GivenView P
  pub is : slice_get sources rank ≡ Some source
  pub never : NeverRuns source.ranks source.at command
  pub played :
      source.failed ≡ false → (start : P) → source.start ≡ start ∷ [] →
      HasPlayed says start source.told source.program (Some command) (source.given ++ command ∷ [])

-- the stop tells it
abbrev pub IsStray :
    {P : Type 0} → (P → Option Answer → Option Command → P → Type 0) → List (GivenView P) → Stop → Type 0
IsStray says sources Memory = Unit {0}
IsStray says sources (Range rank command) = HasStray says sources rank command
