-- The reports of a script whose standard sends may each wait or not.
use Rattle.std.specs.Prelude.{◌≡◌, ℕ, ◌+◌, ◌/◌, ◌<◌, ◌⊎◌, false, List, Contains}
use Rattle.std.specs.List.{All}
use Rattle.nm_types.specs.declared.scripts.Line.{Line}
use Rattle.nm_types.specs.Limits.{IsScript}
use Rattle.nm_types.specs.Sizes.{Sizes}
use Rattle.nm_report.specs.declared.records.RunRecord.{RunRecord}
use Rattle.nm_report.specs.Lawful.{IsRunIn}
use Rattle.nm_report.specs.Report.{report_text}
use Rattle.nm_outcomes.specs.Outcomes.{AreOutcomes, AreRising, IsReportOfRun}
use Rattle.nm_explored.specs.Met.{AreTooMany}
use Rattle.nm_listed.specs.Finding.{AreTooLong}
use Rattle.nm_listed.specs.Texts.{total_length}
use Rattle.nm_variants.specs.Variants.{IsVariant, variant_of, variants}
use Rattle.nm_variants.specs.declared.searching.Searched.{Searched}
use Rattle.nm_variants.specs.declared.searching.Searched.TheVariants as searched
use Rattle.nm_variants.specs.declared.unions.Step.{Step}
use Rattle.nm_variants.specs.declared.unions.Step.TheVariants.{Added, TooMany, TooLong}
use Rattle.nm_variants.specs.declared.unions.Union.{Union}
use Rattle.nm_variants.specs.declared.unions.Union.TheVariants as union

-- some run of some variant of the script has this report
abbrev pub IsReportOfVariant : Sizes → List Line → List ℕ → Type 0
IsReportOfVariant shape lines text =
    (variant : List Line) × IsVariant shape.eager lines variant × IsReportOfRun shape variant text

-- These are the reports of all runs of the script where each of its standard sends of at most `shape.eager` bytes, by
-- itself, is buffered or waits for its receive (MPI 3.1, 3.4), and each longer one waits; each report stands there once.
pub record AreVariantOutcomes (shape : Sizes) (lines : List Line) (texts : List (List ℕ)) : Type 0 where
  pub rising : AreRising texts
  pub lawful : All (IsReportOfVariant shape lines) texts
  pub complete :
      (variant : List Line) → IsVariant shape.eager lines variant → (run : RunRecord) →
      IsRunIn shape variant run → Contains texts (report_text false run)

-- so it is with the variants below a number
pub record AreReportsBelow (shape : Sizes) (lines : List Line) (number : ℕ) (texts : List (List ℕ)) : Type 0 where
  pub rising : AreRising texts
  pub lawful : All (IsReportOfVariant shape lines) texts
  pub complete :
      (k : ℕ) → k < number → (run : RunRecord) → IsRunIn shape (variant_of shape.eager k lines) run →
      Contains texts (report_text false run)

-- reports of runs of some variants, each once, have too many bytes
pub record HaveTooManyBytes (shape : Sizes) (lines : List Line) : Type 0 where
  pub texts : List (List ℕ)
  pub rising : AreRising texts
  pub lawful : All (IsReportOfVariant shape lines) texts
  pub long : 134217728 < total_length texts

-- a script whose text is too long, or whose ranks come into more states than this
abbrev pub IsTooLarge : Sizes → List Line → ℕ → Type 0
IsTooLarge shape lines bound =
    (¬ (IsScript shape.ranks lines)) ⊎ AreTooMany shape.eager shape.ranks lines bound

-- a variant of the script is too large
abbrev pub HasTooLarge : Sizes → List Line → ℕ → Type 0
HasTooLarge shape lines bound =
    (variant : List Line) × IsVariant shape.eager lines variant × IsTooLarge shape variant bound

-- The script has more variants than states are allowed, or one of them has more states than its share of these.
abbrev pub HasTooManyStates : Sizes → List Line → ℕ → Type 0
HasTooManyStates shape lines states =
    (states < variants shape.eager lines) ⊎ HasTooLarge shape lines (states / variants shape.eager lines)

-- what was found of one script is right
abbrev pub IsSearched : Sizes → List Line → ℕ → Searched → Type 0
IsSearched shape lines bound (searched.All texts) = AreOutcomes shape lines texts
IsSearched shape lines bound searched.TooMany = IsTooLarge shape lines bound
IsSearched shape lines bound searched.TooLong = AreTooLong shape lines

-- .. of the variants up to this one, whose reports are put to the others
abbrev pub IsStep : Sizes → List Line → ℕ → ℕ → List (List ℕ) → Step → Type 0
IsStep shape lines number bound texts Added = AreReportsBelow shape lines (number + 1) texts
IsStep shape lines number bound texts TooMany = HasTooLarge shape lines bound
IsStep shape lines number bound texts TooLong = HaveTooManyBytes shape lines

-- .. of all variants below a number
abbrev pub IsSum : Sizes → List Line → ℕ → ℕ → List (List ℕ) → Step → Type 0
IsSum shape lines number bound texts Added = AreReportsBelow shape lines number texts
IsSum shape lines number bound texts TooMany = HasTooLarge shape lines bound
IsSum shape lines number bound texts TooLong = HaveTooManyBytes shape lines

-- .. of all variants
abbrev pub IsUnion : Sizes → List Line → ℕ → Union → Type 0
IsUnion shape lines states (union.All texts count) =
    AreVariantOutcomes shape lines texts × (count ≡ variants shape.eager lines)
IsUnion shape lines states union.TooMany = HasTooManyStates shape lines states
IsUnion shape lines states union.TooLong = HaveTooManyBytes shape lines
