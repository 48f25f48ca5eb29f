-- The reports of one variant more.
use Rattle.std.proofs.Common.{◌≡◌, ◌⊎◌, inl, inr, ℕ, ◌+◌, ◌<◌, ◌≤◌, Bool, true, false, List, [], ◌++◌, refl, sym, ◌∙◌, subst, arith, get_or}
use Rattle.std.specs.Prelude.{◌↔◌, Contains, IsTrue}
use Rattle.std.specs.List.{All, slice_index_or}
use Rattle.std.proofs.lemmas.Bool.{cases_lt, false≢true}
use Rattle.std.proofs.lemmas.List.Elements.{All-contains, Contains-append_cases, Contains-append_left, Contains-append_right, Contains-get_or}
use Rattle.std.proofs.Math.Nat.{lt_of_not-le}
use Rattle.nm_types.specs.declared.scripts.Line.{Line}
use Rattle.nm_types.specs.Sizes.{Sizes}
use Rattle.nm_report.specs.declared.records.RunRecord.{RunRecord}
use Rattle.nm_report.specs.Lawful.{IsRunIn}
use Rattle.nm_report.specs.Report.{report_text}
use Rattle.nm_outcomes.specs.Outcomes.{AreOutcomes, AreRising, IsReportOfRun}
use Rattle.nm_listed.specs.Finding.{AreTooLong}
use Rattle.nm_listed.specs.Texts.{SameTexts, total_length}
use Rattle.nm_variants.specs.Reports.{AreReportsBelow, AreVariantOutcomes, HasTooLarge, HaveTooManyBytes}
use Rattle.nm_variants.specs.Reports.{IsReportOfVariant, IsTooLarge}
use Rattle.nm_variants.specs.Variants.{IsVariant, variant_of, variants}
use Rattle.nm_variants.proofs.VariantLemmas.{is_variant, number_of}

-- the texts of two lists
abbrev pub AreJoined : List (List ℕ) → List (List ℕ) → List (List ℕ) → Type 0
AreJoined old more new = (text : List ℕ) → Contains new text ↔ (Contains old text ⊎ Contains more text)

pub joined : (old more both new : List (List ℕ)) → both ≡ old ++ more → SameTexts both new → AreJoined old more new
joined old more both new is same text = (
  λ at.
      Contains-append_cases old more text
      (subst (λ (texts : List (List ℕ)). Contains texts text) is ((same text).1 at)),
  λ either. (same text).0 (subst (λ (texts : List (List ℕ)). Contains texts text) (sym is) (in_both either)),
)
  where
    in_both : Contains old text ⊎ Contains more text → Contains (old ++ more) text
    in_both (inl at) = Contains-append_left old more text at
    in_both (inr at) = Contains-append_right old more text at

module _ (shape : Sizes) (lines : List Line) (number : ℕ) where
  -- the variant with this number
  abbrev this : List Line
  this = variant_of shape.eager number lines

  -- a report of it is one of a variant
  of_this : (text : List ℕ) → IsReportOfRun shape this text → IsReportOfVariant shape lines text
  of_this text report = (this, is_variant shape.eager number lines, report)

  -- with its reports
  pub more : (old reports new : List (List ℕ)) → AreReportsBelow shape lines number old →
      AreOutcomes shape this reports → AreRising new → AreJoined old reports new →
      AreReportsBelow shape lines (number + 1) new
  more old reports new before its rising is =
      record {
        rising = rising;
        lawful = λ k d low.
            lawful_by (slice_index_or new k d) ((is (slice_index_or new k d)).0 (Contains-get_or new k d low));
        complete = λ k low run lawful. complete_by k run lawful (cases_lt k number) low;
      }
    where
      lawful_by : (text : List ℕ) → Contains old text ⊎ Contains reports text → IsReportOfVariant shape lines text
      lawful_by text (inl at) = All-contains (IsReportOfVariant shape lines) old text before.lawful at
      lawful_by text (inr at) =
          of_this text (All-contains (IsReportOfRun shape this) reports text its.lawful at)

      complete_by : (k : ℕ) (run : RunRecord) → IsRunIn shape (variant_of shape.eager k lines) run →
          (k < number) ⊎ (number ≤ k) → k < number + 1 → Contains new (report_text false run)
      complete_by k run lawful (inl lower) low =
          (is (report_text false run)).1 (inl (before.complete k lower run lawful))
      complete_by k run lawful (inr upper) low =
          let last : k ≡ number = omega (arith, low, upper) in
          (is (report_text false run)).1
          (inr
          (its.complete run (subst (λ (n : ℕ). IsRunIn shape (variant_of shape.eager n lines) run) last lawful)))

  -- its reports alone have too many bytes
  pub too_long : AreTooLong shape this → HaveTooManyBytes shape lines
  too_long long =
      record {
        texts = long.0;
        rising = long.1.rising;
        lawful = λ k d low. of_this (slice_index_or long.0 k d) (long.1.lawful k d low);
        long = long.2;
      }

  -- it is too large
  pub too_large : (bound : ℕ) → IsTooLarge shape this bound → HasTooLarge shape lines bound
  too_large bound large = (this, is_variant shape.eager number lines, large)

-- those that were found have too many bytes
pub too_long_below : (shape : Sizes) (lines : List Line) (number : ℕ) (texts : List (List ℕ)) (within : Bool) →
    AreReportsBelow shape lines number texts → (IsTrue within ↔ (total_length texts ≤ 134217728)) → within ≡ false →
    HaveTooManyBytes shape lines
too_long_below shape lines number texts within below tests is =
    record {
      texts = texts;
      rising = below.rising;
      lawful = below.lawful;
      long = lt_of_not-le (λ few. false≢true (sym is ∙ tests.1 few));
    }

-- of no variant there is no report
pub none : (shape : Sizes) (lines : List Line) (texts : List (List ℕ)) → texts ≡ [] →
    AreReportsBelow shape lines 0 texts
none shape lines texts is =
    subst (λ (ts : List (List ℕ)). AreReportsBelow shape lines 0 ts) (sym is)
    (record {
      rising = tt;
      lawful = λ k d low. absurd (omega (arith, low));
      complete = λ k low run lawful. absurd (omega (arith, low));
    })

-- below the number of variants there are all
pub all : (shape : Sizes) (lines : List Line) (count : ℕ) (texts : List (List ℕ)) →
    count ≡ variants shape.eager lines → AreReportsBelow shape lines count texts →
    AreVariantOutcomes shape lines texts
all shape lines count texts is below =
    record {
      rising = below.rising;
      lawful = below.lawful;
      complete = λ variant one run lawful. of_number run (number_of shape.eager lines variant one) lawful;
    }
  where
    of_number : (run : RunRecord) → {variant : List Line} →
        (n : ℕ) × (n < variants shape.eager lines) × (variant_of shape.eager n lines ≡ variant) →
        IsRunIn shape variant run → Contains texts (report_text false run)
    of_number run (n, low, same) lawful =
        below.complete n (omega (arith, is, low)) run
        (subst (λ (v : List Line). IsRunIn shape v run) (sym same) lawful)
