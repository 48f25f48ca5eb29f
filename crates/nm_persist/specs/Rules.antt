-- The rules of lines, one for each kind of fault, and what reading promises.
use Rattle.std.specs.Prelude.{◌≡◌, ℕ, ◌+◌, ◌≤◌, true, false, List, [], ◌∷◌, length}
use Rattle.nm_types.specs.declared.limits.TheConstants.{MAX_LINES}
use Rattle.nm_script.specs.Arguments.{Each}
use Rattle.nm_script.specs.Lines.{is_printable, words_of}
use Rattle.nm_script.specs.Rules.{HasRank, behind}
use Rattle.nm_script.specs.TextRules.{Grammar, IsFirstFaultIn, IsRanks}
use Rattle.nm_plans.specs.declared.faults.PlanKind.{PlanKind}
use Rattle.nm_plans.specs.declared.faults.PlanKind.TheVariants as kind
use Rattle.nm_plans.specs.declared.keywords.PlanKeyword.{PlanKeyword}
use Rattle.nm_plans.specs.declared.lines.PlanLine.{PlanLine}
use Rattle.nm_plans.specs.Grammar.{arguments}
use Rattle.nm_plans.specs.Spelled.{IsBodyThere, IsLine, IsNumberThere, Names}
use Rattle.nm_persist.specs.Plans.{AreReady, IsPlan}
use Rattle.nm_persist.specs.Table.{has_other_parts, is_out_of_order, is_past, is_taken}
use Rattle.nm_plans.specs.Text.{SpellsPlan, line_text}

-- a line other than the first, behind the lines before it and by its words, keeps the rule of a kind
abbrev pub KeepsRule : ℕ → List PlanLine → List ℕ → List (List ℕ) → PlanKind → Type 0
KeepsRule ranks before text ws kind.NotAscii = is_printable text ≡ true
KeepsRule ranks before text ws kind.Lines = length before + 2 ≤ MAX_LINES
KeepsRule ranks before text ws kind.Rank = HasRank ranks ws
KeepsRule ranks before text ws kind.Command = (keyword : PlanKeyword) × Names keyword ws
KeepsRule ranks before text ws kind.Count =
    (keyword : PlanKeyword) → Names keyword ws → length (behind ws) ≡ length (arguments keyword)
KeepsRule ranks before text ws kind.Number =
    (keyword : PlanKeyword) → Names keyword ws → Each (IsNumberThere ranks) (arguments keyword) (behind ws)
KeepsRule ranks before text ws kind.Body =
    (keyword : PlanKeyword) → Names keyword ws → Each (IsBodyThere ranks) (arguments keyword) (behind ws)
KeepsRule ranks before text ws kind.Taken =
    (line : PlanLine) → IsLine ranks text line → is_taken before line ≡ false
KeepsRule ranks before text ws kind.Parts =
    (line : PlanLine) → IsLine ranks text line → has_other_parts before line ≡ false
KeepsRule ranks before text ws kind.Order =
    (line : PlanLine) → IsLine ranks text line → is_out_of_order before line ≡ false
KeepsRule ranks before text ws kind.Size =
    (line : PlanLine) → IsLine ranks text line → is_past ranks before line ≡ false
KeepsRule ranks before text ws _ = Unit {0}

-- the first line keeps the rule of a kind
abbrev pub FirstKeeps : List ℕ → PlanKind → Type 0
FirstKeeps text kind.NotAscii = is_printable text ≡ true
FirstKeeps text kind.First = IsRanks text
FirstKeeps text _ = Unit {0}

-- the kinds of the first line, in their order
abbrev pub first_kinds : List PlanKind
first_kinds = kind.NotAscii ∷ kind.First ∷ []

-- the kinds of other lines, in their order
abbrev pub line_kinds : List PlanKind
line_kinds =
    kind.NotAscii ∷ kind.Lines ∷ kind.Rank ∷ kind.Command ∷ kind.Count ∷ kind.Number ∷ kind.Body
    ∷ kind.Taken ∷ kind.Parts ∷ kind.Order ∷ kind.Size ∷ []

-- the rules of plans
abbrev pub plans : Grammar PlanLine PlanKind
plans = record {
  text_of = line_text;
  AreSound = AreReady;
  KeepsRule = λ ranks before text. KeepsRule ranks before text (words_of text);
  line_kinds = line_kinds;
  FirstKeeps = FirstKeeps;
  first_kinds = first_kinds;
  too_long = kind.TooLong;
}

-- the first fault of a text
abbrev pub IsFirstFault : List ℕ → ℕ → PlanKind → Type 0
IsFirstFault bytes number k = IsFirstFaultIn plans bytes number k

-- the bytes spell this plan, whose limits hold
pub record IsTextOf (bytes : List ℕ) (ranks : ℕ) (lines : List PlanLine) : Type 0 where
  pub spelled : SpellsPlan bytes ranks lines
  pub limits : IsPlan ranks lines
