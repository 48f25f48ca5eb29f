-- The rules of lines, one for each kind of fault, and the first fault of a text.
use Rattle.std.specs.Prelude.{◌≡◌, ℕ, ◌+◌, ◌≤◌, ◌<◌, true, ◌&&◌, List, [], ◌∷◌, ◌++◌, length}
use Rattle.std.specs.Prelude.{sum_by, nat_lt, codes, decimal}
use Rattle.std.specs.List.{join_with_byte, list_all}
use Rattle.nm_types.specs.declared.limits.TheConstants.{MAX_LINES, MAX_BODIES}
use Rattle.nm_types.specs.declared.scripts.Line.{Line}
use Rattle.nm_types.specs.Limits.{is_in_range, sent_len}
use Rattle.nm_types.specs.Text.{words}
use Rattle.nm_script.specs.declared.faults.Kind.{Kind}
use Rattle.nm_script.specs.declared.faults.Kind.TheVariants as kind
use Rattle.nm_script.specs.declared.keywords.Keyword.{Keyword}
use Rattle.nm_script.specs.Arguments.{arguments, Each, IsBodyThere, IsSpelled}
use Rattle.nm_script.specs.Keywords.{keyword_text}
use Rattle.nm_script.specs.Lines.{is_printable, words_of}
use Rattle.nm_script.specs.Spelled.{has_bytes}
use Rattle.nm_script.specs.TextRules.{Grammar, IsFirstFaultIn, IsRanks}

-- the text of a command's line, without its line feed
abbrev pub line_text : Line → List ℕ
line_text line = join_with_byte 32 ((decimal line.rank ++ codes ":") ∷ words line.command)

-- the text is the line's, which is in range
pub record IsLine (ranks : ℕ) (text : List ℕ) (line : Line) : Type 0 where
  pub text_is : text ≡ line_text line
  pub own : line.rank < ranks
  pub range : is_in_range ranks line.command ≡ true
  pub bytes : has_bytes line.command ≡ true

-- the first word is a rank with a colon
abbrev pub HasRank : ℕ → List (List ℕ) → Type 0
HasRank ranks [] = ⊥
HasRank ranks (first ∷ ws) = (r : ℕ) × (r < ranks) × (first ≡ decimal r ++ codes ":")

-- the second word is this command's name
abbrev pub Names : Keyword → List (List ℕ) → Type 0
Names keyword (first ∷ name ∷ ws) = name ≡ keyword_text keyword
Names keyword _ = ⊥

-- the words behind the command
abbrev pub behind : List (List ℕ) → List (List ℕ)
behind (first ∷ name ∷ ws) = ws
behind _ = []

-- a line other than the first, with its number, the lengths of the bodies before it and its words,
-- keeps the rule of a kind
abbrev pub KeepsRule : ℕ → ℕ → ℕ → List ℕ → List (List ℕ) → Kind → Type 0
KeepsRule ranks number total text ws kind.NotAscii = is_printable text ≡ true
KeepsRule ranks number total text ws kind.Lines = number ≤ MAX_LINES
KeepsRule ranks number total text ws kind.Rank = HasRank ranks ws
KeepsRule ranks number total text ws kind.Command = (keyword : Keyword) × Names keyword ws
KeepsRule ranks number total text ws kind.Count =
    (keyword : Keyword) → Names keyword ws → length (behind ws) ≡ length (arguments keyword)
KeepsRule ranks number total text ws kind.Number =
    (keyword : Keyword) → Names keyword ws → Each (IsSpelled ranks) (arguments keyword) (behind ws)
KeepsRule ranks number total text ws kind.Body =
    (keyword : Keyword) → Names keyword ws → Each IsBodyThere (arguments keyword) (behind ws)
KeepsRule ranks number total text ws kind.BodyTotal =
    (line : Line) → IsLine ranks text line → total + sent_len line.command ≤ MAX_BODIES
KeepsRule ranks number total text ws _ = Unit {0}

-- the first line keeps the rule of a kind
abbrev pub FirstKeeps : List ℕ → Kind → Type 0
FirstKeeps text kind.NotAscii = is_printable text ≡ true
FirstKeeps text kind.First = IsRanks text
FirstKeeps text _ = Unit {0}

-- the kinds of the first line, in their order
abbrev pub first_kinds : List Kind
first_kinds = kind.NotAscii ∷ kind.First ∷ []

-- the kinds of other lines, in their order
abbrev pub line_kinds : List Kind
line_kinds =
    kind.NotAscii ∷ kind.Lines ∷ kind.Rank ∷ kind.Command ∷ kind.Count ∷ kind.Number ∷ kind.Body
    ∷ kind.BodyTotal ∷ []

-- lines that may stand together in a script
pub record AreInLimits (ranks : ℕ) (lines : List Line) : Type 0 where
  pub in_range :
      list_all (λ line. nat_lt line.rank ranks && is_in_range ranks line.command) lines ≡ true
  pub of_bytes : list_all (λ line. has_bytes line.command) lines ≡ true
  pub bodies_fit : sum_by (λ line. sent_len line.command) lines ≤ MAX_BODIES

-- the rules of scripts
abbrev pub scripts : Grammar Line Kind
scripts = record {
  text_of = line_text;
  AreSound = AreInLimits;
  KeepsRule = λ ranks before text.
      KeepsRule ranks (length before + 2) (sum_by (λ line. sent_len line.command) before) text
      (words_of text);
  line_kinds = line_kinds;
  FirstKeeps = FirstKeeps;
  first_kinds = first_kinds;
  too_long = kind.TooLong;
}

-- the first fault of a text
abbrev pub IsFirstFault : List ℕ → ℕ → Kind → Type 0
IsFirstFault bytes number k = IsFirstFaultIn scripts bytes number k
