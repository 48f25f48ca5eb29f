-- What the words of a line spell.
use Rattle.std.specs.Prelude.{◌≡◌, ℕ, ◌<◌, true, List, ◌∷◌}
use Rattle.nm_plans.specs.declared.keywords.PlanKeyword.{PlanKeyword}
use Rattle.nm_plans.specs.declared.lines.PlanLine.{PlanLine}
use Rattle.nm_plans.specs.Grammar.{Argument, Value, is_in_range, is_value, keyword_text, value_word}
use Rattle.nm_plans.specs.Grammar.Argument.{Contents}
use Rattle.nm_plans.specs.Text.{line_text}

-- the word is an argument of this sort
abbrev pub IsSpelled : ℕ → Argument → List ℕ → Type 0
IsSpelled ranks sort word = (v : Value) × (is_value ranks sort v ≡ true) × (word ≡ value_word v)

-- a word that stands for a number is one
abbrev pub IsNumberThere : ℕ → Argument → List ℕ → Type 0
IsNumberThere ranks Contents word = Unit {0}
IsNumberThere ranks sort word = IsSpelled ranks sort word

-- a word that stands for a body is one
abbrev pub IsBodyThere : ℕ → Argument → List ℕ → Type 0
IsBodyThere ranks Contents word = IsSpelled ranks Contents word
IsBodyThere ranks _ word = Unit {0}

-- the text is the line's, which is in range
pub record IsLine (ranks : ℕ) (text : List ℕ) (line : PlanLine) : Type 0 where
  pub text_is : text ≡ line_text line
  pub own : line.rank < ranks
  pub range : is_in_range ranks line.command ≡ true

-- the second word is this command's name
abbrev pub Names : PlanKeyword → List (List ℕ) → Type 0
Names keyword (first ∷ name ∷ ws) = name ≡ keyword_text keyword
Names keyword _ = ⊥
