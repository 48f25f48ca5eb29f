-- The text of a plan: a line for its ranks, and one for each command. Each plan has exactly one text.
use Rattle.std.specs.Prelude.{◌≡◌, ℕ, ◌⊎◌, List, [], ◌∷◌, ◌++◌, codes, decimal, flat_map, map}
use Rattle.std.specs.List.{join_with_byte}
use Rattle.nm_types.specs.Text.{text_line}
use Rattle.nm_plans.specs.declared.lines.PlanCommand.{PlanCommand}
use Rattle.nm_plans.specs.declared.lines.PlanLine.{PlanLine}
use Rattle.nm_plans.specs.Grammar.{keyword_in, keyword_text, value_word, values}

-- the words of a command: its name and its arguments
abbrev pub words : PlanCommand → List (List ℕ)
words c = keyword_text (keyword_in c) ∷ map value_word (values c)

-- the words of a command's line, which begins with its rank and a colon
abbrev pub line_words : PlanLine → List (List ℕ)
line_words line = (decimal line.rank ++ codes ":") ∷ words line.command

-- the text of a command's line, without its line feed
abbrev pub line_text : PlanLine → List ℕ
line_text line = join_with_byte 32 (line_words line)

-- the whole text, each line ended
abbrev pub plan_text : ℕ → List PlanLine → List ℕ
plan_text ranks lines =
    text_line (codes "ranks" ∷ decimal ranks ∷ []) ++ flat_map (λ line. text_line (line_words line)) lines

-- the bytes are the plan's text, or that text without its last line feed
abbrev pub SpellsPlan : List ℕ → ℕ → List PlanLine → Type 0
SpellsPlan bytes ranks lines =
    (bytes ≡ plan_text ranks lines) ⊎ (bytes ++ 10 ∷ [] ≡ plan_text ranks lines)
