-- What is said.
use Rattle.std.specs.Prelude.{ℕ, ◌+◌, ◌++◌, Bool, List, [], ◌∷◌, codes, count_by, decimal, length, nat_eq}
use Rattle.std.specs.List.{ends_with}
use Rattle.nm_listed.specs.declared.places.Place.{Place}
use Rattle.nm_listed.specs.declared.places.Place.TheVariants.{At, Not}
use Rattle.nm_outcomes_top.specs.declared.words.Question.{Question}
use Rattle.nm_outcomes_top.specs.declared.words.Question.TheVariants.{Hangs}

-- a report whose last line says that a rank is stuck
abbrev pub is_stuck : List ℕ → Bool
is_stuck text = ends_with nat_eq text (codes "stuck\n")

-- how many of some reports are
abbrev pub stuck_count : List (List ℕ) → ℕ
stuck_count texts = count_by is_stuck texts

-- a report behind a line with its number
abbrev pub outcome_text : ℕ → List ℕ → List ℕ
outcome_text number text = codes "outcome " ++ (decimal number ++ (codes "\n" ++ text))

-- these reports, of which the first has this number
abbrev pub outcomes_from : ℕ → List (List ℕ) → List ℕ
outcomes_from number [] = []
outcomes_from number (text ∷ texts) = outcome_text number text ++ outcomes_from (number + 1) texts

-- the last line: how many reports there are, and how many of them are stuck
abbrev pub numbers_line : ℕ → ℕ → List ℕ
numbers_line all stuck =
    codes "outcomes " ++ (decimal all ++ (codes " stuck " ++ (decimal stuck ++ codes "\n")))

-- all that is said of the reports of a script
abbrev pub outcomes_text : List (List ℕ) → List ℕ
outcomes_text texts = outcomes_from 1 texts ++ numbers_line (length texts) (stuck_count texts)

-- the first line where each standard send may wait: how many variants that makes
abbrev pub head_line : ℕ → List ℕ
head_line count = codes "variants " ++ (decimal count ++ codes "\n")

-- all that is said then
abbrev pub joined_text : ℕ → List (List ℕ) → List ℕ
joined_text count texts = head_line count ++ outcomes_text texts

-- what is said where the script has no report with this number, but so many
abbrev pub fewer_text : ℕ → ℕ → List ℕ
fewer_text number count =
    codes "fault outcome " ++ (decimal number ++ (codes " " ++ (decimal count ++ codes "\n")))

-- what is said of a given report: its number among all, or the first line that no report has behind those before it
abbrev pub place_text : Place → List ℕ
place_text (At number) = codes "outcome " ++ (decimal number ++ codes "\n")
place_text (Not line) = codes "no outcome " ++ (decimal line ++ codes "\n")

-- what is said of an input that is too long, or has no line `---`
abbrev pub no_report : List ℕ
no_report = codes "fault report\n"

-- what is said where there are too many
abbrev pub outgrown_text : ℕ → List ℕ
outgrown_text states = codes "fault outcomes " ++ (decimal states ++ codes "\n")

-- what is said where no run hangs
abbrev pub no_hang_text : List ℕ
no_hang_text = codes "no hang\n"

-- what is said where none that hangs was found among so many states
abbrev pub unsettled_text : ℕ → List ℕ
unsettled_text states = codes "no hang in " ++ (decimal states ++ codes " states\n")

-- what is said where the limit came, by what was asked
abbrev pub over_text : Question → ℕ → List ℕ
over_text Hangs states = unsettled_text states
over_text _ states = outgrown_text states

-- what is said of words that are not taken
abbrev pub usage : List ℕ
usage =
    codes "usage: outcomes [--cells N] [--eager N] STATES <SCRIPT\n"
    ++ codes "       outcomes --eager either [--cells N] STATES <SCRIPT\n"
    ++ codes "       outcomes --trace K [--cells N] [--eager N] STATES <SCRIPT\n"
    ++ codes "       outcomes --among [--cells N] [--eager N] STATES <SCRIPT_AND_REPORT\n"
    ++ codes "       outcomes --hangs [--cells N] [--eager N] STATES <SCRIPT\n"
