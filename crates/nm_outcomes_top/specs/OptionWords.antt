-- The words of the command line.
use Rattle.std.specs.Prelude.{◌≡◌, ◌≢◌, ℕ, ◌≤◌, List, [], ◌∷◌, ◌++◌, codes, decimal}
use Rattle.nm_types.specs.Sizes.{Sizes}
use Rattle.nm_script.specs.CommandWords as nemesis
use Rattle.nm_script.specs.declared.command_line.CommandLine.{CommandLine}
use Rattle.nm_script.specs.declared.command_line.Mode.TheVariants.{Run}
use Rattle.nm_outcomes_top.specs.declared.words.Asked.{Asked}
use Rattle.nm_outcomes_top.specs.declared.words.Question.{Question}
use Rattle.nm_outcomes_top.specs.declared.words.Question.TheVariants.{All, Trace, Among, Either, Hangs}

-- the same cells and the same eager limit as words of `nemesis run`
abbrev pub as_run : Asked → CommandLine
as_run asked = record { mode = Run; cells = asked.cells; eager = asked.eager }

-- the first words, which say what is asked of the reports
abbrev pub question_words : Question → List (List ℕ)
question_words All = []
question_words (Trace number) = codes "--trace" ∷ decimal number ∷ []
question_words Among = codes "--among" ∷ []
question_words Hangs = codes "--hangs" ∷ []
question_words Either = codes "--eager" ∷ codes "either" ∷ []

-- the words of the eager limit, where the question has one: the largest
abbrev pub limit_words : Question → List (List ℕ)
limit_words Either = codes "--eager" ∷ codes "4096" ∷ []
limit_words _ = []

-- a number of a report is in range
abbrev pub IsQuestion : Question → Type 0
IsQuestion (Trace number) = (1 ≤ number) × (number ≤ 16777216)
IsQuestion _ = Unit {0}

-- the words begin with what is asked, and the others stand behind it
pub record Begins (words : List (List ℕ)) (question : Question) (others : List (List ℕ)) : Type 0 where
  pub words_are : words ≡ question_words question ++ others
  pub number : IsQuestion question

-- where nothing is said of a question, there are words, and the first of them is not one that asks
abbrev pub Continues : Question → List (List ℕ) → Type 0
Continues All others =
    (first : List ℕ) × (rest : List (List ℕ)) × (others ≡ first ∷ rest) × (first ≢ codes "--trace")
    × (first ≢ codes "--among") × (first ≢ codes "--hangs")
    × ((more : List (List ℕ)) → others ≢ codes "--eager" ∷ codes "either" ∷ more)
Continues _ others = Unit {0}

-- these words ask for these sizes: options as behind `nemesis run`, and behind them the number of states
pub record IsSized (words : List (List ℕ)) (asked : Asked) : Type 0 where
  pub options : List (List ℕ)
  pub words_are : words ≡ options ++ decimal asked.states ∷ []
  pub some_state : 1 ≤ asked.states
  pub few_states : asked.states ≤ 16777216
  pub sizes : nemesis.IsTaken (codes "run" ∷ (limit_words asked.question ++ options)) (as_run asked)

-- The words ask for this: what is asked stands first, and behind it the sizes.
pub record IsTaken (words : List (List ℕ)) (asked : Asked) : Type 0 where
  pub others : List (List ℕ)
  pub begins : Begins words asked.question others
  pub sized : IsSized others asked

-- words that are not taken
abbrev pub NotTaken : List (List ℕ) → Type 0
NotTaken words = (asked : Asked) → ¬ (IsTaken words asked)

-- what was taken is in range
pub record InRange (asked : Asked) : Type 0 where
  pub question : IsQuestion asked.question
  pub some_state : 1 ≤ asked.states
  pub some_cell : 1 ≤ asked.cells
  pub few_cells : asked.cells ≤ 64
  pub few_eager : asked.eager ≤ 4096

-- the sizes of a run: so many ranks, and what the words say of cells and of the eager limit
abbrev pub sizes_for : Asked → ℕ → Sizes
sizes_for asked ranks = record { ranks = ranks; cells = asked.cells; eager = asked.eager }
