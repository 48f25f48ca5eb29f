-- One argument behind the first word.
use Rattle.std.specs.Prelude.{◌≡◌, ℕ, ◌≤◌, ◌⊎◌, List, ◌∷◌, ◌++◌, codes, decimal}
use Rattle.nm_script.specs.declared.command_line.arguments.Argument.{Argument}
use Rattle.nm_script.specs.declared.command_line.arguments.Argument.TheVariants.{Cells, Eager, Number}

-- the words begin with the option of this name, as one word with its value or as two
abbrev pub IsOption : List ℕ → ℕ → List (List ℕ) → List (List ℕ) → Type 0
IsOption name value words others =
    (words ≡ name ∷ decimal value ∷ others) ⊎ (words ≡ ((name ++ codes "=") ++ decimal value) ∷ others)

-- the words begin with this argument, and the others stand behind it
abbrev pub IsArgument : Argument → List (List ℕ) → List (List ℕ) → Type 0
IsArgument (Cells cells) words others =
    (1 ≤ cells) × (cells ≤ 64) × IsOption (codes "--cells") cells words others
IsArgument (Eager eager) words others = (eager ≤ 4096) × IsOption (codes "--eager") eager words others
IsArgument (Number number) words others = (number ≤ 65535) × (words ≡ decimal number ∷ others)
