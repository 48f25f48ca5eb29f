-- The report of one rank that waits.
use Rattle.std.specs.Prelude.{ℕ, List, ◌++◌, codes, decimal}

-- the line of the command that can't go on, the eight cells, and the end
abbrev pub standing_text : ℕ → List ℕ
standing_text line =
    decimal 0 ++ (codes " " ++ (decimal line ++ (codes " waits\ncells " ++ (decimal 8
    ++ (codes " home " ++ (decimal 8 ++ codes "\nstuck\n"))))))
