-- How long words are.
use Rattle.std.specs.Prelude.{ℕ, ◌+◌, List, [], ◌∷◌, length}

-- how long words are together, each with one byte behind it
abbrev pub ended_len : List (List ℕ) → ℕ
ended_len [] = 0
ended_len (word ∷ words) = 1 + length word + ended_len words
