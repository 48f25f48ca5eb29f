-- Lines, each ended by its line feed, and the bytes behind the last line feed.
use Rattle.std.specs.Prelude.{ℕ, List, [], ◌∷◌, Option, Some, None}
use Rattle.std.specs.Prelude.{◌==◌, if◌then◌else◌}
use Rattle.std.specs.Option.{option_map}

-- the bytes up to the first line feed, and those behind it
abbrev pub first_line : List ℕ → Option (List ℕ × List ℕ)
first_line [] = None
first_line (b ∷ bytes) =
    if b == 10 then Some ([], bytes)
    else option_map (λ cut. (b ∷ cut.0, cut.1)) (first_line bytes)

-- one byte more before these lines, and before what is behind them
abbrev pub onto_lines : ℕ → List (List ℕ) → List ℕ → List (List ℕ) × List ℕ
onto_lines b [] behind = ([], b ∷ behind)
onto_lines b (line ∷ lines) behind = ((b ∷ line) ∷ lines, behind)

-- the lines that a line feed ends, without it, and the bytes behind the last line feed
abbrev pub cut_lines : List ℕ → List (List ℕ) × List ℕ
cut_lines [] = ([], [])
cut_lines (b ∷ bytes) =
    if b == 10 then ([] ∷ (cut_lines bytes).0, (cut_lines bytes).1)
    else onto_lines b (cut_lines bytes).0 (cut_lines bytes).1

-- the lines that a line feed ends
abbrev pub whole_lines : List ℕ → List (List ℕ)
whole_lines bytes = (cut_lines bytes).0
