-- Lines and their words.
use Rattle.std.specs.Prelude.{ℕ, ◌+◌, ◌-◌, Bool, ◌&&◌, ◌==◌, List, [], ◌∷◌, ◌++◌, length, slice_index}
use Rattle.std.specs.Prelude.{nat_lt, nat_le, if◌then◌else◌, flat_map}
use Rattle.std.specs.List.{slice_split, onto_first, list_all}

-- the bytes up to each line feed; nothing stands behind the last one
abbrev pub lines_of : List ℕ → List (List ℕ)
lines_of [] = []
lines_of (b ∷ bs) = if b == 10 then [] ∷ lines_of bs else onto_first b (lines_of bs)

-- the text of lines, each ended by a line feed
abbrev pub ended_lines : List (List ℕ) → List ℕ
ended_lines lines = flat_map (λ line. line ++ 10 ∷ []) lines

-- the words of a line, with one space between each two
abbrev pub words_of : List ℕ → List (List ℕ)
words_of line = slice_split (λ b. b == 32) line

-- no byte below 32 or above 126
abbrev pub is_printable : List ℕ → Bool
is_printable line = list_all (λ b. nat_le 32 b && nat_le b 126) line

-- the last byte is a line feed
abbrev pub is_fed : List ℕ → Bool
is_fed bytes = nat_lt 0 (length bytes) && slice_index bytes (length bytes - 1) == 10

-- the bytes, with a line feed where the last line lacks one
abbrev pub with_feed : List ℕ → List ℕ
with_feed bytes = if is_fed bytes then bytes else bytes ++ 10 ∷ []

-- how many they are
abbrev pub text_len : List ℕ → ℕ
text_len bytes = if is_fed bytes then length bytes else length bytes + 1
