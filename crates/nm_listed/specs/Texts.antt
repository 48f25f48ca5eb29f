-- Lists of texts.
use Rattle.std.specs.Prelude.{ℕ, ◌↔◌, List, Contains, length, sum_by, Vec}

-- the bytes of a text
abbrev pub bytes_of : {A : Type 0} → Vec ℕ A → List ℕ
bytes_of text = text.items

-- two lists have the same texts
abbrev pub SameTexts : List (List ℕ) → List (List ℕ) → Type 0
SameTexts old new = (text : List ℕ) → Contains old text ↔ Contains new text

-- how many bytes the texts have together
abbrev pub total_length : List (List ℕ) → ℕ
total_length texts = sum_by length texts
