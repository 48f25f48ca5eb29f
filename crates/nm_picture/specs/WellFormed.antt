-- Well-formed markup: one element, whose start and end tags pair at every depth, with each attribute's value
-- in quotes, and `<` and `&` nowhere but where a tag or a reference begins. XML 1.0, section 2.1.
use Rattle.std.specs.Prelude.{◌≡◌, ℕ, ◌==◌, ◌&&◌, ◌||◌, Bool, not, nat_le, if◌then◌else◌, List, [], ◌∷◌, ◌++◌}
use Rattle.nm_picture.specs.Markup.{is_printable}

-- where a reader of markup stands, with the names of the elements that are open, the innermost first:
-- before the first tag; between tags; behind `<`; in a start tag's name, of which so much is read; before an
-- attribute, in its name, behind its equals sign, in its value, and behind it; behind `&`; where this byte
-- has to come, and then these ones; or nowhere, since the text is not well formed
pub data ReaderState : Type 0 where
  Before : ReaderState
  Between : List (List ℕ) → ReaderState
  Opened : List (List ℕ) → ReaderState
  Named : List ℕ → List (List ℕ) → ReaderState
  Spaced : List (List ℕ) → ReaderState
  Attribute : List (List ℕ) → ReaderState
  Equals : List (List ℕ) → ReaderState
  Value : List (List ℕ) → ReaderState
  Quoted : List (List ℕ) → ReaderState
  Reference : List (List ℕ) → ReaderState
  Expects : ℕ → List ℕ → List (List ℕ) → ReaderState
  Broken : ReaderState

-- a letter
abbrev pub is_letter : ℕ → Bool
is_letter b = (nat_le 65 b && nat_le b 90) || (nat_le 97 b && nat_le b 122)

-- a byte of a name: a letter or a digit
abbrev pub is_name : ℕ → Bool
is_name b = is_letter b || (nat_le 48 b && nat_le b 57)

-- a byte of a text or a value: a printed one but `>`, or a line feed
abbrev pub is_text : ℕ → Bool
is_text b = is_printable b && not (b == 62) || b == 10

-- these bytes have to come, and then the text goes on between tags
abbrev pub expects : List ℕ → List (List ℕ) → ReaderState
expects [] tags = Between tags
expects (b ∷ rest) tags = Expects b rest tags

-- behind the `/` of an end tag: it is that of the innermost element
abbrev pub ends : List (List ℕ) → ReaderState
ends [] = Broken
ends (name ∷ tags) = expects (name ++ 62 ∷ []) tags

-- behind a name or a value in a start tag: the tag ends, or there is a further attribute
abbrev pub goes_on : ℕ → List (List ℕ) → ReaderState
goes_on b tags = if b == 62 then Between tags else (if b == 32 then Spaced tags else Broken)

-- the place behind one byte more
abbrev pub step : ReaderState → ℕ → ReaderState
step Before b = if b == 60 then Opened [] else Broken
step (Between []) b = if b == 10 then Between [] else Broken
step (Between (name ∷ tags)) b =
    if b == 60 then Opened (name ∷ tags) else (if b == 38 then Reference (name ∷ tags)
    else (if is_text b then Between (name ∷ tags) else Broken))
step (Opened tags) b =
    if is_letter b then Named (b ∷ []) tags else (if b == 47 then ends tags else Broken)
step (Named name tags) b = if is_name b then Named (name ++ b ∷ []) tags else goes_on b (name ∷ tags)
step (Spaced tags) b = if is_letter b then Attribute tags else Broken
step (Attribute tags) b = if is_name b then Attribute tags else (if b == 61 then Equals tags else Broken)
step (Equals tags) b = if b == 34 then Value tags else Broken
step (Value tags) b =
    if b == 34 then Quoted tags else (if b == 60 || b == 38 then Broken
    else (if is_text b then Value tags else Broken))
step (Quoted tags) b = goes_on b tags
step (Reference tags) b =
    if b == 108 || b == 103 then Expects 116 (59 ∷ []) tags
    else (if b == 97 then Expects 109 (112 ∷ 59 ∷ []) tags else Broken)
step (Expects first rest tags) b = if b == first then expects rest tags else Broken
step Broken b = Broken

-- the place behind some bytes more
abbrev pub read : ReaderState → List ℕ → ReaderState
read place [] = place
read place (b ∷ bytes) = read (step place b) bytes

-- the text is one element, and line feeds behind it
abbrev pub IsWellFormed : List ℕ → Type 0
IsWellFormed text = read Before text ≡ Between []
