-- Markup: elements with their attributes, and text between tags.
use Rattle.std.specs.Prelude.{ℕ, Bool, not, ◌&&◌, List, [], ◌∷◌, ◌++◌, ◌==◌, if◌then◌else◌, codes, flat_map, nat_le}

-- a byte that ASCII prints
abbrev pub is_printable : ℕ → Bool
is_printable b = nat_le 32 b && nat_le b 126

-- a byte of a text: what markup gives a meaning is spelled out, and a byte that is not printed is a question
-- mark
abbrev pub escaped_byte : ℕ → List ℕ
escaped_byte b =
    if b == 60 then codes "&lt;" else (if b == 62 then codes "&gt;" else (if b == 38 then codes "&amp;"
    else (if is_printable b then b ∷ [] else codes "?")))

-- a text between tags
abbrev pub escaped : List ℕ → List ℕ
escaped text = flat_map escaped_byte text

-- a printed byte that begins and ends no tag
abbrev pub is_plain : ℕ → Bool
is_plain b = not (b == 60) && not (b == 62) && is_printable b

-- attributes, each a name and a value in quotes, before what follows
abbrev pub attributes : List (List ℕ × List ℕ) → List ℕ → List ℕ
attributes [] rest = rest
attributes (a ∷ more) rest =
    codes " " ++ (a.0 ++ (codes "=\"" ++ (a.1 ++ (codes "\"" ++ attributes more rest))))

-- an element before what follows: its start tag, its content, which stands before the end tag, and this
abbrev pub element : List ℕ → List (List ℕ × List ℕ) → (List ℕ → List ℕ) → List ℕ → List ℕ
element name attrs content rest =
    codes "<" ++ (name ++ attributes attrs (codes ">" ++ content (codes "</" ++ (name
    ++ (codes ">" ++ rest)))))

-- no content
abbrev pub empty : List ℕ → List ℕ
empty rest = rest
