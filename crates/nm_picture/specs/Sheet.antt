-- What stands in each picture: its colours, its signs and its caption.
use Rattle.std.specs.Prelude.{ℕ, Bool, true, false, not, ◌&&◌, ◌||◌, ◌==◌, List, [], ◌∷◌, ◌++◌, codes}
use Rattle.nm_diagram.specs.declared.signs.Sign.{Sign}
use Rattle.nm_diagram.specs.Signs.{name_of}
use Rattle.nm_picture.specs.declared.sheet.TheConstants.{SHEET}

-- what stands in each picture
unfoldable pub sheet_text : List ℕ
sheet_text = SHEET.now

-- the text begins with this part
abbrev pub begins : List ℕ → List ℕ → Bool
begins [] text = true
begins (b ∷ part) [] = false
begins (b ∷ part) (c ∷ text) = b == c && begins part text

-- the part stands somewhere in the text
abbrev pub stands_in : List ℕ → List ℕ → Bool
stands_in part [] = begins part []
stands_in part (b ∷ text) = begins part (b ∷ text) || stands_in part text

-- the start tag of the group that draws a sign
abbrev pub group_text : Sign → List ℕ
group_text sign = codes "<g id=\"" ++ (name_of sign ++ codes "\">")

-- the sheet draws each of these signs
abbrev pub are_drawn : List Sign → Bool
are_drawn [] = true
are_drawn (first ∷ others) = stands_in (group_text first) sheet_text && are_drawn others

-- how the ways of messages and the links are drawn
abbrev pub strokes : List (List ℕ)
strokes =
    codes "\n.eager, .ask { fill: none; stroke-width: 1.4; }\n"
    ∷ codes "\n.link { fill: none; stroke: #009e73; stroke-width: 1.4; }\n"
    ∷ codes "\n.eager { stroke: #0072b2; marker-end: url(#eager-head); }\n"
    ∷ codes "\n.ask { stroke: #c77f00; stroke-dasharray: 6 3; marker-end: url(#ask-head); }\n"
    ∷ codes "\n.back { fill: none; stroke: #b0568a; stroke-width: 1; stroke-dasharray: 2 3; marker-end: url(#back-head); }\n"
    ∷ []

-- what could hide a shape
abbrev pub covers : List (List ℕ)
covers =
    codes "display" ∷ codes "visibility" ∷ codes "opacity" ∷ codes "clip" ∷ codes "mask" ∷ codes "filter"
    ∷ []

-- each of these parts stands in the sheet
abbrev pub all_stand : List (List ℕ) → Bool
all_stand [] = true
all_stand (part ∷ parts) = stands_in part sheet_text && all_stand parts

-- none of them does
abbrev pub none_stands : List (List ℕ) → Bool
none_stands [] = true
none_stands (part ∷ parts) = not (stands_in part sheet_text) && none_stands parts
