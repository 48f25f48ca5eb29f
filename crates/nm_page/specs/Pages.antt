-- The text of a page: the picture of a run between two constant texts.
use Rattle.std.specs.Prelude.{◌≡◌, ℕ, Bool, true, not, ◌&&◌, List, [], ◌∷◌, ◌++◌, codes}
use Rattle.nm_report.specs.declared.records.RunRecord.{RunRecord}
use Rattle.nm_diagram.specs.declared.frames.Part.{Part}
use Rattle.nm_picture.specs.Pictures.{IsPictureIn}
use Rattle.nm_picture.specs.Sheet.{stands_in}
use Rattle.nm_page.specs.declared.texts.TheConstants.{DOCTYPE, FACTS, FRONT, POINTING, QUEUES}

-- the first line, by which a browser takes the page for HTML
unfoldable pub doctype_text : List ℕ
doctype_text = DOCTYPE.now

-- the title and the style, up to where the picture stands
unfoldable pub front_text : List ℕ
front_text = FRONT.now

-- all that stands before the picture
unfoldable pub start_text : List ℕ
start_text = doctype_text ++ front_text

-- what stands after it, in three parts: the panels, and the script's first part
unfoldable pub facts_text : List ℕ
facts_text = FACTS.now

-- the second part
unfoldable pub pointing_text : List ℕ
pointing_text = POINTING.now

-- the third part
unfoldable pub queues_text : List ℕ
queues_text = QUEUES.now

-- all that stands after the picture
unfoldable pub end_text : List ℕ
end_text = facts_text ++ (pointing_text ++ queues_text)

-- the page that holds a picture
unfoldable pub page_text : List ℕ → List ℕ
page_text picture = start_text ++ (picture ++ end_text)

-- the text is the page of this part of a run: that which holds its picture
pub record IsPageIn (part : Part) (run : RunRecord) (text : List ℕ) : Type 0 where
  pub picture : List ℕ
  pub of_run : IsPictureIn part run picture
  pub drawn : text ≡ page_text picture

-- what could hide a shape of the picture
abbrev pub hides : List (List ℕ)
hides =
    codes "none" ∷ codes "hidden" ∷ codes "visibility" ∷ codes "opacity" ∷ codes "clip" ∷ codes "mask"
    ∷ codes "filter" ∷ []

-- none of these parts stands in the style
abbrev pub hides_nothing : List (List ℕ) → Bool
hides_nothing [] = true
hides_nothing (part ∷ parts) = not (stands_in part front_text) && hides_nothing parts
