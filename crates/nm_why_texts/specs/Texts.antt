-- What is said of a script that can hang.
use Rattle.std.specs.Prelude.{ℕ, ◌+◌, ◌++◌, List, codes, decimal, filter_map, flat_map}
use Rattle.std.specs.Prelude.{length}
use Rattle.std.specs.List.{slice_get}
use Rattle.nm_types.specs.declared.messages.Peer.TheVariants as peer
use Rattle.nm_types.specs.declared.messages.TagPick.TheVariants as pick
use Rattle.nm_why.specs.declared.changes.Change.{Change}
use Rattle.nm_why.specs.declared.changes.Change.TheVariants.{Edited, Swapped, LeftOut}
use Rattle.nm_why.specs.declared.changes.Edit.{Edit}
use Rattle.nm_why.specs.declared.changes.Edit.TheVariants.{Source, Tag, Context, Synchronous}
use Rattle.nm_why.specs.declared.cures.Cures.{Cures}
use Rattle.nm_why.specs.declared.hangs.Aim.{Aim}
use Rattle.nm_why.specs.declared.hangs.Aim.TheVariants.{Hang, Both}
use Rattle.nm_why.specs.declared.least.Least.{Least}
use Rattle.nm_why_texts.specs.declared.whys.Why.{Why}
use Rattle.nm_why_texts.specs.Waiting.{chain_line, wait_text}

-- the line at a place of a script, whose first line, the one of the ranks, has number 1
abbrev pub line_number : ℕ → List ℕ
line_number place = codes " " ++ decimal (place + 2)

-- what is edited
abbrev pub edit_words : Edit → List ℕ
edit_words (Source peer.Any) = codes "source any"
edit_words (Source (peer.One rank)) = codes "source " ++ decimal rank
edit_words (Tag pick.Any) = codes "tag any"
edit_words (Tag (pick.One tag)) = codes "tag " ++ decimal tag
edit_words (Context ctx) = codes "context " ++ decimal ctx
edit_words Synchronous = codes "synchronous"

-- a change
abbrev pub change_words : Change → List ℕ
change_words (Edited place edit) = codes "line " ++ (decimal (place + 2) ++ (codes " " ++ edit_words edit))
change_words (Swapped place other) =
    codes "lines " ++ (decimal (place + 2) ++ (codes " " ++ (decimal (other + 2) ++ codes " exchanged")))
change_words (LeftOut place) = codes "line " ++ (decimal (place + 2) ++ codes " left out")

-- a line for a change, behind a word
abbrev pub change_line : List ℕ → Change → List ℕ
change_line word change = word ++ (codes " " ++ (change_words change ++ codes "\n"))

-- a line of the numbers of the lines at places, behind a word
abbrev pub places_line : List ℕ → List ℕ → List ℕ
places_line word places = word ++ (flat_map line_number places ++ codes "\n")

-- what a least part of a script still does
abbrev pub least_head : Aim → ℕ → ℕ → List ℕ
least_head Hang kept all = codes "least " ++ (decimal kept ++ (codes " of " ++ (decimal all ++ codes " commands can hang\n")))
least_head Both kept all =
    codes "least " ++ (decimal kept ++ (codes " of " ++ (decimal all ++ codes " commands can hang and can end\n")))

-- its lines, and those at which a search gave up
abbrev pub least_text : Aim → Least → ℕ → List ℕ
least_text aim least all =
    least_head aim (length least.places.items) all
    ++ (places_line (codes "lines") least.places.items
    ++ places_line (codes "open") (filter_map (λ k. slice_get least.places.items k) least.undecided.items))

-- how many changes were tried, how many of them are cures, and at how many a search gave up
abbrev pub tried_line : ℕ → ℕ → ℕ → List ℕ
tried_line tried cures undecided =
    codes "changes "
    ++ (decimal tried ++ (codes " cures " ++ (decimal cures ++ (codes " open " ++ (decimal undecided ++ codes "\n")))))

-- .. and which these are
abbrev pub cures_text : ℕ → Cures → List ℕ
cures_text tried found =
    tried_line tried (length found.cures.items) (length found.undecided.items)
    ++ (flat_map (change_line (codes "cure")) found.cures.items
    ++ flat_map (change_line (codes "open")) found.undecided.items)

-- where the ranks wait and why, the least part, and the cures
abbrev pub why_text : Why → ℕ → List ℕ
why_text why all =
    flat_map (wait_text why.states.items) why.waits.items
    ++ (chain_line why.chain.items
    ++ (least_text why.aim why.least all ++ cures_text (length why.tried.items) why.cures))
