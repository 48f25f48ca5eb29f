-- A page is one, well formed, and hides nothing.
use Rattle.std.proofs.Common.{◌≡◌, ℕ, List, [], ◌∷◌, ◌++◌, true, refl, sym, ap, ◌∙◌, subst, codes, append_assoc}
use Rattle.nm_report.specs.declared.records.RunRecord.{RunRecord}
use Rattle.nm_diagram.specs.declared.frames.Part.{Part}
use Rattle.nm_picture.specs.WellFormed.{IsWellFormed, read}
use Rattle.nm_picture.specs.WellFormed.ReaderState.{Before, Between}
use Rattle.nm_picture.proofs.AlikeLemmas.{one-picture}
use Rattle.nm_picture.proofs.WellFormedLemmas.{behind, picture-well_formed}
use Rattle.nm_page.specs.Pages.{IsPageIn, doctype_text, end_text, facts_text, front_text, hides, hides_nothing, page_text}
use Rattle.nm_page.specs.Pages.{pointing_text, queues_text, start_text}
use Rattle.nm_page.proofs.WithinLemmas.{read-within, within}

pub one-page : (part : Part) (run : RunRecord) (a b : List ℕ) → IsPageIn part run a → IsPageIn part run b → a ≡ b
one-page part run a b p q =
    p.drawn ∙ ap page_text (one-picture part run p.picture q.picture p.of_run q.of_run) ∙ sym q.drawn

pub style-hides_nothing : hides_nothing hides ≡ true
unfolding front_text
style-hides_nothing = refl

-- the elements that the picture stands in, and the script with those round it
abbrev around : List (List ℕ)
around = codes "div" ∷ codes "body" ∷ codes "html" ∷ []

abbrev in_script : List (List ℕ)
in_script = codes "script" ∷ codes "body" ∷ codes "html" ∷ []

front-read : read Before front_text ≡ Between (codes "div" ∷ around)
unfolding front_text
front-read = refl

facts-read : read (Between (codes "div" ∷ around)) facts_text ≡ Between in_script
unfolding facts_text
facts-read = refl

pointing-read : read (Between in_script) pointing_text ≡ Between in_script
unfolding pointing_text
pointing-read = refl

queues-read : read (Between in_script) queues_text ≡ Between []
unfolding queues_text
queues-read = refl

end-read : read (Between (codes "div" ∷ around)) end_text ≡ Between []
unfolding end_text
end-read =
    behind (Between (codes "div" ∷ around)) (Between in_script) facts_text (pointing_text ++ queues_text) facts-read
    ∙ behind (Between in_script) (Between in_script) pointing_text queues_text pointing-read ∙ queues-read

page-read : (picture : List ℕ) → IsWellFormed picture → IsWellFormed (front_text ++ (picture ++ end_text))
page-read picture h =
    behind Before (Between (codes "div" ∷ around)) front_text (picture ++ end_text) front-read
    ∙ behind (Between (codes "div" ∷ around)) (Between (codes "div" ∷ around)) picture end_text
    (read-within (codes "div") around Before picture h)
    ∙ end-read

pub page-well_formed : (part : Part) (run : RunRecord) (text : List ℕ) → IsPageIn part run text →
    (rest : List ℕ) × (text ≡ doctype_text ++ rest) × IsWellFormed rest
unfolding page_text start_text
page-well_formed part run text page =
    let frame = page.of_run.frame in
    let formed = picture-well_formed frame run.ranks in
    let inner : IsWellFormed page.picture = subst IsWellFormed (sym page.of_run.drawn) formed in (
      front_text ++ (page.picture ++ end_text),
      page.drawn ∙ append_assoc doctype_text front_text (page.picture ++ end_text),
      page-read page.picture inner,
    )
