use Rattle.std.proofs.Common.{◌∙◌, sym, ap, refl, not, ◌++◌, ◌∷◌, []}
use Rattle.nm_plans.specs.Expansion.{expand}
use Rattle.nm_persist.specs.Sizes.{IsSizeOf}
use Rattle.nm_persist.proofs.DraftLemmas.{draft_more, none_of}
use Rattle.nm_persist.proofs.SizeLemmas.{size_fits}
use Rattle.nm_persist.proofs.drafts.Draft.add.Goals as goal

pub returns-clause-draft : goal.returns-clause-draft
returns-clause-draft c =
    let old = c.args.self.now in
    let line = c.args.line in
    let script = expand (old.lines ++ line ∷ []) in
    let size : IsSizeOf c.in-Some.size old.ranks script = rw c.in-Some.is at c.in_ok-size.ensures in
    draft_more _ old line c.requires.draft refl c.in_ok-push.ensures.ok c.in_ok-note.ensures c.in_ok-note-2.ensures
    size c.requires.in_range
    (none_of old.ranks old.lines line (sym c.is_taken.ensures ∙ c.if-is_taken.false)
    (sym c.has_other_parts.ensures ∙ c.if-has_other_parts.false)
    (sym c.is_out_of_order.ensures ∙ c.if-is_out_of_order.false)
    (ap not (size_fits c.in-Some.size old.ranks script size)))
