use Rattle.std.proofs.Common.{◌∙◌, ◌||◌}
use Rattle.nm_check_rank.specs.Objections.{once_after}
use Rattle.nm_check_rank.specs.declared.paired.objections.Objection.TheVariants as against
use Rattle.nm_check_rank.proofs.paired.objections.undone_objection.Goals as goal

pub returns : goal.returns
returns c = λ rank lines h told.
    let recalled = told.places.outgoing.recalled in
    c.once_after.ensures
    ∙ (λ i. once_after (c.any.ensures i) c.is_before-asked.result against.NotRecalled)
    ∙ (λ i. once_after
    (c.is_before-undone.ensures h recalled.undone i || c.is_before-late.ensures h recalled.late i)
    (c.is_before-asked.ensures h recalled.recalls i) against.NotRecalled)
