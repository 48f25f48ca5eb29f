use Rattle.std.proofs.Common.{◌∙◌}
use Rattle.nm_check_rank.specs.Objections.{once_after}
use Rattle.nm_check_rank.specs.declared.paired.objections.Objection.TheVariants as against
use Rattle.nm_check_rank.proofs.paired.objections.recall_objection.Goals as goal

pub returns : goal.returns
returns c = λ rank lines h told.
    let outgoing = told.places.outgoing in
    c.once_after.ensures
    ∙ (λ i. once_after (c.is_before-recalled.ensures h outgoing.recalled.recalls i)
    (c.is_before-sent.ensures h outgoing.gone.sends i) against.NotSent)
