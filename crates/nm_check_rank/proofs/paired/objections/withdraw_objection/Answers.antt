use Rattle.std.proofs.Common.{◌∙◌, not, ◌&&◌, ◌||◌}
use Rattle.nm_history.specs.Matching.{is_free_message}
use Rattle.nm_check_rank.specs.Objections.{either, once_after, word_after}
use Rattle.nm_check_rank.specs.declared.paired.objections.Objection.TheVariants as against
use Rattle.nm_check_rank.proofs.paired.objections.withdraw_objection.Goals as goal

pub returns : goal.returns
unfolding is_free_message
returns c = λ rank lines h told.
    let settled = told.places.incoming.settled in
    let came = told.places.incoming.came in
    c.either.ensures ∙ (λ i. either (c.once_after.ensures i) (c.word_after.ensures i))
    ∙ (λ i. either (once_after (c.any.ensures i) c.is_before-came.result against.NotCome)
    (word_after (c.is_free-free.ensures i) c.args.done))
    ∙ (λ i. either
    (once_after
    (c.is_before-withdrawn.ensures h settled.withdrawn i || c.is_before-refused.ensures h settled.refused i)
    (c.is_before-came.ensures h came.arrivals i) against.NotCome)
    (word_after
    (not (c.is_taken-taken.ensures rank lines h told.tells i) && not (c.is_before-claimed.ensures h settled.claims i)
    && not (c.is_before-withdrawn.ensures h settled.withdrawn i)) c.args.done))
