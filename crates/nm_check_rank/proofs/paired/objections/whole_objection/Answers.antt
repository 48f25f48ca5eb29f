use Rattle.std.proofs.Common.{◌∙◌, take, not, ◌&&◌, Some, None}
use Rattle.std.specs.Prelude.{if◌then◌else◌}
use Rattle.nm_check_rank.specs.Objections.{either, once_after}
use Rattle.nm_check_rank.specs.declared.paired.objections.Objection.TheVariants as against
use Rattle.nm_check_rank.proofs.ObjectionLemmas.{no_whole}
use Rattle.nm_check_rank.proofs.paired.objections.whole_objection.Goals as goal

pub returns-in-Whole : goal.returns-in-Whole
returns-in-Whole c = λ rank lines h told.
    let came = told.places.incoming.came in
    rw c.in-Whole.is
    (c.either.ensures ∙ (λ i. either (c.once_after.ensures i) (c.untaken.ensures i))
    ∙ (λ i. either
    (once_after (c.is_before-whole.ensures h came.wholes i) (c.is_before-arrived.ensures h came.arrivals i)
    against.NotCome)
    (if c.is_before-asking.ensures h came.askings i && not (c.is_taken-taken.ensures rank lines h told.tells i)
    then Some against.NotTaken else None)))

pub returns-in_default : goal.returns-in_default
returns-in_default c = λ rank lines h told. no_whole (take c.args.k h) c.args.what.now c.in_default.not-Whole
