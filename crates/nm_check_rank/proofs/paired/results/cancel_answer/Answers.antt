use Rattle.std.proofs.Common.{Bool, ◌∙◌, ap, sym}
use Rattle.std.specs.Prelude.{if◌then◌else◌}
use Rattle.nm_types.specs.declared.answers.Answer.TheVariants as answer
use Rattle.nm_check_rank.proofs.paired.results.cancel_answer.Goals as goal

pub returns-then-is_paired : goal.returns-then-is_paired
returns-then-is_paired c = λ rank lines h told.
    let is = rw c.in-Some-Receiving.is at c.in-Some-Receiving.field-0-is in
    rw (c.in-Some-Receiving.is, is)
    (ap (λ (b : Bool). if b then answer.Late else answer.Done)
    (sym c.if-is_paired.true ∙ c.is_paired.ensures rank lines h told.tells))

pub returns-else-is_paired : goal.returns-else-is_paired
returns-else-is_paired c = λ rank lines h told.
    let is = rw c.in-Some-Receiving.is at c.in-Some-Receiving.field-0-is in
    rw (c.in-Some-Receiving.is, is)
    (ap (λ (b : Bool). if b then answer.Late else answer.Done)
    (sym c.if-is_paired.false ∙ c.is_paired.ensures rank lines h told.tells))
