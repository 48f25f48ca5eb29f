use Rattle.std.proofs.Common.{Bool, subst}
use Rattle.std.specs.Prelude.{IsTrue}
use Rattle.std.specs.Bool.{OnTrue}
use Rattle.nm_history.specs.Quiescence.{is_over}
use Rattle.nm_lookups.specs.Deciding.{Decides}
use Rattle.nm_check.proofs.rest.over.is_eager_over.Goals as goal

pub returns : goal.returns
returns c = λ hi hj sent got.
    subst (λ (b : Bool). Decides c.is_implied.result
    (OnTrue b (IsTrue (is_over c.args.i c.args.j hi hj c.args.n)))) c.is_eager.ensures
    (subst (λ (b : Bool). Decides c.is_implied.result (OnTrue c.is_eager.result (IsTrue b)))
    (c.is_message_over-over.ensures hi hj sent got) c.is_implied.ensures)
