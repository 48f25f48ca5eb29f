use Rattle.std.proofs.Common.{Bool, not, ◌&&◌, ◌∙◌, ap}
use Rattle.nm_history.specs.Happens.{happened, is_out}
use Rattle.nm_check.proofs.rest.over.is_message_kept_back.Goals as goal

pub returns : goal.returns
returns c = λ hi hj sent got.
    c.neither.ensures ∙ ap (λ (b : Bool). not b && not c.is_ever-whole.result)
    (c.is_ever-out.ensures hi sent.outgoing.gone.outs)
    ∙ ap (λ (b : Bool). not (happened (is_out c.args.j c.args.n) hi) && not b)
    (c.is_ever-whole.ensures hj got.incoming.came.wholes)
