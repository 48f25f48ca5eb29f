use Rattle.std.proofs.Common.{Bool, ◌&&◌, ◌∙◌, ap}
use Rattle.nm_history.specs.Happens.{happened, is_out}
use Rattle.nm_check.proofs.rest.over.is_message_over.Goals as goal

pub returns : goal.returns
returns c = λ hi hj sent got.
    c.both.ensures ∙ ap (λ (b : Bool). b && c.is_ever-whole.result) (c.is_ever-out.ensures hi sent.outgoing.gone.outs)
    ∙ ap (λ (b : Bool). happened (is_out c.args.j c.args.n) hi && b)
    (c.is_ever-whole.ensures hj got.incoming.came.wholes)
