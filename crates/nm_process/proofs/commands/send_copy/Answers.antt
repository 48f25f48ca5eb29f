-- What a send of an equal body comes to is what it comes to with the body itself.
use Rattle.std.proofs.Common.{subst}
use Rattle.std.specs.Prelude.{IfOk}
use Rattle.nm_types.specs.declared.scripts.Body.{Body}
use Rattle.nm_rank.specs.Sends.{next_send}
use Rattle.nm_rank.specs.Steps.{StartsSend}
use Rattle.nm_process.proofs.commands.send_copy.Goals as goal

pub returns-clause-starts : goal.returns-clause-starts
returns-clause-starts h c =
    let g = c.args in
    subst (λ (x : Body). IfOk c.isend.result (λ r. StartsSend (next_send g.rank.now g.to g.tag g.ctx x g.sync g.line) x
    r g.rank.now c.isend.new.self)) c.in_ok-body.ensures c.isend.ensures.starts
