-- What is sent is an equal body.
use Rattle.std.proofs.Common.{subst}
use Rattle.nm_types.specs.declared.scripts.Body.{Body}
use Rattle.nm_rank.specs.Steps.{StartsSend}
use Rattle.nm_multi.specs.Acts.{sent_by}
use Rattle.nm_multi.proofs.desks.send.Goals as goal

pub returns-clause-acts : goal.returns-clause-acts
returns-clause-acts c =
    subst (λ (b : Body). StartsSend (sent_by c.args.rank.now c.args.tag b) b c.in_ok-isend.field-0 c.args.rank.now
    c.isend.new.self) c.in_ok-body.ensures c.in_ok-isend.ensures.starts
