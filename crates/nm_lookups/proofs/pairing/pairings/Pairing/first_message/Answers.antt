use Rattle.std.proofs.Common.{◌∙◌}
use Rattle.nm_lookups.proofs.ReplayLemmas.{first_message-followed}
use Rattle.nm_lookups.proofs.pairing.pairings.Pairing.first_message.Goals as goal

pub returns : goal.returns
returns c = λ rank lines h tells.
    c.probe.ensures.oldest ∙ first_message-followed h tells.queues c.args.from c.args.tag c.args.ctx
