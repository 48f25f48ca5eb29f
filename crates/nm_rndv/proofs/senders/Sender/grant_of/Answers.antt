use Rattle.std.proofs.Common.{◌∙◌}
use Rattle.nm_rndv.proofs.senders.Sender.grant_of.Goals as goal

pub returns : goal.returns
returns c = rw (← c.self.view_is) (c.get.ensures ∙ c.self.invariant.live.there c.args.n)
