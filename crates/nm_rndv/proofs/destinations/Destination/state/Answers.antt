use Rattle.std.proofs.Common.{◌∙◌}
use Rattle.nm_rndv.proofs.destinations.Destination.state.Goals as goal

pub returns : goal.returns
returns c = rw (← c.self.view_is) (c.get.ensures ∙ c.self.invariant.0.there c.args.n)
