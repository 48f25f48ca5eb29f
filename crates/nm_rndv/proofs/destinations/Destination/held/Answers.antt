use Rattle.std.proofs.Common.{◌∙◌}
use Rattle.nm_rndv.proofs.destinations.Destination.held.Goals as goal

pub returns : goal.returns
returns c = rw (← c.self.view_is) (c.held.ensures ∙ c.self.invariant.0.many)
