-- The pending events are of the history.
use Rattle.std.proofs.Common.{subst}
use Rattle.nm_recent.specs.Recents.{AreOf, RecentView}
use Rattle.nm_recent.proofs.recents.Recent.pending.Goals as goal

pub returns : goal.returns
returns c = subst (λ (v : RecentView). AreOf v.events c.self.inside.pending.items) c.self.view_is c.self.invariant.1
