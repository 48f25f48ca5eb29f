-- Those that ran are in range, and so is the one that is ahead.
use Rattle.std.proofs.Common.{subst}
use Rattle.nm_process.specs.Playing.{AllInRange}
use Rattle.nm_calls.specs.Calling.{CallsView, ahead}
use Rattle.nm_calls.proofs.Given.{all_ahead}
use Rattle.nm_calls.proofs.calls.Calls.ranks.Goals as goal

pub returns-clause-in_range : goal.returns-clause-in_range
returns-clause-in_range c =
    let v : CallsView = record {
      ranks = c.self.inside.ranks;
      at = c.self.inside.at;
      given = c.self.inside.given.items;
      next = c.self.inside.next;
    } in
    subst (λ (w : CallsView). AllInRange w.ranks (ahead w)) c.self.view_is
    (all_ahead v c.self.invariant.2 c.self.invariant.3)
