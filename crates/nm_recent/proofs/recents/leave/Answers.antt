-- One more is pending.
use Rattle.std.proofs.Common.{List, subst, sym}
use Rattle.nm_history.specs.declared.events.Event.{Event}
use Rattle.nm_recent.specs.Recents.{AreOf}
use Rattle.nm_recent.proofs.RecentLemmas.{more_of}
use Rattle.nm_recent.proofs.recents.leave.Goals as goal

pub returns-then-begins-clause-of : goal.returns-then-begins-clause-of
returns-then-begins-clause-of c history all one =
    subst (λ (xs : List Event). AreOf history xs) (sym c.push_back_reserved.ensures.items)
    (more_of history c.args.pending.now.items c.args.event all one)
