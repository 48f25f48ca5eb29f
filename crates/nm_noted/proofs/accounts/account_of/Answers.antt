-- The account has the events that are kept.
use Rattle.std.proofs.Common.{List, refl, subst, sym}
use Rattle.nm_history.specs.declared.events.Event.{Event}
use Rattle.nm_recent.specs.Recents.{AreOf}
use Rattle.nm_noted.proofs.accounts.account_of.Goals as goal

pub returns : goal.returns
returns c = record {
  at = refl;
  waits = refl;
  events = subst (λ (xs : List Event). AreOf c.args.rank.history.events xs) (sym c.from_vec.ensures)
      c.in_ok-events.ensures;
}
