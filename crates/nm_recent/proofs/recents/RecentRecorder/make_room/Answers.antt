-- The lists stay.
use Rattle.std.proofs.Common.{List, ◌∙◌, subst, sym}
use Rattle.nm_history.specs.declared.events.Event.{Event}
use Rattle.nm_recent.specs.Recents.{AreOf}
use Rattle.nm_recent.proofs.recents.RecentRecorder.make_room.Goals as goal

pub invariant_of-self-in_err-reserve : goal.invariant_of-self-in_err-reserve
invariant_of-self-in_err-reserve c = (
  c.make_places.ensures.items ∙ c.self.invariant.0,
  subst (λ (xs : List Event). AreOf c.self.inside.all.items xs) (sym c.reserve.ensures.items) c.self.invariant.1,
)

pub invariant_of-self-2 : goal.invariant_of-self-2
invariant_of-self-2 c = (
  c.make_places.ensures.items ∙ c.self.invariant.0,
  subst (λ (xs : List Event). AreOf c.self.inside.all.items xs) (sym c.reserve.ensures.items) c.self.invariant.1,
)
