use Rattle.std.proofs.Common.{ap}
use Rattle.std.specs.Prelude.{nat_lt}
use Rattle.std.proofs.lemmas.Option.{get_or_from_slice_get}
use Rattle.nm_history.specs.declared.events.Event.{Event}
use Rattle.nm_lookups.proofs.firsts.is_stamped_before.Goals as goal

pub returns-clause-there : goal.returns-clause-there
returns-clause-there c = λ e here.
    ap (λ (x : Event). nat_lt x.stamp c.args.stamp)
    (get_or_from_slice_get c.args.events.now c.args.place e c.index-events-place.result here)
