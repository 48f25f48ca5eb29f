use Rattle.std.proofs.Common.{List, [], Option, sym, ◌∙◌, ap}
use Rattle.std.specs.Option.{option_map_or}
use Rattle.nm_history.specs.declared.events.Event.{Event}
use Rattle.nm_history.specs.Delivery.{earlier_than}
use Rattle.nm_history.specs.Happens.{happened, is_withdraw}
use Rattle.nm_history.specs.Quiescence.{Ended}
use Rattle.nm_check.proofs.marks.was_withdrawn.Goals as goal

pub is_withdrawn-requires : goal.is_withdrawn-requires
is_withdrawn-requires c = record { rising = c.in-Some.ensures.stamps; places = c.in-Some.ensures.tabled.places }

pub returns-in-Some : goal.returns-in-Some
returns-in-Some c =
    c.is_withdrawn.ensures ∙ ap (λ (h : List Event). happened (is_withdraw c.args.i c.args.n c.args.done)
    (earlier_than c.args.stamp h)) (sym c.in-Some.ensures.history)

pub returns-in-None : goal.returns-in-None
returns-in-None c =
    ap (λ (o : Option Ended). happened (is_withdraw c.args.i c.args.n c.args.done)
    (earlier_than c.args.stamp (option_map_or (λ rank. rank.events) o []))) (sym c.in-None.ensures)
