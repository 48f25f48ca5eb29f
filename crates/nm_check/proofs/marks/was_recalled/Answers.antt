use Rattle.std.proofs.Common.{List, [], Option, sym, ◌∙◌, ap}
use Rattle.std.specs.Option.{option_map_or}
use Rattle.nm_history.specs.declared.events.Event.{Event}
use Rattle.nm_history.specs.Delivery.{earlier_than}
use Rattle.nm_history.specs.Happens.{happened, is_recall}
use Rattle.nm_history.specs.Quiescence.{Ended}
use Rattle.nm_check.proofs.marks.was_recalled.Goals as goal

pub is_earlier-requires : goal.is_earlier-requires
is_earlier-requires c = record {
  rising = c.in-Some.ensures.stamps;
  firsts = c.in-Some.ensures.tabled.places.outgoing.recalled.recalls;
}

pub returns-in-Some : goal.returns-in-Some
returns-in-Some c =
    c.is_earlier.ensures ∙ ap (λ (h : List Event). happened (is_recall c.args.j c.args.n) (earlier_than c.args.stamp h))
    (sym c.in-Some.ensures.history)

pub returns-in-None : goal.returns-in-None
returns-in-None c =
    ap (λ (o : Option Ended). happened (is_recall c.args.j c.args.n)
    (earlier_than c.args.stamp (option_map_or (λ rank. rank.events) o []))) (sym c.in-None.ensures)
