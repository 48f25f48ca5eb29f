use Rattle.std.proofs.Common.{List, [], Option, sym, ◌∙◌, ap}
use Rattle.std.specs.Option.{option_map_or}
use Rattle.nm_history.specs.declared.events.Event.{Event}
use Rattle.nm_history.specs.Completion.{is_taken}
use Rattle.nm_history.specs.Delivery.{earlier_than}
use Rattle.nm_history.specs.Quiescence.{Ended}
use Rattle.nm_check.proofs.WasLemmas.{none_taken}
use Rattle.nm_check.proofs.marks.was_paired.Goals as goal

pub is_taken_earlier-requires : goal.is_taken_earlier-requires
is_taken_earlier-requires c = record {
  rising = c.in-Some.ensures.stamps;
  taken = c.taken.ensures c.args.j c.args.of.now.lines.now c.in-Some.events.now c.in-Some.ensures.tabled.tells;
}

pub returns-in-Some : goal.returns-in-Some
returns-in-Some c =
    c.is_taken_earlier.ensures
    ∙ ap (λ (h : List Event). is_taken (earlier_than c.args.stamp h) c.args.i c.args.n) (sym c.in-Some.ensures.history)

pub returns-in-None : goal.returns-in-None
returns-in-None c =
    sym (none_taken c.args.i c.args.n) ∙ ap (λ (o : Option Ended). is_taken
    (earlier_than c.args.stamp (option_map_or (λ rank. rank.events) o [])) c.args.i c.args.n) (sym c.in-None.ensures)
