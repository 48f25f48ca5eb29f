-- One event more.
use Rattle.std.proofs.Common.{List, length, subst}
use Rattle.std.specs.Vec.Iter.{into_iter_items}
use Rattle.nm_history.specs.declared.events.Event.{Event}
use Rattle.nm_transcript.specs.Renumbered.{AreOf, number_in, renumbered_all, renumbered_event}
use Rattle.nm_transcript.proofs.MappedLemmas.{one_mapped}
use Rattle.nm_transcript.proofs.NumberLemmas.{event_is}
use Rattle.nm_transcript.proofs.renumbered.renumber_events.Goals as goal

pub renumbered_event-told-requires : goal.renumbered_event-told-requires
renumbered_event-told-requires c =
    (subst (λ (es : List Event). AreOf (length c.args.numbers.now) es) c.in-Some.ensures.steps.0
    c.loop-event.invariant.own).0

pub loop-event-preserved : goal.loop-event-preserved
loop-event-preserved c = record {
  all = one_mapped (renumbered_event (number_in c.args.numbers.now)) c.loop-event.all.items c.push.new.self.items
      (into_iter_items c.loop-event.event-iterator) (into_iter_items c.next.new.self) c.in-Some.event
      c.renumbered_event-told.result (renumbered_all (number_in c.args.numbers.now) c.args.events.items)
      c.in-Some.ensures.steps.0 c.in_ok-push.ensures.items
      (event_is (number_in c.args.numbers.now) c.renumbered_event-told.result c.in-Some.event
      c.renumbered_event-told.ensures.stamp c.renumbered_event-told.ensures.what) c.loop-event.invariant.all;
  own = (subst (λ (es : List Event). AreOf (length c.args.numbers.now) es) c.in-Some.ensures.steps.0
      c.loop-event.invariant.own).1;
}
