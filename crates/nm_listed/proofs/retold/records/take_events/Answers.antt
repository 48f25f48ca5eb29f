-- One entry more.
use Rattle.std.specs.Vec.Iter.{into_iter_items}
use Rattle.nm_outcomes.specs.Logs.{history_in}
use Rattle.nm_listed.proofs.RecordLemmas.{dealt_next}
use Rattle.nm_listed.proofs.retold.records.take_events.Goals as goal

pub loop-entry-preserved : goal.loop-entry-preserved
loop-entry-preserved c =
    let xs = into_iter_items c.loop-entry.entry-iterator in
    let rest = into_iter_items c.next.new.self in
    record {
      mine = dealt_next c.loop-entry.events.items c.deal.new.events.items (history_in c.args.entries.now.items c.args.i)
          xs rest c.in-Some.entry c.args.i c.in-Some.ensures.steps.0 c.in_ok-deal.ensures.mine
          c.loop-entry.invariant.mine;
      others = λ j other. dealt_next (history_in c.loop-entry.entries.items j)
          (history_in c.deal.new.others.items j) (history_in c.args.entries.now.items j) xs rest c.in-Some.entry j
          c.in-Some.ensures.steps.0 (c.in_ok-deal.ensures.others j other) (c.loop-entry.invariant.others j other);
    }
