use Rattle.nm_lookups.proofs.EachLemmas.{each_kept, each_next}
use Rattle.nm_trace.specs.Traces.{EventIn}
use Rattle.nm_breaks.proofs.written.ranges.events_fit.Goals as goal

pub loop-e-preserved : goal.loop-e-preserved
loop-e-preserved c =
    each_next EventIn c.args.events.now c.loop-e.e-index c.e-item.result c.loop-e-test.true c.e-item.is
    c.loop-e.invariant c.event_fits.ensures

pub returns : goal.returns
returns c = each_kept EventIn c.args.events.now c.loop-e.e-index c.loop-e-test.false c.loop-e.invariant
