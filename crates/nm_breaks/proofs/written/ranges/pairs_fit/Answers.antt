use Rattle.std.proofs.lemmas.List.{get_or_default}
use Rattle.nm_lookups.proofs.EachLemmas.{each_kept, each_next}
use Rattle.nm_trace.specs.Traces.{PairIn}
use Rattle.nm_breaks.proofs.written.ranges.pairs_fit.Goals as goal

pub loop-pair-preserved : goal.loop-pair-preserved
loop-pair-preserved c =
    each_next PairIn c.args.pairs.now c.loop-pair.pair-index _ c.loop-pair-test.true
    (get_or_default c.args.pairs.now c.loop-pair.pair-index _ _ c.loop-pair-test.true) c.loop-pair.invariant
    c.pair_fits.ensures

pub returns : goal.returns
returns c = each_kept PairIn c.args.pairs.now c.loop-pair.pair-index c.loop-pair-test.false c.loop-pair.invariant
