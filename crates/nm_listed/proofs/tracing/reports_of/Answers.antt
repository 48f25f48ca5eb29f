-- The report of one end more, and the way to it.
use Rattle.std.proofs.Common.{refl}
use Rattle.nm_listed.proofs.ToldLemmas.{texts_more}
use Rattle.nm_listed.proofs.TraceLemmas.{ways_more}
use Rattle.nm_listed.proofs.tracing.reports_of.Goals as goal

pub loop-end-preserved : goal.loop-end-preserved
loop-end-preserved c = record {
  texts = texts_more c.args.shape c.loop-end.texts c.push_report.new.texts _ c.in-Some.end _ c.loop-end.invariant.texts
      c.in_ok-push_report.ensures.text refl;
  ways = ways_more c.loop-end.paths.items c.push_report.new.paths.items _ c.in-Some.end c.loop-end.invariant.ways
      c.in_ok-push_report.ensures.way;
}
