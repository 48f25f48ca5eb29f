-- The text of one end more.
use Rattle.nm_listed.proofs.ToldLemmas.{texts_more}
use Rattle.nm_listed.proofs.finding.end_texts.Goals as goal

pub loop-end-preserved : goal.loop-end-preserved
loop-end-preserved c =
    texts_more c.args.shape c.loop-end.texts c.push.new.self _ c.in-Some.end c.in_ok-end_text.field-0.items
    c.loop-end.invariant c.in_ok-push.ensures.ok c.in_ok-end_text.ensures
