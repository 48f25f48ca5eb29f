-- The text of the next number is written.
use Rattle.nm_picture.specs.Pictures.{name_text}
use Rattle.nm_picture.proofs.CountLemmas.{next_counted}
use Rattle.nm_picture.proofs.outlines.push_names.Goals as goal

pub loop-k-preserved : goal.loop-k-preserved
loop-k-preserved c =
    next_counted (name_text c.args.frame.now c.args.rank) c.loop-k.k _ _ _ _
    c.loop-k-test.true c.in_ok-push_name.ensures.ok c.loop-k.invariant
