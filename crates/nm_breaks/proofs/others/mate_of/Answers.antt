use Rattle.nm_breaks.specs.Others.{is_mate}
use Rattle.nm_breaks.proofs.OtherLemmas.{first_at, first_inside}
use Rattle.nm_breaks.proofs.others.mate_of.Goals as goal

pub held_at-requires-clause-inside : goal.held_at-requires-clause-inside
held_at-requires-clause-inside c =
    first_inside c.args.ranks.now c.args.y (is_mate c.args.x c.args.what.now) c.events_of.result.now
    c.mate_at-at.result c.events_of.ensures c.mate_at-at.ensures

pub returns : goal.returns
returns c =
    first_at c.args.ranks.now c.args.y (is_mate c.args.x c.args.what.now) c.events_of.result.now
    c.mate_at-at.result c.held_at.result c.events_of.ensures c.mate_at-at.ensures c.held_at.ensures
