-- One rank more.
use Rattle.nm_sure.specs.Held.{own_lines}
use Rattle.nm_sure.proofs.Before.{ranks_more}
use Rattle.nm_sure.proofs.ranks.all_lines.Goals as goal

pub loop-rank-preserved : goal.loop-rank-preserved
loop-rank-preserved c =
    ranks_more (own_lines c.args.lines.now) c.loop-rank.all.items c.push.new.self.items c.in_ok-lines_of.field-0
    c.loop-rank.rank
    c.in_ok-lines_of.ensures c.loop-rank.invariant c.in_ok-push.ensures.items
