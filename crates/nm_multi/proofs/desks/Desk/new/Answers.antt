-- The rank is new, and the log is empty.
use Rattle.nm_multi.proofs.BegunLemmas.{begun}
use Rattle.nm_multi.proofs.desks.Desk.new.Goals as goal

pub invariant_of-result : goal.invariant_of-result
invariant_of-result c =
    let v = c.in_ok-rank.rank in
    let new = c.in_ok-rank.ensures in
    begun c.args.shape v c.new-log.result.entries c.requires.one new
    (c.a_desk_begins.ensures c.args.shape v c.requires.one new) c.new-log.ensures
