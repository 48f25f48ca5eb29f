-- Whether one was taken out or not.
use Rattle.std.specs.VecDeque.{deque_items}
use Rattle.nm_recent.proofs.RecentLemmas.{taken_of}
use Rattle.nm_recent.proofs.recents.take_out.Goals as goal

pub returns-clause-of : goal.returns-clause-of
returns-clause-of c =
    taken_of deque_items c.args.pending.now c.remove-ended.new.self c.args.place c.remove-ended.result
    c.remove-ended.ensures.items c.remove-ended.ensures.unchanged
