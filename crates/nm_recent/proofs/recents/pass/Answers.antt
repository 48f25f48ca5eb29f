-- The first of the last events may be pending.
use Rattle.nm_recent.proofs.RecentLemmas.{first_of}
use Rattle.nm_recent.proofs.recents.pass.Goals as goal

pub returns-clause-of : goal.returns-clause-of
returns-clause-of c history all last =
    c.leave.ensures.of history all
    (first_of history c.args.window.now.items c.pop_front.new.self.items c.in-Some.first c.in-Some.ensures.items last)
