-- The last one again.
use Rattle.nm_transcript.proofs.CallLemmas.{last_again}
use Rattle.nm_transcript.proofs.last_calls.start.Goals as goal

pub returns-in-Some : goal.returns-in-Some
returns-in-Some c all are =
    last_again all c.args.last.now.items c.pop_back.new.self.items c.push_back_reserved.new.self.items c.in-Some.call
    c.started.result c.in-Some.ensures.items c.push_back_reserved.ensures.items c.started.ensures.0 c.started.ensures.1
    are
