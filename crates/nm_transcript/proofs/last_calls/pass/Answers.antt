-- The first one may be kept.
use Rattle.nm_transcript.proofs.CallLemmas.{first_call, rest_calls}
use Rattle.nm_transcript.proofs.last_calls.pass.Goals as goal

pub returns-in-Some-clause-starts : goal.returns-in-Some-clause-starts
returns-in-Some-clause-starts c all starts last =
    c.leave.ensures all starts
    (first_call all c.args.last.now.items c.pop_front.new.self.items c.in-Some.call c.in-Some.ensures.items last)

pub returns-in-Some-clause-last : goal.returns-in-Some-clause-last
returns-in-Some-clause-last c all last =
    rest_calls all c.args.last.now.items c.pop_front.new.self.items c.in-Some.call c.in-Some.ensures.items last
