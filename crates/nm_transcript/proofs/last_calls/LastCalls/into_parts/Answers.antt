-- What is kept is of all calls.
use Rattle.std.proofs.Common.{List, subst}
use Rattle.nm_types.specs.declared.scripts.Command.{Command}
use Rattle.nm_transcript.specs.LastCalls.{AreCallsOf}
use Rattle.nm_transcript.proofs.last_calls.LastCalls.into_parts.Goals as goal

pub returns-clause-starts : goal.returns-clause-starts
returns-clause-starts c =
    subst (λ (all : List Command). AreCallsOf all c.self.inside.starts.items) c.self.view_is c.self.invariant.1

pub returns-clause-last : goal.returns-clause-last
returns-clause-last c =
    subst (λ (all : List Command). AreCallsOf all c.self.inside.last.items) c.self.view_is c.self.invariant.2
