-- One more.
use Rattle.std.proofs.Common.{List, subst, sym}
use Rattle.nm_transcript.specs.declared.last_calls.Call.{Call}
use Rattle.nm_transcript.specs.LastCalls.{AreCallsOf}
use Rattle.nm_transcript.proofs.CallLemmas.{more_calls}
use Rattle.nm_transcript.proofs.last_calls.replace.Goals as goal

pub returns : goal.returns
returns c all are one =
    more_calls all c.forget.new.starts.items c.push_back.new.self.items c.args.call c.in_ok-push_back.ensures.items
    (c.forget.ensures all are) one

pub returns-in_err-push_back : goal.returns-in_err-push_back
returns-in_err-push_back c all are one =
    subst (λ (xs : List Call). AreCallsOf all xs) (sym c.in_err-push_back.ensures.items) (c.forget.ensures all are)
