use Rattle.nm_persist.specs.Report.{results_of}
use Rattle.nm_persist.proofs.texts.push_words.Goals as goal

pub returns-in_ok-push_received-in-Received : goal.returns-in_ok-push_received-in-Received
returns-in_ok-push_received-in-Received c = λ before are.
    rw c.in-Received.is (c.in_ok-push_received-in-Received.ensures (results_of c.args.asked.now before)
    (c.in_ok-received-in-Received.ensures.received before are))
