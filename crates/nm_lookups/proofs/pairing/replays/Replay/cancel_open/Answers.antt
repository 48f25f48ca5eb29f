use Rattle.nm_lookups.proofs.ReplayLemmas.{closed_keeps, unposted_keeps}
use Rattle.nm_lookups.proofs.pairing.replays.Replay.cancel_open.Goals as goal

pub returns-then-contains-clause-queues : goal.returns-then-contains-clause-queues
returns-then-contains-clause-queues c = λ h replays. closed_keeps replays c.args.number c.if-contains.ensures

pub returns-else-contains_key-clause-queues : goal.returns-else-contains_key-clause-queues
returns-else-contains_key-clause-queues c = λ h replays.
    unposted_keeps replays c.args.number c.if-contains_key.ensures
