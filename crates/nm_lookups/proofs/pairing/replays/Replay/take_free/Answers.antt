use Rattle.nm_lookups.proofs.ReplayLemmas.{gone_keeps, message_known, missing_keeps}
use Rattle.nm_lookups.proofs.pairing.replays.Replay.take_free.Goals as goal

pub returns-then-contains-clause-queues : goal.returns-then-contains-clause-queues
returns-then-contains-clause-queues c = λ h replays. gone_keeps replays c.args.message c.if-contains.ensures

pub take-requires : goal.take-requires
take-requires c = record { known = message_known c.requires.known.1 c.args.message c.if-contains_key.ensures }

pub returns-else-contains_key-clause-queues : goal.returns-else-contains_key-clause-queues
returns-else-contains_key-clause-queues c = λ h replays.
    missing_keeps replays c.args.message c.if-contains_key.ensures
