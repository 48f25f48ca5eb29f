use Rattle.nm_lookups.proofs.EventLemmas.{cancel_takes}
use Rattle.nm_lookups.proofs.pairing.replays.Replay.cancel.Goals as goal

pub returns : goal.returns
returns c = λ h stamp replays.
    let same = c.cancel_open.ensures.others in
    cancel_takes replays (record c.cancel_open.new.self { closed = c.insert.new.self }) stamp c.args.number same.posts
    same.messages same.gone (rw same.closed at c.in_ok-insert.ensures.updates) (c.cancel_open.ensures.queues h replays)
