use Rattle.nm_lookups.proofs.EventLemmas.{claimed_takes}
use Rattle.nm_lookups.proofs.pairing.replays.Replay.claim.Goals as goal

pub returns : goal.returns
returns c = λ h stamp line replays.
    claimed_takes replays c.let_go.new.self c.let_go.result stamp c.args.from c.args.n line c.let_go.ensures.gone
    (c.let_go.ensures.queues h replays) c.let_go.ensures.others
