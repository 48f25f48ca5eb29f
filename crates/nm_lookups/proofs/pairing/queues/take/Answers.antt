use Rattle.nm_lookups.proofs.MatcherLemmas.{withdrawal_keeps}
use Rattle.nm_lookups.proofs.pairing.queues.take.Goals as goal

pub returns : goal.returns
returns c = λ posted unexpected knows came keeps.
    withdrawal_keeps keeps c.args.from c.args.n c.withdraw.result c.withdraw.new.self c.requires.known
    c.withdraw.ensures.late c.withdraw.ensures.deeds
