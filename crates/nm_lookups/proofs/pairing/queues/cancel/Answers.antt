use Rattle.nm_lookups.proofs.MatcherLemmas.{cancel_keeps}
use Rattle.nm_lookups.proofs.pairing.queues.cancel.Goals as goal

pub returns : goal.returns
returns c = λ posted unexpected knows came keeps.
    cancel_keeps keeps c.args.number c.cancel.result c.cancel.new.self c.requires.known c.cancel.ensures.late
    c.cancel.ensures.deeds
