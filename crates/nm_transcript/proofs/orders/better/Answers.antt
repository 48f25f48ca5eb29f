-- This rank has a command.
use Rattle.nm_transcript.proofs.OrderLemmas.{next_there, not_both}
use Rattle.nm_transcript.proofs.orders.better.Goals as goal

pub returns-in_default-clause-some : goal.returns-in_default-clause-some
returns-in_default-clause-some c =
    next_there c.args.rest.now c.args.rank c.index-rest-rank.result c.requires.within c.index-rest-rank.is
    (λ none. not_both c.is_empty.result (c.is_empty.ensures.1 none) c.if-is_empty.false)

pub returns-in_default-2-clause-some : goal.returns-in_default-2-clause-some
returns-in_default-2-clause-some c =
    next_there c.args.rest.now c.args.rank c.index-rest-rank.result c.requires.within c.index-rest-rank.is
    (λ none. not_both c.is_empty.result (c.is_empty.ensures.1 none) c.if-is_empty.false)
