-- The moves of a rank.
use Rattle.std.proofs.Common.{List, length, ap, arith}
use Rattle.nm_lawful.specs.declared.messages.Message.{Message}
use Rattle.nm_lawful.specs.declared.messages.Request.{Request}
use Rattle.nm_lawful.proofs.SearchLemmas.{rank_moves}
use Rattle.nm_lawful.proofs.searches.push_rank.Goals as goal

pub returns-clause-added : goal.returns-clause-added
returns-clause-added c =
    let wide = ap (λ (xs : List Message). length xs) c.outgoing.ensures in
    let wider = ap (λ (xs : List Request). length xs) c.requests.ensures in
    rank_moves c.args.i c.max-width.result c.args.rank.now c.push.new.moves.items c.push_places.new.moves.items
    c.in_ok-push_places.ensures.kept c.in_ok-push.ensures.added (omega (arith, wide)) (omega (arith, wider))
    c.in_ok-push_places.ensures.added
