use Rattle.std.proofs.Common.{◌∙◌, sym}
use Rattle.nm_check_rank.proofs.ArrivalLemmas.{came_before, came_later, came_never}
use Rattle.nm_check_rank.proofs.paired.arrivals.message_of.Goals as goal

pub returns-then-place-k : goal.returns-then-place-k
returns-then-place-k c =
    came_before c.args.events.now c.args.k c.args.message.rank c.args.message.n c.in-Some.place.now
    c.arrival_there.result
    (sym (c.in-Some.ensures.value ∙ c.requires.incoming.came.arrivals c.args.message)) c.if-place-k.true
    c.arrival_there.ensures

pub returns-else-place-k : goal.returns-else-place-k
returns-else-place-k c =
    came_later c.args.events.now c.args.k c.args.message.rank c.args.message.n c.in-Some.place.now
    (sym (c.in-Some.ensures.value ∙ c.requires.incoming.came.arrivals c.args.message)) c.if-place-k.false

pub returns-in-None : goal.returns-in-None
returns-in-None c =
    came_never c.args.events.now c.args.k c.args.message.rank c.args.message.n
    (sym (c.in-None.ensures.value ∙ c.requires.incoming.came.arrivals c.args.message))
