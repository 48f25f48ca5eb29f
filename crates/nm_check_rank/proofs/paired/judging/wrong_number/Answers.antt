use Rattle.nm_check_rank.proofs.FrontLemmas.{number_breach, stamp_breach}
use Rattle.nm_check_rank.proofs.paired.judging.wrong_number.Goals as goal

pub returns-in-Some : goal.returns-in-Some
returns-in-Some c = λ commands at kept.
    stamp_breach c.args.shape commands at c.args.events.now c.args.k c.index-events-k.result c.requires.inside
    c.index-events-k.is kept c.in-Some.due (rw c.requires.last at c.in-Some.ensures.0)
    (rw c.requires.last at c.in-Some.ensures.1)

pub returns-in-None : goal.returns-in-None
returns-in-None c = λ commands at kept.
    number_breach c.args.shape commands at c.args.events.now c.args.k c.index-events-k.result c.requires.inside
    c.index-events-k.is kept c.number_due.result (rw c.requires.last at c.in-None.ensures) c.requires.broken
    c.number_due.ensures
