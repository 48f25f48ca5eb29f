use Rattle.std.proofs.Common.{sym, ap, List}
use Rattle.nm_history.specs.declared.events.Happened.{Happened}
use Rattle.nm_lookups.proofs.RequestLemmas.{an_event}
use Rattle.nm_check_rank.specs.Manies.{many_of}
use Rattle.nm_check_rank.proofs.ManyLemmas.{many_more, more_left, none_left, one_left}
use Rattle.nm_check_rank.proofs.paired.manies.many_of.Goals as goal

pub returns-in-Nothing : goal.returns-in-Nothing
returns-in-Nothing c = λ p h k left.
    sym (ap (λ (ws : List Happened). many_of ws) (none_left p h k c.args.since left c.in-Nothing.is))

pub returns-in-One : goal.returns-in-One
returns-in-One c = λ p h k left.
    sym (ap (λ (ws : List Happened). many_of ws) (one_left p h k c.args.since left _ an_event c.in-One.is))

pub returns-in-More : goal.returns-in-More
returns-in-More c = λ p h k left. many_more _ (more_left p h k c.args.since left c.in-More.is)
