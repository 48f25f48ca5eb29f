-- The turns are those that were asked for, and all calls were made.
use Rattle.std.proofs.Common.{◌∙◌, sym}
use Rattle.nm_multi.proofs.Countable.{countable}
use Rattle.nm_multi.proofs.Whole.{whole}
use Rattle.nm_multi.proofs.threads.multi.Goals as goal

pub returns-else-has_short-clause-whole : goal.returns-else-has_short-clause-whole
returns-else-has_short-clause-whole g c =
    let e = c.in_ok-complete.ensures in
    let l = c.into_log-log.ensures in
    whole c.args.threads c.args.rounds c.in_ok-turns.turns c.complete.new.turns c.into_log-log.result.entries
    c.in_ok-turns.ensures e.same e.all l.log l.replay l.programs (sym c.has_short.ensures ∙ c.if-has_short.false)

pub returns-else-has_short-clause-countable : goal.returns-else-has_short-clause-countable
returns-else-has_short-clause-countable g c =
    let e = c.in_ok-complete.ensures in
    let l = c.into_log-log.ensures in
    countable c.args.threads c.args.rounds c.into_log-log.result.entries
    (whole c.args.threads c.args.rounds c.in_ok-turns.turns c.complete.new.turns c.into_log-log.result.entries
    c.in_ok-turns.ensures e.same e.all l.log l.replay l.programs (sym c.has_short.ensures ∙ c.if-has_short.false))
    c.requires.threads.1 c.requires.rounds
