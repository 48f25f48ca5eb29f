use Rattle.std.proofs.Common.{refl}
use Rattle.nm_report.specs.Ends.{ends_of}
use Rattle.nm_lookups.proofs.StepLemmas.{all_kept, goes_on, none_yet}
use Rattle.nm_check_rank.proofs.BreakLemmas.{breaks_first}
use Rattle.nm_check.specs.RestBreaks.{RestAt}
use Rattle.nm_check.proofs.rest.firsts.first_of_rank.Goals as goal

pub loop-k-init : goal.loop-k-init
loop-k-init c = (
  refl,
  none_yet (λ before e. RestAt c.args.rule (ends_of c.args.of.now.ranks.now) c.args.i c.args.events.now e.stamp e.what)
      c.args.events.now,
)

pub loop-k-preserved : goal.loop-k-preserved
loop-k-preserved c = (
  c.loop-k.invariant.0,
  goes_on (λ before e. RestAt c.args.rule (ends_of c.args.of.now.ranks.now) c.args.i c.args.events.now e.stamp e.what)
      c.args.events.now c.loop-k.k c.index-events-k.result c.loop-k-test.true c.index-events-k.is
      c.loop-k.invariant.1
      (rw c.if-not-keeps_rule.false at (c.keeps_rule.ensures c.index-events-k.result.stamp c.args.events.now
      c.requires.places c.loop-k.invariant.0)),
)

pub returns-then-not-keeps_rule : goal.returns-then-not-keeps_rule
returns-then-not-keeps_rule c =
    breaks_first
    (λ before e. RestAt c.args.rule (ends_of c.args.of.now.ranks.now) c.args.i c.args.events.now e.stamp e.what)
    c.args.events.now c.loop-k.k c.index-events-k.result c.loop-k-test.true c.index-events-k.is c.loop-k.invariant.1
    (rw c.if-not-keeps_rule.true at (c.keeps_rule.ensures c.index-events-k.result.stamp c.args.events.now
    c.requires.places c.loop-k.invariant.0))

pub returns : goal.returns
returns c =
    all_kept
    (λ before e. RestAt c.args.rule (ends_of c.args.of.now.ranks.now) c.args.i c.args.events.now e.stamp e.what)
    c.args.events.now c.loop-k.k c.loop-k-test.false c.loop-k.invariant.1
