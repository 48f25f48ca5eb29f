use Rattle.std.proofs.Common.{◌+◌, ℕ, Option, None, List, get_or, subst, sym}
use Rattle.std.specs.Prelude.{MatchOption}
use Rattle.std.proofs.lemmas.List.{get_or-replicate}
use Rattle.nm_history.specs.declared.events.Event.{Event}
use Rattle.nm_history.specs.AtEach.{AtEach}
use Rattle.nm_history.specs.RankRun.{NumberAt}
use Rattle.nm_report.specs.Ends.{ends_of}
use Rattle.nm_check_rank.specs.Breaks.{BreaksFirstAt}
use Rattle.nm_lookups.proofs.StepLemmas.{none_yet}
use Rattle.nm_check.specs.CarriedBreaks.{PartAt}
use Rattle.nm_check.specs.Marked.{is_rank}
use Rattle.nm_check.proofs.BodyLemmas.{event_at}
use Rattle.nm_check.proofs.MarkLemmas.{SoFar, noted_all, noted_more, rule_at}
use Rattle.nm_check.proofs.firsts.first_places.Goals as goal

pub loop-k-init : goal.loop-k-init
loop-k-init c y few =
    let R = PartAt c.args.part c.args.of.now.lines.now (ends_of c.args.of.now.ranks.now) c.args.x y in
    subst (λ (o : Option ℕ). SoFar R c.args.events.now 0 o) (sym (get_or-replicate 256 y None None few))
    (none_yet R c.args.events.now)

pub loop-k-preserved : goal.loop-k-preserved
loop-k-preserved c y few =
    let R = PartAt c.args.part c.args.of.now.lines.now (ends_of c.args.of.now.ranks.now) c.args.x y in
    let h = c.args.events.now in
    let e = c.index-events-k.result in
    let own = c.requires.own in
    let number = rule_at (λ before e. NumberAt own.many before e.what) h c.loop-k.k e c.loop-k-test.true
    c.index-events-k.is own.numbers in
    let named = c.broken_with-named.ensures own.many h own.tabled
    (event_at h c.loop-k.k e c.loop-k-test.true c.index-events-k.is) number y in
    subst (λ (o : Option ℕ). SoFar R h (c.loop-k.k + 1) o) (sym (c.note.ensures y few))
    (noted_more R h c.loop-k.k e c.loop-k-test.true c.index-events-k.is (is_rank c.broken_with-named.result y) named
    (get_or c.loop-k.firsts y None) (c.loop-k.invariant y few))

pub returns : goal.returns
returns c y few =
    let R = PartAt c.args.part c.args.of.now.lines.now (ends_of c.args.of.now.ranks.now) c.args.x y in
    subst (λ (h : List Event). MatchOption (get_or c.loop-k.firsts y None) (AtEach R h) (BreaksFirstAt (AtEach R) h))
    (sym c.requires.own.history)
    (noted_all R c.args.events.now c.loop-k.k c.loop-k-test.false (get_or c.loop-k.firsts y None)
    (c.loop-k.invariant y few))
