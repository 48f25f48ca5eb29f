-- One state more is expanded, or the search is at its end.
use Rattle.std.proofs.Common.{List, length, ap, arith}
use Rattle.nm_lawful.specs.Moves.{report_lem}
use Rattle.nm_lawful.specs.Ranks.{RankState}
use Rattle.nm_lawful.proofs.SearchLemmas.{first_searched, none_found, none_past, searched_on, told_by_end}
use Rattle.nm_lawful.proofs.searches.search.Goals as goal

pub loop-k-init : goal.loop-k-init
loop-k-init c =
    first_searched c.args.report.lines.now (report_lem c.args.report.told.now c.args.report.waits.now) c.args.ranks c.args.report.until c.new-met.result
    c.add.new.self c.in_ok-first.first c.new-met.ensures c.in_ok-first.ensures c.in_ok-add.ensures.there
    c.in_ok-add.ensures.added

pub loop-k-preserved : goal.loop-k-preserved
loop-k-preserved c =
    searched_on c.args.report.lines.now (report_lem c.args.report.told.now c.args.report.waits.now) c.args.ranks c.args.report.until c.loop-k.met
    c.go_on.new.met c.loop-k.k c.in_ok-step.step c.in-On.is c.in_ok-step.ensures c.loop-k.invariant

pub returns-in-End : goal.returns-in-End
returns-in-End c =
    told_by_end c.args.report.lines.now (report_lem c.args.report.told.now c.args.report.waits.now) c.args.ranks c.args.report.until c.loop-k.met
    c.go_on.new.met c.loop-k.k c.in_ok-step.step c.in-End.is c.in_ok-step.ensures c.loop-k.invariant

pub returns-in-Past : goal.returns-in-Past
returns-in-Past c =
    none_past c.args.report.lines.now (report_lem c.args.report.told.now c.args.report.waits.now) c.args.ranks c.args.report.until c.loop-k.met
    c.go_on.new.met c.loop-k.k c.in_ok-step.step c.in-Past.is c.in_ok-step.ensures c.loop-k.invariant

pub returns-then-found-limit : goal.returns-then-found-limit
returns-then-found-limit c =
    let long = ap (λ (xs : List (List RankState)). length xs) c.as_slice-found.ensures.value in
    let few = c.if-found-limit.true in
    let past = c.loop-k-test.false in
    none_found c.args.report.lines.now (report_lem c.args.report.told.now c.args.report.waits.now) c.args.ranks c.args.report.until c.loop-k.met c.loop-k.k
    c.args.limit c.loop-k.invariant (omega (arith, long, few)) (omega (arith, past))

pub returns : goal.returns
returns c =
    let long = ap (λ (xs : List (List RankState)). length xs) c.as_slice-found.ensures.value in
    let many = c.if-found-limit.false in
    record {
      states = c.loop-k.met;
      more = omega (arith, long, many);
      differ = c.as_slice-found.ensures.once;
      met = c.loop-k.invariant.met;
    }
