-- What one move more leads to.
use Rattle.std.proofs.Common.{◌≡◌, ℕ, ◌<◌, List, Some, length, ◌∙◌, ap, arith}
use Rattle.std.specs.List.{slice_get}
use Rattle.nm_types.proofs.ListLemmas.{place_below}
use Rattle.nm_lawful.specs.declared.moves.Move.{Move}
use Rattle.nm_search.specs.Lists.{Has}
use Rattle.nm_lawful.specs.Moves.{next_lem, report_lem}
use Rattle.nm_lawful.specs.Ranks.{RankState}
use Rattle.nm_search.proofs.ListLemmas.{each_next, has_kept, has_nothing, next_more}
use Rattle.nm_lawful.proofs.SearchLemmas.{goes_more, moves_complete}
use Rattle.nm_lawful.proofs.searches.successors.Goals as goal

pub loop-by-init : goal.loop-by-init
loop-by-init c =
    record {
      all = λ k low m t at is. absurd (omega (arith, low));
      only = λ t at. absurd (has_nothing c.new-states.result.items t c.new-states.ensures.items at);
    }

pub loop-by-preserved : goal.loop-by-preserved
loop-by-preserved c =
    record {
      all = each_next
          (λ (k : ℕ). (m : Move) (t : List RankState) → slice_get c.deref-by-items.result.now k ≡ Some m →
          next_lem c.args.report.lines.now (report_lem c.args.report.told.now c.args.report.waits.now) c.args.report.until c.args.state.now m ≡ Some t →
          Has c.push_next.new.states.items t) c.loop-by.by-index
          (λ k low m t at is.
          has_kept c.loop-by.states.items c.push_next.new.states.items t c.in_ok-push_next.ensures.kept
          (c.loop-by.invariant.all k low m t at is))
          (λ m t at is.
          next_more
          (λ (m : Move). next_lem c.args.report.lines.now (report_lem c.args.report.told.now c.args.report.waits.now) c.args.report.until c.args.state.now m)
          c.deref-by-items.result.now c.loop-by.by-index _ m t c.push_next.new.states.items at
          c.in_ok-push_next.ensures.added is);
      only = goes_more c.args.report.lines.now (report_lem c.args.report.told.now c.args.report.waits.now) c.args.report.until c.args.state.now
          c.deref-by-items.result.now c.loop-by.by-index _ c.loop-by.states.items c.push_next.new.states.items
          c.loop-by.invariant.only c.in_ok-push_next.ensures.only;
    }

pub returns-clause-all : goal.returns-clause-all
returns-clause-all c t goes =
    let at = moves_complete c.args.report.lines.now (report_lem c.args.report.told.now c.args.report.waits.now) c.args.report.until c.args.state.now
    c.in_ok-moves.moves.items c.in_ok-moves.ensures goes.0 t goes.1 in
    let same = c.deref-by-items.ensures.value in
    let inside = place_below c.in_ok-moves.moves.items at.0 goes.0 at.1 in
    let long = ap (λ (ms : List Move). length ms) same in
    let past = c.loop-by-test.false in
    let low : at.0 < c.loop-by.by-index = omega (arith, inside, long, past) in
    c.loop-by.invariant.all at.0 low goes.0 t (ap (λ (ms : List Move). slice_get ms at.0) same ∙ at.1) goes.1
