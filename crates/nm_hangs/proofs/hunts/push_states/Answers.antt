-- One state more was noted.
use Rattle.std.proofs.Common.{◌≡◌, ℕ, subst, arith}
use Rattle.nm_types.proofs.ListLemmas.{get_some}
use Rattle.nm_search.proofs.ListLemmas.{keeps_all, keeps_then}
use Rattle.nm_hangs.specs.Hunts.{AreOpen}
use Rattle.nm_hangs.proofs.HuntLemmas.{few_more, met_kept, near_by, near_kept, open_noted}
use Rattle.nm_explored.proofs.StoreLemmas.{grows_all}
use Rattle.nm_hangs.proofs.hunts.push_states.Goals as goal

pub loop-n-init : goal.loop-n-init
loop-n-init c = record {
  noted = c.requires.ahead;
  kept = keeps_all c.args.classes.now;
  count = omega arith;
  low = c.requires.order;
}

pub push_state-requires-clause-near : goal.push_state-requires-clause-near
push_state-requires-clause-near c =
    near_by c.args.of.lines.now c.args.search.now c.loop-n.classes c.args.near
    (near_kept c.args.of.eager c.args.of.ranks c.args.of.lines.now c.args.search.now c.args.search.now
    c.args.classes.now c.loop-n.classes (grows_all c.args.search.now) c.loop-n.invariant.kept c.args.near
    c.requires.near)

pub loop-n-preserved : goal.loop-n-preserved
loop-n-preserved c =
    let test = c.loop-n-test.true in
    let most = c.requires.there in
    let here = get_some c.args.search.now.states c.loop-n.n (omega (arith, test, most)) in
    let noted = c.in_ok-push_state.ensures here.0 here.1 in
    let one = few_more c.args.of.lines.now c.args.search.now.table here.0 c.loop-n.n c.loop-n.classes
    c.push_state.new.classes c.loop-n.ahead.items c.push_state.new.ahead.items noted in
    let many = c.loop-n.invariant.count in
    record {
      noted = open_noted c.args.of.eager c.args.of.ranks c.args.of.lines.now c.args.search.now c.loop-n.classes
          c.push_state.new.classes c.loop-n.ahead.items c.push_state.new.ahead.items c.loop-n.n here.0 here.1
          c.loop-n.invariant.noted noted;
      kept = keeps_then c.args.classes.now c.loop-n.classes c.push_state.new.classes c.loop-n.invariant.kept
          (met_kept c.args.of.lines.now c.args.search.now.table here.0 c.loop-n.n c.loop-n.classes
          c.push_state.new.classes c.loop-n.ahead.items c.push_state.new.ahead.items noted);
      count = omega (arith, many, one);
      low = omega (arith, test);
    }

-- the last one
pub returns-clause-noted : goal.returns-clause-noted
returns-clause-noted c =
    let end = c.loop-n-test.false in
    let low = c.loop-n.invariant.low in
    let e : c.loop-n.n ≡ c.args.to = omega (arith, end, low) in
    subst (λ (n : ℕ). AreOpen c.args.of.eager c.args.of.ranks c.args.of.lines.now c.args.search.now c.loop-n.classes
    c.loop-n.ahead.items n) e c.loop-n.invariant.noted

pub returns-clause-count : goal.returns-clause-count
returns-clause-count c =
    let end = c.loop-n-test.false in
    let low = c.loop-n.invariant.low in
    let many = c.loop-n.invariant.count in
    omega (arith, end, low, many)
