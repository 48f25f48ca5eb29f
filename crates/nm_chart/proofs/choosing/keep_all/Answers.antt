-- One rank more.
use Rattle.std.proofs.Common.{arith, false, get_or, subst}
use Rattle.nm_chart.specs.Parts.{IsKept}
use Rattle.nm_chart.proofs.KeptLemmas.{kept_end, kept_start, kept_step}
use Rattle.nm_chart.proofs.choosing.keep_all.Goals as goal

pub loop-rank-init : goal.loop-rank-init
loop-rank-init c = kept_start c.args.chosen.now c.args.ranks.now

pub loop-rank-preserved : goal.loop-rank-preserved
loop-rank-preserved c =
    let low = c.loop-rank-test.true in
    let many = c.loop-rank.auto.ranks in
    kept_step c.args.chosen.now c.loop-rank.rank c.args.ranks.now c.loop-rank.ranks c.keep.new.account
    c.loop-rank.invariant (omega (arith, low, many)) c.index-ranks-rank.result
    (subst (λ b. IsKept b (get_or c.loop-rank.ranks c.loop-rank.rank c.index-ranks-rank.result) c.keep.new.account)
    c.is_chosen.ensures c.keep.ensures)

pub returns : goal.returns
returns c =
    let past = c.loop-rank-test.false in
    let many = c.loop-rank.auto.ranks in
    kept_end c.args.chosen.now c.loop-rank.rank c.args.ranks.now c.loop-rank.ranks c.loop-rank.invariant
    (omega (arith, past, many))
