-- One more row.
use Rattle.std.proofs.Common.{arith}
use Rattle.nm_world.proofs.Runs.{rows_more}
use Rattle.nm_world.proofs.whole.all_agree.Goals as goal
use Rattle.nm_types.proofs.ListLemmas.{place_below}
use Rattle.nm_types.proofs.TruthLemmas.{both}

pub loop-i-preserved : goal.loop-i-preserved
loop-i-preserved g c =
    let agrees = c.row_agrees-one.ensures in
    record {
      end = c.loop-i.invariant.end;
      agree = rows_more c.args.players.now c.loop-i.i c.loop-i.all c.row_agrees-one.result agrees.0
          c.loop-i.invariant.agree;
      all = λ agree. both c.loop-i.all c.row_agrees-one.result (c.loop-i.invariant.all agree)
          (agrees.1 (agree.pairs c.loop-i.i));
    }

pub returns : goal.returns
returns g c = (
  λ all. record {
    pairs = λ i j a b at to.
        let below = place_below c.args.players.now i a at in
        c.loop-i.invariant.agree all i j a b
        (omega (arith, below, c.requires.many, c.loop-i.invariant.end, c.loop-i-test.false)) at to;
  },
  c.loop-i.invariant.all,
)
