-- One more of the row.
use Rattle.std.proofs.Common.{Some, get_or, length, refl, ap, ◌∙◌, arith}
use Rattle.nm_world.specs.declared.players.Player.{Player}
use Rattle.std.proofs.lemmas.Option.{slice_get_read}
use Rattle.nm_world.proofs.Runs.{row_more}
use Rattle.nm_world.proofs.whole.row_agrees.Goals as goal
use Rattle.nm_types.proofs.ListLemmas.{place_below}
use Rattle.nm_types.proofs.TruthLemmas.{both}

pub loop-j-preserved : goal.loop-j-preserved
loop-j-preserved g c =
    let players = c.args.players.now in
    let many = c.requires.many.0 in
    let end = c.loop-j.invariant.end in
    let low = c.loop-j-test.true in
    let agrees = c.pair_agrees-one.ensures in
    let here = slice_get_read players (length players) c.args.i c.index-players-i.result refl
    (omega (arith, c.requires.many.1, many)) c.index-players-i.is
    ∙ ap (λ (x : Player _ _). Some x) c.index-players-i.is in
    let there = slice_get_read players (length players) c.loop-j.j c.index-players-j.result refl
    (omega (arith, low, end, many)) c.index-players-j.is
    ∙ ap (λ (x : Player _ _). Some x) c.index-players-j.is in
    let x = get_or players c.args.i c.index-players-i.result in
    let y = get_or players c.loop-j.j c.index-players-j.result in
    record {
      end = end;
      agree = row_more players c.args.i c.loop-j.j x y c.loop-j.all
          c.pair_agrees-one.result here there agrees.0 c.loop-j.invariant.agree;
      all = λ row. both c.loop-j.all c.pair_agrees-one.result (c.loop-j.invariant.all row)
          (agrees.1 (row c.loop-j.j x y here there));
    }

pub pair_agrees-one-requires : goal.pair_agrees-one-requires
pair_agrees-one-requires g c =
    let players = c.args.players.now in
    let many = c.requires.many.0 in
    let within = c.requires.many.1 in
    let end = c.loop-j.invariant.end in
    let low = c.loop-j-test.true in
    let here = slice_get_read players (length players) c.args.i c.index-players-i.result refl
    (omega (arith, within, many)) c.index-players-i.is
    ∙ ap (λ (x : Player _ _). Some x) c.index-players-i.is in
    let there = slice_get_read players (length players) c.loop-j.j c.index-players-j.result refl
    (omega (arith, low, end, many)) c.index-players-j.is
    ∙ ap (λ (x : Player _ _). Some x) c.index-players-j.is in
    let a = c.requires.ranked c.args.i (get_or players c.args.i c.index-players-i.result) here in
    let b = c.requires.ranked c.loop-j.j (get_or players c.loop-j.j c.index-players-j.result) there in
    let port = a.0 in
    let ring = a.1 in
    let other = b.0 in
    let second = b.1 in (
      omega (arith, low, end, port),
      omega (arith, within, other),
      omega (arith, low, end, ring),
      omega (arith, within, second),
    )

pub returns : goal.returns
returns g c = (
  λ all j a b at to.
      let below = place_below c.args.players.now j b to in
      c.loop-j.invariant.agree all j a b
      (omega (arith, below, c.requires.many.0, c.loop-j.invariant.end, c.loop-j-test.false)) at to,
  c.loop-j.invariant.all,
)
