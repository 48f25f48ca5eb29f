-- One player more.
use Rattle.std.proofs.Common.{arith}
use Rattle.nm_world.proofs.Sweeps.{stands_there, swept_end, swept_start, swept_step}
use Rattle.nm_world.proofs.rounds.sweep_on.Goals as goal

pub loop-player-init : goal.loop-player-init
loop-player-init g c =
    swept_start c.args.f.now.ranks g.S.Source.shows g.S.Source.gives c.args.f.now c.args.r.now c.args.all c.args.players.now

pub visit-requires : goal.visit-requires
visit-requires g c =
    let low = c.loop-player-test.true in
    let many = c.loop-player.auto.players in
    record {
      stands = stands_there c.args.f.now.ranks g.S.Source.shows g.S.Source.gives c.args.f.now c.args.r.now c.args.all
          c.loop-player.player-index c.loop-player.moved c.args.players.now c.loop-player.players c.player-item.result
          c.loop-player.invariant (omega (arith, low, many)) c.requires.stands;
    }

pub loop-player-preserved : goal.loop-player-preserved
loop-player-preserved g c =
    let low = c.loop-player-test.true in
    let many = c.loop-player.auto.players in
    let e = c.in_ok-one.ensures in
    swept_step c.args.f.now.ranks g.S.Source.shows g.S.Source.gives c.args.f.now c.args.r.now c.args.all c.loop-player.player-index
    c.loop-player.moved c.in_ok-one.one c.args.players.now c.loop-player.players c.player-item.result c.visit.new.player
    c.loop-player.invariant (omega (arith, low, many)) e.kept e.moved e.still e.idle

pub returns : goal.returns
returns g c =
    let past = c.loop-player-test.false in
    let many = c.loop-player.auto.players in
    record {
      swept = swept_end c.args.f.now.ranks g.S.Source.shows g.S.Source.gives c.args.f.now c.args.r.now c.args.all
          c.loop-player.player-index c.loop-player.moved c.args.players.now c.loop-player.players c.loop-player.invariant
          (omega (arith, past, many));
    }
