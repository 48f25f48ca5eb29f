-- One sweep more.
use Rattle.std.proofs.Common.{false}
use Rattle.nm_world.proofs.Runs.{all_stand}
use Rattle.nm_world.proofs.Sweeps.{swept_first, swept_on}
use Rattle.nm_world.proofs.rounds.turns_of.Goals as goal

pub loop-made-init : goal.loop-made-init
loop-made-init g c =
    swept_first c.args.f.now.ranks g.S.Source.shows g.S.Source.gives c.args.f.now c.args.r.now c.in_ok-moved.moved c.args.players.now
    c.sweep.new.players c.in_ok-moved.ensures.swept

pub sweep-requires-in-loop-made : goal.sweep-requires-in-loop-made
sweep-requires-in-loop-made g c = record {
  stands = all_stand g.S.Source.shows g.S.Source.gives c.args.f.now c.args.r.now c.args.players.now c.loop-made.players
      c.loop-made.invariant.kept;
}

pub loop-made-preserved : goal.loop-made-preserved
loop-made-preserved g c =
    swept_on c.args.f.now.ranks g.S.Source.shows g.S.Source.gives c.args.f.now c.args.r.now false c.args.players.now c.loop-made.players
    c.sweep-in-loop-made.new.players c.loop-made.moved c.in_ok-one.one c.loop-made.invariant
    c.in_ok-one.ensures.swept
