-- All players stand, and go on.
use Rattle.std.proofs.Common.{◌∙◌}
use Rattle.nm_world.proofs.Runs.{all_kept_on, all_kept_same, all_ranked, all_stand, kept_many}
use Rattle.nm_world.proofs.whole.settle.Goals as goal

pub loop-init : goal.loop-init
loop-init g c = record {
  kept = all_kept_same g.S.Source.shows g.S.Source.gives c.args.f.now c.args.r.now c.args.players.now c.requires.stands;
  many = c.requires.many;
}

pub round_in-requires-clause-stands : goal.round_in-requires-clause-stands
round_in-requires-clause-stands g c lifetimes outlive =
    all_stand g.S.Source.shows g.S.Source.gives c.args.f.now c.args.r.now c.args.players.now c.loop.players c.loop.invariant.kept

pub are_at_rest-rest-requires-clause-many : goal.are_at_rest-rest-requires-clause-many
are_at_rest-rest-requires-clause-many g c =
    kept_many g.S.Source.shows g.S.Source.gives c.args.f.now c.args.r.now c.loop.players c.round_in.new.players
    c.in_ok-round_in.ensures.kept ∙ c.loop.invariant.many

pub are_at_rest-rest-requires-clause-ranked : goal.are_at_rest-rest-requires-clause-ranked
are_at_rest-rest-requires-clause-ranked g c =
    all_ranked g.S.Source.shows g.S.Source.gives c.args.f.now c.args.r.now c.round_in.new.players
    (all_stand g.S.Source.shows g.S.Source.gives c.args.f.now c.args.r.now c.loop.players c.round_in.new.players c.in_ok-round_in.ensures.kept)

pub returns-then-rest-clause-kept : goal.returns-then-rest-clause-kept
returns-then-rest-clause-kept g c =
    all_kept_on g.S.Source.shows g.S.Source.gives c.args.f.now c.args.r.now c.args.players.now c.loop.players c.round_in.new.players
    c.loop.invariant.kept c.in_ok-round_in.ensures.kept

pub loop-preserved : goal.loop-preserved
loop-preserved g c = record {
  kept = all_kept_on g.S.Source.shows g.S.Source.gives c.args.f.now c.args.r.now c.args.players.now c.loop.players c.round_in.new.players
      c.loop.invariant.kept c.in_ok-round_in.ensures.kept;
  many = kept_many g.S.Source.shows g.S.Source.gives c.args.f.now c.args.r.now c.loop.players c.round_in.new.players
      c.in_ok-round_in.ensures.kept ∙ c.loop.invariant.many;
}

pub returns-then-rest-clause-rest : goal.returns-then-rest-clause-rest
returns-then-rest-clause-rest g c = c.are_at_rest-rest.ensures.rest c.if-rest.true
