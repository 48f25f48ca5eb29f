-- What was moved is what grew.
use Rattle.nm_world.proofs.Did.{some_grew_where_moved}
use Rattle.nm_world.proofs.rounds.round.Goals as goal

pub returns-clause-grew : goal.returns-clause-grew
returns-clause-grew g c =
    some_grew_where_moved c.round_in.result c.args.f.now.ranks g.S.Source.shows g.S.Source.gives c.args.f.now c.args.r.now
    c.args.players.now c.round_in.new.players c.round_in.ensures.kept c.round_in.ensures.moved
