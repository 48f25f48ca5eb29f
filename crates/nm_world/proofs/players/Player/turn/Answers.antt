-- What was moved is what grew.
use Rattle.nm_world.proofs.Did.{grew_where_moved}
use Rattle.nm_world.proofs.players.Player.turn.Goals as goal

pub returns : goal.returns
returns g c =
    let e = c.move_all.ensures in
    record {
      bound = e.bound;
      kept = e.kept;
      moved = e.moved;
      grew = grew_where_moved c.move_all.result c.args.f.now.ranks g.S.Source.shows g.S.Source.gives c.args.f.now
          c.args.r.now c.args.self.now c.move_all.new.self e.kept e.moved;
      idle = e.idle;
      looked = e.looked;
    }
