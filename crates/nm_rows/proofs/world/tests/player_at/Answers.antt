-- A new player can make turns.
use Rattle.nm_rows.proofs.world.tests.player_at.Goals as goal

pub make_turns-requires-clause-stands : goal.make_turns-requires-clause-stands
make_turns-requires-clause-stands c =
    c.in_ok-player.ensures.stands c.args.f.now c.args.r.now c.requires.ranks c.requires.new.0
    c.requires.new.1
