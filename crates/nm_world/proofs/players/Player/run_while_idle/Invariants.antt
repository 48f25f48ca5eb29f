use Rattle.nm_world.specs.Players.{PlaysOn}
use Rattle.nm_world.proofs.players.Player.run_while_idle.Given as goal

abbrev pub ghost-look : goal.ghost-look
ghost-look g a = g.here

abbrev pub ghost-run_next : goal.ghost-run_next
ghost-run_next g a = g.here

abbrev pub invariant-loop-command : goal.invariant-loop-command
invariant-loop-command g l =
    PlaysOn g.S.Source.shows g.S.Source.gives g.here.fabric g.here.rings l.initial.self l.self
