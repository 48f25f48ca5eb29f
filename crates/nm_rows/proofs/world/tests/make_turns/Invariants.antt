-- The player stands.
use Rattle.nm_process.specs.Places.{gives_lines, shown}
use Rattle.nm_world.specs.Players.{PlayerInvariant}
use Rattle.nm_rows.proofs.world.tests.make_turns.Given as goal

abbrev pub invariant-loop-turn : goal.invariant-loop-turn
invariant-loop-turn g l = PlayerInvariant shown gives_lines l.f l.r l.player
