use Rattle.std.proofs.Common.{◌≡◌}
use Rattle.nm_cells.specs.Ports.{Owns, knows}
use Rattle.nm_port.specs.Polls.{HoldsTheRest}
use Rattle.uses.specs.Crossings.{Sends, Takes}
use Rattle.uses.proofs.port.crossing.take_turns.Given as goal

abbrev pub invariant-loop-turn : goal.invariant-loop-turn
invariant-loop-turn g l = Owns l.f l.a × (l.a.rank ≡ 0) × (l.a.hands ≡ 0) × Sends (knows l.a) 1 l.text
    × Owns l.f l.b × (l.b.rank ≡ 1) × (l.b.hands ≡ 0) × HoldsTheRest l.b × Takes l.b 0 l.came.items
