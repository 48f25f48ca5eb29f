use Rattle.std.proofs.Common.{◌≡◌}
use Rattle.nm_cells.specs.Ports.{Owns, knows}
use Rattle.uses.specs.QueueCrossings.{Gets, Puts}
use Rattle.uses.proofs.queue.crossing.take_turns.Given as goal

abbrev pub invariant-loop-turn : goal.invariant-loop-turn
invariant-loop-turn g l = Owns l.f l.a × (l.a.rank ≡ 0) × (l.a.hands ≡ 0) × Puts (knows l.a) l.text
    × Owns l.f l.b × (l.b.rank ≡ 1) × (l.b.hands ≡ 0) × Gets (knows l.b) l.came.items
