use Rattle.std.proofs.Common.{◌≡◌, ◌+◌}
use Rattle.nm_cells.specs.Ports.{Owns}
use Rattle.nm_port.specs.Polls.{Missed}
use Rattle.nm_port.proofs.polls.take_first.Given as goal

abbrev pub invariant-loop-sender : goal.invariant-loop-sender
invariant-loop-sender g l = Owns l.f l.port × Missed l.sender l.fn.port l.port
    × (l.steps ≡ l.fn.steps + l.sender)
