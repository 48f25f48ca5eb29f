-- The bytes so far were pushed, and those that came were pulled.
use Rattle.std.proofs.Common.{◌≡◌, take}
use Rattle.nm_copyring.specs.Ports.{Owns, pulled_from, pushed_to}
use Rattle.uses.specs.Fronts.{bytes_in}
use Rattle.uses.proofs.copyring.carrying.push_and_pull.Given as goal

abbrev pub invariant-loop-byte : goal.invariant-loop-byte
invariant-loop-byte g l =
    Owns l.r l.first × (l.first.rank ≡ 0) × Owns l.r l.second × (l.second.rank ≡ 1)
    × (bytes_in (pushed_to l.first 1) ≡ take l.byte-index l.text)
    × (l.came.items ≡ bytes_in (pulled_from l.second 0))
