use Rattle.std.proofs.Common.{◌≡◌, drop, false, replicate}
use Rattle.nm_diagram.specs.Frames.{full_rows}
use Rattle.nm_diagram.proofs.frames.find_full.Given as goal

abbrev pub invariant-loop-account : goal.invariant-loop-account
invariant-loop-account l =
    full_rows l.top l.rows (drop l.account-index l.ranks) ≡ full_rows l.top (replicate 1024 false) l.ranks
