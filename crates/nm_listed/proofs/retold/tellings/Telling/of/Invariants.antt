-- The turns so far.
use Rattle.std.proofs.Common.{◌≡◌, ◌-◌, drop, length}
use Rattle.nm_listed.specs.Tellings.{told_way}
use Rattle.nm_listed.proofs.retold.tellings.Telling.of.Given as goal

abbrev pub invariant-loop-k : goal.invariant-loop-k
invariant-loop-k l = l.telling ≡ told_way l.lines l.ranks (drop (length l.path - l.k) l.path)
