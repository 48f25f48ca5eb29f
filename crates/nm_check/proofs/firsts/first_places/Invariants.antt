use Rattle.std.proofs.Common.{◌<◌, ℕ, None, get_or}
use Rattle.nm_report.specs.Ends.{ends_of}
use Rattle.nm_check.specs.CarriedBreaks.{PartAt}
use Rattle.nm_check.proofs.MarkLemmas.{SoFar}
use Rattle.nm_check.proofs.firsts.first_places.Given as goal

-- what is known so far of the first event that breaks this part with each rank
abbrev pub invariant-loop-k : goal.invariant-loop-k
invariant-loop-k l =
    (y : ℕ) → y < 256 →
    SoFar (PartAt l.part l.of.lines.now (ends_of l.of.ranks.now) l.x y) l.events l.k (get_or l.firsts y None)
