-- What is said of the changes up to this one.
use Rattle.std.proofs.Common.{take}
use Rattle.nm_why.specs.Cures.{AreCures}
use Rattle.nm_why.proofs.cures.cures_among.Given as goal

abbrev pub invariant-loop-change : goal.invariant-loop-change
invariant-loop-change g l =
    AreCures l.shape l.lines (take l.change-index l.changes) (record { cures = l.cures; undecided = l.undecided })
