-- Without none of the commands before this one the part does it, but for those at which a search gave up.
use Rattle.std.proofs.Common.{ℕ, ◌≤◌, ◌<◌, ◌⊎◌}
use Rattle.std.specs.Prelude.{Contains, remove}
use Rattle.nm_why.specs.Hangs.{Does}
use Rattle.nm_why.specs.Parts.{lines_at}
use Rattle.nm_why.proofs.least.scan_from.Given as goal

abbrev pub invariant-loop-k : goal.invariant-loop-k
invariant-loop-k g l =
    (k : ℕ) → l.from ≤ k → k < l.k →
    (¬ (Does l.of.aim l.of.shape (lines_at l.of.lines.now (remove l.places k)))) ⊎ Contains l.undecided.items k
