-- The reports so far, and the ways.
use Rattle.std.proofs.Common.{◌≡◌, map}
use Rattle.nm_explored.specs.Ends.{told_at_end}
use Rattle.nm_listed.specs.Finding.{text_of_told}
use Rattle.nm_listed.specs.Tracing.{turns_of, way_of}
use Rattle.nm_listed.proofs.tracing.reports_of.Given as goal

abbrev pub invariant-loop-end : goal.invariant-loop-end
invariant-loop-end l = record {
  texts : l.texts ≡ map (λ end. text_of_told l.shape (told_at_end end)) l.yielded;
  ways : map turns_of l.paths.items ≡ map way_of l.yielded;
}
