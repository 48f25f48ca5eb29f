use Rattle.std.proofs.Common.{◌≡◌, map}
use Rattle.nm_explored.specs.Ends.{told_at_end}
use Rattle.nm_listed.specs.Finding.{text_of_told}
use Rattle.nm_listed.proofs.finding.end_texts.Given as goal

abbrev pub invariant-loop-end : goal.invariant-loop-end
invariant-loop-end l = l.texts ≡ map (λ end. text_of_told l.shape (told_at_end end)) l.yielded
