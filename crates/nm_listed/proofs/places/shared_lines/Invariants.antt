use Rattle.std.proofs.Common.{◌≡◌, ◌+◌, ◌≤◌, drop}
use Rattle.nm_listed.proofs.PlaceLemmas.{shared}
use Rattle.nm_listed.proofs.places.shared_lines.Given as goal

abbrev pub invariant-loop-at : goal.invariant-loop-at
invariant-loop-at l =
    (l.lines ≤ l.at) × (l.lines + shared (drop l.at l.text) (drop l.at l.other) ≡ shared l.text l.other)
