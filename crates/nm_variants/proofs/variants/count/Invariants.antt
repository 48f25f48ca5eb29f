-- How many there are by the lines up to this one.
use Rattle.std.proofs.Common.{◌≡◌, ◌≤◌, take}
use Rattle.nm_variants.specs.Variants.{variants}
use Rattle.nm_variants.proofs.variants.count.Given as goal

abbrev pub invariant-loop-line : goal.invariant-loop-line
invariant-loop-line l = (l.count ≡ variants l.eager (take l.line-index l.lines)) × (l.count ≤ l.most)
