-- The lines up to this one, and what is left of the number.
use Rattle.std.proofs.Common.{◌≡◌, take}
use Rattle.nm_variants.specs.Variants.{number_after, variant_of}
use Rattle.nm_variants.proofs.variants.variant_of.Given as goal

abbrev pub invariant-loop-line : goal.invariant-loop-line
invariant-loop-line l =
    (l.others.items ≡ variant_of l.eager l.number (take l.line-index l.lines))
    × (l.left ≡ number_after l.eager l.number (take l.line-index l.lines))
