use Rattle.nm_variants.specs.Reports.{AreReportsBelow}
use Rattle.nm_variants.proofs.unions.add_variants.Given as goal

abbrev pub invariant-loop-number : goal.invariant-loop-number
invariant-loop-number l = AreReportsBelow l.shape l.script.lines l.number l.texts
