use Rattle.std.proofs.Common.{arith}
use Rattle.nm_breaks.proofs.RangeLemmas.{all_below}
use Rattle.nm_breaks.proofs.written.ranges.bytes_fit.Goals as goal

pub returns : goal.returns
returns c = (omega arith, all_below c.args.bytes.now (λ i. omega (arith, c.type_inv.bytes i)))
