use Rattle.nm_receiving.proofs.BlockLemmas.{set-bit}
use Rattle.nm_receiving.proofs.streams.apart.with_bit.Goals as goal

pub returns : goal.returns
returns c = λ k. set-bit c.args.bits c.args.n k
