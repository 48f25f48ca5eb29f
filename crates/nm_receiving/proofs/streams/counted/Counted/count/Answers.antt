use Rattle.nm_receiving.proofs.NumberLemmas.{counts-next}
use Rattle.nm_receiving.proofs.streams.counted.Counted.count.Goals as goal

pub returns-clause-counted : goal.returns-clause-counted
returns-clause-counted c = λ m.
    counts-next c.args.self.now.next c.args.self.now.apart.blocks c.pass.new.self.blocks m (c.pass.ensures m)
