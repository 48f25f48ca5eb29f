use Rattle.std.proofs.Common.{◌∙◌, sym}
use Rattle.nm_receiving.proofs.streams.numbers.Numbers.has.Goals as goal

pub returns : goal.returns
returns c = rw (← c.self.view_is) (c.has.ensures ∙ sym (c.self.invariant c.args.n))
