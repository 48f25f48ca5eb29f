use Rattle.std.proofs.Common.{◌∙◌}
use Rattle.nm_receiving.proofs.streams.counted.Counted.add.Goals as goal

pub returns : goal.returns
returns c = λ m. c.absorb.ensures m ∙ c.note.ensures m
