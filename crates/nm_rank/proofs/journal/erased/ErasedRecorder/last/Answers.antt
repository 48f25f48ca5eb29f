use Rattle.std.proofs.Common.{◌∙◌}
use Rattle.nm_rank.proofs.LastLemmas.{last_of-get}
use Rattle.nm_rank.proofs.journal.erased.ErasedRecorder.last.Goals as goal

pub returns : goal.returns
returns c = c.last.ensures ∙ last_of-get c.args.self.now.all
