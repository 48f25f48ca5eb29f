use Rattle.std.proofs.Common.{refl}
use Rattle.nm_rank.proofs.JournalLemmas.{begins}
use Rattle.nm_rank.proofs.journal.journals.Journal.new.Goals as goal

pub invariant_of-result : goal.invariant_of-result
invariant_of-result g c = begins (g.H.Recorder.events c.empty.result) 0 c.empty.ensures refl
