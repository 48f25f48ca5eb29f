use Rattle.nm_rank.proofs.JournalLemmas.{added}
use Rattle.nm_rank.proofs.journal.journals.Journal.add.Goals as goal

pub invariant_of-self : goal.invariant_of-self
invariant_of-self g c =
    let j = c.self.inside in
    added (g.H.Recorder.events j.history) (g.H.Recorder.events c.put.new.self) j.clock c.args.what c.self.invariant
    (rw (← c.self.view_is) at c.requires.in_time) c.put.ensures.events
