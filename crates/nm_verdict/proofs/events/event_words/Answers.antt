use Rattle.nm_verdict.proofs.events.event_words.Goals as goal

pub returns : goal.returns
returns c = rw c.event_at.ensures at c.happened_words.ensures
