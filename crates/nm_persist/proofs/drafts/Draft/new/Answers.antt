use Rattle.nm_persist.proofs.DraftLemmas.{empty_draft}
use Rattle.nm_persist.proofs.drafts.Draft.new.Goals as goal

pub returns-clause-draft : goal.returns-clause-draft
returns-clause-draft c = empty_draft _ c.new.ensures c.new-2.ensures c.new-3.ensures c.of_ranks.ensures
