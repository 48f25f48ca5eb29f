use Rattle.nm_check_rank.proofs.RuleLemmas.{no_recall, recall_at}
use Rattle.nm_check.proofs.rest.over.is_answered.Goals as goal

pub returns-in-Recall : goal.returns-in-Recall
returns-in-Recall c = λ h placed end. rw c.in-Recall.is
    (recall_at h c.in-Recall.to c.in-Recall.n c.args.end c.is_before-undone.result c.is_before-late.result end
    (c.is_before-undone.ensures h placed.outgoing.recalled.undone)
    (c.is_before-late.ensures h placed.outgoing.recalled.late)
    c.is_either.result c.is_either.ensures)

pub returns-in_default : goal.returns-in_default
returns-in_default c = λ h placed end. no_recall h c.args.what.now c.in_default.not-Recall
