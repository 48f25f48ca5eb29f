use Rattle.std.proofs.Common.{◌∙◌, not, take}
use Rattle.nm_check_rank.specs.Objections.{word_after}
use Rattle.nm_check_rank.proofs.ObjectionLemmas.{no_cancel}
use Rattle.nm_check_rank.proofs.paired.objections.cancel_objection.Goals as goal

pub returns-in-Cancel : goal.returns-in-Cancel
returns-in-Cancel c = λ rank lines h told. rw c.in-Cancel.is
    (c.word_after.ensures
    ∙ (λ i. word_after (not (c.is_paired.ensures rank lines h told.tells i)) c.in-Cancel.done))

pub returns-in-Recall : goal.returns-in-Recall
returns-in-Recall c = λ rank lines h told. rw c.in-Recall.is (c.recall_objection.ensures rank lines h told)

pub returns-in_default : goal.returns-in_default
returns-in_default c = λ rank lines h told. no_cancel (take c.args.k h) c.args.what.now c.in_default.not-Cancel
    c.in_default.not-Recall
