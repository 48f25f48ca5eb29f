use Rattle.std.proofs.Common.{take}
use Rattle.nm_check_rank.proofs.ObjectionLemmas.{no_end}
use Rattle.nm_check_rank.proofs.paired.objections.end_objection.Goals as goal

pub returns-in-Withdraw : goal.returns-in-Withdraw
returns-in-Withdraw c = λ rank lines h told. rw c.in-Withdraw.is (c.withdraw_objection.ensures rank lines h told)

pub returns-in-Out : goal.returns-in-Out
returns-in-Out c = λ rank lines h told. rw c.in-Out.is (c.out_objection.ensures rank lines h told)

pub returns-in-Undone : goal.returns-in-Undone
returns-in-Undone c = λ rank lines h told. rw c.in-Undone.is (c.undone_objection.ensures rank lines h told)

pub returns-in_default : goal.returns-in_default
returns-in_default c = λ rank lines h told. no_end (take c.args.k h) c.args.what.now c.in_default.not-Withdraw
    c.in_default.not-Out c.in_default.not-Undone
