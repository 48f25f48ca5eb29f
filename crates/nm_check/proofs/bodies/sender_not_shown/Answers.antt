use Rattle.std.proofs.Common.{take}
use Rattle.nm_report.specs.Ends.{ends_of}
use Rattle.nm_history.specs.Quiescence.{history_of}
use Rattle.nm_check.proofs.BodyLemmas.{no_answer_named}
use Rattle.nm_check.proofs.bodies.sender_not_shown.Goals as goal

pub returns-in-Ran : goal.returns-in-Ran
returns-in-Ran c = λ h own here. rw c.in-Ran.is (c.sender_of_answer.ensures h c.args.e.now own here c.in-Ran.is)

pub returns-in_default : goal.returns-in_default
returns-in_default c = λ h own here.
    no_answer_named c.args.of.now.lines.now (history_of (ends_of c.args.of.now.ranks.now)) c.args.j
    (take c.args.k h) c.args.e.now.what c.in_default.not-Ran
