-- What was read of the bytes, with nothing of the ranks that are not chosen.
use Rattle.std.proofs.Common.{subst}
use Rattle.nm_chart.specs.Answers.{IsAnswerTo}
use Rattle.nm_chart.proofs.PartLemmas.{left_of, shown_of}
use Rattle.nm_chart.proofs.parts.read_part.Goals as goal

pub returns-in-Drawn-clause-outcome : goal.returns-in-Drawn-clause-outcome
returns-in-Drawn-clause-outcome c =
    left_of c.args.part c.args.bytes.now c.in-Drawn.run' c.keep_chosen.new.run
    (subst (IsAnswerTo c.args.bytes.now) c.in-Drawn.is c.in_ok-read.ensures.answer) c.keep_chosen.ensures

pub returns-in-Drawn-clause-shown : goal.returns-in-Drawn-clause-shown
returns-in-Drawn-clause-shown c =
    shown_of c.args.part c.args.bytes.now c.in-Drawn.run' c.keep_chosen.new.run
    (subst (IsAnswerTo c.args.bytes.now) c.in-Drawn.is c.in_ok-read.ensures.answer) c.keep_chosen.ensures c.requires

pub returns-in-Refused-clause-outcome : goal.returns-in-Refused-clause-outcome
returns-in-Refused-clause-outcome c =
    subst (IsAnswerTo c.args.bytes.now) c.in-Refused.is c.in_ok-read.ensures.answer

pub returns-in-Usage-clause-outcome : goal.returns-in-Usage-clause-outcome
returns-in-Usage-clause-outcome c = subst (IsAnswerTo c.args.bytes.now) c.in-Usage.is c.in_ok-read.ensures.answer

pub returns-in-Unread-clause-outcome : goal.returns-in-Unread-clause-outcome
returns-in-Unread-clause-outcome c = subst (IsAnswerTo c.args.bytes.now) c.in-Unread.is c.in_ok-read.ensures.answer
