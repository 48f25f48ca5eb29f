use Rattle.std.proofs.Common.{take}
use Rattle.nm_check.proofs.firsts.broken_with.Goals as goal

pub returns-in-Arrivals : goal.returns-in-Arrivals
returns-in-Arrivals c = rw c.in-Arrivals.is
    (λ n h own here number. c.sender_not_followed.ensures n (take c.args.k h) number)

pub returns-in-Bodies : goal.returns-in-Bodies
returns-in-Bodies c = rw c.in-Bodies.is (λ n h own here number. c.sender_not_shown.ensures h own here)

pub returns-in-Outs : goal.returns-in-Outs
returns-in-Outs c = rw c.in-Outs.is (λ n h own here number. c.receiver_not_asked.ensures h own.places)

pub returns-in-Withdrawals : goal.returns-in-Withdrawals
returns-in-Withdrawals c = rw c.in-Withdrawals.is (λ n h own here number. c.sender_not_recalling.ensures)

pub returns-in-Answers : goal.returns-in-Answers
returns-in-Answers c = rw c.in-Answers.is (λ n h own here number. c.receiver_not_telling.ensures)
