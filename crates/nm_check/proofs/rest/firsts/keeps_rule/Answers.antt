use Rattle.nm_check.proofs.rest.firsts.keeps_rule.Goals as goal

pub returns-in-Arrived : goal.returns-in-Arrived
returns-in-Arrived c = λ stamp h placed many. rw c.in-Arrived.is (c.keeps_send.ensures stamp h placed)

pub returns-in-Eager : goal.returns-in-Eager
returns-in-Eager c = λ stamp h placed many. rw c.in-Eager.is (c.keeps_send-in-Eager.ensures stamp h placed)

pub returns-in-Asked : goal.returns-in-Asked
returns-in-Asked c = λ stamp h placed many. rw c.in-Asked.is (c.keeps_send-in-Asked.ensures stamp h placed)

pub returns-in-Recalls : goal.returns-in-Recalls
returns-in-Recalls c = λ stamp h placed many. rw c.in-Recalls.is (c.is_answered.ensures h placed many)
