use Rattle.nm_check.proofs.rest.over.is_kept.Goals as goal

pub returns-in-Arrived : goal.returns-in-Arrived
returns-in-Arrived c = λ hi hj lines sent got. rw c.in-Arrived.is (c.has_come.ensures hj got.places)

pub returns-in-Eager : goal.returns-in-Eager
returns-in-Eager c = λ hi hj lines sent got. rw c.in-Eager.is (c.is_eager_over.ensures hi hj sent got.places)

pub returns-in-Asked : goal.returns-in-Asked
returns-in-Asked c = λ hi hj lines sent got. rw c.in-Asked.is (c.is_asked_over.ensures hi hj lines sent got)

pub returns-in-Recalls : goal.returns-in-Recalls
returns-in-Recalls c = λ hi hj lines sent got. rw c.in-Recalls.is tt
