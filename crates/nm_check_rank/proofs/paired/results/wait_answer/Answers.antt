use Rattle.nm_check_rank.proofs.paired.results.wait_answer.Goals as goal

pub returns-in-Some : goal.returns-in-Some
returns-in-Some c = λ rank lines h told. rw c.in-Some.is (c.request_result.ensures rank lines h told)
