use Rattle.nm_check_rank.proofs.paired.results.request_result.Goals as goal

pub returns-in-Receiving : goal.returns-in-Receiving
returns-in-Receiving c = λ rank lines h told. rw c.in-Receiving.is (c.result_of_receive.ensures rank lines h told)
