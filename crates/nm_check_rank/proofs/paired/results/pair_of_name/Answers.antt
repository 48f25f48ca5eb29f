use Rattle.nm_check_rank.proofs.paired.results.pair_of_name.Goals as goal

pub returns-in-Some-Receiving : goal.returns-in-Some-Receiving
returns-in-Some-Receiving c = λ rank lines h told.
    let is = rw c.in-Some-Receiving.is at c.in-Some-Receiving.field-0-is in
    rw (c.in-Some-Receiving.is, is) (c.pair.ensures rank lines h told.tells)
