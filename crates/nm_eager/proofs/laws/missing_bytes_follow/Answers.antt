use Rattle.nm_eager.proofs.MissingLemmas.{missing-begun, missing-carried_on, missing-without}
use Rattle.nm_eager.proofs.laws.missing_bytes_follow.Goals as goal

pub returns-clause-begins : goal.returns-clause-begins
returns-clause-begins c = missing-begun

pub returns-clause-goes_on : goal.returns-clause-goes_on
returns-clause-goes_on c = missing-carried_on

pub returns-clause-takes : goal.returns-clause-takes
returns-clause-takes c = missing-without
