use Rattle.nm_rank.proofs.PutLemmas.{puts-clearance}
use Rattle.nm_rank.proofs.starts.follow.Goals as goal

pub returns-clause-puts : goal.returns-clause-puts
returns-clause-puts g c = λ called below. (
    let at = c.clock.ensures.value in
    let p = c.answer.ensures.puts called (rw at below) in
    let q = puts-clearance c.args.taken c.in-Some.a called c.clock.result _ _ c.in-Some.is c.in-Ask.is p in
    rw (← at) q)
