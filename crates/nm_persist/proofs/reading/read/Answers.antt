-- What was read is what reading gives.
use Rattle.nm_persist.proofs.ReadLemmas.{plan_fault, plan_faults, plan_taken, plan_takes}
use Rattle.nm_persist.proofs.reading.read.Goals as goal

pub returns-clause-taken : goal.returns-clause-taken
returns-clause-taken c = plan_taken c.args.bytes.now c.read_exactly.result c.read_exactly.ensures

pub returns-clause-takes : goal.returns-clause-takes
returns-clause-takes c = plan_takes c.args.bytes.now c.read_exactly.result c.read_exactly.ensures

pub returns-clause-fault : goal.returns-clause-fault
returns-clause-fault c = plan_fault c.args.bytes.now c.read_exactly.result c.read_exactly.ensures

pub returns-clause-faults : goal.returns-clause-faults
returns-clause-faults c = plan_faults c.args.bytes.now c.read_exactly.result c.read_exactly.ensures
