-- What was read is what reading gives.
use Rattle.nm_script.proofs.ReadLemmas.{script_fault, script_faults, script_taken, script_takes}
use Rattle.nm_script.proofs.reading.read.Goals as goal

pub returns-clause-taken : goal.returns-clause-taken
returns-clause-taken c = script_taken c.args.bytes.now c.read_exactly.result c.read_exactly.ensures

pub returns-clause-takes : goal.returns-clause-takes
returns-clause-takes c = script_takes c.args.bytes.now c.read_exactly.result c.read_exactly.ensures

pub returns-clause-fault : goal.returns-clause-fault
returns-clause-fault c = script_fault c.args.bytes.now c.read_exactly.result c.read_exactly.ensures

pub returns-clause-faults : goal.returns-clause-faults
returns-clause-faults c = script_faults c.args.bytes.now c.read_exactly.result c.read_exactly.ensures
