use Rattle.nm_trace.proofs.VerdictLemmas.{trace_bad, trace_named, trace_taken, trace_takes}
use Rattle.nm_trace.proofs.reading.read_trace.Goals as goal

pub returns-clause-taken : goal.returns-clause-taken
returns-clause-taken c =
    let read = c.read_record.ensures in
    trace_taken c.args.shape read.few c.args.bytes.now c.read_record.result read.told read.shaped read.whole

pub returns-clause-takes : goal.returns-clause-takes
returns-clause-takes c =
    let read = c.read_record.ensures in
    trace_takes c.args.shape read.few c.args.bytes.now c.read_record.result read.told read.shaped read.stops

pub returns-clause-bad : goal.returns-clause-bad
returns-clause-bad c =
    let read = c.read_record.ensures in
    trace_bad c.args.shape read.few c.args.bytes.now c.read_record.result read.stops

pub returns-clause-named : goal.returns-clause-named
returns-clause-named c =
    let read = c.read_record.ensures in
    trace_named c.args.shape read.few c.args.bytes.now c.read_record.result read.told read.shaped read.whole
    read.stops
