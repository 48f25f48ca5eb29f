use Rattle.std.proofs.Common.{take}
use Rattle.std.specs.List.{AllByRecursion}
use Rattle.nm_trace.specs.Traces.{EventIn}
use Rattle.nm_breaks.proofs.written.ranges.events_fit.Given as goal

-- the events so far are within their types
abbrev pub invariant-loop-e : goal.invariant-loop-e
invariant-loop-e l = AllByRecursion EventIn (take l.e-index l.events)
