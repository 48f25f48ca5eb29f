use Rattle.std.proofs.Common.{◌≡◌, ◌-◌, ◌≤◌, vec_len}
use Rattle.nm_outside.specs.Told.{ReadSoFar}
use Rattle.nm_outside.proofs.reading.read_up_to.Given as goal

abbrev pub invariant-loop-buffer : goal.invariant-loop-buffer
invariant-loop-buffer g l = record {
  read : ReadSoFar (g.S.Source.left l.fn.source) (g.S.Source.left l.source) l.read.items;
  within : vec_len l.read ≤ l.limit;
  quiet : g.S.Source.faults l.source ≡ g.S.Source.faults l.fn.source;
}

abbrev pub decreases-loop-buffer : goal.decreases-loop-buffer
decreases-loop-buffer g l = l.limit - vec_len l.read
