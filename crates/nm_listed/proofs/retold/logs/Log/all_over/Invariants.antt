-- The messages so far are over.
use Rattle.std.proofs.Common.{◌≡◌}
use Rattle.nm_listed.specs.Tellings.{each_below, over}
use Rattle.nm_listed.proofs.retold.logs.Log.all_over.Given as goal

abbrev pub invariant-loop-n : goal.invariant-loop-n
invariant-loop-n l = l.self ≡ each_below (λ n log. over l.rank l.other l.i l.j n log) l.n l.fn.self
