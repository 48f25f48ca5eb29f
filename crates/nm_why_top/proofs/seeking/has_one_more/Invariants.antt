-- Whether one of the first ranks waits.
use Rattle.std.proofs.Common.{◌≡◌}
use Rattle.nm_explored.specs.Ends.{all_told}
use Rattle.nm_explored.specs.Successors.{spot_in}
use Rattle.nm_why.specs.Hangs.{is_hung}
use Rattle.nm_why_top.proofs.seeking.has_one_more.Given as goal

abbrev pub invariant-loop-i : goal.invariant-loop-i
invariant-loop-i l = l.more ≡ is_hung (all_told l.view.lines.now (spot_in l.view.table.now l.view.ids.now) l.i)
