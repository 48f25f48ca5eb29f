-- What the ranks so far told.
use Rattle.std.proofs.Common.{◌≡◌, map}
use Rattle.nm_report.specs.Told.{told_of_rank}
use Rattle.nm_explored.specs.Successors.{spot_in}
use Rattle.nm_explored.specs.Ends.{all_told}
use Rattle.nm_explored.proofs.ends.told.Given as goal

abbrev pub invariant-loop-i : goal.invariant-loop-i
invariant-loop-i l =
    map told_of_rank l.accounts.items
    ≡ all_told l.view.lines.now (spot_in l.view.table.now l.view.ids.now) l.i
