-- Whether none of the first ranks has a command left.
use Rattle.std.proofs.Common.{◌≡◌}
use Rattle.std.specs.Prelude.{is_none}
use Rattle.std.specs.List.{list_all}
use Rattle.nm_explored.specs.Ends.{all_told}
use Rattle.nm_explored.specs.Successors.{spot_in}
use Rattle.nm_hangs.proofs.hunts.are_done.Given as goal

abbrev pub invariant-loop-i : goal.invariant-loop-i
invariant-loop-i l =
    l.done
    ≡ list_all (λ rank. is_none rank.waits)
    (all_told l.view.lines.now (spot_in l.view.table.now l.view.ids.now) l.i)
