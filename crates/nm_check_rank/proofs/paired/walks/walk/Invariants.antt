use Rattle.std.proofs.Common.{◌≤◌, length, take}
use Rattle.std.specs.Prelude.{All}
use Rattle.nm_check_rank.specs.OwnBreaks.{KeepsSoFar}
use Rattle.nm_check_rank.specs.Runs.{commands_in}
use Rattle.nm_check_rank.specs.SoFar.{IsSoFar}
use Rattle.nm_check_rank.proofs.paired.walks.walk.Given as goal

-- what there is of the events so far, which keep these rules
abbrev pub invariant-loop-k : goal.invariant-loop-k
invariant-loop-k l =
    (l.k ≤ length l.run.events.now) × IsSoFar l.run.events.now l.k l.so_far
    × All (λ d. KeepsSoFar l.run.shape (commands_in l.run) d (take l.k l.run.events.now)) l.rules
