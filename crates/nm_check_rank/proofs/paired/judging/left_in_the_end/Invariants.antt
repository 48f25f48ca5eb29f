use Rattle.std.proofs.Common.{List, length, take}
use Rattle.std.specs.Prelude.{All}
use Rattle.nm_history.specs.declared.events.Event.{Event}
use Rattle.nm_check_rank.specs.OwnBreaks.{KeepsInTheEnd}
use Rattle.nm_check_rank.specs.SoFar.{IsSoFar}
use Rattle.nm_check_rank.proofs.paired.judging.left_in_the_end.Given as goal

-- the end keeps the rules so far
abbrev pub invariant-loop-clause : goal.invariant-loop-clause
invariant-loop-clause l =
    ((h : List Event) → IsSoFar h (length h) l.so_far →
    All (λ d. KeepsInTheEnd l.at d h) (take l.clause-index l.clause-items))
