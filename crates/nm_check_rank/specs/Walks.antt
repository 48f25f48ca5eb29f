-- What a walk over the events of a rank finds.
use Rattle.std.specs.Prelude.{All, IsSomeAnd, List, length, slice_get, take}
use Rattle.nm_types.specs.Commands.{Numbered}
use Rattle.nm_types.specs.Sizes.{Sizes}
use Rattle.nm_history.specs.declared.events.Event.{Event}
use Rattle.nm_check_rank.specs.OwnBreaks.{BreaksOf, KeepsSoFar}
use Rattle.nm_check_rank.specs.SoFar.{IsSoFar}
use Rattle.nm_check_rank.specs.declared.clauses.OwnClause.{OwnClause}
use Rattle.nm_check_rank.specs.declared.paired.walks.Walked.{Walked}
use Rattle.nm_check_rank.specs.declared.paired.walks.Walked.TheVariants.{Breaks, Ends}

-- the first event that breaks one of these rules, or all keep them, and what there is of the events
abbrev pub IsWalked : Sizes → List Numbered → List OwnClause → List Event → Walked → Type 0
IsWalked shape commands rules h (Breaks k s) =
    All (λ d. KeepsSoFar shape commands d (take k h)) rules
    × IsSomeAnd (slice_get h k) (λ e. BreaksOf shape commands rules (take k h) e s.clause s.due)
IsWalked shape commands rules h (Ends so_far) =
    All (λ d. KeepsSoFar shape commands d h) rules × IsSoFar h (length h) so_far
