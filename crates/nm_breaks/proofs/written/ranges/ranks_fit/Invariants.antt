use Rattle.std.proofs.Common.{take}
use Rattle.std.specs.List.{AllByRecursion}
use Rattle.nm_breaks.specs.Ranges.{ReadIn}
use Rattle.nm_breaks.proofs.written.ranges.ranks_fit.Given as goal

-- the ranks so far are within their types
abbrev pub invariant-loop-rank : goal.invariant-loop-rank
invariant-loop-rank l = AllByRecursion
    (λ rank. ReadIn (record { at = rank.at; waits = rank.waits; events = rank.history.events }))
    (take l.rank-index l.ranks)
