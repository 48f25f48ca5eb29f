use Rattle.nm_types.specs.Commands.{commands_of}
use Rattle.nm_history.specs.Quiescence.{IsStopped}
use Rattle.nm_report.specs.Ends.{ends_of}
use Rattle.nm_check.proofs.RankLemmas.{UpTo}
use Rattle.nm_check.proofs.rest.waits.first_not_standing.Given as goal

-- the ranks so far are at their ends, or wait
abbrev pub invariant-loop-i : goal.invariant-loop-i
invariant-loop-i l = UpTo (λ i rank. IsStopped (commands_of i l.lines) rank) (ends_of l.ranks) l.i
