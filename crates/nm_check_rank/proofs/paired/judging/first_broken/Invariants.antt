use Rattle.std.proofs.Common.{take}
use Rattle.std.specs.Prelude.{All}
use Rattle.nm_check_rank.specs.OwnClauses.{KeepsOwn}
use Rattle.nm_check_rank.specs.Runs.{commands_in}
use Rattle.nm_check_rank.proofs.paired.judging.first_broken.Given as goal

-- the rules so far are kept
abbrev pub invariant-loop-clause : goal.invariant-loop-clause
invariant-loop-clause l =
    All (KeepsOwn l.run.shape (commands_in l.run) l.at l.run.events.now) (take l.clause-index l.clause-items)
