use Rattle.std.proofs.Common.{take}
use Rattle.std.specs.Prelude.{All}
use Rattle.nm_check_rank.specs.OwnBreaks.{RuleAt}
use Rattle.nm_check_rank.specs.Runs.{commands_in}
use Rattle.nm_check_rank.proofs.paired.standing.first_against.Given as goal

-- the event keeps the rules so far
abbrev pub invariant-loop-clause : goal.invariant-loop-clause
invariant-loop-clause l =
    All (λ d. RuleAt l.run.shape (commands_in l.run) d (take l.k l.run.events.now) l.e) (take l.clause-index l.rules)
