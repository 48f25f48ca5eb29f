use Rattle.std.proofs.Common.{List}
use Rattle.nm_types.specs.declared.scripts.Line.{Line}
use Rattle.nm_history.specs.Quiescence.{EachRank, Ended}
use Rattle.nm_check.specs.Marked.{EachMarked}
use Rattle.nm_check.specs.CarriedClauses.{PairDelivered}
use Rattle.nm_check.proofs.RankLemmas.{UpTo}
use Rattle.nm_check.proofs.between.first_pair.Given as goal

-- the messages of the ranks so far are delivered
abbrev pub invariant-loop-i : goal.invariant-loop-i
invariant-loop-i l =
    (lines : List Line) (ranks : List Ended) → EachMarked lines ranks l.marks →
    UpTo (λ i a. EachRank (λ j b. PairDelivered lines i j a.events b.events) ranks) ranks l.i
