use Rattle.std.proofs.Common.{List}
use Rattle.nm_types.specs.declared.scripts.Line.{Line}
use Rattle.nm_history.specs.Quiescence.{Ended, history_of}
use Rattle.nm_check.specs.Marked.{AreMarks, EachMarked}
use Rattle.nm_check.specs.CarriedClauses.{PairDelivered}
use Rattle.nm_check.proofs.RankLemmas.{UpTo}
use Rattle.nm_check.proofs.between.first_from.Given as goal

-- the messages to the ranks so far are delivered
abbrev pub invariant-loop-j : goal.invariant-loop-j
invariant-loop-j l =
    (lines : List Line) (ranks : List Ended) → AreMarks lines ranks l.i l.sender → EachMarked lines ranks l.marks →
    UpTo (λ j rank. PairDelivered lines l.i j (history_of ranks l.i) rank.events) ranks l.j
