-- Ranks that run their own commands, and those whose messages are delivered.
use Rattle.std.proofs.Common.{ℕ, Option, Some, None, List}
use Rattle.std.specs.Prelude.{IfSome, slice_get}
use Rattle.nm_types.specs.declared.scripts.Line.{Line}
use Rattle.nm_types.specs.Sizes.{Sizes}
use Rattle.nm_history.specs.Delivery.{ArriveInOrder}
use Rattle.nm_history.specs.Quiescence.{EachPair, EachRank, Ended}
use Rattle.nm_history.specs.Sends.{arrivals, sends}
use Rattle.nm_check.specs.CarriedClauses.{PairDelivered}
use Rattle.nm_check.specs.Marked.{KeepsLocal}
use Rattle.nm_check.specs.Verdicts.{RunsItsOwn}

-- ranks that run their own commands are numbered, and their stamps rise
pub are_local : (shape : Sizes) (lines : List Line) (ranks : List Ended) → EachRank (RunsItsOwn shape lines) ranks →
    EachRank KeepsLocal ranks
are_local shape lines ranks each x = by_rank (slice_get ranks x) (each x)
  where
    by_rank : (o : Option Ended) → IfSome o (RunsItsOwn shape lines x) → IfSome o (KeepsLocal x)
    by_rank None here = tt
    by_rank (Some rank) here = record { ranks = shape.ranks; numbers = here.numbers; stamps = here.stamps }

-- the messages of delivered ranks arrive in order
pub are_ordered : (lines : List Line) (ranks : List Ended) → EachPair (PairDelivered lines) ranks →
    EachPair (λ i j hi hj. ArriveInOrder i (sends hi j) (arrivals hj i)) ranks
are_ordered lines ranks each i = by_sender (slice_get ranks i) (each i)
  where
    by_receiver : (a : Ended) (j : ℕ) (o : Option Ended) → IfSome o (λ b. PairDelivered lines i j a.events b.events) →
        IfSome o (λ b. ArriveInOrder i (sends a.events j) (arrivals b.events i))
    by_receiver a j None here = tt
    by_receiver a j (Some b) here = here.messages

    by_sender : (o : Option Ended) →
        IfSome o (λ a. EachRank (λ j b. PairDelivered lines i j a.events b.events) ranks) →
        IfSome o (λ a. EachRank (λ j b. ArriveInOrder i (sends a.events j) (arrivals b.events i)) ranks)
    by_sender None here = tt
    by_sender (Some a) here = λ j. by_receiver a j (slice_get ranks j) (here j)
