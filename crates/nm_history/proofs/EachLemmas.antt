-- What holds of each event, each rank and each piece.
use Rattle.std.proofs.Common.{◌≡◌, ℕ, zero, suc, ◌+◌, List, [], ◌∷◌, ◌++◌, length, refl, arith}
use Rattle.nm_types.specs.declared.packets.Piece.{Piece}
use Rattle.nm_history.specs.declared.events.Event.{Event}
use Rattle.nm_history.specs.declared.events.Happened.{Happened}
use Rattle.nm_history.specs.AtEach.{AtEach, AtEachAfter}
use Rattle.nm_history.specs.Delivery.{EachEvent}
use Rattle.nm_history.specs.Outgoing.{AreCalledPieces, CalledPiece}
use Rattle.nm_history.specs.Quiescence.{EachRank, Ended}

-- the beginning of a history
pub after_prefix : (R : List Event → Event → Type 0) (b xs ys : List Event) → AtEachAfter R b (xs ++ ys) →
    AtEachAfter R b xs
after_prefix R b [] ys each = tt
after_prefix R b (x ∷ xs) ys each = (each.0, after_prefix R (b ++ x ∷ []) xs ys each.1)

pub AtEach-prefix : (R : List Event → Event → Type 0) (xs ys : List Event) → AtEach R (xs ++ ys) → AtEach R xs
unfolding AtEach
AtEach-prefix R xs ys each = after_prefix R [] xs ys each

-- a rule of each event by itself
pub each_of : (R : ℕ → Happened → Type 0) (before h : List Event) →
    AtEachAfter (λ before e. R e.stamp e.what) before h → EachEvent R h
each_of R before [] each = tt
each_of R before (e ∷ h) each = (each.0, each_of R (before ++ e ∷ []) h each.1)

pub each_event : (R : ℕ → Happened → Type 0) (h : List Event) → AtEach (λ before e. R e.stamp e.what) h →
    EachEvent R h
unfolding AtEach
each_event R h each = each_of R [] h each

-- a rule of each of two ranks
pub two_ranks : (R : ℕ → Ended → Type 0) (a b : Ended) → R 0 a → R 1 b → EachRank R (a ∷ b ∷ [])
two_ranks R a b p q zero = p
two_ranks R a b p q (suc zero) = q
two_ranks R a b p q (suc (suc i)) = tt

-- as many pieces as are called for
pub pieces_count : (from number : ℕ) (list : List CalledPiece) (pieces : List Piece) →
    AreCalledPieces from number list pieces → length list ≡ length pieces
pieces_count from number [] [] are = refl
pieces_count from number [] (p ∷ pieces) are = absurd are
pieces_count from number (called ∷ list) [] are = absurd are
pieces_count from number (called ∷ list) (p ∷ pieces) are =
    let rest = pieces_count from (number + 1) list pieces are.1 in omega (arith, rest)
