-- The event at which a rule of the messages between two ranks breaks first.
use Rattle.std.proofs.Common.{◌≡◌, ◌⊎◌, inl, inr, ℕ, ◌+◌, ◌<◌, ◌≤◌, Bool, true, false, cond, Option, Some, None, List}
use Rattle.std.proofs.Common.{refl, sym, ◌∙◌, subst, arith}
use Rattle.std.specs.Prelude.{MatchBool}
use Rattle.nm_types.specs.declared.scripts.Line.{Line}
use Rattle.nm_history.specs.declared.events.Event.{Event}
use Rattle.nm_history.specs.AtEach.{AtEach}
use Rattle.nm_history.specs.Delivery.{UndoneAfterWithdraw, WithdrawAfterRecall}
use Rattle.nm_history.specs.Quiescence.{Ended, history_of}
use Rattle.nm_history.proofs.EachLemmas.{each_event}
use Rattle.nm_check_rank.specs.Breaks.{BreaksFirstAt}
use Rattle.nm_check.specs.CarriedBreaks.{BreaksBetweenAt, FirstAt, IsFirstBetween, PartAt, first_read}
use Rattle.nm_check.specs.CarriedBreaks.{is_read_before, read_of}
use Rattle.nm_check.specs.declared.clauses.CarriedClause.TheVariants as carried
use Rattle.nm_check.specs.declared.firsts.Part.TheVariants as part
use Rattle.nm_check.specs.declared.firsts.Spot.{Spot}
use Rattle.nm_check.proofs.MarkLemmas.{at_each_event}
use Rattle.nm_check.proofs.ReadLemmas.{Before, NotBefore, order, read_early, read_kept, read_own}
use Rattle.nm_check.proofs.SentLemmas.{each_next, in_order}

early : (s t : Spot) (x : ℕ) → t.rank ≡ x → Before s t → (s.rank < x) ⊎ ((s.rank ≡ x) × (s.at ≤ t.at))
early s t x here (inl low) = inl (omega (arith, low, here))
early s t x here (inr same) = let low = same.1 in inr (same.0 ∙ here, omega (arith, low))

not_late : (s t : Spot) (x : ℕ) → s.rank ≡ x → NotBefore s t → (t.rank < x) ⊎ ((t.rank ≡ x) × (t.at ≤ s.at))
not_late s t x here (inl low) = inl (omega (arith, low, here))
not_late s t x here (inr same) = inr (same.0 ∙ here, same.1)

-- of what is read up to an event of this rank
first_own : (R : List Event → Event → Type 0) (x : ℕ) (h : List Event) (spot : Spot) → spot.rank ≡ x →
    BreaksFirstAt (AtEach R) h spot.at →
    AtEach R (read_of spot.rank spot.at x h) × (AtEach R (read_of spot.rank (spot.at + 1) x h) → ⊥)
first_own R x h spot here first = (
  subst (λ (g : List Event). AtEach R g) (sym (read_own spot.rank spot.at x h here)) first.kept,
  λ each. first.broken (subst (λ (g : List Event). AtEach R g) (read_own spot.rank (spot.at + 1) x h here) each),
)

module _ (lines : List Line) (ranks : List Ended) (i j : ℕ) where
  abbrev hi : List Event
  hi = history_of ranks i

  abbrev hj : List Event
  hj = history_of ranks j

  pub messages_first : (found : Option Spot) → FirstAt lines ranks part.Arrivals j i found →
      IsFirstBetween lines ranks i j carried.Messages found
  messages_first None each = in_order i j hi hj each
  messages_first (Some spot) first =
      let own = first_own (PartAt part.Arrivals lines ranks j i) j hj spot first.0 first.1 in
      record {
        inside = inr (first.0, first.1.inside);
        kept = in_order i j hi (read_of spot.rank spot.at j hj) own.0;
        broken = λ right. own.1 (each_next i j hi (read_of spot.rank (spot.at + 1) j hj) right);
      }

  pub bodies_first : (found : Option Spot) → FirstAt lines ranks part.Bodies j i found →
      IsFirstBetween lines ranks i j carried.Bodies found
  bodies_first None each = each
  bodies_first (Some spot) first =
      let own = first_own (PartAt part.Bodies lines ranks j i) j hj spot first.0 first.1 in
      record { inside = inr (first.0, first.1.inside); kept = own.0; broken = own.1 }

  pub outs_first : (found : Option Spot) → FirstAt lines ranks part.Outs i j found →
      IsFirstBetween lines ranks i j carried.Outs found
  outs_first None each = each
  outs_first (Some spot) first =
      let own = first_own (PartAt part.Outs lines ranks i j) i hi spot first.0 first.1 in
      record { inside = inl (first.0, first.1.inside); kept = own.0; broken = own.1 }

  -- a withdrawal that is not asked for, where the answers that are read were given
  asked_first : (spot : Spot) → spot.rank ≡ j → BreaksFirstAt (AtEach (PartAt part.Withdrawals lines ranks j i)) hj
      spot.at → AtEach (PartAt part.Answers lines ranks i j) (read_of spot.rank spot.at i hi) →
      BreaksBetweenAt lines ranks i j carried.Withdrawals spot
  asked_first spot here first others =
      let own = first_own (PartAt part.Withdrawals lines ranks j i) j hj spot here first in
      record {
        inside = inr (here, first.inside);
        kept = (
          each_event (WithdrawAfterRecall i j hi) (read_of spot.rank spot.at j hj) own.0,
          each_event (UndoneAfterWithdraw i j hj) (read_of spot.rank spot.at i hi) others,
        );
        broken = λ right.
            own.1 (at_each_event (WithdrawAfterRecall i j hi) (read_of spot.rank (spot.at + 1) j hj) right.0);
      }

  -- an answer that was not given, where the withdrawals that are read were asked for
  answered_first : (spot : Spot) → spot.rank ≡ i → BreaksFirstAt (AtEach (PartAt part.Answers lines ranks i j)) hi
      spot.at → AtEach (PartAt part.Withdrawals lines ranks j i) (read_of spot.rank spot.at j hj) →
      BreaksBetweenAt lines ranks i j carried.Withdrawals spot
  answered_first spot here first others =
      let own = first_own (PartAt part.Answers lines ranks i j) i hi spot here first in
      record {
        inside = inl (here, first.inside);
        kept = (
          each_event (WithdrawAfterRecall i j hi) (read_of spot.rank spot.at j hj) others,
          each_event (UndoneAfterWithdraw i j hj) (read_of spot.rank spot.at i hi) own.0,
        );
        broken = λ right.
            own.1 (at_each_event (UndoneAfterWithdraw i j hj) (read_of spot.rank (spot.at + 1) i hi) right.1);
      }

  pub withdrawals_first : (a b : Option Spot) → FirstAt lines ranks part.Withdrawals j i a →
      FirstAt lines ranks part.Answers i j b →
      IsFirstBetween lines ranks i j carried.Withdrawals (first_read a b)
  withdrawals_first None None asked answered = record {
    asked = each_event (WithdrawAfterRecall i j hi) hj asked;
    answered = each_event (UndoneAfterWithdraw i j hj) hi answered;
  }
  withdrawals_first (Some s) None first answered =
      asked_first s first.0 first.1 (read_kept (PartAt part.Answers lines ranks i j) hi s.rank s.at i answered)
  withdrawals_first None (Some t) asked first =
      answered_first t first.0 first.1
      (read_kept (PartAt part.Withdrawals lines ranks j i) hj t.rank t.at j asked)
  withdrawals_first (Some s) (Some t) asked answered =
      by_order (is_read_before s t) (order s t (is_read_before s t) refl)
    where
      by_order : (b : Bool) → MatchBool b (Before s t) (NotBefore s t) →
          IsFirstBetween lines ranks i j carried.Withdrawals (cond b (Some s) (Some t))
      by_order true before =
          asked_first s asked.0 asked.1
          (read_early (PartAt part.Answers lines ranks i j) hi s.rank s.at i t.at answered.1
          (early s t i answered.0 before))
      by_order false not =
          answered_first t answered.0 answered.1
          (read_early (PartAt part.Withdrawals lines ranks j i) hj t.rank t.at j s.at asked.1
          (not_late s t j asked.0 not))
