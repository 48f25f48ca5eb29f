-- Events by their ranks and places.
use Rattle.std.proofs.Common.{◌≡◌, ◌⊎◌, inl, inr, ℕ, ◌<◌, ◌≤◌, Option, Some, None, List, [], length}
use Rattle.std.proofs.Common.{refl, sym, ap, subst, arith}
use Rattle.std.specs.Prelude.{IfSome, IsSomeAnd, option_and_then, slice_get}
use Rattle.std.specs.Option.{option_map_or}
use Rattle.std.proofs.lemmas.List.{length-map}
use Rattle.nm_types.specs.declared.scripts.Line.{Line}
use Rattle.nm_types.specs.Commands.{commands_of}
use Rattle.nm_types.specs.Sizes.{Sizes}
use Rattle.nm_history.specs.declared.events.Event.{Event}
use Rattle.nm_history.specs.Quiescence.{EachRank, Ended, IsStopped, history_of}
use Rattle.nm_report.specs.declared.accounts.RankAccount.{RankAccount}
use Rattle.nm_report.specs.Ends.{end_of_account, ends_of}
use Rattle.nm_check_rank.specs.Breaks.{BreaksFirstAt}
use Rattle.nm_check_rank.specs.FirstBroken.{IsFirstBroken}
use Rattle.nm_check.specs.CarriedBreaks.{BreaksBetweenAt}
use Rattle.nm_check.specs.CarriedClauses.{KeepsCarried, carried_order}
use Rattle.nm_check.specs.declared.clauses.CarriedClause.{CarriedClause}
use Rattle.nm_check.specs.declared.firsts.Spot.{Spot}
use Rattle.nm_check.specs.RestBreaks.{BreaksRestAt, BreaksStanding, KeepRestAt}
use Rattle.nm_check.specs.declared.rest.firsts.EventRule.{EventRule}
use Rattle.nm_check.specs.Verdicts.{BreaksCarried}
use Rattle.nm_check.proofs.WaitLemmas.{some_inside}
use Rattle.nm_breaks.specs.Places.{events_in}
use Rattle.nm_breaks.proofs.EventLemmas.{rank_le}

-- the history of a rank, if there is one
abbrev events_of : Option Ended → List Event
events_of o = option_map_or (λ rank. rank.events) o []

-- the event is one of its rank
pub spot_inside : (lines : List Line) (ranks : List Ended) (i j : ℕ) (c : CarriedClause) (spot : Spot) →
    BreaksBetweenAt lines ranks i j c spot → spot.at < length (history_of ranks spot.rank)
spot_inside lines ranks i j c spot breaks = by_side breaks.inside
  where
    by_side : ((spot.rank ≡ i) × (spot.at < length (history_of ranks i)))
        ⊎ ((spot.rank ≡ j) × (spot.at < length (history_of ranks j))) →
        spot.at < length (history_of ranks spot.rank)
    by_side (inl here) = subst (λ (x : ℕ). spot.at < length (history_of ranks x)) (sym here.0) here.1
    by_side (inr here) = subst (λ (x : ℕ). spot.at < length (history_of ranks x)) (sym here.0) here.1

-- no history has more events than all ranks have
pub history_le : (ranks : List Ended) (i : ℕ) → length (history_of ranks i) ≤ events_in ranks
history_le ranks i = by_rank (slice_get ranks i) refl
  where
    by_rank : (o : Option Ended) → slice_get ranks i ≡ o → length (events_of o) ≤ events_in ranks
    by_rank None is = omega arith
    by_rank (Some e) is = rank_le ranks i e is

-- .. and each has no more than as many
pub each_short : (ranks : List Ended) (n : ℕ) → events_in ranks ≤ n → EachRank (λ i rank. length rank.events ≤ n) ranks
each_short ranks n few i = by_rank (slice_get ranks i) refl
  where
    by_rank : (o : Option Ended) → slice_get ranks i ≡ o → IfSome o (λ rank. length rank.events ≤ n)
    by_rank None is = tt
    by_rank (Some rank) is = let all = rank_le ranks i rank is in omega (arith, all, few)

-- the two ranks of a rule that breaks between them
pub carried_ranks : (shape : Sizes) (lines : List Line) (ranks : List Ended) (c : CarriedClause) (i j : ℕ) →
    BreaksCarried shape lines ranks c i j → (i < length ranks) × (j < length ranks)
carried_ranks shape lines ranks c i j breaks = (
  some_inside ranks i (λ a. IsSomeAnd (slice_get ranks j) (λ b. IsFirstBroken
      (KeepsCarried i j (commands_of i lines) (commands_of j lines) a.events b.events) carried_order c))
      breaks.first,
  receiver (slice_get ranks i) breaks.first,
)
  where
    receiver : (a : Option Ended) → IsSomeAnd a (λ a. IsSomeAnd (slice_get ranks j) (λ b. IsFirstBroken
        (KeepsCarried i j (commands_of i lines) (commands_of j lines) a.events b.events) carried_order c)) →
        j < length ranks
    receiver None there = absurd there
    receiver (Some a) there = some_inside ranks j (λ b. IsFirstBroken
        (KeepsCarried i j (commands_of i lines) (commands_of j lines) a.events b.events) carried_order c) there

-- the rank that stands where it may not
pub standing_known : (lines : List Line) (ranks : List Ended) (i : ℕ) → BreaksStanding lines ranks i → i < length ranks
standing_known lines ranks i breaks =
    some_inside ranks i (λ rank. IsStopped (commands_of i lines) rank → ⊥) breaks.first

-- the place of an event that breaks a rule of rest
pub rest_inside : (r : EventRule) (ranks : List Ended) (spot : Spot) → BreaksRestAt r ranks spot →
    spot.at < length (history_of ranks spot.rank)
rest_inside r ranks spot breaks = by_rank (slice_get ranks spot.rank) breaks.first
  where
    by_rank : (o : Option Ended) → IsSomeAnd o (λ rank. BreaksFirstAt (KeepRestAt r ranks spot.rank rank.events)
        rank.events spot.at) → spot.at < length (events_of o)
    by_rank None there = absurd there
    by_rank (Some rank) there = there.inside

-- as many ranks as accounts
pub many_ends : (ranks : List RankAccount) → length (ends_of ranks) ≡ length ranks
many_ends ranks = length-map ranks end_of_account

-- where a rank waits
pub waits_here : (ranks : List Ended) (i : ℕ) (e : Ended) → slice_get ranks i ≡ Some e →
    option_and_then (λ (e : Ended). e.waits) (slice_get ranks i) ≡ e.waits
waits_here ranks i e is = ap (λ (o : Option Ended). option_and_then (λ (e : Ended). e.waits) o) is
