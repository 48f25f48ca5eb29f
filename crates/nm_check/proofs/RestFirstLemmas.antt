-- The first rule of rest that is broken, and the first event at which it breaks.
use Rattle.std.proofs.Common.{◌≡◌, ℕ, List, [], ◌∷◌, ◌++◌, length, Option, Some, None, refl}
use Rattle.std.specs.Prelude.{IfSome, IsSomeAnd}
use Rattle.std.specs.List.{AllByRecursion, slice_get}
use Rattle.std.proofs.lemmas.List.Elements.{All-from_recursion}
use Rattle.nm_types.specs.Commands.{commands_of}
use Rattle.nm_types.specs.declared.scripts.Line.{Line}
use Rattle.nm_history.specs.declared.events.Event.{Event}
use Rattle.nm_history.specs.AtEach.{AtEach}
use Rattle.nm_history.specs.Quiescence.{EachPair, EachRank, Ended, IsStopped, Packets, RecallsAnswered}
use Rattle.nm_history.specs.Sends.{Sent, arrivals, sends}
use Rattle.nm_history.proofs.EachLemmas.{each_event}
use Rattle.nm_check_rank.specs.Breaks.{BreaksFirstAt}
use Rattle.nm_check_rank.proofs.BreakLemmas.{not_kept}
use Rattle.nm_check.specs.RestBreaks.{KeepsSend, SendKeeps, AreInOrder, BreaksRestAt, BreaksStanding, BreaksThere}
use Rattle.nm_check.specs.RestBreaks.{IsRestBreak, KeepRestAt, RestAt, clause_of, rest_clause}
use Rattle.nm_check.specs.RestClauses.{KeepsRest, rest_order}
use Rattle.nm_check.specs.declared.firsts.Spot.{Spot}
use Rattle.nm_check.specs.declared.rest.clauses.RestClause.{RestClause}
use Rattle.nm_check.specs.declared.rest.clauses.RestClause.TheVariants.{Arrived, Eager, Asked, Recalls, Waits, Counts}
use Rattle.nm_check.specs.declared.rest.firsts.EventRule.{EventRule}
use Rattle.nm_check.specs.declared.rest.firsts.EventRule.TheVariants as rule
use Rattle.nm_check.specs.declared.rest.resting.RestBreak.{RestBreak}
use Rattle.nm_check.specs.declared.rest.resting.RestBreak.TheVariants as kind
use Rattle.nm_check.proofs.CameLemmas.{AllCame, as_many, each_came, each_pair}
use Rattle.nm_check.proofs.MarkLemmas.{at_each_event}
use Rattle.nm_check.proofs.OverLemmas.{of_events, of_sends}

-- what holds of each rank by what held
each_by : (P Q : ℕ → Ended → Type 0) (ranks : List Ended) → ((x : ℕ) (rank : Ended) → P x rank → Q x rank) →
    EachRank P ranks → EachRank Q ranks
each_by P Q ranks f each x = by_rank (slice_get ranks x) (each x)
  where
    by_rank : (o : Option Ended) → IfSome o (P x) → IfSome o (Q x)
    by_rank None here = tt
    by_rank (Some rank) here = f x rank here

-- what each send keeps of a rule, by what each event keeps
all_sends : (P : ℕ → List Event → ℕ → List Event → Sent → Type 0) (ranks : List Ended) →
    EachRank (λ x rank. AtEach (λ before e. SendKeeps (P x rank.events) ranks e.stamp e.what) rank.events) ranks →
    EachPair (λ i j hi hj. AllByRecursion (P i hi j hj) (sends hi j)) ranks
all_sends P ranks =
    each_by (λ x rank. AtEach (λ before e. SendKeeps (P x rank.events) ranks e.stamp e.what) rank.events)
    (λ x a. EachRank (λ j b. AllByRecursion (P x a.events j b.events) (sends a.events j)) ranks) ranks
    (λ x rank here. of_events (P x rank.events) ranks rank.events
    (each_event (λ stamp what. SendKeeps (P x rank.events) ranks stamp what) rank.events here))

-- .. and the other way round
each_send : (P : ℕ → List Event → ℕ → List Event → Sent → Type 0) (ranks : List Ended) →
    EachPair (λ i j hi hj. AllByRecursion (P i hi j hj) (sends hi j)) ranks →
    EachRank (λ x rank. AtEach (λ before e. SendKeeps (P x rank.events) ranks e.stamp e.what) rank.events) ranks
each_send P ranks =
    each_by (λ x a. EachRank (λ j b. AllByRecursion (P x a.events j b.events) (sends a.events j)) ranks)
    (λ x rank. AtEach (λ before e. SendKeeps (P x rank.events) ranks e.stamp e.what) rank.events) ranks
    (λ x rank here. at_each_event (λ stamp what. SendKeeps (P x rank.events) ranks stamp what) rank.events
    (of_sends (P x rank.events) ranks rank.events here))

abbrev OfSend : EventRule → ℕ → List Event → ℕ → List Event → Sent → Type 0
OfSend r i hi j hj s = KeepsSend r i hi j hj s.n s.how

-- as many came as were sent
abbrev SameCounts : ℕ → ℕ → List Event → List Event → Type 0
SameCounts i j hi hj = length (arrivals hj i) ≡ length (sends hi j)

module _ (lines : List Line) (ranks : List Ended) (packets : List Packets) (ordered : AreInOrder ranks) where
  -- where each event keeps it, the ranks keep the rule
  pub whole_rule : (r : EventRule) → EachRank (λ x rank. KeepRestAt r ranks x rank.events rank.events) ranks →
      KeepsRest lines ranks packets (rest_clause r)
  whole_rule rule.Arrived each =
      each_pair ranks AllCame SameCounts ordered.0 ordered.1
      (λ i j a b own other order here. as_many i j a b own other order here)
      (all_sends (OfSend rule.Arrived) ranks each)
  whole_rule rule.Eager each = all_sends (OfSend rule.Eager) ranks each
  whole_rule rule.Asked each = all_sends (OfSend rule.Asked) ranks each
  whole_rule rule.Recalls each =
      each_by (λ x rank. KeepRestAt rule.Recalls ranks x rank.events rank.events) _ ranks
      (λ x rank here. each_event (RestAt rule.Recalls ranks x rank.events) rank.events here) each

  -- .. and the other way round
  each_rule : (r : EventRule) → KeepsRest lines ranks packets (rest_clause r) →
      EachRank (λ x rank. KeepRestAt r ranks x rank.events rank.events) ranks
  each_rule rule.Arrived keeps =
      each_send (OfSend rule.Arrived) ranks (each_pair ranks SameCounts AllCame ordered.0 ordered.1
      (λ i j a b own other order here. each_came i j a b own other here) keeps)
  each_rule rule.Eager keeps = each_send (OfSend rule.Eager) ranks keeps
  each_rule rule.Asked keeps = each_send (OfSend rule.Asked) ranks keeps
  each_rule rule.Recalls keeps =
      each_by (λ x rank. RecallsAnswered rank.events)
      (λ x rank. KeepRestAt rule.Recalls ranks x rank.events rank.events) ranks
      (λ x rank here. at_each_event (RestAt rule.Recalls ranks x rank.events) rank.events here) keeps

  -- a rule that breaks at an event is not kept
  not_rest : (r : EventRule) (spot : Spot) → BreaksRestAt r ranks spot →
      KeepsRest lines ranks packets (rest_clause r) → ⊥
  not_rest r spot breaks keeps = by_rank (slice_get ranks spot.rank) breaks.first (each_rule r keeps spot.rank)
    where
      by_rank : (o : Option Ended) →
          IsSomeAnd o (λ rank. BreaksFirstAt (KeepRestAt r ranks spot.rank rank.events) rank.events spot.at) →
          IfSome o (λ rank. KeepRestAt r ranks spot.rank rank.events rank.events) → ⊥
      by_rank None first each = first
      by_rank (Some rank) first each =
          not_kept (λ before e. RestAt r ranks spot.rank rank.events e.stamp e.what) rank.events spot.at first each

  not_standing : (i : ℕ) → BreaksStanding lines ranks i →
      EachRank (λ i rank. IsStopped (commands_of i lines) rank) ranks → ⊥
  not_standing i breaks each = by_rank (slice_get ranks i) breaks.first (each i)
    where
      by_rank : (o : Option Ended) → IsSomeAnd o (λ rank. IsStopped (commands_of i lines) rank → ⊥) →
          IfSome o (λ rank. IsStopped (commands_of i lines) rank) → ⊥
      by_rank None there here = there
      by_rank (Some rank) never here = never here

  abbrev Keeps : RestClause → Type 0
  Keeps c = KeepsRest lines ranks packets c

  -- the first of the rules, behind those that are kept
  first_rest : (earlier : List RestClause) (b : RestBreak) (later : List RestClause) →
      rest_order ≡ earlier ++ clause_of b ∷ later → AllByRecursion Keeps earlier → BreaksThere lines ranks b →
      (Keeps (clause_of b) → ⊥) → IsRestBreak lines ranks packets b
  first_rest earlier b later split kept breaks broken = record {
    first = record {
      earlier = earlier;
      later = later;
      split = split;
      kept = All-from_recursion Keeps earlier kept;
      broken = broken;
    };
    at = breaks;
  }

  pub event_break : (earlier : List RestClause) (r : EventRule) (later : List RestClause) (spot : Spot) →
      rest_order ≡ earlier ++ rest_clause r ∷ later → AllByRecursion Keeps earlier → BreaksRestAt r ranks spot →
      IsRestBreak lines ranks packets (kind.Event r spot)
  event_break earlier r later spot split kept breaks =
      first_rest earlier (kind.Event r spot) later split kept breaks (not_rest r spot breaks)

  pub waits_break : (i : ℕ) → Keeps Arrived → Keeps Eager → Keeps Asked → Keeps Recalls →
      BreaksStanding lines ranks i → IsRestBreak lines ranks packets (kind.Standing i)
  waits_break i arrived eager asked recalls breaks =
      first_rest (Arrived ∷ Eager ∷ Asked ∷ Recalls ∷ []) (kind.Standing i) (Counts ∷ []) refl
      (arrived, (eager, (asked, (recalls, tt)))) breaks (not_standing i breaks)

  pub counts_break : Keeps Arrived → Keeps Eager → Keeps Asked → Keeps Recalls → Keeps Waits →
      (Keeps Counts → ⊥) → IsRestBreak lines ranks packets kind.Counts
  counts_break arrived eager asked recalls waits broken =
      first_rest (Arrived ∷ Eager ∷ Asked ∷ Recalls ∷ Waits ∷ []) kind.Counts [] refl
      (arrived, (eager, (asked, (recalls, (waits, tt))))) tt broken
