-- The event at which a rank breaks a rule of its own run first.
use Rattle.std.proofs.Common.{◌≡◌, ℕ, ◌<◌, None, Some, Option, [], List, length, refl, take, subst}
use Rattle.std.specs.Prelude.{IsSomeAnd, slice_get}
use Rattle.std.specs.Option.{option_map_or}
use Rattle.std.proofs.lemmas.Option.{slice_get_within}
use Rattle.nm_types.specs.declared.scripts.Line.{Line}
use Rattle.nm_types.specs.Commands.{Numbered, commands_of}
use Rattle.nm_types.specs.Sizes.{Sizes}
use Rattle.nm_history.specs.declared.events.Event.{Event}
use Rattle.nm_history.specs.Quiescence.{Ended, history_of}
use Rattle.nm_check_rank.specs.OwnBreaks.{BreaksAt, IsBreach, IsBreachAt}
use Rattle.nm_check_rank.specs.declared.breaks.Break.{Break}
use Rattle.nm_check_rank.specs.declared.breaks.Break.TheVariants.{At}
use Rattle.nm_check_rank.specs.declared.clauses.OwnClause.{OwnClause}
use Rattle.nm_check_rank.specs.declared.paired.breaches.Breach.{Breach}
use Rattle.nm_check_rank.specs.declared.paired.dues.Due.{Due}
use Rattle.nm_check.specs.Verdicts.{IsBreachOf}

-- a place at an event is inside
breach_inside : (shape : Sizes) (commands : List Numbered) (at : ℕ) (h : List Event) (c : OwnClause)
    (due : Option Due) (k : ℕ) → IsBreachAt shape commands at h c due (At k) → k < length h
breach_inside shape commands at h c due k breach = by_event (slice_get h k) refl breach.1
  where
    by_event : (o : Option Event) → slice_get h k ≡ o →
        IsSomeAnd o (λ e. IsSomeAnd due (BreaksAt shape commands (take k h) e c)) → k < length h
    by_event None here some = absurd some
    by_event (Some e) here some = slice_get_within h k e here

-- .. of the rank's history
pub breach_in : (shape : Sizes) (lines : List Line) (ranks : List Ended) (rank : ℕ) (b : Breach) →
    IsBreachOf shape lines ranks rank b → (k : ℕ) → b.place ≡ At k → k < length (history_of ranks rank)
breach_in shape lines ranks rank b breaks k at = by_rank (slice_get ranks rank) breaks
  where
    by_rank : (o : Option Ended) → IsSomeAnd o (λ e. IsBreach shape (commands_of rank lines) e.at e.events b) →
        k < length (option_map_or (λ e. e.events) o [])
    by_rank None there = absurd there
    by_rank (Some e) there =
        breach_inside shape (commands_of rank lines) e.at e.events b.clause b.due k
        (subst (λ (p : Break). IsBreachAt shape (commands_of rank lines) e.at e.events b.clause b.due p) at there)
