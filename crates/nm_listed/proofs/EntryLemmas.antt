-- What happened at a rank, by the entries of a log.
use Rattle.std.proofs.Common.{◌≡◌, ℕ, ◌==◌, ◌&&◌, ◌||◌, Bool, true, false, List, [], ◌∷◌, refl, ap}
use Rattle.std.specs.Prelude.{if◌then◌else◌, Some, None}
use Rattle.std.specs.List.{cons_option, list_any}
use Rattle.nm_history.specs.declared.events.Happened.{Happened}
use Rattle.nm_history.specs.Happens.{happened}
use Rattle.nm_outcomes.specs.Logs.{Step, history_in}

pub happened_in : (test : Happened → Bool) (i : ℕ) (log : List Step) →
    list_any (λ s. s.rank == i && test s.event.what) log ≡ happened test (history_in log i)
happened_in test i [] = refl
happened_in test i (s ∷ log) = by_rank (s.rank == i) (happened_in test i log)
  where
    by_rank : (b : Bool) → list_any (λ s. s.rank == i && test s.event.what) log ≡ happened test (history_in log i) →
        ((b && test s.event.what) || list_any (λ s. s.rank == i && test s.event.what) log)
        ≡ happened test (cons_option (if b then Some s.event else None) (history_in log i))
    by_rank true rest = ap (λ (c : Bool). test s.event.what || c) rest
    by_rank false rest = rest
