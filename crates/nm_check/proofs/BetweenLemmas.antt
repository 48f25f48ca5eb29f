-- The first rule of the messages between two ranks that is broken.
use Rattle.std.proofs.Common.{◌≡◌, ◌+◌, ℕ, List, ◌∷◌, ◌++◌}
use Rattle.std.specs.List.{AllByRecursion}
use Rattle.std.proofs.lemmas.List.Elements.{All-from_recursion}
use Rattle.nm_types.specs.declared.scripts.Line.{Line}
use Rattle.nm_types.specs.Commands.{commands_of}
use Rattle.nm_history.specs.declared.events.Event.{Event}
use Rattle.nm_history.specs.Delivery.{BodyAt, OutAfterPair, UndoneAfterWithdraw, WithdrawAfterRecall}
use Rattle.nm_history.specs.Growing.{ArrivesNext}
use Rattle.nm_history.specs.Quiescence.{Ended, history_of}
use Rattle.nm_history.specs.Sends.{sends}
use Rattle.nm_history.proofs.EachLemmas.{each_event}
use Rattle.nm_check.specs.CarriedBreaks.{BreaksBetweenAt, read_of}
use Rattle.nm_check.specs.CarriedClauses.{KeepsCarried, carried_order}
use Rattle.nm_check.specs.Marked.{IsBreak}
use Rattle.nm_check.specs.declared.clauses.CarriedClause.{CarriedClause}
use Rattle.nm_check.specs.declared.clauses.CarriedClause.TheVariants.{Messages, Bodies, Outs, Withdrawals}
use Rattle.nm_check.specs.declared.firsts.Spot.{Spot}
use Rattle.nm_check.proofs.MarkLemmas.{at_each_event}
use Rattle.nm_check.proofs.ReadLemmas.{read_kept}
use Rattle.nm_check.proofs.SentLemmas.{each_next, in_order}

module _ (lines : List Line) (ranks : List Ended) (i j : ℕ) where
  abbrev hi : List Event
  hi = history_of ranks i

  abbrev hj : List Event
  hj = history_of ranks j

  abbrev Keeps : CarriedClause → Type 0
  Keeps c = KeepsCarried i j (commands_of i lines) (commands_of j lines) hi hj c

  -- a rule that breaks somewhere is not kept
  not_kept : (c : CarriedClause) (s : Spot) → BreaksBetweenAt lines ranks i j c s → Keeps c → ⊥
  not_kept Messages s breaks keeps =
      breaks.broken (in_order i j hi (read_of s.rank (s.at + 1) j hj)
      (read_kept (λ before e. ArrivesNext i j hi before e.stamp e.what) hj s.rank (s.at + 1) j
      (each_next i j hi hj keeps)))
  not_kept Bodies s breaks keeps =
      breaks.broken (read_kept
      (λ before e. BodyAt i (commands_of i lines) (sends hi j) (commands_of j lines) before e.what) hj s.rank (s.at + 1)
      j keeps)
  not_kept Outs s breaks keeps =
      breaks.broken (read_kept (λ before e. OutAfterPair i j hj before e.stamp e.what) hi s.rank (s.at + 1) i keeps)
  not_kept Withdrawals s breaks keeps =
      breaks.broken (
        each_event (WithdrawAfterRecall i j hi) (read_of s.rank (s.at + 1) j hj)
            (read_kept (λ before e. WithdrawAfterRecall i j hi e.stamp e.what) hj s.rank (s.at + 1) j
            (at_each_event (WithdrawAfterRecall i j hi) hj keeps.asked)),
        each_event (UndoneAfterWithdraw i j hj) (read_of s.rank (s.at + 1) i hi)
            (read_kept (λ before e. UndoneAfterWithdraw i j hj e.stamp e.what) hi s.rank (s.at + 1) i
            (at_each_event (UndoneAfterWithdraw i j hj) hi keeps.answered)),
      )

  -- the first of the rules, behind those that are kept
  pub first_break : (earlier : List CarriedClause) (c : CarriedClause) (later : List CarriedClause) (spot : Spot) →
      carried_order ≡ earlier ++ c ∷ later → AllByRecursion Keeps earlier → BreaksBetweenAt lines ranks i j c spot →
      IsBreak lines ranks i j (record { clause = c; spot = spot })
  first_break earlier c later spot split kept breaks = record {
    first = record {
      earlier = earlier;
      later = later;
      split = split;
      kept = All-from_recursion Keeps earlier kept;
      broken = not_kept c spot breaks;
    };
    at = breaks;
  }
