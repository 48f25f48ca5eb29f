-- A rank's account is what its process ended at.
use Rattle.std.proofs.Common.{◌≡◌, ◌∙◌, ℕ, Option, List, [], ◌∷◌, ap, sym, subst}
use Rattle.std.specs.Prelude.{option_map}
use Rattle.std.specs.List.{slice_get}
use Rattle.nm_types.specs.Commands.{Numbered}
use Rattle.nm_history.specs.declared.events.Event.{Event}
use Rattle.nm_history.specs.Quiescence.{Ended}
use Rattle.nm_history.specs.Totals.{answers_given}
use Rattle.nm_world.specs.Players.{WasTold}
use Rattle.nm_world.proofs.records.account.Goals as goal

abbrev ended : ℕ → Option ℕ → List Event → List Ended
ended at waits events = record { at = at; waits = waits; events = events } ∷ []

pub returns-clause-ended : goal.returns-clause-ended
returns-clause-ended g c commands last given counts =
    ap (λ (at : ℕ). ended at c.next_line-waits.result (g.H.Recorder.events c.into_parts-history.result.0))
    c.at-at.ensures
    ∙ ap (λ (events : List Event). ended c.args.process.at c.next_line-waits.result events)
    c.into_parts-history.ensures.events
    ∙ ap (λ (waits : Option ℕ). ended c.args.process.at waits c.args.process.rank.events)
    (subst (λ (k : ℕ). c.next_line-waits.result ≡ option_map (λ (n : Numbered). n.line) (slice_get commands k)) counts
    (c.next_line-waits.ensures.line commands last given))

pub returns-clause-stopped : goal.returns-clause-stopped
returns-clause-stopped g c counts told = record {
  at = counts ∙ sym c.at-at.ensures;
  told = subst (λ (events : List Event). WasTold (g.S.Source.shows c.args.source.now) (answers_given events))
      (sym c.into_parts-history.ensures.events) told;
  waits = c.next_line-waits.ensures.line;
  next = c.next_line-waits.ensures.some;
}
