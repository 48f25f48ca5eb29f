-- An event stands in the line that is told.
use Rattle.std.proofs.Common.{◌≡◌, ℕ, ◌+◌, ◌<◌, ◌^◌, Some, None, Option, List, [], length, get_or, refl, sym, ◌∙◌, ap, subst}
use Rattle.std.proofs.Common.{arith}
use Rattle.std.specs.Prelude.{IfSome, IsSomeAnd, slice_get, take}
use Rattle.std.specs.Option.{option_map_or}
use Rattle.std.proofs.lemmas.Option.{slice_get-get_or}
use Rattle.nm_types.specs.Sizes.{Sizes}
use Rattle.nm_history.specs.declared.events.Event.{Event}
use Rattle.nm_history.specs.declared.events.Happened.TheVariants.{Out}
use Rattle.nm_history.specs.Quiescence.{Ended, history_of}
use Rattle.nm_report.specs.declared.records.RunRecord.{RunRecord}
use Rattle.nm_report.specs.Ends.{ends_of}
use Rattle.nm_script.specs.Lines.{lines_of}
use Rattle.nm_trace.specs.Traces.{IsTraceOf}
use Rattle.nm_check_rank.specs.declared.breaks.Break.{Break}
use Rattle.nm_check_rank.specs.declared.breaks.Break.TheVariants.{At, Behind}
use Rattle.nm_check.specs.declared.firsts.Spot.{Spot}
use Rattle.nm_breaks.specs.Lines.{EventStands, event_text}
use Rattle.nm_breaks.specs.Places.{events_in, line_of, told_at, told_of}
use Rattle.nm_breaks.specs.declared.places.EventLine.{EventLine}
use Rattle.nm_breaks.proofs.LineLemmas.{event_stands}

module _ (shape : Sizes) (bytes : List ℕ) (run : RunRecord) (trace : IsTraceOf shape bytes run)
    (few : shape.ranks < 2 ^ 64) where
  abbrev ends : List Ended
  ends = ends_of run.ranks

  -- an event of a rank's history
  there : (spot : Spot) (a : Ended) → slice_get ends spot.rank ≡ Some a → spot.at < length a.events →
      EventStands bytes run (told_at ends spot)
  there spot a here inside =
      let none : Event = record { stamp = 0; what = Out 0 0 } in
      let e : Event = get_or a.events spot.at none in
      let is : slice_get a.events spot.at ≡ Some e = slice_get-get_or a.events spot.at none inside in
      let same : slice_get (history_of ends spot.rank) spot.at ≡ Some e =
      ap (λ (o : Option Ended). slice_get (option_map_or (λ rank. rank.events) o []) spot.at) here ∙ is in
      subst (λ (o : Option Event). IsSomeAnd o (λ e. (before : ℕ) × (line_of ends spot.rank spot.at ≡ before + 1)
      × (slice_get (lines_of bytes) before ≡ Some (event_text spot.rank e)))) (sym same) (
        events_in (take spot.rank ends) + spot.at,
        refl,
        event_stands shape bytes run spot.rank spot.at a e trace few
            here is,
      )

  pub spot_stands : (spot : Spot) → spot.at < length (history_of ends spot.rank) →
      EventStands bytes run (told_at ends spot)
  spot_stands spot inside = by_rank (slice_get ends spot.rank) refl inside
    where
      by_rank : (o : Option Ended) → slice_get ends spot.rank ≡ o →
          spot.at < length (option_map_or (λ rank. rank.events) o []) → EventStands bytes run (told_at ends spot)
      by_rank None here inside = absurd (omega (arith, inside))
      by_rank (Some a) here inside = there spot a here inside

  -- .. by its place
  pub told_stands : (spot : Spot) (event : EventLine) → spot.at < length (history_of ends spot.rank) →
      event ≡ told_at ends spot → EventStands bytes run event
  told_stands spot event inside is =
      subst (λ (e : EventLine). EventStands bytes run e) (sym is) (spot_stands spot inside)

  -- .. at which a rank breaks a rule, if it breaks at one
  pub break_stands : (rank : ℕ) (b : Break) (event : Option EventLine) →
      ((k : ℕ) → b ≡ At k → k < length (history_of ends rank)) → event ≡ told_of ends rank b →
      IfSome event (EventStands bytes run)
  break_stands rank b event inside is =
      subst (λ (o : Option EventLine). IfSome o (EventStands bytes run)) (sym is) (by_break b inside)
    where
      by_break : (b : Break) → ((k : ℕ) → b ≡ At k → k < length (history_of ends rank)) →
          IfSome (told_of ends rank b) (EventStands bytes run)
      by_break (At k) inside = spot_stands (record { rank = rank; at = k }) (inside k refl)
      by_break Behind inside = tt
