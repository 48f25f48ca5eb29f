-- Each line that is told of a trace is one of its lines.
use Rattle.std.proofs.Common.{◌≡◌, ◌==◌, ℕ, ◌+◌, ◌<◌, ◌^◌, Option, Some, None, Bool, List, length, refl, sym, subst}
use Rattle.std.specs.Prelude.{IfSome, MatchOption, if◌then◌else◌, option_map, position, slice_get, take}
use Rattle.std.specs.List.{join_with_byte}
use Rattle.std.proofs.lemmas.List.Quantifiers.{position-Some}
use Rattle.nm_types.specs.declared.scripts.Line.{Line}
use Rattle.nm_types.specs.Commands.{commands_of}
use Rattle.nm_types.specs.Sizes.{Sizes}
use Rattle.nm_history.specs.declared.events.Event.{Event}
use Rattle.nm_history.specs.declared.events.Happened.{Happened}
use Rattle.nm_history.specs.declared.events.Happened.TheVariants.{Out, Ran}
use Rattle.nm_history.specs.declared.plain.Pair.{Pair}
use Rattle.nm_history.specs.Happens.{is_send}
use Rattle.nm_history.specs.Quiescence.{Ended, history_of}
use Rattle.nm_report.specs.declared.records.RunRecord.{RunRecord}
use Rattle.nm_report.specs.declared.pairs.PairCount.{PairCount}
use Rattle.nm_report.specs.Ends.{ends_of}
use Rattle.nm_trace.specs.Notes.{pair_words}
use Rattle.nm_trace.specs.Traces.{IsTraceOf}
use Rattle.nm_check_rank.specs.Takes.{IsTakenAt}
use Rattle.nm_check.specs.declared.firsts.Spot.{Spot}
use Rattle.nm_breaks.specs.Judgements.{RestsOn}
use Rattle.nm_breaks.specs.Lines.{EventStands, IsLineAt, Stands}
use Rattle.nm_breaks.specs.Miscounts.{IsFirstCounted}
use Rattle.nm_breaks.specs.Others.{IsHeldAgainst, IsOtherEvent, IsTakenBy, first_held, held_at, is_mate}
use Rattle.nm_breaks.specs.Others.{pair_shown, sent_held}
use Rattle.nm_breaks.specs.Places.{events_in}
use Rattle.nm_breaks.specs.Stops.{lines_in}
use Rattle.nm_breaks.specs.declared.counts.Miscount.{Miscount}
use Rattle.nm_breaks.specs.declared.judgements.Judgement.{Judgement}
use Rattle.nm_breaks.specs.declared.judgements.Judgement.TheVariants.{Holds, Own, Carried, Left, Standing, Counted}
use Rattle.nm_breaks.specs.declared.judgements.Judgement.TheVariants.{Home, Done}
use Rattle.nm_breaks.specs.declared.places.EventLine.{EventLine}
use Rattle.nm_breaks.proofs.LastLemmas.{cells_stand, end_stands, last_two}
use Rattle.nm_breaks.proofs.LineLemmas.{count_stands}
use Rattle.nm_breaks.proofs.RankLemmas.{breach_in}
use Rattle.nm_breaks.proofs.SpotLemmas.{rest_inside, spot_inside}
use Rattle.nm_breaks.proofs.StandLemmas.{break_stands, spot_stands, told_stands}

module _ (shape : Sizes) (bytes : List ℕ) (run : RunRecord) (trace : IsTraceOf shape bytes run)
    (few : shape.ranks < 2 ^ 64) where
  abbrev ends : List Ended
  ends = ends_of run.ranks

  abbrev Told : Option EventLine → Type 0
  Told other = IfSome other (EventStands bytes run)

  -- the line of an event that was found
  found_told : (y : ℕ) (at : Option ℕ) → ((k : ℕ) → at ≡ Some k → k < length (history_of ends y)) →
      Told (option_map (held_at ends y) at)
  found_told y None inside = tt
  found_told y (Some k) inside = spot_stands shape bytes run trace few (record { rank = y; at = k }) (inside k refl)

  first_told : (y : ℕ) (test : Happened → Bool) → Told (first_held ends y test)
  first_told y test =
      let none : Event = record { stamp = 0; what = Out 0 0 } in
      found_told y (position (λ e. test e.what) (history_of ends y)) (λ k is.
      (position-Some (λ (e : Event). test e.what) (history_of ends y) k none is).0)

  sent_told : (x : ℕ) (pair : Option Pair) → Told (sent_held ends x pair)
  sent_told x None = tt
  sent_told x (Some p) = first_told p.arrival.env.from (is_send x p.arrival.n)

  taken_told : (x n y : ℕ) (other : Option EventLine) → IsTakenBy ends x n y other → Told other
  taken_told x n y other taken =
      subst Told (sym taken.2) (found_told y taken.0 (inside taken.0 taken.1))
    where
      inside : (t : Option ℕ) → IsTakenAt (history_of ends y) x n t → (k : ℕ) → t ≡ Some k →
          k < length (history_of ends y)
      inside t at k is = (subst (IsTakenAt (history_of ends y) x n) is at).inside

  against_told : (lines : List Line) (x : ℕ) (before : List Event) (w : Happened) (y : ℕ) (other : Option EventLine) →
      IsHeldAgainst lines ends x before w y other → Told other
  against_told lines x before (Out to n) y other is = taken_told x n y other is
  against_told lines x before (Ran line answer) y other is =
      subst Told (sym is) (sent_told x (pair_shown (commands_of x lines) before (Ran line answer)))
  against_told lines x before w y other is = subst Told (sym is) (first_told y (is_mate x w))

  other_told : (lines : List Line) (i j : ℕ) (spot : Spot) (other : Option EventLine) →
      IsOtherEvent lines ends i j spot other → Told other
  other_told lines i j spot other is = by_event (slice_get (history_of ends spot.rank) spot.at) is
    where
      by_event : (o : Option Event) → MatchOption o (other ≡ None) (λ e. IsHeldAgainst lines ends spot.rank
          (take spot.at (history_of ends spot.rank)) e.what (if spot.rank == i then j else i) other) → Told other
      by_event None is = subst Told (sym is) tt
      by_event (Some e) is =
          against_told lines spot.rank (take spot.at (history_of ends spot.rank)) e.what
          (if spot.rank == i then j else i) other is

  -- the line of a count, if one stands there
  count_told : (lines : List Line) (line : ℕ) (m : Miscount) → IsFirstCounted lines ends run.pairs m →
      line ≡ events_in ends + m.at + 1 → Stands bytes run (Counted line m)
  count_told lines line m first is =
      subst (λ (o : Option PairCount). IfSome o (λ pair. IsLineAt bytes line (join_with_byte 32 (pair_words pair))))
      (sym first.found) (by_count (slice_get run.pairs m.at) refl)
    where
      by_count : (o : Option PairCount) → slice_get run.pairs m.at ≡ o →
          IfSome o (λ pair. IsLineAt bytes line (join_with_byte 32 (pair_words pair)))
      by_count None here = tt
      by_count (Some pair) here = (events_in ends + m.at, is, count_stands shape bytes run m.at pair trace few here)

  -- the lines of a judgement
  pub all_stand : (lines : List Line) (j : Judgement) → RestsOn (lines_in bytes) lines run j → Stands bytes run j
  all_stand lines Holds rests = tt
  all_stand lines (Own clause rank first event) rests =
      break_stands shape bytes run trace few rank first.place event
      (breach_in run.shape lines ends rank first rests.0) rests.1
  all_stand lines (Carried clause from to event other against) rests =
      let spot = rests.0.0 in (
        told_stands shape bytes run trace few spot event
            (spot_inside lines ends from to clause spot rests.0.1) rests.0.2,
        other_told lines from to event.spot other rests.1,
      )
  all_stand lines (Left rule event) rests =
      told_stands shape bytes run trace few rests.0 event (rest_inside rule ends rests.0 rests.1) rests.2
  all_stand lines (Standing rank waits next) rests = tt
  all_stand lines (Counted line miscount) rests = count_told lines line miscount rests.0 rests.1
  all_stand lines (Home line cells) rests =
      subst (λ (n : ℕ). Stands bytes run (Home n cells)) (sym rests.0)
      (cells_stand bytes run.cells run.done (last_two shape bytes run trace))
  all_stand lines (Done line) rests =
      subst (λ (n : ℕ). Stands bytes run (Done n)) (sym rests)
      (end_stands bytes run.cells run.done (last_two shape bytes run trace))
