-- Each state that is reached begins a trace: what is still due can be told.
use Rattle.std.proofs.Common.{◌≡◌, ℕ, zero, suc, ◌+◌, ◌-◌, ◌<◌, ◌^◌, inl, inr, false, List, []}
use Rattle.std.proofs.Common.{◌∷◌, ◌++◌, length, map, None, refl, sym, ap, ◌∙◌, arith, eqb}
use Rattle.std.proofs.Common.{append_assoc, codes, decimal, flat_map}
use Rattle.std.specs.List.{AllByRecursion}
use Rattle.std.proofs.Math.ListN.{replicate}
use Rattle.std.proofs.lemmas.Bool.{eqb-true}
use Rattle.std.proofs.lemmas.List.{append-nil, length-map, length-replicate}
use Rattle.nm_types.specs.declared.answers.Account.{Account}
use Rattle.nm_types.specs.declared.answers.Answer.{Answer}
use Rattle.nm_types.specs.declared.answers.Answer.TheVariants as answer
use Rattle.nm_types.specs.Sizes.{Sizes}
use Rattle.nm_types.specs.Text.{text_line}
use Rattle.nm_history.specs.declared.events.Event.{Event}
use Rattle.nm_history.specs.declared.events.Happened.{Happened}
use Rattle.nm_history.specs.declared.events.Happened.TheVariants as what
use Rattle.nm_history.specs.Quiescence.{Ended}
use Rattle.nm_report.specs.declared.pairs.PairCount.{PairCount}
use Rattle.nm_report.specs.declared.records.RunRecord.{RunRecord}
use Rattle.nm_report.specs.Answers.{answer_words}
use Rattle.nm_report.specs.Ends.{account_of, ends_of}
use Rattle.nm_report.specs.Events.{event_line, event_words, pair_line}
use Rattle.nm_report.specs.Report.{cells_line, end_line, ran_line}
use Rattle.nm_trace.specs.declared.notes.Note.{Note}
use Rattle.nm_trace.specs.Machine.{Trace, Stage, Noting, Counting, Telling, Closing, Over, ended}
use Rattle.nm_trace.specs.Notes.{BareIn, NoteIn, ToldIn, note_line, spoken_words, told_words}
use Rattle.nm_trace.specs.Texts.{InOrder, Right, answers_from, closing_text, events_from, state_text}
use Rattle.nm_trace.specs.Texts.{telling_text, trace_of}
use Rattle.nm_trace.specs.Traces.{AnswerIn, Begins, EndIn, EventIn, IsTraceOf, PairIn, WhatIn}
use Rattle.nm_trace.proofs.ReportLemmas.{report_is}
use Rattle.nm_trace.proofs.SoundLemmas.{closed, more_ranks, none_left, raised, true_or_false}
use Rattle.nm_trace.proofs.TextLemmas.{event_more, rank_more}
use Rattle.nm_trace.proofs.WithinLemmas.{Within, end_in}
use Rattle.nm_types.proofs.ListLemmas.{all_push}

-- the answer with as many bytes as are due, all of them zero
abbrev filled : Answer → ℕ → Answer
filled (answer.Got from tag body) len = answer.Got from tag (replicate len 0)
filled a len = a

abbrev filled_what : Happened → ℕ → Happened
filled_what (what.Ran line a) len = what.Ran line (filled a len)
filled_what w len = w

abbrev filled_event : Note → Event
filled_event note =
    record { stamp = note.event.stamp; what = filled_what note.event.what note.len }

filled_words : (a : Answer) (len : ℕ) → answer_words (filled a len) ≡ spoken_words a len
filled_words answer.Started len = refl
filled_words answer.Busy len = refl
filled_words answer.Null len = refl
filled_words answer.No len = refl
filled_words answer.Nothing len = refl
filled_words answer.Sent len = refl
filled_words (answer.Got from tag body) len =
    ap (λ (n : ℕ). codes "got" ∷ decimal from ∷ decimal tag ∷ decimal n ∷ []) (length-replicate {A = ℕ} len 0)
filled_words (answer.Cut from tag n) len = refl
filled_words answer.Cancelled len = refl
filled_words (answer.Seen seen) len = refl
filled_words answer.Done len = refl
filled_words answer.Late len = refl
filled_words answer.Asked len = refl

told_filled : (w : Happened) (len : ℕ) → event_words (filled_what w len) ≡ told_words w len
told_filled (what.Send to n tag ctx size how line) len = refl
told_filled (what.Post post line) len = refl
told_filled (what.Arrive a) len = refl
told_filled (what.Whole from n) len = refl
told_filled (what.Out to n) len = refl
told_filled (what.Cancel number done) len = refl
told_filled (what.Recall to n) len = refl
told_filled (what.Withdraw from n done) len = refl
told_filled (what.Undone to n done) len = refl
told_filled (what.Claim from n line) len = refl
told_filled (what.Match number from n cap line) len = refl
told_filled (what.Ran line a) len = ap (λ ws. codes "ran" ∷ decimal line ∷ ws) (filled_words a len)

zeros_in : (len : ℕ) → AllByRecursion (λ b. b < 2 ^ 8) (replicate len 0)
zeros_in zero = tt
zeros_in (suc len) = (omega arith, zeros_in len)

answer_filled : (a : Answer) (len : ℕ) → BareIn a len → AnswerIn (filled a len)
answer_filled answer.Started len h = tt
answer_filled answer.Busy len h = tt
answer_filled answer.Null len h = tt
answer_filled answer.No len h = tt
answer_filled answer.Nothing len h = tt
answer_filled answer.Sent len h = tt
answer_filled (answer.Got from tag body) len h =
    (h.0, h.1, rw (length-replicate {A = ℕ} len 0) h.2, zeros_in len)
answer_filled (answer.Cut from tag n) len h = (h.0, h.1, h.2)
answer_filled answer.Cancelled len h = tt
answer_filled (answer.Seen seen) len h = (h.0, h.1, h.2)
answer_filled answer.Done len h = tt
answer_filled answer.Late len h = tt
answer_filled answer.Asked len h = tt

what_filled : (w : Happened) (len : ℕ) → ToldIn w len → WhatIn (filled_what w len)
what_filled (what.Send to n tag ctx size how line) len h = h.0
what_filled (what.Post post line) len h = h.0
what_filled (what.Arrive a) len h = h.0
what_filled (what.Whole from n) len h = h.0
what_filled (what.Out to n) len h = h.0
what_filled (what.Cancel number done) len h = h.0
what_filled (what.Recall to n) len h = h.0
what_filled (what.Withdraw from n done) len h = h.0
what_filled (what.Undone to n done) len h = h.0
what_filled (what.Claim from n line) len h = h.0
what_filled (what.Match number from n cap line) len h = h.0
what_filled (what.Ran line a) len h = (h.0, answer_filled a len h.1)

event_filled : (note : Note) → NoteIn note → EventIn (filled_event note)
event_filled note h = (h.stamp, what_filled note.event.what note.len h.what)

line_filled : (note : Note) (rank : ℕ) → note.rank ≡ rank → event_line rank (filled_event note) ≡ note_line note
line_filled note rank same =
    rw (← same) (ap (λ ws. text_line (codes "@" ∷ decimal note.rank ∷ decimal note.event.stamp ∷ ws))
    (told_filled note.event.what note.len))

ends_are : (ends : List Ended) → ends_of (map account_of ends) ≡ ends
ends_are [] = refl
ends_are (e ∷ ends) = ap (λ es. e ∷ es) (ends_are ends)

-- what begins with more, begins with less
fewer : (shape : Sizes) (front more : List ℕ) → Begins shape (front ++ more) → Begins shape front
fewer shape front more b = (
  b.0,
  more ++ b.1,
  record {
    spelled = sym (append_assoc front more b.1) ∙ b.2.spelled;
    shaped = b.2.shaped;
    whole = b.2.whole;
    ends = b.2.ends;
    pairs = b.2.pairs;
    cells = b.2.cells;
  },
)

over_is : (t : Trace) (shape : Sizes) → trace_of (record {
  shape = shape;
  ranks = map account_of t.ends;
  pairs = t.pairs;
  cells = t.cells;
  done = t.done;
}) ≡ t
over_is t shape =
    ap (λ (es : List Ended). record { ends = es; pairs = t.pairs; cells = t.cells; done = t.done })
    (ends_are t.ends)

begins_as : (shape : Sizes) (a b : List ℕ) → a ≡ b → Begins shape b → Begins shape a
begins_as shape a b same h = rw same h

-- a trace that is whole
pub over_traces : (shape : Sizes) (t : Trace) → length t.ends ≡ shape.ranks → Within (Over t)
    → (run : RunRecord) × IsTraceOf shape (state_text (Over t)) run
over_traces shape t count within =
    let run : RunRecord = record {
      shape = shape;
      ranks = map account_of t.ends;
      pairs = t.pairs;
      cells = t.cells;
      done = t.done;
    } in (
      run,
      record {
        spelled = ap (λ (x : Trace). state_text (Over x)) (sym (over_is t shape)) ∙ report_is run;
        shaped = refl;
        whole = length-map t.ends account_of ∙ count;
        ends = rw (ends_are t.ends) within.1;
        pairs = within.0;
        cells = within.2;
      },
    )

trace_begins : (shape : Sizes) (bytes : List ℕ) (run : RunRecord) → IsTraceOf shape bytes run → Begins shape bytes
trace_begins shape bytes run is = (
  run,
  [],
  record {
    spelled = append-nil bytes ∙ is.spelled;
    shaped = is.shaped;
    whole = is.whole;
    ends = is.ends;
    pairs = is.pairs;
    cells = is.cells;
  },
)

over_begins : (shape : Sizes) (t : Trace) → length t.ends ≡ shape.ranks → Within (Over t)
    → Begins shape (state_text (Over t))
over_begins shape t count within =
    let made = over_traces shape t count within in
    trace_begins shape (state_text (Over t)) made.0 made.1

module _ (shape : Sizes) (pairs : List PairCount) (pairs_in : AllByRecursion PairIn pairs) where
  -- behind the last rank
  ranks_begin : (ends : List Ended) → length ends ≡ shape.ranks → AllByRecursion EndIn ends
      → Begins shape (telling_text pairs ends [] [])
  ranks_begin ends count ends_in =
      let none : Account = record { total = 0; home = 0 } in
      let t : Trace = record { ends = ends; pairs = pairs; cells = none; done = false } in
      let more = cells_line none ++ end_line false in
      let same = closed (events_from 0 ends) (flat_map pair_line pairs) (answers_from 0 ends) more in
      let whole = sym same ∙ sym (append_assoc (closing_text pairs ends) (cells_line none) (end_line false)) in
      fewer shape (telling_text pairs ends [] []) more
      (begins_as shape (telling_text pairs ends [] [] ++ more) (state_text (Over t)) whole
      (over_begins shape t count (pairs_in, ends_in, (omega arith, omega arith))))

  -- a rank, where what is behind it begins a trace
  rank_begins : (ends : List Ended) (events : List Event) (due : List Note) → length ends < shape.ranks
      → AllByRecursion EndIn ends → AllByRecursion EventIn events → InOrder (length ends) shape.ranks due
      → ((e : Ended) (left : List Note) → EndIn e → InOrder (length ends + 1) shape.ranks left
      → Begins shape (telling_text pairs (ends ++ e ∷ []) [] left))
      → Begins shape (telling_text pairs ends events due)
  rank_begins ends events [] some ends_in events_in order next =
      fewer shape (telling_text pairs ends events []) []
      (rw (← rank_more pairs ends events [] None)
      (next (ended events None) [] (end_in events None events_in tt) tt))
  rank_begins ends events (note ∷ due) some ends_in events_in order next =
      elim (true_or_false (eqb note.rank (length ends))) [
        | inl e ↦
            let same = eqb-true note.rank (length ends) e in
            let event = filled_event note in
            let told = ran_line (length ends) event.what in
            let line = line_filled note (length ends) same in
            fewer shape (telling_text pairs ends events (note ∷ due)) told
            (rw (← event_more pairs ends events due note event told line refl)
            (rank_begins ends (events ++ event ∷ []) due some ends_in
            (all_push EventIn events event events_in (event_filled note order.2)) (rw same at order.3) next))
        | inr e ↦
            fewer shape (telling_text pairs ends events (note ∷ due)) []
            (rw (← rank_more pairs ends events (note ∷ due) None)
            (next (ended events None) (note ∷ due) (end_in events None events_in tt)
            (raised (length ends) shape.ranks (note ∷ due) e order)))
      ]

  -- all ranks that are left
  telling_begins : (left : ℕ) (ends : List Ended) (events : List Event) (due : List Note)
      → length ends + left ≡ shape.ranks → (left ≡ 0 → events ≡ []) → AllByRecursion EndIn ends
      → AllByRecursion EventIn events → InOrder (length ends) shape.ranks due
      → Begins shape (telling_text pairs ends events due)
  telling_begins zero ends events due count fresh ends_in events_in order =
      rw (fresh refl, none_left (length ends) shape.ranks due (omega (arith, count)) order)
      (ranks_begin ends (omega (arith, count)) ends_in)
  telling_begins (suc left) ends events due count fresh ends_in events_in order =
      rank_begins ends events due (omega (arith, count)) ends_in events_in order (λ e more e_in rest.
      let longer = more_ranks ends e in
      telling_begins left (ends ++ e ∷ []) [] more (omega (arith, count, longer)) (λ _. refl)
      (all_push EndIn ends e ends_in e_in) tt (rw longer rest))

noted : (a c : List ℕ) → a ++ c ≡ [] ++ [] ++ a ++ c ++ [] ++ []
noted a c = simp append-nil

-- what was taken so far begins a trace
pub state_begins : (shape : Sizes) (s : Stage) → Right shape.ranks s → Within s → Begins shape (state_text s)
state_begins shape (Noting notes) right within =
    let same = sym (append-nil (flat_map note_line notes)) ∙ noted (flat_map note_line notes) [] in
    begins_as shape (flat_map note_line notes) (telling_text [] [] [] notes) same
    (telling_begins shape [] tt shape.ranks [] [] notes (omega arith) (λ _. refl) tt tt right)
state_begins shape (Counting notes pairs) right within =
    begins_as shape (flat_map note_line notes ++ flat_map pair_line pairs) (telling_text pairs [] [] notes)
    (noted (flat_map note_line notes) (flat_map pair_line pairs))
    (telling_begins shape pairs within shape.ranks [] [] notes (omega arith) (λ _. refl) tt tt right)
state_begins shape (Telling pairs part) right within =
    telling_begins shape pairs within.0 (shape.ranks - length part.ends) part.ends part.events part.due
    (omega (arith, right.0)) (λ e. right.1 (omega (arith, right.0, e))) within.1 within.2 right.2
state_begins shape (Closing pairs ends cells) right within =
    let t : Trace = record { ends = ends; pairs = pairs; cells = cells; done = false } in
    fewer shape (closing_text pairs ends ++ cells_line cells) (end_line false)
    (over_begins shape t right (within.0, within.1, within.2))
state_begins shape (Over t) right within = over_begins shape t right within
