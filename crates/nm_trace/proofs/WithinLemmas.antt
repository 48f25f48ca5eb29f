-- The numbers of each state that is reached are within their types.
use Rattle.std.proofs.Common.{◌≡◌, ℕ, zero, suc, ◌-◌, ◌<◌, ◌^◌, inl, inr, false, not, ◌&&◌}
use Rattle.std.proofs.Common.{List, [], ◌∷◌, ◌++◌, length, Option, Some, None, refl, eqb}
use Rattle.std.specs.List.{AllByRecursion}
use Rattle.std.proofs.lemmas.Bool.{and_parts, not-true}
use Rattle.hex.specs.Hex.{IsBytes}
use Rattle.nm_types.specs.declared.answers.Answer.{Answer}
use Rattle.nm_types.specs.declared.answers.Answer.TheVariants as answer
use Rattle.nm_history.specs.declared.events.Event.{Event}
use Rattle.nm_history.specs.declared.events.Happened.{Happened}
use Rattle.nm_history.specs.declared.events.Happened.TheVariants as what
use Rattle.nm_history.specs.Quiescence.{Ended}
use Rattle.nm_report.specs.declared.pairs.PairCount.{PairCount}
use Rattle.nm_report.specs.Summary.{got_len}
use Rattle.nm_script.specs.Lines.{words_of}
use Rattle.nm_script.proofs.WordsStepLemmas.{chosen}
use Rattle.nm_trace.specs.declared.notes.Note.{Note}
use Rattle.nm_trace.specs.Answers.{is_due, given, given_what}
use Rattle.nm_trace.specs.Events.{pair_of}
use Rattle.nm_trace.specs.Machine.{Stage, Noting, Counting, Telling, Closing, Over}
use Rattle.nm_trace.specs.Machine.{ended, settled, is_next, with_given, telling, waits_of, next_note}
use Rattle.nm_trace.specs.Machine.{cells_of, counting, end_of, feed, fed, last_rank, noting}
use Rattle.nm_trace.specs.Notes.{BareIn, HasBytes, NoteIn, ToldIn, bare}
use Rattle.nm_trace.specs.Steps.{◌>>=◌}
use Rattle.nm_trace.specs.Texts.{InOrder, Right}
use Rattle.nm_trace.specs.Traces.{AnswerIn, CellsIn, EndIn, EventIn, PairIn, WaitsIn, WhatIn}
use Rattle.nm_trace.proofs.EndLemmas.{cells_taken, pair_taken, waits_taken}
use Rattle.nm_trace.proofs.FeedLemmas.{feed_next}
use Rattle.nm_script.proofs.StepLemmas.{guard_some}
use Rattle.nm_trace.proofs.FieldLemmas.{bind_some}
use Rattle.nm_trace.proofs.GivenLemmas.{line_taken}
use Rattle.nm_trace.proofs.SoundLemmas.{more_ranks, or_cases, raised, settle_same}
use Rattle.nm_trace.proofs.SoundLemmas.{true_or_false}
use Rattle.nm_types.proofs.ListLemmas.{all_push}

-- the numbers of what was told so far are within their types
abbrev pub Within : Stage → Type 0
Within (Noting notes) = Unit {0}
Within (Counting notes pairs) = AllByRecursion PairIn pairs
Within (Telling pairs part) =
    AllByRecursion PairIn pairs × AllByRecursion EndIn part.ends × AllByRecursion EventIn part.events
Within (Closing pairs ends cells) =
    AllByRecursion PairIn pairs × AllByRecursion EndIn ends × CellsIn cells
Within (Over t) = AllByRecursion PairIn t.pairs × AllByRecursion EndIn t.ends × CellsIn t.cells

-- what has no line behind the events was told whole
pub plain_in : (w : Happened) (len : ℕ) → ToldIn w len → is_due w ≡ false → WhatIn w
plain_in (what.Send to n tag ctx size how line) len h plain = h.0
plain_in (what.Post post line) len h plain = h.0
plain_in (what.Arrive a) len h plain = h.0
plain_in (what.Whole from n) len h plain = h.0
plain_in (what.Out to n) len h plain = h.0
plain_in (what.Cancel number done) len h plain = h.0
plain_in (what.Recall to n) len h plain = h.0
plain_in (what.Withdraw from n done) len h plain = h.0
plain_in (what.Undone to n done) len h plain = h.0
plain_in (what.Claim from n line) len h plain = h.0
plain_in (what.Match number from n cap line) len h plain = h.0
plain_in (what.Ran line answer.Started) len h plain = (h.0, tt)
plain_in (what.Ran line answer.Busy) len h plain = cc
plain_in (what.Ran line answer.Null) len h plain = cc
plain_in (what.Ran line answer.No) len h plain = cc
plain_in (what.Ran line answer.Nothing) len h plain = cc
plain_in (what.Ran line answer.Sent) len h plain = cc
plain_in (what.Ran line (answer.Got from tag body)) len h plain = cc
plain_in (what.Ran line (answer.Cut from tag n)) len h plain = cc
plain_in (what.Ran line answer.Cancelled) len h plain = cc
plain_in (what.Ran line (answer.Seen seen)) len h plain = cc
plain_in (what.Ran line answer.Done) len h plain = cc
plain_in (what.Ran line answer.Late) len h plain = cc
plain_in (what.Ran line answer.Asked) len h plain = cc

bytes_all : (bytes : List ℕ) → IsBytes bytes → AllByRecursion (λ b. b < 2 ^ 8) bytes
bytes_all [] h = tt
bytes_all (b ∷ bytes) h = (h 0, bytes_all bytes (λ i. h (suc i)))

answer_in : (a : Answer) → BareIn (bare a) (got_len a) → HasBytes a → AnswerIn a
answer_in answer.Started h bytes = tt
answer_in answer.Busy h bytes = tt
answer_in answer.Null h bytes = tt
answer_in answer.No h bytes = tt
answer_in answer.Nothing h bytes = tt
answer_in answer.Sent h bytes = tt
answer_in (answer.Got from tag body) h bytes = (h.0, h.1, h.2, bytes_all body bytes)
answer_in (answer.Cut from tag n) h bytes = (h.0, h.1, h.2)
answer_in answer.Cancelled h bytes = tt
answer_in (answer.Seen seen) h bytes = (h.0, h.1, h.2)
answer_in answer.Done h bytes = tt
answer_in answer.Late h bytes = tt
answer_in answer.Asked h bytes = tt

-- an answer that a line gives
what_given : (rank : ℕ) (w : Happened) (len : ℕ) (text : List ℕ) (x : Happened) → ToldIn w len
    → given_what rank w len text ≡ Some x → WhatIn x
unfolding given_what
what_given rank (what.Ran line a) len text x h is =
    let g = line_taken rank line a len text x h.1 is in
    let within : BareIn (bare g.whole) (got_len g.whole) = rw (g.bare_is, g.long) h.1 in
    rw g.is (h.0, answer_in g.whole within g.bytes)
what_given rank (what.Send to n tag ctx size how line) len text x h is = cc
what_given rank (what.Post post line) len text x h is = cc
what_given rank (what.Arrive a) len text x h is = cc
what_given rank (what.Whole from n) len text x h is = cc
what_given rank (what.Out to n) len text x h is = cc
what_given rank (what.Cancel number done) len text x h is = cc
what_given rank (what.Recall to n) len text x h is = cc
what_given rank (what.Withdraw from n done) len text x h is = cc
what_given rank (what.Undone to n done) len text x h is = cc
what_given rank (what.Claim from n line) len text x h is = cc
what_given rank (what.Match number from n cap line) len text x h is = cc

event_in : (note : Note) (line : List ℕ) (event : Event) → NoteIn note → given note line ≡ Some event
    → EventIn event
unfolding given
event_in note line event h is =
    let b = bind_some (given_what note.rank note.event.what note.len line) _ event is in
    let same : record { stamp = note.event.stamp; what = b.0 } ≡ event = cc (b.2) in
    rw (← same) (h.stamp, what_given note.rank note.event.what note.len line b.0 h.what b.1)

settled_in : (rank low ranks : ℕ) (events : List Event) (due : List Note) → AllByRecursion EventIn events
    → InOrder low ranks due → AllByRecursion EventIn (settled rank events due).0
settled_in rank low ranks events [] all h = all
settled_in rank low ranks events (note ∷ due) all h =
    elim (true_or_false (eqb note.rank rank && not (is_due note.event.what))) [
      | inl e ↦
          let p = and_parts (eqb note.rank rank) (not (is_due note.event.what)) e in
          let plain = not-true (is_due note.event.what) p.1 in
          let here : EventIn note.event = (h.2.stamp, plain_in note.event.what note.len h.2.what plain) in
          rw e (settled_in rank note.rank ranks (events ++ note.event ∷ []) due
          (all_push EventIn events note.event all here) h.3)
      | inr e ↦ rw e all
    ]

pub end_in : (events : List Event) (waits : Option ℕ) → AllByRecursion EventIn events → WaitsIn waits
    → EndIn (ended events waits)
end_in events waits all h = record { events = all; waits = h; at = refl }

given_within : (low ranks : ℕ) (pairs : List PairCount) (ends : List Ended) (events : List Event)
    (due : List Note) (line : List ℕ) (s : Stage) → InOrder low ranks due → AllByRecursion PairIn pairs
    → AllByRecursion EndIn ends → AllByRecursion EventIn events
    → with_given pairs ends events due line ≡ Some s → Within s
given_within low ranks pairs ends events [] line s order p e all h = cc
given_within low ranks pairs ends events (note ∷ due) line s order p e all h =
    let g = guard_some (is_due note.event.what) _ s h in
    let b = bind_some (given note line) _ s g.1 in
    let is : Telling pairs (record { ends = ends; events = events ++ b.0 ∷ []; due = due }) ≡ s = cc (b.2) in
    rw (← is) (p, e, all_push EventIn events b.0 all (event_in note line b.0 order.2 b.1))

telling_within : (left ranks : ℕ) (pairs : List PairCount) (ends : List Ended) (events : List Event)
    (due : List Note) (line : List ℕ) (s : Stage) → InOrder (length ends) ranks due
    → AllByRecursion PairIn pairs → AllByRecursion EndIn ends → AllByRecursion EventIn events
    → telling left pairs ends events due line ≡ Some s → Within s
unfolding telling
telling_within zero ranks pairs ends events due line s order p e all h =
    let b = bind_some (cells_of (words_of line)) _ s h in
    let c = cells_taken (words_of line) b.0 b.1 in
    let is : Closing pairs ends b.0 ≡ s = cc (b.2) in
    rw (← is) (p, e, c.1)
telling_within (suc left) ranks pairs ends events due line s order p e all h =
    let t = settled (length ends) events due in
    let same = settle_same ranks pairs ends events due order in
    let here = settled_in (length ends) (length ends) ranks events due all order in
    elim (chosen (is_next (length ends) t.1) _ _ (Some s) h) [
      | inl n ↦ given_within (length ends) ranks pairs ends t.0 t.1 line s same.1 p e here n.1
      | inr n ↦
          elim (or_cases (waits_of (length ends) (words_of line) >>= λ at.
          Some (Telling pairs (record { ends = ends ++ ended t.0 (Some at) ∷ []; events = []; due = t.1 })))
          (telling left pairs (ends ++ ended t.0 None ∷ []) [] t.1 line) s n.1) [
            | inl w ↦
                let b = bind_some (waits_of (length ends) (words_of line)) _ s w in
                let words = waits_taken (length ends) b.0 (words_of line) b.1 in
                let is : Telling pairs (record {
                  ends = ends ++ ended t.0 (Some b.0) ∷ [];
                  events = [];
                  due = t.1;
                }) ≡ s = cc (b.2) in
                rw (← is) (p, all_push EndIn ends (ended t.0 (Some b.0)) e (end_in t.0 (Some b.0) here words.1), tt)
            | inr w ↦
                let next = more_ranks ends (ended t.0 None) in
                telling_within left ranks pairs (ends ++ ended t.0 None ∷ []) [] t.1 line s
                (rw next (raised (length ends) ranks t.1 n.0 same.1)) p
                (all_push EndIn ends (ended t.0 None) e (end_in t.0 None here tt)) tt w
          ]
    ]

counting_within : (ranks : ℕ) (notes : List Note) (pairs : List PairCount) (line : List ℕ) (s : Stage)
    → InOrder 0 ranks notes → AllByRecursion PairIn pairs → counting ranks notes pairs line ≡ Some s → Within s
unfolding counting
counting_within ranks notes pairs line s order p h =
    elim (or_cases (pair_of (words_of line) >>= λ pair. Some (Counting notes (pairs ++ pair ∷ [])))
    (telling ranks pairs [] [] notes line) s h) [
      | inl w ↦
          let b = bind_some (pair_of (words_of line)) _ s w in
          let taken = pair_taken (words_of line) b.0 b.1 in
          let is : Counting notes (pairs ++ b.0 ∷ []) ≡ s = cc (b.2) in
          rw (← is) (all_push PairIn pairs b.0 p taken.1)
      | inr w ↦ telling_within ranks ranks pairs [] [] notes line s order p tt tt w
    ]

feed_within : (ranks : ℕ) (s : Stage) (line : List ℕ) (t : Stage) → Right ranks s → Within s
    → feed ranks s line ≡ Some t → Within t
unfolding feed noting
feed_within ranks (Noting notes) line t right within h =
    elim (or_cases (next_note ranks (last_rank 0 notes) (words_of line) >>= λ note.
    Some (Noting (notes ++ note ∷ []))) (counting ranks notes [] line) t h) [
      | inl w ↦
          let b = bind_some (next_note ranks (last_rank 0 notes) (words_of line)) _ t w in
          let is : Noting (notes ++ b.0 ∷ []) ≡ t = cc (b.2) in
          rw (← is) tt
      | inr w ↦ counting_within ranks notes [] line t right tt w
    ]
feed_within ranks (Counting notes pairs) line t right within h =
    counting_within ranks notes pairs line t right within h
feed_within ranks (Telling pairs part) line t right within h =
    telling_within (ranks - length part.ends) ranks pairs part.ends part.events part.due line t right.2
    within.0 within.1 within.2 h
feed_within ranks (Closing pairs ends cells) line t right within h =
    let b = bind_some (end_of line) _ t h in
    let is : Over (record { ends = ends; pairs = pairs; cells = cells; done = b.0 }) ≡ t = cc (b.2) in
    rw (← is) (within.0, within.1, within.2)
feed_within ranks (Over trace) line t right within h = cc

-- the numbers of what lines tell are within their types
pub fed_within : (ranks : ℕ) (s : Stage) (lines : List (List ℕ)) (t : Stage) → Right ranks s → Within s
    → fed ranks s lines ≡ Some t → Within t
fed_within ranks s [] t right within h =
    let is : s ≡ t = cc in
    rw (← is) within
fed_within ranks s (line ∷ lines) t right within h =
    let b = bind_some (feed ranks s line) _ t h in
    let n = feed_next ranks s line b.0 right b.1 in
    fed_within ranks b.0 lines t n.right (feed_within ranks s line b.0 right within b.1) b.2
