-- The lines of a trace are taken, one by one, and tell it.
use Rattle.std.proofs.Common.{◌≡◌, ℕ, ◌+◌, ◌-◌, ◌≤◌, ◌<◌, ◌^◌, inl, inr, Bool, true, false}
use Rattle.std.proofs.Common.{List, [], ◌∷◌, ◌++◌, length, map, Option, Some, None, refl, sym, ap, ◌∙◌, arith}
use Rattle.std.proofs.Common.{append_assoc, flat_map}
use Rattle.std.specs.List.{AllByRecursion}
use Rattle.std.proofs.lemmas.Bool.{eq-eqb, le-leb, lt-ltb, ne_eqb}
use Rattle.std.proofs.lemmas.List.{append-nil}
use Rattle.nm_types.specs.declared.answers.Account.{Account}
use Rattle.nm_types.specs.declared.answers.Answer.{Answer}
use Rattle.nm_types.specs.declared.answers.Answer.TheVariants as answer
use Rattle.nm_history.specs.declared.events.Event.{Event}
use Rattle.nm_history.specs.declared.events.Happened.{Happened}
use Rattle.nm_history.specs.declared.events.Happened.TheVariants as what
use Rattle.nm_history.specs.Quiescence.{Ended}
use Rattle.nm_report.specs.declared.pairs.PairCount.{PairCount}
use Rattle.nm_report.specs.Summary.{got_len}
use Rattle.nm_script.specs.Lines.{words_of}
use Rattle.nm_trace.specs.declared.notes.Note.{Note}
use Rattle.nm_trace.specs.Answers.{given, given_what, is_due}
use Rattle.nm_trace.specs.Events.{note_of, pair_of}
use Rattle.nm_trace.specs.Machine.{Trace, Stage, Noting, Counting, Telling, Closing, Over, start}
use Rattle.nm_trace.specs.Machine.{counting, ended, fed, feed, is_next, last_rank, next_note}
use Rattle.nm_trace.specs.Machine.{noting, telling, waits_of}
use Rattle.nm_trace.specs.Notes.{BareIn, HasBytes, NoteIn, ToldIn, bare, bare_what, bytes_of_what}
use Rattle.nm_trace.specs.Notes.{cells_words, end_word, event_text, note_words, noted, pair_words, waits_words}
use Rattle.nm_trace.specs.Outcome.{AnswerPlace, tells, tells_next}
use Rattle.nm_trace.specs.Texts.{InOrder}
use Rattle.nm_trace.specs.Traces.{AnswerIn, CellsIn, EndIn, EventIn, PairIn, WaitsIn, WhatIn}
use Rattle.nm_trace.proofs.EndLemmas.{cells_again, end_again, pair_again, waits_again}
use Rattle.nm_trace.proofs.GivenLemmas.{own_line_gives}
use Rattle.nm_trace.proofs.NoteLemmas.{note_again}
use Rattle.nm_trace.proofs.SolidLemmas.{got_bytes}
use Rattle.nm_trace.proofs.SoundLemmas.{more_ranks, true_or_false}
use Rattle.nm_trace.proofs.StageLemmas.{last_more, left, settled_due, settled_none, some_left}
use Rattle.nm_trace.proofs.TextLemmas.{bare_has}
use Rattle.nm_trace.proofs.ToldLemmas.{First, Print, answer_lines, answers_print, cells_split, ends_print}
use Rattle.nm_trace.proofs.ToldLemmas.{first_answers, first_waits, note_split, notes_print, pair_split, pairs_print}
use Rattle.nm_trace.proofs.ToldLemmas.{print_both, ran_lines, text_of, waits_lines, waits_split}
use Rattle.nm_trace.proofs.WithinLemmas.{Within}

-- a line that is taken, and a line that another state takes alike
pub fed_step : (ranks : ℕ) (s t : Stage) (line : List ℕ) (lines : List (List ℕ)) → feed ranks s line ≡ Some t
    → fed ranks s (line ∷ lines) ≡ fed ranks t lines
fed_step ranks s t line lines h = rw h refl

fed_alike : (ranks : ℕ) (s t : Stage) (line : List ℕ) (lines : List (List ℕ))
    → feed ranks s line ≡ feed ranks t line → fed ranks s (line ∷ lines) ≡ fed ranks t (line ∷ lines)
fed_alike ranks s t line lines h = rw h refl

fed_behind : (ranks : ℕ) (s t : Stage) (front : List (List ℕ)) (line : List ℕ) (rest : List (List ℕ))
    → ((l : List ℕ) → feed ranks s l ≡ feed ranks t l)
    → fed ranks s (front ++ line ∷ rest) ≡ fed ranks t (front ++ line ∷ rest)
fed_behind ranks s t [] line rest same = fed_alike ranks s t line rest (same line)
fed_behind ranks s t (l ∷ front) line rest same =
    fed_alike ranks s t l (front ++ line ∷ rest) (same l)

-- events by their notes
bare_in : (a : Answer) → AnswerIn a → BareIn (bare a) (got_len a)
bare_in answer.Started h = refl
bare_in answer.Busy h = refl
bare_in answer.Null h = refl
bare_in answer.No h = refl
bare_in answer.Nothing h = refl
bare_in answer.Sent h = refl
bare_in (answer.Got from tag body) h = (h.0, h.1, h.2, refl)
bare_in (answer.Cut from tag n) h = (h.0, h.1, h.2, refl)
bare_in answer.Cancelled h = refl
bare_in (answer.Seen seen) h = (h.0, h.1, h.2, refl)
bare_in answer.Done h = refl
bare_in answer.Late h = refl
bare_in answer.Asked h = refl

has_bytes : (a : Answer) → AnswerIn a → HasBytes a
has_bytes answer.Started h = tt
has_bytes answer.Busy h = tt
has_bytes answer.Null h = tt
has_bytes answer.No h = tt
has_bytes answer.Nothing h = tt
has_bytes answer.Sent h = tt
has_bytes (answer.Got from tag body) h = got_bytes body h.3
has_bytes (answer.Cut from tag n) h = tt
has_bytes answer.Cancelled h = tt
has_bytes (answer.Seen seen) h = tt
has_bytes answer.Done h = tt
has_bytes answer.Late h = tt
has_bytes answer.Asked h = tt

bare_told : (w : Happened) → WhatIn w → ToldIn (bare_what w) (bytes_of_what w)
bare_told (what.Send to n tag ctx size how line) h = (h, refl)
bare_told (what.Post post line) h = (h, refl)
bare_told (what.Arrive a) h = (h, refl)
bare_told (what.Whole from n) h = (h, refl)
bare_told (what.Out to n) h = (h, refl)
bare_told (what.Cancel number done) h = (h, refl)
bare_told (what.Recall to n) h = (h, refl)
bare_told (what.Withdraw from n done) h = (h, refl)
bare_told (what.Undone to n done) h = (h, refl)
bare_told (what.Claim from n line) h = (h, refl)
bare_told (what.Match number from n cap line) h = (h, refl)
bare_told (what.Ran line a) h = (h.0, bare_in a h.1)

note_in : (rank : ℕ) (e : Event) → rank < 2 ^ 8 → EventIn e → NoteIn (noted rank e)
note_in rank e small h = record { rank = small; stamp = h.0; what = bare_told e.what h.1 }

due_bare : (w : Happened) → is_due (bare_what w) ≡ is_due w
due_bare (what.Send to n tag ctx size how line) = refl
due_bare (what.Post post line) = refl
due_bare (what.Arrive a) = refl
due_bare (what.Whole from n) = refl
due_bare (what.Out to n) = refl
due_bare (what.Cancel number done) = refl
due_bare (what.Recall to n) = refl
due_bare (what.Withdraw from n done) = refl
due_bare (what.Undone to n done) = refl
due_bare (what.Claim from n line) = refl
due_bare (what.Match number from n cap line) = refl
due_bare (what.Ran line a) = bare_has a

bare_plain : (w : Happened) → is_due w ≡ false → bare_what w ≡ w
bare_plain (what.Send to n tag ctx size how line) plain = refl
bare_plain (what.Post post line) plain = refl
bare_plain (what.Arrive a) plain = refl
bare_plain (what.Whole from n) plain = refl
bare_plain (what.Out to n) plain = refl
bare_plain (what.Cancel number done) plain = refl
bare_plain (what.Recall to n) plain = refl
bare_plain (what.Withdraw from n done) plain = refl
bare_plain (what.Undone to n done) plain = refl
bare_plain (what.Claim from n line) plain = refl
bare_plain (what.Match number from n cap line) plain = refl
bare_plain (what.Ran line answer.Started) plain = refl
bare_plain (what.Ran line answer.Busy) plain = refl
bare_plain (what.Ran line answer.Null) plain = refl
bare_plain (what.Ran line answer.No) plain = refl
bare_plain (what.Ran line answer.Nothing) plain = refl
bare_plain (what.Ran line answer.Sent) plain = refl
bare_plain (what.Ran line (answer.Got from tag body)) plain = cc
bare_plain (what.Ran line (answer.Cut from tag n)) plain = refl
bare_plain (what.Ran line answer.Cancelled) plain = refl
bare_plain (what.Ran line (answer.Seen seen)) plain = refl
bare_plain (what.Ran line answer.Done) plain = refl
bare_plain (what.Ran line answer.Late) plain = refl
bare_plain (what.Ran line answer.Asked) plain = refl

given_again : (rank : ℕ) (w : Happened) → is_due w ≡ true → WhatIn w
    → given_what rank (bare_what w) (bytes_of_what w) (event_text rank w) ≡ Some w
given_again rank (what.Ran line a) due h = own_line_gives rank line a due (has_bytes a h.1)
given_again rank (what.Send to n tag ctx size how line) due h = cc
given_again rank (what.Post post line) due h = cc
given_again rank (what.Arrive a) due h = cc
given_again rank (what.Whole from n) due h = cc
given_again rank (what.Out to n) due h = cc
given_again rank (what.Cancel number done) due h = cc
given_again rank (what.Recall to n) due h = cc
given_again rank (what.Withdraw from n done) due h = cc
given_again rank (what.Undone to n done) due h = cc
given_again rank (what.Claim from n line) due h = cc
given_again rank (what.Match number from n cap line) due h = cc

event_again : (rank : ℕ) (e : Event) → is_due e.what ≡ true → EventIn e
    → given (noted rank e) (event_text rank e.what) ≡ Some e
unfolding given
event_again rank e due h = rw (given_again rank e.what due h.1) refl

-- the notes of the ranks from this one on
abbrev pub notes_from : ℕ → List Ended → List Note
notes_from rank [] = []
notes_from rank (e ∷ ends) = map (noted rank) e.events ++ notes_from (rank + 1) ends

lower : (low high ranks : ℕ) (notes : List Note) → low ≤ high → InOrder high ranks notes → InOrder low ranks notes
lower low high ranks [] less h = tt
lower low high ranks (n ∷ notes) less h = (omega (arith, less, h.0), h.1, h.2, h.3)

rank_order : (low rank ranks : ℕ) (events : List Event) (later : List Note) → low ≤ rank → rank < ranks
    → rank < 2 ^ 8 → AllByRecursion EventIn events → InOrder rank ranks later
    → InOrder low ranks (map (noted rank) events ++ later)
rank_order low rank ranks [] later less some small h order = lower low rank ranks later less order
rank_order low rank ranks (e ∷ events) later less some small h order = (
  less,
  some,
  note_in rank e small h.0,
  rank_order rank rank ranks events later (omega arith) some small h.1 order,
)

notes_order : (rank ranks : ℕ) (ends : List Ended) → rank + length ends ≤ ranks → ranks ≤ 2 ^ 8
    → AllByRecursion EndIn ends → InOrder rank ranks (notes_from rank ends)
notes_order rank ranks [] count few h = tt
notes_order rank ranks (e ∷ ends) count few h =
    rank_order rank rank ranks e.events (notes_from (rank + 1) ends) (omega arith) (omega (arith, count))
    (omega (arith, count, few)) h.0.events
    (lower rank (rank + 1) ranks (notes_from (rank + 1) ends) (omega arith)
    (notes_order (rank + 1) ranks ends (omega (arith, count)) few h.1))

-- the events' lines
note_taken_next : (ranks : ℕ) (notes : List Note) (n : Note) → NoteIn n → n.rank < ranks
    → last_rank 0 notes ≤ n.rank
    → feed ranks (Noting notes) (text_of (note_words n)) ≡ Some (Noting (notes ++ n ∷ []))
unfolding feed noting next_note
note_taken_next ranks notes n h few least =
    rw (note_split n h) (rw (note_again n h) (rw (lt-ltb n.rank ranks few, le-leb (last_rank 0 notes) n.rank least)
    refl))

abbrev pub note_texts : List Note → List (List ℕ)
note_texts notes = map (λ n. text_of (note_words n)) notes

take_notes : (ranks : ℕ) (notes more : List Note) (rest : List (List ℕ)) → InOrder (last_rank 0 notes) ranks more
    → fed ranks (Noting notes) (note_texts more ++ rest) ≡ fed ranks (Noting (notes ++ more)) rest
take_notes ranks notes [] rest h =
    ap (λ (ns : List Note). fed ranks (Noting ns) rest) (sym (append-nil notes))
take_notes ranks notes (n ∷ more) rest h =
    let longer = take_notes ranks (notes ++ n ∷ []) more rest (rw (last_more 0 notes n) h.3) in
    fed_step ranks (Noting notes) (Noting (notes ++ n ∷ [])) (text_of (note_words n)) (note_texts more ++ rest)
    (note_taken_next ranks notes n h.2 h.1 h.0)
    ∙ longer ∙ ap (λ (ns : List Note). fed ranks (Noting ns) rest) (append_assoc notes (n ∷ []) more)

-- behind the events
count_alike : (ranks : ℕ) (notes : List Note) (line : List ℕ) → note_of (words_of line) ≡ None
    → feed ranks (Noting notes) line ≡ feed ranks (Counting notes []) line
unfolding feed noting next_note
count_alike ranks notes line none = rw none refl

pair_taken_next : (ranks : ℕ) (notes : List Note) (pairs : List PairCount) (p : PairCount) → PairIn p
    → feed ranks (Counting notes pairs) (text_of (pair_words p)) ≡ Some (Counting notes (pairs ++ p ∷ []))
unfolding feed counting
pair_taken_next ranks notes pairs p h = rw (pair_split p h) (rw (pair_again p h) refl)

abbrev pub pair_texts : List PairCount → List (List ℕ)
pair_texts pairs = map (λ p. text_of (pair_words p)) pairs

take_pairs : (ranks : ℕ) (notes : List Note) (pairs more : List PairCount) (rest : List (List ℕ))
    → AllByRecursion PairIn more
    → fed ranks (Counting notes pairs) (pair_texts more ++ rest) ≡ fed ranks (Counting notes (pairs ++ more)) rest
take_pairs ranks notes pairs [] rest h =
    ap (λ (ps : List PairCount). fed ranks (Counting notes ps) rest) (sym (append-nil pairs))
take_pairs ranks notes pairs (p ∷ more) rest h =
    fed_step ranks (Counting notes pairs) (Counting notes (pairs ++ p ∷ [])) (text_of (pair_words p))
    (pair_texts more ++ rest) (pair_taken_next ranks notes pairs p h.0)
    ∙ take_pairs ranks notes (pairs ++ p ∷ []) more rest h.1
    ∙ ap (λ (ps : List PairCount). fed ranks (Counting notes ps) rest) (append_assoc pairs (p ∷ []) more)

pair_no_note : (p : PairCount) → PairIn p → note_of (words_of (text_of (pair_words p))) ≡ None
unfolding note_of
pair_no_note p h = rw (pair_split p h) refl

-- the first line behind the events
start_pairs : (ranks : ℕ) (notes : List Note) (pairs : List PairCount) (line : List ℕ) (rest : List (List ℕ))
    → AllByRecursion PairIn pairs → note_of (words_of line) ≡ None
    → fed ranks (Noting notes) (pair_texts pairs ++ line ∷ rest)
    ≡ fed ranks (Counting notes []) (pair_texts pairs ++ line ∷ rest)
start_pairs ranks notes [] line rest h none =
    fed_alike ranks (Noting notes) (Counting notes []) line rest (count_alike ranks notes line none)
start_pairs ranks notes (p ∷ pairs) line rest h none =
    fed_alike ranks (Noting notes) (Counting notes []) (text_of (pair_words p)) (pair_texts pairs ++ line ∷ rest)
    (count_alike ranks notes (text_of (pair_words p)) (pair_no_note p h.0))

-- the first line behind the counts of packets
tell_alike : (ranks : ℕ) (notes : List Note) (pairs : List PairCount) (line : List ℕ)
    → pair_of (words_of line) ≡ None → feed ranks (Counting notes pairs) line
    ≡ feed ranks (Telling pairs (record { ends = []; events = []; due = notes })) line
unfolding feed counting
tell_alike ranks notes pairs line none =
    let all : ranks - 0 ≡ ranks = omega arith in
    rw (none, all) refl

module _ (p : AnswerPlace) (small : length p.ends < 2 ^ 8) where
  -- an event without a line
  plain_alike : (events : List Event) (e : Event) (due : List Note) (line : List ℕ) → is_due e.what ≡ false
      → feed p.ranks (tells p events (noted (length p.ends) e ∷ due)) line
      ≡ feed p.ranks (tells p (events ++ e ∷ []) due) line
  unfolding feed telling
  plain_alike events e due line plain =
      let here = eq-eqb (length p.ends) (length p.ends) refl in
      rw (some_left p) (rw here (rw (due_bare e.what) (rw plain (rw (bare_plain e.what plain) refl))))

  -- an event with one
  due_next : (events : List Event) (e : Event) (due : List Note) → is_due e.what ≡ true → EventIn e
      → feed p.ranks (tells p events (noted (length p.ends) e ∷ due)) (event_text (length p.ends) e.what)
      ≡ Some (tells p (events ++ e ∷ []) due)
  unfolding feed telling
  due_next events e due waits h =
      let here = eq-eqb (length p.ends) (length p.ends) refl in
      let has : is_due (bare_what e.what) ≡ true = due_bare e.what ∙ waits in
      rw (some_left p, settled_due (length p.ends) events (noted (length p.ends) e) due has, here, has)
      (rw (event_again (length p.ends) e waits h) refl)

  -- the rank waits, or not
  waits_next : (events : List Event) (due : List Note) (at : ℕ) → is_next (length p.ends) due ≡ false
      → at < 2 ^ 64
      → feed p.ranks (tells p events due) (text_of (waits_words (length p.ends) at))
      ≡ Some (tells_next p (ended events (Some at)) due)
  unfolding feed telling
  waits_next events due at other large =
      rw (some_left p, settled_none (length p.ends) events due other, other)
      (rw (waits_split (length p.ends) at small large) (rw (waits_again (length p.ends) at small large) refl))

  ends_alike : (events : List Event) (due : List Note) (line : List ℕ) → is_next (length p.ends) due ≡ false
      → waits_of (length p.ends) (words_of line) ≡ None
      → feed p.ranks (tells p events due) line ≡ feed p.ranks (tells_next p (ended events None) due) line
  unfolding feed telling
  ends_alike events due line other none =
      let fewer : p.ranks - length (p.ends ++ ended events None ∷ []) ≡ left p = omega
      (arith, more_ranks p.ends (ended events None)) in
      rw (some_left p, settled_none (length p.ends) events due other, other, fewer) (rw none refl)

  -- the answers of the rank
  take_events : (done events : List Event) (later : List Note) (line : List ℕ) (rest : List (List ℕ))
      → AllByRecursion EventIn events
      → fed p.ranks (tells p done (map (noted (length p.ends)) events ++ later))
      (flat_map (ran_lines (length p.ends)) events ++ line ∷ rest)
      ≡ fed p.ranks (tells p (done ++ events) later) (line ∷ rest)
  take_events done [] later line rest h =
      ap (λ (es : List Event). fed p.ranks (tells p es later) (line ∷ rest)) (sym (append-nil done))
  take_events done (e ∷ events) later line rest h =
      let rank = length p.ends in
      let due = map (noted rank) events ++ later in
      let more = take_events (done ++ e ∷ []) events later line rest h.1 in
      let whole = ap (λ (es : List Event). fed p.ranks (tells p es later) (line ∷ rest))
      (append_assoc done (e ∷ []) events) in
      elim (true_or_false (is_due e.what)) [
        | inl waits ↦
            rw waits (fed_step p.ranks (tells p done (noted rank e ∷ due)) (tells p (done ++ e ∷ []) due)
            (event_text rank e.what) (flat_map (ran_lines rank) events ++ line ∷ rest)
            (due_next done e due waits h.0) ∙ more ∙ whole)
        | inr plain ↦
            rw plain (fed_behind p.ranks (tells p done (noted rank e ∷ due)) (tells p (done ++ e ∷ []) due)
            (flat_map (ran_lines rank) events) line rest (λ l. plain_alike done e due l plain) ∙ more ∙ whole)
      ]

  -- where it waits
  take_waits : (events : List Event) (due : List Note) (waits : Option ℕ) (line : List ℕ)
      (rest : List (List ℕ)) → is_next (length p.ends) due ≡ false → WaitsIn waits
      → waits_of (length p.ends) (words_of line) ≡ None
      → fed p.ranks (tells p events due) (waits_lines (length p.ends) waits ++ line ∷ rest)
      ≡ fed p.ranks (tells_next p (ended events waits) due) (line ∷ rest)
  take_waits events due (Some at) line rest other h none =
      fed_step p.ranks (tells p events due) (tells_next p (ended events (Some at)) due)
      (text_of (waits_words (length p.ends) at)) (line ∷ rest) (waits_next events due at other h)
  take_waits events due None line rest other h none =
      fed_alike p.ranks (tells p events due) (tells_next p (ended events None) due) line rest
      (ends_alike events due line other none)

-- no note of a later rank is of this one
other_next : (rank later : ℕ) (events : List Event) (rest : List Note) → rank < later
    → is_next rank rest ≡ false → is_next rank (map (noted later) events ++ rest) ≡ false
other_next rank later [] rest less h = h
other_next rank later (e ∷ events) rest less h = ne_eqb later rank (λ e. omega (arith, e, less))

pub not_next : (rank later : ℕ) (ends : List Ended) → rank < later → is_next rank (notes_from later ends) ≡ false
not_next rank later [] less = refl
not_next rank later (e ∷ ends) less =
    other_next rank later e.events (notes_from (later + 1) ends) less
    (not_next rank (later + 1) ends (omega (arith, less)))

same_end : (e : Ended) → EndIn e → ended e.events e.waits ≡ e
same_end e h =
    ap (λ (n : ℕ). record { at = n; waits = e.waits; events = e.events }) (sym h.at)

-- the answers of a rank, and where it waits
rank_told : (ranks : ℕ) (pairs : List PairCount) (ends : List Ended) (e : Ended) (later : List Note)
    (lines : List (List ℕ)) → length ends < ranks → length ends < 2 ^ 8 → EndIn e
    → is_next (length ends) later ≡ false → First (length ends + 1) lines
    → fed ranks (Telling pairs (record { ends = ends; events = []; due = map (noted (length ends)) e.events ++ later }))
    (flat_map (ran_lines (length ends)) e.events ++ (waits_lines (length ends) e.waits ++ lines))
    ≡ fed ranks (Telling pairs (record { ends = ends ++ e ∷ []; events = []; due = later })) lines
rank_told ranks pairs ends e later lines some small h other f =
    let p : AnswerPlace = record { ranks = ranks; pairs = pairs; ends = ends; fewer = some } in
    let rank = length ends in
    let ran = flat_map (ran_lines rank) e.events in
    let waits = waits_lines rank e.waits in
    let w = first_waits rank e.waits lines small f in
    let none = f.other.waits rank (omega arith) in
    let due = map (noted rank) e.events ++ later in
    ap (λ (x : List (List ℕ)). fed ranks (tells p [] due) (ran ++ x)) w.are
    ∙ take_events p small [] e.events later w.line w.rest h.events
    ∙ ap (λ (x : List (List ℕ)). fed ranks (tells p e.events later) x) (sym w.are)
    ∙ ap (λ (x : List (List ℕ)). fed ranks (tells p e.events later) (waits ++ x)) f.are
    ∙ take_waits p small e.events later e.waits f.line f.rest other h.waits none
    ∙ ap (λ (x : List (List ℕ)). fed ranks (tells_next p (ended e.events e.waits) later) x) (sym f.are)
    ∙ ap (λ (x : Ended). fed ranks (tells_next p x later) lines) (same_end e h)

-- the answers of all ranks
answers_told : (more : List Ended) (ranks : ℕ) (pairs : List PairCount) (ends : List Ended) (c : Account)
    (rest : List (List ℕ)) → length ends + length more ≡ ranks → ranks ≤ 2 ^ 8 → AllByRecursion EndIn more
    → CellsIn c
    → fed ranks (Telling pairs (record { ends = ends; events = []; due = notes_from (length ends) more }))
    (answer_lines (length ends) more ++ text_of (cells_words c) ∷ rest)
    ≡ fed ranks (Telling pairs (record { ends = ends ++ more; events = []; due = [] }))
    (text_of (cells_words c) ∷ rest)
answers_told [] ranks pairs ends c rest count few h within =
    ap (λ (es : List Ended). fed ranks (Telling pairs (record { ends = es; events = []; due = [] }))
    (text_of (cells_words c) ∷ rest)) (sym (append-nil ends))
answers_told (e ∷ more) ranks pairs ends c rest count few h within =
    let rank = length ends in
    let later = notes_from (rank + 1) more in
    let lines = answer_lines (rank + 1) more ++ text_of (cells_words c) ∷ rest in
    let f = first_answers (rank + 1) more c rest (omega (arith, count, few)) within in
    let one = rank_told ranks pairs ends e later lines (omega (arith, count)) (omega (arith, count, few)) h.0
    (not_next rank (rank + 1) more (omega arith)) f in
    let longer = more_ranks ends e in
    let others = answers_told more ranks pairs (ends ++ e ∷ []) c rest (omega (arith, longer, count)) few h.1
    within in
    let moved = rw longer at others in
    rw (append_assoc, append_assoc) (one ∙ moved
    ∙ ap (λ (es : List Ended). fed ranks (Telling pairs (record { ends = es; events = []; due = [] }))
    (text_of (cells_words c) ∷ rest)) (append_assoc ends (e ∷ []) more))

cells_next : (ranks : ℕ) (pairs : List PairCount) (ends : List Ended) (c : Account) → length ends ≡ ranks
    → CellsIn c
    → feed ranks (Telling pairs (record { ends = ends; events = []; due = [] })) (text_of (cells_words c))
    ≡ Some (Closing pairs ends c)
unfolding feed telling
cells_next ranks pairs ends c all h =
    let none : ranks - length ends ≡ 0 = omega (arith, all) in
    rw none (rw (cells_split c h) (rw (cells_again c h) refl))

end_next : (ranks : ℕ) (pairs : List PairCount) (ends : List Ended) (c : Account) (d : Bool)
    → feed ranks (Closing pairs ends c) (end_word d)
    ≡ Some (Over (record { ends = ends; pairs = pairs; cells = c; done = d }))
unfolding feed
end_next ranks pairs ends c d = rw (end_again d) refl

-- the lines of a trace
abbrev pub last_lines : Trace → List (List ℕ)
last_lines t = text_of (cells_words t.cells) ∷ end_word t.done ∷ []

abbrev pub trace_lines : Trace → List (List ℕ)
trace_lines t =
    note_texts (notes_from 0 t.ends) ++ (pair_texts t.pairs ++ (answer_lines 0 t.ends ++ last_lines t))

-- they tell it
pub trace_told : (ranks : ℕ) (t : Trace) → length t.ends ≡ ranks → ranks ≤ 2 ^ 8 → Within (Over t)
    → fed ranks start (trace_lines t) ≡ Some (Over t)
trace_told ranks t count few within =
    let notes = notes_from 0 t.ends in
    let c = t.cells in
    let lines = answer_lines 0 t.ends ++ last_lines t in
    let order = notes_order 0 ranks t.ends (omega (arith, count)) few within.1 in
    let f = first_answers 0 t.ends c (end_word t.done ∷ []) (omega (arith, count, few)) within.2 in
    let telling = Telling t.pairs (record { ends = []; events = []; due = notes }) in
    take_notes ranks [] notes (pair_texts t.pairs ++ lines) order
    ∙ ap (λ (x : List (List ℕ)). fed ranks (Noting notes) (pair_texts t.pairs ++ x)) f.are
    ∙ start_pairs ranks notes t.pairs f.line f.rest within.0 f.other.note
    ∙ take_pairs ranks notes [] t.pairs (f.line ∷ f.rest) within.0
    ∙ fed_alike ranks (Counting notes t.pairs) telling f.line f.rest
    (tell_alike ranks notes t.pairs f.line f.other.pair)
    ∙ ap (λ (x : List (List ℕ)). fed ranks telling x) (sym f.are)
    ∙ answers_told t.ends ranks t.pairs [] c (end_word t.done ∷ []) (omega (arith, count)) few within.1
    within.2
    ∙ fed_step ranks (Telling t.pairs (record { ends = t.ends; events = []; due = [] }))
    (Closing t.pairs t.ends c) (text_of (cells_words c)) (end_word t.done ∷ [])
    (cells_next ranks t.pairs t.ends c count within.2)
    ∙ fed_step ranks (Closing t.pairs t.ends c) (Over t) (end_word t.done) []
    (end_next ranks t.pairs t.ends c t.done)

-- and each is printable
pub trace_prints : (ranks : ℕ) (t : Trace) → length t.ends ≡ ranks → ranks ≤ 2 ^ 8 → Within (Over t)
    → Print (trace_lines t)
trace_prints ranks t count few within =
    let notes = notes_from 0 t.ends in
    let order = notes_order 0 ranks t.ends (omega (arith, count)) few within.1 in
    print_both (note_texts notes) (pair_texts t.pairs ++ (answer_lines 0 t.ends ++ last_lines t))
    (notes_print 0 ranks notes order)
    (print_both (pair_texts t.pairs) (answer_lines 0 t.ends ++ last_lines t) (pairs_print t.pairs within.0)
    (print_both (answer_lines 0 t.ends) (last_lines t)
    (answers_print 0 t.ends (omega (arith, count, few)) within.1) (ends_print t.cells t.done within.2)))
