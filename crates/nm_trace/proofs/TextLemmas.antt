-- What a state stands for as it grows.
use Rattle.std.proofs.Common.{◌≡◌, ℕ, suc, ◌+◌, true, false, List, [], ◌∷◌, ◌++◌, length}
use Rattle.std.proofs.Common.{Option, Some, refl, sym, ap, ◌∙◌, arith, codes, decimal}
use Rattle.std.proofs.Common.{append_assoc, flat_map}
use Rattle.std.specs.List.{join_with_byte}
use Rattle.std.proofs.lemmas.List.{append-nil}
use Rattle.nm_types.specs.declared.answers.Answer.{Answer}
use Rattle.nm_types.specs.declared.answers.Answer.TheVariants as answer
use Rattle.nm_types.specs.Text.{text_line}
use Rattle.nm_history.specs.declared.events.Event.{Event}
use Rattle.nm_history.specs.declared.events.Happened.{Happened}
use Rattle.nm_history.specs.declared.events.Happened.TheVariants as what
use Rattle.nm_history.specs.Quiescence.{Ended}
use Rattle.nm_report.specs.declared.pairs.PairCount.{PairCount}
use Rattle.nm_report.specs.Answers.{answer_words, body_word}
use Rattle.nm_report.specs.Events.{event_line, event_words, pair_line}
use Rattle.nm_report.specs.Report.{ran_line, answer_line, waits_line}
use Rattle.nm_report.specs.Summary.{got_len}
use Rattle.nm_trace.specs.declared.notes.Note.{Note}
use Rattle.nm_trace.specs.Answers.{is_due, has_line, given, given_what}
use Rattle.nm_trace.specs.Machine.{ended}
use Rattle.nm_trace.specs.Notes.{bare, spoken_words, told_words, note_line, answer_text}
use Rattle.nm_trace.specs.Notes.{ToldIn}
use Rattle.nm_trace.specs.Texts.{events_from, answers_from, telling_text}
use Rattle.nm_trace.proofs.FieldLemmas.{bind_some}
use Rattle.nm_trace.proofs.GivenLemmas.{line_taken}

pub one_more : {A : Type 0} (f : A → List ℕ) (xs : List A) (x : A)
    → flat_map f (xs ++ x ∷ []) ≡ flat_map f xs ++ f x
one_more f [] x = append-nil (f x)
one_more f (y ∷ xs) x = ap (λ t. f y ++ t) (one_more f xs x) ∙ sym (append_assoc (f y) (flat_map f xs) (f x))

-- one event more of the last rank
grown : (a b c d e g n t : List ℕ) → a ++ (b ++ n) ++ c ++ d ++ e ++ (g ++ t)
    ≡ (a ++ b ++ (n ++ c) ++ d ++ e ++ g) ++ t
grown a b c d e g n t = simp append_assoc

module _ (pairs : List PairCount) (ends : List Ended) (events : List Event) (due : List Note) where
  -- a note becomes an event, whose answer's line is told
  pub event_more : (note : Note) (e : Event) (t : List ℕ) → event_line (length ends) e ≡ note_line note
      → ran_line (length ends) e.what ≡ t → telling_text pairs ends (events ++ e ∷ []) due
      ≡ telling_text pairs ends events (note ∷ due) ++ t
  event_more note e t line told =
      rw (
        one_more (event_line (length ends)) events e,
        one_more (λ event. ran_line (length ends) event.what) events e,
        line,
        told,
      )
      (grown (events_from 0 ends) (flat_map (event_line (length ends)) events) (flat_map note_line due)
      (flat_map pair_line pairs) (answers_from 0 ends)
      (flat_map (λ event. ran_line (length ends) event.what) events) (note_line note) t)

plus_none : (k : ℕ) → k ≡ k + 0
plus_none k = omega arith

none_plus : (k : ℕ) → 0 + k ≡ k
none_plus k = omega arith

plus_suc : (k : ℕ) (ends : List Ended) → (k + 1) + length ends ≡ k + suc (length ends)
plus_suc k ends = omega arith

events_more : (k : ℕ) (ends : List Ended) (e : Ended) → events_from k (ends ++ e ∷ [])
    ≡ events_from k ends ++ flat_map (event_line (k + length ends)) e.events
events_more k [] e = append-nil (flat_map (event_line k) e.events)
    ∙ ap (λ n. flat_map (event_line n) e.events) (plus_none k)
events_more k (x ∷ ends) e =
    let rest = events_more (k + 1) ends e in
    let moved : events_from (k + 1) (ends ++ e ∷ []) ≡ events_from (k + 1) ends ++ flat_map
    (event_line (k + suc (length ends))) e.events = rest ∙ ap (λ n. events_from (k + 1) ends ++ flat_map
    (event_line n) e.events) (plus_suc k ends) in
    ap (λ t. flat_map (event_line k) x.events ++ t) moved
    ∙ sym (append_assoc (flat_map (event_line k) x.events) (events_from (k + 1) ends)
    (flat_map (event_line (k + suc (length ends))) e.events))

-- what a rank tells behind the events
abbrev pub rank_tells : ℕ → Ended → List ℕ
rank_tells rank e = flat_map (λ event. ran_line rank event.what) e.events ++ waits_line rank e.waits

answers_more : (k : ℕ) (ends : List Ended) (e : Ended) → answers_from k (ends ++ e ∷ [])
    ≡ answers_from k ends ++ rank_tells (k + length ends) e
answers_more k [] e = append-nil (rank_tells k e) ∙ ap (λ n. rank_tells n e) (plus_none k)
answers_more k (x ∷ ends) e =
    let rest = answers_more (k + 1) ends e in
    let moved : answers_from (k + 1) (ends ++ e ∷ []) ≡ answers_from (k + 1) ends ++ rank_tells
    (k + suc (length ends)) e = rest ∙ ap (λ n. answers_from (k + 1) ends ++ rank_tells n e)
    (plus_suc k ends) in
    ap (λ t. rank_tells k x ++ t) moved
    ∙ sym (append_assoc (rank_tells k x) (answers_from (k + 1) ends) (rank_tells (k + suc (length ends)) e))

-- one rank more
ranked : (a b c d e g t : List ℕ) → (a ++ b) ++ [] ++ c ++ d ++ (e ++ (g ++ t)) ++ []
    ≡ (a ++ b ++ c ++ d ++ e ++ g) ++ t
ranked a b c d e g t = simp (append_assoc, append-nil)

-- a rank is whole, and its line tells where it waits, if it does
pub rank_more : (pairs : List PairCount) (ends : List Ended) (events : List Event) (due : List Note)
    (waits : Option ℕ) → telling_text pairs (ends ++ ended events waits ∷ []) [] due
    ≡ telling_text pairs ends events due ++ waits_line (length ends) waits
rank_more pairs ends events due waits =
    rw (
      events_more 0 ends (ended events waits),
      answers_more 0 ends (ended events waits),
      none_plus (length ends),
    )
    (ranked (events_from 0 ends) (flat_map (event_line (length ends)) events) (flat_map note_line due)
    (flat_map pair_line pairs) (answers_from 0 ends)
    (flat_map (λ event. ran_line (length ends) event.what) events) (waits_line (length ends) waits))

-- the words of an answer need its number of bytes alone
bare_words : (a : Answer) → spoken_words (bare a) (got_len a) ≡ answer_words a
bare_words answer.Started = refl
bare_words answer.Busy = refl
bare_words answer.Null = refl
bare_words answer.No = refl
bare_words answer.Nothing = refl
bare_words answer.Sent = refl
bare_words (answer.Got from tag body) = refl
bare_words (answer.Cut from tag n) = refl
bare_words answer.Cancelled = refl
bare_words (answer.Seen seen) = refl
bare_words answer.Done = refl
bare_words answer.Late = refl
bare_words answer.Asked = refl

-- what has no line behind the events: its words, whatever the number of bytes
plain_words : (w : Happened) (len rank : ℕ) → is_due w ≡ false → (event_words w ≡ told_words w len)
    × (ran_line rank w ≡ [])
plain_words (what.Send to n tag ctx size how line) len rank none = (refl, refl)
plain_words (what.Post post line) len rank none = (refl, refl)
plain_words (what.Arrive a) len rank none = (refl, refl)
plain_words (what.Whole from n) len rank none = (refl, refl)
plain_words (what.Out to n) len rank none = (refl, refl)
plain_words (what.Cancel number done) len rank none = (refl, refl)
plain_words (what.Recall to n) len rank none = (refl, refl)
plain_words (what.Withdraw from n done) len rank none = (refl, refl)
plain_words (what.Undone to n done) len rank none = (refl, refl)
plain_words (what.Claim from n line) len rank none = (refl, refl)
plain_words (what.Match number from n cap line) len rank none = (refl, refl)
plain_words (what.Ran line answer.Started) len rank none = (refl, refl)
plain_words (what.Ran line answer.Busy) len rank none = cc
plain_words (what.Ran line answer.Null) len rank none = cc
plain_words (what.Ran line answer.No) len rank none = cc
plain_words (what.Ran line answer.Nothing) len rank none = cc
plain_words (what.Ran line answer.Sent) len rank none = cc
plain_words (what.Ran line (answer.Got from tag body)) len rank none = cc
plain_words (what.Ran line (answer.Cut from tag n)) len rank none = cc
plain_words (what.Ran line answer.Cancelled) len rank none = cc
plain_words (what.Ran line (answer.Seen seen)) len rank none = cc
plain_words (what.Ran line answer.Done) len rank none = cc
plain_words (what.Ran line answer.Late) len rank none = cc
plain_words (what.Ran line answer.Asked) len rank none = cc

-- a note that has no line behind the events has the line of its event
pub plain_line : (note : Note) (rank : ℕ) → note.rank ≡ rank → is_due note.event.what ≡ false
    → (event_line rank note.event ≡ note_line note) × (ran_line rank note.event.what ≡ [])
plain_line note rank same none =
    let p = plain_words note.event.what note.len rank none in
    rw (← same) (
      ap (λ ws. text_line (codes "@" ∷ decimal note.rank ∷ decimal note.event.stamp ∷ ws)) p.0,
      (plain_words note.event.what note.len note.rank none).1,
    )

-- an answer's line, however it is put together
fed_text : (rank line : ℕ) (a : Answer)
    → join_with_byte 32 (decimal rank ∷ decimal line ∷ answer_words a) ++ (body_word a ++ 10 ∷ [])
    ≡ answer_text rank line a ++ 10 ∷ []
fed_text rank line a =
    sym (append_assoc (join_with_byte 32 (decimal rank ∷ decimal line ∷ answer_words a)) (body_word a) (10 ∷ []))

-- the line of an answer and its line feed
told_line : (rank line : ℕ) (a : Answer) → has_line a ≡ true
    → answer_line rank line a ≡ answer_text rank line a ++ 10 ∷ []
told_line rank line answer.Started due = cc
told_line rank line answer.Busy due = fed_text rank line answer.Busy
told_line rank line answer.Null due = fed_text rank line answer.Null
told_line rank line answer.No due = fed_text rank line answer.No
told_line rank line answer.Nothing due = fed_text rank line answer.Nothing
told_line rank line answer.Sent due = fed_text rank line answer.Sent
told_line rank line (answer.Got from tag body) due = fed_text rank line (answer.Got from tag body)
told_line rank line (answer.Cut from tag n) due = fed_text rank line (answer.Cut from tag n)
told_line rank line answer.Cancelled due = fed_text rank line answer.Cancelled
told_line rank line (answer.Seen seen) due = fed_text rank line (answer.Seen seen)
told_line rank line answer.Done due = fed_text rank line answer.Done
told_line rank line answer.Late due = fed_text rank line answer.Late
told_line rank line answer.Asked due = fed_text rank line answer.Asked

pub bare_has : (a : Answer) → has_line (bare a) ≡ has_line a
bare_has answer.Started = refl
bare_has answer.Busy = refl
bare_has answer.Null = refl
bare_has answer.No = refl
bare_has answer.Nothing = refl
bare_has answer.Sent = refl
bare_has (answer.Got from tag body) = refl
bare_has (answer.Cut from tag n) = refl
bare_has answer.Cancelled = refl
bare_has (answer.Seen seen) = refl
bare_has answer.Done = refl
bare_has answer.Late = refl
bare_has answer.Asked = refl

-- what a line that was given says of the event and its note
pub record IsGivenEvent (note : Note) (text : List ℕ) (e : Event) : Type 0 where
  pub line : event_line note.rank e ≡ note_line note
  pub told : ran_line note.rank e.what ≡ text ++ 10 ∷ []

pub ran_given : (rank stamp line : ℕ) (a : Answer) (len : ℕ) (text : List ℕ) (e : Event) → ToldIn (what.Ran line a) len
    → has_line a ≡ true
    → given (record { rank = rank; event = record { stamp = stamp; what = what.Ran line a }; len = len }) text
    ≡ Some e
    → IsGivenEvent (record { rank = rank; event = record { stamp = stamp; what = what.Ran line a }; len = len })
    text e
unfolding given
ran_given rank stamp line a len text e within due h =
    let b = bind_some (given_what rank (what.Ran line a) len text) _ e h in
    let g = line_taken rank line a len text b.0 within.1 b.1 in
    let is : record { stamp = stamp; what = b.0 } ≡ e = cc (b.2) in
    let whole : record { stamp = stamp; what = what.Ran line g.whole } ≡ e =
    ap (λ w. record { stamp = stamp; what = w }) (sym g.is) ∙ is in
    let words : answer_words g.whole ≡ spoken_words a len = sym (bare_words g.whole)
    ∙ ap (λ x. spoken_words x (got_len g.whole)) g.bare_is ∙ ap (λ n. spoken_words a n) g.long in
    let has : has_line g.whole ≡ true = sym (bare_has g.whole) ∙ ap has_line g.bare_is ∙ due in
    rw (← whole) (record {
      line = ap (λ ws. text_line (codes "@" ∷ decimal rank ∷ decimal stamp ∷ codes "ran" ∷ decimal line ∷ ws))
          words;
      told = told_line rank line g.whole has ∙ ap (λ t. t ++ 10 ∷ []) (sym g.text_is);
    })
