-- The lines of a trace: what each is when it is read, and that each is printable.
use Rattle.std.proofs.Common.{◌≡◌, ℕ, ◌+◌, ◌≤◌, ◌<◌, ◌^◌, inl, inr, Bool, true, false, List}
use Rattle.std.proofs.Common.{[], ◌∷◌, ◌++◌, length, map, Option, Some, None, refl, sym, ap, ◌∙◌, arith}
use Rattle.std.proofs.Common.{append_assoc, codes, decimal, flat_map, if◌then◌else◌}
use Rattle.std.specs.List.{AllByRecursion, join_with_byte, list_all}
use Rattle.std.proofs.lemmas.Bool.{and_from}
use Rattle.std.proofs.lemmas.List.Folds.{list_all-append}
use Rattle.nm_types.specs.declared.answers.Account.{Account}
use Rattle.nm_history.specs.declared.events.Event.{Event}
use Rattle.nm_history.specs.declared.events.Happened.{Happened}
use Rattle.nm_history.specs.declared.events.Happened.TheVariants as what
use Rattle.nm_history.specs.Quiescence.{Ended}
use Rattle.nm_report.specs.declared.pairs.PairCount.{PairCount}
use Rattle.nm_report.specs.Answers.{answer_words, body_word}
use Rattle.nm_script.specs.Lines.{is_printable, words_of}
use Rattle.nm_script.proofs.WordLemmas.{Solid, decimal_solid, joined_printable, line_is, words_again}
use Rattle.nm_trace.specs.declared.notes.Note.{Note}
use Rattle.nm_trace.specs.Answers.{is_due}
use Rattle.nm_trace.specs.Events.{note_of, pair_of}
use Rattle.nm_trace.specs.Machine.{waits_of}
use Rattle.nm_trace.specs.Notes.{NoteIn, cells_words, end_word, event_text, note_words, pair_words}
use Rattle.nm_trace.specs.Notes.{told_words, waits_words}
use Rattle.nm_trace.specs.Texts.{InOrder}
use Rattle.nm_trace.specs.Traces.{CellsIn, EndIn, EventIn, PairIn, WaitsIn, WhatIn}
use Rattle.nm_trace.proofs.EndLemmas.{pair_taken, waits_taken}
use Rattle.nm_trace.proofs.FieldLemmas.{small_again}
use Rattle.nm_trace.proofs.NoteLemmas.{note_taken}
use Rattle.nm_trace.proofs.OutcomeLemmas.{some_or_none}
use Rattle.nm_trace.proofs.SolidLemmas.{answer_prints, large_word, note_solid, small_word, split_word}
use Rattle.nm_trace.proofs.SolidLemmas.{starts_with}
use Rattle.nm_trace.proofs.SoundLemmas.{true_or_false}

-- the line of these words
abbrev pub text_of : List (List ℕ) → List ℕ
text_of words = join_with_byte 32 words

pub pair_solid : (p : PairCount) → PairIn p → Solid (pair_words p)
pair_solid p h = (refl, (small_word p.from h.0, (small_word p.to h.1, (decimal_solid p.packets h.2, tt))))

pub waits_solid : (rank line : ℕ) → rank < 2 ^ 8 → line < 2 ^ 64 → Solid (waits_words rank line)
waits_solid rank line small large = (small_word rank small, (decimal_solid line large, (refl, tt)))

pub cells_solid : (c : Account) → CellsIn c → Solid (cells_words c)
cells_solid c h = (refl, (large_word c.total h.0, (refl, (large_word c.home h.1, tt))))

-- what the words of these lines are
pub note_split : (n : Note) → NoteIn n → words_of (text_of (note_words n)) ≡ note_words n
note_split n h = words_again _ _ (note_solid n h)

pub pair_split : (p : PairCount) → PairIn p → words_of (text_of (pair_words p)) ≡ pair_words p
pair_split p h = words_again _ _ (pair_solid p h)

pub waits_split : (rank line : ℕ) → rank < 2 ^ 8 → line < 2 ^ 64
    → words_of (text_of (waits_words rank line)) ≡ waits_words rank line
waits_split rank line small large = words_again _ _ (waits_solid rank line small large)

pub cells_split : (c : Account) → CellsIn c → words_of (text_of (cells_words c)) ≡ cells_words c
cells_split c h = words_again _ _ (cells_solid c h)

-- a line that is no event, no count of packets, and tells of no rank before this one that it waits
pub record Other (rank : ℕ) (line : List ℕ) : Type 0 where
  pub note : note_of (words_of line) ≡ None
  pub pair : pair_of (words_of line) ≡ None
  pub waits : (r : ℕ) → r < rank → waits_of r (words_of line) ≡ None

other_less : (rank : ℕ) (line : List ℕ) → Other (rank + 1) line → Other rank line
other_less rank line h =
    record { note = h.note; pair = h.pair; waits = λ r less. h.waits r (omega (arith, less)) }

no_note : (rank : ℕ) (x : List ℕ) → rank < 2 ^ 8 → note_of (words_of (decimal rank ++ 32 ∷ x)) ≡ None
no_note rank x small =
    elim (some_or_none (note_of (words_of (decimal rank ++ 32 ∷ x)))) [
      | inl none ↦ none
      | inr n ↦
          let words = note_taken (words_of (decimal rank ++ 32 ∷ x)) n.0 n.1 in
          let text : decimal rank ++ 32 ∷ x ≡ text_of (note_words n.0) = sym (line_is (decimal rank ++ 32 ∷ x))
          ∙ ap (join_with_byte 32) words.0 in
          absurd (elim (starts_with rank x _ 64 (omega (arith, small)) text) [
            | inl e ↦ omega (arith, e)
            | inr e ↦ omega (arith, e)
          ])
    ]

no_pair : (rank : ℕ) (x : List ℕ) → rank < 2 ^ 8 → pair_of (words_of (decimal rank ++ 32 ∷ x)) ≡ None
no_pair rank x small =
    elim (some_or_none (pair_of (words_of (decimal rank ++ 32 ∷ x)))) [
      | inl none ↦ none
      | inr p ↦
          let words = pair_taken (words_of (decimal rank ++ 32 ∷ x)) p.0 p.1 in
          let text : decimal rank ++ 32 ∷ x ≡ text_of (pair_words p.0) = sym (line_is (decimal rank ++ 32 ∷ x))
          ∙ ap (join_with_byte 32) words.0 in
          absurd (elim (starts_with rank x _ 112 (omega (arith, small)) text) [
            | inl e ↦ omega (arith, e)
            | inr e ↦ omega (arith, e)
          ])
    ]

-- numbers with one spelling are one
one_number : (a b : ℕ) → a < 2 ^ 8 → b < 2 ^ 8 → decimal a ≡ decimal b → a ≡ b
one_number a b small low same =
    let e = small_again a small in
    let f = small_again b low in
    let g : Some a ≡ Some b = sym e ∙ rw same f in
    cc (g)

first_is : (a b : List ℕ) (x y : List (List ℕ)) → a ∷ x ≡ b ∷ y → a ≡ b
first_is a b x y h = cc

no_waits : (rank : ℕ) (x : List ℕ) (r : ℕ) → rank < 2 ^ 8 → r < rank
    → waits_of r (words_of (decimal rank ++ 32 ∷ x)) ≡ None
no_waits rank x r small less =
    elim (some_or_none (waits_of r (words_of (decimal rank ++ 32 ∷ x)))) [
      | inl none ↦ none
      | inr at ↦
          let words = waits_taken r at.0 (words_of (decimal rank ++ 32 ∷ x)) at.1 in
          let split = split_word (decimal rank) x (small_word rank small) in
          let same = first_is (decimal rank) (decimal r) (words_of x) (decimal at.0 ∷ codes "waits" ∷ [])
          (sym split ∙ words.0) in
          let is = one_number rank r small (omega (arith, small, less)) same in
          absurd (omega (arith, is, less))
    ]

-- a line that begins with a rank
rank_other : (rank : ℕ) (line x : List ℕ) → rank < 2 ^ 8 → line ≡ decimal rank ++ 32 ∷ x → Other rank line
rank_other rank line x small is =
    rw is (record {
      note = no_note rank x small;
      pair = no_pair rank x small;
      waits = λ r less. no_waits rank x r small less;
    })

cells_other : (rank : ℕ) (c : Account) → CellsIn c → Other rank (text_of (cells_words c))
unfolding note_of pair_of waits_of
cells_other rank c h =
    record {
      note = rw (cells_split c h) refl;
      pair = rw (cells_split c h) refl;
      waits = λ r less. rw (cells_split c h) refl;
    }

-- the lines of an answer, of a rank that waits, of a rank, and of all of them from this one on
abbrev pub ran_lines : ℕ → Event → List (List ℕ)
ran_lines rank e = if is_due e.what then event_text rank e.what ∷ [] else []

abbrev pub waits_lines : ℕ → Option ℕ → List (List ℕ)
waits_lines rank (Some line) = text_of (waits_words rank line) ∷ []
waits_lines rank None = []

abbrev pub answer_lines : ℕ → List Ended → List (List ℕ)
answer_lines rank [] = []
answer_lines rank (e ∷ ends) =
    flat_map (ran_lines rank) e.events ++ (waits_lines rank e.waits ++ answer_lines (rank + 1) ends)

-- an answer's line begins with its rank
text_starts : (rank : ℕ) (w : Happened) → is_due w ≡ true
    → (x : List ℕ) × (event_text rank w ≡ decimal rank ++ 32 ∷ x)
text_starts rank (what.Ran line a) due = (
  join_with_byte 32 (decimal line ∷ answer_words a) ++ body_word a,
  append_assoc (decimal rank) (32 ∷ join_with_byte 32 (decimal line ∷ answer_words a)) (body_word a),
)
text_starts rank (what.Send to n tag ctx size how line) due = cc
text_starts rank (what.Post post line) due = cc
text_starts rank (what.Arrive a) due = cc
text_starts rank (what.Whole from n) due = cc
text_starts rank (what.Out to n) due = cc
text_starts rank (what.Cancel number done) due = cc
text_starts rank (what.Recall to n) due = cc
text_starts rank (what.Withdraw from n done) due = cc
text_starts rank (what.Undone to n done) due = cc
text_starts rank (what.Claim from n line) due = cc
text_starts rank (what.Match number from n cap line) due = cc

-- the first of these lines
pub record First (rank : ℕ) (lines : List (List ℕ)) : Type 0 where
  pub line : List ℕ
  pub rest : List (List ℕ)
  pub are : lines ≡ line ∷ rest
  pub other : Other rank line

pub first_waits : (rank : ℕ) (waits : Option ℕ) (rest : List (List ℕ)) → rank < 2 ^ 8 → First (rank + 1) rest
    → First rank (waits_lines rank waits ++ rest)
first_waits rank (Some at) rest small next =
    let line = text_of (waits_words rank at) in
    record {
      line = line;
      rest = rest;
      are = refl;
      other = rank_other rank line (text_of (decimal at ∷ codes "waits" ∷ [])) small refl;
    }
first_waits rank None rest small next =
    record {
      line = next.line;
      rest = next.rest;
      are = next.are;
      other = other_less rank next.line next.other;
    }

pub first_ran : (rank : ℕ) (events : List Event) (rest : List (List ℕ)) → rank < 2 ^ 8 → First rank rest
    → First rank (flat_map (ran_lines rank) events ++ rest)
first_ran rank [] rest small next = next
first_ran rank (e ∷ events) rest small next =
    elim (true_or_false (is_due e.what)) [
      | inl due ↦
          let text = text_starts rank e.what due in
          record {
            line = event_text rank e.what;
            rest = flat_map (ran_lines rank) events ++ rest;
            are = rw due refl;
            other = rank_other rank (event_text rank e.what) text.0 small text.1;
          }
      | inr plain ↦ rw plain (first_ran rank events rest small next)
    ]

pub first_answers : (rank : ℕ) (ends : List Ended) (c : Account) (rest : List (List ℕ))
    → rank + length ends ≤ 2 ^ 8 → CellsIn c
    → First rank (answer_lines rank ends ++ text_of (cells_words c) ∷ rest)
first_answers rank [] c rest few h =
    record { line = text_of (cells_words c); rest = rest; are = refl; other = cells_other rank c h }
first_answers rank (e ∷ ends) c rest few h =
    let later = answer_lines (rank + 1) ends ++ text_of (cells_words c) ∷ rest in
    let next = first_answers (rank + 1) ends c rest (omega (arith, few)) h in
    let waits = first_waits rank e.waits later (omega (arith, few)) next in
    let ran = first_ran rank e.events (waits_lines rank e.waits ++ later) (omega (arith, few)) waits in
    rw (append_assoc, append_assoc) ran

-- each line is printable
abbrev pub Print : List (List ℕ) → Type 0
Print lines = list_all is_printable lines ≡ true

pub print_both : (a b : List (List ℕ)) → Print a → Print b → Print (a ++ b)
print_both a b p q = list_all-append is_printable a b ∙ and_from _ _ p q

event_prints : (rank : ℕ) (w : Happened) → rank < 2 ^ 8 → WhatIn w → is_due w ≡ true
    → is_printable (event_text rank w) ≡ true
event_prints rank (what.Ran line a) small h due = answer_prints rank line a small h.0 h.1
event_prints rank (what.Send to n tag ctx size how line) small h due = cc
event_prints rank (what.Post post line) small h due = cc
event_prints rank (what.Arrive a) small h due = cc
event_prints rank (what.Whole from n) small h due = cc
event_prints rank (what.Out to n) small h due = cc
event_prints rank (what.Cancel number done) small h due = cc
event_prints rank (what.Recall to n) small h due = cc
event_prints rank (what.Withdraw from n done) small h due = cc
event_prints rank (what.Undone to n done) small h due = cc
event_prints rank (what.Claim from n line) small h due = cc
event_prints rank (what.Match number from n cap line) small h due = cc

ran_print : (rank : ℕ) (events : List Event) → rank < 2 ^ 8 → AllByRecursion EventIn events
    → Print (flat_map (ran_lines rank) events)
ran_print rank [] small h = refl
ran_print rank (e ∷ events) small h =
    elim (true_or_false (is_due e.what)) [
      | inl due ↦
          rw due (and_from _ _ (event_prints rank e.what small h.0.1 due) (ran_print rank events small h.1))
      | inr plain ↦ rw plain (ran_print rank events small h.1)
    ]

waits_print : (rank : ℕ) (waits : Option ℕ) → rank < 2 ^ 8 → WaitsIn waits → Print (waits_lines rank waits)
waits_print rank (Some at) small h =
    and_from _ _ (joined_printable (decimal rank) (decimal at ∷ codes "waits" ∷ []) (waits_solid rank at small h)) refl
waits_print rank None small h = refl

pub answers_print : (rank : ℕ) (ends : List Ended) → rank + length ends ≤ 2 ^ 8 → AllByRecursion EndIn ends
    → Print (answer_lines rank ends)
answers_print rank [] few h = refl
answers_print rank (e ∷ ends) few h =
    let small : rank < 2 ^ 8 = omega (arith, few) in
    print_both (flat_map (ran_lines rank) e.events) (waits_lines rank e.waits ++ answer_lines (rank + 1) ends)
    (ran_print rank e.events small h.0.events)
    (print_both (waits_lines rank e.waits) (answer_lines (rank + 1) ends)
    (waits_print rank e.waits small h.0.waits) (answers_print (rank + 1) ends (omega (arith, few)) h.1))

pub notes_print : (low ranks : ℕ) (notes : List Note) → InOrder low ranks notes
    → Print (map (λ n. text_of (note_words n)) notes)
notes_print low ranks [] h = refl
notes_print low ranks (n ∷ notes) h =
    and_from _ _ (joined_printable (codes "@")
    (decimal n.rank ∷ decimal n.event.stamp ∷ told_words n.event.what n.len) (note_solid n h.2))
    (notes_print n.rank ranks notes h.3)

pub pairs_print : (pairs : List PairCount) → AllByRecursion PairIn pairs
    → Print (map (λ p. text_of (pair_words p)) pairs)
pairs_print [] h = refl
pairs_print (p ∷ pairs) h =
    and_from _ _ (joined_printable (codes "pair") (decimal p.from ∷ decimal p.to ∷ decimal p.packets ∷ [])
    (pair_solid p h.0)) (pairs_print pairs h.1)

cells_print : (c : Account) → CellsIn c → is_printable (text_of (cells_words c)) ≡ true
cells_print c h =
    joined_printable (codes "cells") (decimal c.total ∷ codes "home" ∷ decimal c.home ∷ []) (cells_solid c h)

pub ends_print : (c : Account) (d : Bool) → CellsIn c → Print (text_of (cells_words c) ∷ end_word d ∷ [])
ends_print c true h = and_from _ _ (cells_print c h) refl
ends_print c false h = and_from _ _ (cells_print c h) refl
