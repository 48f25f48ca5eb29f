-- A line that the machine takes in the answers is the next of what it stands for.
use Rattle.std.proofs.Common.{◌≡◌, ℕ, zero, suc, ◌+◌, ◌≤◌, ◌⊎◌, inl, inr, Bool, true, false, not, ◌&&◌}
use Rattle.std.proofs.Common.{List, [], ◌∷◌, ◌++◌, length, Option, Some, None, refl, sym, ap, ◌∙◌, arith}
use Rattle.std.proofs.Common.{codes, decimal, eqb, append_assoc, flat_map, length-append}
use Rattle.std.specs.List.{join_with_byte}
use Rattle.std.proofs.lemmas.Bool.{and_parts, eqb-true, eq-eqb}
use Rattle.std.proofs.lemmas.List.{append-nil}
use Rattle.nm_history.specs.declared.events.Event.{Event}
use Rattle.nm_history.specs.declared.events.Happened.{Happened}
use Rattle.nm_history.specs.declared.events.Happened.TheVariants as what
use Rattle.nm_history.specs.Quiescence.{Ended}
use Rattle.nm_report.specs.declared.pairs.PairCount.{PairCount}
use Rattle.nm_report.specs.Events.{event_line, pair_line}
use Rattle.nm_report.specs.Report.{ran_line, waits_line, cells_line}
use Rattle.nm_script.specs.Lines.{words_of}
use Rattle.nm_script.proofs.WordsStepLemmas.{chosen}
use Rattle.nm_script.proofs.WordLemmas.{line_is}
use Rattle.nm_trace.specs.declared.notes.Note.{Note}
use Rattle.nm_trace.specs.Answers.{is_due, given}
use Rattle.nm_trace.specs.Machine.{Stage, Telling, Closing, ended, settled, is_next, with_given}
use Rattle.nm_trace.specs.Machine.{or_else, telling, waits_of, cells_of}
use Rattle.nm_trace.specs.Notes.{ToldIn, waits_words, cells_words}
use Rattle.nm_trace.specs.Steps.{◌>>=◌}
use Rattle.nm_trace.specs.Texts.{InOrder, state_text, telling_text, events_from, answers_from}
use Rattle.nm_trace.proofs.EndLemmas.{waits_taken, cells_taken}
use Rattle.nm_script.proofs.StepLemmas.{guard_some}
use Rattle.nm_trace.proofs.FieldLemmas.{bind_some}
use Rattle.nm_trace.proofs.TextLemmas.{event_more, rank_more, plain_line, IsGivenEvent, ran_given}

pub true_or_false : (b : Bool) → (b ≡ true) ⊎ (b ≡ false)
true_or_false true = inl refl
true_or_false false = inr refl

not_is : (b : Bool) → not b ≡ true → b ≡ false
not_is true h = cc
not_is false h = refl

pub or_cases : {A : Type 0} (a b : Option A) (x : A) → or_else a b ≡ Some x → (a ≡ Some x) ⊎ (b ≡ Some x)
or_cases (Some y) b x h = inl h
or_cases None b x h = inr h

-- settling changes nothing of what the lines stand for
pub settle_same : (ranks : ℕ) (pairs : List PairCount) (ends : List Ended) (events : List Event) (due : List Note)
    → InOrder (length ends) ranks due
    → (telling_text pairs ends (settled (length ends) events due).0 (settled (length ends) events due).1
    ≡ telling_text pairs ends events due) × InOrder (length ends) ranks (settled (length ends) events due).1
settle_same ranks pairs ends events [] h = (refl, tt)
settle_same ranks pairs ends events (note ∷ due) h =
    elim (true_or_false (eqb note.rank (length ends) && not (is_due note.event.what))) [
      | inl e ↦
          let p = and_parts (eqb note.rank (length ends)) (not (is_due note.event.what)) e in
          let same = eqb-true note.rank (length ends) p.0 in
          let line = plain_line note (length ends) same (not_is (is_due note.event.what) p.1) in
          let rest = settle_same ranks pairs ends (events ++ note.event ∷ []) due (rw same at h.3) in
          rw e (
            rest.0 ∙ event_more pairs ends events due note note.event [] line.0 line.1 ∙ append-nil _,
            rest.1,
          )
      | inr e ↦ rw e (refl, h)
    ]

event_given : (rank stamp : ℕ) (w : Happened) (len : ℕ) (text : List ℕ) (e : Event) → ToldIn w len
    → is_due w ≡ true → given (record { rank = rank; event = record { stamp = stamp; what = w }; len = len }) text
    ≡ Some e → IsGivenEvent (record { rank = rank; event = record { stamp = stamp; what = w }; len = len }) text e
event_given rank stamp (what.Send to n tag ctx size how line) len text e within due h = cc
event_given rank stamp (what.Post post line) len text e within due h = cc
event_given rank stamp (what.Arrive a) len text e within due h = cc
event_given rank stamp (what.Whole from n) len text e within due h = cc
event_given rank stamp (what.Out to n) len text e within due h = cc
event_given rank stamp (what.Cancel number done) len text e within due h = cc
event_given rank stamp (what.Recall to n) len text e within due h = cc
event_given rank stamp (what.Withdraw from n done) len text e within due h = cc
event_given rank stamp (what.Undone to n done) len text e within due h = cc
event_given rank stamp (what.Claim from n line) len text e within due h = cc
event_given rank stamp (what.Match number from n cap line) len text e within due h = cc
event_given rank stamp (what.Ran line a) len text e within due h =
    ran_given rank stamp line a len text e within due h

given_sound : (ranks : ℕ) (pairs : List PairCount) (ends : List Ended) (events : List Event) (due : List Note)
    (line : List ℕ) (s : Stage) → InOrder (length ends) ranks due → is_next (length ends) due ≡ true
    → with_given pairs ends events due line ≡ Some s
    → state_text s ≡ telling_text pairs ends events due ++ (line ++ 10 ∷ [])
given_sound ranks pairs ends events [] line s order next h = cc
given_sound ranks pairs ends events (note ∷ due) line s order next h =
    let same = eqb-true note.rank (length ends) next in
    let g = guard_some (is_due note.event.what) _ s h in
    let b = bind_some (given note line) _ s g.1 in
    let e = event_given note.rank note.event.stamp note.event.what note.len line b.0 order.2.what g.0 b.1 in
    let is : Telling pairs (record { ends = ends; events = events ++ b.0 ∷ []; due = due }) ≡ s = cc (b.2) in
    rw (← is) (event_more pairs ends events due note b.0 (line ++ 10 ∷ [])
    (ap (λ r. event_line r b.0) (sym same) ∙ e.line)
    (ap (λ r. ran_line r b.0.what) (sym same) ∙ e.told))

-- where no note of this rank is left, those of later ranks are
pub raised : (low ranks : ℕ) (due : List Note) → is_next low due ≡ false → InOrder low ranks due
    → InOrder (low + 1) ranks due
raised low ranks [] next h = tt
raised low ranks (note ∷ due) next h =
    let other : note.rank ≡ low → ⊥ = λ e. (let t = eq-eqb note.rank low e in cc (t, next)) in
    (grind (arith, h.0, other), h.1, h.2, h.3)

pub none_left : (low ranks : ℕ) (due : List Note) → ranks ≤ low → InOrder low ranks due → due ≡ []
none_left low ranks [] few h = refl
none_left low ranks (note ∷ due) few h = absurd (omega (arith, h.0, h.1))

waits_is : (a b c n : List ℕ) → a ++ 32 ∷ (b ++ 32 ∷ (c ++ n)) ≡ (a ++ 32 ∷ (b ++ 32 ∷ c)) ++ n
waits_is a b c n = simp append_assoc

cells_is : (a b n : List ℕ) → codes "cells" ++ 32 ∷ (a ++ 32 ∷ (codes "home" ++ 32 ∷ (b ++ n)))
    ≡ (codes "cells" ++ 32 ∷ (a ++ 32 ∷ (codes "home" ++ 32 ∷ b))) ++ n
cells_is a b n = simp append_assoc

pub closed : (a c d x : List ℕ) → ((a ++ c ++ d) ++ x) ≡ (a ++ [] ++ [] ++ c ++ d ++ []) ++ x
closed a c d x = simp (append_assoc, append-nil)

pub more_ranks : (ends : List Ended) (e : Ended) → length (ends ++ e ∷ []) ≡ length ends + 1
more_ranks ends e = length-append ends (e ∷ [])

pub telling_sound : (left ranks : ℕ) (pairs : List PairCount) (ends : List Ended) (events : List Event)
    (due : List Note) (line : List ℕ) (s : Stage) → length ends + left ≡ ranks
    → (left ≡ 0 → events ≡ []) → InOrder (length ends) ranks due
    → telling left pairs ends events due line ≡ Some s
    → state_text s ≡ telling_text pairs ends events due ++ (line ++ 10 ∷ [])
unfolding telling
telling_sound zero ranks pairs ends events due line s count fresh order h =
    let b = bind_some (cells_of (words_of line)) _ s h in
    let c = cells_taken (words_of line) b.0 b.1 in
    let is : Closing pairs ends b.0 ≡ s = cc (b.2) in
    let words : line ≡ join_with_byte 32 (cells_words b.0) = sym (line_is line)
    ∙ ap (join_with_byte 32) c.0 in
    let text : line ++ 10 ∷ [] ≡ cells_line b.0 = ap (λ x. x ++ 10 ∷ []) words
    ∙ sym (cells_is (decimal b.0.total) (decimal b.0.home) (10 ∷ [])) in
    rw (← is) (rw (text, fresh refl, none_left (length ends) ranks due (omega (arith, count)) order)
    (closed (events_from 0 ends) (flat_map pair_line pairs) (answers_from 0 ends) (cells_line b.0)))
telling_sound (suc left) ranks pairs ends events due line s count fresh order h =
    let t = settled (length ends) events due in
    let same = settle_same ranks pairs ends events due order in
    let front = ap (λ x. x ++ (line ++ 10 ∷ [])) same.0 in
    elim (chosen (is_next (length ends) t.1) _ _ (Some s) h) [
      | inl e ↦ given_sound ranks pairs ends t.0 t.1 line s same.1 e.0 e.1 ∙ front
      | inr e ↦
          elim (or_cases (waits_of (length ends) (words_of line) >>= λ at.
          Some (Telling pairs (record { ends = ends ++ ended t.0 (Some at) ∷ []; events = []; due = t.1 })))
          (telling left pairs (ends ++ ended t.0 None ∷ []) [] t.1 line) s e.1) [
            | inl w ↦
                let b = bind_some (waits_of (length ends) (words_of line)) _ s w in
                let words = waits_taken (length ends) b.0 (words_of line) b.1 in
                let text : line ≡ join_with_byte 32 (waits_words (length ends) b.0) = sym (line_is line)
                ∙ ap (join_with_byte 32) words.0 in
                let is : Telling pairs (record {
                  ends = ends ++ ended t.0 (Some b.0) ∷ [];
                  events = [];
                  due = t.1;
                }) ≡ s = cc (b.2) in
                let told : waits_line (length ends) (Some b.0) ≡ line ++ 10 ∷ [] = waits_is
                (decimal (length ends)) (decimal b.0) (codes "waits") (10 ∷ [])
                ∙ ap (λ x. x ++ 10 ∷ []) (sym text) in
                rw (← is) (rank_more pairs ends t.0 t.1 (Some b.0)
                ∙ ap (λ x. telling_text pairs ends t.0 t.1 ++ x) told ∙ front)
            | inr w ↦
                let next = more_ranks ends (ended t.0 None) in
                let later = telling_sound left ranks pairs (ends ++ ended t.0 None ∷ []) [] t.1 line s
                (omega (arith, next, count)) (λ _. refl)
                (rw next (raised (length ends) ranks t.1 e.0 same.1)) w in
                later ∙ ap (λ x. x ++ (line ++ 10 ∷ [])) (rank_more pairs ends t.0 t.1 None ∙ append-nil _)
                ∙ front
          ]
    ]
