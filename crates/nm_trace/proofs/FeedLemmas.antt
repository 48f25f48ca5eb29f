-- Each line that the machine takes is the next of what its state stands for.
use Rattle.std.proofs.Common.{◌≡◌, ℕ, zero, suc, ◌+◌, ◌-◌, ◌≤◌, ◌<◌, inl, inr, Bool, true, false}
use Rattle.std.proofs.Common.{List, [], ◌∷◌, ◌++◌, length, Some, None, refl, sym, ap, ◌∙◌, arith}
use Rattle.std.proofs.Common.{append_assoc, flat_map, nat_lt, nat_le}
use Rattle.std.specs.List.{join_with_byte}
use Rattle.std.proofs.lemmas.Bool.{and_parts, eqb-true, ltb-true, leb-true}
use Rattle.std.proofs.lemmas.List.{append-nil}
use Rattle.nm_history.specs.declared.events.Event.{Event}
use Rattle.nm_history.specs.Quiescence.{Ended}
use Rattle.nm_report.specs.declared.pairs.PairCount.{PairCount}
use Rattle.nm_report.specs.Events.{pair_line}
use Rattle.nm_report.specs.Report.{cells_line, end_line}
use Rattle.nm_script.specs.Lines.{ended_lines, words_of}
use Rattle.nm_script.proofs.WordsStepLemmas.{chosen}
use Rattle.nm_script.proofs.WordLemmas.{line_is}
use Rattle.nm_trace.specs.declared.notes.Note.{Note}
use Rattle.nm_trace.specs.Answers.{is_due, given}
use Rattle.nm_trace.specs.Events.{note_of, pair_of}
use Rattle.nm_trace.specs.Machine.{Stage, Noting, Counting, Telling, Closing, Over}
use Rattle.nm_trace.specs.Machine.{ended, settled, is_next, with_given, telling, waits_of}
use Rattle.nm_trace.specs.Machine.{cells_of, end_of, last_rank, may_follow, next_note, counting, noting}
use Rattle.nm_trace.specs.Machine.{feed, fed}
use Rattle.nm_trace.specs.Notes.{NoteIn, note_line, note_words, pair_words, end_word}
use Rattle.nm_trace.specs.Steps.{◌>>=◌}
use Rattle.nm_trace.specs.Texts.{InOrder, Right, state_text, closing_text}
use Rattle.nm_trace.proofs.EndLemmas.{pair_taken, end_taken}
use Rattle.nm_script.proofs.StepLemmas.{guard_some}
use Rattle.nm_trace.proofs.FieldLemmas.{bind_some}
use Rattle.nm_trace.proofs.NoteLemmas.{note_taken}
use Rattle.nm_trace.proofs.SoundLemmas.{or_cases, settle_same, raised, more_ranks, telling_sound}
use Rattle.nm_trace.proofs.TextLemmas.{one_more}

given_right : (ranks : ℕ) (pairs : List PairCount) (ends : List Ended) (events : List Event) (due : List Note)
    (line : List ℕ) (s : Stage) → InOrder (length ends) ranks due → is_next (length ends) due ≡ true
    → with_given pairs ends events due line ≡ Some s → Right ranks s
given_right ranks pairs ends events [] line s order next h = cc
given_right ranks pairs ends events (note ∷ due) line s order next h =
    let same = eqb-true note.rank (length ends) next in
    let g = guard_some (is_due note.event.what) _ s h in
    let b = bind_some (given note line) _ s g.1 in
    let is : Telling pairs (record { ends = ends; events = events ++ b.0 ∷ []; due = due }) ≡ s = cc (b.2) in
    let few = order.1 in
    rw (← is) (omega (arith, same, few), λ e. absurd (omega (arith, same, few, e)), rw same at order.3)

telling_right : (left ranks : ℕ) (pairs : List PairCount) (ends : List Ended) (events : List Event)
    (due : List Note) (line : List ℕ) (s : Stage) → length ends + left ≡ ranks
    → InOrder (length ends) ranks due → telling left pairs ends events due line ≡ Some s → Right ranks s
unfolding telling
telling_right zero ranks pairs ends events due line s count order h =
    let b = bind_some (cells_of (words_of line)) _ s h in
    let is : Closing pairs ends b.0 ≡ s = cc (b.2) in
    rw (← is) (omega (arith, count))
telling_right (suc left) ranks pairs ends events due line s count order h =
    let t = settled (length ends) events due in
    let same = settle_same ranks pairs ends events due order in
    elim (chosen (is_next (length ends) t.1) _ _ (Some s) h) [
      | inl e ↦ given_right ranks pairs ends t.0 t.1 line s same.1 e.0 e.1
      | inr e ↦
          elim (or_cases (waits_of (length ends) (words_of line) >>= λ at.
          Some (Telling pairs (record { ends = ends ++ ended t.0 (Some at) ∷ []; events = []; due = t.1 })))
          (telling left pairs (ends ++ ended t.0 None ∷ []) [] t.1 line) s e.1) [
            | inl w ↦
                let b = bind_some (waits_of (length ends) (words_of line)) _ s w in
                let next = more_ranks ends (ended t.0 (Some b.0)) in
                let is : Telling pairs (record {
                  ends = ends ++ ended t.0 (Some b.0) ∷ [];
                  events = [];
                  due = t.1;
                }) ≡ s = cc (b.2) in
                rw (← is) (
                  omega (arith, next, count),
                  λ _. refl,
                  rw next (raised (length ends) ranks t.1 e.0 same.1),
                )
            | inr w ↦
                let next = more_ranks ends (ended t.0 None) in
                telling_right left ranks pairs (ends ++ ended t.0 None ∷ []) [] t.1 line s
                (omega (arith, next, count)) (rw next (raised (length ends) ranks t.1 e.0 same.1)) w
          ]
    ]

in_order-more : (low ranks : ℕ) (notes : List Note) (note : Note) → InOrder low ranks notes
    → last_rank low notes ≤ note.rank → note.rank < ranks → NoteIn note
    → InOrder low ranks (notes ++ note ∷ [])
in_order-more low ranks [] note h least few within = (least, few, within, tt)
in_order-more low ranks (n ∷ notes) note h least few within =
    (h.0, h.1, h.2, in_order-more n.rank ranks notes note h.3 least few within)

-- a line that is taken keeps the state right, and is the next of what it stands for
pub record IsNext (ranks : ℕ) (before line : List ℕ) (s : Stage) : Type 0 where
  pub right : Right ranks s
  pub text : state_text s ≡ before ++ (line ++ 10 ∷ [])

counting_next : (ranks : ℕ) (notes : List Note) (pairs : List PairCount) (line : List ℕ) (s : Stage)
    → InOrder 0 ranks notes → counting ranks notes pairs line ≡ Some s
    → IsNext ranks (flat_map note_line notes ++ flat_map pair_line pairs) line s
unfolding counting
counting_next ranks notes pairs line s order h =
    elim (or_cases (pair_of (words_of line) >>= λ pair. Some (Counting notes (pairs ++ pair ∷ [])))
    (telling ranks pairs [] [] notes line) s h) [
      | inl w ↦
          let b = bind_some (pair_of (words_of line)) _ s w in
          let p = pair_taken (words_of line) b.0 b.1 in
          let is : Counting notes (pairs ++ b.0 ∷ []) ≡ s = cc (b.2) in
          let words : line ≡ join_with_byte 32 (pair_words b.0) = sym (line_is line)
          ∙ ap (join_with_byte 32) p.0 in
          let told : pair_line b.0 ≡ line ++ 10 ∷ [] = ap (λ x. x ++ 10 ∷ []) (sym words) in
          rw (← is) (record {
            right = order;
            text = ap (λ x. flat_map note_line notes ++ x) (one_more pair_line pairs b.0)
                ∙ sym (append_assoc (flat_map note_line notes) (flat_map pair_line pairs) (pair_line b.0))
                ∙ ap (λ x. (flat_map note_line notes ++ flat_map pair_line pairs) ++ x) told;
          })
      | inr w ↦
          record {
            right = telling_right ranks ranks pairs [] [] notes line s (omega arith) order w;
            text = telling_sound ranks ranks pairs [] [] notes line s (omega arith) (λ _. refl) order w
                ∙ ap (λ x. x ++ (line ++ 10 ∷ [])) (simp append-nil);
          }
    ]

-- a note that is taken is in order, and the line's
pub next_taken : (ranks last : ℕ) (words : List (List ℕ)) (note : Note) → next_note ranks last words ≡ Some note
    → (note.rank < ranks) × (last ≤ note.rank) × (note_of words ≡ Some note)
unfolding next_note
next_taken ranks last words note h =
    let b = bind_some (note_of words) _ note h in
    let g = guard_some (may_follow ranks last b.0) _ note b.2 in
    let p = and_parts (nat_lt b.0.rank ranks) (nat_le last b.0.rank) g.0 in
    let is : b.0 ≡ note = cc (g.1) in
    rw (← is) (ltb-true b.0.rank ranks p.0, leb-true last b.0.rank p.1, b.1)

noting_next : (ranks : ℕ) (notes : List Note) (line : List ℕ) (s : Stage)
    → InOrder 0 ranks notes → noting ranks notes line ≡ Some s
    → IsNext ranks (flat_map note_line notes) line s
unfolding noting
noting_next ranks notes line s order h =
    elim (or_cases (next_note ranks (last_rank 0 notes) (words_of line) >>= λ note.
    Some (Noting (notes ++ note ∷ []))) (counting ranks notes [] line) s h) [
      | inl w ↦
          let b = bind_some (next_note ranks (last_rank 0 notes) (words_of line)) _ s w in
          let t = next_taken ranks (last_rank 0 notes) (words_of line) b.0 b.1 in
          let n = note_taken (words_of line) b.0 t.2 in
          let is : Noting (notes ++ b.0 ∷ []) ≡ s = cc (b.2) in
          let words : line ≡ join_with_byte 32 (note_words b.0) = sym (line_is line)
          ∙ ap (join_with_byte 32) n.0 in
          let told : note_line b.0 ≡ line ++ 10 ∷ [] = ap (λ x. x ++ 10 ∷ []) (sym words) in
          rw (← is) (record {
            right = in_order-more 0 ranks notes b.0 order t.1 t.0 n.1;
            text = one_more note_line notes b.0 ∙ ap (λ x. flat_map note_line notes ++ x) told;
          })
      | inr w ↦
          let c = counting_next ranks notes [] line s order w in
          record {
            right = c.right;
            text = c.text ∙ ap (λ x. x ++ (line ++ 10 ∷ [])) (append-nil (flat_map note_line notes));
          }
    ]

end_is : (d : Bool) → end_word d ++ 10 ∷ [] ≡ end_line d
end_is true = refl
end_is false = refl

pub feed_next : (ranks : ℕ) (s : Stage) (line : List ℕ) (t : Stage) → Right ranks s → feed ranks s line ≡ Some t
    → IsNext ranks (state_text s) line t
unfolding feed
feed_next ranks (Noting notes) line t right h = noting_next ranks notes line t right h
feed_next ranks (Counting notes pairs) line t right h = counting_next ranks notes pairs line t right h
feed_next ranks (Telling pairs part) line t right h =
    let count : length part.ends + (ranks - length part.ends) ≡ ranks = omega (arith, right.0) in
    record {
      right = telling_right (ranks - length part.ends) ranks pairs part.ends part.events part.due line t count
          right.2 h;
      text = telling_sound (ranks - length part.ends) ranks pairs part.ends part.events part.due line t count
          (λ e. right.1 (omega (arith, count, e))) right.2 h;
    }
feed_next ranks (Closing pairs ends cells) line t right h =
    let b = bind_some (end_of line) _ t h in
    let is : Over (record { ends = ends; pairs = pairs; cells = cells; done = b.0 }) ≡ t = cc (b.2) in
    let told : end_line b.0 ≡ line ++ 10 ∷ [] = sym (end_is b.0) ∙ ap (λ x. x ++ 10 ∷ [])
    (sym (end_taken line b.0 b.1)) in
    rw (← is) (record { right = right; text = ap (λ x. (closing_text pairs ends ++ cells_line cells) ++ x) told })
feed_next ranks (Over trace) line t right h = cc

-- lines that are taken are what the state stands for
pub fed_text : (ranks : ℕ) (s : Stage) (lines : List (List ℕ)) (t : Stage) → Right ranks s
    → fed ranks s lines ≡ Some t → Right ranks t × (state_text t ≡ state_text s ++ ended_lines lines)
fed_text ranks s [] t right h =
    let is : s ≡ t = cc in
    rw (← is) (right, sym (append-nil (state_text s)))
fed_text ranks s (line ∷ lines) t right h =
    let b = bind_some (feed ranks s line) _ t h in
    let n = feed_next ranks s line b.0 right b.1 in
    let rest = fed_text ranks b.0 lines t n.right b.2 in (
      rest.0,
      rest.1 ∙ ap (λ x. x ++ ended_lines lines) n.text
          ∙ append_assoc (state_text s) (line ++ 10 ∷ []) (ended_lines lines),
    )
