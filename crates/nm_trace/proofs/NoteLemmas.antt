-- The events of a trace by their lines, both ways.
use Rattle.std.proofs.Common.{◌≡◌, ℕ, ◌^◌, List, [], ◌∷◌, Some}
use Rattle.std.proofs.Common.{refl, sym, ap, ◌∙◌, codes, decimal}
use Rattle.std.specs.Str.{bytes_eq}
use Rattle.nm_history.specs.declared.events.Happened.{Happened}
use Rattle.nm_history.specs.declared.events.Happened.TheVariants as what
use Rattle.nm_script.specs.Decimal.{number_of}
use Rattle.nm_trace.specs.declared.notes.Note.{Note}
use Rattle.nm_trace.specs.declared.notes.Said.{Said}
use Rattle.nm_trace.specs.declared.sorts.Sort.{Sort}
use Rattle.nm_trace.specs.declared.sorts.Sort.TheVariants as sort
use Rattle.nm_trace.specs.Events.{note_of, told_of, told_as, ran_of, plain_of, answer_of}
use Rattle.nm_trace.specs.Notes.{note_words, told_words, spoken_words, ToldIn, NoteIn}
use Rattle.nm_trace.specs.Sorts.{sort_of, sort_text, sorts}
use Rattle.nm_trace.specs.Steps.{◌>>=◌}
use Rattle.nm_trace.specs.Traces.{WhatIn}
use Rattle.nm_trace.proofs.AnswerLemmas.{answer_again, answer_taken, found_all}
use Rattle.nm_trace.proofs.EventLemmas.{sort_is, rest_words, plain_again, plain_taken}
use Rattle.nm_script.proofs.StepLemmas.{guard_some}
use Rattle.nm_trace.proofs.FieldLemmas.{bind_some, same_bytes, small_again, huge_again}
use Rattle.nm_trace.proofs.FieldLemmas.{huge_again, small_taken, huge_taken}

pub sort_again : (s : Sort) → sort_of (sort_text s) ≡ Some s
unfolding sort_of
sort_again sort.Send = refl
sort_again sort.Post = refl
sort_again sort.Arrive = refl
sort_again sort.Whole = refl
sort_again sort.Out = refl
sort_again sort.Cancel = refl
sort_again sort.Recall = refl
sort_again sort.Withdraw = refl
sort_again sort.Undone = refl
sort_again sort.Claim = refl
sort_again sort.Match = refl
sort_again sort.Ran = refl

abbrev Any : Sort → Type 0
Any s = Unit {0}

pub sort_taken : (word : List ℕ) (s : Sort) → sort_of word ≡ Some s → word ≡ sort_text s
unfolding sort_of
sort_taken word s h = same_bytes word (sort_text s)
    (found_all Any (λ x. bytes_eq word (sort_text x)) sorts s
    (tt, (tt, (tt, (tt, (tt, (tt, (tt, (tt, (tt, (tt, (tt, (tt, tt)))))))))))) h).0

-- the words behind the name, where the answer has this number of bytes
abbrev pub rest_of : Happened → ℕ → List (List ℕ)
rest_of (what.Ran line answer) len = decimal line ∷ spoken_words answer len
rest_of w len = rest_words w

told_is : (w : Happened) (len : ℕ) → told_words w len ≡ sort_text (sort_is w) ∷ rest_of w len
told_is (what.Send to n tag ctx size how line) len = refl
told_is (what.Post post line) len = refl
told_is (what.Arrive a) len = refl
told_is (what.Whole from n) len = refl
told_is (what.Out to n) len = refl
told_is (what.Cancel number done) len = refl
told_is (what.Recall to n) len = refl
told_is (what.Withdraw from n done) len = refl
told_is (what.Undone to n done) len = refl
told_is (what.Claim from n line) len = refl
told_is (what.Match number from n cap line) len = refl
told_is (what.Ran line answer) len = refl

-- what happened is read again
told_again : (w : Happened) (len : ℕ) → ToldIn w len
    → told_as (sort_is w) (rest_of w len) ≡ Some (record { what = w; len = len })
unfolding told_as ran_of
told_again (what.Send to n tag ctx size how line) len h =
    rw (h.1, plain_again (what.Send to n tag ctx size how line) h.0 (λ e. cc)) refl
told_again (what.Post post line) len h =
    rw (h.1, plain_again (what.Post post line) h.0 (λ e. cc)) refl
told_again (what.Arrive a) len h =
    rw (h.1, plain_again (what.Arrive a) h.0 (λ e. cc)) refl
told_again (what.Whole from n) len h =
    rw (h.1, plain_again (what.Whole from n) h.0 (λ e. cc)) refl
told_again (what.Out to n) len h =
    rw (h.1, plain_again (what.Out to n) h.0 (λ e. cc)) refl
told_again (what.Cancel number done) len h =
    rw (h.1, plain_again (what.Cancel number done) h.0 (λ e. cc)) refl
told_again (what.Recall to n) len h =
    rw (h.1, plain_again (what.Recall to n) h.0 (λ e. cc)) refl
told_again (what.Withdraw from n done) len h =
    rw (h.1, plain_again (what.Withdraw from n done) h.0 (λ e. cc)) refl
told_again (what.Undone to n done) len h =
    rw (h.1, plain_again (what.Undone to n done) h.0 (λ e. cc)) refl
told_again (what.Claim from n line) len h =
    rw (h.1, plain_again (what.Claim from n line) h.0 (λ e. cc)) refl
told_again (what.Match number from n cap line) len h =
    rw (h.1, plain_again (what.Match number from n cap line) h.0 (λ e. cc)) refl
told_again (what.Ran line answer) len h = rw (huge_again line h.0, answer_again answer len h.1) refl

-- the event of a line is read again
pub note_again : (note : Note) → NoteIn note → note_of (note_words note) ≡ Some note
unfolding note_of told_of
note_again note h =
    rw (told_is note.event.what note.len)
    (rw (
      small_again note.rank h.rank,
      huge_again note.event.stamp h.stamp,
      sort_again (sort_is note.event.what),
      told_again note.event.what note.len h.what,
    ) refl)

-- ---- what is read is spelled so

-- what is no answer has no bytes
plain_is : (w : Happened) → (sort_is w ≡ sort.Ran → ⊥) → WhatIn w → (rest_words w ≡ rest_of w 0) × ToldIn w 0
plain_is (what.Send to n tag ctx size how line) other h = (refl, (h, refl))
plain_is (what.Post post line) other h = (refl, (h, refl))
plain_is (what.Arrive a) other h = (refl, (h, refl))
plain_is (what.Whole from n) other h = (refl, (h, refl))
plain_is (what.Out to n) other h = (refl, (h, refl))
plain_is (what.Cancel number done) other h = (refl, (h, refl))
plain_is (what.Recall to n) other h = (refl, (h, refl))
plain_is (what.Withdraw from n done) other h = (refl, (h, refl))
plain_is (what.Undone to n done) other h = (refl, (h, refl))
plain_is (what.Claim from n line) other h = (refl, (h, refl))
plain_is (what.Match number from n cap line) other h = (refl, (h, refl))
plain_is (what.Ran line answer) other h = absurd (other refl)

-- the words behind the name of this sort are those of what is told
record IsTold (s : Sort) (words : List (List ℕ)) (t : Said) : Type 0 where
  sort : sort_is t.what ≡ s
  words_are : words ≡ rest_of t.what t.len
  within : ToldIn t.what t.len

plain_told : (s : Sort) (words : List (List ℕ)) (t : Said) → (s ≡ sort.Ran → ⊥)
    → (plain_of s words >>= λ w. Some (record { what = w; len = 0 })) ≡ Some t → IsTold s words t
plain_told s words t other h =
    let b = bind_some (plain_of s words) _ t h in
    let p = plain_taken s words b.0 b.1 in
    let q = plain_is b.0 (λ e. other (sym p.sort ∙ e)) p.within in
    let is : record { what = b.0; len = 0 } ≡ t = cc (b.2) in
    let made : IsTold s words (record { what = b.0; len = 0 }) = record {
      sort = p.sort;
      words_are = p.words_are ∙ q.0;
      within = q.1;
    } in
    rw is at made

ran_told : (words : List (List ℕ)) (t : Said) → ran_of words ≡ Some t → IsTold sort.Ran words t
unfolding ran_of
ran_told [] t h = cc
ran_told (line_w ∷ words) t h =
    let b = bind_some (number_of (2 ^ 64) line_w) _ t h in
    let c = bind_some (answer_of words) _ t b.2 in
    let n = huge_taken b.0 line_w b.1 in
    let a = answer_taken words c.0 c.1 in
    let is : record { what = what.Ran b.0 c.0.0; len = c.0.1 } ≡ t = cc (c.2) in
    let made : IsTold sort.Ran (line_w ∷ words) (record { what = what.Ran b.0 c.0.0; len = c.0.1 }) =
    record {
      sort = refl;
      words_are = ap (λ w. w ∷ words) n.1 ∙ ap (λ ws. decimal b.0 ∷ ws) a.0;
      within = (n.0, a.1);
    } in
    rw is at made

told_taken : (s : Sort) (words : List (List ℕ)) (t : Said) → told_as s words ≡ Some t → IsTold s words t
unfolding told_as
told_taken sort.Send words t h = plain_told sort.Send words t (λ e. cc) h
told_taken sort.Post words t h = plain_told sort.Post words t (λ e. cc) h
told_taken sort.Arrive words t h = plain_told sort.Arrive words t (λ e. cc) h
told_taken sort.Whole words t h = plain_told sort.Whole words t (λ e. cc) h
told_taken sort.Out words t h = plain_told sort.Out words t (λ e. cc) h
told_taken sort.Cancel words t h = plain_told sort.Cancel words t (λ e. cc) h
told_taken sort.Recall words t h = plain_told sort.Recall words t (λ e. cc) h
told_taken sort.Withdraw words t h = plain_told sort.Withdraw words t (λ e. cc) h
told_taken sort.Undone words t h = plain_told sort.Undone words t (λ e. cc) h
told_taken sort.Claim words t h = plain_told sort.Claim words t (λ e. cc) h
told_taken sort.Match words t h = plain_told sort.Match words t (λ e. cc) h
told_taken sort.Ran words t h = ran_told words t h

-- four words and others, and equal ones
same_front : (a b c d e f g h : List ℕ) (ws vs : List (List ℕ)) → a ≡ e → b ≡ f → c ≡ g → d ≡ h → ws ≡ vs
    → a ∷ b ∷ c ∷ d ∷ ws ≡ e ∷ f ∷ g ∷ h ∷ vs
same_front a b c d e f g h ws vs p q r s t = cc (p, q, r, s, t)

-- an event that is read has these words
pub note_taken : (words : List (List ℕ)) (note : Note) → note_of words ≡ Some note
    → (words ≡ note_words note) × NoteIn note
unfolding note_of told_of
note_taken [] note h = cc
note_taken (at ∷ []) note h = cc
note_taken (at ∷ rank_w ∷ []) note h = cc
note_taken (at ∷ rank_w ∷ stamp_w ∷ []) note h = cc
note_taken (at ∷ rank_w ∷ stamp_w ∷ name ∷ words) note h =
    let g = guard_some (bytes_eq at (codes "@")) _ note h in
    let r = bind_some (number_of (2 ^ 8) rank_w) _ note g.1 in
    let t = bind_some (number_of (2 ^ 64) stamp_w) _ note r.2 in
    let o = bind_some (told_of name words) _ note t.2 in
    let s = bind_some (sort_of name) _ o.0 o.1 in
    let told = told_taken s.0 words o.0 s.2 in
    let rank = small_taken r.0 rank_w r.1 in
    let stamp = huge_taken t.0 stamp_w t.1 in
    let name_is : name ≡ sort_text (sort_is o.0.what) = sort_taken name s.0 s.1 ∙ ap sort_text
    (sym told.sort) in
    let is : record {
      rank = r.0;
      event = record { stamp = t.0; what = o.0.what };
      len = o.0.len;
    } ≡ note = cc (o.2) in
    let words_are = same_front _ _ _ _ _ _ _ _ _ _ (same_bytes at (codes "@") g.0) rank.1 stamp.1
    name_is told.words_are ∙ ap (λ ws. codes "@" ∷ decimal r.0 ∷ decimal t.0 ∷ ws)
    (sym (told_is o.0.what o.0.len)) in
    rw (← is) (words_are, record { rank = rank.0; stamp = stamp.0; what = told.within })
