-- The lines of a trace are of words, with one space between each two.
use Rattle.std.proofs.Common.{◌≡◌, ℕ, ◌<◌, ◌^◌, ◌⊎◌, inl, inr, Bool, true, false, ◌&&◌, List, [], ◌∷◌, ◌++◌}
use Rattle.std.proofs.Common.{zero, suc, length, nat_le, refl, ◌∙◌, arith, decimal}
use Rattle.std.specs.Int.{IsInRange}
use Rattle.std.specs.List.{AllByRecursion, join_with_byte, list_all}
use Rattle.std.specs.Str.Parse.{AllDigits}
use Rattle.std.proofs.lemmas.Bool.{and_from, and_parts}
use Rattle.std.proofs.lemmas.Fmt.{decimal_is_IsNumeral}
use Rattle.std.proofs.lemmas.List.Folds.{list_all-append}
use Rattle.std.proofs.lemmas.Str.Parse.{digit_from_value}
use Rattle.hex.specs.Hex.{IsBytes, encode_lower}
use Rattle.nm_types.specs.declared.answers.Answer.{Answer}
use Rattle.nm_types.specs.declared.answers.Answer.TheVariants as answer
use Rattle.nm_types.specs.declared.messages.How.{How}
use Rattle.nm_types.specs.declared.messages.How.TheVariants as how
use Rattle.nm_types.specs.declared.messages.Peer.{Peer}
use Rattle.nm_types.specs.declared.messages.Peer.TheVariants as peer
use Rattle.nm_types.specs.declared.messages.TagPick.{TagPick}
use Rattle.nm_types.specs.declared.messages.TagPick.TheVariants as pick
use Rattle.nm_types.specs.Text.{peer_word, tag_word}
use Rattle.nm_history.specs.declared.events.Happened.{Happened}
use Rattle.nm_history.specs.declared.events.Happened.TheVariants as what
use Rattle.nm_report.specs.Answers.{answer_words, body_word}
use Rattle.nm_report.specs.Events.{done_word, event_words, how_word}
use Rattle.nm_script.specs.Lines.{is_printable, words_of}
use Rattle.nm_script.proofs.DigitLemmas.{all_lower}
use Rattle.nm_script.proofs.WordLemmas.{Solid, decimal_solid, is_solid, joined_printable, lower_solid}
use Rattle.nm_trace.specs.declared.notes.Note.{Note}
use Rattle.nm_trace.specs.Notes.{BareIn, NoteIn, ToldIn, note_words, spoken_words, told_words}
use Rattle.nm_trace.specs.Traces.{AnswerIn, PeerIn, PickIn, WhatIn}
use Rattle.nm_script.proofs.WordLemmas.{solid_no_space}

-- a word whose bytes may all stand in one
abbrev pub IsWord : List ℕ → Type 0
IsWord word = list_all is_solid word ≡ true

pub small_word : (n : ℕ) → n < 2 ^ 8 → IsWord (decimal n)
small_word n h = decimal_solid n (omega (arith, h))

pub middle_word : (n : ℕ) → n < 2 ^ 16 → IsWord (decimal n)
middle_word n h = decimal_solid n (omega (arith, h))

pub large_word : (n : ℕ) → n < 2 ^ 32 → IsWord (decimal n)
large_word n h = decimal_solid n (omega (arith, h))

pub long_word : (n : ℕ) → n < 2 ^ 63 → IsWord (decimal n)
long_word n h = decimal_solid n (omega (arith, h))

peer_solid : (p : Peer) → PeerIn p → IsWord (peer_word p)
peer_solid peer.Any h = refl
peer_solid (peer.One rank) h = small_word rank h

pick_solid : (t : TagPick) → PickIn t → IsWord (tag_word t)
pick_solid pick.Any h = refl
pick_solid (pick.One tag) h = middle_word tag h

how_solid : (h : How) → IsWord (how_word h)
how_solid how.Eager = refl
how_solid how.Ask = refl

done_solid : (d : Bool) → IsWord (done_word d)
done_solid true = refl
done_solid false = refl

pub answer_solid : (a : Answer) → AnswerIn a → Solid (answer_words a)
answer_solid answer.Started h = (refl, tt)
answer_solid answer.Busy h = (refl, tt)
answer_solid answer.Null h = (refl, tt)
answer_solid answer.No h = (refl, tt)
answer_solid answer.Nothing h = (refl, tt)
answer_solid answer.Sent h = (refl, tt)
answer_solid (answer.Got from tag body) h =
    (refl, (small_word from h.0, (middle_word tag h.1, (long_word (length body) h.2, tt))))
answer_solid (answer.Cut from tag n) h =
    (refl, (small_word from h.0, (middle_word tag h.1, (large_word n h.2, tt))))
answer_solid answer.Cancelled h = (refl, tt)
answer_solid (answer.Seen seen) h =
    (refl, (small_word seen.from h.0, (middle_word seen.tag h.1, (large_word seen.len h.2, tt))))
answer_solid answer.Done h = (refl, tt)
answer_solid answer.Late h = (refl, tt)
answer_solid answer.Asked h = (refl, tt)

pub event_solid : (w : Happened) → WhatIn w → Solid (event_words w)
event_solid (what.Send to n tag ctx size how line) h = (
  refl,
  (
    small_word to h.0,
    (
      decimal_solid n h.1,
      (
        middle_word tag h.2,
        (
          small_word ctx h.3,
          (large_word size h.4, (how_solid how, (decimal_solid line h.5, tt))),
        ),
      ),
    ),
  ),
)
event_solid (what.Post post line) h = (
  refl,
  (
    decimal_solid post.number h.0,
    (
      peer_solid post.from h.1,
      (
        pick_solid post.tag h.2,
        (small_word post.ctx h.3, (large_word post.cap h.4, (decimal_solid line h.5, tt))),
      ),
    ),
  ),
)
event_solid (what.Arrive a) h = (
  refl,
  (
    small_word a.env.from h.0,
    (
      decimal_solid a.n h.1,
      (
        middle_word a.env.tag h.2,
        (small_word a.env.ctx h.3, (large_word a.env.len h.4, (how_solid a.env.how, tt))),
      ),
    ),
  ),
)
event_solid (what.Whole from n) h = (refl, (small_word from h.0, (decimal_solid n h.1, tt)))
event_solid (what.Out to n) h = (refl, (small_word to h.0, (decimal_solid n h.1, tt)))
event_solid (what.Cancel number done) h = (refl, (decimal_solid number h, (done_solid done, tt)))
event_solid (what.Recall to n) h = (refl, (small_word to h.0, (decimal_solid n h.1, tt)))
event_solid (what.Withdraw from n done) h =
    (refl, (small_word from h.0, (decimal_solid n h.1, (done_solid done, tt))))
event_solid (what.Undone to n done) h =
    (refl, (small_word to h.0, (decimal_solid n h.1, (done_solid done, tt))))
event_solid (what.Claim from n line) h =
    (refl, (small_word from h.0, (decimal_solid n h.1, (decimal_solid line h.2, tt))))
event_solid (what.Match number from n cap line) h = (
  refl,
  (
    decimal_solid number h.0,
    (
      small_word from h.1,
      (
        decimal_solid n h.2,
        (large_word cap h.3, (decimal_solid line h.4, tt)),
      ),
    ),
  ),
)
event_solid (what.Ran line a) h = (refl, (decimal_solid line h.0, answer_solid a h.1))

spoken_solid : (a : Answer) (len : ℕ) → BareIn a len → Solid (spoken_words a len)
spoken_solid answer.Started len h = (refl, tt)
spoken_solid answer.Busy len h = (refl, tt)
spoken_solid answer.Null len h = (refl, tt)
spoken_solid answer.No len h = (refl, tt)
spoken_solid answer.Nothing len h = (refl, tt)
spoken_solid answer.Sent len h = (refl, tt)
spoken_solid (answer.Got from tag body) len h =
    (refl, (small_word from h.0, (middle_word tag h.1, (long_word len h.2, tt))))
spoken_solid (answer.Cut from tag n) len h =
    (refl, (small_word from h.0, (middle_word tag h.1, (large_word n h.2, tt))))
spoken_solid answer.Cancelled len h = (refl, tt)
spoken_solid (answer.Seen seen) len h =
    (refl, (small_word seen.from h.0, (middle_word seen.tag h.1, (large_word seen.len h.2, tt))))
spoken_solid answer.Done len h = (refl, tt)
spoken_solid answer.Late len h = (refl, tt)
spoken_solid answer.Asked len h = (refl, tt)

told_solid : (w : Happened) (len : ℕ) → ToldIn w len → Solid (told_words w len)
told_solid (what.Send to n tag ctx size how line) len h =
    event_solid (what.Send to n tag ctx size how line) h.0
told_solid (what.Post post line) len h = event_solid (what.Post post line) h.0
told_solid (what.Arrive a) len h = event_solid (what.Arrive a) h.0
told_solid (what.Whole from n) len h = event_solid (what.Whole from n) h.0
told_solid (what.Out to n) len h = event_solid (what.Out to n) h.0
told_solid (what.Cancel number done) len h = event_solid (what.Cancel number done) h.0
told_solid (what.Recall to n) len h = event_solid (what.Recall to n) h.0
told_solid (what.Withdraw from n done) len h = event_solid (what.Withdraw from n done) h.0
told_solid (what.Undone to n done) len h = event_solid (what.Undone to n done) h.0
told_solid (what.Claim from n line) len h = event_solid (what.Claim from n line) h.0
told_solid (what.Match number from n cap line) len h =
    event_solid (what.Match number from n cap line) h.0
told_solid (what.Ran line a) len h = (refl, (decimal_solid line h.0, spoken_solid a len h.1))

-- the words of a note's line
pub note_solid : (note : Note) → NoteIn note → Solid (note_words note)
note_solid note h = (
  refl,
  (
    small_word note.rank h.rank,
    (
      decimal_solid note.event.stamp h.stamp,
      told_solid note.event.what note.len h.what,
    ),
  ),
)

pub got_bytes : (bytes : List ℕ) → AllByRecursion (λ b. b < 2 ^ 8) bytes → IsBytes bytes
got_bytes [] h i = omega arith
got_bytes (b ∷ bytes) h zero = h.0
got_bytes (b ∷ bytes) h (suc i) = got_bytes bytes h.1 i

word_prints : (word : List ℕ) → IsWord word → is_printable word ≡ true
word_prints word h = joined_printable word [] (h, tt)

body_prints : (a : Answer) → AnswerIn a → is_printable (body_word a) ≡ true
body_prints answer.Started h = refl
body_prints answer.Busy h = refl
body_prints answer.Null h = refl
body_prints answer.No h = refl
body_prints answer.Nothing h = refl
body_prints answer.Sent h = refl
body_prints (answer.Got from tag body) h =
    word_prints (encode_lower body)
    (lower_solid (encode_lower body) (all_lower body (got_bytes body h.3)))
body_prints (answer.Cut from tag n) h = refl
body_prints answer.Cancelled h = refl
body_prints (answer.Seen seen) h = refl
body_prints answer.Done h = refl
body_prints answer.Late h = refl
body_prints answer.Asked h = refl

pub answer_prints : (rank line : ℕ) (a : Answer) → rank < 2 ^ 8 → line < 2 ^ 64 → AnswerIn a
    → is_printable (join_with_byte 32 (decimal rank ∷ decimal line ∷ answer_words a) ++ body_word a) ≡ true
answer_prints rank line a small large h =
    let words = decimal line ∷ answer_words a in
    list_all-append (λ b. nat_le 32 b && nat_le b 126) (join_with_byte 32 (decimal rank ∷ words)) (body_word a)
    ∙ and_from _ _ (joined_printable (decimal rank) words
    (small_word rank small, (decimal_solid line large, answer_solid a h))) (body_prints a h)

-- a digit comes first, and the word up to the space
digit_first : (ds x y : List ℕ) (c : ℕ) → AllDigits 10 ds → ds ++ 32 ∷ x ≡ c ∷ y → (c ≡ 32) ⊎ IsInRange 48 57 c
digit_first [] x y c h e = inl (cc (e))
digit_first (d ∷ ds) x y c h e =
    let same : d ≡ c = cc (e) in
    inr (rw (← same) (digit_from_value d h.0))

pub starts_with : (n : ℕ) (x y : List ℕ) (c : ℕ) → n < 2 ^ 64 → decimal n ++ 32 ∷ x ≡ c ∷ y
    → (c ≡ 32) ⊎ IsInRange 48 57 c
starts_with n x y c h e = digit_first (decimal n) x y c (decimal_is_IsNumeral n h).0.1 e

pub split_word : (word bytes : List ℕ) → IsWord word → words_of (word ++ 32 ∷ bytes) ≡ word ∷ words_of bytes
split_word [] bytes solid = refl
split_word (b ∷ word) bytes solid =
    let p = and_parts (is_solid b) (list_all is_solid word) solid in
    rw (solid_no_space b p.0) (rw (split_word word bytes p.1) refl)
