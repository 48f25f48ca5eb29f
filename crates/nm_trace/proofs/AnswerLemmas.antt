-- Answers by their words, both ways.
use Rattle.std.proofs.Common.{◌≡◌, ℕ, ◌<◌, ◌^◌, inl, inr, Bool, true, List, [], ◌∷◌}
use Rattle.std.proofs.Common.{Some, refl, sym, ap, ◌∙◌, codes, decimal}
use Rattle.std.specs.Prelude.{find}
use Rattle.std.specs.List.{AllByRecursion}
use Rattle.std.specs.Str.{bytes_eq}
use Rattle.nm_types.specs.declared.answers.Answer.{Answer}
use Rattle.nm_types.specs.declared.answers.Answer.TheVariants as answer
use Rattle.nm_script.specs.Decimal.{number_of}
use Rattle.nm_script.proofs.WordsStepLemmas.{chosen}
use Rattle.nm_trace.specs.Events.{answer_of, lone_of, showing_of}
use Rattle.nm_trace.specs.Sorts.{lone_answer, lone_answers, lone_text}
use Rattle.nm_trace.specs.Notes.{spoken_words, BareIn}
use Rattle.nm_script.proofs.StepLemmas.{guard_some}
use Rattle.nm_trace.proofs.FieldLemmas.{bind_some, same_bytes, small_again, middle_again}
use Rattle.nm_trace.proofs.FieldLemmas.{large_again, long_again, small_taken, middle_taken}
use Rattle.nm_trace.proofs.FieldLemmas.{large_taken, long_taken}

-- the words of an answer that is bare, with this number of bytes, are read again
pub answer_again : (a : Answer) (len : ℕ) → BareIn a len → answer_of (spoken_words a len) ≡ Some (a, len)
unfolding answer_of lone_of showing_of lone_answer
answer_again answer.Started len h = rw h refl
answer_again answer.Busy len h = rw h refl
answer_again answer.Null len h = rw h refl
answer_again answer.No len h = rw h refl
answer_again answer.Nothing len h = rw h refl
answer_again answer.Sent len h = rw h refl
answer_again answer.Cancelled len h = rw h refl
answer_again answer.Done len h = rw h refl
answer_again answer.Late len h = rw h refl
answer_again answer.Asked len h = rw h refl
answer_again (answer.Got from tag body) len h =
    rw (small_again from h.0, middle_again tag h.1, long_again len h.2, h.3) refl
answer_again (answer.Cut from tag n) len h =
    rw (small_again from h.0, middle_again tag h.1, large_again n h.2, h.3) refl
answer_again (answer.Seen seen) len h =
    rw (small_again seen.from h.0, middle_again seen.tag h.1, large_again seen.len h.2, h.3) refl

-- what is found passes the test, and is as all of the list are
pub found_all : {A : Type 0} (P : A → Type 0) (p : A → Bool) (xs : List A) (x : A) → AllByRecursion P xs
    → find p xs ≡ Some x → (p x ≡ true) × P x
found_all P p [] x all h = cc
found_all P p (y ∷ xs) x all h =
    elim (chosen (p y) (Some y) (find p xs) (Some x) h) [
      | inl e ↦ let is : y ≡ x = cc (e.1) in rw (← is) (e.0, all.0)
      | inr e ↦ found_all P p xs x all.1 e.1
    ]

-- an answer of one word has this word, and no bytes
abbrev IsLone : Answer → Type 0
IsLone a = (spoken_words a 0 ≡ lone_text a ∷ []) × BareIn a 0

all_lone : AllByRecursion IsLone lone_answers
all_lone = (
  (refl, refl),
  (
    (refl, refl),
    (
      (refl, refl),
      (
        (refl, refl),
        (
          (refl, refl),
          (
            (refl, refl),
            (
              (refl, refl),
              ((refl, refl), ((refl, refl), ((refl, refl), tt))),
            ),
          ),
        ),
      ),
    ),
  ),
)

lone_taken : (word : List ℕ) (a : Answer × ℕ) → lone_of word ≡ Some a
    → (word ∷ [] ≡ spoken_words a.0 a.1) × BareIn a.0 a.1
unfolding lone_of lone_answer
lone_taken word a h =
    let b = bind_some (lone_answer word) _ a h in
    let is : (b.0, 0) ≡ a = cc (b.2) in
    let f = found_all IsLone (λ x. bytes_eq word (lone_text x)) lone_answers b.0 all_lone b.1 in
    let word_is = same_bytes word (lone_text b.0) f.0 in
    rw (← is) (ap (λ w. w ∷ []) word_is ∙ sym f.1.0, f.1.1)

-- four words and four equal ones
pub same_four : (a b c d e f g h : List ℕ) → a ≡ e → b ≡ f → c ≡ g → d ≡ h
    → a ∷ b ∷ c ∷ d ∷ [] ≡ e ∷ f ∷ g ∷ h ∷ []
same_four a b c d e f g h p q r s = cc (p, q, r, s)

module _ (name from_w tag_w len_w : List ℕ) (from tag : ℕ) (from_is : from_w ≡ decimal from)
    (tag_is : tag_w ≡ decimal tag) (small : from < 2 ^ 8) (middle : tag < 2 ^ 16) where
  showing_taken : (a : Answer × ℕ) → showing_of name from tag len_w ≡ Some a
      → (name ∷ from_w ∷ tag_w ∷ len_w ∷ [] ≡ spoken_words a.0 a.1) × BareIn a.0 a.1
  unfolding showing_of
  showing_taken a h =
      elim (chosen (bytes_eq name (codes "got")) _ _ (Some a) h) [
        | inl e ↦
            let b = bind_some (number_of (2 ^ 63) len_w) _ a e.1 in
            let n = long_taken b.0 len_w b.1 in
            let is : (answer.Got from tag [], b.0) ≡ a = cc (b.2) in
            rw (← is) (
              same_four _ _ _ _ _ _ _ _ (same_bytes name (codes "got") e.0) from_is tag_is n.1,
              (small, middle, n.0, refl),
            )
        | inr e ↦
            elim (chosen (bytes_eq name (codes "cut")) _ _ (Some a) e.1) [
              | inl f ↦
                  let b = bind_some (number_of (2 ^ 32) len_w) _ a f.1 in
                  let n = large_taken b.0 len_w b.1 in
                  let is : (answer.Cut from tag b.0, 0) ≡ a = cc (b.2) in
                  rw (← is) (
                    same_four _ _ _ _ _ _ _ _ (same_bytes name (codes "cut") f.0) from_is tag_is
                        n.1,
                    (small, middle, n.0, refl),
                  )
              | inr f ↦
                  let g = guard_some (bytes_eq name (codes "seen")) _ a f.1 in
                  let b = bind_some (number_of (2 ^ 32) len_w) _ a g.1 in
                  let n = large_taken b.0 len_w b.1 in
                  let is : (answer.Seen (record { from = from; tag = tag; len = b.0 }), 0) ≡ a = cc
                  (b.2) in
                  rw (← is) (
                    same_four _ _ _ _ _ _ _ _ (same_bytes name (codes "seen") g.0) from_is tag_is
                        n.1,
                    (small, middle, n.0, refl),
                  )
            ]
      ]

-- what is read is spelled so
pub answer_taken : (words : List (List ℕ)) (a : Answer × ℕ) → answer_of words ≡ Some a
    → (words ≡ spoken_words a.0 a.1) × BareIn a.0 a.1
unfolding answer_of
answer_taken [] a h = cc
answer_taken (w ∷ []) a h = lone_taken w a h
answer_taken (w ∷ x ∷ []) a h = cc
answer_taken (w ∷ x ∷ y ∷ []) a h = cc
answer_taken (name ∷ from_w ∷ tag_w ∷ len_w ∷ []) a h =
    let b = bind_some (number_of (2 ^ 8) from_w) _ a h in
    let c = bind_some (number_of (2 ^ 16) tag_w) _ a b.2 in
    let f = small_taken b.0 from_w b.1 in
    let t = middle_taken c.0 tag_w c.1 in
    showing_taken name from_w tag_w len_w b.0 c.0 f.1 t.1 f.0 t.0 a c.2
answer_taken (w ∷ x ∷ y ∷ z ∷ v ∷ more) a h = cc
