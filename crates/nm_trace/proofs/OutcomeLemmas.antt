-- What a text tells, line by line.
use Rattle.std.proofs.Common.{◌≡◌, ℕ, ◌+◌, ◌⊎◌, inl, inr, false, List, [], ◌∷◌, Option, Some}
use Rattle.std.proofs.Common.{None, Err, refl, sym, ap, ◌∙◌, eqb}
use Rattle.nm_script.proofs.WordsStepLemmas.{chosen}
use Rattle.nm_trace.specs.Lines.{cut_lines, first_line}
use Rattle.nm_trace.specs.Machine.{Stage, feed}
use Rattle.nm_trace.specs.Outcome.{at_end, told, line_as}
use Rattle.nm_trace.proofs.FieldLemmas.{bind_some}
use Rattle.nm_types.proofs.OptionLemmas.{mapped_none, mapped_some}

abbrev some_of : {A B : Type 0} → A × B → Option (A × B) → A × B
some_of other None = other
some_of other (Some pair) = pair

pub same_pair : {A B : Type 0} (a c : A) (b d : B)
    → ◌≡◌ {A = Option (A × B)} (Some (a, b)) (Some (c, d)) → (a ≡ c) × (b ≡ d)
same_pair {A = A} {B = B} a c b d h =
    let e : ◌≡◌ {A = A × B} (a, b) (c, d) = ap (some_of {A = A} {B = B} (a, b)) h in
    (ap (λ (p : A × B). p.0) e, ap (λ (p : A × B). p.1) e)

-- a line, and what is cut of the bytes behind it
abbrev cut_at : List ℕ → List ℕ → List (List ℕ) × List ℕ
cut_at line rest = (line ∷ (cut_lines rest).0, (cut_lines rest).1)

cut_more : (b : ℕ) (bytes line rest : List ℕ) → cut_lines bytes ≡ cut_at line rest → eqb b 10 ≡ false
    → cut_lines (b ∷ bytes) ≡ cut_at (b ∷ line) rest
cut_more b bytes line rest h other = rw other (rw h refl)

-- the first line is the first that is cut
pub cut_first : (bytes line rest : List ℕ) → first_line bytes ≡ Some (line, rest)
    → cut_lines bytes ≡ cut_at line rest
cut_first [] line rest h = cc
cut_first (b ∷ bytes) line rest h =
    elim (chosen (eqb b 10) _ _ (Some (line, rest)) h) [
      | inl e ↦
          let same = same_pair [] line bytes rest e.1 in
          rw (e.0, ← same.0, ← same.1) refl
      | inr e ↦
          let m = mapped_some (λ (cut : List ℕ × List ℕ). (b ∷ cut.0, cut.1)) (first_line bytes) (line, rest) e.1 in
          let same = same_pair (b ∷ m.0.0) line m.0.1 rest (ap Some m.2) in
          cut_more b bytes m.0.0 m.0.1 (cut_first bytes m.0.0 m.0.1 m.1) e.0
          ∙ ap (λ (l : List ℕ). cut_at l m.0.1) same.0 ∙ ap (λ (r : List ℕ). cut_at line r) same.1
    ]

-- where no line is whole, nothing is cut
pub cut_none : (bytes : List ℕ) → first_line bytes ≡ None → cut_lines bytes ≡ ([], bytes)
cut_none [] h = refl
cut_none (b ∷ bytes) h =
    elim (chosen (eqb b 10) _ _ None h) [
      | inl e ↦ cc (e.1)
      | inr e ↦
          let none = mapped_none (λ (cut : List ℕ × List ℕ). (b ∷ cut.0, cut.1)) (first_line bytes) e.1 in
          rw e.0 (rw (cut_none bytes none) refl)
    ]

-- a line that is taken
pub told_taken : (ranks : ℕ) (s : Stage) (bytes : List ℕ) (number : ℕ) (line rest : List ℕ) (t : Stage)
    → first_line bytes ≡ Some (line, rest) → feed ranks s line ≡ Some t
    → told ranks s bytes number ≡ told ranks t rest (number + 1)
unfolding told
told_taken ranks s bytes number line rest t first taken =
    rw (cut_first bytes line rest first) (rw taken refl)

-- a line that is not
pub told_refused : (ranks : ℕ) (s : Stage) (bytes : List ℕ) (number : ℕ) (line rest : List ℕ)
    → first_line bytes ≡ Some (line, rest) → feed ranks s line ≡ None
    → told ranks s bytes number ≡ Err number
unfolding told
told_refused ranks s bytes number line rest first refused =
    rw (cut_first bytes line rest first) (rw refused refl)

-- no line
pub told_none : (ranks : ℕ) (s : Stage) (bytes : List ℕ) (number : ℕ) → first_line bytes ≡ None
    → told ranks s bytes number ≡ at_end s bytes number
unfolding told
told_none ranks s bytes number none = rw (cut_none bytes none) refl

-- the first line, if there is one
pub first_or_none : (cut : Option (List ℕ × List ℕ))
    → (cut ≡ None) ⊎ ((line : List ℕ) × (rest : List ℕ) × (cut ≡ Some (line, rest)))
first_or_none None = inl refl
first_or_none (Some cut) = inr (cut.0, cut.1, refl)

-- the step, if there is one
pub some_or_none : {A : Type 0} (o : Option A) → (o ≡ None) ⊎ ((x : A) × (o ≡ Some x))
some_or_none None = inl refl
some_or_none (Some x) = inr (x, refl)

-- two states that take the first line alike, and no line alike
pub told_same : (ranks : ℕ) (s t : Stage) (bytes : List ℕ) (number : ℕ)
    → at_end s bytes number ≡ at_end t bytes number
    → ((line rest : List ℕ) → first_line bytes ≡ Some (line, rest) → feed ranks s line ≡ feed ranks t line)
    → told ranks s bytes number ≡ told ranks t bytes number
told_same ranks s t bytes number ends same =
    elim (first_or_none (first_line bytes)) [
      | inl none ↦ told_none ranks s bytes number none ∙ ends ∙ sym (told_none ranks t bytes number none)
      | inr f ↦
          let alike = same f.0 f.1 f.2 in
          elim (some_or_none (feed ranks t f.0)) [
            | inl none ↦
                told_refused ranks s bytes number f.0 f.1 f.2 (alike ∙ none)
                ∙ sym (told_refused ranks t bytes number f.0 f.1 f.2 none)
            | inr x ↦
                told_taken ranks s bytes number f.0 f.1 x.0 f.2 (alike ∙ x.1)
                ∙ sym (told_taken ranks t bytes number f.0 f.1 x.0 f.2 x.1)
          ]
    ]

-- a first line that is read
pub read_some : {A : Type 0} (read : List ℕ → Option A) (bytes rest : List ℕ) (x : A)
    → line_as read bytes ≡ Some (x, rest)
    → (line : List ℕ) × (first_line bytes ≡ Some (line, rest)) × (read line ≡ Some x)
read_some read bytes rest x h =
    let cut = bind_some (first_line bytes) _ (x, rest) h in
    let y = bind_some (read cut.0.0) _ (x, rest) cut.2 in
    let same = same_pair y.0 x cut.0.1 rest y.2 in (
      cut.0.0,
      cut.1 ∙ ap (λ (r : List ℕ). Some (cut.0.0, r)) same.1,
      y.1 ∙ ap (λ z. Some z) same.0,
    )

-- a first line that is not read, if there is one
pub read_none : {A : Type 0} (read : List ℕ → Option A) (bytes line rest : List ℕ)
    → line_as read bytes ≡ None → first_line bytes ≡ Some (line, rest) → read line ≡ None
read_none read bytes line rest h first =
    elim (some_or_none (read line)) [
      | inl none ↦ none
      | inr x ↦
          let some : line_as read bytes ≡ Some (x.0, rest) = rw first (rw (x.1) refl) in
          cc (h, some)
    ]

-- a first line that is read, where what it is read as makes a state
pub told_read : {A : Type 0} (ranks : ℕ) (read : List ℕ → Option A) (next : A → Stage) (s : Stage)
    (bytes : List ℕ) (number : ℕ) (x : A) (rest : List ℕ)
    → ((line : List ℕ) → read line ≡ Some x → feed ranks s line ≡ Some (next x))
    → line_as read bytes ≡ Some (x, rest)
    → told ranks s bytes number ≡ told ranks (next x) rest (number + 1)
told_read ranks read next s bytes number x rest feeds h =
    let r = read_some read bytes rest x h in
    told_taken ranks s bytes number r.0 rest (next x) r.1 (feeds r.0 r.2)

-- a first line that is not read, where no other line is taken
pub told_stops : {A : Type 0} (ranks : ℕ) (read : List ℕ → Option A) (s : Stage) (bytes : List ℕ) (number : ℕ)
    → at_end s bytes number ≡ Err number
    → ((line : List ℕ) → read line ≡ None → feed ranks s line ≡ None)
    → line_as read bytes ≡ None → told ranks s bytes number ≡ Err number
told_stops ranks read s bytes number ends feeds h =
    elim (first_or_none (first_line bytes)) [
      | inl none ↦ told_none ranks s bytes number none ∙ ends
      | inr f ↦
          told_refused ranks s bytes number f.0 f.1 f.2
          (feeds f.0 (read_none read bytes f.0 f.1 h f.2))
    ]

-- a first line that is not read, where the other state takes it alike
pub told_passes : {A : Type 0} (ranks : ℕ) (read : List ℕ → Option A) (s t : Stage) (bytes : List ℕ)
    (number : ℕ) → at_end s bytes number ≡ at_end t bytes number
    → ((line : List ℕ) → read line ≡ None → feed ranks s line ≡ feed ranks t line)
    → line_as read bytes ≡ None → told ranks s bytes number ≡ told ranks t bytes number
told_passes ranks read s t bytes number ends feeds h =
    told_same ranks s t bytes number ends
    (λ line rest first. feeds line (read_none read bytes line rest h first))
