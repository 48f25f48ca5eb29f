-- Lines, split and joined.
use Rattle.std.proofs.Common.{◌≡◌, ℕ, zero, suc, ◌+◌, ◌-◌, ◌<◌, ◌≤◌, ◌⊎◌, inl, inr, Bool, true, false}
use Rattle.std.proofs.Common.{◌&&◌, List, [], ◌∷◌, ◌++◌, length, get_or, take, drop, cond, nat_lt, Some, None}
use Rattle.std.proofs.Common.{refl, sym}
use Rattle.std.proofs.Common.{ap, ◌∙◌, arith, eqb, leb, add-one, append_assoc, length-append}
use Rattle.std.proofs.Common.{length-drop}
use Rattle.std.specs.List.{join_with_byte, onto_first, list_all, position, position_or_len}
use Rattle.std.proofs.lemmas.Bool.{and_parts, false≢true, eq-eqb, ne_eqb, eqb-true, lt-ltb}
use Rattle.std.proofs.lemmas.Bool.Decides.{nat_tests}
use Rattle.std.proofs.lemmas.List.{take_all}
use Rattle.std.proofs.lemmas.List.Folds.{list_all-append}
use Rattle.std.proofs.lemmas.List.Quantifiers.{position-Some}
use Rattle.std.proofs.lemmas.List.Sums.{fails_before_first}
use Rattle.nm_script.specs.Lines.{ended_lines, is_fed, is_printable, lines_of, text_len}
use Rattle.nm_script.proofs.WordsStepLemmas.{chosen}

-- a line that a line feed ends
pub lines_cut : (bs : List ℕ) (i : ℕ) → i < length bs → ((k : ℕ) → k < i → get_or bs k 0 ≡ 10 → ⊥)
    → get_or bs i 0 ≡ 10 → lines_of bs ≡ take i bs ∷ lines_of (drop (i + 1) bs)
lines_cut [] i within none here = absurd (omega arith)
lines_cut (b ∷ bs) zero within none here = rw (eq-eqb b 10 here) refl
lines_cut (b ∷ bs) (suc i) within none here =
    let rest = lines_cut bs i (omega arith) (λ k h e. none (suc k) (omega arith) e) here in
    rw (ne_eqb b 10 (λ e. none 0 (omega arith) e)) (rw rest (simp add-one))

-- a last line without one
pub lines_last : (bs : List ℕ) → 0 < length bs → ((k : ℕ) → k < length bs → get_or bs k 0 ≡ 10 → ⊥)
    → lines_of bs ≡ bs ∷ []
lines_last [] some none = absurd (omega arith)
lines_last (b ∷ []) some none = rw (ne_eqb b 10 (λ e. none 0 (omega arith) e)) refl
lines_last (b ∷ c ∷ bs) some none =
    let rest = lines_last (c ∷ bs) (omega arith) (λ k h e. none (suc k) (omega arith) e) in
    rw (ne_eqb b 10 (λ e. none 0 (omega arith) e)) (rw rest refl)

-- a byte that isn't a line feed
no_feed : (b : ℕ) → eqb b 10 ≡ false → b ≡ 10 → ⊥
no_feed b other here = false≢true (sym other ∙ eq-eqb b 10 here)

-- the lines of bytes whose first line feed stands at a place
pub lines_at : (bs : List ℕ) (i : ℕ) → position (λ b. eqb b 10) bs ≡ Some i
    → lines_of bs ≡ take i bs ∷ lines_of (drop (i + 1) bs)
lines_at bs i found =
    let p = position-Some (λ b. eqb b 10) bs i 0 found in
    lines_cut bs i p.0 (λ k before here. no_feed (get_or bs k 0) (p.2 k before) here)
    (eqb-true (get_or bs i 0) 10 p.1)

-- and of bytes that have none
pub lines_whole : (bs : List ℕ) → 0 < length bs → position (λ b. eqb b 10) bs ≡ None
    → lines_of bs ≡ bs ∷ []
lines_whole bs some none =
    let past = position_or_len (λ b. eqb b 10) bs in
    elim (chosen (nat_lt past (length bs)) (Some past) None None none) [
      | inl p ↦ cc (p.1)
      | inr p ↦
          let all : length bs ≤ past = grind (arith, nat_tests, p.0) in
          lines_last bs some (λ k within here.
          no_feed (get_or bs k 0) (fails_before_first (λ b. eqb b 10) bs k 0 (omega (arith, all, within))) here)
    ]

-- the range of the code is what is left
pub rest_is : (n : ℕ) (bs : List ℕ) → take (length bs - n) (drop n bs) ≡ drop n bs
rest_is n bs = take_all _ _ (omega (arith, length-drop n bs))

printable_no_feed : (b : ℕ) → (leb 32 b && leb b 126) ≡ true → eqb b 10 ≡ false
printable_no_feed b h = grind (arith, nat_tests)

-- a printable line that a line feed ends
line_again : (line bs : List ℕ) → is_printable line ≡ true → lines_of (line ++ 10 ∷ bs) ≡ line ∷ lines_of bs
line_again [] bs h = refl
line_again (b ∷ line) bs h =
    let p = and_parts (leb 32 b && leb b 126) (is_printable line) h in
    rw (printable_no_feed b p.0) (rw (line_again line bs p.1) refl)

-- printable lines that are ended are split again
lines_again : (lines : List (List ℕ)) → list_all is_printable lines ≡ true
    → lines_of (ended_lines lines) ≡ lines
lines_again [] h = refl
lines_again (line ∷ lines) h =
    let p = and_parts (is_printable line) (list_all is_printable lines) h in
    let regrouped : (line ++ 10 ∷ []) ++ ended_lines lines ≡ line ++ 10 ∷ ended_lines lines =
    append_assoc line (10 ∷ []) (ended_lines lines) in
    ap lines_of regrouped ∙ line_again line (ended_lines lines) p.0 ∙ ap (λ ls. line ∷ ls)
    (lines_again lines p.1)

is_fed-cons : (b c : ℕ) (bs : List ℕ) → is_fed (b ∷ c ∷ bs) ≡ is_fed (c ∷ bs)
is_fed-cons b c bs =
    let n : length (b ∷ c ∷ bs) - 1 ≡ suc (length (c ∷ bs) - 1) = omega arith in
    let more : nat_lt 0 (length (b ∷ c ∷ bs)) ≡ true = lt-ltb 0 (length (b ∷ c ∷ bs)) (omega arith) in
    let some : nat_lt 0 (length (c ∷ bs)) ≡ true = lt-ltb 0 (length (c ∷ bs)) (omega arith) in
    rw (more, some, n) refl

some_of : (t : Bool) (b : ℕ) (ls : List (List ℕ)) → 0 < length (cond t ([] ∷ ls) (onto_first b ls))
some_of true b ls = omega arith
some_of false b [] = omega arith
some_of false b (l ∷ ls) = omega arith

one_ended : (t : Bool) (b : ℕ) → (t ≡ true → b ≡ 10)
    → ended_lines (cond t ([] ∷ []) ((b ∷ []) ∷ [])) ≡ cond t (b ∷ []) (b ∷ 10 ∷ [])
one_ended true b h = ap (λ x. x ∷ []) (sym (h refl))
one_ended false b h = refl

more_ended : (t : Bool) (b : ℕ) (ls : List (List ℕ)) → (t ≡ true → b ≡ 10) → 0 < length ls
    → ended_lines (cond t ([] ∷ ls) (onto_first b ls)) ≡ b ∷ ended_lines ls
more_ended true b ls h s = ap (λ x. x ∷ ended_lines ls) (sym (h refl))
more_ended false b [] h s = absurd (omega arith)
more_ended false b (l ∷ ls) h s = refl

cons_choice : (f : Bool) (b : ℕ) (bs : List ℕ)
    → b ∷ cond f bs (bs ++ 10 ∷ []) ≡ cond f (b ∷ bs) (b ∷ bs ++ 10 ∷ [])
cons_choice true b bs = refl
cons_choice false b bs = refl

-- the lines, each ended, are the bytes with a line feed at their end
pub joined : (bs : List ℕ) → 0 < length bs → ended_lines (lines_of bs) ≡ cond (is_fed bs) bs (bs ++ 10 ∷ [])
joined [] h = absurd (omega arith)
joined (b ∷ []) h = one_ended (eqb b 10) b (eqb-true b 10)
joined (b ∷ c ∷ bs) h =
    more_ended (eqb b 10) b (lines_of (c ∷ bs)) (eqb-true b 10) (some_of (eqb c 10) c (lines_of bs))
    ∙ ap (λ xs. b ∷ xs) (joined (c ∷ bs) (omega arith)) ∙ cons_choice (is_fed (c ∷ bs)) b (c ∷ bs)
    ∙ ap (λ t. cond t (b ∷ c ∷ bs) (b ∷ c ∷ bs ++ 10 ∷ [])) (sym (is_fed-cons b c bs))

length-choice : (t : Bool) (bs : List ℕ)
    → length (cond t bs (bs ++ 10 ∷ [])) ≡ cond t (length bs) (length bs + 1)
length-choice true bs = refl
length-choice false bs = length-append bs (10 ∷ [])

-- and that is how long the text is
pub text_len-lines : (bs : List ℕ) → 0 < length bs → length (ended_lines (lines_of bs)) ≡ text_len bs
text_len-lines bs h = ap length (joined bs h) ∙ length-choice (is_fed bs) bs

pub joined_either : (bs : List ℕ) → 0 < length bs
    → (bs ≡ ended_lines (lines_of bs)) ⊎ (bs ++ 10 ∷ [] ≡ ended_lines (lines_of bs))
joined_either bs h =
    elim (chosen (is_fed bs) bs (bs ++ 10 ∷ []) (ended_lines (lines_of bs)) (sym (joined bs h))) [
      | inl p ↦ inl p.1
      | inr p ↦ inr p.1
    ]

one_more_feed : (t : Bool) (b : ℕ)
    → cond t ([] ∷ [] ∷ []) ((b ∷ []) ∷ []) ≡ cond t (cond t ([] ∷ []) ((b ∷ []) ∷ []) ++ [] ∷ [])
    (cond t ([] ∷ []) ((b ∷ []) ∷ []))
one_more_feed true b = refl
one_more_feed false b = refl

more_fed : (t f : Bool) (b : ℕ) (ls : List (List ℕ)) → 0 < length ls
    → cond t ([] ∷ cond f (ls ++ [] ∷ []) ls) (onto_first b (cond f (ls ++ [] ∷ []) ls)) ≡ cond f
    (cond t ([] ∷ ls) (onto_first b ls) ++ [] ∷ []) (cond t ([] ∷ ls) (onto_first b ls))
more_fed t f b [] h = absurd (omega arith)
more_fed true true b (l ∷ ls) h = refl
more_fed true false b (l ∷ ls) h = refl
more_fed false true b (l ∷ ls) h = refl
more_fed false false b (l ∷ ls) h = refl

-- a line feed more ends the last line, or is an empty line
fed_more : (bs : List ℕ) → 0 < length bs
    → lines_of (bs ++ 10 ∷ []) ≡ cond (is_fed bs) (lines_of bs ++ [] ∷ []) (lines_of bs)
fed_more [] h = absurd (omega arith)
fed_more (b ∷ []) h = one_more_feed (eqb b 10) b
fed_more (b ∷ c ∷ bs) h =
    ap (λ ls. cond (eqb b 10) ([] ∷ ls) (onto_first b ls)) (fed_more (c ∷ bs) (omega arith))
    ∙ more_fed (eqb b 10) (is_fed (c ∷ bs)) b (lines_of (c ∷ bs)) (some_of (eqb c 10) c (lines_of bs))
    ∙ ap (λ t. cond t (lines_of (b ∷ c ∷ bs) ++ [] ∷ []) (lines_of (b ∷ c ∷ bs))) (sym (is_fed-cons b c bs))

-- no line is empty
abbrev pub is_some_line : List ℕ → Bool
is_some_line line = nat_lt 0 (length line)

-- bytes that with a line feed more are printable lines, each ended and none empty, have these lines
pub lines_fed : (bs : List ℕ) (lines : List (List ℕ)) → 0 < length bs
    → list_all is_printable lines ≡ true → list_all is_some_line lines ≡ true
    → bs ++ 10 ∷ [] ≡ ended_lines lines → lines_of bs ≡ lines
lines_fed bs lines h printable some e =
    elim (chosen (is_fed bs) (lines_of bs ++ [] ∷ []) (lines_of bs) lines
    (sym (fed_more bs h) ∙ ap lines_of e ∙ lines_again lines printable)) [
      | inl p ↦
          let last : (list_all is_some_line (lines_of bs) && false) ≡ true = sym
          (list_all-append is_some_line (lines_of bs) ([] ∷ [])) ∙ ap (list_all is_some_line)
          p.1 ∙ some in
          let no = (and_parts (list_all is_some_line (lines_of bs)) false last).1 in cc
      | inr p ↦ p.1
    ]

pub lines_split : (bs : List ℕ) (lines : List (List ℕ)) → list_all is_printable lines ≡ true
    → bs ≡ ended_lines lines → lines_of bs ≡ lines
lines_split bs lines printable e = ap lines_of e ∙ lines_again lines printable

-- a line that begins with a word is not empty
pub some_joined : (word : List ℕ) (ws : List (List ℕ)) → 0 < length word
    → is_some_line (join_with_byte 32 (word ∷ ws)) ≡ true
some_joined word [] h = lt-ltb 0 (length word) h
some_joined word (next ∷ ws) h =
    let rest = 32 ∷ join_with_byte 32 (next ∷ ws) in
    lt-ltb 0 (length (word ++ rest)) (omega (arith, length-append word rest))
