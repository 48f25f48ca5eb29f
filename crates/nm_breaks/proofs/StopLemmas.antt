-- What stops a text that is no trace.
use Rattle.std.proofs.Common.{◌≡◌, inl, inr, ℕ, zero, suc, ◌+◌, ◌-◌, ◌<◌, ◌≤◌, ◌==◌, Bool, true, false, cond, Some, Option}
use Rattle.std.proofs.Common.{List, [], ◌∷◌, ◌++◌, codes, drop, length, take, refl, sym, ◌∙◌, ap, subst, arith}
use Rattle.std.proofs.Common.{append_assoc, length-append}
use Rattle.std.specs.Prelude.{IsSomeAnd, filter, nat_lt, slice_get}
use Rattle.std.specs.Char.{is_ascii_digit}
use Rattle.std.proofs.lemmas.Bool.{eqb-true}
use Rattle.std.proofs.lemmas.Bool.Decides.{nat_tests}
use Rattle.std.proofs.lemmas.Grind.{flat_map-append}
use Rattle.std.proofs.lemmas.List.{take-append-drop, take_all}
use Rattle.nm_types.proofs.ListLemmas.{no_item}
use Rattle.nm_types.proofs.OptionLemmas.{same_some}
use Rattle.nm_types.specs.Sizes.{Sizes}
use Rattle.nm_lookups.specs.Deciding.{Decides}
use Rattle.nm_script.specs.Lines.{ended_lines, is_fed, lines_of, text_len}
use Rattle.nm_script.proofs.LineLemmas.{text_len-lines}
use Rattle.nm_trace.specs.Lines.{cut_lines, onto_lines, whole_lines}
use Rattle.nm_trace.specs.Traces.{Begins, IsFirstBad, IsTraceOf}
use Rattle.nm_shell.specs.Inputs.{IsDivider, IsCut}
use Rattle.nm_breaks.specs.Stops.{IsLineStop, IsStop, lines_in, zeroed}
use Rattle.nm_breaks.specs.declared.stops.Stop.{Stop}
use Rattle.nm_breaks.specs.declared.stops.Stop.TheVariants as stop

-- each line feed ends one line
many : (bytes : List ℕ) → length (whole_lines bytes) ≡ lines_in bytes
many [] = refl
many (b ∷ bytes) = by_byte (b == 10) (many bytes)
  where
    onto : (lines : List (List ℕ)) (behind : List ℕ) → length (onto_lines b lines behind).0 ≡ length lines
    onto [] behind = refl
    onto (line ∷ lines) behind = refl

    by_byte : (feed : Bool) → length (whole_lines bytes) ≡ lines_in bytes →
        length (cond feed ([] ∷ (cut_lines bytes).0, (cut_lines bytes).1)
        (onto_lines b (cut_lines bytes).0 (cut_lines bytes).1)).0
        ≡ length (cond feed (b ∷ filter (λ b. b == 10) bytes) (filter (λ b. b == 10) bytes))
    by_byte true more = omega (arith, more)
    by_byte false more = onto (cut_lines bytes).0 (cut_lines bytes).1 ∙ more

-- a text that ends with a line feed is its lines, each ended
again : (line : List ℕ) → ended_lines (whole_lines (line ++ 10 ∷ [])) ≡ line ++ 10 ∷ []
again [] = refl
again (b ∷ line) = by_byte (b == 10) (eqb-true b 10) (again line)
  where
    onto : (lines : List (List ℕ)) (behind : List ℕ) → ended_lines lines ≡ line ++ 10 ∷ [] →
        ended_lines (onto_lines b lines behind).0 ≡ b ∷ (line ++ 10 ∷ [])
    onto [] behind is =
        let none : 0 ≡ length (line ++ 10 ∷ []) = ap (λ (xs : List ℕ). length xs) is in
        let some : length (line ++ 10 ∷ []) ≡ length line + 1 = length-append line (10 ∷ []) in
        absurd (omega (arith, none, some))
    onto (first ∷ lines) behind is = ap (λ (xs : List ℕ). b ∷ xs) is

    by_byte : (feed : Bool) → (feed ≡ true → b ≡ 10) →
        ended_lines (whole_lines (line ++ 10 ∷ [])) ≡ line ++ 10 ∷ [] →
        ended_lines (cond feed ([] ∷ (cut_lines (line ++ 10 ∷ [])).0, (cut_lines (line ++ 10 ∷ [])).1)
        (onto_lines b (cut_lines (line ++ 10 ∷ [])).0 (cut_lines (line ++ 10 ∷ [])).1)).0
        ≡ b ∷ (line ++ 10 ∷ [])
    by_byte true is more =
        ap (λ (xs : List ℕ). 10 ∷ xs) more ∙ ap (λ (x : ℕ). x ∷ (line ++ 10 ∷ [])) (sym (is refl))
    by_byte false is more = onto (cut_lines (line ++ 10 ∷ [])).0 (cut_lines (line ++ 10 ∷ [])).1 more

-- a trace that begins with a text begins with a front of it
begins_of : (shape : Sizes) (text front more : List ℕ) → front ++ more ≡ text → Begins shape text → Begins shape front
begins_of shape text front more is (run, rest, trace) = (
  run,
  more ++ rest,
  subst (λ (xs : List ℕ). IsTraceOf shape xs run)
      (sym (ap (λ (xs : List ℕ). xs ++ rest) is) ∙ append_assoc front more rest) trace,
)

module _ (shape : Sizes) (text line : List ℕ) (n : ℕ) (is : text ≡ line ++ 10 ∷ []) (bad : IsFirstBad shape text n)
  where
    all_lines : ended_lines (whole_lines text) ≡ text
    all_lines = subst (λ (xs : List ℕ). ended_lines (whole_lines xs) ≡ xs) (sym is) (again line)

    -- where all its lines begin a trace, some trace begins with it
    pub begins_all : lines_in text < n → Begins shape text
    begins_all more =
        let all : take (lines_in text) (whole_lines text) ≡ whole_lines text =
        take_all (lines_in text) (whole_lines text) (omega (arith, many text)) in
        subst (Begins shape) (ap ended_lines all ∙ all_lines) (bad.before (lines_in text) more).1

    -- .. and else none
    pub begins_none : n ≤ lines_in text → Begins shape text → ⊥
    begins_none few begins =
        let split : ended_lines (take n (whole_lines text)) ++ ended_lines (drop n (whole_lines text)) ≡ text =
        sym (flat_map-append (λ (line : List ℕ). line ++ 10 ∷ []) (take n (whole_lines text))
        (drop n (whole_lines text)))
        ∙ ap ended_lines (take-append-drop n (whole_lines text)) ∙ all_lines in
        bad.bad (
          omega (arith, few, many text),
          begins_of shape text (ended_lines (take n (whole_lines text))) (ended_lines (drop n (whole_lines text))) split
              begins,
        )

-- it is decided by the number of the first bad line
pub starts_decided : (shape : Sizes) (text : List ℕ) (n m : ℕ) → (line : List ℕ) × (text ≡ line ++ 10 ∷ []) →
    IsFirstBad shape text n → m ≡ lines_in text → Decides (nat_lt m n) (Begins shape text)
starts_decided shape text n m (line, is) bad same = by_test (nat_lt m n) refl
  where
    by_test : (more : Bool) → nat_lt m n ≡ more → Decides more (Begins shape text)
    by_test true more =
        let less : m < n = grind (arith, nat_tests) in
        begins_all shape text line n is bad (omega (arith, less, same))
    by_test false more =
        let few : n ≤ m = grind (arith, nat_tests) in
        begins_none shape text line n is bad (omega (arith, few, same))

-- a line is shorter than its text
item_less : (lines : List (List ℕ)) (k : ℕ) (text : List ℕ) → slice_get lines k ≡ Some text →
    length text + 1 ≤ length (ended_lines lines)
item_less [] k text here = absurd (no_item k text here)
item_less (line ∷ lines) zero text here =
    let same : length line ≡ length text = ap (λ (xs : List ℕ). length xs) (same_some line text here) in
    let long = length-append (line ++ 10 ∷ []) (ended_lines lines) in
    let one = length-append line (10 ∷ []) in
    omega (arith, same, long, one)
item_less (line ∷ lines) (suc k) text here =
    let less = item_less lines k text here in
    let long = length-append (line ++ 10 ∷ []) (ended_lines lines) in
    omega (arith, less, long)

length_le : (fed : Bool) (n : ℕ) → cond fed n (n + 1) ≤ n + 1
length_le true n = omega arith
length_le false n = omega arith

pub line_less : (bytes : List ℕ) (k : ℕ) (text : List ℕ) → slice_get (lines_of bytes) k ≡ Some text →
    length text ≤ length bytes
line_less [] k text here = absurd (no_item k text here)
line_less (b ∷ bytes) k text here =
    let item = item_less (lines_of (b ∷ bytes)) k text here in
    let all : length (ended_lines (lines_of (b ∷ bytes))) ≡ text_len (b ∷ bytes) =
    text_len-lines (b ∷ bytes) (omega arith) in
    let few : text_len (b ∷ bytes) ≤ length (b ∷ bytes) + 1 = length_le (is_fed (b ∷ bytes)) (length (b ∷ bytes)) in
    omega (arith, item, all, few)

-- runs of digits are not longer than one digit
pub zeroed_le : (behind : Bool) (line : List ℕ) → length (zeroed behind line) ≤ length line
zeroed_le behind [] = omega arith
zeroed_le behind (b ∷ line) = by_byte (is_ascii_digit b) behind (zeroed_le (is_ascii_digit b) line)
  where
    by_byte : (digit behind : Bool) → length (zeroed (is_ascii_digit b) line) ≤ length line →
        length (cond digit (cond behind [] (48 ∷ [])) (b ∷ []) ++ zeroed (is_ascii_digit b) line) ≤ length (b ∷ line)
    by_byte true true few = omega (arith, few)
    by_byte true false few = omega (arith, few)
    by_byte false behind few = omega (arith, few)

-- what stops a text at a line that is there and has its line feed
pub stops_there : (shape : Sizes) (bytes text : List ℕ) (line : ℕ) (s : Stop) →
    slice_get (lines_of bytes) (line - 1) ≡ Some text → line ≤ lines_in bytes → IsLineStop shape text s →
    IsStop shape bytes line s
stops_there shape bytes text line s here fed is = by_stop s is (there s is)
  where
    there : (s : Stop) → IsLineStop shape text s → IsSomeAnd (slice_get (lines_of bytes) (line - 1))
        (λ text. (line ≤ lines_in bytes) × IsLineStop shape text s)
    there s is =
        subst (λ (o : Option (List ℕ)). IsSomeAnd o (λ text. (line ≤ lines_in bytes) × IsLineStop shape text s))
        (sym here) (fed, is)

    by_stop : (s : Stop) → IsLineStop shape text s → IsSomeAnd (slice_get (lines_of bytes) (line - 1))
        (λ text. (line ≤ lines_in bytes) × IsLineStop shape text s) → IsStop shape bytes line s
    by_stop stop.Short is all = absurd is
    by_stop stop.Unfed is all = absurd is
    by_stop s is all = all
