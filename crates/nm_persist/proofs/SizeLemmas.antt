-- The size of a script with a line more.
use Rattle.std.proofs.Common.{◌≡◌, ℕ, ◌+◌, ◌≤◌, ◌<◌, true, false, not, nat_lt, nat_le, List, [], ◌∷◌, ◌++◌}
use Rattle.std.proofs.Common.{length, flat_map, codes, decimal, sym, ap, ◌∙◌, arith, sum_by, length-append}
use Rattle.std.proofs.Common.{MatchOption, Option, None, Some, subst, append_assoc, take, drop, get_or, suc}
use Rattle.std.proofs.Math.Seq.{drop-cons, take-suc}
use Rattle.std.proofs.lemmas.List.{take-append-drop}
use Rattle.std.proofs.lemmas.Bool.{ltb-true, lt-ltb, leb-true, le-leb}
use Rattle.std.proofs.lemmas.Grind.{flat_map-append}
use Rattle.std.proofs.lemmas.List.Sums.{sum_by-append}
use Rattle.nm_types.specs.declared.limits.TheConstants.{MAX_BODIES, MAX_LINES, MAX_TEXT}
use Rattle.nm_types.specs.declared.scripts.Line.{Line}
use Rattle.nm_types.specs.Limits.{sent_len}
use Rattle.nm_types.specs.Text.{command_line, script_text, text_line}
use Rattle.nm_persist.specs.declared.sizes.Size.{Size}
use Rattle.nm_persist.specs.Sizes.{IsGrown, IsSizeOf, are_within, is_past_with}
use Rattle.nm_persist.specs.Table.{fits}
use Rattle.nm_types.proofs.TruthLemmas.{not_true, three_parts}
use Rattle.nm_script.proofs.StepLemmas.{three_from}

-- how long a text of more lines is
script_text-append : (ranks : ℕ) (xs ys : List Line)
    → length (script_text ranks (xs ++ ys)) ≡ length (script_text ranks xs) + length (flat_map command_line ys)
script_text-append ranks xs ys =
    let head = text_line (codes "ranks" ∷ decimal ranks ∷ []) in
    let both = ap length (flat_map-append command_line xs ys) in
    omega (
      arith,
      both,
      length-append head (flat_map command_line (xs ++ ys)),
      length-append head (flat_map command_line xs),
      length-append (flat_map command_line xs) (flat_map command_line ys),
    )

pub size_more : (size new : Size) (ranks : ℕ) (xs : List Line) (line : Line) → IsSizeOf size ranks xs
    → IsGrown size line new → IsSizeOf new ranks (xs ++ line ∷ [])
size_more size new ranks xs line is grown = record {
  lines_are = omega (arith, is.lines_are, grown.lines_are, length-append xs (line ∷ []));
  bodies_are = omega (
    arith,
    is.bodies_are,
    grown.bodies_are,
    sum_by-append (λ (l : Line). sent_len l.command) xs (line ∷ []),
  );
  text_is = omega (
    arith,
    is.text_is,
    grown.text_is,
    script_text-append ranks xs (line ∷ []),
    length-append (command_line line) [],
  );
}

-- a script within the limits is so in front
fits_front : (ranks : ℕ) (xs ys : List Line) → fits ranks (xs ++ ys) ≡ true → fits ranks xs ≡ true
fits_front ranks xs ys h =
    let sent = λ (l : Line). sent_len l.command in
    let p = three_parts (nat_lt (length (xs ++ ys)) MAX_LINES) (nat_le (sum_by sent (xs ++ ys)) MAX_BODIES)
    (nat_le (length (script_text ranks (xs ++ ys))) MAX_TEXT) h in
    let lines = ltb-true (length (xs ++ ys)) MAX_LINES p.0 in
    let bodies = leb-true (sum_by sent (xs ++ ys)) MAX_BODIES p.1 in
    let text = leb-true (length (script_text ranks (xs ++ ys))) MAX_TEXT p.2 in
    three_from _ _ _
    (lt-ltb (length xs) MAX_LINES (omega (arith, lines, length-append xs ys)))
    (le-leb (sum_by sent xs) MAX_BODIES (omega (arith, bodies, sum_by-append sent xs ys)))
    (le-leb (length (script_text ranks xs)) MAX_TEXT (omega (arith, text, script_text-append ranks xs ys)))

within : (lines bodies text : ℕ) → lines < MAX_LINES → bodies ≤ MAX_BODIES → text ≤ MAX_TEXT
    → are_within lines bodies text ≡ true
within lines bodies text a b d =
    three_from (nat_lt lines MAX_LINES) (nat_le bodies MAX_BODIES) (nat_le text MAX_TEXT)
    (lt-ltb lines MAX_LINES a) (le-leb bodies MAX_BODIES b) (le-leb text MAX_TEXT d)

-- a script of this size is within the limits
pub size_fits : (size : Size) (ranks : ℕ) (xs : List Line) → IsSizeOf size ranks xs → fits ranks xs ≡ true
size_fits size ranks xs is =
    within (length xs) (sum_by (λ (l : Line). sent_len l.command) xs) (length (script_text ranks xs))
    (omega (arith, is.lines_are, size.few_lines)) (omega (arith, is.bodies_are, size.few_bodies))
    (omega (arith, is.text_is, size.short))

-- a line that is past a limit stays so with more behind it
pub past_stays : (size : Size) (ranks : ℕ) (xs ys : List Line) (line : Line) → IsSizeOf size ranks xs
    → is_past_with size line ≡ true → fits ranks (xs ++ line ∷ ys) ≡ false
past_stays size ranks xs ys line is beyond = not_true (fits ranks (xs ++ line ∷ ys)) (λ all.
    let sent = λ (l : Line). sent_len l.command in
    let zs = xs ++ line ∷ [] in
    let apart : zs ++ ys ≡ xs ++ line ∷ ys = append_assoc xs (line ∷ []) ys in
    let front = fits_front ranks zs ys (ap (fits ranks) apart ∙ all) in
    let p = three_parts (nat_lt (length zs) MAX_LINES) (nat_le (sum_by sent zs) MAX_BODIES)
    (nat_le (length (script_text ranks zs)) MAX_TEXT) front in
    let lines = ltb-true (length zs) MAX_LINES p.0 in
    let bodies = leb-true (sum_by sent zs) MAX_BODIES p.1 in
    let text = leb-true (length (script_text ranks zs)) MAX_TEXT p.2 in
    let inside : are_within (size.lines + 1) (size.bodies + sent_len line.command)
    (size.text + length (command_line line)) ≡ true =
    within (size.lines + 1) (size.bodies + sent_len line.command) (size.text + length (command_line line))
    (omega (arith, lines, is.lines_are, length-append xs (line ∷ [])))
    (omega (arith, bodies, is.bodies_are, sum_by-append sent xs (line ∷ [])))
    (omega (
      arith,
      text,
      is.text_is,
      script_text-append ranks xs (line ∷ []),
      length-append (command_line line) [],
    )) in
    let yes : not true ≡ true = sym (ap not inside) ∙ beyond in
    cc (yes))

-- lines around an item
pub around_item : (before lines : List Line) (i : ℕ) (x : Line) → i < length lines → x ≡ get_or lines i x
    → (before ++ take i lines) ++ x ∷ drop (i + 1) lines ≡ before ++ lines
around_item before lines i x inside is =
    let n : i + 1 ≡ suc i = omega arith in
    let item : drop i lines ≡ x ∷ drop (i + 1) lines =
    drop-cons lines i x inside ∙ ap (λ (y : Line). y ∷ drop (suc i) lines) (sym is)
    ∙ ap (λ m. x ∷ drop m lines) (sym n) in
    append_assoc before (take i lines) (x ∷ drop (i + 1) lines)
    ∙ ap (λ xs. before ++ (take i lines ++ xs)) (sym item)
    ∙ ap (λ xs. before ++ xs) (take-append-drop i lines)

-- the lines up to an item
pub up_to_item : (before lines : List Line) (i : ℕ) (x : Line) → i < length lines → x ≡ get_or lines i x
    → before ++ take (i + 1) lines ≡ (before ++ take i lines) ++ x ∷ []
up_to_item before lines i x inside is =
    let n : i + 1 ≡ suc i = omega arith in
    ap (λ m. before ++ take m lines) n ∙ ap (λ xs. before ++ xs) (take-suc lines i x inside)
    ∙ ap (λ (y : Line). before ++ (take i lines ++ y ∷ [])) (sym is)
    ∙ sym (append_assoc before (take i lines) (x ∷ []))

past : (lines bodies text : ℕ) → (are_within lines bodies text ≡ true → ⊥)
    → not (are_within lines bodies text) ≡ true
past lines bodies text never = ap not (not_true (are_within lines bodies text) never)

-- what is past one of the limits
pub past_lines : (lines bodies text : ℕ) → MAX_LINES ≤ lines → not (are_within lines bodies text) ≡ true
past_lines lines bodies text h = past lines bodies text (λ all.
    let p = three_parts (nat_lt lines MAX_LINES) (nat_le bodies MAX_BODIES) (nat_le text MAX_TEXT) all in
    omega (arith, h, ltb-true lines MAX_LINES p.0))

pub past_bodies : (lines bodies text : ℕ) → MAX_BODIES < bodies → not (are_within lines bodies text) ≡ true
past_bodies lines bodies text h = past lines bodies text (λ all.
    let p = three_parts (nat_lt lines MAX_LINES) (nat_le bodies MAX_BODIES) (nat_le text MAX_TEXT) all in
    omega (arith, h, leb-true bodies MAX_BODIES p.1))

pub past_text : (lines bodies text : ℕ) → MAX_TEXT < text → not (are_within lines bodies text) ≡ true
past_text lines bodies text h = past lines bodies text (λ all.
    let p = three_parts (nat_lt lines MAX_LINES) (nat_le bodies MAX_BODIES) (nat_le text MAX_TEXT) all in
    omega (arith, h, leb-true text MAX_TEXT p.2))

-- what is said of a size, of an equal script
pub size_said : (r : Option Size) (ranks : ℕ) (xs ys : List Line) → xs ≡ ys
    → MatchOption r (fits ranks xs ≡ false) (λ size. IsSizeOf size ranks xs × (fits ranks xs ≡ true))
    → MatchOption r (not (fits ranks ys) ≡ true) (λ size. IsSizeOf size ranks ys)
size_said None ranks xs ys same h = ap not (ap (fits ranks) (sym same) ∙ h)
size_said (Some size) ranks xs ys same h = subst (λ (ls : List Line). IsSizeOf size ranks ls) same h.0
