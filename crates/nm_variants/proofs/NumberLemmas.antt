-- One line more.
use Rattle.std.proofs.Common.{◌≡◌, ℕ, ◌+◌, ◌*◌, ◌<◌, ◌≤◌, Bool, true, false, List, [], ◌∷◌, ◌++◌, get_or, length, refl, sym, ◌∙◌, ap, subst, take, arith}
use Rattle.std.specs.Prelude.{drop, if◌then◌else◌}
use Rattle.std.proofs.lemmas.List.{take_more}
use Rattle.std.proofs.lemmas.List.{take-append-drop}
use Rattle.nm_types.specs.declared.scripts.Line.{Line}
use Rattle.nm_variants.specs.Variants.{line_by, may_wait, number_after, number_behind, variant_of, variants}

-- one line behind others
variant_behind : (eager n : ℕ) (lines : List Line) (line : Line) →
    variant_of eager n (lines ++ line ∷ [])
    ≡ variant_of eager n lines ++ line_by eager (number_after eager n lines) line ∷ []
variant_behind eager n [] line = refl
variant_behind eager n (l ∷ lines) line =
    ap (λ (ls : List Line). line_by eager n l ∷ ls) (variant_behind eager (number_behind eager n l) lines line)

number_behind_all : (eager n : ℕ) (lines : List Line) (line : Line) →
    number_after eager n (lines ++ line ∷ []) ≡ number_behind eager (number_after eager n lines) line
number_behind_all eager n [] line = refl
number_behind_all eager n (l ∷ lines) line = number_behind_all eager (number_behind eager n l) lines line

-- .. the next one of some
pub variant_more : (eager n k : ℕ) (lines : List Line) (d : Line) → k < length lines →
    variant_of eager n (take (k + 1) lines)
    ≡ variant_of eager n (take k lines)
    ++ line_by eager (number_after eager n (take k lines)) (get_or lines k d) ∷ []
variant_more eager n k lines d low =
    ap (λ (ls : List Line). variant_of eager n ls) (take_more lines k d low)
    ∙ variant_behind eager n (take k lines) (get_or lines k d)

pub number_more : (eager n k : ℕ) (lines : List Line) (d : Line) → k < length lines →
    number_after eager n (take (k + 1) lines)
    ≡ number_behind eager (number_after eager n (take k lines)) (get_or lines k d)
number_more eager n k lines d low =
    ap (λ (ls : List Line). number_after eager n ls) (take_more lines k d low)
    ∙ number_behind_all eager n (take k lines) (get_or lines k d)

-- twice as many, in either order
double_first : (a b : Bool) (n : ℕ) →
    (if a then 2 * (if b then 2 * n else n) else (if b then 2 * n else n))
    ≡ (if b then 2 * (if a then 2 * n else n) else (if a then 2 * n else n))
double_first true true n = refl
double_first true false n = refl
double_first false true n = refl
double_first false false n = refl

count_behind : (eager : ℕ) (lines : List Line) (line : Line) →
    variants eager (lines ++ line ∷ [])
    ≡ (if may_wait eager line.command then 2 * variants eager lines else variants eager lines)
count_behind eager [] line = refl
count_behind eager (l ∷ lines) line =
    ap (λ (n : ℕ). if may_wait eager l.command then 2 * n else n) (count_behind eager lines line)
    ∙ double_first (may_wait eager l.command) (may_wait eager line.command) (variants eager lines)

pub count_more : (eager k : ℕ) (lines : List Line) (d : Line) → k < length lines →
    variants eager (take (k + 1) lines)
    ≡ (if may_wait eager (get_or lines k d).command then 2 * variants eager (take k lines)
    else variants eager (take k lines))
count_more eager k lines d low =
    ap (λ (ls : List Line). variants eager ls) (take_more lines k d low)
    ∙ count_behind eager (take k lines) (get_or lines k d)

pub count_yes : (eager k : ℕ) (lines : List Line) (d : Line) → k < length lines →
    may_wait eager (get_or lines k d).command ≡ true →
    variants eager (take (k + 1) lines) ≡ 2 * variants eager (take k lines)
count_yes eager k lines d low is =
    count_more eager k lines d low
    ∙ ap (λ (b : Bool). if b then 2 * variants eager (take k lines) else variants eager (take k lines)) is

pub count_no : (eager k : ℕ) (lines : List Line) (d : Line) → k < length lines →
    may_wait eager (get_or lines k d).command ≡ false →
    variants eager (take (k + 1) lines) ≡ variants eager (take k lines)
count_no eager k lines d low is =
    count_more eager k lines d low
    ∙ ap (λ (b : Bool). if b then 2 * variants eager (take k lines) else variants eager (take k lines)) is

-- more lines have no fewer
no_fewer_by : (wait : Bool) (n m : ℕ) → n ≤ m → (if wait then 2 * n else n) ≤ (if wait then 2 * m else m)
no_fewer_by true n m low = omega (arith, low)
no_fewer_by false n m low = low

pub some : (eager : ℕ) (lines : List Line) → 1 ≤ variants eager lines
some eager [] = omega arith
some eager (l ∷ lines) = by_first (may_wait eager l.command) (some eager lines)
  where
    by_first : (b : Bool) → 1 ≤ variants eager lines →
        1 ≤ (if b then 2 * variants eager lines else variants eager lines)
    by_first true one = omega (arith, one)
    by_first false one = one

no_fewer : (eager : ℕ) (lines others : List Line) → variants eager lines ≤ variants eager (lines ++ others)
no_fewer eager [] others = some eager others
no_fewer eager (l ∷ lines) others =
    no_fewer_by (may_wait eager l.command) (variants eager lines) (variants eager (lines ++ others))
    (no_fewer eager lines others)

pub first_fewer : (eager k : ℕ) (lines : List Line) → variants eager (take k lines) ≤ variants eager lines
first_fewer eager k lines =
    subst (λ (ls : List Line). variants eager (take k lines) ≤ variants eager ls) (take-append-drop k lines)
    (no_fewer eager (take k lines) (drop k lines))
