-- From a message of a flood to the next.
use Rattle.std.proofs.Common.{◌≡◌, ℕ, ◌+◌, ◌-◌, ◌*◌, ◌/◌, ◌%◌, ◌<◌, ◌≤◌, ap, ◌∙◌, arith}
use Rattle.std.proofs.Math.Nat.{add-mod_right}
use Rattle.std.proofs.lemmas.Nat.{div-add-mod', div-mul-add, mod-mul-add, mod_below}
use Rattle.nm_script.specs.declared.flood.ways.Way.{Way}
use Rattle.nm_script.specs.FloodScripts.{destination, sender}

-- one more, in the same row
mod_within : (n m : ℕ) → n % m + 1 < m → (n + 1) % m ≡ n % m + 1
mod_within n m less =
    ap (λ k. k % m) (omega (arith, div-add-mod' n m)) ∙ mod-mul-add (n / m) m (n % m + 1) less

div_within : (n m : ℕ) → n % m + 1 < m → (n + 1) / m ≡ n / m
div_within n m less =
    ap (λ k. k / m) (omega (arith, div-add-mod' n m)) ∙ div-mul-add (n / m) m (n % m + 1) less

-- one more, where a row ends
row_over : (n m : ℕ) → n % m + 1 ≡ m → n + 1 ≡ (n / m + 1) * m + 0
row_over n m last = omega (arith, div-add-mod' n m, last)

mod_over : (n m : ℕ) → 1 ≤ m → n % m + 1 ≡ m → (n + 1) % m ≡ 0
mod_over n m some last = ap (λ k. k % m) (row_over n m last) ∙ mod-mul-add (n / m + 1) m 0 (omega arith)

div_over : (n m : ℕ) → 1 ≤ m → n % m + 1 ≡ m → (n + 1) / m ≡ n / m + 1
div_over n m some last = ap (λ k. k / m) (row_over n m last) ∙ div-mul-add (n / m + 1) m 0 (omega arith)

-- it is in the same row where it is not the first of one
not_last : (n m : ℕ) → 1 ≤ m → 0 < (n + 1) % m → n % m + 1 < m
not_last n m some later =
    grind (arith, mod_over n m some, mod_below n m some, later)

is_last : (n m : ℕ) → 1 ≤ m → (n + 1) % m ≡ 0 → n % m + 1 ≡ m
is_last n m some first =
    grind (arith, mod_within n m, mod_below n m some, first)

-- the rank behind another, and the one before it
pub behind : (ranks rank n : ℕ) → rank ≡ n % ranks → rank < ranks - 1 → rank + 1 ≡ (n + 1) % ranks
behind ranks rank n is less = omega (arith, is, mod_within n ranks (omega (arith, is, less)))

pub behind_last : (ranks rank n : ℕ) → 1 ≤ ranks → rank ≡ n % ranks → ranks - 1 ≤ rank → 0 ≡ (n + 1) % ranks
behind_last ranks rank n some is last =
    let below = mod_below n ranks some in
    omega (arith, mod_over n ranks some (omega (arith, is, last, below)))

pub before : (ranks rank n : ℕ) → 1 ≤ ranks → rank ≡ (n + 1) % ranks → 0 < rank → rank - 1 ≡ n % ranks
before ranks rank n some is later =
    omega (arith, is, mod_within n ranks (not_last n ranks some (omega (arith, is, later))))

pub before_first : (ranks rank n : ℕ) → 1 ≤ ranks → rank ≡ (n + 1) % ranks → rank ≤ 0 → ranks - 1 ≡ n % ranks
before_first ranks rank n some is first = omega (arith, is_last n ranks some (omega (arith, is, first)))

-- the destinations of a row go on one by one, and by two where the next row begins
pub goes_on : (key ranks k : ℕ) → 1 ≤ ranks → 0 < sender ranks (k + 1)
    → (sender ranks k + k / ranks + key + 1) % ranks ≡ destination key ranks (k + 1)
goes_on key ranks k some later =
    let less = not_last k ranks some later in
    ap (λ n. n % ranks) (omega (arith, mod_within k ranks less, div_within k ranks less))

pub row_begins : (key ranks k : ℕ) → 1 ≤ ranks → sender ranks (k + 1) ≡ 0
    → (sender ranks k + k / ranks + key + 1 + 1) % ranks ≡ destination key ranks (k + 1)
row_begins key ranks k some first =
    let last = is_last k ranks some first in
    ap (λ n. n % ranks) (omega (arith, last, mod_over k ranks some last, div_over k ranks some last))
    ∙ add-mod_right (sender ranks (k + 1) + (k + 1) / ranks + key) ranks

-- a way by its two ranks
abbrev between : ℕ → ℕ → Way
between from to = record { from = from; to = to }

pub same_way : (from to f t : ℕ) → from ≡ f → to ≡ t → between from to ≡ between f t
same_way from to f t from_is to_is =
    ap (λ r. between r to) from_is ∙ ap (λ r. between f r) to_is
