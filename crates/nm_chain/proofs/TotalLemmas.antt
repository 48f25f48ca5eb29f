-- Sums over the first numbers, over the places of a window, and over pairs.
use Rattle.std.proofs.Common.{◌≡◌, ℕ, suc, ◌+◌, ◌-◌, ◌*◌, ◌%◌, ◌<◌, Option, Bool, List, length}
use Rattle.std.proofs.Common.{refl, ap, ◌∙◌, arith}
use Rattle.std.proofs.Common.{zero, length-append, [], ◌∷◌}
use Rattle.std.proofs.Math.Nat.{mod-eq_of_lt}
use mathlib.Core.Option as maybe
use lib.ListN.{get_elem?}
use Rattle.nm_chain.specs.Total.{total, sign}
use Rattle.nm_chain.specs.Window.{Window}
use Rattle.nm_chain.proofs.WindowLemmas.{cycle}

-- equal numbers have equal sums
pub total_along : (n : ℕ) (f g : ℕ → ℕ) → ((k : ℕ) → k < n → f k ≡ g k) → total n f ≡ total n g
total_along zero f g same = refl
total_along (suc n) f g same = let before = total_along n f g (λ k low. same k (omega arith)) in
    let last = same n (omega arith) in omega (arith, before, last)

-- the sum over a row that is cut in two
pub total_cut : (m n : ℕ) (f : ℕ → ℕ) → total (m + n) f ≡ total m f + total n (λ k. f (m + k))
total_cut m zero f = let e : m + 0 ≡ m = omega arith in
    ap (λ k. total k f) e ∙ (let z : total m f ≡ total m f + 0 = omega arith in z)
total_cut m (suc n) f = let before = total_cut m n f in let e : m + suc n ≡ suc (m + n) =
    omega arith in ap (λ k. total k f) e
    ∙ (let z : total (m + n) f + f (m + n) ≡ total m f + (total n (λ k. f (m + k)) + f (m + n)) =
    omega (arith, before) in z)

-- the sum over m rows of n numbers each
pub total_rows : (m n : ℕ) (f : ℕ → ℕ) → total (m * n) f
    ≡ total m (λ i. total n (λ j. f (i * n + j)))
total_rows zero n f = ap (λ k. total k f) (let e : 0 * n ≡ 0 = omega arith in e)
total_rows (suc m) n f = let e : suc m * n ≡ m * n + n = omega arith in
    ap (λ k. total k f) e ∙ total_cut (m * n) n f
    ∙ ap (λ t. t + total n (λ j. f (m * n + j))) (total_rows m n f)

total_ones : (n : ℕ) (f : ℕ → ℕ) → ((k : ℕ) → k < n → f k ≡ 1) → total n f ≡ n
total_ones zero f one = refl
total_ones (suc n) f one = let before = total_ones n f (λ k low. one k (omega arith)) in
    let last = one n (omega arith) in omega (arith, before, last)

total_zeros : (n : ℕ) (f : ℕ → ℕ) → ((k : ℕ) → k < n → f k ≡ 0) → total n f ≡ 0
total_zeros zero f none = refl
total_zeros (suc n) f none = let before = total_zeros n f (λ k low. none k (omega arith)) in
    let last = none n (omega arith) in omega (arith, before, last)

-- over one turn of a ring it is the same from wherever the turn begins
total_turn : (B g : ℕ) (f : ℕ → ℕ) → 0 < B → total B (λ k. f ((g + k) % B)) ≡ total B f
total_turn B zero f some = total_along B (λ k. f ((0 + k) % B)) f
    (λ k low. ap f (let e : 0 + k ≡ k = omega arith in ap (λ x. x % B) e ∙ mod-eq_of_lt low))
total_turn B (suc g) f some = let before = total_turn B g f some in
    let h : ℕ → ℕ = λ k. f ((g + k) % B) in let one = total_cut 1 B h in
    let all : total (1 + B) h ≡ total B h + h B =
    ap (λ k. total k h) (let e : 1 + B ≡ suc B = omega arith in e) in
    let wrapped : h B ≡ f (g % B) = ap f (cycle B g some) in
    let first : h 0 ≡ f (g % B) = ap (λ k. f (k % B)) (let e : g + 0 ≡ g = omega arith in e) in
    let moved : total B (λ k. f ((suc g + k) % B)) ≡ total B (λ k. h (1 + k)) =
    total_along B (λ k. f ((suc g + k) % B)) (λ k. h (1 + k))
    (λ k low. ap (λ x. f (x % B)) (let e : suc g + k ≡ g + (1 + k) = omega arith in e)) in
    omega (arith, before, one, all, wrapped, first, moved)

pub positive : (k : ℕ) → 0 < k → sign k ≡ 1
positive zero some = absurd (omega arith)
positive (suc k) some = refl

has_at : {A : Type 0} (xs : List A) (t : ℕ) → t < length xs → (y : A)
    × (get_elem? xs t ≡ maybe.some y)
has_at [] t low = absurd (omega arith)
has_at (x ∷ xs) zero low = (x, refl)
has_at (x ∷ xs) (suc t) low = has_at xs t (omega arith)

module _ {L : Type 0} (B : ℕ) (none : L) (mark : L → ℕ) (fits : L → Type 0) (some : 0 < B)
    (marked : (y : L) → 0 < mark y) (flag : ℕ → ℕ) (slot : ℕ → maybe.Option (maybe.Option L))
    (put got waits : List L) (filling : Bool) (emptying : Option L) where
  -- the full places are as many as the items that wait
  pub full_places : Window B none mark fits flag slot filling emptying put got waits
      → total B (λ k. sign (flag k)) ≡ length waits
  full_places h = let few = h.few in let w : ℕ = length waits in
      let from_got : ℕ → ℕ = λ k. sign (flag ((length got + k) % B)) in
      let ones : total w from_got ≡ w = total_ones w from_got
      (λ t low. let y = has_at waits t low in let f = h.full t y.0 y.1 in
      positive (flag ((length got + t) % B)) (let m = marked y.0 in let e = f.1 in omega (arith, m, e)))
      in
      let zeros : total (B - w) (λ k. from_got (w + k)) ≡ 0 = total_zeros (B - w) (λ k. from_got (w + k))
      (λ d low. let f = h.free d (omega arith) in ap sign
      (ap (λ k. flag (k % B)) (let l = ap length h.path in let a = length-append got waits in
      let e : length got + (w + d) ≡ length put + d = omega (arith, l, a) in e) ∙ f.0)) in
      let cut = total_cut w (B - w) from_got in
      let turn = total_turn B (length got) (λ k. sign (flag k)) some in
      let whole : total (w + (B - w)) from_got ≡ total B from_got =
      ap (λ k. total k from_got) (let e : w + (B - w) ≡ B = omega arith in e) in
      omega (arith, ones, zeros, cut, turn, whole)
