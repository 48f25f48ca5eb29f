-- Lists of messages whose numbers rise.
use Rattle.std.proofs.Common.{◌≡◌, ◌≢◌, ℕ, ◌+◌, ◌<◌, ◌≤◌, ◌==◌, Bool, true, false, not, cond, List}
use Rattle.std.proofs.Common.{[], ◌∷◌, ◌++◌, map, filter, find, Some, None, ap}
use Rattle.std.proofs.Common.{◌∙◌, refl, arith, subst, slice_get, zero, suc}
use Rattle.std.specs.List.{AllByRecursion, All, remove}
use Rattle.nm_eager.specs.Streams.{Incoming, AreNumbered, with_more}
use Rattle.nm_types.proofs.NumberLemmas.{unequal, eq_true}

-- the bounds may be wider
pub AreNumbered-wider : (low low' high high' : ℕ) (ms : List Incoming) → low' ≤ low → high ≤ high'
    → AreNumbered low high ms → AreNumbered low' high' ms
AreNumbered-wider low low' high high' [] l h r = omega arith
AreNumbered-wider low low' high high' (m ∷ ms) l h r = (
  omega arith,
  AreNumbered-wider (m.n + 1) (m.n + 1) high high' ms (omega arith) h r.1,
)

-- one more at the end
pub AreNumbered-push : (low high high' : ℕ) (ms : List Incoming) (m : Incoming) → AreNumbered low high ms
    → high ≤ m.n → m.n < high' → AreNumbered low high' (ms ++ m ∷ [])
AreNumbered-push low high high' [] m r h b = (omega arith, omega arith)
AreNumbered-push low high high' (x ∷ ms) m r h b = (r.0, AreNumbered-push (x.n + 1) high high' ms m r.1 h b)

-- the bounds are in order
pub AreNumbered-low : (low high : ℕ) (ms : List Incoming) → AreNumbered low high ms → low ≤ high
AreNumbered-low low high [] r = r
AreNumbered-low low high (m ∷ ms) r = let later = AreNumbered-low (m.n + 1) high ms r.1 in omega arith

-- a message among them has its number between the bounds
pub AreNumbered-at : (low high : ℕ) (ms : List Incoming) (k : ℕ) (m : Incoming) → AreNumbered low high ms
    → slice_get ms k ≡ Some m → (low ≤ m.n) × (m.n < high)
AreNumbered-at low high [] k m r e = cc
AreNumbered-at low high (x ∷ ms) zero m r e =
    let same : x ≡ m = cc in
    let above = AreNumbered-low (x.n + 1) high ms r.1 in
    rw (← same) (r.0, omega arith)
AreNumbered-at low high (x ∷ ms) (suc k) m r e = let h = AreNumbered-at (x.n + 1) high ms k m r.1 e in
    (omega arith, h.1)

-- a filter keeps them in order
pub AreNumbered-filter : (p : Incoming → Bool) (low high : ℕ) (ms : List Incoming) → AreNumbered low high ms
    → AreNumbered low high (filter p ms)
AreNumbered-filter p low high [] r = r
AreNumbered-filter p low high (m ∷ ms) r =
    let kept = AreNumbered-filter p (m.n + 1) high ms r.1 in
    elim (p m) as (λ b. AreNumbered low high (cond b (m ∷ filter p ms) (filter p ms))) [
      | true ↦ (r.0, kept)
      | false ↦ AreNumbered-wider (m.n + 1) low high high (filter p ms) (omega arith) (omega arith) kept
    ]

pub AllByRecursion-filter : (P : Incoming → Type 0) (p : Incoming → Bool) (ms : List Incoming)
    → AllByRecursion P ms → AllByRecursion P (filter p ms)
AllByRecursion-filter P p [] h = h
AllByRecursion-filter P p (m ∷ ms) h =
    elim (p m) as (λ b. AllByRecursion P (cond b (m ∷ filter p ms) (filter p ms))) [
      | true ↦ (h.0, AllByRecursion-filter P p ms h.1)
      | false ↦ AllByRecursion-filter P p ms h.1
    ]

pub AllByRecursion-push : (P : Incoming → Type 0) (ms : List Incoming) (m : Incoming) → AllByRecursion P ms
    → P m → AllByRecursion P (ms ++ m ∷ [])
AllByRecursion-push P [] m h p = (p, h)
AllByRecursion-push P (x ∷ ms) m h p = (h.0, AllByRecursion-push P ms m h.1 p)

-- none of the messages has this number
abbrev pub Lacks : ℕ → List Incoming → Type 0
Lacks n ms = AllByRecursion (λ m. m.n ≢ n) ms

pub Lacks-above : (n low high : ℕ) (ms : List Incoming) → n < low → AreNumbered low high ms → Lacks n ms
Lacks-above n low high [] l r = tt
Lacks-above n low high (m ∷ ms) l r = (omega arith, Lacks-above n (m.n + 1) high ms (omega arith) r.1)

pub Lacks-below : (n low high : ℕ) (ms : List Incoming) → high ≤ n → AreNumbered low high ms → Lacks n ms
Lacks-below n low high [] l r = tt
Lacks-below n low high (m ∷ ms) l r =
    let later = AreNumbered-low (m.n + 1) high ms r.1 in
    (omega arith, Lacks-below n (m.n + 1) high ms l r.1)

pub Lacks-from_All : (n : ℕ) (ms : List Incoming) → All (λ m. m.n ≢ n) ms → Lacks n ms
Lacks-from_All n [] h = tt
Lacks-from_All n (m ∷ ms) h = (
  h 0 m (omega arith),
  Lacks-from_All n ms
      (λ k d l. h (suc k) d (omega arith)),
)

pub find-lacks : (n : ℕ) (ms : List Incoming) → Lacks n ms → find (λ m. m.n == n) ms ≡ None
find-lacks n [] h = refl
find-lacks n (m ∷ ms) h = rw (unequal m.n n h.0) (find-lacks n ms h.1)

pub filter-lacks : (n : ℕ) (ms : List Incoming) → Lacks n ms → filter (λ m. not (m.n == n)) ms ≡ ms
filter-lacks n [] h = refl
filter-lacks n (m ∷ ms) h = rw (unequal m.n n h.0) (ap (λ l. m ∷ l) (filter-lacks n ms h.1))

pub map-lacks : (n : ℕ) (bytes : List ℕ) (ms : List Incoming) → Lacks n ms → map (with_more n bytes) ms ≡ ms
map-lacks n bytes [] h = refl
map-lacks n bytes (m ∷ ms) h = rw (unequal m.n n h.0) (ap (λ l. m ∷ l) (map-lacks n bytes ms h.1))

-- the message at a place is found by its number
pub find-at : (n low high : ℕ) (ms : List Incoming) (k : ℕ) (m : Incoming) → AreNumbered low high ms
    → slice_get ms k ≡ Some m → m.n ≡ n → find (λ x. x.n == n) ms ≡ Some m
find-at n low high [] k m r e q = cc
find-at n low high (x ∷ ms) zero m r e q =
    let same : x ≡ m = cc in
    let here : x.n ≡ n = ap (λ (y : Incoming). y.n) same ∙ q in
    rw (eq_true x.n n here) e
find-at n low high (x ∷ ms) (suc k) m r e q =
    let above = AreNumbered-at (x.n + 1) high ms k m r.1 e in
    let other : x.n ≢ n = omega arith in
    rw (unequal x.n n other) (find-at n (x.n + 1) high ms k m r.1 e q)

-- to remove it is to leave out its number
pub filter-at : (n low high : ℕ) (ms : List Incoming) (k : ℕ) (m : Incoming) → AreNumbered low high ms
    → slice_get ms k ≡ Some m → m.n ≡ n → filter (λ x. not (x.n == n)) ms ≡ remove ms k
filter-at n low high [] k m r e q = cc
filter-at n low high (x ∷ ms) zero m r e q =
    let same : x ≡ m = cc in
    let here : x.n ≡ n = ap (λ (y : Incoming). y.n) same ∙ q in
    rw (eq_true x.n n here) (filter-lacks n ms (Lacks-above n (x.n + 1) high ms (omega arith) r.1))
filter-at n low high (x ∷ ms) (suc k) m r e q =
    let above = AreNumbered-at (x.n + 1) high ms k m r.1 e in
    let other : x.n ≢ n = omega arith in
    rw (unequal x.n n other) (ap (λ l. x ∷ l) (filter-at n (x.n + 1) high ms k m r.1 e q))

pub AllByRecursion-at : (P : Incoming → Type 0) (ms : List Incoming) (k : ℕ) (m : Incoming)
    → AllByRecursion P ms → slice_get ms k ≡ Some m → P m
AllByRecursion-at P [] k m h e = cc
AllByRecursion-at P (x ∷ ms) zero m h e = let same : x ≡ m = cc in subst P same h.0
AllByRecursion-at P (x ∷ ms) (suc k) m h e = AllByRecursion-at P ms k m h.1 e
