-- Steps that may fail, tests and choices, taken apart.
use Rattle.std.proofs.Common.{◌≡◌, ℕ, ◌⊎◌, inl, inr, Bool, true, false, ◌&&◌, cond}
use Rattle.std.proofs.Common.{Option, Some, None, Result, Ok, Err, refl, ap, sym}
use Rattle.std.specs.Option.{ok_or}
use Rattle.std.proofs.lemmas.Bool.{and_from, and_parts}
use Rattle.nm_script.specs.declared.faults.Kind.{Kind}
use Rattle.nm_script.specs.Faults.{◌>>=◌, at_line}
use Rattle.nm_types.proofs.TruthLemmas.{three_parts}

-- the first step failed, or the second did
pub bind_err : {E A B : Type 0} (r : Result A E) (f : A → Result B E) (e : E) → (r >>= f) ≡ Err e
    → (r ≡ Err e) ⊎ ((x : A) × (r ≡ Ok x) × (f x ≡ Err e))
bind_err (Ok x) f e h = inr (x, refl, h)
bind_err (Err d) f e h = inl (let is : d ≡ e = cc in ap Err is)

-- where there is nothing, this is the fault
pub err_or : {A K : Type 0} (o : Option A) (d e : K) → ok_or o d ≡ Err e → (o ≡ None) × (e ≡ d)
err_or (Some x) d e h = cc
err_or None d e h = (refl, cc)

pub guard_ok : {A E : Type 0} (b : Bool) (x : Result A E) (e : E) (y : A) → cond b x (Err e) ≡ Ok y
    → (b ≡ true) × (x ≡ Ok y)
guard_ok true x e y h = (refl, h)
guard_ok false x e y h = cc

pub guard_some : {A : Type 0} (b : Bool) (o : Option A) (y : A) → cond b o None ≡ Some y
    → (b ≡ true) × (o ≡ Some y)
guard_some true o y h = (refl, h)
guard_some false o y h = cc

pub unless_ok : {A E : Type 0} (b : Bool) (x : Result A E) (e : E) (y : A) → cond b (Err e) x ≡ Ok y
    → (b ≡ false) × (x ≡ Ok y)
unless_ok true x e y h = cc
unless_ok false x e y h = (refl, h)

pub found : (o : Option ℕ) (e : Kind) (n : ℕ) → ok_or o e ≡ Ok n → o ≡ Some n
found (Some m) e n h = cc
found None e n h = cc

pub found_in : {A K : Type 0} (o : Option A) (e : K) (x : A) → ok_or o e ≡ Ok x → o ≡ Some x
found_in (Some y) e x h = cc
found_in None e x h = cc

pub at_line_ok : {A K : Type 0} (k : ℕ) (r : Result A K) (x : A) → at_line k r ≡ Ok x → r ≡ Ok x
at_line_ok k (Ok y) x h = cc
at_line_ok k (Err e) x h = cc

pub at_line_err : {A K : Type 0} (k n : ℕ) (r : Result A K) (e : K) → at_line k r ≡ Err (n, e)
    → (n ≡ k) × (r ≡ Err e)
at_line_err k n (Ok x) e h = cc
at_line_err {A} {K} k n (Err d) e h =
    let is : ◌≡◌ {A = ℕ × K} (k, d) (n, e) = cc (h) in
    (sym (ap (λ (x : ℕ × K). x.0) is), ap Err (ap (λ (x : ℕ × K). x.1) is))

-- the first step failed, since the second never does
pub only_first : {E A B : Type 0} (r : Result A E) (make : A → B) (e : E)
    → (r >>= λ x. Ok (make x)) ≡ Err e → r ≡ Err e
only_first (Ok x) make e h = cc
only_first (Err d) make e h = let is : d ≡ e = cc in ap Err is

pub three_from : (a b c : Bool) → a ≡ true → b ≡ true → c ≡ true → (a && b && c) ≡ true
three_from a b c x y z = and_from (a && b) c (and_from a b x y) z

pub four_parts : (a b c d : Bool) → (a && b && c && d) ≡ true
    → (a ≡ true) × (b ≡ true) × (c ≡ true) × (d ≡ true)
four_parts a b c d h =
    let p = and_parts (a && b && c) d h in
    let q = three_parts a b c p.0 in
    (q.0, q.1, q.2, p.1)

pub four_from : (a b c d : Bool) → a ≡ true → b ≡ true → c ≡ true → d ≡ true
    → (a && b && c && d) ≡ true
four_from a b c d x y z w = and_from (a && b && c) d (three_from a b c x y z) w

-- five tests in a row
pub record AreTrue (a b c d e : Bool) : Type 0 where
  pub one : a ≡ true
  pub two : b ≡ true
  pub three : c ≡ true
  pub four : d ≡ true
  pub five : e ≡ true

pub five_parts : (a b c d e : Bool) → (a && b && c && d && e) ≡ true → AreTrue a b c d e
five_parts a b c d e h =
    let p = and_parts (a && b && c && d) e h in
    let q = and_parts (a && b && c) d p.0 in
    let r = and_parts (a && b) c q.0 in
    let s = and_parts a b r.0 in
    record { one = s.0; two = s.1; three = r.1; four = q.1; five = p.1 }

pub five_from : (a b c d e : Bool) → AreTrue a b c d e → (a && b && c && d && e) ≡ true
five_from a b c d e t =
    and_from (a && b && c && d) e (and_from (a && b && c) d
    (and_from (a && b) c (and_from a b t.one t.two) t.three) t.four) t.five
