-- Tests of truth values and numbers, and what holds of each element of a list.
use Rattle.std.proofs.Common.{◌≡◌, ℕ, ◌<◌, ◌≤◌, ◌==◌, Bool, true, false, ◌||◌, List, [], ◌∷◌, refl, ap}
use Rattle.std.proofs.Common.{arith}
use Rattle.std.specs.Prelude.{nat_lt, nat_le, IsTrue}
use Rattle.std.specs.Bool.{OnTrue}
use Rattle.std.specs.List.{AllByRecursion, list_any}
use Rattle.std.proofs.lemmas.Bool.Decides.{nat_tests}
use Rattle.nm_history.specs.declared.events.Event.{Event}
use Rattle.nm_history.specs.declared.events.Happened.{Happened}
use Rattle.nm_history.specs.Happens.{happened, is_same}
use Rattle.nm_history.specs.Effects.{happenings}

pub self_true : (x : ℕ) → (x == x) ≡ true
self_true x = grind (arith, nat_tests)

pub lt_true : (x y : ℕ) → x < y → nat_lt x y ≡ true
lt_true x y h = grind (arith, nat_tests)

pub le_true : (x y : ℕ) → x ≤ y → nat_le x y ≡ true
le_true x y h = grind (arith, nat_tests)

pub or_true : (b : Bool) → (b || true) ≡ true
or_true true = refl
or_true false = refl

pub or_false : (b : Bool) → (b || false) ≡ b
or_false true = refl
or_false false = refl

pub or_swap : (a b : Bool) → (a || b) ≡ (b || a)
or_swap true true = refl
or_swap true false = refl
or_swap false true = refl
or_swap false false = refl

pub same_done : (done : Bool) → is_same done done ≡ true
same_done true = refl
same_done false = refl

-- a test that can't be passed fails
pub refuted : (b : Bool) → (b ≡ true → true ≡ false) → b ≡ false
refuted false never = refl
refuted true never = never refl

pub at_true : {P : Type 0} (b : Bool) → b ≡ true → OnTrue b P → P
at_true true _ p = p
at_true false h p = cc

pub on_test : {P : Type 0} (b : Bool) → (b ≡ true → P) → OnTrue b P
on_test true f = f refl
on_test false f = tt

pub true_is : (b : Bool) → b ≡ true → IsTrue b
true_is b h = h

pub by-both : {X : Type 0} (P Q R : X → Type 0) (xs : List X) → ((x : X) → P x → Q x → R x) → AllByRecursion P xs →
    AllByRecursion Q xs → AllByRecursion R xs
by-both P Q R [] f ps qs = tt
by-both P Q R (x ∷ xs) f ps qs = (f x ps.0 qs.0, by-both P Q R xs f ps.1 qs.1)

pub all_of : {X : Type 0} (P : X → Type 0) (xs : List X) → ((x : X) → P x) → AllByRecursion P xs
all_of P [] f = tt
all_of P (x ∷ xs) f = (f x, all_of P xs f)

pub happened_in : (test : Happened → Bool) (events : List Event) → happened test events ≡ list_any test
    (happenings events)
happened_in test [] = refl
happened_in test (e ∷ events) = ap (λ (b : Bool). test e.what || b) (happened_in test events)

-- a test that some element passes gives what each passing element gives
pub any_gives : {X : Type 0} (test : X → Bool) (Q : Type 0) (xs : List X) → list_any test xs ≡ true →
    AllByRecursion (λ x. test x ≡ true → Q) xs → Q
any_gives test Q [] found each = cc
any_gives test Q (x ∷ xs) found each = by_head (test x) each.0 found (λ found. any_gives test Q xs found each.1) where
  by_head : (b : Bool) → (b ≡ true → Q) → (b || list_any test xs) ≡ true → (list_any test xs ≡ true → Q) → Q
  by_head true now found later = now refl
  by_head false now found later = later found
