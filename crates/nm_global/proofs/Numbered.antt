-- Sends by their numbers.
use Rattle.std.proofs.Common.{◌≡◌, ℕ, ◌+◌, ◌≤◌, ◌==◌, ◌&&◌, ◌||◌, Bool, true, false, cond, Option, Some, None}
use Rattle.std.proofs.Common.{List, [], ◌∷◌, length, refl, sym, ◌∙◌, ap, arith, IsSome}
use Rattle.std.proofs.Common.{is_some, true≢false}
use Rattle.std.specs.List.{AllByRecursion, list_any}
use Rattle.nm_history.specs.Sends.{Sent}
use Rattle.nm_history.specs.Continues.{has}
use Rattle.nm_history.proofs.Basic.{or_false}
use Rattle.nm_history.proofs.Sent.{NumberedFrom, none_below}
use Rattle.nm_global.specs.Emitted.{sent_in}
use Rattle.nm_types.proofs.NumberLemmas.{same_number, eq_less}

-- what some send with a number says, the one that is found says
pub found_any : (p : Sent → Bool) (k n : ℕ) (ss : List Sent) (s : Sent) →
    NumberedFrom (λ (s : Sent). s.n) k ss → sent_in ss n ≡ Some s →
    list_any (λ x. x.n == n && p x) ss ≡ p s
found_any p k n [] s numbered found = cc
found_any p k n (x ∷ ss) s numbered found =
    by (x.n == n) refl found (found_any p (k + 1) n ss s numbered.1)
  where
    by : (b : Bool) → (x.n == n) ≡ b → cond b (Some x) (sent_in ss n) ≡ Some s →
        (sent_in ss n ≡ Some s → list_any (λ x. x.n == n && p x) ss ≡ p s) →
        ((b && p x) || list_any (λ x. x.n == n && p x) ss) ≡ p s
    by true is found later =
        let same : x ≡ s = cc in
        let number = same_number x.n n is in
        ap (λ (b : Bool). p x || b)
        (none_below (λ (s : Sent). s.n) p (k + 1) n ss (omega (arith, number, numbered.0)) numbered.1)
        ∙ or_false (p x) ∙ ap p same
    by false is found later = later found

-- one with a number is found
pub any_found : (p : Sent → Bool) (n : ℕ) (ss : List Sent) → list_any (λ x. x.n == n && p x) ss ≡ true →
    IsSome (sent_in ss n)
any_found p n [] some = cc
any_found p n (x ∷ ss) some = by (x.n == n) some (any_found p n ss) where
  by : (b : Bool) → ((b && p x) || list_any (λ x. x.n == n && p x) ss) ≡ true →
      (list_any (λ x. x.n == n && p x) ss ≡ true → IsSome (sent_in ss n)) →
      IsSome (cond b (Some x) (sent_in ss n))
  by true some later = refl
  by false some later = later some

-- the next number is that of no send
pub none_next : (k n : ℕ) (ss : List Sent) → NumberedFrom (λ (s : Sent). s.n) k ss → k + length ss ≤ n →
    sent_in ss n ≡ None
none_next k n [] numbered past = refl
none_next k n (x ∷ ss) numbered past =
    rw (eq_less x.n n (omega (arith, numbered.0, past)))
    (none_next (k + 1) n ss numbered.1 (omega (arith, past)))

-- a number of no send is none of a sent message
pub not_among : (n : ℕ) (ss : List Sent) (c : List ℕ) → sent_in ss n ≡ None →
    AllByRecursion (λ m. IsSome (sent_in ss m)) c → has c n ≡ false
not_among n ss [] none sent = refl
not_among n ss (m ∷ c) none sent = by (m == n) refl (not_among n ss c none sent.1) where
  by : (b : Bool) → (m == n) ≡ b → has c n ≡ false → (b || has c n) ≡ false
  by true is later =
      let missing : is_some (sent_in ss m) ≡ false =
      ap (λ (k : ℕ). is_some (sent_in ss k)) (same_number m n is)
      ∙ ap (λ (o : Option Sent). is_some o) none in
      absurd (true≢false (sym sent.0 ∙ missing))
  by false is later = later

-- what is found has its number
pub found_number : (n : ℕ) (ss : List Sent) (s : Sent) → sent_in ss n ≡ Some s → s.n ≡ n
found_number n [] s found = cc
found_number n (x ∷ ss) s found = by (x.n == n) refl found (found_number n ss s) where
  by : (b : Bool) → (x.n == n) ≡ b → cond b (Some x) (sent_in ss n) ≡ Some s →
      (sent_in ss n ≡ Some s → s.n ≡ n) → s.n ≡ n
  by true is found later =
      let same : x ≡ s = cc in
      ap (λ (s : Sent). s.n) (sym same) ∙ same_number x.n n is
  by false is found later = later found
