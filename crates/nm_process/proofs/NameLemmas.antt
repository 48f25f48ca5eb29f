-- What the names of a process stand for, one call of its rank after another.
use Rattle.std.proofs.Common.{◌≡◌, ◌≢◌, ℕ, ◌<◌, Bool, true, false, cond, Option, Some, None, List, refl}
use Rattle.std.proofs.Common.{sym, ◌∙◌, ap, subst, arith}
use Rattle.std.specs.Prelude.{IfSome, nat_eq, option_map, option_and_then}
use Rattle.std.specs.Map.{lookup}
use Rattle.std.proofs.lemmas.Bool.Decides.{nat_tests}
use Rattle.nm_request.specs.declared.Kind.{Kind}
use Rattle.nm_request.specs.declared.Req.{Req}
use Rattle.nm_request.specs.Requests.{AddsRequest, Live, kind_of}
use Rattle.nm_rank.specs.Ranks.{request_of}
use Rattle.nm_rank.specs.Requests.{IsFreed}
use Rattle.nm_process.specs.Names.{AreGiven, IsOlder, request_named}

pub same_key : (a b : ℕ) → nat_eq a b ≡ true → a ≡ b
same_key a b same = grind (arith, nat_tests)

pub key_self : (a : ℕ) → nat_eq a a ≡ true
key_self a = grind (arith, nat_tests)

pub other_key : (a b : ℕ) → b ≢ a → nat_eq a b ≡ false
other_key a b other = grind (arith, nat_tests)

not_older : (a b : ℕ) → a ≡ b → a < b → ⊥
not_older a b same less = let never : a < a = omega (arith, same, less) in absurd (omega (arith, never))

-- the name of a request that is older
pub older_named : (requests : Live) (names : List (ℕ × Req)) (q : ℕ) (r : Req) → AreGiven requests names →
    lookup (nat_eq q) names ≡ Some r → IsOlder requests r
older_named requests names q r given is = subst (λ (o : Option Req). IfSome o (IsOlder requests)) is
    (given.older q)

module _ (old new : Live) (r : Req) (kind : Kind) (adds : AddsRequest old new r kind)
    (names : List (ℕ × Req))
    (given : AreGiven old names) where
  -- a request that is older than the new one is another
  older_other : (x : Req) → IsOlder old x → x ≢ r
  older_other x older same = not_older x.turn old.added (ap (λ (y : Req). y.turn) same ∙ adds.turn) older

  -- each name has a request of its own, after one was added
  pub given_more : AreGiven new names
  given_more = record {
    older = λ q. by_entry (lookup (nat_eq q) names) (given.older q);
    one_name = given.one_name;
  } where
    by_entry : (o : Option Req) → IfSome o (IsOlder old) → IfSome o (IsOlder new)
    by_entry None older = tt
    by_entry (Some x) older = omega (arith, older, adds.counted)

  -- the new request was added before the next one
  pub new_older : IsOlder new r
  new_older = omega (arith, adds.turn, adds.counted)

  -- no name stands for it yet
  pub new_unnamed : (q : ℕ) → lookup (nat_eq q) names ≢ Some r
  new_unnamed q is = older_other r (older_named old names q r given is) refl

  -- what a name stands for is the same
  pub named_more : (q : ℕ) → request_named new names q ≡ request_named old names q
  named_more q = by_entry (lookup (nat_eq q) names) (given.older q) where
    by_entry : (o : Option Req) → IfSome o (IsOlder old) →
        option_map request_of (option_and_then (kind_of new) o) ≡ option_map request_of
        (option_and_then (kind_of old) o)
    by_entry None older = refl
    by_entry (Some x) older = ap (λ (k : Option Kind). option_map request_of k)
        (adds.others x (older_other x older))

-- a name that is given a request
pub given_named : (requests : Live) (names names' : List (ℕ × Req)) (key : ℕ) (r : Req) →
    AreGiven requests names → IsOlder requests r →
    ((q : ℕ) → lookup (nat_eq q) names ≢ Some r) →
    ((q : ℕ) → lookup (nat_eq q) names' ≡ cond (nat_eq key q) (Some r) (lookup (nat_eq q) names)) →
    AreGiven requests names'
given_named requests names names' key r given older unnamed sets = record {
  older = λ q. rw (sets q) (by_key q (nat_eq key q));
  one_name = λ q p x first second. both q p x (nat_eq key q) (nat_eq key p) refl refl (sym (sets q)
      ∙ first) (sym (sets p) ∙ second);
} where
  by_key : (q : ℕ) (b : Bool) → IfSome (cond b (Some r) (lookup (nat_eq q) names)) (IsOlder requests)
  by_key q true = older
  by_key q false = given.older q

  both : (q p : ℕ) (x : Req) (b d : Bool) → nat_eq key q ≡ b → nat_eq key p ≡ d →
      cond b (Some r) (lookup (nat_eq q) names) ≡ Some x →
      cond d (Some r) (lookup (nat_eq p) names) ≡ Some x → q ≡ p
  both q p x true true one two first second = sym (same_key key q one) ∙ same_key key p two
  both q p x true false one two first second = absurd (unnamed p (second ∙ sym first))
  both q p x false true one two first second = absurd (unnamed q (first ∙ sym second))
  both q p x false false one two first second = given.one_name q p x first second

-- what a name that is given a request stands for, and what the others stand for
pub named_own : (requests : Live) (names names' : List (ℕ × Req)) (key : ℕ) (o : Option Req) →
    ((q : ℕ) → lookup (nat_eq q) names' ≡ cond (nat_eq key q) o (lookup (nat_eq q) names)) →
    request_named requests names' key ≡ option_map request_of (option_and_then (kind_of requests) o)
named_own requests names names' key o sets =
    ap (λ (o : Option Req). option_map request_of (option_and_then (kind_of requests) o))
    (sets key ∙ rw (key_self key) refl)

pub named_others : (requests : Live) (names names' : List (ℕ × Req)) (key : ℕ) (o : Option Req) →
    ((q : ℕ) → lookup (nat_eq q) names' ≡ cond (nat_eq key q) o (lookup (nat_eq q) names)) →
    (k : ℕ) → k ≢ key → request_named requests names' k ≡ request_named requests names k
named_others requests names names' key o sets k isnt =
    ap (λ (o : Option Req). option_map request_of (option_and_then (kind_of requests) o))
    (sets k ∙ rw (other_key key k isnt) refl)

-- a name whose request ends
module _ (old new : Live) (r : Req) (freed : IsFreed old new r) (names : List (ℕ × Req)) (key : ℕ)
    (given : AreGiven old names) (named : lookup (nat_eq key) names ≡ Some r) where
  other_request : (q : ℕ) (x : Req) → nat_eq key q ≡ false → lookup (nat_eq q) names ≡ Some x → x ≢ r
  other_request q x apart is same = let one : key ≡ q = given.one_name key q r named
      (is ∙ ap (λ (y : Req). Some y) same) in
      let never : nat_eq key q ≡ true = ap (λ (k : ℕ). nat_eq key k) (sym one) ∙ key_self key in cc

  pub given_ended : AreGiven new names
  given_ended = record {
    older = λ q. by_entry (lookup (nat_eq q) names) (given.older q);
    one_name = given.one_name;
  } where
    by_entry : (o : Option Req) → IfSome o (IsOlder old) → IfSome o (IsOlder new)
    by_entry None older = tt
    by_entry (Some x) older = omega (arith, older, freed.counted)

  -- what the other names stand for
  pub ended_others : (k : ℕ) → k ≢ key → request_named new names k ≡ request_named old names k
  ended_others k isnt = by_entry (lookup (nat_eq k) names) refl where
    by_entry : (o : Option Req) → lookup (nat_eq k) names ≡ o →
        option_map request_of (option_and_then (kind_of new) o) ≡ option_map request_of
        (option_and_then (kind_of old) o)
    by_entry None is = refl
    by_entry (Some x) is = ap (λ (k : Option Kind). option_map request_of k)
        (freed.others x (other_request k x (other_key key k isnt) is))

  pub ended_own : request_named new names key ≡ None
  ended_own = ap (λ (o : Option Req). option_map request_of (option_and_then (kind_of new) o)) named
      ∙ ap (λ (k : Option Kind). option_map request_of k) freed.gone

-- what a name stands for, by the request that it was given
pub named_by : (requests : Live) (names : List (ℕ × Req)) (q : ℕ) (o : Option Req) →
    lookup (nat_eq q) names ≡ o → request_named requests names q
    ≡ option_map request_of (option_and_then (kind_of requests) o)
named_by requests names q o is = ap (λ (o : Option Req). option_map request_of
    (option_and_then (kind_of requests) o)) is

-- where it has ended, or was never given one, for none
pub named_none : (requests : Live) (names : List (ℕ × Req)) (q : ℕ) (r : Req) →
    lookup (nat_eq q) names ≡ Some r → kind_of requests r ≡ None → request_named requests names q ≡ None
named_none requests names q r is ended = named_by requests names q (Some r) is
    ∙ ap (λ (k : Option Kind). option_map request_of k) ended

pub named_some : (requests : Live) (names : List (ℕ × Req)) (q : ℕ) (r : Req) (k : Kind) →
    lookup (nat_eq q) names ≡ Some r → kind_of requests r ≡ Some k →
    request_named requests names q ≡ Some (request_of k)
named_some requests names q r k is live = named_by requests names q (Some r) is
    ∙ ap (λ (k : Option Kind). option_map request_of k) live
