-- What is read of a history before an event, one rank after another.
use Rattle.std.proofs.Common.{◌≡◌, ◌⊎◌, inl, inr, ℕ, ◌<◌, ◌≤◌, ◌==◌, Bool, true, false, cond, List, [], take, drop}
use Rattle.std.proofs.Common.{sym, ◌∙◌, ap, subst, arith}
use Rattle.std.specs.Prelude.{nat_lt, MatchBool}
use Rattle.std.proofs.lemmas.Bool.{cases_lt, false≢true}
use Rattle.std.proofs.lemmas.Bool.Decides.{nat_tests}
use Rattle.std.proofs.lemmas.List.{take-append-drop, take-take}
use Rattle.nm_history.specs.declared.events.Event.{Event}
use Rattle.nm_history.specs.AtEach.{AtEach}
use Rattle.nm_history.proofs.EachLemmas.{AtEach-prefix}
use Rattle.nm_check_rank.specs.Breaks.{BreaksFirstAt}
use Rattle.nm_check.specs.CarriedBreaks.{is_read_before, read_of}
use Rattle.nm_check.specs.declared.firsts.Spot.{Spot}

by_tests : (x r k : ℕ) (h : List Event) (low same : Bool) → nat_lt x r ≡ low → (x == r) ≡ same →
    read_of r k x h ≡ cond low h (cond same (take k h) [])
by_tests x r k h low same is_low is_same =
    ap (λ (b : Bool). cond b h (cond (x == r) (take k h) [])) is_low
    ∙ ap (λ (b : Bool). cond low h (cond b (take k h) [])) is_same

-- of the event's own rank the events before it are read
pub read_own : (r k x : ℕ) (h : List Event) → r ≡ x → read_of r k x h ≡ take k h
read_own r k x h same = by_tests x r k h false true (grind (arith, nat_tests)) (grind (arith, nat_tests))

-- of a later rank nothing is
pub read_later : (r k x : ℕ) (h : List Event) → r < x → read_of r k x h ≡ []
read_later r k x h low = by_tests x r k h false false (grind (arith, nat_tests)) (grind (arith, nat_tests))

module _ (R : List Event → Event → Type 0) (h : List Event) where
  front : (k : ℕ) → AtEach R h → AtEach R (take k h)
  front k each =
      AtEach-prefix R (take k h) (drop k h)
      (subst (λ (g : List Event). AtEach R g) (sym (take-append-drop k h)) each)

  nothing : AtEach R []
  unfolding AtEach
  nothing = tt

  -- what all events keep those keep that are read
  pub read_kept : (r k x : ℕ) → AtEach R h → AtEach R (read_of r k x h)
  read_kept r k x each = by_rank (nat_lt x r) (x == r)
    where
      by_rank : (low same : Bool) → AtEach R (cond low h (cond same (take k h) []))
      by_rank true same = each
      by_rank false true = front k each
      by_rank false false = nothing

-- .. and what events keep up to one, where that is not read yet
pub read_early : (R : List Event → Event → Type 0) (h : List Event) (r k x m : ℕ) → BreaksFirstAt (AtEach R) h m →
    (r < x) ⊎ ((r ≡ x) × (k ≤ m)) → AtEach R (read_of r k x h)
read_early R h r k x m first (inl low) =
    subst (λ (g : List Event). AtEach R g) (sym (read_later r k x h low)) (nothing R h)
read_early R h r k x m first (inr here) =
    subst (λ (g : List Event). AtEach R g) (take-take k m h here.1 ∙ sym (read_own r k x h here.0))
    (front R (take m h) k first.kept)

-- a stands before b
abbrev pub Before : Spot → Spot → Type 0
Before a b = (a.rank < b.rank) ⊎ ((a.rank ≡ b.rank) × (a.at < b.at))

-- .. or not
abbrev pub NotBefore : Spot → Spot → Type 0
NotBefore a b = (b.rank < a.rank) ⊎ ((b.rank ≡ a.rank) × (b.at ≤ a.at))

pub order : (a b : Spot) (before : Bool) → is_read_before a b ≡ before → MatchBool before (Before a b) (NotBefore a b)
order a b before is = by_rank before is (cases_lt a.rank b.rank) (cases_lt b.rank a.rank) (cases_lt a.at b.at)
  where
    by_rank : (before : Bool) → is_read_before a b ≡ before → (a.rank < b.rank) ⊎ (b.rank ≤ a.rank) →
        (b.rank < a.rank) ⊎ (a.rank ≤ b.rank) → (a.at < b.at) ⊎ (b.at ≤ a.at) →
        MatchBool before (Before a b) (NotBefore a b)
    by_rank true is (inl low) high place = inl low
    by_rank true is (inr up) (inl high) place =
        let no : is_read_before a b ≡ false = grind (arith, nat_tests) in
        absurd (false≢true (sym no ∙ is))
    by_rank true is (inr up) (inr down) (inl early) = inr (omega arith, early)
    by_rank true is (inr up) (inr down) (inr late) =
        let no : is_read_before a b ≡ false = grind (arith, nat_tests) in
        absurd (false≢true (sym no ∙ is))
    by_rank false is (inl low) high place =
        let yes : is_read_before a b ≡ true = grind (arith, nat_tests) in
        absurd (false≢true (sym is ∙ yes))
    by_rank false is (inr up) (inl high) place = inl high
    by_rank false is (inr up) (inr down) (inl early) =
        let yes : is_read_before a b ≡ true = grind (arith, nat_tests) in
        absurd (false≢true (sym is ∙ yes))
    by_rank false is (inr up) (inr down) (inr late) = inr (omega arith, late)
