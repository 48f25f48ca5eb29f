-- A loop over steps of one kind, that ends with the first one that moves nothing.
use Rattle.std.proofs.Common.{◌≡◌, ℕ, ◌+◌, ◌*◌, ◌<◌, ◌≤◌, Bool, true, false, ◌||◌, refl, sym, ◌∙◌, subst, arith}
use Rattle.std.specs.Prelude.{nat_lt}
use Rattle.std.proofs.lemmas.Bool.Decides.{nat_tests}
use Rattle.std.proofs.Math.Nat.{add-mul, mul-le-mul_right}
use Rattle.nm_rank.specs.Ranks.{IsFresh}
use Rattle.nm_world.specs.declared.actors.Actor.{Actor}
use Rattle.nm_world.specs.Actors.{Environment, HasPorts}
use Rattle.nm_world.specs.Idle.{Moves}
use Rattle.nm_world.proofs.Did.{or_none}
use Rattle.nm_world.proofs.Moves.{moves_none, moves_on}
use Rattle.nm_types.proofs.TruthLemmas.{or_right}

-- after k steps that moved something
pub record HasLooped {H : Type 0} (here : Environment) (k : ℕ) (a b : Actor H) : Type 0 where
  pub moves : Moves here (nat_lt 0 k) a b
  pub first : k ≡ 0 → b ≡ a

pub some_more : (k : ℕ) → nat_lt 0 (k + 1) ≡ true
some_more k = grind (arith, nat_tests)

pub is_first : (k : ℕ) → nat_lt 0 k ≡ false → k ≡ 0
is_first k none = let low : k ≤ 0 = grind (arith, nat_tests) in omega (arith, low)

module _ {H : Type 0} (here : Environment) (a : Actor H) where
  pub loop_none : HasPorts here.fabric here.rings a → HasLooped here 0 a a
  loop_none s = record { moves = moves_none here a s; first = λ e. refl }

  pub loop_more : (k : ℕ) (b c : Actor H) (q : Bool) → q ≡ true → HasLooped here k a b → Moves here q b c →
      HasLooped here (k + 1) a c
  loop_more k b c q is before moves = record {
    moves = subst (λ (p : Bool). Moves here p a c) (or_right (nat_lt 0 k) q is ∙ sym (some_more k))
        (moves_on here (nat_lt 0 k) q a b c before.moves moves);
    first = λ e. absurd (omega (arith, e));
  }

  -- with a last step that moved nothing
  pub record HasEnded (k : ℕ) (b c : Actor H) : Type 0 where
    pub moves : Moves here (nat_lt 0 k) a c
    pub sole : nat_lt 0 k ≡ false → b ≡ a

  pub loop_last : (k : ℕ) (b c : Actor H) (q : Bool) → q ≡ false → HasLooped here k a b → Moves here q b c →
      HasEnded k b c
  loop_last k b c q none before moves = record {
    moves = subst (λ (p : Bool). Moves here p a c) (sym (or_none (nat_lt 0 k) q none))
        (moves_on here (nat_lt 0 k) q a b c before.moves moves);
    sole = λ none. before.first (is_first k none);
  }

-- how far a count is: x at first, y after k steps that add at most m each, z after one more
pub spent_more : (k m x y z : ℕ) → y ≤ x + k * m → z ≤ y + m → z ≤ x + (k + 1) * m
spent_more k m x y z before one = let e = add-mul k 1 m in omega (arith, e, before, one)

pub spent_all : (k n m x y : ℕ) → k ≤ n → y ≤ x + k * m → y ≤ x + n * m
spent_all k n m x y few before = let e = mul-le-mul_right m few in omega (arith, e, before)

pub spent_last : (k n m x y z : ℕ) → k < n → y ≤ x + k * m → z ≤ y + m → z ≤ x + n * m
spent_last k n m x y z few before one =
    spent_all (k + 1) n m x z (omega (arith, few)) (spent_more k m x y z before one)

-- a loop that made all its steps
pub some_made : (k n : ℕ) → n ≤ k → 0 < n → 0 < k
some_made k n all some = omega (arith, all, some)

pub all_made : (k n : ℕ) → n ≤ k → 0 < n → nat_lt 0 k ≡ true
all_made k n all some = let more : 0 < k = omega (arith, all, some) in grind (arith, nat_tests)

pub or_swap : (p q r : Bool) → ((p || q) || r) ≡ ((p || r) || q)
or_swap true q r = refl
or_swap false true true = refl
or_swap false true false = refl
or_swap false false true = refl
or_swap false false false = refl

-- a worn rank stays as it is
pub stays_worn : {H : Type 0} → (a b m : Actor H) → (¬ IsFresh a.process.rank → b ≡ a) →
    (¬ IsFresh b.process.rank → m ≡ b) →
    ¬ IsFresh a.process.rank → m ≡ a
stays_worn a b m one two worn =
    two (subst (λ (x : Actor _). ¬ IsFresh x.process.rank) (sym (one worn)) worn) ∙ one worn

pub none_ran : {H : Type 0} → (a b m : Actor H) → (¬ IsFresh a.process.rank → b ≡ a) →
    (¬ IsFresh b.process.rank → m ≡ b) →
    ¬ IsFresh a.process.rank → IsFresh m.process.rank → ⊥
none_ran a b m one two worn fresh =
    worn (subst (λ (x : Actor _). IsFresh x.process.rank) (stays_worn a b m one two worn) fresh)
