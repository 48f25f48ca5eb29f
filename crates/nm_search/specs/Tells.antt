-- Tests that tell which values are equal.
use Rattle.std.proofs.Common.{◌≡◌, ℕ, ◌==◌, ◌&&◌, Bool, true, false, List, [], ◌∷◌, refl, sym, ◌∙◌, ap, subst}
use Rattle.std.specs.Bool.{Decides}
use Rattle.std.specs.Cmp.{IsEquivalence, unsigned_Decides}
use Rattle.std.specs.Cmp.Lexicographic.{pointwise}
use Rattle.std.proofs.lemmas.Bool.{false≢true}
use Rattle.nm_types.proofs.TruthLemmas.{and_left as first, and_right as second, both as and_so}
use Rattle.nm_types.specs.declared.messages.Peer.{Peer}
use Rattle.nm_types.specs.declared.messages.Peer.TheVariants as peer
use Rattle.nm_types.specs.declared.messages.TagPick.{TagPick}
use Rattle.nm_types.specs.declared.messages.TagPick.TheVariants as pick
use Rattle.nm_types.specs.contracts.messages.PeerPartialEq.TheImpl.{ghosts as peer_eq}
use Rattle.nm_types.specs.contracts.messages.TagPickPartialEq.TheImpl.{ghosts as pick_eq}

-- a test tells which values are equal
abbrev pub Tells : {X : Type 0} → (X → X → Bool) → Type 0
Tells {X} E = (x y : X) → Decides (E x y) (x ≡ y)

-- two tests of the parts of a pair
module _ {A B : Type 0} {E : A → A → Bool} {F : B → B → Bool} where
  pub both : Tells E → Tells F → Tells (λ (x y : A × B). E x.0 y.0 && F x.1 y.1)
  both one two x y = (
    λ so i. (
      (one x.0 y.0).0 (first (E x.0 y.0) (F x.1 y.1) so) i,
      (two x.1 y.1).0 (second (E x.0 y.0) (F x.1 y.1) so)
          i,
    ),
    λ is. and_so (E x.0 y.0) (F x.1 y.1) ((one x.0 y.0).1 (ap (λ (p : A × B). p.0) is))
        ((two x.1 y.1).1 (ap (λ (p : A × B). p.1) is)),
  )

-- the test of what a value is made of
pub by_parts : {X T : Type 0} {F : T → T → Bool} (f : X → T) (g : T → X) → ((x : X) → g (f x) ≡ x) → Tells F →
    Tells (λ (x y : X). F (f x) (f y))
by_parts {X} {T} f g back tells x y = (
  λ so. sym (back x) ∙ ap g ((tells (f x) (f y)).0 so) ∙ back y,
  λ is. (tells (f x) (f y)).1 (ap f is),
)

-- a test that is true only of equal values, and of each value and itself
pub of_self : {X : Type 0} {E : X → X → Bool} → ((x y : X) → E x y ≡ true → x ≡ y) → ((x : X) → E x x ≡ true) → Tells E
of_self {X} {E} same self x y = (same x y, λ is. subst (λ (z : X). E x z ≡ true) is (self x))

-- lists, element by element
module _ {X : Type 0} {E : X → X → Bool} (tells : Tells E) where
  same_items : (xs ys : List X) → pointwise E xs ys ≡ true → xs ≡ ys
  same_items [] [] so = refl
  same_items [] (y ∷ ys) so = absurd (false≢true so)
  same_items (x ∷ xs) [] so = absurd (false≢true so)
  same_items (x ∷ xs) (y ∷ ys) so =
      λ i. (tells x y).0 (first (E x y) (pointwise E xs ys) so) i
      ∷ same_items xs ys (second (E x y) (pointwise E xs ys) so) i

  own_items : (xs : List X) → pointwise E xs xs ≡ true
  own_items [] = refl
  own_items (x ∷ xs) = and_so (E x x) (pointwise E xs xs) ((tells x x).1 refl) (own_items xs)

  pub lists : Tells (pointwise E)
  lists = of_self same_items own_items

pub numbers : Tells (λ (x y : ℕ). x == y)
numbers = unsigned_Decides

same_peer : (x y : Peer) → peer_eq.eq x y ≡ true → x ≡ y
same_peer peer.Any peer.Any so = refl
same_peer (peer.One a) (peer.One b) so = ap peer.One ((numbers a b).0 so)
same_peer x y so = absurd (false≢true so)

own_peer : (x : Peer) → peer_eq.eq x x ≡ true
own_peer peer.Any = refl
own_peer (peer.One a) = (numbers a a).1 refl

pub peers : Tells peer_eq.eq
peers = of_self same_peer own_peer

same_pick : (x y : TagPick) → pick_eq.eq x y ≡ true → x ≡ y
same_pick pick.Any pick.Any so = refl
same_pick (pick.One a) (pick.One b) so = ap pick.One ((numbers a b).0 so)
same_pick x y so = absurd (false≢true so)

own_pick : (x : TagPick) → pick_eq.eq x x ≡ true
own_pick pick.Any = refl
own_pick (pick.One a) = (numbers a a).1 refl

pub picks : Tells pick_eq.eq
picks = of_self same_pick own_pick

-- a test that tells which values are equal is an equivalence
module _ {X : Type 0} {E : X → X → Bool} (tells : Tells E) where
  turned : (x y : X) (a b : Bool) → E x y ≡ a → E y x ≡ b → E x y ≡ E y x
  turned x y true b one two = subst (λ (z : X). E x z ≡ E z x) ((tells x y).0 one) refl
  turned x y false true one two = subst (λ (z : X). E z y ≡ E y z) ((tells y x).0 two) refl
  turned x y false false one two = one ∙ sym two

  pub equivalence : IsEquivalence E
  equivalence =
      record {
        refl = λ x. (tells x x).1 refl;
        symm = λ x y. turned x y (E x y) (E y x) refl refl;
        congr = λ x y z so. ap (λ (w : X). E w z) ((tells x y).0 so);
      }
