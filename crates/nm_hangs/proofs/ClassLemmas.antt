-- To go on alike is the same from both sides, and along others.
use Rattle.std.proofs.Common.{◌≡◌, inl, inr, ℕ, ◌≤◌, Option, Some, None, List, map, refl, sym, ◌∙◌, subst}
use Rattle.nm_types.specs.declared.scripts.Line.{Line}
use Rattle.nm_outcomes.specs.declared.spots.deeds.Deed.{Deed}
use Rattle.nm_outcomes.specs.Looks.{is_answer_by, is_receive_by}
use Rattle.nm_outcomes.specs.RankStates.{Spot}
use Rattle.nm_hangs.specs.Alike.{AreAlike, IsAlike, IsAlikeOr, IsAsked, plain}
use Rattle.nm_hangs.proofs.PlainLemmas.{count_same, live_same, request_same}

-- what may be asked for does not depend on what was shown
asked_same : (lines : List Line) (i : ℕ) (xs ys : List Deed) → map plain xs ≡ map plain ys → (number : ℕ) →
    IsAsked lines i xs number → IsAsked lines i ys number
asked_same lines i xs ys alike number (inl named) =
    inl (named.0, sym (live_same xs ys alike lines i named.0) ∙ named.1)
asked_same lines i xs ys alike number (inr (inl started)) =
    inr (inl (
      started.0,
      started.1,
      sym (request_same xs ys alike started.0) ∙ started.2,
      subst (λ (n : ℕ). n ≤ started.1) (count_same xs ys alike is_answer_by (λ l r s. refl)) started.3,
      started.4,
    ))
asked_same lines i xs ys alike number (inr (inr new)) =
    inr (inr (subst (λ (n : ℕ). n ≤ number) (count_same xs ys alike is_receive_by (λ l r s. refl)) new))

module _ (lines : List Line) (i : ℕ) where
  alike_self : (x : Spot) → IsAlike lines i x x
  alike_self x = record {
    deeds = refl;
    receives = refl;
    free = refl;
    came = refl;
    withdrawn = refl;
    taken = λ from n. refl;
    paired = λ number. refl;
    asked = λ number asked. refl;
  }

  alike_turned : (x y : Spot) → IsAlike lines i x y → IsAlike lines i y x
  alike_turned x y is = record {
    deeds = sym is.deeds;
    receives = sym is.receives;
    free = sym is.free;
    came = sym is.came;
    withdrawn = sym is.withdrawn;
    taken = λ from n. sym (is.taken from n);
    paired = λ number. sym (is.paired number);
    asked = λ number asked.
        sym (is.asked number (asked_same lines i y.deeds x.deeds (sym is.deeds) number asked));
  }

  alike_then : (x y z : Spot) → IsAlike lines i x y → IsAlike lines i y z → IsAlike lines i x z
  alike_then x y z one two = record {
    deeds = one.deeds ∙ two.deeds;
    receives = one.receives ∙ two.receives;
    free = one.free ∙ two.free;
    came = one.came ∙ two.came;
    withdrawn = one.withdrawn ∙ two.withdrawn;
    taken = λ from n. one.taken from n ∙ two.taken from n;
    paired = λ number. one.paired number ∙ two.paired number;
    asked = λ number asked.
        one.asked number asked ∙ two.asked number (asked_same lines i x.deeds y.deeds one.deeds number asked);
  }

  pub or_self : (o : Option Spot) → IsAlikeOr lines i o o
  or_self None = tt
  or_self (Some x) = alike_self x

  or_turned : (o p : Option Spot) → IsAlikeOr lines i o p → IsAlikeOr lines i p o
  or_turned None None both = tt
  or_turned (Some x) (Some y) both = alike_turned x y both
  or_turned None (Some y) both = absurd both
  or_turned (Some x) None both = absurd both

  or_then : (o p q : Option Spot) → IsAlikeOr lines i o p → IsAlikeOr lines i p q → IsAlikeOr lines i o q
  or_then None None None one two = tt
  or_then (Some x) (Some y) (Some z) one two = alike_then x y z one two
  or_then None None (Some z) one two = absurd two
  or_then None (Some y) q one two = absurd one
  or_then (Some x) None q one two = absurd one
  or_then (Some x) (Some y) None one two = absurd two

  -- the other state is there, too
  pub other_there : (o p : Option Spot) (x : Spot) → IsAlikeOr lines i o p → o ≡ Some x →
      (y : Spot) × (p ≡ Some y) × IsAlike lines i x y
  other_there o p x both here = by_other p (subst (λ (u : Option Spot). IsAlikeOr lines i u p) here both)
    where
      by_other : (p : Option Spot) → IsAlikeOr lines i (Some x) p → (y : Spot) × (p ≡ Some y) × IsAlike lines i x y
      by_other (Some y) both = (y, refl, both)
      by_other None both = absurd both

pub are_turned : (lines : List Line) (v w : ℕ → Option Spot) → AreAlike lines v w → AreAlike lines w v
are_turned lines v w are = λ i. or_turned lines i (v i) (w i) (are i)

pub are_then : (lines : List Line) (u v w : ℕ → Option Spot) → AreAlike lines u v → AreAlike lines v w →
    AreAlike lines u w
are_then lines u v w one two = λ i. or_then lines i (u i) (v i) (w i) (one i) (two i)

pub are_same : (lines : List Line) (v w : ℕ → Option Spot) → ((i : ℕ) → v i ≡ w i) → AreAlike lines v w
are_same lines v w same = λ i. subst (λ (o : Option Spot). IsAlikeOr lines i (v i) o) (same i) (or_self lines i (v i))
