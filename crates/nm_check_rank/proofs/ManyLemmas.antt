-- How many events of a kind there are since the last answer, by what was found.
use Rattle.std.proofs.Common.{◌≡◌, ℕ, ◌<◌, ◌≤◌, Bool, true, false, cond, Some, List, [], ◌∷◌, length}
use Rattle.std.proofs.Common.{get_or, refl, sym, ◌∙◌, ap, subst, arith, take}
use Rattle.std.specs.Prelude.{slice_get}
use Rattle.std.specs.List.{filter}
use Rattle.std.proofs.lemmas.Option.{get_or_from_slice_get, slice_get_within}
use Rattle.nm_types.proofs.OptionLemmas.{some_and}
use Rattle.nm_history.specs.declared.events.Event.{Event}
use Rattle.nm_history.specs.declared.events.Happened.{Happened}
use Rattle.nm_lookups.specs.SinceAnswer.{IsSince, of_kind}
use Rattle.nm_lookups.specs.declared.asked.since.Since.{Since}
use Rattle.nm_lookups.specs.declared.asked.since.Since.TheVariants as since
use Rattle.nm_check_rank.specs.Manies.{many_of}
use Rattle.nm_check_rank.specs.declared.paired.manies.Many.TheVariants as many

pub same_head : {X : Type 0} {x y : X} {xs ys : List X} → (x ∷ xs) ≡ (y ∷ ys) → x ≡ y
same_head same = cc

-- two or more
pub many_more : {X : Type 0} (xs : List X) → 2 ≤ length xs → many.More ≡ many_of xs
many_more [] few = absurd (omega (arith, few))
many_more (x ∷ []) few = absurd (omega (arith, few))
many_more (x ∷ y ∷ xs) few = refl

-- the one event of a kind is of it
pub passed_head : (p : Happened → Bool) (ws : List Happened) (v : Happened) → filter p ws ≡ v ∷ [] → p v ≡ true
passed_head p [] v same = let both : 0 ≡ length (v ∷ []) = ap length same in absurd (omega (arith, both))
passed_head p (w ∷ ws) v same = by_kind (p w) refl same (passed_head p ws v)
  where
    by_kind : (b : Bool) → p w ≡ b → cond b (w ∷ filter p ws) (filter p ws) ≡ v ∷ [] →
        (filter p ws ≡ v ∷ [] → p v ≡ true) → p v ≡ true
    by_kind true is same more = subst (λ (x : Happened). p x ≡ true) (same_head same) is
    by_kind false is same more = more same

pub one_nothing : many.One ≡ many.Nothing → ⊥
one_nothing same = cc

pub one_more : many.One ≡ many.More → ⊥
one_more same = cc

-- what is left before a place
module _ (p : Happened → Bool) (h : List Event) (k : ℕ) (s : Since) (left : IsSince p h k s) where
  pub none_left : s ≡ since.Nothing → of_kind p (take k h) ≡ []
  none_left is = subst (λ (x : Since). IsSince p h k x) is left

  only : (t : ℕ) → s ≡ since.One t → (e : Event) × (slice_get h t ≡ Some e) × (of_kind p (take k h) ≡ e.what ∷ [])
  only t is =
      some_and (λ (e : Event). of_kind p (take k h) ≡ e.what ∷ []) (slice_get h t)
      (subst (λ (x : Since). IsSince p h k x) is left)

  pub one_inside : (t : ℕ) → s ≡ since.One t → t < length h
  one_inside t is = let one = only t is in slice_get_within h t one.0 one.1

  pub one_left : (t : ℕ) (x : Event) → s ≡ since.One t → of_kind p (take k h) ≡ (get_or h t x).what ∷ []
  one_left t x is =
      let one = only t is in
      one.2 ∙ ap (λ (e : Event). e.what ∷ []) (sym (get_or_from_slice_get h t one.0 x one.1))

  pub more_left : s ≡ since.More → 2 ≤ length (of_kind p (take k h))
  more_left is = subst (λ (x : Since). IsSince p h k x) is left

-- the number is not one
pub not_one_left : (p : Happened → Bool) (h : List Event) (k : ℕ) (s : Since) →
    ((t : ℕ) → s ≡ since.One t → ⊥) → IsSince p h k s → many.One ≡ many_of (of_kind p (take k h)) → ⊥
not_one_left p h k since.Nothing not none one =
    one_nothing (one ∙ ap (λ (ws : List Happened). many_of ws) none)
not_one_left p h k (since.One t) not some one = not t refl
not_one_left p h k since.More not more one = one_more (one ∙ sym (many_more (of_kind p (take k h)) more))
