-- No box is being filled and emptied at once: the flag of the one is 0, and that of the other is not.
use Rattle.std.proofs.Common.{◌≡◌, ℕ, zero, suc, ◌+◌, ◌*◌, ◌%◌, ◌<◌, Bool, true, false}
use Rattle.std.proofs.Common.{Some, List, [], ◌∷◌, length, set, sym, refl, ap, ◌∙◌, subst, arith}
use Rattle.std.specs.Prelude.{slice_index}
use mathlib.Core.Option as maybe
use lib.ListN.{get_elem?}
use Rattle.atomic_table.specs.Table.{State}
use Rattle.nm_chain.specs.declared.seats.views.View.{View}
use Rattle.nm_chain.specs.Spoken.{view}
use Rattle.nm_types.specs.Sizes.{Sizes}
use Rattle.nm_chain.specs.declared.table.table.Entry.{Entry}
use Rattle.nm_chain.specs.Rule.{Load, put_to, from, number, box_slot, filling_of, Rule}
use Rattle.nm_chain.specs.NextBox.{to_fill, BoxesApart}
use Rattle.nm_chain.proofs.SeatLemmas.{own}
use Rattle.nm_chain.proofs.BoxFillLemmas as fills
use Rattle.nm_chain.proofs.BoxEmptyLemmas as empties

module _ {A : Type 0} where
  filled_is : (b : Bool) (y : Load A) → to_fill b ≡ Some y → b ≡ true
  filled_is true y e = refl
  filled_is false y e = absurd (let z = e in cc)

here_again : {A : Type 0} (xs : List A) (i : ℕ) (x y : A) → get_elem? xs i ≡ maybe.some x
    → get_elem? (set xs i y) i ≡ maybe.some y
here_again [] i x y e = absurd (let z = e in cc)
here_again (a ∷ xs) zero x y e = refl
here_again (a ∷ xs) (suc i) x y e = here_again xs i x y e

module _ {A : Type 0} {boxable : A → Bool} where
  pub apart : (key : Sizes) (s : State (Load A) (View (Entry A))) (R : Rule boxable key s) (id : ℕ) (e : Entry A)
      → e.rank < key.ranks → get_elem? s.views id ≡ maybe.some (view (e ∷ [])) → BoxesApart e
  apart key s R id e low at j i lj li y z fj ei same = let k = own key s R id e at low in
      let few : j < key.ranks = subst (λ u. j < u) k.ranks lj in
      let few' : i < key.ranks = subst (λ u. i < u) k.ranks li in
      let lane = fills.out_lane boxable key 0 id e low j few s R at in
      let room = lane.room (filled_is (filling_of e j) y fj) in
      let free = (lane.free 0 (omega arith)).0 in
      let first = empties.in_first boxable key 0 id e low i few' s R at z ei in
      let t : ℕ = length (put_to j e.put_box) in let u : ℕ = length (from i e.got_box) in
      let none : t + 0 ≡ t = omega arith in
      let one_slot : box_slot key.ranks key.cells e.rank j (t % 4) ≡ box_slot key.ranks key.cells i
      e.rank (u % 4) = (λ d. box_slot (sym k.ranks d) (sym k.per d) e.rank j (t % 4)) ∙ same
      ∙ (λ d. box_slot (k.ranks d) (k.per d) i e.rank (u % 4)) in
      let zeroed : slice_index s.words (4 * key.ranks + box_slot key.ranks key.cells e.rank j (t % 4))
      ≡ 0 = ap (λ d. slice_index s.words
      (4 * key.ranks + box_slot key.ranks key.cells e.rank j (d % 4))) (sym none) ∙ free in
      let both : 0 ≡ suc (number z) = sym zeroed
      ∙ ap (λ c. slice_index s.words (4 * key.ranks + c)) one_slot ∙ first.2 in omega arith

  -- the same after a step of the seat
  pub apart_after : (key : Sizes) (words : List ℕ) (homes : List (maybe.Option (Load A)))
      (views : List (View (Entry A))) (id : ℕ) (v : View (Entry A)) (f : Entry A) → f.rank < key.ranks
      → get_elem? views id ≡ maybe.some v → Rule boxable key record {
        words = words;
        homes = homes;
        views =
            set views id (view (f ∷ []));
      } → BoxesApart f
  apart_after key words homes views id v f low at R = apart key record {
    words = words;
    homes = homes;
    views =
        set views id (view (f ∷ []));
  } R id f low (here_again views id v (view (f ∷ [])) at)
