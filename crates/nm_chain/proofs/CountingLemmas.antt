-- Where no rank has a cell in hand, each cell stands in a queue, and where nothing is left to receive, in its
-- owner's free queue.
use Rattle.std.proofs.Common.{◌≡◌, ℕ, suc, ◌+◌, ◌-◌, ◌*◌, ◌/◌, ◌<◌, ◌≤◌, List, [], ◌∷◌, length, sym}
use Rattle.std.proofs.Common.{refl, ap, ◌∙◌, subst, ⊎_elim, arith, mul-le-mul_right}
use Rattle.std.proofs.lemmas.Nat.{div-mul-add}
use Rattle.std.proofs.Math.Nat.{div-mul-le_self, lt-div-mul-add}
use mathlib.Core.Option as maybe
use native.Mathlib.Decide.{dec_le}
use mathlib.Core.Logic.{dite}
use Rattle.nm_chain.specs.Chain.{Item, IsIn, Has, Each, loose, held, ready, entering, queued}
use Rattle.nm_chain.proofs.CountLemmas.{counts}
use Rattle.nm_chain.specs.declared.table.table.Hand.TheVariants.{Away}
use Rattle.nm_chain.specs.declared.table.table.Entry.{Entry}
use Rattle.nm_chain.specs.Rule.{Load, Place, hand, World, Below, NotOf, Shows, Agrees, Fits, Handed}
use Rattle.nm_chain.specs.Rule.{QueuesHold}

module _ {A : Type 0} where
  -- a place in which no rank has part
  settled : (n : ℕ) (p : Place A) → Below n p → ((r : ℕ) → r < n → NotOf r p) → (q : ℕ) × (p ≡ queued q)
  settled n (loose r) b f = absurd (f r b refl)
  settled n (held r) b f = absurd (f r b refl)
  settled n (ready r y) b f = absurd (f r b refl)
  settled n (entering r q t) b f = absurd (f r b refl)
  settled n (queued q) b f = (q, refl)

  fits_of : (F : Item (Load A) → Type 0) (P : ℕ → Type 0) → ((x : Item (Load A)) → F x → P x.cell)
      → (xs : List (Item (Load A))) → Each F xs → (c : ℕ) → Has c xs → P c
  fits_of F P f [] e c h = absurd h
  fits_of F P f (x ∷ xs) e c h =
      ⊎_elim (λ s. subst P (sym s) (f x e.0)) (λ k. fits_of F P f xs e.1 c k) h

module _ {A : Type 0} (n each : ℕ) (some : 0 < each) (w : World A) (words : List ℕ)
    (homes : List (maybe.Option (Load A))) (l : QueuesHold n each w words homes) (ledger : ℕ → Entry A)
    (knows : (r : ℕ) → r < n → Agrees n each w r (ledger r))
    (ranked : (c : ℕ) → Below n (w.place c)) (away : (r c : ℕ) → r < n → c < n * each
    → hand (ledger r) c ≡ Away) where
  pub in_queue : (c : ℕ) → c < n * each → (q : ℕ) × (w.place c ≡ queued q) × (q < 2 * n)
      × Has c (w.chain q)
  in_queue c low = let s =
      settled n (w.place c) (ranked c) (λ r few. subst (Shows r (w.place c)) (away r c few low)
      ((knows r few).hands c low)) in
      let fit : s.0 < 2 * n = subst (Handed n words homes c) s.1 (l.cells c low) in
      (s.0, s.1, fit, (l.queues s.0 fit).whole c (subst (IsIn s.0) (sym s.1) refl))

  -- each rank's free queue has all of its cells
  pub home : ((j : ℕ) → j < n → w.chain j ≡ []) → (r : ℕ) → r < n → length (w.chain (n + r)) ≡ each
  home empty r few = let fit : n + r < 2 * n = omega arith in let h = l.queues (n + r) fit in
      counts each (r * each) (w.chain (n + r)) h.once
      (λ c k. fits_of (Fits n each homes (n + r)) (λ d. (r * each ≤ d) × (d < r * each + each))
      (λ x f. let own : x.cell / each ≡ r = (let u = (f.2.1 (omega arith)).1 in omega arith) in (
        subst (λ u. u * each ≤ x.cell) own (div-mul-le_self x.cell each),
        subst (λ u. x.cell < u * each + each) own (lt-div-mul-add some),
      ))
      (w.chain (n + r)) h.each c k)
      (λ c from below. let low : c < n * each =
      (let s : suc r * each ≤ n * each = mul-le-mul_right each few in
      let t : suc r * each ≡ r * each + each = omega arith in omega arith) in
      let i = in_queue c low in dite (dec_le n i.0)
      (λ far. let g = fits_of (Fits n each homes i.0) (λ d. n + d / each ≡ i.0)
      (λ x f. (f.2.1 far).1) (w.chain i.0) (l.queues i.0 i.2).each c i.3 in
      let row : c / each ≡ r = let e : c ≡ r * each + (c - r * each) = omega arith in
      ap (λ d. d / each) e ∙ div-mul-add r each (c - r * each) (omega arith) in
      subst (λ q. Has c (w.chain q)) (sym g ∙ ap (λ d. n + d) row) i.3)
      (λ near. absurd (subst (Has c) (empty i.0 (omega arith)) i.3)))
