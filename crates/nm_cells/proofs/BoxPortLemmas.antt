-- What each kind of step does to the boxes that a port has at work.
use Rattle.std.proofs.Common.{◌≡◌, ℕ, suc, ◌+◌, ◌*◌, ◌%◌, ◌<◌, ◌≤◌, Bool, true, false}
use Rattle.std.proofs.Common.{Option, Some, None, List, [], ◌∷◌, length, map, set, sym, refl}
use Rattle.std.proofs.Common.{ap, ◌∙◌, subst, get_or-set_same, get_or-set_other}
use Rattle.std.specs.Prelude.{slice_index_or}
use mathlib.Core.Logic.{dite}
use native.Mathlib.Decide.{ℕ_discrete}
use Rattle.nm_chain.specs.declared.table.table.Entry.{Entry}
use Rattle.nm_chain.specs.declared.table.table.Heads.{Heads}
use Rattle.nm_chain.specs.Rule.{Load, sender, box_slot, filling_of, emptying_of}
use Rattle.nm_chain.specs.Rule.{newcomer}
use Rattle.nm_chain.specs.Plays as plays
use Rattle.nm_chain.specs.Plays.{Knowing, mine, Took}
use Rattle.nm_cells.specs.Carried.{times}
use Rattle.nm_chain.specs.NextBox.{to_fill, next_box, work, BoxesApart}
use Rattle.nm_chain.specs.OwnQueues.{OwnQueue, receive_queue, free_queue}
use Rattle.nm_cells.specs.AtWork.{one_at, HoldsBoxes}
use Rattle.nm_cells.proofs.CountedLemmas.{lids_new}
use Rattle.nm_cells.proofs.NumberLemmas.{put_other, from_other}
use Rattle.nm_cells.proofs.HoldingLemmas.{turned_by}
use Rattle.nm_cells.proofs.AtWorkLemmas as at_work
use Rattle.nm_cells.proofs.AtWorkLemmas.{Distinct, distinct_of, behind_of}
use Rattle.nm_types.proofs.OptionLemmas.{no_some}

module _ {A : Type 0} where
  abbrev numbers : List (ℕ × Load A) → List ℕ
  numbers l = map (λ (x : ℕ × Load A). x.0) l

module _ {A : Type 0} (e : Entry A) (hs : List (ℕ × Load A)) (h : HoldsBoxes e hs) where
  abbrev n : ℕ
  n = e.ranks

  abbrev m : ℕ
  m = e.ranks * e.each

  abbrev apart : Distinct n (next_box e) (work e)
  apart = distinct_of e h.0 h.2

  -- the slot of a box at work is there once
  pub box_once : (b : Bool) (j : ℕ) → j < n → (y : Load A) → work e b j ≡ Some y
      → times (next_box e b j) (numbers hs) ≡ 1
  box_once b j low y is = at_work.once n m (next_box e) (work e) hs h.1 apart (behind_of e) b j low
      y is

  pub boxes_turned : (k : ℕ) → k ≤ length hs → HoldsBoxes e (turned_by k hs)
  boxes_turned k few = (
    h.0,
    at_work.turned n m (next_box e) (work e) hs h.1 apart (behind_of e) k few,
    h.2,
  )

  pub boxes_pushed : (c : ℕ) (y : Load A) → c < m → HoldsBoxes e ((c, y) ∷ hs)
  boxes_pushed c y low = (
    h.0,
    at_work.pushed n m (next_box e) (work e) hs h.1 (behind_of e) c y low,
    h.2,
  )

  -- a free box becomes the port's to fill
  pub boxes_opened : (j : ℕ) → j < n → j < length e.filling → filling_of e j ≡ false
      → BoxesApart (plays.with_filling j true e)
      → HoldsBoxes (plays.with_filling j true e) ((next_box e true j, None) ∷ hs)
  boxes_opened j low few shut new = let f = plays.with_filling j true e in (
    h.0,
    at_work.opened n m (next_box e) (work e) hs h.1 true j None low (ap to_fill shut) (work f)
        (ap to_fill (get_or-set_same e.filling j true false few)) else (distinct_of f h.0 new),
    new,
  ) where
    else : (d : Bool) (i : ℕ) → i < n → ¬ ((d ≡ true) × (i ≡ j))
        → work (plays.with_filling j true e) d i ≡ work e d i
    else true i l ne = ap to_fill
        (get_or-set_other e.filling j i true false (λ z. ne (refl, z)))
    else false i l ne = refl

  -- it was so already
  pub boxes_still_open : (j : ℕ) → j < length e.filling → filling_of e j ≡ true
      → BoxesApart (plays.with_filling j true e) → HoldsBoxes (plays.with_filling j true e) hs
  boxes_still_open j few was new = (
    h.0,
    at_work.along n m (next_box e) (work e) hs h.1 (next_box e)
        (work (plays.with_filling j true e)) (λ d i l. (refl, same d i l)),
    new,
  ) where
    same : (d : Bool) (i : ℕ) → i < n → work (plays.with_filling j true e) d i ≡ work e d i
    same true i l = ap to_fill (dite (ℕ_discrete i j)
        (λ z. ap (λ k. slice_index_or (set e.filling j true) k false) z
        ∙ get_or-set_same e.filling j true false few ∙ sym was
        ∙ ap (λ k. slice_index_or e.filling k false) (sym z))
        (λ ne. get_or-set_other e.filling j i true false ne))
    same false i l = refl

  -- a full box becomes the port's to empty
  pub boxes_begun : (j : ℕ) (y : Load A) → j < n → j < length e.emptying → emptying_of e j ≡ None
      → BoxesApart (plays.with_emptying j (Some y) e)
      → HoldsBoxes (plays.with_emptying j (Some y) e) ((next_box e false j, y) ∷ hs)
  boxes_begun j y low few shut new = let f = plays.with_emptying j (Some y) e in (
    h.0,
    at_work.opened n m (next_box e) (work e) hs h.1 false j y low shut (work f)
        (get_or-set_same e.emptying j (Some y) None few) else (distinct_of f h.0 new),
    new,
  ) where
    else : (d : Bool) (i : ℕ) → i < n → ¬ ((d ≡ false) × (i ≡ j))
        → work (plays.with_emptying j (Some y) e) d i ≡ work e d i
    else true i l ne = refl
    else false i l ne = get_or-set_other e.emptying j i (Some y) None (λ z. ne (refl, z))

  pub boxes_still_begun : (j : ℕ) (y : Load A) → j < length e.emptying → emptying_of e j ≡ Some y
      → BoxesApart (plays.with_emptying j (Some y) e)
      → HoldsBoxes (plays.with_emptying j (Some y) e) hs
  boxes_still_begun j y few was new = (
    h.0,
    at_work.along n m (next_box e) (work e) hs h.1 (next_box e)
        (work (plays.with_emptying j (Some y) e)) (λ d i l. (refl, same d i l)),
    new,
  ) where
    same : (d : Bool) (i : ℕ) → i < n
        → work (plays.with_emptying j (Some y) e) d i ≡ work e d i
    same true i l = refl
    same false i l = dite (ℕ_discrete i j)
        (λ z. ap (λ k. slice_index_or (set e.emptying j (Some y)) k None) z
        ∙ get_or-set_same e.emptying j (Some y) None few ∙ sym was
        ∙ ap (λ k. slice_index_or e.emptying k None) (sym z))
        (λ ne. get_or-set_other e.emptying j i (Some y) None ne)

-- the slot that was taken last is given back
module _ {A : Type 0} (e : Entry A) (left : List (ℕ × Load A)) where
  pub boxes_popped : (c : ℕ) (y : Load A) → c < e.ranks * e.each → HoldsBoxes e ((c, y) ∷ left)
      → HoldsBoxes e left
  boxes_popped c y low h = (
    h.0,
    at_work.popped e.ranks (e.ranks * e.each) (next_box e) (work e) left (behind_of e) c y low h.1,
    h.2,
  )

  pub boxes_exchanged : (c : ℕ) (x y : Load A) → c < e.ranks * e.each → HoldsBoxes e ((c, y) ∷ left)
      → HoldsBoxes e ((c, x) ∷ left)
  boxes_exchanged c x y low h = boxes_pushed e left (boxes_popped c y low h) c x low

  abbrev after_fill : ℕ → Load A → Entry A
  after_fill j p = plays.with_put_box ((j, p) ∷ []) (plays.with_filling j false e)

  abbrev after_empty : ℕ → Load A → Entry A
  after_empty j y = plays.with_got_box (y ∷ []) (plays.with_emptying j None e)

  -- a box is filled
  pub boxes_filled : (j : ℕ) (p w : Load A) → j < e.ranks → j < length e.filling → filling_of e j ≡ true
      → HoldsBoxes e ((next_box e true j, w) ∷ left)
      → HoldsBoxes (plays.with_put_box ((j, p) ∷ []) (plays.with_filling j false e)) left
  boxes_filled j p w low few was h = (
    h.0,
    at_work.shut e.ranks (e.ranks * e.each) (next_box e) (work e) left true j None w low (ap to_fill was)
        (distinct_of e h.0 h.2) h.1 (next_box (after_fill j p)) (work (after_fill j p)) now (λ d i l ne. else d i ne),
    apart,
  ) where
    now : work (after_fill j p) true j ≡ None
    now = ap to_fill (get_or-set_same e.filling j false false few)

    else : (d : Bool) (i : ℕ) → ¬ ((d ≡ true) × (i ≡ j))
        → (next_box (after_fill j p) d i ≡ next_box e d i) × (work (after_fill j p) d i ≡ work e d i)
    else true i ne = (
      ap (λ l. box_slot e.ranks e.each e.rank i (length l % 4))
          (put_other i j p e.put_box (λ z. ne (refl, z))),
      ap to_fill (get_or-set_other e.filling j i false false (λ z. ne (refl, z))),
    )
    else false i ne = (refl, refl)

    apart : BoxesApart (after_fill j p)
    apart i k li lk y z iy kz = dite (ℕ_discrete i j)
        (λ s. absurd (no_some y (sym now ∙ ap (work (after_fill j p) true) (sym s) ∙ iy)))
        (λ ne. let o = else true i (λ q. ne q.1) in λ same.
        h.2 i k li lk y z (sym o.1 ∙ iy) kz (sym o.0 ∙ same))

  -- a box is emptied
  pub boxes_emptied : (j : ℕ) (x y w : Load A) → j < e.ranks → j < length e.emptying
      → emptying_of e j ≡ Some x → sender y ≡ suc j
      → HoldsBoxes e ((next_box e false j, w) ∷ left)
      → HoldsBoxes (plays.with_got_box (y ∷ []) (plays.with_emptying j None e)) left
  boxes_emptied j x y w low few was is h = (
    h.0,
    at_work.shut e.ranks (e.ranks * e.each) (next_box e) (work e) left false j x w low was (distinct_of e h.0 h.2) h.1
        (next_box (after_empty j y)) (work (after_empty j y)) now (λ d i l ne. else d i ne),
    apart,
  ) where
    now : work (after_empty j y) false j ≡ None
    now = get_or-set_same e.emptying j None None few

    else : (d : Bool) (i : ℕ) → ¬ ((d ≡ false) × (i ≡ j))
        → (next_box (after_empty j y) d i ≡ next_box e d i) × (work (after_empty j y) d i ≡ work e d i)
    else true i ne = (refl, refl)
    else false i ne = (
      ap (λ l. box_slot e.ranks e.each i e.rank (length l % 4))
          (from_other i j y e.got_box is (λ z. ne (refl, z))),
      get_or-set_other e.emptying j i None None (λ z. ne (refl, z)),
    )

    apart : BoxesApart (after_empty j y)
    apart i k li lk u z iu kz = dite (ℕ_discrete k j)
        (λ s. absurd (no_some z (sym now ∙ ap (work (after_empty j y) false) (sym s) ∙ kz)))
        (λ ne. let o = else false k (λ q. ne q.1) in λ same.
        h.2 i k li lk u z iu (sym o.1 ∙ kz) (same ∙ o.0))

module _ {A : Type 0} where
  -- the first cell of an own queue is in hand
  pub boxes_took : (me after : Knowing A) (b : OwnQueue) (c shadow : ℕ) → HoldsBoxes (mine me) me.1
      → length (mine me).hands ≡ (mine me).ranks * (mine me).each → Took b c shadow me after
      → HoldsBoxes (mine after) after.1
  boxes_took me after receive_queue c shadow h long t = subst (λ (k : Knowing A). HoldsBoxes (mine k) k.1)
      (sym t.after_is)
      (boxes_pushed (mine me) me.1 h c t.load (subst (λ k. c < k) long t.low))
  boxes_took me after free_queue c shadow h long t = subst (λ (k : Knowing A). HoldsBoxes (mine k) k.1)
      (sym t.after_is)
      (boxes_pushed (mine me) me.1 h c t.load (subst (λ k. c < k) long t.low))

  -- what a consumer knows of a queue changes
  pub boxes_heads : (b : OwnQueue) (x : Heads) (e : Entry A) (hs : List (ℕ × Load A)) → HoldsBoxes e hs
      → HoldsBoxes (plays.with_heads b x e) hs
  boxes_heads receive_queue x e hs h = h
  boxes_heads free_queue x e hs h = h

-- at the start
module _ (A : Type 0) (n each r : ℕ) where
  abbrev fresh : Entry A
  fresh = newcomer n each r

  idle : (b : Bool) (j : ℕ) → work fresh b j ≡ None
  idle true j = ap to_fill (lids_new false n j)
  idle false j = let nothing : Option (Load A) = None in lids_new nothing n j

  none : (k : ℕ) (b : Bool) (j : ℕ) → one_at k (work fresh b j) (next_box fresh b j) ≡ 0
  none k b j = ap (λ x. one_at k x (next_box fresh b j)) (idle b j) ∙ at_work.one_none A k (next_box fresh b j)

  pub boxes_new : r < n → HoldsBoxes fresh []
  boxes_new low = (
    low,
    record {
      counted = λ k far. sym
          ((λ t. at_work.sum_none n (λ j. one_at k (work fresh true j) (next_box fresh true j))
          (λ i l. none k true i) t
          + at_work.sum_none n (λ j. one_at k (work fresh false j) (next_box fresh false j))
          (λ i l. none k false i) t) ∙ refl);
      loaded = λ b j l y is. absurd (no_some y (sym (idle b j) ∙ is));
    },
    λ j i lj li y z jy iz. absurd (no_some y (sym (idle true j) ∙ jy)),
  )
