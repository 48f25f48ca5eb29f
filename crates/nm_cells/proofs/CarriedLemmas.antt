-- What each kind of step does to the slots that a port has taken.
use Rattle.std.proofs.Common.{◌≡◌, ◌≢◌, ℕ, zero, suc, ◌+◌, ◌<◌, ◌≤◌, Bool, true, false, Option}
use Rattle.std.proofs.Common.{Some, None, List, [], ◌∷◌, length, map, set, sym}
use Rattle.std.proofs.Common.{refl, ap, ◌∙◌, subst, arith, length-set, get_or-set_same}
use Rattle.std.proofs.Common.{get_or-set_other}
use Rattle.std.proofs.lemmas.List.Sums.{sum_by-set, sum_by-cons}
use Rattle.std.proofs.lemmas.List.{length-map}
use Rattle.std.specs.Prelude.{slice_index_or, sum_by, remove}
use mathlib.Core.Logic.{dite}
use native.Mathlib.Decide.{ℕ_discrete}
use Rattle.nm_chain.proofs.UpdateLemmas.{pick_yes, pick_no}
use Rattle.nm_chain.specs.declared.table.table.Hand.{Hand}
use Rattle.nm_chain.specs.declared.table.table.Hand.TheVariants.{Away, Loose, Held, Ready, Entering}
use Rattle.nm_chain.specs.Rule.{Load}
use Rattle.nm_chain.specs.Plays.{InHand}
use Rattle.nm_cells.specs.Carried.{times, slots_with, in_hand, fills, empties, open_boxes, Carries}

pub times_here : (c : ℕ) (xs : List ℕ) → times c (c ∷ xs) ≡ suc (times c xs)
times_here c xs = let one : ℕ = 1 in let none : ℕ = 0 in
    ap (λ k. k + times c xs) (pick_yes one none refl (ℕ_discrete c c))
    ∙ (let e : 1 + times c xs ≡ suc (times c xs) = omega arith in e)

pub times_else : (c d : ℕ) (xs : List ℕ) → c ≢ d → times c (d ∷ xs) ≡ times c xs
times_else c d xs ne = let one : ℕ = 1 in let none : ℕ = 0 in
    ap (λ k. k + times c xs) (pick_no one none (λ z. ne (sym z)) (ℕ_discrete d c))
    ∙ (let e : 0 + times c xs ≡ times c xs = omega arith in e)

module _ {A : Type 0} where
  -- a cell in hand has its slot there
  pub in_hand_one : (h : Hand A) → InHand h → slots_with h ≡ 1
  in_hand_one Away i = absurd i
  in_hand_one Loose i = absurd i
  in_hand_one Held i = refl
  in_hand_one (Ready y) i = refl
  in_hand_one (Entering q t) i = absurd i

sum_below : {A : Type 0} (f : A → ℕ) (xs : List A) → ((x : A) → f x ≤ 1) → sum_by f xs ≤ length xs
sum_below f [] h = omega arith
sum_below f (x ∷ xs) h = let one = h x in let more = sum_below f xs h in
    let both = sum_by-cons f x xs in let long : length (x ∷ xs) ≡ suc (length xs) = refl in
    omega arith

module _ {A : Type 0} where
  pub slots_one : (h : Hand A) → slots_with h ≤ 1
  slots_one Away = omega arith
  slots_one Loose = omega arith
  slots_one Held = omega arith
  slots_one (Ready y) = omega arith
  slots_one (Entering q t) = omega arith

  hand_one : (h : Hand A) → in_hand h ≤ 1
  hand_one Away = omega arith
  hand_one Loose = omega arith
  hand_one Held = omega arith
  hand_one (Ready y) = omega arith
  hand_one (Entering q t) = omega arith

fills_one : (b : Bool) → fills b ≤ 1
fills_one true = omega arith
fills_one false = omega arith

module _ {A : Type 0} where
  empties_one : (x : Option (Load A)) → empties x ≤ 1
  empties_one None = omega arith
  empties_one (Some y) = omega arith

abbrev rest_of : List ℕ → List ℕ
rest_of [] = []
rest_of (x ∷ xs) = xs

module _ {A : Type 0} where
  one_below : (h : Hand A) → slots_with h ≤ in_hand h
  one_below Away = omega arith
  one_below Loose = omega arith
  one_below Held = omega arith
  one_below (Ready y) = omega arith
  one_below (Entering q t) = omega arith

  slots_below_hands : (hs : List (Hand A)) → sum_by slots_with hs ≤ sum_by in_hand hs
  slots_below_hands [] = omega arith
  slots_below_hands (x ∷ xs) = let a = sum_by-cons slots_with x xs in
      let b = sum_by-cons in_hand x xs in let c = one_below x in let d = slots_below_hands xs in
      omega arith

  away_where_none : (h : Hand A) → in_hand h ≡ 0 → h ≡ Away
  away_where_none Away e = refl
  away_where_none Loose e = absurd (omega arith)
  away_where_none Held e = absurd (omega arith)
  away_where_none (Ready y) e = absurd (omega arith)
  away_where_none (Entering q t) e = absurd (omega arith)

  all_away : (hs : List (Hand A)) → sum_by in_hand hs ≡ 0 → (c : ℕ) → c < length hs
      → slice_index_or hs c Away ≡ Away
  all_away [] e c low = absurd (omega arith)
  all_away (x ∷ xs) e zero low = let a = sum_by-cons in_hand x xs in away_where_none x (omega arith)
  all_away (x ∷ xs) e (suc c) low = let a = sum_by-cons in_hand x xs in
      all_away xs (omega arith) c (omega arith)

  no_slots : (xs : List (ℕ × Load A)) → length xs ≡ 0 → xs ≡ []
  no_slots [] e = refl
  no_slots (x ∷ xs) e = absurd (omega arith)

  one_of_sum : (hs : List (Hand A)) (c : ℕ) → c < length hs
      → in_hand (slice_index_or hs c Away) ≤ sum_by in_hand hs
  one_of_sum [] c low = absurd (omega arith)
  one_of_sum (x ∷ xs) zero low = let a = sum_by-cons in_hand x xs in omega arith
  one_of_sum (x ∷ xs) (suc c) low = let a = sum_by-cons in_hand x xs in
      let b = one_of_sum xs c (omega arith) in omega arith

abbrev first_or : ℕ → List ℕ → ℕ
first_or d [] = d
first_or d (x ∷ xs) = x

module _ {A : Type 0} (slots : List (ℕ × Load A)) (hands : List (Hand A)) (filling : List Bool)
    (emptying : List (Option (Load A))) (carried : List ℕ) (room count : ℕ)
    (h : Carries slots hands filling emptying carried room count) where
  -- there is room for each slot that may be taken
  pub within : length carried ≤ room
  within = let a = sum_below slots_with hands slots_one in
      let b = sum_below fills filling fills_one in let d = sum_below empties emptying empties_one in
      let f = h.fits in let z = h.counted in omega arith

  pub count_within : count ≤ length hands + (length filling + length emptying)
  count_within = let a = sum_below in_hand hands hand_one in
      let b = sum_below fills filling fills_one in let d = sum_below empties emptying empties_one in
      let z = h.handed in omega arith

  module _ (c : ℕ) (new : Hand A) (low : c < length hands) where
    slots_set : sum_by slots_with (set hands c new) + slots_with (slice_index_or hands c Away)
        ≡ sum_by slots_with hands + slots_with new
    slots_set = sum_by-set slots_with hands c new Away low

    hand_set : sum_by in_hand (set hands c new) + in_hand (slice_index_or hands c Away)
        ≡ sum_by in_hand hands + in_hand new
    hand_set = sum_by-set in_hand hands c new Away low

    fits_set : length (set hands c new) + (length filling + length emptying) ≤ room
    fits_set = let l = length-set hands c new in let f = h.fits in omega arith

    cells_but : (carried' : List ℕ) → times c carried' ≡ slots_with new
        → ((d : ℕ) → d ≢ c → times d carried' ≡ times d carried) → (d : ℕ)
        → d < length (set hands c new)
        → times d carried' ≡ slots_with (slice_index_or (set hands c new) d Away)
    cells_but carried' here else d ld = dite (ℕ_discrete d c)
        (λ e. subst (λ k. times k carried' ≡ slots_with (slice_index_or (set hands c new) k Away))
        (sym e) (here ∙ ap slots_with (sym (get_or-set_same hands c new Away low))))
        (λ ne. else d ne ∙ h.cells d (let l = length-set hands c new in omega arith)
        ∙ ap slots_with (sym (get_or-set_other hands c d new Away ne)))

    -- a cell in hand stays there, or an enqueue goes on
    pub hand_changes : slots_with new ≡ slots_with (slice_index_or hands c Away) → (count' : ℕ)
        → count' + in_hand (slice_index_or hands c Away) ≡ count + in_hand new
        → Carries slots (set hands c new) filling emptying carried room count'
    hand_changes same count' counted = record {
      order = h.order;
      cells = cells_but carried (h.cells c low ∙ sym same) (λ d ne. refl);
      counted = let s = slots_set in let z = h.counted in omega arith;
      handed = let s = hand_set in let z = h.handed in omega arith;
      fits = fits_set;
    }

    -- the slot of a cell is taken
    pub cell_taken : (y : Load A) → slice_index_or hands c Away ≡ Away → slots_with new ≡ 1
        → in_hand new ≡ 1 → (count' : ℕ) → count' ≡ count + 1
        → Carries ((c, y) ∷ slots) (set hands c new) filling emptying (c ∷ carried) room count'
    cell_taken y away one held count' counted = let was : slots_with (slice_index_or hands c Away)
        ≡ 0 = ap slots_with away in let none : in_hand (slice_index_or hands c Away) ≡ 0 =
        ap in_hand away in record {
          order = ap (λ l. c ∷ l) h.order;
          cells = cells_but (c ∷ carried) (times_here c carried ∙ ap suc (h.cells c low ∙ was)
              ∙ sym one) (λ d ne. times_else d c carried ne);
          counted = let s = slots_set in let z = h.counted in omega arith;
          handed = let s = hand_set in let z = h.handed in omega arith;
          fits = fits_set;
        }

    -- the slot of a loose cell is taken
    pub cell_picked : (y : Load A) → slice_index_or hands c Away ≡ Loose → slots_with new ≡ 1
        → in_hand new ≡ 1
        → Carries ((c, y) ∷ slots) (set hands c new) filling emptying (c ∷ carried) room count
    cell_picked y was one held = let none : slots_with (slice_index_or hands c Away) ≡ 0 =
        ap slots_with was in let some : in_hand (slice_index_or hands c Away) ≡ 1 = ap in_hand was in
        record {
          order = ap (λ l. c ∷ l) h.order;
          cells = cells_but (c ∷ carried) (times_here c carried ∙ ap suc (h.cells c low ∙ none)
              ∙ sym one) (λ d ne. times_else d c carried ne);
          counted = let s = slots_set in let z = h.counted in omega arith;
          handed = let s = hand_set in let z = h.handed in omega arith;
          fits = fits_set;
        }

    -- the slot of a cell, which was taken last, is given back
    pub cell_given : (y : Load A) (left : List (ℕ × Load A)) (carried' : List ℕ) → slots ≡ (c, y) ∷ left
        → carried ≡ c ∷ carried' → slots_with (slice_index_or hands c Away) ≡ 1 → slots_with new ≡ 0
        → in_hand new ≡ in_hand (slice_index_or hands c Away)
        → Carries left (set hands c new) filling emptying carried' room count
    cell_given y left carried' is split one none same = let here =
        ap (times c) split ∙ times_here c carried' in let cell = h.cells c low in
        let long = ap length split in record {
          order = ap rest_of (ap (map (λ x. x.0)) (sym is) ∙ h.order ∙ split);
          cells = cells_but carried' (omega arith)
              (λ d ne. sym (ap (times d) split ∙ times_else d c carried' ne));
          counted = let s = slots_set in let z = h.counted in omega arith;
          handed = let s = hand_set in let z = h.handed in omega arith;
          fits = fits_set;
        }

  -- a box becomes the port's to fill
  pub box_opened : (j k : ℕ) (y : Load A) → j < length filling
      → slice_index_or filling j false ≡ false → length hands ≤ k → (count' : ℕ)
      → count' ≡ count + 1 → Carries ((k, y) ∷ slots) hands (set filling j true) emptying
      (k ∷ carried) room count'
  box_opened j k y low shut far count' counted = let one : ℕ = 1 in
      let s = sum_by-set fills filling j true false low in
      let was : fills (slice_index_or filling j false) ≡ 0 = ap fills shut in record {
        order = ap (λ l. k ∷ l) h.order;
        cells = λ d ld. times_else d k carried (λ e. omega arith) ∙ h.cells d ld;
        counted = let z = h.counted in omega arith;
        handed = let z = h.handed in omega arith;
        fits = let l = length-set filling j true in let f = h.fits in omega arith;
      }

  -- it was so already
  pub box_still_open : (j : ℕ) → j < length filling → slice_index_or filling j false ≡ true
      → Carries slots hands (set filling j true) emptying carried room count
  box_still_open j low open_before = let s = sum_by-set fills filling j true false low in
      let was : fills (slice_index_or filling j false) ≡ 1 = ap fills open_before in record {
        order = h.order;
        cells = h.cells;
        counted = let z = h.counted in omega arith;
        handed = let z = h.handed in omega arith;
        fits = let l = length-set filling j true in let f = h.fits in omega arith;
      }

  -- a box, whose slot was taken last, is filled
  pub box_filled : (j k : ℕ) (y : Load A) (left : List (ℕ × Load A)) (carried' : List ℕ)
      → slots ≡ (k, y) ∷ left → carried ≡ k ∷ carried' → j < length filling
      → slice_index_or filling j false ≡ true → length hands ≤ k → (count' : ℕ) → count' + 1 ≡ count
      → Carries left hands (set filling j false) emptying carried' room count'
  box_filled j k y left carried' is split low open_before far count' counted = let s =
      sum_by-set fills filling j false false low in
      let was : fills (slice_index_or filling j false) ≡ 1 = ap fills open_before in
      let long = ap length split in record {
        order = ap rest_of (ap (map (λ x. x.0)) (sym is) ∙ h.order ∙ split);
        cells = λ d ld. sym (ap (times d) split ∙ times_else d k carried' (λ e. omega arith))
            ∙ h.cells d ld;
        counted = let z = h.counted in omega arith;
        handed = let z = h.handed in omega arith;
        fits = let l = length-set filling j false in let f = h.fits in omega arith;
      }

  -- a box becomes the port's to empty
  pub box_begun : (i k : ℕ) (z y : Load A) → i < length emptying
      → slice_index_or emptying i None ≡ None → length hands ≤ k → (count' : ℕ) → count' ≡ count + 1
      → Carries ((k, y) ∷ slots) hands filling (set emptying i (Some z)) (k ∷ carried) room count'
  box_begun i k z y low shut far count' counted = let s =
      sum_by-set empties emptying i (Some z) None low in
      let was : empties (slice_index_or emptying i None) ≡ 0 = ap empties shut in record {
        order = ap (λ l. k ∷ l) h.order;
        cells = λ d ld. times_else d k carried (λ e. omega arith) ∙ h.cells d ld;
        counted = let z = h.counted in omega arith;
        handed = let z = h.handed in omega arith;
        fits = let l = length-set emptying i (Some z) in let f = h.fits in omega arith;
      }

  pub box_still_begun : (i : ℕ) (z x : Load A) → i < length emptying
      → slice_index_or emptying i None ≡ Some x
      → Carries slots hands filling (set emptying i (Some z)) carried room count
  box_still_begun i z x low open_before = let s = sum_by-set empties emptying i (Some z) None low in
      let was : empties (slice_index_or emptying i None) ≡ 1 = ap empties open_before in record {
        order = h.order;
        cells = h.cells;
        counted = let z = h.counted in omega arith;
        handed = let z = h.handed in omega arith;
        fits = let l = length-set emptying i (Some z) in let f = h.fits in omega arith;
      }

  -- a box, whose slot was taken last, is emptied
  pub box_emptied : (i k : ℕ) (x y : Load A) (left : List (ℕ × Load A)) (carried' : List ℕ)
      → slots ≡ (k, y) ∷ left → carried ≡ k ∷ carried' → i < length emptying
      → slice_index_or emptying i None ≡ Some x → length hands ≤ k → (count' : ℕ)
      → count' + 1 ≡ count → Carries left hands filling (set emptying i None) carried' room count'
  box_emptied i k x y left carried' is split low open_before far count' counted = let s =
      sum_by-set empties emptying i None None low in
      let was : empties (slice_index_or emptying i None) ≡ 1 = ap empties open_before in
      let long = ap length split in record {
        order = ap rest_of (ap (map (λ x. x.0)) (sym is) ∙ h.order ∙ split);
        cells = λ d ld. sym (ap (times d) split ∙ times_else d k carried' (λ e. omega arith))
            ∙ h.cells d ld;
        counted = let z = h.counted in omega arith;
        handed = let z = h.handed in omega arith;
        fits = let l = length-set emptying i None in let f = h.fits in omega arith;
      }

  -- a box at work is counted
  pub filling_below : (j : ℕ) → j < length filling → slice_index_or filling j false ≡ true
      → 0 < count
  filling_below j low was = let z = h.handed in let one : fills (slice_index_or filling j false)
      ≡ 1 = ap fills was in let s = sum_by-set fills filling j false false low in omega arith

  pub emptying_below : (i : ℕ) (x : Load A) → i < length emptying
      → slice_index_or emptying i None ≡ Some x → 0 < count
  emptying_below i x low was = let z = h.handed in
      let one : empties (slice_index_or emptying i None) ≡ 1 = ap empties was in
      let s = sum_by-set empties emptying i None None low in omega arith

  -- nothing is in hand where the count is 0
  pub none_in_hand : count ≡ 0 → (slots ≡ [])
      × ((c : ℕ) → c < length hands → slice_index_or hands c Away ≡ Away)
  none_in_hand zeroed = let z = h.handed in let s : sum_by in_hand hands ≡ 0 = omega arith in
      let o : open_boxes filling emptying ≡ 0 = omega arith in let t = slots_below_hands hands in
      let k = h.counted in (
        no_slots slots (let l = ap length h.order in
            let m = length-map slots (λ (x : ℕ × Load A). x.0) in omega arith),
        all_away hands s,
      )

  -- a cell in hand is counted
  pub in_hand_below : (c : ℕ) → c < length hands → in_hand (slice_index_or hands c Away) ≡ 1
      → 0 < count
  in_hand_below c low one = let z = h.handed in let a = one_of_sum hands c low in omega arith

-- the first one is removed
pub first_removed : (xs : List ℕ) (c : ℕ) (ys : List ℕ) → xs ≡ c ∷ ys → xs ≡ c ∷ remove xs 0
first_removed [] c ys e = let z = ap length e in absurd (omega arith)
first_removed (x ∷ xs) c ys e = ap (λ k. k ∷ xs) (ap (first_or 0) e)

module _ {A : Type 0} where
  -- with more room
  pub roomier : (slots : List (ℕ × Load A)) (hands : List (Hand A)) (filling : List Bool)
      (emptying : List (Option (Load A))) (carried : List ℕ) (room room' count : ℕ) → room ≤ room'
      → Carries slots hands filling emptying carried room count
      → Carries slots hands filling emptying carried room' count
  roomier slots hands filling emptying carried room room' count more h =
      record {
        order = h.order;
        cells = h.cells;
        counted = h.counted;
        handed = h.handed;
        fits =
            let f = h.fits in omega arith;
      }
