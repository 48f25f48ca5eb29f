-- What a cell holds, as slots are taken, given back, turned and exchanged.
use Rattle.std.proofs.Common.{◌≡◌, ◌≢◌, ℕ, zero, suc, ◌+◌, ◌<◌, ◌≤◌, Bool, Option, None}
use Rattle.std.proofs.Common.{length-append, List, [], ◌∷◌, ◌++◌, length, map, drop, take, sym}
use Rattle.std.proofs.Common.{refl, ap, ◌∙◌, subst, arith, append_assoc, append-nil}
use Rattle.std.proofs.lemmas.List.{length-map}
use Rattle.std.proofs.lemmas.List.{take-append-drop}
use Rattle.std.specs.Prelude.{slice_index, slice_index_or}
use mathlib.Core.Logic.{dite}
use native.Mathlib.Decide.{ℕ_discrete, dec_le}
use Rattle.atomic_table.specs.Table.{turned}
use Rattle.nm_chain.specs.Update.{pick, update}
use Rattle.nm_chain.proofs.UpdateLemmas.{pick_yes, pick_no, update_here, update_else}
use Rattle.nm_chain.specs.Rule.{Load, if_below}
use Rattle.nm_chain.specs.Plays.{load_in}
use Rattle.nm_chain.specs.declared.table.table.Hand.{Hand}
use Rattle.nm_chain.specs.declared.table.table.Hand.TheVariants.{Away}
use Rattle.nm_cells.specs.Carried.{times, held_in, slots_with, Carries}
use Rattle.nm_cells.proofs.CarriedLemmas.{times_here, times_else, slots_one}

module _ {A : Type 0} where
  abbrev numbers : List (ℕ × Load A) → List ℕ
  numbers l = map (λ (x : ℕ × Load A). x.0) l

  below_yes : (m c : ℕ) (y : Load A) → c < m → (d : Dec (suc c ≤ m)) → if_below d y None ≡ y
  below_yes m c y low (yes _) = refl
  below_yes m c y low (no n) = absurd (n low)

  -- equal below m, equal
  same_held : (m : ℕ) (l k : List (ℕ × Load A)) → ((c : ℕ) → c < m → load_in c l ≡ load_in c k)
      → held_in m l ≡ held_in m k
  same_held m l k h i c = by_decision (dec_le (suc c) m) i where
    by_decision : (d : Dec (suc c ≤ m)) → if_below d (load_in c l) None ≡ if_below d
        (load_in c k) None
    by_decision (yes low) = h c low
    by_decision (no far) = refl

  -- equal below m but at a cell, whose load becomes this
  changed_held : (m c : ℕ) (y : Load A) (l k : List (ℕ × Load A)) → c < m → load_in c l ≡ y
      → ((d : ℕ) → d ≢ c → load_in d l ≡ load_in d k) → held_in m l ≡ update (held_in m k) c y
  changed_held m c y l k low here else i d = dite (ℕ_discrete d c)
      (λ e. subst (λ u. held_in m l u ≡ update (held_in m k) c y u) (sym e)
      (below_yes m c (load_in c l) low (dec_le (suc c) m) ∙ here
      ∙ sym (update_here (held_in m k) c y c refl)))
      (λ ne. by_decision ne (dec_le (suc d) m) ∙ sym (update_else (held_in m k) c y d ne)) i where
        by_decision : d ≢ c → (u : Dec (suc d ≤ m)) → if_below u (load_in d l) None ≡ if_below u
            (load_in d k) None
        by_decision ne (yes lo) = else d ne
        by_decision ne (no far) = refl

  pub held_here : (m c : ℕ) (l : List (ℕ × Load A)) → c < m → held_in m l c ≡ load_in c l
  held_here m c l low = below_yes m c (load_in c l) low (dec_le (suc c) m)

  pub load_first : (c : ℕ) (y : Load A) (l : List (ℕ × Load A)) → load_in c ((c, y) ∷ l) ≡ y
  load_first c y l = pick_yes y (load_in c l) refl (ℕ_discrete c c)

  pub load_behind : (c d : ℕ) (y : Load A) (l : List (ℕ × Load A)) → c ≢ d
      → load_in d ((c, y) ∷ l) ≡ load_in d l
  load_behind c d y l ne = pick_no y (load_in d l) ne (ℕ_discrete c d)

  load_none : (c : ℕ) (l : List (ℕ × Load A)) → times c (numbers l) ≡ 0 → load_in c l ≡ None
  load_none c [] e = refl
  load_none c (x ∷ xs) e = dite (ℕ_discrete x.0 c)
      (λ is. let t : times c (numbers (x ∷ xs)) ≡ suc (times c (numbers xs)) =
      subst (λ k. times k (x.0 ∷ numbers xs) ≡ suc (times k (numbers xs))) is
      (times_here x.0 (numbers xs)) in absurd (omega arith))
      (λ ne. load_behind x.0 c x.1 xs ne
      ∙ load_none c xs (sym (times_else c x.0 (numbers xs) (λ u. ne (sym u))) ∙ e))

  -- a slot is taken
  pub held_taken : (m c : ℕ) (y : Load A) (l : List (ℕ × Load A)) → c < m
      → held_in m ((c, y) ∷ l) ≡ update (held_in m l) c y
  held_taken m c y l low = changed_held m c y ((c, y) ∷ l) l low (load_first c y l)
      (λ d ne. load_behind c d y l (λ e. ne (sym e)))

  -- a box's slot is taken, or given back
  pub held_box : (m k : ℕ) (y : Load A) (l : List (ℕ × Load A)) → m ≤ k
      → held_in m ((k, y) ∷ l) ≡ held_in m l
  held_box m k y l far = same_held m ((k, y) ∷ l) l (λ c low. load_behind k c y l (λ e. omega arith))

  -- the slot that was taken last is given back
  pub held_given : (m c : ℕ) (y : Load A) (l : List (ℕ × Load A)) → c < m
      → times c (numbers ((c, y) ∷ l)) ≡ 1 → held_in m l ≡ update (held_in m ((c, y) ∷ l)) c None
  held_given m c y l low once = changed_held m c None l ((c, y) ∷ l) low
      (load_none c l (let t = times_here c (numbers l) in omega arith))
      (λ d ne. sym (load_behind c d y l (λ e. ne (sym e))))

  -- the load of the slot that was taken last is exchanged
  pub held_exchanged : (m c : ℕ) (x y : Load A) (l : List (ℕ × Load A)) → c < m
      → held_in m ((c, x) ∷ l) ≡ update (held_in m ((c, y) ∷ l)) c x
  held_exchanged m c x y l low = changed_held m c x ((c, x) ∷ l) ((c, y) ∷ l) low (load_first c x l)
      (λ d ne. load_behind c d x l (λ e. ne (sym e)) ∙ sym (load_behind c d y l (λ e. ne (sym e))))

  -- one more goes behind the others
  load_last : (c : ℕ) (x : ℕ × Load A) (l : List (ℕ × Load A)) → (x.0 ≡ c → times c (numbers l) ≡ 0)
      → load_in c (l ++ x ∷ []) ≡ load_in c (x ∷ l)
  load_last c x [] h = refl
  load_last c x (y ∷ ys) h = dite (ℕ_discrete y.0 c)
      (λ e. let away : x.0 ≢ c = λ u. let t : times c (numbers (y ∷ ys)) ≡ suc
      (times c (numbers ys)) =
      subst (λ k. times k (y.0 ∷ numbers ys) ≡ suc (times k (numbers ys))) e
      (times_here y.0 (numbers ys)) in let z = h u in absurd (omega arith) in
      pick_yes y.1 (load_in c (ys ++ x ∷ [])) e (ℕ_discrete y.0 c)
      ∙ sym (pick_yes y.1 (load_in c ys) e (ℕ_discrete y.0 c))
      ∙ sym (load_behind x.0 c x.1 (y ∷ ys) away))
      (λ ne. let less : x.0 ≡ c → times c (numbers ys) ≡ 0 =
      λ u. sym (times_else c y.0 (numbers ys) (λ z. ne (sym z))) ∙ h u in
      load_behind y.0 c y.1 (ys ++ x ∷ []) ne ∙ load_last c x ys less
      ∙ ap (pick (ℕ_discrete x.0 c) x.1) (sym (load_behind y.0 c y.1 ys ne)))

times_last : (c d : ℕ) (xs : List ℕ) → times c (xs ++ d ∷ []) ≡ times c (d ∷ xs)
times_last c d [] = refl
times_last c d (x ∷ xs) = let z = times_last c d xs in let n : ℕ = pick (ℕ_discrete x c) 1 0 in
    let m : ℕ = pick (ℕ_discrete d c) 1 0 in let e : n + (m + times c xs) ≡ m + (n + times c xs) =
    omega arith in
    ap (λ k. n + k) z ∙ e

module _ {A : Type 0} where
  numbers_last : (l : List (ℕ × Load A)) (x : ℕ × Load A) → numbers (l ++ x ∷ []) ≡ numbers l ++ x.0 ∷ []
  numbers_last [] x = refl
  numbers_last (y ∷ ys) x = ap (λ k. y.0 ∷ k) (numbers_last ys x)

  times_turned : (c : ℕ) (l : List (ℕ × Load A)) → times c (numbers (turned l)) ≡ times c (numbers l)
  times_turned c [] = refl
  times_turned c (x ∷ xs) = ap (times c) (numbers_last xs x) ∙ times_last c x.0 (numbers xs)

  load_turned : (c : ℕ) (l : List (ℕ × Load A)) → times c (numbers l) ≤ 1
      → load_in c (turned l) ≡ load_in c l
  load_turned c [] once = refl
  load_turned c (x ∷ xs) once =
      load_last c x xs (λ e. let t : times c (numbers (x ∷ xs)) ≡ suc (times c (numbers xs)) =
      subst (λ k. times k (x.0 ∷ numbers xs) ≡ suc (times k (numbers xs))) e
      (times_here x.0 (numbers xs)) in omega arith)

  -- drop and take where one more element goes from the one to the other
  turn_from : (l r : List (ℕ × Load A)) (i : ℕ) → i < length l
      → turned (drop i l ++ (r ++ take i l)) ≡ drop (suc i) l ++ (r ++ take (suc i) l)
  turn_from [] r i h = absurd (omega arith)
  turn_from (x ∷ xs) r zero h = append_assoc xs (r ++ []) (x ∷ []) ∙ ap (λ u. xs ++ u)
      (ap (λ u. u ++ x ∷ []) (append-nil r))
  turn_from (x ∷ xs) r (suc i) h = let e = turn_from xs (r ++ x ∷ []) i (omega arith) in
      ap (λ u. turned (drop i xs ++ u)) (sym (append_assoc r (x ∷ []) (take i xs))) ∙ e
      ∙ ap (λ u. drop (suc i) xs ++ u) (append_assoc r (x ∷ []) (take (suc i) xs))

  pub turn_on : (l : List (ℕ × Load A)) (i : ℕ) → i < length l
      → turned (drop i l ++ take i l) ≡ drop (i + 1) l ++ take (i + 1) l
  turn_on l i h = turn_from l [] i h ∙ ap (λ k. drop k l ++ take k l) (let e : suc i ≡ i + 1 =
      omega arith in e)

  -- the slots after k turns
  abbrev pub turned_by : ℕ → List (ℕ × Load A) → List (ℕ × Load A)
  turned_by k l = drop k l ++ take k l

module _ {A : Type 0} (l : List (ℕ × Load A)) where
  pub times_by : (c k : ℕ) → k ≤ length l → times c (numbers (turned_by k l)) ≡ times c (numbers l)
  times_by c zero h = ap (λ u. times c (numbers u)) (append-nil l)
  times_by c (suc k) h = let one : k + 1 ≡ suc k = omega arith in
      ap (λ u. times c (numbers u)) (sym (turn_on l k (omega arith) ∙ ap (λ u. turned_by u l) one))
      ∙ times_turned c (turned_by k l) ∙ times_by c k (omega arith)

  pub load_by : (c k : ℕ) → k ≤ length l → times c (numbers l) ≤ 1
      → load_in c (turned_by k l) ≡ load_in c l
  load_by c zero h once = ap (load_in c) (append-nil l)
  load_by c (suc k) h once = let one : k + 1 ≡ suc k = omega arith in
      let t = times_by c k (omega arith) in
      ap (load_in c) (sym (turn_on l k (omega arith) ∙ ap (λ u. turned_by u l) one))
      ∙ load_turned c (turned_by k l) (omega arith) ∙ load_by c k (omega arith) once

  pub held_by : (m k : ℕ) → k ≤ length l → ((c : ℕ) → c < m → times c (numbers l) ≤ 1)
      → held_in m (turned_by k l) ≡ held_in m l
  held_by m k h once = same_held m (turned_by k l) l (λ c low. load_by c k h (once c low))

-- where a number stands
pub found_at : (c : ℕ) (xs : List ℕ) → times c xs ≡ 1 → (k : ℕ) × (k < length xs)
    × (slice_index xs k ≡ c)
found_at c [] e = absurd (omega arith)
found_at c (x ∷ xs) e = dite (ℕ_discrete x c) (λ is. (0, omega arith, is)) (λ ne. let f =
    found_at c xs (sym (times_else c x xs (λ u. ne (sym u))) ∙ e) in let f₁ = f.1 in
    (suc f.0, omega arith, f.2))

module _ {A : Type 0} where
  -- and what is first after so many turns
  pub first_at : (l : List (ℕ × Load A)) (k c : ℕ) → k < length l → slice_index (numbers l) k ≡ c
      → (y : Load A) × (left : List (ℕ × Load A)) × (turned_by k l ≡ (c, y) ∷ left)
  first_at [] k c h e = absurd (omega arith)
  first_at (x ∷ xs) zero c h e = (x.1, xs ++ [], ap (λ d. (d, x.1) ∷ (xs ++ [])) e)
  first_at (x ∷ xs) (suc k) c h e = let f = first_of xs (x ∷ []) k c (omega arith) e in f where
    first_of : (l r : List (ℕ × Load A)) (k c : ℕ) → k < length l → slice_index (numbers l) k ≡ c
        → (y : Load A) × (left : List (ℕ × Load A)) × (drop k l ++ (r ++ take k l) ≡ (c, y) ∷ left)
    first_of [] r k c h e = absurd (omega arith)
    first_of (x ∷ xs) r zero c h e = (x.1, xs ++ (r ++ []), ap (λ d. (d, x.1) ∷ (xs ++ (r ++ []))) e)
    first_of (x ∷ xs) r (suc k) c h e = let f = first_of xs (r ++ x ∷ []) k c (omega arith) e in
        (f.0, f.1, ap (λ u. drop k xs ++ u) (sym (append_assoc r (x ∷ []) (take k xs))) ∙ f.2)

  -- where it stands once, it is first with its load
  pub front_at : (l : List (ℕ × Load A)) (k c : ℕ) → k < length l → slice_index (numbers l) k ≡ c
      → times c (numbers l) ≡ 1 → (left : List (ℕ × Load A)) × (turned_by k l ≡ (c, load_in c l) ∷ left)
  front_at l k c low at once = let f = first_at l k c low at in
      let is : f.0 ≡ load_in c l = sym (load_first c f.0 f.1) ∙ ap (load_in c) (sym f.2)
      ∙ load_by l c k (omega arith) (omega arith) in
      (f.1, f.2 ∙ ap (λ y. (c, y) ∷ f.1) is)

  -- as the numbers turn with the slots
  numbers_drop : (k : ℕ) (l : List (ℕ × Load A)) → numbers (drop k l) ≡ drop k (numbers l)
  numbers_drop zero l = refl
  numbers_drop (suc k) [] = refl
  numbers_drop (suc k) (x ∷ xs) = numbers_drop k xs

  numbers_take : (k : ℕ) (l : List (ℕ × Load A)) → numbers (take k l) ≡ take k (numbers l)
  numbers_take zero l = refl
  numbers_take (suc k) [] = refl
  numbers_take (suc k) (x ∷ xs) = ap (λ u. x.0 ∷ u) (numbers_take k xs)

  numbers_append : (l k : List (ℕ × Load A)) → numbers (l ++ k) ≡ numbers l ++ numbers k
  numbers_append [] k = refl
  numbers_append (x ∷ xs) k = ap (λ u. x.0 ∷ u) (numbers_append xs k)

  pub numbers_by : (k : ℕ) (l : List (ℕ × Load A)) → numbers (turned_by k l) ≡ drop k (numbers l)
      ++ take k (numbers l)
  numbers_by k l = numbers_append (drop k l) (take k l)
      ∙ (λ i. numbers_drop k l i ++ numbers_take k l i)

length_by : (k : ℕ) (xs : List ℕ) → length (drop k xs ++ take k xs) ≡ length xs
length_by k xs = let a = length-append (drop k xs) (take k xs) in
    let b = length-append (take k xs) (drop k xs) in let e = ap length (take-append-drop k xs) in
    omega arith

module _ {A : Type 0} (l : List (ℕ × Load A)) (hands : List (Hand A)) (filling : List Bool)
    (emptying : List (Option (Load A))) (carried : List ℕ) (room count : ℕ)
    (h : Carries l hands filling emptying carried room count) where
  long_enough : (k : ℕ) → k < length carried → k < length l
  long_enough k low = let e = sym (length-map l (λ (x : ℕ × Load A). x.0)) ∙ ap length h.order in
      omega arith

  once : (c : ℕ) → c < length hands → times c (numbers l) ≤ 1
  once c low = let t = ap (times c) h.order ∙ h.cells c low in
      let o = slots_one (slice_index_or hands c Away) in omega arith

  -- the slots are turned
  pub carries_turned : (k room' : ℕ) → k < length carried → room ≤ room'
      → Carries (turned_by k l) hands filling emptying (drop k carried ++ take k carried) room'
      count
  carries_turned k room' low more = let kl = long_enough k low in
      let same : numbers (turned_by k l) ≡ drop k carried ++ take k carried =
      numbers_by k l ∙ ap (λ u. drop k u ++ take k u) h.order in record {
        order = same;
        cells = λ c lc. sym (ap (times c) same) ∙ times_by l c k (omega arith) ∙ ap (times c) h.order
            ∙ h.cells c lc;
        counted = length_by k carried ∙ h.counted;
        handed = h.handed;
        fits = let f = h.fits in omega arith;
      }

  -- what is in front then, and that the cells hold what they held
  pub in_front : (k c : ℕ) → k < length carried → slice_index carried k ≡ c → c < length hands
      → (left : List (ℕ × Load A)) × (turned_by k l ≡ (c, held_in (length hands) l c) ∷ left)
  in_front k c low at lc = let kl = long_enough k low in
      let f = first_at l k c kl (ap (λ u. slice_index u k) h.order ∙ at) in
      let is : f.0 ≡ held_in (length hands) l c = sym (load_first c f.0 f.1)
      ∙ ap (load_in c) (sym f.2) ∙ load_by l c k (omega arith) (once c lc)
      ∙ sym (held_here (length hands) c l lc) in
      (f.1, f.2 ∙ ap (λ y. (c, y) ∷ f.1) is)

  pub still_held : (k : ℕ) → k < length carried → held_in (length hands) (turned_by k l) ≡ held_in
      (length hands) l
  still_held k low = let kl = long_enough k low in held_by l (length hands) k (omega arith) once

  -- the slot of a cell in hand is among them
  pub is_carried : (c : ℕ) → c < length hands → slots_with (slice_index_or hands c Away) ≡ 1
      → (k : ℕ) × (k < length carried) × (slice_index carried k ≡ c)
  is_carried c lc one = found_at c carried (h.cells c lc ∙ one)

-- the load of the slot that was taken last is exchanged
module _ {A : Type 0} (c : ℕ) (x y : Load A) (l left : List (ℕ × Load A)) (is : l ≡ (c, y) ∷ left) where
  pub exchanged_held : (m : ℕ) → c < m → held_in m ((c, x) ∷ left) ≡ update (held_in m l) c x
  exchanged_held m low = held_exchanged m c x y left low ∙ ap (λ u. update (held_in m u) c x)
      (sym is)

  pub exchanged_carries : (hands : List (Hand A)) (filling : List Bool) (emptying : List (Option (Load A)))
      (carried : List ℕ) (room count : ℕ) → Carries l hands filling emptying carried room count
      → Carries ((c, x) ∷ left) hands filling emptying carried room count
  exchanged_carries hands filling emptying carried room count h =
      record {
        order = ap numbers (sym is) ∙ h.order;
        cells = h.cells;
        counted = h.counted;
        handed =
            h.handed;
        fits = h.fits;
      }

  -- and it is given back
  pub given_held : (m : ℕ) → c < m → times c (numbers l) ≡ 1
      → held_in m left ≡ update (held_in m l) c None
  given_held m low once = held_given m c y left low (ap (λ u. times c (numbers u)) (sym is) ∙ once)
      ∙ ap (λ u. update (held_in m u) c None) (sym is)
