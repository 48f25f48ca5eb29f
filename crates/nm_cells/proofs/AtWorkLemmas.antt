-- The slots of the boxes at work, as slots are taken, turned and given back.
use Rattle.std.proofs.Common.{◌≡◌, ◌≢◌, ℕ, zero, suc, ◌+◌, ◌*◌, ◌%◌, ◌<◌, ◌≤◌, ◌⊎◌, Bool, true, false}
use Rattle.std.proofs.Common.{Option, Some, None, List, ◌∷◌, length, map, sym, refl, ap, ◌∙◌}
use Rattle.std.proofs.Common.{inl, inr, subst, ⊎_elim, arith}
use Rattle.std.proofs.lemmas.Nat.{mod_below}
use mathlib.Core.Logic.{dite}
use native.Mathlib.Decide.{ℕ_discrete}
use Rattle.nm_chain.proofs.UpdateLemmas.{pick_yes, pick_no}
use Rattle.nm_chain.specs.declared.table.table.Entry.{Entry}
use Rattle.nm_chain.specs.Rule.{Load, put_to, from, box_slot}
use Rattle.nm_chain.specs.Plays.{load_in}
use Rattle.nm_cells.specs.Carried.{times, empties}
use Rattle.nm_chain.specs.NextBox.{next_box, work, BoxesApart}
use Rattle.nm_cells.specs.AtWork.{sum_to, one_at, all_at, Holds}
use Rattle.nm_cells.proofs.CarriedLemmas.{times_else}
use Rattle.nm_cells.proofs.HoldingLemmas.{load_first, load_behind, turned_by, times_by, load_by}
use Rattle.nm_types.proofs.OptionLemmas.{no_some}
use Rattle.nm_chain.proofs.PairLemmas.{one_pair}
use Rattle.nm_chain.proofs.BoxLemmas.{some_is}

module _ {A : Type 0} where
  abbrev numbers : List (ℕ × Load A) → List ℕ
  numbers l = map (λ (x : ℕ × Load A). x.0) l

sum_same : (n : ℕ) (f g : ℕ → ℕ) → ((i : ℕ) → i < n → f i ≡ g i) → sum_to f n ≡ sum_to g n
sum_same zero f g h = refl
sum_same (suc n) f g h = let one = h n (omega arith) in
    let more = sum_same n f g (λ i l. h i (omega arith)) in λ t. more t + one t

sum_zero : (n : ℕ) → sum_to (λ _. 0) n ≡ 0
sum_zero zero = refl
sum_zero (suc n) = let more = sum_zero n in let e : sum_to (λ _. 0) n + 0 ≡ 0 = omega arith in e

sum_but : (n j : ℕ) (f g : ℕ → ℕ) → j < n → ((i : ℕ) → i < n → i ≢ j → f i ≡ g i)
    → sum_to f n + g j ≡ sum_to g n + f j
sum_but zero j f g low h = absurd (omega arith)
sum_but (suc n) j f g low h = dite (ℕ_discrete j n)
    (λ e. let same = sum_same n f g (λ i l. h i (omega arith) (omega arith)) in
    let fj = ap f e in let gj = ap g e in
    let p : (sum_to f n + f n) + g j ≡ (sum_to g n + g n) + f j = omega arith in p)
    (λ ne. let more = sum_but n j f g (omega arith) (λ i l. h i (omega arith)) in
    let one = h n (omega arith) (λ z. ne (sym z)) in
    let p : (sum_to f n + f n) + g j ≡ (sum_to g n + g n) + f j = omega arith in p)

sum_only : (n j : ℕ) (f : ℕ → ℕ) → j < n → ((i : ℕ) → i < n → i ≢ j → f i ≡ 0)
    → sum_to f n ≡ f j
sum_only n j f low h = let a = sum_but n j f (λ _. 0) low h in let b = sum_zero n in omega arith

pub sum_none : (n : ℕ) (f : ℕ → ℕ) → ((i : ℕ) → i < n → f i ≡ 0) → sum_to f n ≡ 0
sum_none n f h = sum_same n f (λ _. 0) h ∙ sum_zero n

unlike : false ≡ true → ⊥
unlike e = cc

pub one_none : (A : Type 0) (k s : ℕ) → one_at {A = A} k None s ≡ 0
one_none A k s = let z : ℕ = 0 in dite (ℕ_discrete s k) (λ e. pick_yes z z e (ℕ_discrete s k))
    (λ ne. pick_no z z ne (ℕ_discrete s k))

module _ {A : Type 0} where
  one_away : (k s : ℕ) (x : Option (Load A)) → s ≢ k → one_at k x s ≡ 0
  one_away k s x ne = let z : ℕ = 0 in pick_no (empties x) z ne (ℕ_discrete s k)

  one_here : (k : ℕ) (y : Load A) → one_at k (Some y) k ≡ 1
  one_here k y = let z : ℕ = 0 in let o : ℕ = 1 in pick_yes o z refl (ℕ_discrete k k)

-- it is this box, or not
same_box : (b d : Bool) (j i : ℕ) → ((d ≡ b) × (i ≡ j)) ⊎ (¬ ((d ≡ b) × (i ≡ j)))
same_box true true j i = dite (ℕ_discrete i j) (λ e. inl (refl, e)) (λ ne. inr (λ p. ne p.1))
same_box false false j i = dite (ℕ_discrete i j) (λ e. inl (refl, e)) (λ ne. inr (λ p. ne p.1))
same_box true false j i = inr (λ p. unlike p.0)
same_box false true j i = inr (λ p. unlike (sym p.0))

module _ {A : Type 0} (n k : ℕ) (box : Bool → ℕ → ℕ) (x : Bool → ℕ → Option (Load A)) where
  abbrev f : Bool → ℕ → ℕ
  f b i = one_at k (x b i) (box b i)

  -- at most one box changes
  all_but : (box' : Bool → ℕ → ℕ) (x' : Bool → ℕ → Option (Load A)) (b : Bool) (j : ℕ) → j < n
      → ((d : Bool) (i : ℕ) → i < n → ¬ ((d ≡ b) × (i ≡ j)) → (box' d i ≡ box d i)
      × (x' d i ≡ x d i))
      → all_at n k box x + one_at k (x' b j) (box' b j) ≡ all_at n k box' x' + f b j
  all_but box' x' true j low else = let g : Bool → ℕ → ℕ = λ b i. one_at k (x' b i) (box' b i) in
      let here = sum_but n j (f true) (g true) low (λ i l ne. let s = else true i l (λ p. ne p.1)
      in λ t. one_at k (sym s.1 t) (sym s.0 t)) in
      let there = sum_same n (f false) (g false)
      (λ i l. let s = else false i l (λ p. unlike p.0) in λ t. one_at k (sym s.1 t) (sym s.0 t)) in
      let p : (sum_to (f true) n + sum_to (f false) n) + g true j
      ≡ (sum_to (g true) n + sum_to (g false) n) + f true j = omega arith in p
  all_but box' x' false j low else = let g : Bool → ℕ → ℕ = λ b i. one_at k (x' b i) (box' b i) in
      let here = sum_but n j (f false) (g false) low
      (λ i l ne. let s = else false i l (λ p. ne p.1) in
      λ t. one_at k (sym s.1 t) (sym s.0 t)) in
      let there = sum_same n (f true) (g true)
      (λ i l. let s = else true i l (λ p. unlike (sym p.0)) in
      λ t. one_at k (sym s.1 t) (sym s.0 t)) in
      let p : (sum_to (f true) n + sum_to (f false) n) + g false j
      ≡ (sum_to (g true) n + sum_to (g false) n) + f false j = omega arith in p

  all_only : (b : Bool) (j : ℕ) → j < n
      → ((d : Bool) (i : ℕ) → i < n → ¬ ((d ≡ b) × (i ≡ j)) → f d i ≡ 0)
      → all_at n k box x ≡ f b j
  all_only true j low else = let here = sum_only n j (f true) low
      (λ i l ne. else true i l (λ p. ne p.1)) in
      let there = sum_none n (f false) (λ i l. else false i l (λ p. unlike p.0)) in
      let p : sum_to (f true) n + sum_to (f false) n ≡ f true j = omega arith in p
  all_only false j low else = let here = sum_only n j (f false) low
      (λ i l ne. else false i l (λ p. ne p.1)) in
      let there = sum_none n (f true) (λ i l. else true i l (λ p. unlike (sym p.0))) in
      let p : sum_to (f true) n + sum_to (f false) n ≡ f false j = omega arith in p

module _ {A : Type 0} where
  -- boxes at work have slots of their own
  abbrev pub Distinct : ℕ → (Bool → ℕ → ℕ) → (Bool → ℕ → Option (Load A)) → Type 0
  Distinct n box x = (b d : Bool) (j i : ℕ) → j < n → i < n → (y z : Load A) → x b j ≡ Some y
      → x d i ≡ Some z → box b j ≡ box d i → (d ≡ b) × (i ≡ j)

-- and these lie behind the cells'
abbrev pub Behind : ℕ → ℕ → (Bool → ℕ → ℕ) → Type 0
Behind n m box = (b : Bool) (j : ℕ) → j < n → m ≤ box b j

module _ {A : Type 0} (n m : ℕ) (box : Bool → ℕ → ℕ) (x : Bool → ℕ → Option (Load A)) (hs : List (ℕ × Load A))
    (h : Holds n m box x hs) where
  -- the slot of a box at work is there once
  pub once : Distinct n box x → Behind n m box → (b : Bool) (j : ℕ) → j < n → (y : Load A)
      → x b j ≡ Some y → times (box b j) (numbers hs) ≡ 1
  once distinct behind b j low y is = let k = box b j in h.counted k (behind b j low)
      ∙ all_only n k box x b j low (λ d i l ne. by_work d i l ne (x d i) refl)
      ∙ ap (λ u. one_at k u k) is ∙ one_here k y where
        by_work : (d : Bool) (i : ℕ) → i < n → ¬ ((d ≡ b) × (i ≡ j)) → (o : Option (Load A))
            → x d i ≡ o → one_at (box b j) (x d i) (box d i) ≡ 0
        by_work d i l ne None e = ap (λ u. one_at (box b j) u (box d i)) e
            ∙ one_none A (box b j) (box d i)
        by_work d i l ne (Some z) e = one_away (box b j) (box d i) (x d i)
            (λ same. ne (distinct b d j i low l y z is e (sym same)))

  -- a box becomes the port's to work on
  pub opened : (b : Bool) (j : ℕ) (y : Load A) → j < n → x b j ≡ None
      → (x' : Bool → ℕ → Option (Load A)) → x' b j ≡ Some y
      → ((d : Bool) (i : ℕ) → i < n → ¬ ((d ≡ b) × (i ≡ j)) → x' d i ≡ x d i)
      → Distinct n box x' → Holds n m box x' ((box b j, y) ∷ hs)
  opened b j y low shut x' now else distinct = record {
    counted = λ k far. let same = all_but n k box x box x' b j low (λ d i l ne. (refl, else d i l ne))
        in let new = ap (λ u. one_at k u (box b j)) now in
        let old = ap (λ u. one_at k u (box b j)) shut ∙ one_none A k (box b j) in
        let was = h.counted k far in
        let p : one_at k (Some y) (box b j) + times k (numbers hs) ≡ all_at n k box x' =
        omega arith in p;
    loaded = λ d i l z is. ⊎_elim
        (λ e. let at : box d i ≡ box b j = λ t. box (e.0 t) (e.1 t) in
        let same : Some y ≡ Some z = sym now ∙ (λ t. x' (sym e.0 t) (sym e.1 t)) ∙ is in
        subst (λ c. load_in c ((box b j, y) ∷ hs) ≡ z) (sym at)
        (load_first (box b j) y hs ∙ some_is y z same))
        (λ ne. load_behind (box b j) (box d i) y hs
        (λ same. ne (distinct b d j i low l y z now is same))
        ∙ h.loaded d i l z (sym (else d i l ne) ∙ is))
        (same_box b d j i);
  }

  -- a slot of a cell is taken
  pub pushed : Behind n m box → (c : ℕ) (y : Load A) → c < m → Holds n m box x ((c, y) ∷ hs)
  pushed behind c y low = record {
    counted = λ k far. times_else k c (numbers hs) (omega arith) ∙ h.counted k far;
    loaded = λ d i l z is. load_behind c (box d i) y hs (let b = behind d i l in omega arith)
        ∙ h.loaded d i l z is;
  }

  -- the slots are turned
  pub turned : Distinct n box x → Behind n m box → (k : ℕ) → k ≤ length hs
      → Holds n m box x (turned_by k hs)
  turned distinct behind k few = record {
    counted = λ c far. times_by hs c k few ∙ h.counted c far;
    loaded = λ d i l z is. let o = once distinct behind d i l z is in
        load_by hs (box d i) k few (omega arith) ∙ h.loaded d i l z is;
  }

  -- nothing changes
  pub along : (box' : Bool → ℕ → ℕ) (x' : Bool → ℕ → Option (Load A))
      → ((d : Bool) (i : ℕ) → i < n → (box' d i ≡ box d i) × (x' d i ≡ x d i))
      → Holds n m box' x' hs
  along box' x' same = record {
    counted = λ k far. h.counted k far ∙ (λ t. sums k true t + sums k false t);
    loaded = λ d i l z is. let s = same d i l in ap (λ c. load_in c hs) s.0
        ∙ h.loaded d i l z (sym s.1 ∙ is);
  } where
    sums : (k : ℕ) (b : Bool) → sum_to (λ i. one_at k (x b i) (box b i)) n ≡ sum_to
        (λ i. one_at k (x' b i) (box' b i)) n
    sums k b = sum_same n (λ i. one_at k (x b i) (box b i)) (λ i. one_at k (x' b i) (box' b i))
        (λ i l. let s = same b i l in λ t. one_at k (sym s.1 t) (sym s.0 t))

module _ {A : Type 0} (n m : ℕ) (box : Bool → ℕ → ℕ) (x : Bool → ℕ → Option (Load A)) (left : List (ℕ × Load A)) where
  -- a slot of a cell is given back
  pub popped : Behind n m box → (c : ℕ) (y : Load A) → c < m → Holds n m box x ((c, y) ∷ left)
      → Holds n m box x left
  popped behind c y low h = record {
    counted = λ k far. sym (times_else k c (numbers left) (omega arith)) ∙ h.counted k far;
    loaded = λ d i l z is.
        sym (load_behind c (box d i) y left (let b = behind d i l in omega arith))
        ∙ h.loaded d i l z is;
  }

  -- the work on a box is done
  pub shut : (b : Bool) (j : ℕ) (y w : Load A) → j < n → x b j ≡ Some y → Distinct n box x
      → Holds n m box x ((box b j, w) ∷ left) → (box' : Bool → ℕ → ℕ)
      (x' : Bool → ℕ → Option (Load A)) → x' b j ≡ None
      → ((d : Bool) (i : ℕ) → i < n → ¬ ((d ≡ b) × (i ≡ j)) → (box' d i ≡ box d i)
      × (x' d i ≡ x d i)) → Holds n m box' x' left
  shut b j y w low was distinct h box' x' now else = record {
    counted = λ k far. let same = all_but n k box x box' x' b j low else in
        let new = ap (λ u. one_at k u (box' b j)) now ∙ one_none A k (box' b j) in
        let old = ap (λ u. one_at k u (box b j)) was in
        let all : one_at k (Some y) (box b j) + times k (numbers left) ≡ all_at n k box x =
        h.counted k far in omega arith;
    loaded = λ d i l z is. ⊎_elim
        (λ e. absurd (no_some z (sym now ∙ (λ t. x' (sym e.0 t) (sym e.1 t)) ∙ is)))
        (λ ne. let s = else d i l ne in let old : x d i ≡ Some z = sym s.1 ∙ is in
        ap (λ c. load_in c left) s.0 ∙ sym (load_behind (box b j) (box d i) w left
        (λ same. ne (distinct b d j i low l y z was old same)))
        ∙ h.loaded d i l z old)
        (same_box b d j i);
  }

-- the boxes of one rank
one_place : (n each i j k l t u : ℕ) → t < 4 → u < 4
    → box_slot n each i j t ≡ box_slot n each k l u → i * n + j ≡ k * n + l
one_place n each i j k l t u lt lu e = omega arith

module _ {A : Type 0} where
  pub distinct_of : (e : Entry A) → e.rank < e.ranks → BoxesApart e
      → Distinct e.ranks (next_box e) (work e)
  distinct_of e low apart true true j i lj li y z is iz same = (
    refl,
    sym (one_pair e.ranks e.rank j e.rank i lj li
        (one_place e.ranks e.each e.rank j e.rank i (length (put_to j e.put_box) % 4)
        (length (put_to i e.put_box) % 4) (mod_below (length (put_to j e.put_box)) 4 (omega arith))
        (mod_below (length (put_to i e.put_box)) 4 (omega arith)) same)).1,
  )
  distinct_of e low apart false false j i lj li y z is iz same = (
    refl,
    sym (one_pair e.ranks j e.rank i e.rank low low
        (one_place e.ranks e.each j e.rank i e.rank (length (from j e.got_box) % 4)
        (length (from i e.got_box) % 4) (mod_below (length (from j e.got_box)) 4 (omega arith))
        (mod_below (length (from i e.got_box)) 4 (omega arith)) same)).0,
  )
  distinct_of e low apart true false j i lj li y z is iz same =
      absurd (apart j i lj li y z is iz same)
  distinct_of e low apart false true j i lj li y z is iz same =
      absurd (apart i j li lj z y iz is (sym same))

  pub behind_of : (e : Entry A) → Behind e.ranks (e.ranks * e.each) (next_box e)
  behind_of e true j low = omega arith
  behind_of e false j low = omega arith
