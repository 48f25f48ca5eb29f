-- What each step on a pair's paths does, and that a number that is missing stands in a box.
use Rattle.std.proofs.Common.{◌≡◌, ℕ, suc, ◌<◌, ◌⊎◌, List, [], ◌∷◌, ◌++◌, sym, refl, inl, inr}
use Rattle.std.proofs.Common.{subst, ⊎_elim, arith, append_assoc}
use mathlib.Core.Logic.{dite}
use native.Mathlib.Decide.{ℕ_discrete}
use Rattle.nm_chain.specs.Sequence.{Each, Has, Rises, Got, Numbered, InSequence}

pub each_along : (P Q : ℕ → Type 0) → ((x : ℕ) → P x → Q x) → (xs : List ℕ) → Each P xs → Each Q xs
each_along P Q f [] h = tt
each_along P Q f (x ∷ xs) h = (f x h.0, each_along P Q f xs h.1)

pub each_append : (P : ℕ → Type 0) (xs ys : List ℕ) → Each P xs → Each P ys → Each P (xs ++ ys)
each_append P [] ys h k = k
each_append P (x ∷ xs) ys h k = (h.0, each_append P xs ys h.1 k)

pub each_has : (P : ℕ → Type 0) (xs : List ℕ) → Each P xs → (k : ℕ) → Has k xs → P k
each_has P [] e k h = absurd h
each_has P (x ∷ xs) e k h = ⊎_elim (λ s. subst P (sym s) e.0) (λ t. each_has P xs e.1 k t) h

pub has_left : (xs ys : List ℕ) (k : ℕ) → Has k xs → Has k (xs ++ ys)
has_left [] ys k h = absurd h
has_left (x ∷ xs) ys k h = ⊎_elim (λ e. inl e) (λ t. inr (has_left xs ys k t)) h

pub has_right : (xs ys : List ℕ) (k : ℕ) → Has k ys → Has k (xs ++ ys)
has_right [] ys k h = h
has_right (x ∷ xs) ys k h = inr (has_right xs ys k h)

pub has_split : (xs ys : List ℕ) (k : ℕ) → Has k (xs ++ ys) → Has k xs ⊎ Has k ys
has_split [] ys k h = inr h
has_split (x ∷ xs) ys k h =
    ⊎_elim (λ e. inl (inl e)) (λ t. ⊎_elim (λ u. inl (inr u)) (λ u. inr u) (has_split xs ys k t)) h

pub rises_append : (xs : List ℕ) (s : ℕ) → Rises xs → Each (λ k. k < s) xs → Rises (xs ++ s ∷ [])
rises_append [] s r e = (tt, tt)
rises_append (x ∷ xs) s r e = (
  each_append (λ y. x < y) xs (s ∷ []) r.0 (e.0, tt),
  rises_append xs s r.1 e.1,
)

-- what stands behind is larger
pub behind : (xs ys : List ℕ) (j k : ℕ) → Rises (xs ++ ys) → Has j xs → Has k ys → j < k
behind [] ys j k r h t = absurd h
behind (x ∷ xs) ys j k r h t =
    ⊎_elim (λ e. subst (λ u. u < k) (sym e)
    (each_has (λ y. x < y) (xs ++ ys) r.0 k (has_right xs ys k t)))
    (λ u. behind xs ys j k r.1 u t) h

pub rises_right : (xs ys : List ℕ) → Rises (xs ++ ys) → Rises ys
rises_right [] ys r = r
rises_right (x ∷ xs) ys r = rises_right xs ys r.1

more : (s : ℕ) (xs : List ℕ) → Each (λ k. k < s) xs → Each (λ k. k < suc s) (xs ++ s ∷ [])
more s xs e = each_append (λ k. k < suc s) xs (s ∷ [])
    (each_along (λ k. k < s) (λ k. k < suc s) (λ x h. omega arith) xs e) ((omega arith), tt)

-- the next number goes the first way
number_next : (s : ℕ) (xs ys : List ℕ) → Numbered s xs ys → Numbered (suc s) (xs ++ s ∷ []) ys
number_next s xs ys d = record {
  box_rises = rises_append xs s d.box_rises d.box_sent;
  cell_rises = d.cell_rises;
  box_sent = more s xs d.box_sent;
  cell_sent = each_along (λ k. k < s) (λ k. k < suc s) (λ x h. omega arith) ys d.cell_sent;
  all = λ k low. dite (ℕ_discrete k s) (λ e. inl (has_right xs (s ∷ []) k (inl e)))
      (λ ne. ⊎_elim (λ h. inl (has_left xs (s ∷ []) k h)) (λ h. inr h) (d.all k (omega arith)));
  once = λ k h t. ⊎_elim (λ u. d.once k u t)
      (λ u. ⊎_elim (λ e. let low = each_has (λ j. j < s) ys d.cell_sent k t in absurd (omega arith))
      (λ z. z) u) (has_split xs (s ∷ []) k h);
}

other_way : (s : ℕ) (xs ys : List ℕ) → Numbered s xs ys → Numbered s ys xs
other_way s xs ys d = record {
  box_rises = d.cell_rises;
  cell_rises = d.box_rises;
  box_sent = d.cell_sent;
  cell_sent = d.box_sent;
  all = λ k low. ⊎_elim (λ h. inr h) (λ h. inl h) (d.all k low);
  once = λ k h t. d.once k t h;
}

module _ (s : ℕ) (gb bx gc ch : List ℕ) (t : InSequence s gb bx gc ch) where
  -- the next number goes into a box
  pub put_by_box : InSequence (suc s) gb (bx ++ s ∷ []) gc ch
  put_by_box = record {
    numbered = subst (λ u. Numbered (suc s) u (gc ++ ch))
        (append_assoc gb bx (s ∷ [])) (number_next s (gb ++ bx) (gc ++ ch) t.numbered);
    in_turn =
        t.in_turn;
  }

  -- the next number goes into a cell
  pub put_by_cell : InSequence (suc s) gb bx gc (ch ++ s ∷ [])
  put_by_cell = record {
    numbered = subst (λ u. Numbered (suc s) (gb ++ bx) u)
        (append_assoc gc ch (s ∷ [])) (other_way (suc s) ((gc ++ ch) ++ s ∷ []) (gb ++ bx)
        (number_next s (gc ++ ch) (gb ++ bx) (other_way s (gb ++ bx) (gc ++ ch) t.numbered)));
    in_turn
        = t.in_turn;
  }

  -- a number that is missing below one that came stands in a box
  pub missing_in_box : (j k : ℕ) → j < k → Got gb gc k → ¬ Got gb gc j → Has j bx
  missing_in_box j k less got gap = ⊎_elim (λ b. absurd (gap (t.in_turn k b j less)))
      (λ c. let d = t.numbered in let low : k < s = each_has (λ u. u < s) (gc ++ ch) d.cell_sent k
      (has_left gc ch k c) in
      ⊎_elim (λ b. ⊎_elim (λ u. absurd (gap (inl u))) (λ u. u) (has_split gb bx j b))
      (λ u. ⊎_elim (λ v. absurd (gap (inr v))) (λ v. let above =
      behind gc ch k j d.cell_rises c v in absurd (omega arith)) (has_split gc ch j u))
      (d.all j (omega arith)))
      got

  -- each number that was sent is in one of the four places
  pub somewhere : (k : ℕ) → k < s → (Has k gb ⊎ Has k bx) ⊎ (Has k gc ⊎ Has k ch)
  somewhere k low = ⊎_elim (λ h. inl (has_split gb bx k h)) (λ h. inr (has_split gc ch k h))
      (t.numbered.all k low)

-- the first number in the boxes comes, where all smaller ones came
pub got_by_box : (s j : ℕ) (gb bx gc ch : List ℕ) → InSequence s gb (j ∷ bx) gc ch
    → ((i : ℕ) → i < j → Got gb gc i) → InSequence s (gb ++ j ∷ []) bx gc ch
got_by_box s j gb bx gc ch t all = record {
  numbered = subst (λ u. Numbered s u (gc ++ ch)) (sym (append_assoc gb (j ∷ []) bx)) t.numbered;
  in_turn = λ k h i less. let wider : Got gb gc i → Got (gb ++ j ∷ []) gc i =
      λ g. ⊎_elim (λ u. inl (has_left gb (j ∷ []) i u)) (λ u. inr u) g in
      ⊎_elim (λ u. wider (t.in_turn k u i less))
      (λ u. ⊎_elim (λ e. wider (all i (omega arith))) (λ z. absurd z) u)
      (has_split gb (j ∷ []) k h);
}

-- the first number in the chain comes
pub got_by_cell : (s j : ℕ) (gb bx gc ch : List ℕ) → InSequence s gb bx gc (j ∷ ch)
    → InSequence s gb bx (gc ++ j ∷ []) ch
got_by_cell s j gb bx gc ch t = record {
  numbered = subst (λ u. Numbered s (gb ++ bx) u) (sym (append_assoc gc (j ∷ []) ch)) t.numbered;
  in_turn = λ k h i less. ⊎_elim (λ u. inl u) (λ u. inr (has_left gc (j ∷ []) i u))
      (t.in_turn k h i less);
}

-- where all numbers below t came, and a greater one, but not t, the first packet in the boxes has the number t
pub first_missing : (s t k j : ℕ) (gb bx gc ch : List ℕ) → InSequence s gb (j ∷ bx) gc ch
    → ((i : ℕ) → i < t → Got gb gc i) → t < k → Got gb gc k → ¬ Got gb gc t → j ≡ t
first_missing s t k j gb bx gc ch u all less got gap = let here =
    missing_in_box s gb (j ∷ bx) gc ch u t k less got gap in let d = u.numbered in
    ⊎_elim (λ e. sym e)
    (λ later. let low : j < t =
    each_has (λ x. j < x) bx (rises_right gb (j ∷ bx) d.box_rises).0 t later in absurd (⊎_elim
    (λ b. let z = behind gb (j ∷ bx) j j d.box_rises b (inl refl) in absurd (omega arith))
    (λ c. d.once j (has_right gb (j ∷ bx) j (inl refl)) (has_left gc ch j c)) (all j low)))
    here

each_from : (P : ℕ → Type 0) (xs : List ℕ) → ((k : ℕ) → Has k xs → P k) → Each P xs
each_from P [] f = tt
each_from P (x ∷ xs) f = (f x (inl refl), each_from P xs (λ k h. f k (inr h)))

-- the first number in the chain did not come, and those that came by cell are smaller
pub next_by_cell_is_new : (s k : ℕ) (gb bx gc ch : List ℕ) → InSequence s gb bx gc (k ∷ ch)
    → (¬ Got gb gc k) × Each (λ j. j < k) gc
next_by_cell_is_new s k gb bx gc ch t = let d = t.numbered in let all : (j : ℕ) → Has j gc → j < k = λ j h. behind gc
    (k ∷ ch) j k d.cell_rises h (inl refl) in (
      (λ g. ⊎_elim (λ h. d.once k (has_left gb bx k h) (has_right gc (k ∷ ch) k (inl refl))) (λ h. let less = all k h in
          absurd (omega arith)) g),
      each_from (λ j. j < k) gc all,
    )

-- the first number in the boxes did not come
pub next_by_box_is_new : (s k : ℕ) (gb bx gc ch : List ℕ) → InSequence s gb (k ∷ bx) gc ch → ¬ Got gb gc k
next_by_box_is_new s k gb bx gc ch t g = let d = t.numbered in ⊎_elim
    (λ h. let less = behind gb (k ∷ bx) k k d.box_rises h (inl refl) in absurd (omega arith))
    (λ h. d.once k (has_right gb (k ∷ bx) k (inl refl)) (has_left gc ch k h)) g
