-- The parcel is one of those that came, and has the next number.
use Rattle.std.proofs.Common.{◌≡◌, ◌⊎◌, ℕ, ◌+◌, ◌==◌, Bool, true, false, cond, Some, List, [], ◌∷◌, ◌++◌}
use Rattle.std.proofs.Common.{length, refl, sym, ap, ◌∙◌, subst, arith, append-nil, length-append, ⊎_elim}
use Rattle.std.proofs.lemmas.Bool.Decides.{nat_tests}
use native.Mathlib.Decide.{ℕ_discrete}
use Rattle.nm_chain.specs.declared.table.parcels.Parcel.{Parcel}
use Rattle.nm_chain.specs.Update.{pick, update}
use Rattle.nm_chain.specs.declared.table.table.Entry.{Entry}
use Rattle.nm_chain.specs.Rule.{Load, from}
use Rattle.nm_chain.proofs.QueueLemmas.{from_append}
use Rattle.nm_cells.specs.Counted.{IsOneOf}
use Rattle.nm_cells.specs.declared.port.Port.{Port}
use Rattle.nm_cells.specs.Ports.{knows, taken_by}
use Rattle.nm_port.specs.CarriedPackets.{AreListed, HasPassed, one_more}
use Rattle.nm_port.specs.Polls.{Came, Way, before, by_box, by_cell, was_held}
use Rattle.nm_port.proofs.Listed.{listed_more, listed_push}
use Rattle.nm_port.proofs.carried.laws.a_poll_carries.Goals as goal

listed_on : {A B : Type 0} (seen : Parcel A → B) (e e' : Entry A) (boxes cells : List (Load A)) (i : ℕ) (bs : List B) →
    e'.got_box ≡ e.got_box ++ boxes → e'.got ≡ e.got ++ cells →
    AreListed seen (from i e.got_box) (from i e.got) bs → AreListed seen (from i e'.got_box) (from i e'.got) bs
listed_on seen e e' boxes cells i bs box cell is =
    rw (ap (from i) box ∙ from_append i e.got_box boxes, ap (from i) cell ∙ from_append i e.got cells)
    (listed_more seen (from i e.got_box) (from i e.got) (from i boxes) (from i cells) bs is)

updated_here : (f : ℕ → ℕ) (k j y : ℕ) → (k == j) ≡ true → update f k y j ≡ y
updated_here f k j y same = by (ℕ_discrete j k) where
  by : (d : Dec (j ≡ k)) → pick d y (f j) ≡ y
  by (yes e) = refl
  by (no ne) = absurd (ne (is k j same)) where
    is : (k j : ℕ) → (k == j) ≡ true → j ≡ k
    is k j same = grind (arith, nat_tests)

updated_else : (f : ℕ → ℕ) (k j y : ℕ) → (k == j) ≡ false → update f k y j ≡ f j
updated_else f k j y other = by (ℕ_discrete j k) where
  by : (d : Dec (j ≡ k)) → pick d y (f j) ≡ f j
  by (no ne) = refl
  by (yes e) = absurd (isnt k j other e) where
    isnt : (k j : ℕ) → (k == j) ≡ false → j ≡ k → ⊥
    isnt k j other e = let equal : (k == j) ≡ true = grind (arith, nat_tests) in clash (k == j) other equal where
      clash : (b : Bool) → b ≡ false → b ≡ true → ⊥
      clash b one two = cc

passed : {A B : Type 0} (seen : Parcel A → B) (e e' : Entry A) (taken taken' : ℕ → ℕ) (boxes cells : List (Load A))
    (i : ℕ) (p : Parcel A) (bs : List B) → e'.got_box ≡ e.got_box ++ boxes → e'.got ≡ e.got ++ cells →
    p.seq ≡ taken p.from → taken' ≡ update taken p.from (taken p.from + 1) →
    IsOneOf (Some p) (from p.from e'.got_box) ⊎ IsOneOf (Some p) (from p.from e'.got) →
    HasPassed seen e (taken i) i bs → HasPassed seen e' (taken' i) i (one_more p.from i (seen p) bs)
passed seen e e' taken taken' boxes cells i p bs box cell number counts there is = by (p.from == i) refl where
  is_from : (from i : ℕ) → (from == i) ≡ true → from ≡ i
  is_from from i same = grind (arith, nat_tests)

  by : (b : Bool) → (p.from == i) ≡ b → HasPassed seen e' (taken' i) i (cond b (bs ++ seen p ∷ []) bs)
  by true equal =
      let own : p.from ≡ i = is_from p.from i equal in
      let count : taken' i ≡ taken p.from + 1 = ap (λ (f : ℕ → ℕ). f i) counts
      ∙ updated_here taken p.from i (taken p.from + 1) equal in
      let before : length bs ≡ taken p.from = is.many ∙ ap taken (sym own) in
      let longer = length-append bs (seen p ∷ []) in
      record {
        listed = listed_push seen (from i e'.got_box) (from i e'.got) bs p (number ∙ sym before)
            (subst (λ k. IsOneOf (Some p) (from k e'.got_box) ⊎ IsOneOf (Some p) (from k e'.got)) own there)
            (listed_on seen e e' boxes cells i bs box cell is.listed);
        many = omega (arith, count, before, longer);
      }
  by false differs =
      let count : taken' i ≡ taken i = ap (λ (f : ℕ → ℕ). f i) counts
      ∙ updated_else taken p.from i (taken p.from + 1) differs in
      record {
        listed = listed_on seen e e' boxes cells i bs box cell is.listed;
        many = is.many ∙ sym count;
      }

-- the lists that grew
came : {A : Type 0} {old new : Port A} {p : Parcel A} → Way old new p
    → (boxes : List (Load A)) × (cells : List (Load A)) × Came old new boxes cells
came (was_held x y z) = ([], [], z)
came {p = p} (by_box x z) = (Some p ∷ [], [], z)
came {p = p} (by_cell x y z) = ([], Some p ∷ [], z)
came {p = p} (before q w x y z) = (Some p ∷ [], Some q ∷ [], z)

pub returns-clause-some : goal.returns-clause-some
returns-clause-some g c seen f old new p i bs polls is = let grown = came polls.way in
    passed seen (knows old) (knows new) (taken_by old) (taken_by new) grown.0 grown.1 i p bs grown.2.0 grown.2.1
    polls.next.number polls.next.taken polls.got is

pub returns-clause-none : goal.returns-clause-none
returns-clause-none g c seen old new i bs none is =
    let box : (knows new).got_box ≡ (knows old).got_box = ⊎_elim (λ h. ap (λ (e : Entry _). e.got_box) h)
    (λ h. ap (λ (e : Entry _). e.got_box) h.1) none.miss in
    let cell : (knows new).got ≡ (knows old).got = ⊎_elim (λ h. ap (λ (e : Entry _). e.got) h)
    (λ h. ap (λ (e : Entry _). e.got) h.1) none.miss in
    record {
      listed = listed_on seen (knows old) (knows new) [] [] i bs (box ∙ sym (append-nil (knows old).got_box))
          (cell ∙ sym (append-nil (knows old).got)) is.listed;
      many = is.many ∙ sym (ap (λ (t : ℕ → ℕ). t i) none.taken);
    }
