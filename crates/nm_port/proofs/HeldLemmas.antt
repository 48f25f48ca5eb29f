-- A parcel that came by cell and wasn't passed on: it is held, it is passed on, or it was overtaken.
use Rattle.std.proofs.Common.{◌≡◌, ◌≢◌, ℕ, suc, ◌+◌, ◌<◌, ◌≤◌, Option, Some, None}
use Rattle.std.proofs.Common.{List, [], ◌∷◌, length, map, sym, refl, ap, ◌∙◌, inl, inr, subst}
use Rattle.std.proofs.Common.{⊎_elim, arith}
use Rattle.std.proofs.Math.Logic.{∥∥₁_elim}
use Rattle.std.proofs.Props.{props}
use Rattle.std.proofs.lemmas.List.Sums.{sum_by-set}
use mathlib.Core.Logic.{dite}
use native.Mathlib.Decide.{ℕ_discrete, dec_le}
use Rattle.nm_chain.specs.declared.table.parcels.Parcel.{Parcel}
use Rattle.nm_chain.specs.Sequence.{Has}
use Rattle.nm_chain.proofs.SequenceLemmas.{each_has}
use Rattle.nm_cells.specs.declared.tallies.Tally.{Tally}
use Rattle.nm_cells.specs.declared.port.Port.{Port}
use Rattle.nm_chain.specs.Rule.{Load, from, number}
use Rattle.nm_chain.specs.Plays.{Overtaken}
use Rattle.nm_cells.specs.Counted.{new_tally, peer_in, not_below, IsOneOf}
use Rattle.nm_cells.specs.Counted.{all_unpassed}
use Rattle.nm_cells.specs.Ports.{knows, taken_by, unpassed_by, IsUnpassed}
use Rattle.nm_chain.proofs.QueueLemmas.{below_yes, below_no}
use Rattle.nm_cells.proofs.NumberLemmas.{one_of_has, one_number}
use Rattle.nm_cells.proofs.PortLemmas.{peer_low}
use Rattle.nm_port.specs.Polls.{count_held, HoldsTheRest, NotOvertaken}

module _ {A : Type 0} where
  -- one of these loads with the number k
  abbrev WithNumber : ℕ → List (Load A) → Type 0
  WithNumber k xs = (y : Load A) × IsOneOf y xs × (number y ≡ k)

  with_number : (k : ℕ) (xs : List (Load A)) → Dec (WithNumber k xs)
  with_number k [] = no (λ h. h.1)
  with_number k (x ∷ xs) = dite (ℕ_discrete (number x) k) (λ e. yes (x, inl refl, e))
      (λ ne. behind ne (with_number k xs)) where
        behind : number x ≢ k → Dec (WithNumber k xs) → Dec (WithNumber k (x ∷ xs))
        behind ne (yes h) = yes (h.0, inr h.1, h.2)
        behind ne (no n) = no (λ h. ⊎_elim (λ e. ne (ap number (sym e) ∙ h.2))
            (λ k. n (h.0, k, h.2)) h.1)

-- two loads are equal in one way
abbrev pub Once : Type 0 → Type 0
Once A = (y z : Load A) → IsProp (y ≡ z)

module _ {A : Type 0} (once : Once A) (p : Port A) (x : Parcel A) (is : p.held ≡ Some x) where
  abbrev came : List (Load A)
  came = from x.from (knows p).got

  below : x.from < (knows p).ranks
  below = ∥∥₁_elim p.counts (search props) (λ n. (n.holds x is).0)

  left : taken_by p x.from ≤ x.seq
  left = ∥∥₁_elim p.counts (search props) (λ n. (n.holds x is).2)

  is_one : Dec (WithNumber x.seq came) → IsOneOf (Some x) came
  is_one (yes h) = subst (λ y. IsOneOf y came) (∥∥₁_elim p.counts (once h.0 (Some x))
      (λ n. one_number h.0 (Some x) came (n.each x.from below).rises h.1 (n.holds x is).1 h.2)) h.1
  is_one (no n) = absurd (∥∥₁_elim p.counts (λ a b. absurd a)
      (λ c. n (Some x, (c.holds x is).1, refl)))

  -- a parcel that is held came by cell and wasn't passed on
  pub held_unpassed : IsUnpassed p x
  held_unpassed = (below, is_one (with_number x.seq came), left)

-- how many numbers aren't below t
not_below_more : (t x : ℕ) (xs : List ℕ) → (t ≤ x → not_below t (x ∷ xs) ≡ suc (not_below t xs))
    × (not_below t xs ≤ not_below t (x ∷ xs))
not_below_more t x xs = let one : ℕ = 1 in let none : ℕ = 0 in
    dite (dec_le (suc x) t)
    (λ low. let e : not_below t (x ∷ xs) ≡ 0 + not_below t xs =
    ap (λ u. u + not_below t xs) (below_yes (dec_le (suc x) t) none one low) in
    ((λ far. absurd (omega arith)), omega arith))
    (λ far. let e : not_below t (x ∷ xs) ≡ 1 + not_below t xs =
    ap (λ u. u + not_below t xs) (below_no (dec_le (suc x) t) none one far) in
    ((λ _. omega arith), omega arith))

one_not_below : (t k : ℕ) (xs : List ℕ) → t ≤ k → Has k xs → 1 ≤ not_below t xs
one_not_below t k [] far h = absurd h
one_not_below t k (x ∷ xs) far h = let m = not_below_more t x xs in
    ⊎_elim (λ e. let s = m.0 (omega arith) in omega arith)
    (λ r. let s = one_not_below t k xs far r in let l = m.1 in omega arith) h

two_not_below : (t j k : ℕ) (xs : List ℕ) → t ≤ j → t ≤ k → j ≢ k → Has j xs → Has k xs
    → 2 ≤ not_below t xs
two_not_below t j k [] fj fk ne hj hk = absurd hj
two_not_below t j k (x ∷ xs) fj fk ne hj hk = let m = not_below_more t x xs in ⊎_elim
    (λ e. ⊎_elim (λ u. absurd (ne (e ∙ sym u)))
    (λ r. let s = m.0 (omega arith) in let o = one_not_below t k xs fk r in omega arith) hk)
    (λ q. ⊎_elim
    (λ u. let s = m.0 (omega arith) in let o = one_not_below t j xs fj q in omega arith)
    (λ r. let s = two_not_below t j k xs fj fk ne q r in let l = m.1 in omega arith) hk) hj

-- what one rank has left is a part of what all have
one_of_all : (i : ℕ) (peers : List Tally) → i < length peers
    → (peer_in peers i).unpassed ≤ all_unpassed peers
one_of_all i peers low = let s = sum_by-set (λ (p : Tally). p.unpassed) peers i new_tally new_tally low
    in omega arith

module _ {A : Type 0} (p : Port A) (x : Parcel A) (un : IsUnpassed p x) where
  -- where it is the one that is left, and not the next one of its sender, it came before that one
  pub is_overtaken : unpassed_by p ≤ 1 → x.seq ≢ taken_by p x.from
      → Overtaken (knows p) x.from (taken_by p x.from)
  is_overtaken few other = let i : ℕ = x.from in let t : ℕ = taken_by p i in
      let numbers = map number (from i (knows p).got) in
      let there = one_of_has (Some x) (from i (knows p).got) un.1 in
      let far = un.2 in (
        (x.seq, omega (arith, far, other), inr there),
        λ came. ∥∥₁_elim p.counts (λ a b. absurd a) (λ n. let o = n.each i un.0 in
            ⊎_elim (λ h. let l = each_has (λ k. k < t)
            (map number (from i (knows p).got_box)) o.passed t h in omega arith)
            (λ h. let two = two_not_below t t x.seq numbers (omega arith) far
            (λ e. other (sym e)) h there in
            let all = one_of_all i p.peers.items (peer_low p i un.0) in
            let is = o.unpassed in omega (arith, two, all, is, few)) came),
      )

module _ {A : Type 0} where
  -- Where no sender was overtaken, and no parcel is held whose turn has come, none is held
  none_held : Once A → (p : Port A) → HoldsTheRest p
      → ((x : Parcel A) → p.held ≡ Some x → x.seq ≢ taken_by p x.from)
      → ((i : ℕ) → i < (knows p).ranks → NotOvertaken p i) → p.held ≡ None
  none_held once p rest later not = by_held p.held refl where
    by_held : (h : Option (Parcel A)) → p.held ≡ h → p.held ≡ None
    by_held None is = is
    by_held (Some x) is = let un = held_unpassed once p x is in
        let one : unpassed_by p ≡ 1 = rest ∙ ap count_held is in
        absurd (not x.from un.0 (is_overtaken p x un (omega arith) (later x is)))

  -- the same, where the looks at the boxes began after a look at the held parcel, which changed nothing
  pub none_waits : Once A → (p q : Port A) → q ≡ p → HoldsTheRest p
      → ((x : Parcel A) → p.held ≡ Some x → x.seq ≢ taken_by p x.from)
      → ((i : ℕ) → i < (knows p).ranks → NotOvertaken q i) → p.held ≡ None
  none_waits once p q same rest later not =
      none_held once p rest later (λ i low. subst (λ (r : Port A). NotOvertaken r i) same (not i low))
