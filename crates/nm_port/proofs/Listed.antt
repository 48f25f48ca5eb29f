-- Lists of parcels by number, and the lists of loads that they are in.
use Rattle.std.proofs.Common.{◌≡◌, ◌⊎◌, inl, inr, ⊎_elim, ℕ, zero, suc, ◌<◌, ◌≤◌}
use Rattle.std.proofs.Common.{Option, Some, None, List, [], ◌∷◌, ◌++◌, length, take}
use Rattle.std.proofs.Common.{◌+◌, map, refl, sym, ap, ◌∙◌, subst, arith, append-nil, length-append, get_or}
use Rattle.std.specs.Prelude.{IfSome}
use Rattle.std.specs.List.{slice_get}
use Rattle.std.proofs.lemmas.List.{length-map, take_all}
use Rattle.std.proofs.lemmas.Option.{slice_get_cases}
use mathlib.Core.Logic.{dite}
use native.Mathlib.Decide.{ℕ_discrete}
use Rattle.nm_chain.specs.declared.table.parcels.Parcel.{Parcel}
use Rattle.nm_chain.specs.Rule.{Load}
use Rattle.nm_chain.proofs.QueueLemmas.{pick_no, pick_yes}
use Rattle.nm_cells.specs.Counted.{IsOneOf}
use Rattle.nm_cells.specs.PathLists.{Begins, by_number, numbered, parcels}
use Rattle.nm_port.specs.CarriedPackets.{AreListed, IsListed}
use Rattle.nm_cells.proofs.NumberLemmas.{one_of_append}

module _ {A : Type 0} where
  one_of_back : (y : Load A) (xs ys : List (Load A)) → IsOneOf y ys → IsOneOf y (xs ++ ys)
  one_of_back y [] ys h = h
  one_of_back y (x ∷ xs) ys h = inr (one_of_back y xs ys h)

  -- the two lists grow
  pub listed_more : {B : Type 0} (seen : Parcel A → B) (boxes cells more others : List (Load A)) (bs : List B) →
      AreListed seen boxes cells bs → AreListed seen (boxes ++ more) (cells ++ others) bs
  listed_more {B} seen boxes cells more others bs is = record { each = λ k. by k (slice_get bs k) (is.each k) } where
    by : (k : ℕ) (o : Option B) → IfSome o (IsListed seen boxes cells k) →
        IfSome o (IsListed seen (boxes ++ more) (cells ++ others) k)
    by k None h = tt
    by k (Some b) h = record {
      parcel = h.parcel;
      seen_as = h.seen_as;
      number = h.number;
      went = ⊎_elim (λ x. inl (one_of_append (Some h.parcel) boxes more x))
          (λ c. inr (one_of_append (Some h.parcel) cells others c)) h.went;
    }

-- an element of a list with one more
get_push : {B : Type 0} (bs : List B) (b : B) (R : ℕ → B → Type 0) (n : ℕ) → n ≡ length bs →
    ((k : ℕ) → IfSome (slice_get bs k) (R k)) → R n b →
    (k : ℕ) → IfSome (slice_get (bs ++ b ∷ []) k) (R k)
get_push [] b R n is all last zero = subst (λ m. R m b) is last
get_push [] b R n is all last (suc k) = tt
get_push (q ∷ bs) b R n is all last zero = all zero
get_push (q ∷ bs) b R zero is all last (suc k) = let no : zero ≡ suc (length bs) = is in absurd (omega (arith, no))
get_push (q ∷ bs) b R (suc n) is all last (suc k) =
    get_push bs b (λ m x. R (suc m) x) n (omega (arith, is)) (λ m. all (suc m)) last k

module _ {A : Type 0} where
  pub listed_push : {B : Type 0} (seen : Parcel A → B) (boxes cells : List (Load A)) (bs : List B)
      (p : Parcel A) → p.seq ≡ length bs → IsOneOf (Some p) boxes ⊎ IsOneOf (Some p) cells →
      AreListed seen boxes cells bs → AreListed seen boxes cells (bs ++ seen p ∷ [])
  listed_push seen boxes cells bs p number there is = record {
    each = get_push bs (seen p) (IsListed seen boxes cells) (length bs) refl is.each
        record { parcel = p; seen_as = refl; number = number; went = there };
  }

  -- the parcels that are so seen
  abbrev IsNumbered : List (Load A) → List (Load A) → ℕ → Parcel A → Type 0
  IsNumbered boxes cells k p = (p.seq ≡ k) × (IsOneOf (Some p) boxes ⊎ IsOneOf (Some p) cells)

  chosen : {B : Type 0} (seen : Parcel A → B) (boxes cells : List (Load A)) (k : ℕ) (bs : List B) →
      ((n : ℕ) → IfSome (slice_get bs n) (IsListed seen boxes cells (k + n))) →
      (ps : List (Parcel A)) × (map seen ps ≡ bs)
      × ((n : ℕ) → IfSome (slice_get ps n) (IsNumbered boxes cells (k + n)))
  chosen seen boxes cells k [] all = ([], refl, λ n. tt)
  chosen {B} seen boxes cells k (b ∷ bs) all =
      let first = all 0 in
      let rest = chosen seen boxes cells (suc k) bs (λ n. on n (slice_get bs n) (all (suc n))) in (
        first.parcel ∷ rest.0,
        (λ i. first.seen_as i ∷ rest.1 i),
        by first rest.0 rest.2,
      ) where
        on : (n : ℕ) (o : Option B) → IfSome o (IsListed seen boxes cells (k + suc n)) →
            IfSome o (IsListed seen boxes cells (suc k + n))
        on n o = subst (λ m. IfSome o (IsListed seen boxes cells m))
            (let e : k + suc n ≡ suc k + n = omega arith in e)

        by : (first : IsListed seen boxes cells (k + 0) b) (ps : List (Parcel A)) →
            ((n : ℕ) → IfSome (slice_get ps n) (IsNumbered boxes cells (suc k + n))) →
            (n : ℕ) → IfSome (slice_get (first.parcel ∷ ps) n) (IsNumbered boxes cells (k + n))
        by first ps rest zero = (first.number, first.went)
        by first ps rest (suc n) = subst (λ m. IfSome (slice_get ps n) (IsNumbered boxes cells m))
            (let e : suc k + n ≡ k + suc n = omega arith in e) (rest n)

  -- the parcel is one of these
  abbrev pub IsIn : Parcel A → List (Parcel A) → Type 0
  IsIn p [] = ⊥
  IsIn p (q ∷ ps) = (p ≡ q) ⊎ IsIn p ps

  in_front : (p : Parcel A) (ps qs : List (Parcel A)) → IsIn p ps → IsIn p (ps ++ qs)
  in_front p [] qs i = absurd i
  in_front p (x ∷ ps) qs i = ⊎_elim (λ e. inl e) (λ k. inr (in_front p ps qs k)) i

  in_back : (p : Parcel A) (ps qs : List (Parcel A)) → IsIn p qs → IsIn p (ps ++ qs)
  in_back p [] qs i = i
  in_back p (x ∷ ps) qs i = inr (in_back p ps qs i)

  is_in : (p : Parcel A) (ys : List (Load A)) → IsOneOf (Some p) ys → IsIn p (parcels ys)
  is_in p [] h = absurd h
  is_in p (Some q ∷ ys) h = ⊎_elim (λ e. inl (one e)) (λ k. inr (is_in p ys k)) h where
    one : {x y : Parcel A} → Some x ≡ Some y → x ≡ y
    one e = cc
  is_in p (None ∷ ys) h = ⊎_elim (λ e. absurd (not_none e)) (λ k. is_in p ys k) h where
    not_none : {x : Parcel A} → Some x ≡ None → ⊥
    not_none e = cc

  is_numbered : (p : Parcel A) (k : ℕ) (ps : List (Parcel A)) → p.seq ≡ k → IsIn p ps → IsIn p (numbered k ps)
  is_numbered p k [] number i = absurd i
  is_numbered p k (q ∷ ps) number i = dite (ℕ_discrete q.seq k)
      (λ e. subst (λ l. IsIn p l) (sym (pick_yes (ℕ_discrete q.seq k) (q ∷ numbered k ps) (numbered k ps) e))
      (⊎_elim (λ same. inl same) (λ rest. inr (is_numbered p k ps number rest)) i))
      (λ ne. subst (λ l. IsIn p l) (sym (pick_no (ℕ_discrete q.seq k) (q ∷ numbered k ps) (numbered k ps) ne))
      (⊎_elim (λ same. absurd (ne (ap (λ x. x.seq) (sym same) ∙ number))) (λ rest. is_numbered p k ps number rest) i))

  some_length : (p : Parcel A) (ps : List (Parcel A)) → IsIn p ps → 0 < length ps
  some_length p [] i = absurd i
  some_length p (q ∷ ps) i = omega arith

  only_one : (p : Parcel A) (ps : List (Parcel A)) → length ps ≡ 1 → IsIn p ps → ps ≡ p ∷ []
  only_one p [] one i = absurd i
  only_one p (q ∷ []) one i = ⊎_elim (λ e. ap (λ x. x ∷ []) (sym e)) (λ k. absurd k) i
  only_one p (q ∷ r ∷ ps) one i = absurd (omega (arith, one))

-- the first parcels of a list by number are all those of the pool with these numbers, where these are
-- as many
module _ {A : Type 0} (pool ps : List (Parcel A))
    (all : (k : ℕ) → IfSome (slice_get ps k) (λ p. (p.seq ≡ k) × IsIn p pool)) where
  at : (k : ℕ) → k < length ps → (p : Parcel A) × (slice_get ps k ≡ Some p) × IsIn p (numbered k pool)
  at k low = by (slice_get_cases ps k).1 where
    by : ((x : Parcel A) × (k < length ps) × (slice_get ps k ≡ Some x) × (get_or ps k x ≡ x))
        ⊎ ((length ps ≤ k) × (slice_get ps k ≡ None)) →
        (p : Parcel A) × (slice_get ps k ≡ Some p) × IsIn p (numbered k pool)
    by (inl h) =
        let x = h.0 in
        let is = subst (λ o. IfSome o (λ p. (p.seq ≡ k) × IsIn p pool)) h.2 (all k) in
        (x, h.2, is_numbered x k pool is.0 is.1)
    by (inr h) = absurd (omega (arith, low, h.0))

  at_least : (t : ℕ) → t ≤ length ps → t ≤ length (by_number t pool)
  at_least zero low = omega arith
  at_least (suc t) low =
      let before = at_least t (omega arith) in
      let some = some_length (at t low).0 (numbered t pool) (at t low).2 in
      let sum = length-append (by_number t pool) (numbered t pool) in
      omega (arith, before, some, sum)

  pub by_number_is : (t : ℕ) → t ≤ length ps → length (by_number t pool) ≡ t → by_number t pool ≡ take t ps
  by_number_is zero low many = refl
  by_number_is (suc t) low many =
      let here = at t low in
      let some = some_length here.0 (numbered t pool) here.2 in
      let least = at_least t (omega arith) in
      let sum = length-append (by_number t pool) (numbered t pool) in
      let one : length (numbered t pool) ≡ 1 = omega (arith, many, some, least, sum) in
      let rest : length (by_number t pool) ≡ t = omega (arith, many, some, least, sum) in
      ap (λ l. l ++ numbered t pool) (by_number_is t (omega arith) rest)
      ∙ ap (λ l. take t ps ++ l) (only_one here.0 (numbered t pool) one here.2)
      ∙ sym (take_next t ps here.0 here.1) where
        take_next : (t : ℕ) (ps : List (Parcel A)) (p : Parcel A) → slice_get ps t ≡ Some p →
            take (suc t) ps ≡ take t ps ++ p ∷ []
        take_next t [] p is = absurd (no_none is) where
          no_none : None ≡ Some p → ⊥
          no_none e = cc
        take_next zero (q ∷ ps) p is = ap (λ x. x ∷ []) (one_is is) where
          one_is : {x y : Parcel A} → Some x ≡ Some y → x ≡ y
          one_is e = cc
        take_next (suc t) (q ∷ ps) p is = ap (λ l. q ∷ l) (take_next t ps p is)

module _ {A : Type 0} where
  -- so a list by number is the pool by number
  numbered_is : (boxes cells : List (Load A)) (ps : List (Parcel A)) (t : ℕ) → length ps ≡ t →
      length (by_number t (parcels boxes ++ parcels cells)) ≡ t →
      ((n : ℕ) → IfSome (slice_get ps n) (IsNumbered boxes cells n)) →
      by_number t (parcels boxes ++ parcels cells) ≡ ps
  numbered_is boxes cells ps t many counted is =
      by_number_is (parcels boxes ++ parcels cells) ps (λ k. by k (slice_get ps k) (is k)) t
      (omega (arith, many)) counted
      ∙ take_all t ps (omega (arith, many)) where
        by : (k : ℕ) (o : Option (Parcel A)) → IfSome o (IsNumbered boxes cells k) →
            IfSome o (λ p. (p.seq ≡ k) × IsIn p (parcels boxes ++ parcels cells))
        by k None h = tt
        by k (Some p) h = (
          h.0,
          ⊎_elim (λ b. in_front p (parcels boxes) (parcels cells) (is_in p boxes b))
              (λ c. in_back p (parcels boxes) (parcels cells) (is_in p cells c)) h.1,
        )

  pub listed_is : {B : Type 0} (seen : Parcel A → B) (boxes cells : List (Load A)) (bs : List B) (t : ℕ) →
      length bs ≡ t → length (by_number t (parcels boxes ++ parcels cells)) ≡ t →
      AreListed seen boxes cells bs → map seen (by_number t (parcels boxes ++ parcels cells)) ≡ bs
  listed_is {B} seen boxes cells bs t many counted is =
      let c = chosen seen boxes cells 0 bs (λ n. on n (slice_get bs n) (is.each n)) in
      let same : length c.0 ≡ length bs = sym (length-map c.0 seen) ∙ ap length c.1 in
      ap (map seen) (numbered_is boxes cells c.0 t (same ∙ many) counted (λ n. back n (slice_get c.0 n) (c.2 n)))
      ∙ c.1 where
        on : (n : ℕ) (o : Option B) → IfSome o (IsListed seen boxes cells n) →
            IfSome o (IsListed seen boxes cells (0 + n))
        on n o = subst (λ m. IfSome o (IsListed seen boxes cells m)) (let e : n ≡ 0 + n = omega arith in e)

        back : (n : ℕ) (o : Option (Parcel A)) → IfSome o (IsNumbered boxes cells (0 + n)) →
            IfSome o (IsNumbered boxes cells n)
        back n o = subst (λ m. IfSome o (IsNumbered boxes cells m)) (let e : 0 + n ≡ n = omega arith in e)

  -- a beginning that is as long is the whole
  pub begins_whole : (front whole : List (Parcel A)) → Begins front whole → length front ≡ length whole → front ≡ whole
  begins_whole front whole b many =
      let sum = ap length b.1 ∙ length-append front b.0 in
      sym (b.1 ∙ ap (λ l. front ++ l) (none b.0 (omega (arith, sum, many))) ∙ append-nil front) where
        none : (l : List (Parcel A)) → length l ≡ 0 → l ≡ []
        none [] e = refl
        none (x ∷ l) e = absurd (omega (arith, e))
