-- The parcel is the last one of those by its way, and has the next number.
use Rattle.std.proofs.Common.{◌≡◌, inl, inr, ⊎_elim, ℕ, ◌==◌, Bool, true, false, cond, Some, List, [], ◌∷◌, ◌++◌}
use Rattle.std.proofs.Common.{length, refl, sym, ap, ◌∙◌, subst, arith, append-nil, length-append}
use Rattle.std.proofs.lemmas.Bool.Decides.{nat_tests}
use native.Mathlib.Decide.{ℕ_discrete}
use Rattle.nm_chain.specs.declared.table.parcels.Parcel.{Parcel}
use Rattle.nm_chain.specs.declared.table.table.Entry.{Entry}
use Rattle.nm_chain.specs.Rule.{Load, put_to, sent_to}
use Rattle.nm_chain.proofs.QueueLemmas.{pick_no, pick_yes, put_append}
use Rattle.nm_cells.proofs.NumberLemmas.{one_of_last}
use Rattle.nm_types.specs.declared.packets.Path.TheVariants.{Box, Cell}
use Rattle.nm_cells.specs.Ports.{knows}
use Rattle.nm_port.specs.CarriedPackets.{AreListed, HasSent, one_more}
use Rattle.nm_port.specs.Sends.{tried}
use Rattle.nm_port.proofs.Listed.{listed_more, listed_push}
use Rattle.nm_port.proofs.carried.laws.a_send_carries.Goals as goal

-- what was put for a rank, with one more
put_here : {A : Type 0} (j : ℕ) (xs : List (ℕ × Load A)) (to : ℕ) (y : Load A) → (to == j) ≡ true →
    put_to j (xs ++ (to, y) ∷ []) ≡ put_to j xs ++ y ∷ []
put_here j xs to y same = put_append j xs ((to, y) ∷ [])
    ∙ ap (λ l. put_to j xs ++ l) (pick_yes (ℕ_discrete to j) (y ∷ []) [] (is to j same)) where
      is : (to j : ℕ) → (to == j) ≡ true → to ≡ j
      is to j same = grind (arith, nat_tests)

put_other : {A : Type 0} (j : ℕ) (xs : List (ℕ × Load A)) (to : ℕ) (y : Load A) → (to == j) ≡ false →
    put_to j (xs ++ (to, y) ∷ []) ≡ put_to j xs
put_other j xs to y other = put_append j xs ((to, y) ∷ [])
    ∙ ap (λ l. put_to j xs ++ l) (pick_no (ℕ_discrete to j) (y ∷ []) [] (isnt to j other))
    ∙ append-nil (put_to j xs) where
      isnt : (to j : ℕ) → (to == j) ≡ false → to ≡ j → ⊥
      isnt to j other same = let equal : (to == j) ≡ true = grind (arith, nat_tests) in
          clash (to == j) other equal where
            clash : (b : Bool) → b ≡ false → b ≡ true → ⊥
            clash b one two = cc

same : {A B : Type 0} (seen : Parcel A → B) (e e' : Entry A) (j : ℕ) (bs : List B) → put_to j e'.put_box ≡ put_to j e.put_box →
    put_to j e'.put ≡ put_to j e.put → HasSent seen e j bs → HasSent seen e' j bs
same seen e e' j bs box cell is =
    record {
      listed = rw (box, cell) is.listed;
      many = rw (box, cell) is.many;
    }

boxed : {A B : Type 0} (seen : Parcel A → B) (e e' : Entry A) (j to : ℕ) (p : Parcel A) (bs : List B) →
    e'.put_box ≡ e.put_box ++ (to, Some p) ∷ [] → e'.put ≡ e.put → p.seq ≡ sent_to to e.put_box e.put →
    HasSent seen e j bs → HasSent seen e' j (one_more to j (seen p) bs)
boxed seen e e' j to p bs box cell number is = by (to == j) refl where
  is_to : (to j : ℕ) → (to == j) ≡ true → to ≡ j
  is_to to j same = grind (arith, nat_tests)

  by : (b : Bool) → (to == j) ≡ b → HasSent seen e' j (cond b (bs ++ seen p ∷ []) bs)
  by true equal =
      let boxes : put_to j e'.put_box ≡ put_to j e.put_box ++ Some p ∷ [] =
      ap (put_to j) box ∙ put_here j e.put_box to (Some p) equal in
      let cells : put_to j e'.put ≡ put_to j e.put = ap (put_to j) cell in
      let next : p.seq ≡ length bs = number ∙ ap (λ k. sent_to k e.put_box e.put) (is_to to j equal) ∙ sym is.many in
      record {
        listed = rw (boxes, cells) (listed_push seen (put_to j e.put_box ++ Some p ∷ []) (put_to j e.put) bs p next
            (inl (one_of_last (Some p) (put_to j e.put_box)))
            (subst (λ l. AreListed seen (put_to j e.put_box ++ Some p ∷ []) l bs) (append-nil (put_to j e.put))
            (listed_more seen (put_to j e.put_box) (put_to j e.put) (Some p ∷ []) [] bs is.listed)));
        many =
            let grown = ap length boxes ∙ length-append (put_to j e.put_box) (Some p ∷ []) in
            let same_cells = ap length cells in
            let longer = length-append bs (seen p ∷ []) in
            omega (arith, grown, same_cells, longer, is.many);
      }
  by false differs = same seen e e' j bs (ap (put_to j) box ∙ put_other j e.put_box to (Some p) differs)
      (ap (put_to j) cell) is

celled : {A B : Type 0} (seen : Parcel A → B) (e e' : Entry A) (j to : ℕ) (p : Parcel A) (bs : List B) →
    e'.put_box ≡ e.put_box → e'.put ≡ e.put ++ (to, Some p) ∷ [] → p.seq ≡ sent_to to e.put_box e.put →
    HasSent seen e j bs → HasSent seen e' j (one_more to j (seen p) bs)
celled seen e e' j to p bs box cell number is = by (to == j) refl where
  is_to : (to j : ℕ) → (to == j) ≡ true → to ≡ j
  is_to to j same = grind (arith, nat_tests)

  by : (b : Bool) → (to == j) ≡ b → HasSent seen e' j (cond b (bs ++ seen p ∷ []) bs)
  by true equal =
      let cells : put_to j e'.put ≡ put_to j e.put ++ Some p ∷ [] =
      ap (put_to j) cell ∙ put_here j e.put to (Some p) equal in
      let boxes : put_to j e'.put_box ≡ put_to j e.put_box = ap (put_to j) box in
      let next : p.seq ≡ length bs = number ∙ ap (λ k. sent_to k e.put_box e.put) (is_to to j equal) ∙ sym is.many in
      record {
        listed = rw (boxes, cells) (listed_push seen (put_to j e.put_box) (put_to j e.put ++ Some p ∷ []) bs p next
            (inr (one_of_last (Some p) (put_to j e.put)))
            (subst (λ l. AreListed seen l (put_to j e.put ++ Some p ∷ []) bs) (append-nil (put_to j e.put_box))
            (listed_more seen (put_to j e.put_box) (put_to j e.put) [] (Some p ∷ []) bs is.listed)));
        many =
            let grown = ap length cells ∙ length-append (put_to j e.put) (Some p ∷ []) in
            let same_boxes = ap length boxes in
            let longer = length-append bs (seen p ∷ []) in
            omega (arith, grown, same_boxes, longer, is.many);
      }
  by false differs = same seen e e' j bs (ap (put_to j) box)
      (ap (put_to j) cell ∙ put_other j e.put to (Some p) differs) is

-- a try by box leaves the lists as they were
tried_box : {A : Type 0} (fits : Bool) (to : ℕ) (e : Entry A) → (tried fits to e).put_box ≡ e.put_box
tried_box true to e = refl
tried_box false to e = refl

tried_cell : {A : Type 0} (fits : Bool) (to : ℕ) (e : Entry A) → (tried fits to e).put ≡ e.put
tried_cell true to e = refl
tried_cell false to e = refl

pub returns-clause-some : goal.returns-clause-some
returns-clause-some g c seen Box fits to p old new j bs sends number is =
    let put = sends.puts.put in boxed seen (knows old) (knows new) j to p bs (ap (λ (e : Entry _). e.put_box) put)
    (ap (λ (e : Entry _). e.put) put) number is
returns-clause-some g c seen Cell fits to p old new j bs sends number is =
    celled seen (knows old) (knows new) j to p bs
    (ap (λ (e : Entry _). e.put_box) sends.put ∙ tried_box fits to (knows old))
    (ap (λ (e : Entry _). e.put) sends.put
    ∙ ap (λ l. l ++ (to, Some p) ∷ []) (tried_cell fits to (knows old))) number is

pub returns-clause-none : goal.returns-clause-none
returns-clause-none g c seen fits to old new j bs none is =
    let then = tried fits to (knows old) in
    let box : (knows new).put_box ≡ then.put_box = ⊎_elim (λ h. ap (λ (e : Entry _). e.put_box) h)
    (λ h. ap (λ (e : Entry _). e.put_box) h.1) none.miss in
    let cell : (knows new).put ≡ then.put = ⊎_elim (λ h. ap (λ (e : Entry _). e.put) h)
    (λ h. ap (λ (e : Entry _). e.put) h.1) none.miss in
    same seen (knows old) (knows new) j bs (ap (put_to j) (box ∙ tried_box fits to (knows old)))
    (ap (put_to j) (cell ∙ tried_cell fits to (knows old))) is
