-- What each kind of step does to a chain.
use Rattle.std.proofs.Common.{◌≡◌, ◌≢◌, ℕ, suc, ◌⊎◌, List, [], ◌∷◌, ◌++◌, sym, refl, ap, ◌∙◌, inl}
use Rattle.std.proofs.Common.{inr, subst, ⊎_elim, arith}
use mathlib.Core.Logic.{dite}
use native.Mathlib.Decide.{ℕ_discrete}
use Rattle.nm_chain.specs.Update.{update}
use Rattle.nm_chain.proofs.UpdateLemmas.{update_here, update_else}
use Rattle.nm_chain.specs.Chain.{Item, Place, held, entering, queued, item, IsIn, Each, Has, Lacks}
use Rattle.nm_chain.specs.Chain.{Once, last_from, tail_of, Begins, Follows, Linked, IsChain}

module _ {L : Type 0} where
  pub each_along : (P Q : Item L → Type 0) → ((x : Item L) → P x → Q x) → (xs : List (Item L))
      → Each P xs → Each Q xs
  each_along P Q f [] h = tt
  each_along P Q f (x ∷ xs) h = (f x h.0, each_along P Q f xs h.1)

  pub each_both : (P Q R : Item L → Type 0) → ((x : Item L) → P x → Q x → R x)
      → (xs : List (Item L)) → Each P xs → Each Q xs → Each R xs
  each_both P Q R f [] h k = tt
  each_both P Q R f (x ∷ xs) h k = (f x h.0 k.0, each_both P Q R f xs h.1 k.1)

  pub each_append : (P : Item L → Type 0) (xs : List (Item L)) (y : Item L) → Each P xs → P y
      → Each P (xs ++ y ∷ [])
  each_append P [] y h k = (k, tt)
  each_append P (x ∷ xs) y h k = (h.0, each_append P xs y h.1 k)

  pub has_append : (xs : List (Item L)) (y : Item L) (c : ℕ) → Has c xs → Has c (xs ++ y ∷ [])
  has_append [] y c h = absurd h
  has_append (x ∷ xs) y c h = ⊎_elim (λ e. inl e) (λ k. inr (has_append xs y c k)) h

  pub has_last : (xs : List (Item L)) (y : Item L) → Has y.cell (xs ++ y ∷ [])
  has_last [] y = inl refl
  has_last (x ∷ xs) y = inr (has_last xs y)

  pub lacks : (xs : List (Item L)) (c d : ℕ) → Lacks c xs → Has d xs → c ≢ d
  lacks [] c d n h = absurd h
  lacks (x ∷ xs) c d n h = ⊎_elim (λ e k. n.0 (k ∙ e)) (λ k. lacks xs c d n.1 k) h

  pub once_append : (xs : List (Item L)) (y : Item L) → Once xs → Lacks y.cell xs
      → Once (xs ++ y ∷ [])
  once_append [] y o n = (tt, tt)
  once_append (x ∷ xs) y o n = (
    each_append (λ z. x.cell ≢ z.cell) xs y o.0 (λ e. n.0 (sym e)),
    once_append xs y o.1 n.1,
  )

  last_append : (c : ℕ) (xs : List (Item L)) (y : Item L) → last_from c (xs ++ y ∷ []) ≡ suc y.cell
  last_append c [] y = refl
  last_append c (x ∷ xs) y = last_append x.cell xs y

  pub tail_append : (xs : List (Item L)) (y : Item L) → tail_of (xs ++ y ∷ []) ≡ suc y.cell
  tail_append [] y = refl
  tail_append (x ∷ xs) y = last_append x.cell xs y

  last_has : (c : ℕ) (xs : List (Item L)) (d : ℕ) → last_from c xs ≡ suc d → (d ≡ c) ⊎ Has d xs
  last_has c [] d e = inl (omega arith)
  last_has c (x ∷ xs) d e = ⊎_elim (λ h. inr (inl h)) (λ h. inr (inr h)) (last_has x.cell xs d e)

  -- a cell that is last and does not come again is alone
  pub alone : (c : ℕ) (xs : List (Item L)) → Lacks c xs → last_from c xs ≡ suc c → xs ≡ []
  alone c [] n e = refl
  alone c (x ∷ xs) n e =
      absurd (⊎_elim (λ h. n.0 h) (λ h. lacks xs c c n.1 h refl) (last_has x.cell xs c e))

  module _ (place : ℕ → Place L) (q : ℕ) (link : ℕ → ℕ) where
    -- the cells behind a first one are in the queue
    linked_in : (x : Item L) (xs : List (Item L)) → Linked place q link (x ∷ xs)
        → Each (λ y. IsIn q (place y.cell)) xs
    linked_in x [] l = tt
    linked_in x (y ∷ ys) l = (
      ⊎_elim (λ j. subst (IsIn q) (sym j.1) refl) (λ p. subst (IsIn q) (sym p.1.1) refl) l.0,
      linked_in y ys l.1,
    )

    pub members : (head shadow : ℕ) (xs : List (Item L)) → Begins place q head shadow xs
        → Linked place q link xs → Each (λ y. IsIn q (place y.cell)) xs
    members head shadow [] b l = tt
    members head shadow (x ∷ xs) b l = (
      ⊎_elim (λ s. subst (IsIn q) (sym s.2) refl)
          (λ b'. ⊎_elim (λ h. subst (IsIn q) (sym h.2) refl)
          (λ k. subst (IsIn q) (sym k.2.1) refl) b') b,
      linked_in x xs l,
    )

    -- a link that is not 0 leads to the next cell, whose enqueue is finished
    pub next_is : (c d : ℕ) (xs : List (Item L)) → Follows place q link c xs → link c ≡ suc d
        → (y : Item L) × (ys : List (Item L)) × (xs ≡ y ∷ ys) × (d ≡ y.cell)
        × (place y.cell ≡ queued q)
    next_is c d [] f e = absurd (omega arith)
    next_is c d (y ∷ ys) f e = ⊎_elim (λ j. let j₀ = j.0 in (y, ys, refl, omega arith, j.1))
        (λ p. let p₀ = p.0 in absurd (omega arith)) f

  module _ (place place' : ℕ → Place L) (q : ℕ) (link link' : ℕ → ℕ) where
    follows_same : (c : ℕ) (xs : List (Item L)) → link' c ≡ link c
        → ((d : ℕ) → Has d xs → place' d ≡ place d) → Follows place q link c xs
        → Follows place' q link' c xs
    follows_same c [] e f h = e ∙ h
    follows_same c (y ∷ ys) e f h = let p = f y.cell (inl refl) in
        ⊎_elim (λ j. inl (e ∙ j.0, p ∙ j.1)) (λ k. inr (e ∙ k.0, (k.1.0, p ∙ k.1.1))) h

    -- the links of all cells, and the places of all but the first, are as they were
    pub linked_same : (x : Item L) (xs : List (Item L))
        → ((c : ℕ) → Has c (x ∷ xs) → link' c ≡ link c) → ((d : ℕ) → Has d xs → place' d ≡ place d)
        → Linked place q link (x ∷ xs) → Linked place' q link' (x ∷ xs)
    linked_same x [] e f l = (follows_same x.cell [] (e x.cell (inl refl)) f l.0, tt)
    linked_same x (y ∷ ys) e f l = (
      follows_same x.cell (y ∷ ys) (e x.cell (inl refl)) f l.0,
      linked_same y ys (λ c h. e c (inr h)) (λ d h. f d (inr h)) l.1,
    )

    pub begins_same : (head shadow : ℕ) (xs : List (Item L))
        → ((c : ℕ) → Has c xs → place' c ≡ place c) → Begins place q head shadow xs
        → Begins place' q head shadow xs
    begins_same head shadow [] f b = b
    begins_same head shadow (x ∷ xs) f b = let p = f x.cell (inl refl) in
        ⊎_elim (λ s. inl (s.0, s.1, p ∙ s.2)) (λ b'. ⊎_elim (λ h. inr (inl (h.0, h.1, p ∙ h.2)))
        (λ k. inr (inr (k.0, k.1, (k.2.0, p ∙ k.2.1)))) b') b

    all_linked : (xs : List (Item L)) → ((c : ℕ) → Has c xs → link' c ≡ link c)
        → ((d : ℕ) → Has d xs → place' d ≡ place d) → Linked place q link xs
        → Linked place' q link' xs
    all_linked [] e f l = tt
    all_linked (x ∷ xs) e f l = linked_same x xs e (λ d h. f d (inr h)) l

  each_has : (P : ℕ → Type 0) (xs : List (Item L)) → Each (λ x. P x.cell) xs → (c : ℕ) → Has c xs
      → P c
  each_has P [] e c h = absurd h
  each_has P (x ∷ xs) e c h = ⊎_elim (λ s. subst P (sym s) e.0) (λ k. each_has P xs e.1 c k) h

  module _ (fits fits' : Item L → Type 0) (place : ℕ → Place L) (link : ℕ → ℕ)
      (q head tail shadow : ℕ) (chain : List (Item L))
      (h : IsChain fits place link q head tail shadow chain) where
    all_in : Each (λ y. IsIn q (place y.cell)) chain
    all_in = members place q link head shadow chain h.begins h.linked

    pub has_in : (c : ℕ) → Has c chain → IsIn q (place c)
    has_in = each_has (λ c. IsIn q (place c)) chain all_in

    -- a step elsewhere
    pub chain_elsewhere : (place' : ℕ → Place L) (link' : ℕ → ℕ)
        → ((c : ℕ) → IsIn q (place c) → (link' c ≡ link c) × (place' c ≡ place c))
        → ((c : ℕ) → IsIn q (place' c) → IsIn q (place c))
        → ((x : Item L) → IsIn q (place x.cell) → fits x → fits' x)
        → IsChain fits' place' link' q head tail shadow chain
    chain_elsewhere place' link' same back keep = record {
      once = h.once;
      begins = begins_same place place' q link link' head shadow chain
          (λ c k. (same c (has_in c k)).1) h.begins;
      linked = all_linked place place' q link link' chain (λ c k. (same c (has_in c k)).0)
          (λ c k. (same c (has_in c k)).1) h.linked;
      ends = h.ends;
      each = each_both (λ x. IsIn q (place x.cell)) fits fits' keep chain all_in h.each;
      whole = λ c k. h.whole c (back c k);
    }

    not_in : (c : ℕ) → ¬ IsIn q (place c) → Lacks c chain
    not_in c n = each_along (λ y. IsIn q (place y.cell)) (λ y. c ≢ y.cell)
        (λ y k e. n (subst (λ d. IsIn q (place d)) (sym e) k)) chain all_in

  module _ (q r t c : ℕ) (y : L) (place : ℕ → Place L) (link : ℕ → ℕ) where
    -- one more cell behind the last one
    linked_append : (x : Item L) (xs : List (Item L)) → Lacks c (x ∷ xs) → link c ≡ 0
        → t ≡ last_from x.cell xs → Linked place q link (x ∷ xs)
        → Linked (update place c (entering r q t)) q link (x ∷ (xs ++ item c y ∷ []))
    linked_append x [] n clear e l = (
      inr (l.0, (r, update_here place c (entering r q t) c refl ∙ ap (entering r q) e)),
      (clear, tt),
    )
    linked_append x (z ∷ zs) n clear e l = (
      follows_same place (update place c (entering r q t)) q link link x.cell (z ∷ []) refl
          (λ d h. update_else place c (entering r q t) d
          (λ s. ⊎_elim (λ u. n.1.0 (sym s ∙ u)) (λ u. u) h)) l.0,
      linked_append z zs n.1 clear e l.1,
    )

  module _ (fits fits' : Item L → Type 0) (place : ℕ → Place L) (link : ℕ → ℕ)
      (q head tail shadow : ℕ) (chain : List (Item L))
      (h : IsChain fits place link q head tail shadow chain) (r c : ℕ) where
    -- the tail is exchanged for a ready cell
    begins_append : (xs : List (Item L)) (y : L) → Lacks c xs → tail ≡ tail_of xs
        → Begins place q head shadow xs → Begins (update place c (entering r q tail)) q head shadow
        (xs ++ item c y ∷ [])
    begins_append [] y n e b =
        inr (inr (
          b.0,
          b.1,
          (
            r,
            update_here place c (entering r q tail) c refl
                ∙ ap (entering r q) e,
          ),
        ))
    begins_append (x ∷ xs) y n e b =
        begins_same place (update place c (entering r q tail)) q link link head shadow (x ∷ [])
        (λ d k. update_else place c (entering r q tail) d
        (λ s. ⊎_elim (λ u. n.0 (sym s ∙ u)) (λ u. u) k)) b

    linked_more : (xs : List (Item L)) (y : L) → Lacks c xs → tail ≡ tail_of xs → link c ≡ 0
        → Linked place q link xs → Linked (update place c (entering r q tail)) q link
        (xs ++ item c y ∷ [])
    linked_more [] y n e clear l = (clear, tt)
    linked_more (x ∷ xs) y n e clear l = linked_append q r tail c y place link x xs n clear e l

    pub tail_swapped : (y : L) → ¬ IsIn q (place c) → link c ≡ 0 → fits' (item c y)
        → ((x : Item L) → x.cell ≢ c → fits x → fits' x)
        → IsChain fits' (update place c (entering r q tail)) link q head (suc c) shadow
        (chain ++ item c y ∷ [])
    tail_swapped y out clear fit keep = let n =
        not_in fits fits place link q head tail shadow chain h c out in record {
          once = once_append chain (item c y) h.once n;
          begins = begins_append chain y n h.ends h.begins;
          linked = linked_more chain y n h.ends clear h.linked;
          ends = sym (tail_append chain (item c y));
          each = each_append fits' chain (item c y)
              (each_both (λ x. c ≢ x.cell) fits fits' (λ x ne. keep x (λ e. ne (sym e))) chain n h.each)
              fit;
          whole = λ d k. dite (ℕ_discrete d c) (λ e. subst (λ u. Has u (chain ++ item c y ∷ [])) (sym e)
              (has_last chain (item c y)))
              (λ ne. has_append chain (item c y) d
              (h.whole d (subst (IsIn q) (update_else place c (entering r q tail) d ne) k)));
        }

  -- the enqueue that found no tail is of the first cell
  comes_first : (place : ℕ → Place L) (q r c : ℕ) (link : ℕ → ℕ) → place c ≡ entering r q 0
      → (x : Item L) (xs : List (Item L)) → Linked place q link (x ∷ xs) → ¬ Has c xs
  comes_first place q r c link at x [] l k = k
  comes_first place q r c link at x (y ∷ ys) l k =
      ⊎_elim (λ e. let at' : place y.cell ≡ entering r q 0 = ap place (sym e) ∙ at in
      ⊎_elim (λ j. let j₁ = sym j.1 ∙ at' in cc) (λ p. let p₁ = sym p.1.1 ∙ at' in cc) l.0)
      (λ u. comes_first place q r c link at y ys l.1 u) k

  -- the cell that a pending enqueue found is in the queue, before its own
  found_there : (place : ℕ → Place L) (q r c p : ℕ) (link : ℕ → ℕ) → place c ≡ entering r q (suc p)
      → (x : Item L) (xs : List (Item L)) → Linked place q link (x ∷ xs) → Has c xs → Has p (x ∷ xs)
  found_there place q r c p link at x [] l k = absurd k
  found_there place q r c p link at x (y ∷ ys) l k =
      ⊎_elim (λ e. let at' : place y.cell ≡ entering r q (suc p) = ap place (sym e) ∙ at in
      ⊎_elim (λ j. let j₁ = sym j.1 ∙ at' in cc) (λ u. let same = sym u.1.1 ∙ at' in
      inl (let s : suc x.cell ≡ suc p = cc in omega arith)) l.0)
      (λ u. inr (found_there place q r c p link at y ys l.1 u)) k

  -- its link is stored
  linked_filled : (place : ℕ → Place L) (q r c p : ℕ) (link : ℕ → ℕ)
      → place c ≡ entering r q (suc p) → (x : Item L) (xs : List (Item L)) → Once (x ∷ xs)
      → Linked place q link (x ∷ xs) → Has c xs
      → Linked (update place c (queued q)) q (update link p (suc c)) (x ∷ xs) × (link p ≡ 0)
  linked_filled place q r c p link at x [] o l k = absurd k
  linked_filled place q r c p link at x (y ∷ ys) o l k = let place' = update place c (queued q) in
      let link' = update link p (suc c) in ⊎_elim
      (λ e. let at' : place y.cell ≡ entering r q (suc p) = ap place (sym e) ∙ at in
      ⊎_elim (λ j. let j₁ = sym j.1 ∙ at' in cc)
      (λ u. let same = sym u.1.1 ∙ at' in let s : suc x.cell ≡ suc p = cc in let xp : x.cell ≡ p =
      omega arith in (
        (
          inl (
            update_here link p (suc c) x.cell xp ∙ ap suc e,
            update_here place c (queued q) y.cell (sym e),
          ),
          linked_same place place' q link link' y ys
              (λ d hd. update_else link p (suc c) d
              (λ s. lacks (y ∷ ys) x.cell d o.0 hd (xp ∙ sym s)))
              (λ d hd. update_else place c (queued q) d
              (λ s. lacks ys y.cell d o.1.0 hd (sym e ∙ sym s))) l.1,
        ),
        ap link (sym xp) ∙ u.0,
      )) l.0)
      (λ u. let rest = linked_filled place q r c p link at y ys o.1 l.1 u in
      let there = found_there place q r c p link at y ys l.1 u in (
        (
          follows_same place place' q link link' x.cell (y ∷ [])
              (update_else link p (suc c) x.cell (lacks (y ∷ ys) x.cell p o.0 there))
              (λ d hd. ⊎_elim (λ s. update_else place c (queued q) d
              (λ z. lacks ys y.cell c o.1.0 u (sym s ∙ z))) (λ z. absurd z) hd) l.0,
          rest.0,
        ),
        rest.1,
      ))
      k

  filled_in : (place : ℕ → Place L) (link : ℕ → ℕ) (q head shadow r c p : ℕ)
      → place c ≡ entering r q (suc p) → (xs : List (Item L)) → Once xs
      → Begins place q head shadow xs → Linked place q link xs → Has c xs
      → Begins (update place c (queued q)) q head shadow xs × Linked (update place c (queued q)) q
      (update link p (suc c)) xs × (link p ≡ 0) × Has p xs
  filled_in place link q head shadow r c p at [] o b l k = absurd k
  filled_in place link q head shadow r c p at (x ∷ xs) o b l k = ⊎_elim
      (λ e. let at' : place x.cell ≡ entering r q (suc p) = ap place (sym e) ∙ at in
      ⊎_elim (λ s. let z = sym s.2 ∙ at' in
      cc) (λ b'. ⊎_elim (λ s. let z = sym s.2 ∙ at' in cc) (λ s. let z = sym s.2.1 ∙ at' in
      let n : 0 ≡ suc p = cc in absurd (omega arith)) b') b)
      (λ u. let f = linked_filled place q r c p link at x xs o l u in (
        begins_same place (update place c (queued q)) q link link head shadow (x ∷ [])
            (λ d hd. ⊎_elim (λ s. update_else place c (queued q) d
            (λ z. lacks xs x.cell c o.0 u (sym s ∙ z))) (λ z. absurd z) hd) b,
        f.0,
        f.1,
        found_there place q r c p link at x xs l u,
      ))
      k

  -- the first enqueue stores the head
  topped_in : (place : ℕ → Place L) (link : ℕ → ℕ) (q head shadow r c : ℕ)
      → place c ≡ entering r q 0 → (xs : List (Item L)) → Once xs → Begins place q head shadow xs
      → Linked place q link xs → Has c xs
      → Begins (update place c (queued q)) q (suc c) shadow xs
      × Linked (update place c (queued q)) q link xs × (head ≡ 0)
  topped_in place link q head shadow r c at [] o b l k = absurd k
  topped_in place link q head shadow r c at (x ∷ xs) o b l k = let place' =
      update place c (queued q) in ⊎_elim
      (λ e. let at' : place x.cell ≡ entering r q 0 = ap place (sym e) ∙ at in
      ⊎_elim (λ s. let z = sym s.2 ∙ at' in cc) (λ b'. ⊎_elim (λ s. let z = sym s.2 ∙ at' in cc)
      (λ s. (
        inr (inl (s.0, ap suc e, update_here place c (queued q) x.cell (sym e))),
        linked_same place place' q link link x xs (λ _ _. refl)
            (λ d hd. update_else place c (queued q) d (λ z. lacks xs x.cell d o.0 hd (sym (z ∙ e))))
            l,
        s.1,
      )) b') b)
      (λ u. absurd (comes_first place q r c link at x xs l u))
      k

  module _ (fits : Item L → Type 0) (place : ℕ → Place L) (link : ℕ → ℕ) (q head tail shadow : ℕ)
      (chain : List (Item L)) (h : IsChain fits place link q head tail shadow chain) where
    back : (c : ℕ) → IsIn q (place c) → (d : ℕ) → IsIn q (update place c (queued q) d) → Has d chain
    back c k d kd = dite (ℕ_discrete d c) (λ e. subst (λ u. Has u chain) (sym e) (h.whole c k))
        (λ ne. h.whole d (subst (IsIn q) (update_else place c (queued q) d ne) kd))

    -- an enqueue stores the link of the cell that it found
    pub link_stored : (r c p : ℕ) → place c ≡ entering r q (suc p)
        → IsChain fits (update place c (queued q)) (update link p (suc c)) q head tail shadow chain
        × IsIn q (place p) × (link p ≡ 0)
    link_stored r c p at = let k = subst (IsIn q) (sym at) refl in
        let f = filled_in place link q head shadow r c p at chain h.once h.begins h.linked
        (h.whole c k) in (
          record {
            once = h.once;
            begins = f.0;
            linked = f.1;
            ends = h.ends;
            each = h.each;
            whole =
                back c k;
          },
          has_in fits fits place link q head tail shadow chain h p f.3,
          f.2,
        )

    -- an enqueue that found no tail stores the head
    pub head_stored : (r c : ℕ) → place c ≡ entering r q 0
        → IsChain fits (update place c (queued q)) link q (suc c) tail shadow chain × (head ≡ 0)
    head_stored r c at = let k = subst (IsIn q) (sym at) refl in
        let f = topped_in place link q head shadow r c at chain h.once h.begins h.linked
        (h.whole c k) in (
          record {
            once = h.once;
            begins = f.0;
            linked = f.1;
            ends = h.ends;
            each = h.each;
            whole =
                back c k;
          },
          f.2,
        )

    begins_hidden : (c : ℕ) → head ≡ suc c → (xs : List (Item L)) → Begins place q head shadow xs
        → Begins place q 0 (suc c) xs
    begins_hidden c e [] b = let b₁ = b.1 in absurd (omega arith)
    begins_hidden c e (x ∷ xs) b = ⊎_elim (λ s. let z = s.1 in absurd (omega arith))
        (λ b'. ⊎_elim (λ s. let z = s.1 in inl (omega arith, refl, s.2)) (λ s. let z = s.1 in
        absurd (omega arith)) b') b

    -- the consumer makes the head its shadow head
    pub head_cleared : (c : ℕ) → head ≡ suc c → IsChain fits place link q 0 tail (suc c) chain
    head_cleared c e = record {
      once = h.once;
      begins = begins_hidden c e chain h.begins;
      linked =
          h.linked;
      ends = h.ends;
      each = h.each;
      whole = h.whole;
    }

    begun_by : (c : ℕ) → shadow ≡ suc c → (xs : List (Item L)) → Begins place q head shadow xs
        → (x : Item L) × (ys : List (Item L)) × (xs ≡ x ∷ ys) × (x.cell ≡ c) × (place c ≡ queued q)
        × (head ≡ 0)
    begun_by c e [] b = let b₀ = b.0 in absurd (omega arith)
    begun_by c e (x ∷ xs) b = ⊎_elim (λ s. let z = s.0 in let same : x.cell ≡ c = omega arith in
        (x, xs, refl, same, ap place (sym same) ∙ s.2, s.1))
        (λ b'. ⊎_elim (λ s. let z = s.0 in absurd (omega arith)) (λ s. let z = s.0 in
        absurd (omega arith)) b') b

    -- the first cell, where there is a shadow head
    pub first_cell : (c : ℕ) → shadow ≡ suc c → (x : Item L) × (ys : List (Item L))
        × (chain ≡ x ∷ ys) × (x.cell ≡ c) × (place c ≡ queued q) × (head ≡ 0)
    first_cell c e = begun_by c e chain h.begins

  module _ (fits fits' : Item L → Type 0) (place : ℕ → Place L) (link : ℕ → ℕ)
      (q head tail shadow : ℕ) (x : Item L) (xs : List (Item L))
      (h : IsChain fits place link q head tail shadow (x ∷ xs)) (r : ℕ) (none : head ≡ 0)
      (keep : (y : Item L) → y.cell ≢ x.cell → fits y → fits' y) where
    others : (c : ℕ) → Has c xs → c ≢ x.cell
    others c k e = lacks xs x.cell c h.once.0 k (sym e)

    left : (c : ℕ) → IsIn q (update place x.cell (held r) c) → Has c xs
    left c k = dite (ℕ_discrete c x.cell)
        (λ e. absurd (subst (IsIn q) (update_here place x.cell (held r) c e) k))
        (λ ne. ⊎_elim (λ e. absurd (ne e)) (λ u. u)
        (h.whole c (subst (IsIn q) (update_else place x.cell (held r) c ne) k)))

    -- the first cell is taken, where its link leads to d
    pub first_taken : (d : ℕ) → link x.cell ≡ suc d
        → IsChain fits' (update place x.cell (held r)) link q head tail (suc d) xs
    first_taken d e = let n = next_is place q link x.cell d xs h.linked.0 e in record {
      once = h.once.1;
      begins = subst (λ zs. Begins (update place x.cell (held r)) q head (suc d) zs) (sym n.2)
          (inl (
            ap suc n.3,
            none,
            update_else place x.cell (held r) n.0.cell
                (others n.0.cell (subst (Has n.0.cell) (sym n.2) (inl refl))) ∙ n.4,
          ));
      linked = all_linked place (update place x.cell (held r)) q link link xs (λ _ _. refl)
          (λ c k. update_else place x.cell (held r) c (others c k)) h.linked.1;
      ends = h.ends ∙ ap (last_from x.cell) n.2 ∙ sym (ap tail_of n.2);
      each = each_both (λ y. x.cell ≢ y.cell) fits fits'
          (λ y ne. keep y (λ u. ne (sym u))) xs h.once.0 h.each.1;
      whole = left;
    }

    -- the first cell is taken, where it is the last one too
    pub tail_dropped : tail ≡ suc x.cell
        → IsChain fits' (update place x.cell (held r)) link q head 0 0 [] × (xs ≡ [])
    tail_dropped e = let none_left = alone x.cell xs h.once.0 (sym h.ends ∙ e) in (
      record {
        once = tt;
        begins = (refl, none);
        linked = tt;
        ends = refl;
        each = tt;
        whole =
            λ c k. subst (Has c) none_left (left c k);
      },
      none_left,
    )
