-- A step changes the entry of its own rank, and a split or a join moves entries as they are.
use Rattle.std.proofs.Common.{◌≡◌, ◌≢◌, ℕ, zero, suc, ◌⊎◌, List, [], ◌∷◌, ◌++◌, length, set, sym}
use Rattle.std.proofs.Common.{refl, ap, ◌∙◌, inl, inr, subst, ⊎_elim, length-set}
use mathlib.Core.Option.{some, some-injective, some-ne-none}
use native.Mathlib.Decide.{ℕ_discrete}
use lib.ListN.{get_elem?}
use Rattle.atomic_table.proofs.Lists.{at_set}
use Rattle.nm_chain.specs.declared.seats.views.View.{View}
use Rattle.nm_chain.specs.Update.{pick, update}
use Rattle.nm_chain.proofs.UpdateLemmas.{pick_yes, pick_no, update_here, update_else}
use Rattle.nm_chain.specs.Spoken.{view, Each, Apart, IsOf, Spoken}

at_end : {A : Type 0} (l : List A) (a b : A) (j : ℕ) → get_elem? (l ++ a ∷ []) j ≡ some b
    → (get_elem? l j ≡ some b) ⊎ ((j ≡ length l) × (a ≡ b))
at_end [] a b zero e = inr (refl, some-injective a b e)
at_end [] a b (suc j) e = absurd (some-ne-none b (sym e))
at_end (x ∷ xs) a b zero e = inl e
at_end (x ∷ xs) a b (suc j) e = ⊎_elim (λ t. inl t) (λ t. inr (ap suc t.0, t.1)) (at_end xs a b j e)

module _ {E : Type 0} where
  pub each_along : (P Q : E → Type 0) → ((e : E) → P e → Q e) → (es : List E) → Each P es
      → Each Q es
  each_along P Q f [] h = tt
  each_along P Q f (e ∷ es) h = (f e h.0, each_along P Q f es h.1)

  pub each_both : (P Q R : E → Type 0) → ((e : E) → P e → Q e → R e) → (es : List E) → Each P es
      → Each Q es → Each R es
  each_both P Q R f [] h k = tt
  each_both P Q R f (e ∷ es) h k = (f e h.0 k.0, each_both P Q R f es h.1 k.1)

  pub each_append : (P : E → Type 0) (es fs : List E) → Each P es → Each P fs → Each P (es ++ fs)
  each_append P [] fs h k = k
  each_append P (e ∷ es) fs h k = (h.0, each_append P es fs h.1 k)

  module _ (rank : E → ℕ) where
    abbrev Known : (ℕ → E) → List (View E) → Type 0
    Known ledger views = Spoken rank ledger views

    -- a seat that speaks for one rank changes that rank's entry
    pub spoken_steps : (ledger : ℕ → E) (views : List (View E)) (s : Spoken rank ledger views)
        (id : ℕ) (e f : E) → get_elem? views id ≡ some (view (e ∷ [])) → rank f ≡ rank e
        → Spoken rank (update ledger (rank e) f) (set views id (view (f ∷ [])))
    spoken_steps ledger views s id e f at same = let mine = (s.each id (view (e ∷ [])) at).0.0 in
        record {
          seat_of = s.seat_of;
          each = λ j v there. ⊎_elim
              (λ t. subst (λ w. Each (IsOf rank (update ledger (rank e) f) s.seat_of j) w.entries
              × Apart rank w.entries) t.1 (
                (
                  (ap s.seat_of same ∙ mine.0 ∙ sym t.0, update_here ledger (rank e) f (rank f) same),
                  tt,
                ),
                (tt, tt),
              ))
              (λ t. let h = s.each j v t.1 in (
                each_along (IsOf rank ledger s.seat_of j)
                    (IsOf rank (update ledger (rank e) f) s.seat_of j)
                    (λ g k. (
                      k.0,
                      update_else ledger (rank e) f (rank g)
                          (λ x. t.0 (sym k.0 ∙ ap s.seat_of x ∙ mine.0)) ∙ k.1,
                    )) v.entries h.0,
                h.1,
              ))
              (at_set views id j (view (f ∷ [])) v there);
        }

    -- what the ledger has for a seat's rank
    pub spoken_of : (ledger : ℕ → E) (views : List (View E)) (s : Spoken rank ledger views) (id : ℕ)
        (e : E) (es : List E) → get_elem? views id ≡ some (view (e ∷ es)) → ledger (rank e) ≡ e
    spoken_of ledger views s id e es at = (s.each id (view (e ∷ es)) at).0.0.1

    alone : (ledger : ℕ → E) (es : List E) → Each (λ e. ledger (rank e) ≡ e) es → Apart rank es
        → (j : ℕ) (v : View E) → get_elem? (view es ∷ []) j ≡ some v
        → Each (IsOf rank ledger (λ _. 0) j) v.entries × Apart rank v.entries
    alone ledger es known apart zero v at =
        subst (λ (w : View E). Each (IsOf rank ledger (λ _. 0) 0) w.entries × Apart rank w.entries)
        (some-injective (view es) v at) (
          each_along (λ e. ledger (rank e) ≡ e) (IsOf rank ledger (λ _. 0) 0)
              (λ e k. (refl, k)) es known,
          apart,
        )
    alone ledger es known apart (suc j) v at = absurd (some-ne-none v (sym at))

    pub spoken_first : (ledger : ℕ → E) (es : List E) → Each (λ e. ledger (rank e) ≡ e) es
        → Apart rank es → Spoken rank ledger (view es ∷ [])
    spoken_first ledger es known apart =
        record { seat_of = λ _. 0; each = alone ledger es known apart }

    apart_append : (es fs : List E) → Apart rank es → Apart rank fs
        → Each (λ f. Each (λ e. rank f ≢ rank e) es) fs → Apart rank (es ++ fs)
    apart_append [] fs a b c = b
    apart_append (e ∷ es) fs a b c = (
      each_append (λ f. rank f ≢ rank e) es fs a.0
          (each_along (λ f. Each (λ x. rank f ≢ rank x) (e ∷ es)) (λ f. rank f ≢ rank e)
          (λ f h. h.0) fs c),
      apart_append es fs a.1 b (each_along (λ f. Each (λ x. rank f ≢ rank x) (e ∷ es))
          (λ f. Each (λ x. rank f ≢ rank x) es) (λ f h. h.1) fs c),
    )

    -- the entries of the seat `other` go before those of the seat `id`
    pub spoken_joins : (ledger : ℕ → E) (views : List (View E)) (s : Spoken rank ledger views)
        (id other : ℕ) (v w : View E) → get_elem? views id ≡ some v → ¬ (other ≡ id)
        → get_elem? views other ≡ some w
        → Spoken rank ledger (set (set views id (view (w.entries ++ v.entries))) other
        (view []))
    spoken_joins ledger views s id other v w at ne there = let hv = s.each id v at in
        let hw = s.each other w there in
        let moved : ℕ → ℕ = λ r. pick (ℕ_discrete (s.seat_of r) other) id (s.seat_of r) in
        let went : (e : E) → IsOf rank ledger s.seat_of other e → IsOf rank ledger moved id e =
        λ e k. (
          pick_yes id (s.seat_of (rank e)) k.0 (ℕ_discrete (s.seat_of (rank e)) other),
          k.1,
        ) in
        let stayed : (j : ℕ) → j ≢ other → (e : E) → IsOf rank ledger s.seat_of j e
        → IsOf rank ledger moved j e =
        λ j n e k. (
          pick_no id (s.seat_of (rank e)) (λ x. n (sym k.0 ∙ x))
              (ℕ_discrete (s.seat_of (rank e)) other) ∙ k.0,
          k.1,
        ) in
        record {
          seat_of = moved;
          each = λ j u here. ⊎_elim
              (λ t. subst (λ (z : View E). Each (IsOf rank ledger moved j) z.entries
              × Apart rank z.entries) t.1 (tt, tt))
              (λ t. ⊎_elim
              (λ y. subst (λ (z : View E). Each (IsOf rank ledger moved j) z.entries
              × Apart rank z.entries) y.1 (
                subst (λ (i : ℕ). Each (IsOf rank ledger moved i) (w.entries ++ v.entries))
                    (sym y.0) (each_append (IsOf rank ledger moved id) w.entries v.entries
                    (each_along (IsOf rank ledger s.seat_of other)
                    (IsOf rank ledger moved id) went w.entries hw.0)
                    (each_along (IsOf rank ledger s.seat_of id) (IsOf rank ledger moved id)
                    (stayed id (λ x. ne (sym x))) v.entries hv.0)),
                apart_append w.entries v.entries hw.1 hv.1
                    (each_along (IsOf rank ledger s.seat_of id)
                    (λ f. Each (λ e. rank f ≢ rank e) w.entries)
                    (λ f kf. each_along (IsOf rank ledger s.seat_of other) (λ e. rank f ≢ rank e)
                    (λ e ke x. ne (sym ke.0 ∙ ap s.seat_of (sym x) ∙ kf.0)) w.entries hw.0)
                    v.entries hv.0),
              ))
              (λ y. let h = s.each j u y.1 in (
                each_along (IsOf rank ledger s.seat_of j) (IsOf rank ledger moved j)
                    (stayed j t.0) u.entries h.0,
                h.1,
              ))
              (at_set views id j (view (w.entries ++ v.entries)) u t.1))
              (at_set (set views id (view (w.entries ++ v.entries))) other j (view []) u here);
        }

    -- the first entry goes to a new seat
    pub spoken_splits : (ledger : ℕ → E) (views : List (View E)) (s : Spoken rank ledger views)
        (id : ℕ) (e : E) (es : List E) → get_elem? views id ≡ some (view (e ∷ es))
        → Spoken rank ledger (set views id (view es) ++ view (e ∷ []) ∷ [])
    spoken_splits ledger views s id e es at = let h = s.each id (view (e ∷ es)) at in
        let n : ℕ = length views in
        let moved : ℕ → ℕ = update s.seat_of (rank e) n in
        let stayed : (j : ℕ) (f : E) → rank f ≢ rank e → IsOf rank ledger s.seat_of j f
        → IsOf rank ledger moved j f =
        λ j f ne k. (update_else s.seat_of (rank e) n (rank f) ne ∙ k.0, k.1) in
        record {
          seat_of = moved;
          each = λ j u here. ⊎_elim
              (λ x. ⊎_elim
              (λ y. subst (λ (z : View E). Each (IsOf rank ledger moved j) z.entries
              × Apart rank z.entries) y.1 (
                each_both (IsOf rank ledger s.seat_of id) (λ f. rank f ≢ rank e)
                    (IsOf rank ledger moved j) (λ f k ne. stayed j f ne (k.0 ∙ sym y.0, k.1)) es h.0.1
                    h.1.0,
                h.1.1,
              ))
              (λ y. let k = s.each j u y.1 in (
                each_along (IsOf rank ledger s.seat_of j) (IsOf rank ledger moved j)
                    (λ f kf. stayed j f (λ z. y.0 (sym kf.0 ∙ ap s.seat_of z ∙ h.0.0.0)) kf) u.entries
                    k.0,
                k.1,
              ))
              (at_set views id j (view es) u x))
              (λ x. subst (λ (z : View E). Each (IsOf rank ledger moved j) z.entries
              × Apart rank z.entries) x.1 (
                (
                  (
                    update_here s.seat_of (rank e) n (rank e) refl
                        ∙ sym (x.0 ∙ length-set views id (view es)),
                    h.0.0.1,
                  ),
                  tt,
                ),
                (tt, tt),
              ))
              (at_end (set views id (view es)) (view (e ∷ [])) u j here);
        }

    -- a new seat has no entry
    pub spoken_seals : (ledger : ℕ → E) (views : List (View E)) (s : Spoken rank ledger views)
        (id : ℕ) (v w : View E) → get_elem? views id ≡ some v → w.entries ≡ []
        → Spoken rank ledger (set views id v ++ w ∷ [])
    spoken_seals ledger views s id v w at none = record {
      seat_of = s.seat_of;
      each = λ j u here. ⊎_elim
          (λ x. ⊎_elim
          (λ y. subst (λ (z : View E). Each (IsOf rank ledger s.seat_of j) z.entries
          × Apart rank z.entries) y.1
          (subst (λ i. Each (IsOf rank ledger s.seat_of i) v.entries × Apart rank v.entries)
          (sym y.0) (s.each id v at)))
          (λ y. s.each j u y.1)
          (at_set views id j v u x))
          (λ x. subst (λ (z : View E). Each (IsOf rank ledger s.seat_of j) z.entries
          × Apart rank z.entries) x.1
          (subst (λ es. Each (IsOf rank ledger s.seat_of j) es × Apart rank es) (sym none)
          (tt, tt)))
          (at_end (set views id v) w u j here);
    }
