-- What each kind of step on a place does to its window.
use Rattle.std.proofs.Common.{◌≡◌, ◌≢◌, ℕ, zero, suc, ◌+◌, ◌*◌, ◌/◌, ◌%◌, ◌<◌, ◌⊎◌, Bool, true}
use Rattle.std.proofs.Common.{false, Option, Some, None, List, [], ◌∷◌, ◌++◌, length, sym}
use Rattle.std.proofs.Common.{refl, ap, ◌∙◌, inl, inr, subst, ⊎_elim, arith, suc-mul, div-add-mod'}
use Rattle.std.proofs.Common.{append_assoc, length-append}
use Rattle.std.proofs.lemmas.Nat as nat
use mathlib.Core.Option as maybe
use mathlib.Core.Logic.{dite}
use native.Mathlib.Decide.{dec_le}
use lib.ListN.{get_elem?}
use Rattle.atomic_table.proofs.Lists.{one_turn}
use Rattle.nm_chain.specs.Window.{Window, slot_full, slot_free}

-- one turn of the ring further
pub cycle : (B a : ℕ) → 0 < B → (a + B) % B ≡ a % B
cycle B a some = let q : ℕ = a / B in let r : ℕ = a % B in let is : q * B + r ≡ a =
    div-add-mod' a B in let more : suc q * B ≡ q * B + B = omega (arith, suc-mul q B) in
    ap (λ k. k % B) (let e : a + B ≡ suc q * B + r = omega arith in e) ∙ nat.mod-mul-add (suc q) B r
    (nat.mod_below a B some)

-- numbers that are less than a turn apart have other places
apart : (B a b : ℕ) → a < b → b < a + B → a % B ≢ b % B
apart B a b less near e = let same = one_turn a b B (omega arith) near e in absurd (omega arith)

module _ {L : Type 0} where
  low_at : (xs : List L) (t : ℕ) (y : L) → get_elem? xs t ≡ maybe.some y → t < length xs
  low_at [] t y e = absurd (maybe.some-ne-none y (sym e))
  low_at (x ∷ xs) zero y e = omega arith
  low_at (x ∷ xs) (suc t) y e = let l = low_at xs t y e in omega arith

  pub at_more : (xs : List L) (x : L) (t : ℕ) (y : L) → get_elem? (xs ++ x ∷ []) t ≡ maybe.some y
      → (get_elem? xs t ≡ maybe.some y) ⊎ ((t ≡ length xs) × (x ≡ y))
  at_more [] x zero y e = inr (refl, maybe.some-injective x y e)
  at_more [] x (suc t) y e = absurd (maybe.some-ne-none y (sym e))
  at_more (z ∷ zs) x zero y e = inl e
  at_more (z ∷ zs) x (suc t) y e = ⊎_elim (λ l. inl l) (λ r. inr (ap suc r.0, r.1))
      (at_more zs x t y e)

  first_at : (xs : List L) → 0 < length xs → (y : L) × (get_elem? xs 0 ≡ maybe.some y)
  first_at [] h = absurd (omega arith)
  first_at (x ∷ xs) h = (x, refl)

  -- the last full place is not the one that is being emptied, where a first one is
  not_first : (emptying : Option L) (waits : List L) (y : L)
      → ((z : L) → emptying ≡ Some z → (ys : List L) × (waits ≡ z ∷ ys))
      → slot_full emptying (length waits) y ≡ maybe.some (maybe.some y)
  not_first None waits y f = refl
  not_first (Some z) waits y f = let g = f z refl in
      subst (λ xs. slot_full (Some z) (length xs) y ≡ maybe.some (maybe.some y)) (sym g.1) refl

  still_free : (none : L) (b : Bool) (d : ℕ) → (b ≡ true → 0 < d)
      → slot_free none b d ≡ maybe.some (maybe.some none)
  still_free none false d f = refl
  still_free none true zero f = let l = f refl in absurd (omega arith)
  still_free none true (suc d) f = refl

  module _ (B : ℕ) (none : L) (mark : L → ℕ) (fits : L → Type 0) (some : 0 < B) (marked : (y : L)
      → 0 < mark y) (flag : ℕ → ℕ) (slot : ℕ → maybe.Option (maybe.Option L))
      (put got waits : List L) where
    abbrev Holds : Bool → Option L → Type 0
    Holds filling emptying = Window B none mark fits flag slot filling emptying put got waits

    in_ring : (k : ℕ) → k % B < B
    in_ring k = nat.mod_below k B some

    long : (filling : Bool) (emptying : Option L) → Holds filling emptying
        → length put ≡ length got + length waits
    long filling emptying h = ap length h.path ∙ length-append got waits

    -- a step elsewhere
    pub window_elsewhere : (filling : Bool) (emptying : Option L) → Holds filling emptying
        → (flag' : ℕ → ℕ) (slot' : ℕ → maybe.Option (maybe.Option L))
        → ((k : ℕ) → k < B → flag' k ≡ flag k) → ((k : ℕ) → k < B → slot' k ≡ slot k)
        → Window B none mark fits flag' slot' filling emptying put got waits
    window_elsewhere filling emptying h flag' slot' ef es = record {
      path = h.path;
      few = h.few;
      room = h.room;
      first = h.first;
      full = λ t y at. let f = h.full t y at in (
        f.0,
        ef ((length got + t) % B) (in_ring (length got + t)) ∙ f.1,
        es ((length got + t) % B) (in_ring (length got + t)) ∙ f.2,
      );
      free = λ d l. let f = h.free d l in (
        ef ((length put + d) % B) (in_ring (length put + d)) ∙ f.0,
        es ((length put + d) % B) (in_ring (length put + d)) ∙ f.1,
      );
    }

    -- where the flag of the place that comes next is 0, there is room
    pub room_where_free : (filling : Bool) (emptying : Option L) → Holds filling emptying
        → flag (length put % B) ≡ 0 → length waits < B
    room_where_free filling emptying h zeroed = dite (dec_le (suc (length waits)) B) (λ l. l)
        (λ far. let fw = h.few in let all : length waits ≡ B = omega arith in
        let y = first_at waits (omega arith) in let f = h.full 0 y.0 y.1 in
        let lg = long filling emptying h in
        let round : length put ≡ (length got + 0) + B = omega arith in
        let same_box : length put % B ≡ (length got + 0) % B = ap (λ k. k % B) round
        ∙ cycle B (length got + 0) some in
        let clash : mark y.0 ≡ 0 = sym f.1 ∙ ap flag (sym same_box) ∙ zeroed in
        absurd (omega arith))

    -- the slot of the place that the producer fills next is at home
    pub free_slot_is_home : (emptying : Option L) → Holds false emptying → length waits < B
        → slot (length put % B) ≡ maybe.some (maybe.some none)
    free_slot_is_home emptying h room =
        ap (λ k. slot (k % B)) (let e : length put ≡ length put + 0 = omega arith in e)
        ∙ (h.free 0 (omega arith)).1

    -- the producer takes the slot of the next free place
    pub producer_opens : (emptying : Option L) → Holds false emptying → length waits < B
        → (slot' : ℕ → maybe.Option (maybe.Option L))
        → slot' (length put % B) ≡ maybe.some maybe.none
        → ((k : ℕ) → k < B → k ≢ length put % B → slot' k ≡ slot k)
        → Window B none mark fits flag slot' true emptying put got waits
    producer_opens emptying h room slot' here else = let lg = long false emptying h in record {
      path = h.path;
      few = h.few;
      room = λ _. room;
      first = h.first;
      full = λ t y at. let f = h.full t y at in let l = low_at waits t y at in (
        f.0,
        f.1,
        else ((length got + t) % B) (in_ring (length got + t))
            (apart B (length got + t) (length put) (omega arith) (omega arith)) ∙ f.2,
      );
      free = λ d l. ((h.free d l).0, opened d l);
    } where
      opened : (d : ℕ) → length waits + d < B → slot' ((length put + d) % B) ≡ slot_free none true d
      opened zero l = ap (λ k. slot' (k % B)) (let e : length put + 0 ≡ length put = omega arith in
          e) ∙ here
      opened (suc d) l = else ((length put + suc d) % B) (in_ring (length put + suc d))
          (λ e. apart B (length put) (length put + suc d) (omega arith) (omega arith) (sym e))
          ∙ (h.free (suc d) l).1

    -- the producer stores the mark, and gives the slot back
    pub producer_fills : (emptying : Option L) → Holds true emptying → (y : L) → fits y
        → (flag' : ℕ → ℕ) (slot' : ℕ → maybe.Option (maybe.Option L))
        → flag' (length put % B) ≡ mark y → slot' (length put % B) ≡ maybe.some (maybe.some y)
        → ((k : ℕ) → k < B → k ≢ length put % B → flag' k ≡ flag k)
        → ((k : ℕ) → k < B → k ≢ length put % B → slot' k ≡ slot k)
        → Window B none mark fits flag' slot' false emptying (put ++ y ∷ []) got
        (waits ++ y ∷ [])
    producer_fills emptying h y fit flag' slot' here lies ef es = let lg = long true emptying h in
        let rm = h.room refl in let lp = length-append put (y ∷ []) in
        let lw = length-append waits (y ∷ []) in record {
          path = ap (λ u. u ++ y ∷ []) h.path ∙ append_assoc got waits (y ∷ []);
          few = omega arith;
          room = λ e. absurd (false_true e);
          first = λ z e. let f = h.first z e in (f.0 ++ y ∷ [], ap (λ u. u ++ y ∷ []) f.1);
          full = λ t x at. ⊎_elim
              (λ old. let f = h.full t x old in let l = low_at waits t x old in
              let ne = apart B (length got + t) (length put) (omega arith) (omega arith) in (
                f.0,
                ef ((length got + t) % B) (in_ring (length got + t)) ne ∙ f.1,
                es ((length got + t) % B) (in_ring (length got + t)) ne ∙ f.2,
              ))
              (λ new. let at_end : length got + t ≡ length put = (let n = new.0 in omega arith) in (
                subst fits new.1 fit,
                ap (λ k. flag' (k % B)) at_end ∙ here ∙ ap (λ u. mark u) new.1,
                ap (λ k. slot' (k % B)) at_end ∙ lies ∙ ap (λ u. maybe.some (maybe.some u)) new.1
                    ∙ sym (subst (λ k. slot_full emptying k x ≡ maybe.some (maybe.some x)) (sym new.0)
                    (not_first emptying waits x h.first)),
              ))
              (at_more waits y t x at);
          free = λ d l. let f = h.free (suc d) (omega arith) in
              let step : length (put ++ y ∷ []) + d ≡ length put + suc d = omega arith in
              let ne : (length put + suc d) % B ≢ length put % B =
              λ e. apart B (length put) (length put + suc d) (omega arith) (omega arith) (sym e) in (
                ap (λ k. flag' (k % B)) step ∙ ef ((length put + suc d) % B)
                    (in_ring (length put + suc d)) ne ∙ f.0,
                ap (λ k. slot' (k % B)) step
                    ∙ es ((length put + suc d) % B) (in_ring (length put + suc d)) ne ∙ f.1,
              );
        } where
          false_true : false ≡ true → ⊥
          false_true e = cc

    -- where the flag of the next place is not 0, it is the mark of the first item that waits
    pub first_where_marked : (filling : Bool) (emptying : Option L) → Holds filling emptying
        → 0 < flag (length got % B) → (xs : List L) → waits ≡ xs
        → (y : L) × (ys : List L) × (waits ≡ y ∷ ys) × (flag (length got % B) ≡ mark y) × fits y
    first_where_marked filling emptying h marked' [] is = let none_left : length waits ≡ 0 =
        ap length is in let lg = long filling emptying h in let f = h.free 0 (omega arith) in
        let clash : flag (length got % B) ≡ 0 =
        ap (λ k. flag (k % B)) (let e : length got ≡ length put + 0 = omega arith in e) ∙ f.0 in
        absurd (omega arith)
    first_where_marked filling emptying h marked' (y ∷ ys) is = let f =
        h.full 0 y (ap (λ l. get_elem? l 0) is) in (
          y,
          ys,
          is,
          ap (λ k. flag (k % B)) (let e : length got ≡ length got + 0 = omega arith in e)
              ∙ f.1,
          f.0,
        )

    -- the slot of the place that the consumer empties next is at home
    pub full_slot_is_home : (filling : Bool) → Holds filling None → (y : L) (ys : List L)
        → waits ≡ y ∷ ys → slot (length got % B) ≡ maybe.some (maybe.some y)
    full_slot_is_home filling h y ys is =
        ap (λ k. slot (k % B)) (let e : length got ≡ length got + 0 = omega arith in e)
        ∙ (h.full 0 y (ap (λ l. get_elem? l 0) is)).2

    -- its flag is its mark
    pub first_is_marked : (filling : Bool) (emptying : Option L) → Holds filling emptying
        → (y : L) (ys : List L) → waits ≡ y ∷ ys → flag (length got % B) ≡ mark y
    first_is_marked filling emptying h y ys is =
        ap (λ k. flag (k % B)) (let e : length got ≡ length got + 0 = omega arith in e)
        ∙ (h.full 0 y (ap (λ l. get_elem? l 0) is)).1

    -- the consumer takes the slot of the first full place
    pub consumer_opens : (filling : Bool) → Holds filling None → (y : L) (ys : List L)
        → waits ≡ y ∷ ys → (slot' : ℕ → maybe.Option (maybe.Option L))
        → slot' (length got % B) ≡ maybe.some maybe.none
        → ((k : ℕ) → k < B → k ≢ length got % B → slot' k ≡ slot k)
        → Window B none mark fits flag slot' filling (Some y) put got waits
    consumer_opens filling h y ys is slot' here else = let lg = long filling None h in
        let lw : length waits ≡ suc (length ys) = ap length is in record {
          path = h.path;
          few = h.few;
          room = h.room;
          first = λ z e. (ys, is ∙ ap (λ u. u ∷ ys) (some_is y z e));
          full = λ t x at. let f = h.full t x at in (f.0, f.1, begun t x at);
          free = λ d l. let f = h.free d l in (
            f.0,
            else ((length put + d) % B) (in_ring (length put + d))
                (λ e. apart B (length got) (length put + d) (omega arith) (omega arith) (sym e)) ∙ f.1,
          );
        } where
          some_is : (u v : L) → Some u ≡ Some v → u ≡ v
          some_is u v e = cc

          begun : (t : ℕ) (x : L) → get_elem? waits t ≡ maybe.some x
              → slot' ((length got + t) % B) ≡ slot_full (Some y) t x
          begun zero x at = ap (λ k. slot' (k % B)) (let e : length got + 0 ≡ length got =
              omega arith in e) ∙ here
          begun (suc t) x at = let l = low_at waits (suc t) x at in let fw = h.few in
              else ((length got + suc t) % B) (in_ring (length got + suc t))
              (λ e. apart B (length got) (length got + suc t) (omega arith) (omega arith) (sym e))
              ∙ (h.full (suc t) x at).2

    -- the consumer clears the flag, and gives the slot back
    pub consumer_empties : (filling : Bool) (y : L) (ys : List L) → Holds filling (Some y)
        → waits ≡ y ∷ ys → (flag' : ℕ → ℕ) (slot' : ℕ → maybe.Option (maybe.Option L))
        → flag' (length got % B) ≡ 0 → slot' (length got % B) ≡ maybe.some (maybe.some none)
        → ((k : ℕ) → k < B → k ≢ length got % B → flag' k ≡ flag k)
        → ((k : ℕ) → k < B → k ≢ length got % B → slot' k ≡ slot k)
        → Window B none mark fits flag' slot' filling None put (got ++ y ∷ []) ys
    consumer_empties filling y ys h is flag' slot' here lies ef es = let lg =
        long filling (Some y) h in let lw : length waits ≡ suc (length ys) = ap length is in
        let fw = h.few in let lo = length-append got (y ∷ []) in record {
          path = h.path ∙ ap (λ u. got ++ u) is ∙ sym (append_assoc got (y ∷ []) ys);
          few = omega arith;
          room = λ e. let r = h.room e in omega arith;
          first = λ z e. absurd (none_some z e);
          full = λ t x at. let at' : get_elem? waits (suc t) ≡ maybe.some x =
              ap (λ l. get_elem? l (suc t)) is ∙ at in let f = h.full (suc t) x at' in
              let l = low_at ys t x at in
              let step : length (got ++ y ∷ []) + t ≡ length got + suc t = omega arith in
              let ne : (length got + suc t) % B ≢ length got % B =
              λ e. apart B (length got) (length got + suc t) (omega arith) (omega arith) (sym e) in (
                f.0,
                ap (λ k. flag' (k % B)) step ∙ ef ((length got + suc t) % B)
                    (in_ring (length got + suc t)) ne ∙ f.1,
                ap (λ k. slot' (k % B)) step
                    ∙ es ((length got + suc t) % B) (in_ring (length got + suc t)) ne ∙ f.2,
              );
          free = λ d l. dite (dec_le (suc (length waits + d)) B)
              (λ inside. let f = h.free d inside in let ne : (length put + d) % B ≢ length got % B =
              λ e. apart B (length got) (length put + d) (omega arith) (omega arith) (sym e) in (
                ef ((length put + d) % B) (in_ring (length put + d)) ne ∙ f.0,
                es ((length put + d) % B) (in_ring (length put + d)) ne ∙ f.1,
              ))
              (λ edge. let round : length put + d ≡ length got + B = omega arith in
              let at_got : (length put + d) % B ≡ length got % B = ap (λ k. k % B) round
              ∙ cycle B (length got) some in (
                ap flag' at_got ∙ here,
                ap slot' at_got ∙ lies
                    ∙ sym (still_free none filling d (λ e. let r = h.room e in omega arith)),
              ));
        } where
          none_some : (z : L) → None ≡ Some z → ⊥
          none_some z e = cc
