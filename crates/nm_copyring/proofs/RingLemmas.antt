-- What each kind of step does to the places of one pair.
use Rattle.std.proofs.Common.{◌≡◌, ◌≢◌, ℕ, ◌%◌, ◌<◌, Bool, true, false, Option, Some}
use Rattle.std.proofs.Common.{None, List, [], ◌∷◌, ◌++◌, length, map, set, sym, refl, ap, ◌∙◌, subst}
use Rattle.std.proofs.Common.{⊎_elim, arith, get_or-set_same, get_or-set_other}
use Rattle.std.proofs.lemmas.Nat.{mod_below}
use Rattle.std.proofs.lemmas.List.{length-map}
use Rattle.std.specs.Prelude.{slice_index}
use mathlib.Core.Option as maybe
use native.Mathlib.Decide.{ℕ_discrete}
use lib.ListN.{get_elem?}
use Rattle.atomic_table.proofs.Lists.{set_here, set_else}
use Rattle.nm_chain.specs.Window.{Any, Window}
use Rattle.nm_chain.proofs.WindowLemmas as windows
use Rattle.nm_chain.proofs.UpdateLemmas.{pick_yes}
use Rattle.nm_types.specs.declared.packets.Piece.{Piece}
use Rattle.nm_copyring.specs.declared.table.Work.TheVariants.{Idle, Filling, Emptying}
use Rattle.nm_copyring.specs.declared.table.Look.TheVariants.{Fresh, Free, Full}
use Rattle.nm_copyring.specs.declared.table.Lane.{Lane}
use Rattle.nm_copyring.specs.declared.table.Entry.{Entry}
use Rattle.nm_copyring.specs.Rule.{Load, lane, new_lane, is_filling, emptying, mark, place, AreOf, Ring}
use Rattle.nm_copyring.specs.Plays.{with_work, with_lane, one_pushed, one_pulled}
use Rattle.nm_copyring.proofs.ListLemmas.{joined, more, first_is, none_first, at_middle}

-- a rank that looks anew found nothing
pub fresh_free : (j : ℕ) → Fresh ≡ Free j → ⊥
fresh_free j is = cc

pub fresh_full : (j : ℕ) → Fresh ≡ Full j → ⊥
fresh_full j is = cc

pub marked : (y : Load) → 0 < mark y
marked y = omega arith

-- the part of a sender, and that of a receiver
abbrev pub SameOut : Entry → Entry → ℕ → Type 0
SameOut e f j = (is_filling f.work j ≡ is_filling e.work j)
    × ((lane f j).pushed ≡ (lane e j).pushed)

abbrev pub SameIn : Entry → Entry → ℕ → Type 0
SameIn e f i = (emptying f.work i ≡ emptying e.work i) × ((lane f i).pulled ≡ (lane e i).pulled)

abbrev Homes : Type 0
Homes = List (maybe.Option Load)

-- nothing of the pair changes
pub ring_along : (n : ℕ) (words words' : List ℕ) (homes homes' : Homes) (i j : ℕ)
    (e e' f f' : Entry)
    → ((k : ℕ) → k < 4 → slice_index words' (place n i j k) ≡ slice_index words (place n i j k))
    → ((k : ℕ) → k < 4 → get_elem? homes' (place n i j k) ≡ get_elem? homes (place n i j k))
    → SameOut e e' j → SameIn f f' i → Ring n words homes i j e f → Ring n words' homes' i j e' f'
ring_along n words words' homes homes' i j e e' f f' ew eh out into g = record {
  waits = g.waits;
  places = rw (out.0, out.1, into.0, into.1) (windows.window_elsewhere 4 None mark Any (omega arith)
      marked
      (λ k. slice_index words (place n i j k)) (λ k. get_elem? homes (place n i j k))
      (map Some (lane e j).pushed) (map Some (lane f i).pulled) (map Some g.waits)
      (is_filling e.work j) (emptying f.work i) g.places
      (λ k. slice_index words' (place n i j k)) (λ k. get_elem? homes' (place n i j k)) ew eh);
  numbered = subst (AreOf i) (sym out.1) g.numbered;
}

-- a list of which one changes
pub lane_here : (e : Entry) (j : ℕ) (f : Lane → Lane) → j < length e.lanes
    → lane (with_lane f j e) j ≡ f (lane e j)
lane_here e j f low = get_or-set_same e.lanes j (f (lane e j)) new_lane low

pub lane_else : (e : Entry) (j l : ℕ) (f : Lane → Lane) → l ≢ j
    → lane (with_lane f j e) l ≡ lane e l
lane_else e j l f ne = get_or-set_other e.lanes j l (f (lane e j)) new_lane ne

module _ (n : ℕ) (words : List ℕ) (homes : Homes) (i j : ℕ) where
  abbrev flags : List ℕ → ℕ → ℕ
  flags ws k = slice_index ws (place n i j k)

  abbrev slots : Homes → ℕ → maybe.Option (maybe.Option Load)
  slots hs k = get_elem? hs (place n i j k)

  -- the place of the k-th piece
  abbrev pub of_piece : ℕ → ℕ
  of_piece k = place n i j (k % 4)

  small : (k : ℕ) → k % 4 < 4
  small k = mod_below k 4 (omega arith)

  flag_here : (k x : ℕ) → of_piece k < length words → flags (set words (of_piece k) x) (k % 4) ≡ x
  flag_here k x low = get_or-set_same words (of_piece k) x 0 low

  flag_else : (k x t : ℕ) → t ≢ k % 4 → flags (set words (of_piece k) x) t ≡ flags words t
  flag_else k x t ne = get_or-set_other words (of_piece k) (place n i j t) x 0 (λ e. ne (omega arith))

  slot_here : (k : ℕ) (x : maybe.Option Load) → of_piece k < length homes
      → slots (set homes (of_piece k) x) (k % 4) ≡ maybe.some x
  slot_here k x low = set_here homes (of_piece k) x low

  slot_else : (k : ℕ) (x : maybe.Option Load) (t : ℕ) → t ≢ k % 4
      → slots (set homes (of_piece k) x) t ≡ slots homes t
  slot_else k x t ne = set_else homes (of_piece k) (place n i j t) x (λ e. ne (omega arith))

  -- the sender knows e, and the receiver d
  module _ (e d : Entry) (g : Ring n words homes i j e d) where
    abbrev p : List Piece
    p = (lane e j).pushed

    abbrev at : ℕ
    at = of_piece (length p)

    got : List Load
    got = map Some (lane d i).pulled

    along : {A : Type 0} (f : ℕ → A) → f (length (map Some p) % 4) ≡ f (length p % 4)
    along f = ap (λ k. f (k % 4)) (length-map p Some)

    -- another place than the next one
    other : (k : ℕ) → k ≢ length (map Some p) % 4 → k ≢ length p % 4
    other k ne e' = ne (e' ∙ sym (along (λ x. x)))

    abbrev Places : (ℕ → ℕ) → (ℕ → maybe.Option (maybe.Option Load)) → Bool → List Load → List Load
        → Type 0
    Places flag slot b put waits = Window 4 None mark Any flag slot b (emptying d.work i) put
        (map Some (lane d i).pulled) waits

    as_is : (b : Bool) → is_filling e.work j ≡ b → Places (flags words) (slots homes) b (map Some p)
        (map Some g.waits)
    as_is b is = subst (λ c. Places (flags words) (slots homes) c (map Some p) (map Some g.waits)) is
        g.places

    -- where the next place is free its slot is the sender's to take
    module _ (idle : is_filling e.work j ≡ false) (zeroed : slice_index words at ≡ 0) where
      room : length (map Some g.waits) < 4
      room = windows.room_where_free 4 None mark Any (omega arith) marked (flags words) (slots homes)
          (map Some p) (map Some (lane d i).pulled) (map Some g.waits) false (emptying d.work i)
          (as_is false idle) (along (flags words) ∙ zeroed)

      pub free_is_home : get_elem? homes at ≡ maybe.some (maybe.some None)
      free_is_home = sym (along (slots homes))
          ∙ windows.free_slot_is_home 4 None mark Any (omega arith) marked (flags words)
          (slots homes) (map Some p) (map Some (lane d i).pulled) (map Some g.waits)
          (emptying d.work i) (as_is false idle) room

      pub sender_opens : at < length homes
          → Ring n words (set homes at maybe.none) i j (with_work (Filling j) e) d
      sender_opens low = record {
        waits = g.waits;
        places = subst (λ b. Places (flags words) (slots (set homes at maybe.none)) b (map Some p)
            (map Some g.waits)) (sym (pick_yes true false refl (ℕ_discrete j j)))
            (windows.producer_opens 4 None mark Any (omega arith) marked (flags words) (slots homes)
            (map Some p) (map Some (lane d i).pulled) (map Some g.waits) (emptying d.work i)
            (as_is false idle) room (slots (set homes at maybe.none))
            (along (slots (set homes at maybe.none)) ∙ slot_here (length p) maybe.none low)
            (λ k lk ne. slot_else (length p) maybe.none k (other k ne)));
        numbered = g.numbered;
      }

    -- the sender gives the slot back with a piece, and the flag is 1
    pub sender_fills : is_filling e.work j ≡ true → j < length e.lanes → at < length words
        → at < length homes → (q : Piece) → q.from ≡ i → q.number ≡ length p
        → Ring n (set words at 1) (set homes at (maybe.some (Some q))) i j
        (with_lane (one_pushed q) j (with_work Idle e)) d
    sender_fills busy few low deep q from number = let f = with_lane (one_pushed q) j (with_work Idle e) in
        let is : (lane f j).pushed ≡ p ++ q ∷ [] =
        ap (λ (l : Lane). l.pushed) (lane_here (with_work Idle e) j (one_pushed q) few) in record {
          waits = g.waits ++ q ∷ [];
          places = rw (is, more p q, more g.waits q)
              (windows.producer_fills 4 None mark Any (omega arith) marked (flags words)
              (slots homes) (map Some p) (map Some (lane d i).pulled) (map Some g.waits)
              (emptying d.work i) (as_is true busy) (Some q) tt (flags (set words at 1))
              (slots (set homes at (maybe.some (Some q))))
              (along (flags (set words at 1)) ∙ flag_here (length p) 1 low)
              (along (slots (set homes at (maybe.some (Some q))))
              ∙ slot_here (length p) (maybe.some (Some q)) deep)
              (λ k lk ne. flag_else (length p) 1 k (other k ne))
              (λ k lk ne. slot_else (length p) (maybe.some (Some q)) k (other k ne)));
          numbered = subst (AreOf i) (sym is) (λ k x there. ⊎_elim (λ old. g.numbered k x old)
              (λ new. (
                ap (λ (y : Piece). y.from) (sym new.1) ∙ from,
                ap (λ (y : Piece). y.number) (sym new.1) ∙ number ∙ sym new.0,
              ))
              (windows.at_more p q k x there));
        }

  -- the sender knows d, and the receiver e
  module _ (d e : Entry) (g : Ring n words homes i j d e) where
    abbrev t : List Piece
    t = (lane e i).pulled

    abbrev from_at : ℕ
    from_at = of_piece (length t)

    beside : {A : Type 0} (f : ℕ → A) → f (length (map Some t) % 4) ≡ f (length t % 4)
    beside f = ap (λ k. f (k % 4)) (length-map t Some)

    another : (k : ℕ) → k ≢ length (map Some t) % 4 → k ≢ length t % 4
    another k ne e' = ne (e' ∙ sym (beside (λ x. x)))

    abbrev Taken : (ℕ → ℕ) → (ℕ → maybe.Option (maybe.Option Load)) → Option Load → List Load
        → List Load → Type 0
    Taken flag slot o got waits = Window 4 None mark Any flag slot (is_filling d.work j) o
        (map Some (lane d j).pushed) got waits

    held : (o : Option Load) → emptying e.work i ≡ o → Taken (flags words) (slots homes) o (map Some t)
        (map Some g.waits)
    held o is = subst (λ c. Taken (flags words) (slots homes) c (map Some t) (map Some g.waits)) is
        g.places

    -- what waits comes next
    next_is : (q : Piece) (qs : List Piece) → g.waits ≡ q ∷ qs → (q.from ≡ i)
        × (q.number ≡ length t)
    next_is q qs is = g.numbered (length t) q
        (ap (λ l. get_elem? l (length t)) (joined (lane d j).pushed t g.waits g.places.path
        ∙ ap (λ l. t ++ l) is) ∙ at_middle t qs q)

    -- where the flag of the next place isn't 0 its slot, with the next piece, is the receiver's to take
    pub receiver_opens : emptying e.work i ≡ None → 0 < slice_index words from_at
        → from_at < length homes → (q : Piece) × (q.from ≡ i) × (q.number ≡ length t)
        × (get_elem? homes from_at ≡ maybe.some (maybe.some (Some q)))
        × Ring n words (set homes from_at maybe.none) i j d (with_work (Emptying i q) e)
    receiver_opens idle full deep = by_waits g.waits refl where
      by_waits : (ws : List Piece) → g.waits ≡ ws → (q : Piece) × (q.from ≡ i)
          × (q.number ≡ length t)
          × (get_elem? homes from_at ≡ maybe.some (maybe.some (Some q)))
          × Ring n words (set homes from_at maybe.none) i j d (with_work (Emptying i q) e)
      by_waits [] is = let f = windows.first_where_marked 4 None mark Any (omega arith) marked
          (flags words) (slots homes) (map Some (lane d j).pushed) (map Some t) (map Some g.waits)
          (is_filling d.work j) None (held None idle)
          (subst (λ x. 0 < x) (sym (beside (flags words))) full) [] (ap (map Some) is) in
          absurd (none_first f.0 f.1 (sym (ap (map Some) is) ∙ f.2))
      by_waits (q ∷ qs) is = let n' = next_is q qs is in (
        q,
        n'.0,
        n'.1,
        sym (beside (slots homes)) ∙ windows.full_slot_is_home 4 None mark Any (omega arith) marked
            (flags words) (slots homes) (map Some (lane d j).pushed) (map Some t) (map Some g.waits)
            (is_filling d.work j) (held None idle) (Some q) (map Some qs) (ap (map Some) is),
        record {
          waits = g.waits;
          places = subst (λ o. Taken (flags words) (slots (set homes from_at maybe.none)) o
              (map Some t) (map Some g.waits))
              (sym (pick_yes (Some (Some q)) None refl (ℕ_discrete i i)))
              (windows.consumer_opens 4 None mark Any (omega arith) marked (flags words)
              (slots homes) (map Some (lane d j).pushed) (map Some t) (map Some g.waits)
              (is_filling d.work j) (held None idle) (Some q) (map Some qs) (ap (map Some) is)
              (slots (set homes from_at maybe.none))
              (beside (slots (set homes from_at maybe.none))
              ∙ slot_here (length t) maybe.none deep)
              (λ k lk ne. slot_else (length t) maybe.none k (another k ne)));
          numbered = g.numbered;
        },
      )

    -- the receiver gives the empty slot back, and the flag is 0
    pub receiver_empties : (q : Piece) → emptying e.work i ≡ Some (Some q) → i < length e.lanes
        → from_at < length words → from_at < length homes
        → Ring n (set words from_at 0) (set homes from_at (maybe.some None)) i j d
        (with_lane (one_pulled q) i (with_work Idle e))
    receiver_empties q busy few low deep = by_waits g.waits refl where
      first : (ys : List Load) × (map Some g.waits ≡ Some q ∷ ys)
      first = (held (Some (Some q)) busy).first (Some q) refl

      by_waits : (ws : List Piece) → g.waits ≡ ws
          → Ring n (set words from_at 0) (set homes from_at (maybe.some None)) i j d
          (with_lane (one_pulled q) i (with_work Idle e))
      by_waits [] is = absurd (none_first (Some q) first.0 (sym (ap (map Some) is) ∙ first.1))
      by_waits (x ∷ xs) is = let same : x ≡ q =
          first_is x q xs first.0 (sym (ap (map Some) is) ∙ first.1) in
          let f = with_lane (one_pulled q) i (with_work Idle e) in
          let pulled : (lane f i).pulled ≡ t ++ q ∷ [] =
          ap (λ (l : Lane). l.pulled) (lane_here (with_work Idle e) i (one_pulled q) few) in record {
            waits = xs;
            places = rw (pulled, more t q)
                (windows.consumer_empties 4 None mark Any (omega arith) marked (flags words)
                (slots homes) (map Some (lane d j).pushed) (map Some t) (map Some g.waits)
                (is_filling d.work j) (Some q) (map Some xs) (held (Some (Some q)) busy)
                (ap (map Some) is ∙ ap (λ (y : Piece). Some y ∷ map Some xs) same)
                (flags (set words from_at 0)) (slots (set homes from_at (maybe.some None)))
                (beside (flags (set words from_at 0)) ∙ flag_here (length t) 0 low)
                (beside (slots (set homes from_at (maybe.some None)))
                ∙ slot_here (length t) (maybe.some None) deep)
                (λ k lk ne. flag_else (length t) 0 k (another k ne))
                (λ k lk ne. slot_else (length t) (maybe.some None) k (another k ne)));
            numbered = g.numbered;
          }
