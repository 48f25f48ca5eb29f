-- What a poll changes, step by step.
use Rattle.std.proofs.Common.{◌≡◌, ℕ, zero, suc, ◌+◌, ◌<◌, ◌≤◌, ◌⊎◌, Some, None}
use Rattle.std.proofs.Common.{is_some, List, [], ◌∷◌, ◌++◌, length, map}
use Rattle.std.proofs.Common.{sym, refl, ap, ◌∙◌, inl, inr, subst, arith, set, append-nil, ⊎_elim}
use Rattle.std.proofs.Math.Logic.{∥∥₁_elim}
use Rattle.std.proofs.Props.{props}
use Rattle.std.specs.Prelude.{slice_index}
use mathlib.Core.Logic.{dite}
use native.Mathlib.Decide.{ℕ_discrete, dec_le}
use Rattle.nm_chain.specs.declared.table.parcels.Parcel.{Parcel}
use Rattle.nm_chain.specs.Update.{update}
use Rattle.nm_chain.specs.declared.table.table.Entry.{Entry}
use Rattle.nm_chain.specs.declared.table.table.Heads.{Heads}
use Rattle.nm_chain.specs.Plays.{with_got, with_heads, with_look}
use Rattle.nm_chain.specs.declared.table.table.Look.TheVariants.{Fresh}
use Rattle.nm_cells.specs.declared.port.Port.{Port}
use Rattle.nm_cells.specs.declared.port.Fabric.{Fabric}
use Rattle.nm_chain.specs.Rule.{Load, from, emptying_of, if_below}
use Rattle.nm_chain.specs.Plays.{mine, raised, with_box_miss, with_emptying, with_got_box, Overtaken}
use Rattle.nm_chain.specs.OwnQueues.{receive_queue}
use Rattle.nm_cells.specs.Counted.{IsOneOf, peer_in, all_unpassed}
use Rattle.nm_cells.specs.Carried.{held_in}
use Rattle.nm_cells.specs.Ports.{Owns, knows, holding, taken_by, unpassed_by, IsUnpassed, opens}
use Rattle.nm_cells.proofs.BoxCallLemmas.{brought_owns}
use Rattle.nm_cells.proofs.NumberLemmas.{one_of_last, from_here}
use Rattle.nm_port.proofs.SendLemmas.{box_hands}
use Rattle.nm_fastbox.specs.Boxes.{KeepsCells}
use Rattle.nm_port.specs.Keeps.{KeepsPort}
use Rattle.nm_port.specs.Polls.{count_held, HoldsTheRest, Polls}
use Rattle.nm_port.specs.Polls.{first_raised, polled, with_all_missed, with_first_missed, Missed}
use Rattle.nm_port.specs.Sends.{HadMiss}
use Rattle.nm_port.specs.Polls.{NotOvertaken, EmptiesNone, IsNext, Came, Way, was_held, by_box}
use Rattle.nm_port.specs.Polls.{by_cell, before, IsGot}

-- one more of the ranks' boxes was found without the awaited number
raised_next : (k : ℕ) (xs : List ℕ) → k < length xs
    → set (first_raised k xs) k (raised (slice_index (first_raised k xs) k))
    ≡ first_raised (suc k) xs
raised_next k [] low = absurd (omega arith)
raised_next zero (x ∷ xs) low = refl
raised_next (suc k) (x ∷ xs) low = ap (λ l. raised x ∷ l) (raised_next k xs (omega arith))

all_raised : (k : ℕ) (xs : List ℕ) → k ≡ length xs → first_raised k xs ≡ map raised xs
all_raised zero [] e = refl
all_raised (suc k) [] e = refl
all_raised zero (x ∷ xs) e = absurd (omega arith)
all_raised (suc k) (x ∷ xs) e = ap (λ l. raised x ∷ l) (all_raised k xs (omega arith))

module _ {A : Type 0} where
  pub misses_long : (p : Port A) → length (knows p).box_miss ≡ (knows p).ranks
  misses_long p = ∥∥₁_elim p.counts (search props) (λ n. n.misses)

  pub missed_next : (k : ℕ) (old now new : Port A) → Missed k old now → k < (knows old).ranks
      → knows new ≡ with_box_miss k (knows now) → new.rank ≡ now.rank → new.held ≡ now.held
      → unpassed_by new ≡ unpassed_by now → holding new ≡ holding now → taken_by new ≡ taken_by now
      → new.hands ≡ now.hands → new.loose ≡ now.loose → NotOvertaken now k → Missed (suc k) old new
  missed_next k old now new m low is rank held unpassed holds taken hands loose not =
      let xs = (knows old).box_miss in let long = misses_long old in record {
        rank = rank ∙ m.rank;
        held = held ∙ m.held;
        unpassed = unpassed ∙ m.unpassed;
        holds = holds ∙ m.holds;
        seen = is ∙ (λ i. with_box_miss k (m.seen i))
            ∙ (λ i. record (knows old) { box_miss = raised_next k xs (omega arith) i });
        taken = taken ∙ m.taken;
        hands = hands ∙ m.hands;
        loose = loose ∙ m.loose;
        not = λ i less o. by_last i o less;
      } where
        here : ¬ Overtaken (knows old) k (taken_by old k)
        here o = not (subst (λ e. Overtaken e k (taken_by now k)) (sym m.seen)
            (subst (λ (t : ℕ → ℕ). Overtaken (knows old) k (t k)) (sym m.taken) o))

        by_last : (i : ℕ) → Overtaken (knows old) i (taken_by old i) → i < suc k → ⊥
        by_last i o less = dite (ℕ_discrete i k)
            (λ e. here (subst (λ j. Overtaken (knows old) j (taken_by old j)) e o))
            (λ ne. m.not i (omega arith) o)

  pub all_missed : (k : ℕ) (old now : Port A) → k ≡ (knows old).ranks → Missed k old now
      → knows now ≡ with_all_missed (knows old)
  all_missed k old now all m = let long = misses_long old in
      m.seen ∙ (λ i. record (knows old) {
        box_miss = all_raised k (knows old).box_miss (omega arith) i;
      })

  -- the parcel is the next one of its sender still, where no other was passed on
  pub still_next : (f : Fabric A) (old now new : Port A) (p : Parcel A) → taken_by now ≡ taken_by old
      → IsNext f now new p → IsNext f old new p
  still_next f old now new p same n = record {
    sender = n.sender;
    number = n.number ∙ ap (λ t. t p.from) same;
    taken = n.taken ∙ (λ i. update (same i) p.from (same i p.from + 1));
  }

  pub next_by : (f : Fabric A) (now new : Port A) (p : Parcel A) (s : ℕ) → s < f.ranks → p.from ≡ s
      → p.seq ≡ taken_by now s → taken_by new ≡ update (taken_by now) s (taken_by now s + 1)
      → IsNext f now new p
  next_by f now new p s low is number taken = record {
    sender = subst (λ k. k < f.ranks) (sym is) low;
    number = number ∙ ap (taken_by now) (sym is);
    taken = taken ∙ (λ i. update (taken_by now) (sym is i) (taken_by now (sym is i) + 1));
  }

  -- a poll changes these things alone
  pub polled_by : (e new then : Entry A) → new ≡ then → then ≡ polled then e → new ≡ polled new e
  polled_by e new then is same = is ∙ same ∙ (λ i. polled (sym is i) e)

  pub polled_on : (a b c : Entry A) → b ≡ polled b a → c ≡ polled c b → c ≡ polled c a
  polled_on a b c first second = second ∙ (λ i. polled c (first i))

-- once the box of the rank s is emptied
module _ {A : Type 0} (now new : Port A) (p : Parcel A) (s : ℕ)
    (is : knows new ≡ with_got_box (Some p ∷ []) (with_emptying s None (knows now))) where
  pub box_came : Came now new (Some p ∷ []) []
  box_came = (
    ap (λ (e : Entry A). e.got_box) is,
    ap (λ (e : Entry A). e.got) is ∙ sym (append-nil (knows now).got),
  )

  pub box_polled : knows new ≡ polled (knows new) (knows now)
  box_polled = polled_by (knows now) (knows new) _ is refl

  pub box_got : IsGot new p
  box_got = inl (subst (λ (e : Entry A). IsOneOf (Some p) (from p.from e.got_box)) (sym is)
      (subst (λ l. IsOneOf (Some p) l) (sym (from_here p.from (Some p) (knows now).got_box refl))
      (one_of_last (Some p) (from p.from (knows now).got_box))))

module _ {A : Type 0} where
  -- what is in hand once it is emptied
  pub emptied_hands : (now new : Port A) (s : ℕ)
      → new.hands + 1 ≡ now.hands + opens (is_some (emptying_of (knows now) s))
      → (new.hands ≤ now.hands) × (EmptiesNone now → new.hands ≡ now.hands)
  emptied_hands now new s is =
      let h = box_hands now.hands new.hands (is_some (emptying_of (knows now) s)) is in
      (h.0, λ none. h.1 (ap is_some (none s)))

-- What came since an earlier moment at which the same was held and got
module _ {A : Type 0} (old now new : Port A) (got_box : (knows now).got_box ≡ (knows old).got_box)
    (got : (knows now).got ≡ (knows old).got) where
  pub came_since : (xs ys : List (Load A)) → Came now new xs ys → Came old new xs ys
  came_since xs ys c = (c.0 ∙ ap (λ l. l ++ xs) got_box, c.1 ∙ ap (λ l. l ++ ys) got)

  pub way_since : (p : Parcel A) → now.held ≡ old.held → Way now new p → Way old new p
  way_since p held (was_held a b c) = was_held (sym held ∙ a) b (came_since [] [] c)
  way_since p held (by_box a c) = by_box (a ∙ held) (came_since (Some p ∷ []) [] c)
  way_since p held (by_cell a b c) = by_cell (sym held ∙ a) b (came_since [] (Some p ∷ []) c)
  way_since p held (before x e a b c) =
      before x e (sym held ∙ a) b (came_since (Some p ∷ []) (Some x ∷ []) c)

module _ {A : Type 0} where
  -- it came by cell and wasn't passed on still
  pub still_unpassed : (p q : Port A) (x : Parcel A) → (knows q).ranks ≡ (knows p).ranks
      → (knows q).got ≡ (knows p).got → taken_by q ≡ taken_by p → IsUnpassed p x → IsUnpassed q x
  still_unpassed p q x ranks got taken u = (
    subst (λ n. x.from < n) (sym ranks) u.0,
    subst (λ l. IsOneOf (Some x) (from x.from l)) (sym got) u.1,
    subst (λ (t : ℕ → ℕ). t x.from ≤ x.seq) (sym taken) u.2,
  )

-- a port whose seat is the same, and its counts
module _ {A : Type 0} (p q : Port A) (seat : q.seat ≡ p.seat) where
  pub seat_knows : knows q ≡ knows p
  seat_knows = ap (λ s. mine s.me) seat

  pub seat_holding : holding q ≡ holding p
  seat_holding = ap (λ s. held_in (length (mine s.me).hands) s.me.1) seat

  pub seat_owns : (f : Fabric A) → q.rank ≡ p.rank → Owns f p → Owns f q
  seat_owns f rank o = brought_owns f p q (ap (λ s. s.table_id) seat) (ap (λ s. s.me.0) seat) rank o

  module _ (peers : q.peers ≡ p.peers) where
    pub peers_taken : taken_by q ≡ taken_by p
    peers_taken = ap (λ l j. (peer_in l.items j).taken) peers

    pub peers_unpassed : unpassed_by q ≡ unpassed_by p
    peers_unpassed = ap (λ l. all_unpassed l.items) peers

    pub unpassed_there : (x : Parcel A) → IsUnpassed p x → IsUnpassed q x
    unpassed_there x u = still_unpassed p q x (ap (λ (e : Entry A). e.ranks) seat_knows)
        (ap (λ (e : Entry A). e.got) seat_knows) peers_taken u

module _ {A : Type 0} where
  -- a parcel that came by cell is passed on
  pub passed_next : (f : Fabric A) (p q : Port A) (x : Parcel A) → IsUnpassed p x
      → x.seq ≡ taken_by p x.from
      → taken_by q ≡ update (taken_by p) x.from (taken_by p x.from + 1) → (knows p).ranks ≡ f.ranks
      → IsNext f p q x
  passed_next f p q x un next taken ranks = record {
    sender = subst (λ n. x.from < n) ranks un.0;
    number = next;
    taken = taken;
  }

  nothing_is_some : (x : Parcel A) → None ≡ Some x → ⊥
  nothing_is_some x e = cc

  pub one_packet : (x y : Parcel A) → Some x ≡ Some y → x ≡ y
  one_packet x y e = cc

  -- nothing more is held
  pub rest_none : (q : Port A) → unpassed_by q ≡ 0 → q.held ≡ None → HoldsTheRest q
  rest_none q left none = left ∙ sym (ap count_held none)

  pub rest_one : (q : Port A) (x : Parcel A) → unpassed_by q ≡ 1 → q.held ≡ Some x → HoldsTheRest q
  rest_one q x left one = left ∙ sym (ap count_held one)

  -- a parcel that came last, by box or by cell
  pub last_by_box : (new : Port A) (x : Parcel A) (xs : List (Load A))
      → (knows new).got_box ≡ xs ++ Some x ∷ [] → IsGot new x
  last_by_box new x xs is = inl (subst (λ l. IsOneOf (Some x) (from x.from l)) (sym is)
      (subst (IsOneOf (Some x)) (sym (from_here x.from (Some x) xs refl))
      (one_of_last (Some x) (from x.from xs))))

  pub last_by_cell : (new : Port A) (x : Parcel A) (xs : List (Load A))
      → (knows new).got ≡ xs ++ Some x ∷ [] → IsGot new x
  last_by_cell new x xs is = inr (subst (λ l. IsOneOf (Some x) (from x.from l)) (sym is)
      (subst (IsOneOf (Some x)) (sym (from_here x.from (Some x) xs refl))
      (one_of_last (Some x) (from x.from xs))))

-- A parcel x came by cell, and then y is passed on: the same, or the next one of its sender by box
module _ {A : Type 0} (old now new : Port A) (x y : Parcel A) (end : Heads) (none : old.held ≡ None)
    (came : knows now ≡ with_got (Some x ∷ [])
    (with_look receive_queue Fresh (with_heads receive_queue end (knows old)))) where
  abbrev InTurn : Type 0
  InTurn = (y ≡ x) × (new.held ≡ None) × (knows new ≡ knows now)

  abbrev OutOfTurn : Type 0
  OutOfTurn = (y.from ≡ x.from) × (new.held ≡ Some x)
      × (knows new ≡ with_got_box (Some y ∷ []) (with_emptying y.from None (knows now)))

  in_turn_way : InTurn → Way old new y
  in_turn_way a = let is = a.2 ∙ came in by_cell none a.1 (
    ap (λ (e : Entry A). e.got_box) is ∙ sym (append-nil (knows old).got_box),
    ap (λ (e : Entry A). e.got) is ∙ (λ i. (knows old).got ++ Some (sym a.0 i) ∷ []),
  )

  out_of_turn_way : OutOfTurn → Way old new y
  out_of_turn_way b = before x (sym b.0) none b.1 (
    ap (λ (e : Entry A). e.got_box) b.2
        ∙ ap (λ (e : Entry A). e.got_box ++ Some y ∷ []) came,
    ap (λ (e : Entry A). e.got) b.2 ∙ ap (λ (e : Entry A). e.got) came,
  )

  pub way_of : InTurn ⊎ OutOfTurn → Way old new y
  way_of w = ⊎_elim in_turn_way out_of_turn_way w

  pub polled_of : InTurn ⊎ OutOfTurn → knows new ≡ polled (knows new) (knows old)
  polled_of w = let first = polled_by (knows old) (knows now) _ came refl in ⊎_elim
      (λ a. polled_by (knows old) (knows new) _ (a.2 ∙ came) refl)
      (λ b. polled_on (knows old) (knows now) (knows new) first
      (polled_by (knows now) (knows new) _ b.2 refl)) w

  pub got_of : InTurn ⊎ OutOfTurn → IsGot new y
  got_of w = ⊎_elim
      (λ a. subst (λ z. IsGot new z) (sym a.0)
      (last_by_cell new x (knows old).got (ap (λ (e : Entry A). e.got) (a.2 ∙ came))))
      (λ b. last_by_box new y (knows now).got_box (ap (λ (e : Entry A). e.got_box) b.2)) w

-- no count of misses falls
raised_up : (k : ℕ) → k ≤ raised k
raised_up k = by (dec_le (suc k) 18446744073709551615) where
  by : (d : Dec (suc k ≤ 18446744073709551615)) → k ≤ if_below d (suc k) k
  by (yes h) = omega arith
  by (no h) = omega arith

first_later : (k : ℕ) (xs : List ℕ) (i : ℕ) → slice_index xs i ≤ slice_index (first_raised k xs) i
first_later zero xs i = omega arith
first_later (suc k) [] i = omega arith
first_later (suc k) (x ∷ xs) zero = raised_up x
first_later (suc k) (x ∷ xs) (suc i) = first_later k xs i

pub map_later : (xs : List ℕ) (i : ℕ) → slice_index xs i ≤ slice_index (map raised xs) i
map_later [] i = omega arith
map_later (x ∷ xs) zero = raised_up x
map_later (x ∷ xs) (suc i) = map_later xs i

module _ {A : Type 0} where
  pub missed_later : (k i : ℕ) (e e' e'' : Entry A) → e' ≡ with_first_missed k e
      → e''.box_miss ≡ e'.box_miss → slice_index e.box_miss i ≤ slice_index e''.box_miss i
  missed_later k i e e' e'' seen same =
      subst (λ (xs : List ℕ). slice_index e.box_miss i ≤ slice_index xs i)
      (sym (same ∙ ap (λ (x : Entry A). x.box_miss) seen)) (first_later k e.box_miss i)

  -- a miss of the receive queue is none of a box
  pub queue_misses : (e e' : Entry A) → HadMiss receive_queue e e' → e'.box_miss ≡ e.box_miss
  queue_misses e e' = ⊎_elim (λ h. ap (λ (x : Entry A). x.box_miss) h) (λ h. ap (λ (x : Entry A). x.box_miss) h.1)

  -- nor is what came by the receive queue, or behind it by a box
  pub way_misses : (p x : Parcel A) (now new : Port A)
      → ((p ≡ x) × (new.held ≡ None) × (knows new ≡ knows now))
      ⊎ ((p.from ≡ x.from) × (new.held ≡ Some x)
      × (knows new ≡ with_got_box (Some p ∷ []) (with_emptying p.from None (knows now))))
      → (knows new).box_miss ≡ (knows now).box_miss
  way_misses p x now new way = ⊎_elim (λ h. ap (λ (e : Entry A). e.box_miss) h.2)
      (λ h. ap (λ (e : Entry A). e.box_miss) h.2) way

module _ {A : Type 0} where
  -- a poll by the receive queue, after the next boxes were found without the awaited numbers
  pub polls_since : (f : Fabric A) (old now new : Port A) (p : Parcel A) → now.held ≡ old.held
      → taken_by now ≡ taken_by old → knows now ≡ with_all_missed (knows old) → Polls f now new p
      → Polls f old new p
  polls_since f old now new p held taken seen n = record {
    next = still_next f old now new p taken n.next;
    got = n.got;
    way = way_since old now new (ap (λ (e : Entry A). e.got_box) seen) (ap (λ (e : Entry A). e.got) seen) p held n.way;
    same = polled_on (knows old) (knows now) (knows new) (polled_by (knows old) (knows now) _ seen refl) n.same;
    later = λ i. let first = subst (λ (e : Entry A). slice_index (knows old).box_miss i ≤ slice_index e.box_miss i)
        (sym seen) (map_later (knows old).box_miss i) in
        let then = n.later i in omega (arith, first, then);
  }

  -- what a call keeps that touches no cell
  pub keeps_cells : (f : Fabric A) (old new : Port A) → KeepsCells f old new
      → (new.hands ≤ old.hands) × (EmptiesNone old → new.hands ≡ old.hands) → KeepsPort f (EmptiesNone old) old new
  keeps_cells f old new k hands = record {
    owns = k.owns;
    rank = k.rank;
    loose = k.loose;
    holds = λ c in_hand. ap (λ h. h c) k.holds;
    few = hands.0;
    hands = hands.1;
  }
