-- How a port begins: what it has of the cells, and how the slots of its own are taken.
use Rattle.std.proofs.Common.{◌≡◌, ◌≢◌, ℕ, zero, suc, ◌+◌, ◌-◌, ◌*◌, ◌/◌, ◌<◌, ◌≤◌, Option, None, false}
use Rattle.std.proofs.Common.{List, [], ◌∷◌, length, replicate, set, sym, refl, ap, ◌∙◌, subst, arith}
use Rattle.std.proofs.Common.{length-set, get_or-set_same, get_or-set_other, mul-le-mul_right}
use Rattle.std.proofs.lemmas.List.{length-replicate, get_or-replicate, ext_get_or}
use Rattle.std.proofs.lemmas.List.Folds.{sum_by-replicate}
use Rattle.std.proofs.lemmas.List.Sums.{sum_by-cons}
use Rattle.std.proofs.lemmas.Nat.{div-mul-add}
use Rattle.std.proofs.Math.Nat.{div-mul-le_self, lt-div-mul-add}
use Rattle.std.specs.Prelude.{sum_by, slice_index_or}
use mathlib.Core.Logic.{dite}
use native.Mathlib.Decide.{ℕ_discrete, dec_le}
use Rattle.nm_chain.specs.Spoken.{view}
use Rattle.nm_chain.specs.declared.table.table.Hand.{Hand}
use Rattle.nm_chain.specs.declared.table.table.Hand.TheVariants.{Away, Loose, Held}
use Rattle.nm_chain.specs.declared.table.table.Entry.{Entry}
use Rattle.nm_chain.specs.Rule.{Load, Opens, hand, first_hands, newcomer, beginner}
use Rattle.nm_chain.specs.Plays.{Knowing, mine, with_hand, load_in}
use Rattle.nm_chain.proofs.OpeningLemmas.{first_long, first_at}
use Rattle.nm_chain.proofs.QueueLemmas.{pick_yes, pick_no}
use Rattle.nm_cells.specs.declared.port.Port.{Port}
use Rattle.nm_cells.specs.declared.port.Fabric.{Fabric}
use Rattle.nm_cells.specs.Ports.{Owns, IsFresh, knows, taken_by, unpassed_by}
use Rattle.nm_cells.specs.AtWork.{HoldsBoxes}
use Rattle.nm_cells.specs.Carried.{slots_with, in_hand, fills, empties, Carries}
use Rattle.nm_cells.specs.declared.tallies.Tally.{Tally}
use Rattle.nm_cells.specs.Counted.{peer_in, new_tally, all_unpassed}
use Rattle.nm_cells.specs.LooseCells.{AreKept}
use Rattle.nm_cells.proofs.BoxPortLemmas.{boxes_pushed}
use Rattle.nm_cells.proofs.CarriedLemmas.{cell_picked, within, roomier}
use Rattle.nm_cells.proofs.HoldingLemmas.{load_first}
use Rattle.nm_cells.proofs.LooseLemmas.{kept_hand, kept_push, loose_apart}
use Rattle.nm_cells.proofs.PortLemmas.{CarriesFor}
use Rattle.nm_chain.specs.Update.{pick}

-- the slot of a loose cell is taken
module _ {A : Type 0} (me after : Knowing A) (c : ℕ) (low : c < length (mine me).hands)
    (was : hand (mine me) c ≡ Loose)
    (is : after ≡ (view (with_hand c Held (mine me) ∷ []), (c, None) ∷ me.1)) where
  module _ (carried : List ℕ) (room count : ℕ) (h : CarriesFor me carried room count) where
    now : Carries ((c, None) ∷ me.1) (set (mine me).hands c Held) (mine me).filling
        (mine me).emptying (c ∷ carried) room count
    now = let e = mine me in
        cell_picked me.1 e.hands e.filling e.emptying carried room count h c Held low None was refl
        refl

    pub picked_room : length carried < room
    picked_room = let e = mine me in
        let w = within ((c, None) ∷ me.1) (set e.hands c Held) e.filling e.emptying (c ∷ carried) room
        count now in omega arith

    pub picked_carries : (room' : ℕ) → room ≤ room' → CarriesFor after (c ∷ carried) room' count
    picked_carries room' more = let e = mine me in
        subst (λ m. CarriesFor m (c ∷ carried) room' count) (sym is)
        (roomier ((c, None) ∷ me.1) (set e.hands c Held) e.filling e.emptying (c ∷ carried) room
        room' count more now)

  pub picked_boxes : HoldsBoxes (mine me) me.1
      → length (mine me).hands ≡ (mine me).ranks * (mine me).each → HoldsBoxes (mine after) after.1
  picked_boxes h long = subst (λ (k : Knowing A). HoldsBoxes (mine k) k.1) (sym is)
      (boxes_pushed (mine me) me.1 h c None (subst (λ k. c < k) long low))

  -- it is one more loose cell of the port's
  pub picked_kept : (a : ℕ) → c / (mine me).each ≡ (mine me).rank
      → AreKept (record { first = a; end = c }) (mine me) me.1
      → AreKept (record { first = a; end = c + 1 }) (mine after) after.1
  picked_kept a own h = let e = mine me in let out = loose_apart _ e me.1 h c was in
      subst (λ (m : Knowing A). AreKept (record { first = a; end = c + 1 }) (mine m) m.1) (sym is)
      (λ d i. dite (ℕ_discrete d c)
      (λ s. subst (λ k. (k < length (set e.hands c Held))
      × (slice_index_or (set e.hands c Held) k Away ≡ Held)
      × (load_in k ((c, None) ∷ me.1) ≡ None) × (k / e.each ≡ e.rank)) (sym s) (
        subst (λ n. c < n) (sym (length-set e.hands c Held)) low,
        get_or-set_same e.hands c Held Away low,
        load_first c None me.1,
        own,
      ))
      (λ ne. kept_hand _ e ((c, None) ∷ me.1) (kept_push _ e me.1 h c None out) c Held out d
      (i.0, let l = i.1 in omega arith)))

-- how many of the k cells from c on are the rank r's
span : ℕ → ℕ → ℕ → ℕ
span a b x = (x - a) - (x - b)

module _ (A : Type 0) (each r : ℕ) (some : 0 < each) where
  abbrev stays : Hand A
  stays = Loose

  abbrev leaves : Hand A
  leaves = Away

  loose_sum : (c k : ℕ) → sum_by in_hand (first_hands {A = A} each r c k)
      + span (r * each) (r * each + each) c ≡ span (r * each) (r * each + each) (c + k)
  unfolding span
  loose_sum c zero = omega arith
  loose_sum c (suc k) = let s = loose_sum (suc c) k in
      let cons = sum_by-cons in_hand (pick (ℕ_discrete (c / each) r) stays leaves)
      (first_hands {A = A} each r (suc c) k) in let low = div-mul-le_self c each in
      let high : c < c / each * each + each = lt-div-mul-add some in dite (ℕ_discrete (c / each) r)
      (λ e. let one : in_hand (pick (ℕ_discrete (c / each) r) stays leaves) ≡ 1 =
      ap in_hand (pick_yes (ℕ_discrete (c / each) r) stays leaves e) in
      let l : r * each ≤ c = subst (λ q. q * each ≤ c) e low in
      let h : c < r * each + each = subst (λ q. c < q * each + each) e high in omega arith)
      (λ ne. let none : in_hand (pick (ℕ_discrete (c / each) r) stays leaves) ≡ 0 =
      ap in_hand (pick_no (ℕ_discrete (c / each) r) stays leaves ne) in
      dite (dec_le (suc (c / each)) r)
      (λ less. let m : suc (c / each) * each ≤ r * each = mul-le-mul_right each less in
      let m' : suc (c / each) * each ≡ c / each * each + each = omega arith in omega arith)
      (λ far. let m : suc r * each ≤ c / each * each = mul-le-mul_right each (omega arith) in
      let m' : suc r * each ≡ r * each + each = omega arith in omega arith))

  slots_none : (c k : ℕ) → sum_by slots_with (first_hands {A = A} each r c k) ≡ 0
  slots_none c zero = refl
  slots_none c (suc k) = let s = slots_none (suc c) k in
      let cons = sum_by-cons slots_with (pick (ℕ_discrete (c / each) r) stays leaves)
      (first_hands {A = A} each r (suc c) k) in
      let none : slots_with (pick (ℕ_discrete (c / each) r) stays leaves) ≡ 0 =
      no_slot (ℕ_discrete (c / each) r) in omega arith where
        no_slot : (d : Dec (c / each ≡ r)) → slots_with (pick d stays leaves) ≡ 0
        no_slot (yes _) = refl
        no_slot (no _) = refl

  -- what the rank r has of the cell c at the start
  pub begins_loose : (n c : ℕ) → c < n * each → c / each ≡ r → hand (beginner {A = A} n each r) c ≡ Loose
  begins_loose n c low e = let z : 0 + c ≡ c = omega arith in first_at each r 0 (n * each) c low
      ∙ ap (λ u. pick (ℕ_discrete (u / each) r) stays leaves) z
      ∙ pick_yes (ℕ_discrete (c / each) r) stays leaves e

  pub begins_away : (n c : ℕ) → c < n * each → c / each ≢ r → hand (beginner {A = A} n each r) c ≡ Away
  begins_away n c low ne = let z : 0 + c ≡ c = omega arith in first_at each r 0 (n * each) c low
      ∙ ap (λ u. pick (ℕ_discrete (u / each) r) stays leaves) z
      ∙ pick_no (ℕ_discrete (c / each) r) stays leaves ne

  pub begins_carries : (n room : ℕ) → r < n → n * each + 2 * n ≤ room
      → Carries [] (first_hands {A = A} each r 0 (n * each)) (replicate n false) (replicate n None) [] room
      each
  unfolding span
  begins_carries n room low more = let nobody : Option (Load A) = None in
      let s = loose_sum 0 (n * each) in let a = sum_by-replicate fills n false in
      let b = sum_by-replicate empties n nobody in let z = slots_none 0 (n * each) in
      let m : suc r * each ≤ n * each = mul-le-mul_right each low in
      let m' : suc r * each ≡ r * each + each = omega arith in
      let in_all : span (r * each) (r * each + each) (0 + n * each) ≡ each = omega arith in
      let at_none : span (r * each) (r * each + each) 0 ≡ 0 = omega arith in record {
        order = refl;
        cells = λ c lc. sym (ap slots_with (first_at each r 0 (n * each) c (let l =
            first_long A each r 0 (n * each) in omega arith)) ∙ no_slot (ℕ_discrete ((0 + c) / each) r));
        counted = omega arith;
        handed = omega arith;
        fits = let l = first_long A each r 0 (n * each) in let f = length-replicate n false in
            let g = length-replicate n nobody in omega arith;
      } where
        no_slot : {j : ℕ} (d : Dec (j ≡ r)) → slots_with (pick d stays leaves) ≡ 0
        no_slot (yes _) = refl
        no_slot (no _) = refl

-- words that are all 0 are those at the start
pub zeros_open : (n each : ℕ) (words : List ℕ) → words ≡ replicate (4 * n + n * each + 4 * (n * n)) 0
    → Opens n each words
zeros_open n each words is = let count = 4 * n + n * each + 4 * (n * n) in
    let long = length-replicate count 0 in
    subst (λ ws. Opens n each ws) (sym is)
    (long, λ i low. get_or-replicate count i 0 0 (subst (λ (k : ℕ). i < k) long low))

-- nothing is counted at the start
same_all : {A : Type 0} (n d : ℕ) (a : A) → slice_index_or (replicate n a) d a ≡ a
same_all zero d a = refl
same_all (suc n) zero a = refl
same_all (suc n) (suc d) a = same_all n d a

pub none_taken : (n d : ℕ) → (peer_in (replicate n new_tally) d).taken ≡ 0
none_taken n d = ap (λ (p : Tally). p.taken) (same_all n d new_tally)

pub none_unpassed : (n : ℕ) → all_unpassed (replicate n new_tally) ≡ 0
none_unpassed n = let s = sum_by-replicate (λ (p : Tally). p.unpassed) n new_tally in omega arith

module _ {A : Type 0} where
  -- no cell is in hand
  pub all_away : (hs : List (Hand A)) (m : ℕ) → length hs ≡ m
      → ((c : ℕ) → c < m → slice_index_or hs c Away ≡ Away) → hs ≡ replicate m Away
  all_away hs m long away = ext_get_or Away hs (replicate m Away) (long ∙ sym (length-replicate m Away))
      (λ c low. let l : c < m = omega arith in away c l ∙ sym (get_or-replicate m c Away Away l))

-- the cells of one rank
pub row_of : (each r c : ℕ) → 0 < each → c / each ≡ r → (r * each ≤ c) × (c < r * each + each)
row_of each r c some e = (
  subst (λ k. k * each ≤ c) e (div-mul-le_self c each),
  subst (λ k. c < k * each + each) e (lt-div-mul-add some),
)

pub in_row : (each r c : ℕ) → r * each ≤ c → c < r * each + each → c / each ≡ r
in_row each r c low high = let d : ℕ = c - r * each in let e : r * each + d ≡ c = omega arith in
    ap (λ k. k / each) (sym e) ∙ div-mul-add r each d (omega arith)

pub row_low : (n each r c : ℕ) → r < n → c < r * each + each → c < n * each
row_low n each r c low h = let m : suc r * each ≤ n * each = mul-le-mul_right each low in
    let m' : suc r * each ≡ r * each + each = omega arith in omega arith

module _ {A : Type 0} where
  -- what the rank has of one of its own cells changes, and nothing else
  pub fresh_then : (f : Fabric A) (old new : Port A) (r c : ℕ) (h : Hand A) → IsFresh f old r → Owns f new
      → new.rank ≡ old.rank → c / f.each ≡ r
      → knows new ≡ record (newcomer f.ranks f.each r) { hands = set (knows old).hands c h }
      → ((i : ℕ) → taken_by new i ≡ taken_by old i) → new.held ≡ old.held
      → unpassed_by new ≡ unpassed_by old → IsFresh f new r
  fresh_then f old new r c h fresh owns rank own is taken held unpassed = (
    owns,
    rank ∙ fresh.1,
    is ∙ ap (λ hs. record (newcomer f.ranks f.each r) { hands = hs }) (sym (ap (λ e. e.hands) is)),
    (λ d low other. ap (λ e. hand e d) is ∙ get_or-set_other (knows old).hands c d h Away
        (λ u. other (ap (λ k. k / f.each) u ∙ own)) ∙ fresh.3 d low other),
    (λ i. taken i ∙ fresh.4 i),
    held ∙ fresh.5,
    unpassed ∙ fresh.6,
  )

  -- a port that has nothing in hand
  pub empty_handed : (p : Port A) (n each r : ℕ) → knows p ≡ newcomer n each r → p.hands ≡ 0
  empty_handed p n each r is = let e = knows p in let h = p.carries.handed in
      let nobody : Option (Load A) = None in
      let a : sum_by in_hand e.hands ≡ 0 = ap (λ (u : Entry A). sum_by in_hand u.hands) is
      ∙ sum_by-replicate in_hand (n * each) Away ∙ zeros (n * each) in
      let b : sum_by fills e.filling ≡ 0 = ap (λ (u : Entry A). sum_by fills u.filling) is
      ∙ sum_by-replicate fills n false ∙ zeros n in
      let d : sum_by empties e.emptying ≡ 0 = ap (λ (u : Entry A). sum_by empties u.emptying) is
      ∙ sum_by-replicate empties n nobody ∙ zeros n in omega arith where
        zeros : (k : ℕ) → k * 0 ≡ 0
        zeros k = omega arith
