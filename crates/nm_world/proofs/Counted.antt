-- What a record counts between two ranks.
use Rattle.std.proofs.Common.{◌≡◌, ℕ, zero, suc, ◌+◌, ◌<◌, ◌≤◌, ◌==◌, Bool, true, false, ◌&&◌, cond}
use Rattle.std.proofs.Common.{Option, Some, None, List, [], ◌∷◌, length, map, filter, find, refl, sym, ap}
use Rattle.std.proofs.Common.{◌∙◌, arith}
use Rattle.std.specs.Prelude.{nat_lt}
use Rattle.std.specs.List.{range_with_len, slice_get}
use Rattle.std.specs.Option.{option_map_or, option_or}
use Rattle.std.proofs.lemmas.Bool.Decides.{nat_tests}
use Rattle.std.proofs.lemmas.List.Folds.{find-append}
use native.Mathlib.Decide.{ℕ_discrete}
use Rattle.nm_types.specs.Commands.{Numbered}
use Rattle.nm_types.specs.Sizes.{Sizes}
use Rattle.nm_world.specs.Parcels.{packet_of}
use Rattle.std.proofs.lemmas.List.{length-map}
use Rattle.nm_history.specs.Outgoing.{outgoing}
use Rattle.nm_history.specs.Quiescence.{Ended, Packets, packets_by_rank_by, packets_from_by, packets_of_by}
use Rattle.nm_history.specs.Sends.{sent_body}
use Rattle.nm_cells.specs.declared.closed.Closed.{Closed}
use Rattle.nm_cells.specs.ClosedLists.{sent_list, taken_list}
use Rattle.nm_copyring.specs.declared.close.RingAccount.{RingAccount}
use Rattle.nm_world.specs.Runs.{AreCarriedBy, count_between}
use Rattle.nm_types.proofs.NumberLemmas.{unequal, eq_true}
use Rattle.nm_types.proofs.ListLemmas.{get_some}
use Rattle.nm_sending.proofs.PutLemmas.{called_length}
use Rattle.nm_types.specs.declared.packets.Packet.{Packet}

abbrev is_of : ℕ → ℕ → Packets → Bool
is_of i j p = p.from == i && p.to == j

abbrev row : ℕ → (ℕ → ℕ) → List ℕ → List Packets
row from g ts =
    filter (λ (p : Packets). nat_lt 0 p.count)
    (map (λ (to : ℕ). record { from = from; to = to; count = g to }) ts)

abbrev count_in : ℕ → ℕ → List Packets → ℕ
count_in i j ps = option_map_or (λ (p : Packets). p.count) (find (is_of i j) ps) 0

-- a row with one count more, which may be 0
row_more : (i j from a : ℕ) (g : ℕ → ℕ) (ts : List ℕ) → is_of i j (record { from = from; to = a; count = g a })
    ≡ false →
    find (is_of i j) (row from g (a ∷ ts)) ≡ find (is_of i j) (row from g ts)
row_more i j from a g ts other = by (nat_lt 0 (g a)) where
  by : (b : Bool) →
      find (is_of i j) (cond b (record { from = from; to = a; count = g a } ∷ row from g ts) (row from g ts))
      ≡ find (is_of i j) (row from g ts)
  by true = ap (λ (b : Bool). cond b (Some (record { from = from; to = a; count = g a }))
      (find (is_of i j) (row from g ts))) other
  by false = refl

-- none in the row of another rank, and none past the place
row_other : (i j from : ℕ) (g : ℕ → ℕ) (ts : List ℕ) → (from == i) ≡ false → find (is_of i j) (row from g ts) ≡ None
row_other i j from g [] other = refl
row_other i j from g (a ∷ ts) other =
    row_more i j from a g ts (ap (λ (b : Bool). b && (a == j)) other) ∙ row_other i j from g ts other

row_past : (i j from a n : ℕ) (g : ℕ → ℕ) → (from == i) ≡ true → j < a →
    find (is_of i j) (row from g (range_with_len a n)) ≡ None
row_past i j from a zero g own past = refl
row_past i j from a (suc n) g own past =
    row_more i j from a g (range_with_len (a + 1) n)
    (ap (λ (b : Bool). b && (a == j)) own ∙ unequal a j (λ e. absurd (omega (arith, e, past))))
    ∙ row_past i j from (a + 1) n g own (omega (arith, past))

-- its count, in the row of the rank
row_here : (i j from a n : ℕ) (g : ℕ → ℕ) → (from == i) ≡ true → a ≤ j → j < a + n →
    option_map_or (λ (p : Packets). p.count) (find (is_of i j) (row from g (range_with_len a n))) 0 ≡ g j
row_here i j from a zero g own low high = absurd (omega (arith, low, high))
row_here i j from a (suc n) g own low high =
    by_place (λ less. row_here i j from (a + 1) n g own less (omega (arith, high))) (ℕ_discrete a j) where
      by_place : (a + 1 ≤ j → count_in i j (row from g (range_with_len (a + 1) n)) ≡ g j) → Dec (a ≡ j) →
          count_in i j (row from g (a ∷ range_with_len (a + 1) n)) ≡ g j
      by_place later (no ne) =
          ap (λ (o : Option Packets). option_map_or (λ (p : Packets). p.count) o 0)
          (row_more i j from a g (range_with_len (a + 1) n)
          (ap (λ (b : Bool). b && (a == j)) own ∙ unequal a j ne)) ∙ later (omega (arith, low, ne))
      by_place later (yes e) = by (nat_lt 0 (g a)) refl where
        here : is_of i j (record { from = from; to = a; count = g a }) ≡ true
        here = ap (λ (b : Bool). b && (a == j)) own ∙ eq_true a j e

        none : find (is_of i j) (row from g (range_with_len (a + 1) n)) ≡ None
        none = row_past i j from (a + 1) n g own (omega (arith, e))

        by : (b : Bool) → nat_lt 0 (g a) ≡ b →
            count_in i j (cond b (record { from = from; to = a; count = g a } ∷ row from g (range_with_len (a + 1) n))
            (row from g (range_with_len (a + 1) n))) ≡ g j
        by true some =
            ap (λ (b : Bool). option_map_or (λ (p : Packets). p.count)
            (cond b (Some (record { from = from; to = a; count = g a }))
            (find (is_of i j) (row from g (range_with_len (a + 1) n)))) 0) here
            ∙ ap g e
        by false zero_is =
            let zero_here : g a ≡ 0 = is_zero (g a) zero_is in
            ap (λ (o : Option Packets). option_map_or (λ (p : Packets). p.count) o 0) none
            ∙ sym (sym (ap g e) ∙ zero_here) where
              is_zero : (k : ℕ) → nat_lt 0 k ≡ false → k ≡ 0
              is_zero k less = let low : k ≤ 0 = grind (arith, nat_tests) in omega (arith, low)

-- none in the rows of later ranks
rows_past : (commands : ℕ → List Numbered) (n k i j : ℕ) (ends : List Ended) → i < k →
    find (is_of i j) (packets_by_rank_by commands (range_with_len 0 n) k ends) ≡ None
rows_past commands n k i j [] past = refl
rows_past commands n k i j (e ∷ ends) past =
    find-append (is_of i j) (packets_from_by commands (range_with_len 0 n) k e.events)
    (packets_by_rank_by commands (range_with_len 0 n) (k + 1) ends)
    ∙ ap (λ (o : Option Packets). option_or o
    (find (is_of i j) (packets_by_rank_by commands (range_with_len 0 n) (k + 1) ends)))
    (row_other i j k (λ to. length (outgoing (sent_body (commands k)) e.events to)) (range_with_len 0 n)
    (unequal k i (λ same. absurd (omega (arith, same, past)))))
    ∙ rows_past commands n (k + 1) i j ends (omega (arith, past))

pub count_is : (commands : ℕ → List Numbered) (n k m i j : ℕ) (ends : List Ended) (e : Ended) → m ≡ k + i →
    slice_get ends i ≡ Some e → j < n →
    count_between (packets_by_rank_by commands (range_with_len 0 n) k ends) m j
    ≡ length (outgoing (sent_body (commands m)) e.events j)
count_is commands n k m i j [] e is at low = absurd (none at) where
  none : None ≡ Some e → ⊥
  none x = cc
count_is commands n k m zero j (x ∷ ends) e is at low =
    let g : ℕ → ℕ = λ to. length (outgoing (sent_body (commands k)) x.events to) in
    let same : k ≡ m = omega (arith, is) in
    ap (λ (o : Option Packets). option_map_or (λ (p : Packets). p.count) o 0)
    (find-append (is_of m j) (packets_from_by commands (range_with_len 0 n) k x.events)
    (packets_by_rank_by commands (range_with_len 0 n) (k + 1) ends)
    ∙ ap (option_or (find (is_of m j) (row k g (range_with_len 0 n))))
    (rows_past commands n (k + 1) m j ends (omega (arith, is)))
    ∙ or_none (find (is_of m j) (row k g (range_with_len 0 n))))
    ∙ row_here m j k 0 n g (eq_true k m same) (omega arith) (omega (arith, low))
    ∙ ap (λ (r : ℕ). length (outgoing (sent_body (commands r)) x.events j)) same
    ∙ ap (λ (y : Ended). length (outgoing (sent_body (commands m)) y.events j)) (one at) where
      one : {u v : Ended} → Some u ≡ Some v → u ≡ v
      one x = cc

      or_none : (o : Option Packets) → option_or o None ≡ o
      or_none None = refl
      or_none (Some p) = refl
count_is commands n k m (suc i) j (x ∷ ends) e is at low =
    ap (λ (o : Option Packets). option_map_or (λ (p : Packets). p.count) o 0)
    (find-append (is_of m j) (packets_from_by commands (range_with_len 0 n) k x.events)
    (packets_by_rank_by commands (range_with_len 0 n) (k + 1) ends)
    ∙ ap (λ (o : Option Packets). option_or o
    (find (is_of m j) (packets_by_rank_by commands (range_with_len 0 n) (k + 1) ends)))
    (row_other m j k (λ to. length (outgoing (sent_body (commands k)) x.events to)) (range_with_len 0 n)
    (unequal k m (λ same. absurd (omega (arith, same, is))))))
    ∙ count_is commands n (k + 1) m i j ends e (omega (arith, is)) at low

-- what the closed ports carried is as much as is counted
pub carried_counts : (shape : Sizes) (commands : ℕ → List Numbered) (c : Closed Packet) (q : RingAccount) (ends : List Ended)
    (packets : List Packets) → length ends ≡ shape.ranks → packets ≡ packets_of_by commands ends →
    AreCarriedBy shape commands c q ends → (i j : ℕ) → i < shape.ranks → j < shape.ranks →
    (length (sent_list c i j) ≡ count_between packets i j) × (length (taken_list c i j) ≡ count_between packets i j)
carried_counts shape commands c q ends packets many counts carried i j low within =
    let e = get_some ends i (omega (arith, low, many)) in
    let is = carried i j e.0 within e.1 in
    let long = called_length i 0 (outgoing (sent_body (commands i)) e.0.events j)
    (map packet_of (sent_list c i j)) is.packets in
    let count = ap (λ (ps : List Packets). count_between ps i j) counts
    ∙ count_is commands (length ends) 0 i i j ends e.0 (omega arith) e.1 (omega (arith, within, many)) in
    let sent : length (sent_list c i j) ≡ count_between packets i j = sym (length-map (sent_list c i j) packet_of) ∙ sym long ∙ sym count in
    (sent, ap length is.taken ∙ sent)
