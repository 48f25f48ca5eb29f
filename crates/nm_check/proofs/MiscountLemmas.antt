-- How many packets are due at most, and the list of those that are due.
use Rattle.std.proofs.Common.{◌≡◌, ℕ, ◌+◌, ◌*◌, ◌<◌, ◌≤◌, ◌==◌, Bool, true, false, cond, Option, Some, None}
use Rattle.std.proofs.Common.{List, [], ◌∷◌, ◌++◌, length, take, get_or, refl, sym, ◌∙◌, ap, subst, arith}
use Rattle.std.proofs.Common.{append_assoc, append-nil, length-append, zero-add}
use Rattle.std.specs.Prelude.{IfSome, count_by, option_to_list, slice_get}
use Rattle.std.specs.List.{range_with_len}
use Rattle.std.proofs.lemmas.List.{length-map}
use Rattle.std.proofs.lemmas.List.Sums.{count_by-le-length}
use Rattle.std.proofs.lemmas.Option.{none-some, slice_get-get_or, slice_get_past}
use Rattle.nm_types.proofs.ListLemmas.{get_map, get_some}
use Rattle.nm_types.proofs.OptionLemmas.{same_some}
use Rattle.nm_types.specs.declared.scripts.Line.{Line}
use Rattle.nm_history.specs.declared.events.Event.{Event}
use Rattle.nm_history.specs.declared.plain.Pair.{Pair}
use Rattle.nm_history.specs.Matching.{matched_pairs, matched_pairs_after, new_pair}
use Rattle.nm_history.specs.Outgoing.{is_clear, packets_of_event, packets_of_events, packets_to}
use Rattle.nm_history.specs.Quiescence.{Packets, packets_by_rank}
use Rattle.nm_report.specs.declared.accounts.RankAccount.{RankAccount}
use Rattle.nm_report.specs.declared.pairs.PairCount.{PairCount}
use Rattle.nm_report.specs.Ends.{ends_of, packets_of}
use Rattle.nm_lookups.specs.Deciding.{Decides}
use Rattle.nm_check_rank.specs.Differ.{DifferFirstAt}
use Rattle.nm_check_rank.proofs.DifferLemmas.{same_next}
use Rattle.nm_check.specs.Counting.{counted_pair, load_to, row_from}
use Rattle.nm_check.specs.declared.rest.counts.Load.{Load}
use Rattle.nm_check.proofs.CountingLemmas.{in_all, one_event, own, rank_more, row_more, row_same}

-- a load is no more than its packets
load_at_most : (n to : ℕ) (load : Option Load) → IfSome load (λ l. l.packets ≤ n) → load_to to load ≤ n
load_at_most n to None few = omega arith
load_at_most n to (Some l) few = by_rank (l.rank == to)
  where
    by_rank : (b : Bool) → cond b l.packets 0 ≤ n
    by_rank true = few
    by_rank false = omega arith

-- one event more
pub few_more : (h : List Event) (k : ℕ) (e : Event) (load : Option Load) (to : ℕ) → k < length h → e ≡ get_or h k e →
    packets_of_events to (take k h) ≤ k * 4294967295 → load_to to load ≡ packets_of_event to e.what →
    IfSome load (λ l. l.packets ≤ 4294967295) → packets_of_events to (take (k + 1) h) ≤ (k + 1) * 4294967295
few_more h k e load to inside is so_far same few =
    let more = one_event h k e to inside is in
    let one : load_to to load ≤ 4294967295 = load_at_most 4294967295 to load few in
    omega (arith, more, so_far, same, one)

-- an event makes at most one pair
few_pairs_after : (h : List Event) (found : List Pair) (events : List Event) →
    length (matched_pairs_after h found events) ≤ length found + length events
few_pairs_after h found [] = omega arith
few_pairs_after h found (e ∷ events) =
    let one = at_most_one (new_pair h found e.what) in
    let all = length-append found (option_to_list (new_pair h found e.what)) in
    let more = few_pairs_after (h ++ e ∷ []) (found ++ option_to_list (new_pair h found e.what)) events in
    omega (arith, one, all, more)
  where
    at_most_one : (o : Option Pair) → length (option_to_list o) ≤ 1
    at_most_one None = omega arith
    at_most_one (Some pair) = omega arith

few_pairs : (h : List Event) → length (matched_pairs h) ≤ length h
unfolding matched_pairs
few_pairs h =
    subst (λ (n : ℕ). length (matched_pairs_after [] [] h) ≤ n) (zero-add (length h)) (few_pairs_after [] [] h)

-- the packets of a history, by how many events it has
pub few_packets : (h : List Event) (pairs : List Pair) (to : ℕ) → pairs ≡ matched_pairs h →
    packets_of_events to h ≤ length h * 4294967295 → packets_to h to ≤ length h * 4294967296
few_packets h pairs to are few =
    let all = in_all h pairs to are in
    let some : count_by (is_clear to) pairs ≤ length pairs = count_by-le-length (is_clear to) pairs in
    let same : length pairs ≡ length (matched_pairs h) = ap length are in
    let pairs_few = few_pairs h in
    omega (arith, all, some, same, pairs_few, few)

-- a row with one count more, which is that of the next rank, or none where that is 0
module _ (from : ℕ) (due : ℕ → ℕ) (to : ℕ) (old now : List Packets) (so_far : now ≡ old ++ row_from from due 0 to) where
  pub row_pushed : (p : Packets) → 0 < due to → p ≡ own from due to → now ++ p ∷ [] ≡ old ++ row_from from due 0
      (to + 1)
  row_pushed p some is =
      ap (λ (ps : List Packets). ps ++ p ∷ []) so_far ∙ append_assoc old (row_from from due 0 to) (p ∷ [])
      ∙ ap (λ (x : Packets). old ++ (row_from from due 0 to ++ x ∷ [])) is
      ∙ ap (λ (ps : List Packets). old ++ ps)
      (row_more from due to (row_from from due 0 to ++ own from due to ∷ []) (own from due to ∷ []) [] refl some refl
      ∙ append-nil (row_from from due 0 (to + 1)))

  pub row_kept : due to ≡ 0 → now ≡ old ++ row_from from due 0 (to + 1)
  row_kept none =
      so_far ∙ ap (λ (ps : List Packets). old ++ ps)
      (row_same from due to (row_from from due 0 to) [] (sym (append-nil (row_from from due 0 to))) none
      ∙ append-nil (row_from from due 0 (to + 1)))

-- the rows of the ranks so far with the row of one rank more
pub rows_pushed : (lines : List Line) (ranks : List RankAccount) (i : ℕ) (a : RankAccount) → i < length ranks →
    a ≡ get_or ranks i a → (old now : List Packets) →
    old ≡ packets_by_rank lines (range_with_len 0 (length (ends_of ranks))) 0 (take i (ends_of ranks)) →
    now ≡ old ++ row_from i (packets_to a.history.events) 0 (length ranks) →
    now ≡ packets_by_rank lines (range_with_len 0 (length (ends_of ranks))) 0 (take (i + 1) (ends_of ranks))
rows_pushed lines ranks i a inside is old now so_far more =
    let row = row_from i (packets_to a.history.events) 0 (length ranks) in
    rank_more lines ranks i a inside is now row []
    (more ∙ ap (λ (ps : List Packets). ps ++ row) so_far) (sym (append-nil row))
    ∙ append-nil (packets_by_rank lines (range_with_len 0 (length (ends_of ranks))) 0 (take (i + 1) (ends_of ranks)))

-- two lists that are the same so far, item by item
module _ (pairs due : List PairCount) (k : ℕ) (so_far : take k (packets_of pairs) ≡ take k (packets_of due)) where
  pub same_more : (d : PairCount) → k < length pairs →
      slice_get (packets_of due) k ≡ Some (counted_pair (get_or pairs k d)) →
      take (k + 1) (packets_of pairs) ≡ take (k + 1) (packets_of due)
  same_more d inside there =
      let x : PairCount = get_or pairs k d in
      same_next (packets_of pairs) (packets_of due) k so_far (counted_pair x)
      (get_map counted_pair pairs k x (slice_get-get_or pairs k d inside)) there

  pub ends_first : length pairs ≤ k → k ≤ length pairs → length pairs < length due →
      DifferFirstAt (packets_of pairs) (packets_of due) (length pairs)
  ends_first over under more =
      let end : k ≡ length pairs = omega (arith, over, under) in
      let first : length (packets_of pairs) ≡ length pairs = length-map pairs counted_pair in
      let second : length (packets_of due) ≡ length due = length-map due counted_pair in
      let next : (p : Packets) × (slice_get (packets_of due) (length pairs) ≡ Some p) =
      get_some (packets_of due) (length pairs) (omega (arith, second, more)) in
      record {
        same = subst (λ (n : ℕ). take n (packets_of pairs) ≡ take n (packets_of due)) end so_far;
        other = λ e.
            none-some next.0 (sym (slice_get_past (packets_of pairs) (length pairs) (omega (arith, first))) ∙ e
            ∙ next.1);
      }

-- whether the count at a place is the one that is asked for
pub there_decided : (due : List PairCount) (k : ℕ) (other : PairCount) (p : Packets) (r : Bool) →
    slice_get due k ≡ Some other → Decides r (counted_pair other ≡ p) →
    Decides r (slice_get (packets_of due) k ≡ Some p)
there_decided due k other p true here same = get_map counted_pair due k other here ∙ ap Some same
there_decided due k other p false here not = λ is.
    not (same_some (counted_pair other) p (sym (get_map counted_pair due k other here) ∙ is))

pub none_there : (due : List PairCount) (k : ℕ) (p : Packets) → length due ≤ k →
    slice_get (packets_of due) k ≡ Some p → ⊥
none_there due k p over is =
    let many : length (packets_of due) ≡ length due = length-map due counted_pair in
    none-some p (sym (slice_get_past (packets_of due) k (omega (arith, many, over))) ∙ is)
