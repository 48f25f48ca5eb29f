-- Counts of packets, one event, one pair and one rank after another.
use Rattle.std.proofs.Common.{◌≡◌, ℕ, ◌+◌, ◌-◌, ◌<◌, ◌≤◌, ◌==◌, zero, suc, Bool, true, false, cond, Option, Some}
use Rattle.std.proofs.Common.{None, List, [], ◌∷◌, ◌++◌, length, map, take, drop, get_or, refl, sym, ◌∙◌, ap, subst}
use Rattle.std.proofs.Common.{arith, append_assoc, append-nil, zero-add, add-one}
use Rattle.std.specs.Prelude.{count_by, sum_by, nat_lt}
use Rattle.std.specs.List.{cons_option, filter, filter_map, range_with_len}
use Rattle.std.proofs.lemmas.List.{append_cancel_left, get_or_default}
use Rattle.std.proofs.lemmas.Bool.Decides.{nat_tests}
use Rattle.std.proofs.lemmas.List.Elements.{filter-append}
use Rattle.std.proofs.lemmas.List.{length-map, length-take, map-append, take-append-drop}
use Rattle.std.proofs.lemmas.Option.{same_Some, slice_get-get_or}
use Rattle.std.proofs.lemmas.List.Sums.{sum_by-append}
use Rattle.nm_types.specs.declared.scripts.Line.{Line}
use Rattle.nm_types.specs.Commands.{commands_of}
use Rattle.nm_history.specs.declared.events.Event.{Event}
use Rattle.nm_history.specs.declared.events.Happened.{Happened}
use Rattle.nm_history.specs.declared.events.Happened.TheVariants.{Send, Recall, Withdraw}
use Rattle.nm_history.specs.declared.plain.Pair.{Pair}
use Rattle.nm_history.specs.Matching.{matched_pairs}
use Rattle.nm_history.specs.Outgoing.{further_packets, is_clear, is_recall_to, is_withdraw_from, outgoing}
use Rattle.nm_history.specs.Outgoing.{packets_of_event, packets_of_events, packets_of_send, packets_to}
use Rattle.nm_history.specs.Quiescence.{Ended, Packets, packets_by_rank, packets_from}
use Rattle.nm_history.specs.Sends.{Sent, is_ask, sends, sent_body, sent_of}
use Rattle.nm_history.proofs.OutgoingLemmas.{outgoing_count}
use Rattle.nm_report.specs.declared.accounts.RankAccount.{RankAccount}
use Rattle.nm_report.specs.Ends.{end_of_account, ends_of}
use Rattle.nm_report.proofs.EndLemmas.{end_at}
use Rattle.nm_lookups.specs.Deciding.{Decides}
use Rattle.nm_check.specs.Counting.{AreDue, at_most, row_from}
use Rattle.nm_types.proofs.ListLemmas.{take_next}

sum_first : {X : Type 0} (f : X → ℕ) (x : X) (xs : List X) → sum_by f (x ∷ xs) ≡ f x + sum_by f xs
sum_first {X} f x xs = sum_by-append f (x ∷ []) xs ∙ ap (λ (n : ℕ). n + sum_by f xs) (zero-add (f x))

-- the same numbers are due
pub due_same : (counts : List ℕ) (a b : ℕ → ℕ) → ((to : ℕ) → a to ≡ b to) → AreDue counts a → AreDue counts b
due_same counts a b same due to low = due to low ∙ ap (λ (n : ℕ). at_most n) (same to)

-- one event more
pub one_event : (h : List Event) (k : ℕ) (e : Event) (to : ℕ) → k < length h → e ≡ get_or h k e →
    packets_of_events to (take k h) + packets_of_event to e.what ≡ packets_of_events to (take (k + 1) h)
one_event h k e to inside is =
    let pushed : packets_of_events to (take k h ++ e ∷ []) ≡ packets_of_events to (take k h) + packets_of_events to
    (e ∷ []) =
    sum_by-append (λ (e : Event). packets_of_event to e.what) (take k h) (e ∷ []) in
    let one : packets_of_events to (e ∷ []) ≡ packets_of_event to e.what = omega arith in
    let same : packets_of_events to (take (k + 1) h) ≡ packets_of_events to (take k h ++ e ∷ []) =
    ap (λ (g : List Event). packets_of_events to g) (take_next h k e inside is) in
    omega (arith, pushed, one, same)

sending : (n : ℕ) → n ≡ 0 + n + 0 + 0
sending n = omega arith

event_is : (to stamp : ℕ) (what : Happened) →
    packets_of_event to what
    ≡ sum_by packets_of_send (filter (λ s. s.to == to) (cons_option (sent_of stamp what) [])) + cond
    (is_recall_to to what) 1 0 + cond (is_withdraw_from to what) 1 0
event_is to stamp (Send to' n tag ctx len how line) = by_rank (to' == to)
  where
    by_rank : (b : Bool) → cond b (cond (is_ask how) 1 (1 + further_packets len)) 0
        ≡ sum_by packets_of_send
        (cond b (record { stamp = stamp; to = to'; n = n; tag = tag; ctx = ctx; len = len; how = how; line = line }
        ∷ []) []) + 0 + 0
    by_rank true = sending (cond (is_ask how) 1 (1 + further_packets len))
    by_rank false = refl
event_is to stamp (Recall to' n) = by_rank (to' == to)
  where
    by_rank : (b : Bool) → cond b 1 0 ≡ 0 + cond b 1 0 + 0
    by_rank true = refl
    by_rank false = refl
event_is to stamp (Withdraw from n done) = by_rank (from == to)
  where
    by_rank : (b : Bool) → cond b 1 0 ≡ 0 + 0 + cond b 1 0
    by_rank true = refl
    by_rank false = refl
event_is to stamp what = refl

count_first : {X : Type 0} (p : X → Bool) (x : X) (xs : List X) → count_by p (x ∷ xs) ≡ cond (p x) 1 0 + count_by p xs
count_first p x xs = sum_first (λ x. cond (p x) 1 0) x xs

sends_first : (e : Event) (h : List Event) (to : ℕ) →
    sum_by packets_of_send (sends (e ∷ h) to)
    ≡ sum_by packets_of_send (filter (λ s. s.to == to) (cons_option (sent_of e.stamp e.what) [])) + sum_by
    packets_of_send (sends h to)
sends_first e h to = by_send (sent_of e.stamp e.what)
  where
    by_send : (o : Option Sent) →
        sum_by packets_of_send
        (filter (λ s. s.to == to) (cons_option o (filter_map (λ (e : Event). sent_of e.stamp e.what) h)))
        ≡ sum_by packets_of_send (filter (λ s. s.to == to) (cons_option o [])) + sum_by packets_of_send (sends h to)
    by_send None = sym (zero-add (sum_by packets_of_send (sends h to)))
    by_send (Some s) = by_rank (s.to == to)
      where
        by_rank : (b : Bool) → sum_by packets_of_send (cond b (s ∷ sends h to) (sends h to)) ≡ sum_by packets_of_send
            (cond b (s ∷ []) []) + sum_by packets_of_send (sends h to)
        by_rank true =
            let one : sum_by packets_of_send (s ∷ []) ≡ packets_of_send s = zero-add (packets_of_send s) in
            sum_first packets_of_send s (sends h to) ∙ ap (λ (n : ℕ). n + sum_by packets_of_send (sends h to)) (sym one)
        by_rank false = sym (zero-add (sum_by packets_of_send (sends h to)))

-- the packets that the events call for, by what they are
pub events_counted : (to : ℕ) (h : List Event) →
    packets_of_events to h ≡ sum_by packets_of_send (sends h to) + count_by (λ e. is_recall_to to e.what) h + count_by
    (λ e. is_withdraw_from to e.what) h
events_counted to [] = refl
events_counted to (e ∷ h) =
    let all : packets_of_events to (e ∷ h) ≡ packets_of_event to e.what + packets_of_events to h = sum_first
    (λ (e : Event). packets_of_event to e.what) e h in
    let recalls : count_by (λ (e : Event). is_recall_to to e.what) (e ∷ h) ≡ cond (is_recall_to to e.what) 1 0 +
    count_by (λ (e : Event). is_recall_to to e.what) h =
    count_first (λ (e : Event). is_recall_to to e.what) e h in
    let withdrawals : count_by (λ (e : Event). is_withdraw_from to e.what) (e ∷ h) ≡ cond (is_withdraw_from to e.what)
    1 0 + count_by (λ (e : Event). is_withdraw_from to e.what) h =
    count_first (λ (e : Event). is_withdraw_from to e.what) e h in
    omega (arith, all, recalls, withdrawals, sends_first e h to, event_is to e.stamp e.what, events_counted to h)

-- one pair more
pub one_pair : {X : Type 0} (p : X → Bool) (xs : List X) (k : ℕ) (d : X) → k < length xs →
    count_by p (take k xs) + cond (p (get_or xs k d)) 1 0 ≡ count_by p (take (k + 1) xs)
one_pair {X} p xs k d inside =
    let x : X = get_or xs k d in
    let is : x ≡ get_or xs k x = get_or_default xs k d x inside in
    let pushed : count_by p (take k xs ++ x ∷ []) ≡ count_by p (take k xs) + count_by p (x ∷ []) = sum_by-append
    (λ (x : X). cond (p x) 1 0) (take k xs) (x ∷ []) in
    let one : count_by p (x ∷ []) ≡ cond (p x) 1 0 = zero-add (cond (p x) 1 0) in
    let same : count_by p (take (k + 1) xs) ≡ count_by p (take k xs ++ x ∷ []) = ap (λ (ys : List X). count_by p ys)
    (take_next xs k x inside is) in
    omega (arith, pushed, one, same)

range_split : (a m n : ℕ) → range_with_len a (m + n) ≡ range_with_len a m ++ range_with_len (a + m) n
range_split a zero n = let x : 0 + n ≡ n = zero-add n in let y : a ≡ a + 0 = omega arith in
    ap (λ (k : ℕ). range_with_len a k) x ∙ ap (λ (k : ℕ). range_with_len k n) y
range_split a (suc m) n =
    let x : suc m + n ≡ suc (m + n) = omega arith in
    let y : (a + 1) + m ≡ a + suc m = omega arith in
    ap (λ (k : ℕ). range_with_len a k) x
    ∙ ap (λ (xs : List ℕ). a ∷ xs)
    (range_split (a + 1) m n ∙ ap (λ (k : ℕ). range_with_len (a + 1) m ++ range_with_len k n) y)

module _ (from : ℕ) (due : ℕ → ℕ) where
  -- the next count of a row
  abbrev pub own : ℕ → Packets
  own to = record { from = from; to = to; count = due to }

  abbrev is_some_count : Packets → Bool
  is_some_count p = nat_lt 0 p.count

  -- a row is its first counts, and then the others
  pub row_split : (to m n : ℕ) → row_from from due to (m + n) ≡ row_from from due to m ++ row_from from due (to + m) n
  row_split to m n =
      ap (λ (xs : List ℕ). filter is_some_count (map own xs)) (range_split to m n)
      ∙ ap (λ (ps : List Packets). filter is_some_count ps)
      (map-append own (range_with_len to m) (range_with_len (to + m) n))
      ∙ filter-append is_some_count (map own (range_with_len to m)) (map own (range_with_len (to + m) n))

  pub row_none : (to n : ℕ) → due to ≡ 0 → row_from from due to (n + 1) ≡ row_from from due (to + 1) n
  row_none to n none = (let more : n + 1 ≡ suc n = add-one n in ap (λ (m : ℕ). row_from from due to m) more)
      ∙ (by_count (nat_lt 0 (due to)) (grind (arith, nat_tests)))
    where
      by_count : (b : Bool) → b ≡ false → cond b (own to ∷ row_from from due (to + 1) n)
          (row_from from due (to + 1) n) ≡ row_from from due (to + 1) n
      by_count true is = cc
      by_count false is = refl

  pub row_some : (to n : ℕ) → 0 < due to → row_from from due to (n + 1) ≡ own to ∷ row_from from due (to + 1) n
  row_some to n some = (let more : n + 1 ≡ suc n = add-one n in ap (λ (m : ℕ). row_from from due to m) more)
      ∙ (by_count (nat_lt 0 (due to)) (grind (arith, nat_tests)))
    where
      by_count : (b : Bool) → b ≡ true → cond b (own to ∷ row_from from due (to + 1) n) (row_from from due (to + 1) n)
          ≡ own to ∷ row_from from due (to + 1) n
      by_count true is = refl
      by_count false is = cc

-- the events and the pairs together
pub in_all : (h : List Event) (pairs : List Pair) (to : ℕ) → pairs ≡ matched_pairs h →
    packets_of_events to h + count_by (is_clear to) pairs ≡ packets_to h to
in_all h pairs to are =
    let same : count_by (is_clear to) pairs ≡ count_by (is_clear to) (matched_pairs h) =
    ap (λ (ps : List Pair). count_by (is_clear to) ps) are in
    omega (arith, same, events_counted to h)

pub all_counted : (h : List Event) (pairs : List Pair) (counts : List ℕ) → pairs ≡ matched_pairs h →
    AreDue counts (λ to. packets_of_events to h + count_by (is_clear to) pairs) → AreDue counts (packets_to h)
all_counted h pairs counts are due =
    due_same counts (λ to. packets_of_events to h + count_by (is_clear to) pairs) (packets_to h)
    (λ to. in_all h pairs to are) due

-- .. behind the counts so far
module _ (from : ℕ) (due : ℕ → ℕ) (to ranks : ℕ) (low : to < ranks) where
  whole_row : row_from from due 0 ranks ≡ row_from from due 0 to ++ row_from from due to (ranks - to)
  whole_row =
      let parts : ranks ≡ to + (ranks - to) = omega arith in
      let place : 0 + to ≡ to = zero-add to in
      ap (λ (n : ℕ). row_from from due 0 n) parts ∙ row_split from due 0 to (ranks - to)
      ∙ ap (λ (n : ℕ). row_from from due 0 to ++ row_from from due n (ranks - to)) place

  -- the next count is not what is due
  pub row_breaks : (pairs left rest : List Packets) → pairs ≡ row_from from due 0 to ++ left → 0 < due to →
      ((rest : List Packets) → left ≡ own from due to ∷ rest → ⊥) → pairs ≡ row_from from due 0 ranks ++ rest → ⊥
  row_breaks pairs left rest so_far some broken all =
      let parts : ranks - to ≡ (ranks - to - 1) + 1 = omega arith in
      let here : row_from from due to (ranks - to) ≡ own from due to ∷ row_from from due (to + 1) (ranks - to - 1) =
      ap (λ (n : ℕ). row_from from due to n) parts ∙ row_some from due to (ranks - to - 1) some in
      broken (row_from from due (to + 1) (ranks - to - 1) ++ rest)
      (append_cancel_left (row_from from due 0 to) left
      ((own from due to ∷ row_from from due (to + 1) (ranks - to - 1)) ++ rest)
      (sym so_far ∙ all ∙ ap (λ (ps : List Packets). ps ++ rest)
      (whole_row ∙ ap (λ (ps : List Packets). row_from from due 0 to ++ ps) here)
      ∙ append_assoc (row_from from due 0 to) (own from due to ∷ row_from from due (to + 1) (ranks - to - 1)) rest))

-- one count more
module _ (from : ℕ) (due : ℕ → ℕ) (to : ℕ) where
  last_of_row : row_from from due 0 (to + 1) ≡ row_from from due 0 to ++ row_from from due to 1
  last_of_row = let place : 0 + to ≡ to = zero-add to in row_split from due 0 to 1
      ∙ ap (λ (n : ℕ). row_from from due 0 to ++ row_from from due n 1) place

  pub row_more : (pairs left others : List Packets) → pairs ≡ row_from from due 0 to ++ left → 0 < due to →
      left ≡ own from due to ∷ others →
      pairs ≡ row_from from due 0 (to + 1) ++ others
  row_more pairs left others so_far some here =
      so_far ∙ ap (λ (ps : List Packets). row_from from due 0 to ++ ps) here
      ∙ sym (append_assoc (row_from from due 0 to) (own from due to ∷ []) others)
      ∙ ap (λ (ps : List Packets). ps ++ others)
      (sym (last_of_row ∙ ap (λ (ps : List Packets). row_from from due 0 to ++ ps) (row_some from due to 0 some)))

  pub row_same : (pairs left : List Packets) → pairs ≡ row_from from due 0 to ++ left → due to ≡ 0 →
      pairs ≡ row_from from due 0 (to + 1) ++ left
  row_same pairs left so_far none =
      so_far ∙ ap (λ (ps : List Packets). ps ++ left)
      (sym (last_of_row ∙ ap (λ (ps : List Packets). row_from from due 0 to ++ ps) (row_none from due to 0 none)
      ∙ append-nil (row_from from due 0 to)))

-- the numbers that are due, by those that stand for them
pub none_due : (n : ℕ) → at_most n ≤ 0 → n ≡ 0
none_due n low = omega arith

pub some_due : (n : ℕ) → 0 < at_most n → 0 < n
some_due n high = omega arith

-- the packets of the ranks from one on
pub ranks_split : (lines : List Line) (all : List ℕ) (from : ℕ) (xs ys : List Ended) →
    packets_by_rank lines all from (xs ++ ys) ≡ packets_by_rank lines all from xs ++ packets_by_rank lines all
    (from + length xs) ys
ranks_split lines all from [] ys = let place : from ≡ from + 0 = omega arith in
    ap (λ (n : ℕ). packets_by_rank lines all n ys) place
ranks_split lines all from (x ∷ xs) ys =
    let place : (from + 1) + length xs ≡ from + length (x ∷ xs) = omega arith in
    ap (λ (ps : List Packets). packets_from lines all from x.events ++ ps)
    (ranks_split lines all (from + 1) xs ys
    ∙ ap (λ (n : ℕ). packets_by_rank lines all (from + 1) xs ++ packets_by_rank lines all n ys) place)
    ∙ sym (append_assoc (packets_from lines all from x.events) (packets_by_rank lines all (from + 1) xs)
    (packets_by_rank lines all (from + length (x ∷ xs)) ys))

module _ (from : ℕ) (due given : ℕ → ℕ) (same : (to : ℕ) → given to ≡ due to) where
  same_rows : (tos : List ℕ) → map (own from given) tos ≡ map (own from due) tos
  same_rows [] = refl
  same_rows (to ∷ tos) =
      ap (λ (n : ℕ). record { from = from; to = to; count = n } ∷ map (own from given) tos) (same to)
      ∙ ap (λ (ps : List Packets). own from due to ∷ ps) (same_rows tos)

-- the packets of a rank are a row
row_is : (lines : List Line) (many from : ℕ) (h : List Event) →
    packets_from lines (range_with_len 0 many) from h ≡ row_from from (packets_to h) 0 many
row_is lines many from h =
    ap (λ (ps : List Packets). filter (λ p. nat_lt 0 p.count) ps)
    (same_rows from (packets_to h) (λ to. length (outgoing (sent_body (commands_of from lines)) h to))
    (outgoing_count (sent_body (commands_of from lines)) h) (range_with_len 0 many))

-- the counts of one rank more
module _ (lines : List Line) (ranks : List RankAccount) (i : ℕ) (a : RankAccount) (inside : i < length ranks)
    (is : a ≡ get_or ranks i a) where
  abbrev ends : List Ended
  ends = ends_of ranks

  abbrev all : List ℕ
  all = range_with_len 0 (length ends)

  abbrev row : List Packets
  row = row_from i (packets_to a.history.events) 0 (length ranks)

  as_many : length ends ≡ length ranks
  as_many = length-map ranks end_of_account

  this_row : packets_from lines all i a.history.events ≡ row
  this_row =
      row_is lines (length ends) i a.history.events ∙ ap (λ (n : ℕ). row_from i (packets_to a.history.events) 0 n)
      as_many

  there : end_of_account a ≡ get_or ends i (end_of_account a)
  there =
      let low : i < length ends = omega (arith, as_many, inside) in
      same_Some (end_of_account a) (get_or ends i (end_of_account a))
      (sym (end_at ranks i a inside is) ∙ slice_get-get_or ends i (end_of_account a) low)

  one_rank : packets_by_rank lines all 0 (take (i + 1) ends) ≡ packets_by_rank lines all 0 (take i ends) ++ row
  one_rank =
      let low : i < length ends = omega (arith, as_many, inside) in
      let place : 0 + length (take i ends) ≡ i = omega (arith, length-take i ends, as_many, inside) in
      ap (λ (es : List Ended). packets_by_rank lines all 0 es) (take_next ends i (end_of_account a) low there)
      ∙ ranks_split lines all 0 (take i ends) (end_of_account a ∷ [])
      ∙ ap (λ (n : ℕ). packets_by_rank lines all 0 (take i ends) ++ (packets_from lines all n a.history.events ++ []))
      place
      ∙ ap (λ (ps : List Packets). packets_by_rank lines all 0 (take i ends) ++ ps)
      (append-nil (packets_from lines all i a.history.events) ∙ this_row)

  pub rank_more : (pairs left others : List Packets) → pairs ≡ packets_by_rank lines all 0 (take i ends) ++ left →
      left ≡ row ++ others →
      pairs ≡ packets_by_rank lines all 0 (take (i + 1) ends) ++ others
  rank_more pairs left others so_far here =
      so_far ∙ ap (λ (ps : List Packets). packets_by_rank lines all 0 (take i ends) ++ ps) here
      ∙ sym (append_assoc (packets_by_rank lines all 0 (take i ends)) row others)
      ∙ ap (λ (ps : List Packets). ps ++ others) (sym one_rank)

  pub rank_breaks : (pairs left : List Packets) → pairs ≡ packets_by_rank lines all 0 (take i ends) ++ left →
      ((rest : List Packets) → left ≡ row ++ rest → ⊥) → pairs ≡ packets_by_rank lines all 0 ends → ⊥
  rank_breaks pairs left so_far broken whole =
      let later : List Ended = drop (i + 1) ends in
      let n : ℕ = 0 + length (take (i + 1) ends) in
      let parts : ends ≡ take (i + 1) ends ++ later = sym (take-append-drop (i + 1) ends) in
      let split : packets_by_rank lines all 0 ends ≡ packets_by_rank lines all 0
      (take (i + 1) ends) ++ packets_by_rank lines all n later =
      ap (λ (es : List Ended). packets_by_rank lines all 0 es) parts ∙ ranks_split lines all 0
      (take (i + 1) ends) later in
      broken (packets_by_rank lines all n later)
      (append_cancel_left (packets_by_rank lines all 0 (take i ends)) left (row ++ packets_by_rank lines all n later)
      (sym so_far ∙ whole ∙ split ∙ ap (λ (ps : List Packets). ps ++ packets_by_rank lines all n later) one_rank
      ∙ append_assoc (packets_by_rank lines all 0 (take i ends)) row (packets_by_rank lines all n later)))

-- the counts of all ranks, by whether any are left
pub all_decided : (pairs left due : List Packets) (r : Bool) → pairs ≡ due ++ left → r ≡ (length left == 0) →
    Decides r (pairs ≡ due)
all_decided pairs [] due r so_far is = subst (λ (b : Bool). Decides b (pairs ≡ due)) (sym is) (so_far ∙ append-nil due)
all_decided pairs (p ∷ left) due r so_far is =
    let other : (length (p ∷ left) == 0) ≡ false = grind (arith, nat_tests) in
    subst (λ (b : Bool). Decides b (pairs ≡ due)) (sym (is ∙ other))
    (λ same. let none : p ∷ left ≡ [] = append_cancel_left due (p ∷ left) []
    (sym so_far ∙ same ∙ sym (append-nil due)) in cc)
