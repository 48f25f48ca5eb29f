-- How many starts a history has at most, and how many packets it calls for.
use Rattle.std.proofs.Common.{◌≡◌, ℕ, suc, ◌+◌, ◌-◌, ◌*◌, ◌<◌, ◌≤◌, ◌==◌, Bool, true, false, cond, Option, Some, None}
use Rattle.std.proofs.Common.{List, [], ◌∷◌, ◌++◌, length, refl, ◌∙◌, ap, arith, length-append}
use Rattle.std.specs.Prelude.{if◌then◌else◌, count_by, filter, option_to_list, sum_by}
use Rattle.std.specs.List.{cons_option, slice_get}
use Rattle.std.specs.Option.{option_map_or}
use Rattle.std.proofs.lemmas.Bool.{false≢true}
use Rattle.std.proofs.lemmas.List.{length-map}
use Rattle.std.proofs.lemmas.List.Sums.{sum_by-append}
use Rattle.std.proofs.Math.Nat.{div-le_self}
use Rattle.nm_types.specs.declared.limits.TheConstants.{MAX_PAYLOAD}
use Rattle.nm_types.specs.declared.scripts.Command.{Command}
use Rattle.nm_types.specs.declared.scripts.Command.TheVariants as command
use Rattle.nm_types.specs.Commands.{Numbered, command_at}
use Rattle.nm_types.specs.Sizes.{Sizes}
use Rattle.nm_history.specs.declared.events.Event.{Event}
use Rattle.nm_history.specs.declared.events.Happened.{Happened}
use Rattle.nm_history.specs.declared.events.Happened.TheVariants as event
use Rattle.nm_history.specs.declared.plain.Pair.{Pair}
use Rattle.nm_history.specs.Answers.{Message, is_started, live_message}
use Rattle.nm_history.specs.AtEach.{AtEach}
use Rattle.nm_history.specs.Matching.{matched_pairs, new_pair}
use Rattle.nm_history.specs.Outgoing.{further_packets, is_clear, is_recall_to, is_withdraw_from, packets_of_send}
use Rattle.nm_history.specs.Outgoing.{packets_to}
use Rattle.nm_history.specs.RankRun.{StartAt, is_start, ran_lines, start_of, starts_since, without_number}
use Rattle.nm_history.specs.Sends.{Sent, is_ask, sends, sent_of}
use Rattle.nm_history.specs.Underway.{MayFollow, is_answer}
use Rattle.nm_history.proofs.DeliveryLemmas.{sends-push}
use Rattle.nm_history.proofs.OutgoingLemmas.{packets-push}
use Rattle.nm_history.proofs.RankRunLemmas.{ran_lines-push}
use Rattle.nm_outcomes.proofs.HappenedLemmas.{history_induction}
use Rattle.nm_listed.proofs.SteadyLemmas.{ran_same, starts_more}

-- how many starts a history has
abbrev pub starts_in : List Event → ℕ
starts_in h = count_by (λ (e : Event). is_start e.what) h

count_push : (test : Event → Bool) (h : List Event) (e : Event) →
    count_by test (h ++ e ∷ []) ≡ count_by test h + cond (test e) 1 0
count_push test h e =
    let more = sum_by-append (λ (x : Event). cond (test x) 1 0) h (e ∷ []) in omega (arith, more)

one_start : (eager : ℕ) (commands : List Numbered) (h : List Event) (line : ℕ) (b : Bool) (o : Option Command) →
    length (if b then option_map_or (start_of eager commands h line) o [] else []) ≤ 1
one_start eager commands h line false o = omega arith
one_start eager commands h line true None = omega arith
one_start eager commands h line true (Some (command.Send to q tag ctx sync body)) = omega arith
one_start eager commands h line true (Some (command.Recv q from tag ctx cap)) = omega arith
one_start eager commands h line true (Some (command.Mrecv q m cap)) = by_message (live_message commands h m)
  where
    by_message : (o : Option Message) →
        length (option_map_or (λ (message : Message). event.Match 0 message.from message.n cap line ∷ []) o []) ≤ 1
    by_message None = omega arith
    by_message (Some message) = omega arith
one_start eager commands h line true (Some c) = omega arith

no_packets : (to : ℕ) → packets_to [] to ≤ sum_by packets_of_send (sends [] to) + length {A = Event} []
unfolding matched_pairs
no_packets to = omega arith

module _ (shape : Sizes) (commands : List Numbered) where
  abbrev Fine : List Event → Type 0
  Fine h = AtEach (λ b e. MayFollow shape commands b e) h

  -- each command that ran has one start at most
  pub few_starts : (h : List Event) → Fine h → starts_in h ≤ length (ran_lines h) + length (starts_since h)
  few_starts =
      history_induction (λ b e. MayFollow shape commands b e)
      (λ h. starts_in h ≤ length (ran_lines h) + length (starts_since h)) grow (omega arith)
    where
      by_event : (h : List Event) (stamp : ℕ) (what : Happened) (b : Bool) → is_answer what ≡ b →
          starts_in h ≤ length (ran_lines h) + length (starts_since h) → StartAt shape.eager commands h what →
          starts_in (h ++ record { stamp = stamp; what = what } ∷ [])
          ≤ length (ran_lines (h ++ record { stamp = stamp; what = what } ∷ []))
          + length (starts_since (h ++ record { stamp = stamp; what = what } ∷ []))
      by_event h stamp what false quiet was start =
          let many = count_push (λ (e : Event). is_start e.what) h (record { stamp = stamp; what = what }) in
          let ran = ap (λ (ls : List ℕ). length ls) (ran_same h stamp what quiet) in
          let since = ap (λ (ws : List Happened). length ws) (starts_more h stamp what quiet)
          ∙ length-append (starts_since h) (cond (is_start what) (what ∷ []) []) in
          let one = one_more (is_start what) in
          omega (arith, was, many, ran, since, one)
        where
          one_more : (b : Bool) → length (cond b (what ∷ []) []) ≡ cond b 1 0
          one_more true = refl
          one_more false = refl
      by_event h stamp (event.Ran line a) true answer was start =
          let many = count_push (λ (e : Event). is_start e.what) h (record { stamp = stamp; what = event.Ran line a })
          in
          let ran = ap (λ (ls : List ℕ). length ls)
          (ran_lines-push h (record { stamp = stamp; what = event.Ran line a }))
          ∙ length-append (ran_lines h) (line ∷ []) in
          let few = one_start shape.eager commands h line (is_started a) (command_at commands line) in
          let since = ap (λ (ws : List Happened). length ws) start.0 in
          let long = length-map (starts_since h) without_number in
          omega (arith, was, many, ran, few, since, long)
      by_event h stamp what true answer was start = absurd (false≢true answer)

      grow : (h : List Event) (e : Event) → starts_in h ≤ length (ran_lines h) + length (starts_since h) →
          MayFollow shape commands h e →
          starts_in (h ++ e ∷ []) ≤ length (ran_lines (h ++ e ∷ [])) + length (starts_since (h ++ e ∷ []))
      grow h e was may = by_event h e.stamp e.what (is_answer e.what) refl was may.starts

  -- what is called for but for sends is at most one packet for each event
  pub few_packets : (to : ℕ) (h : List Event) → Fine h →
      packets_to h to ≤ sum_by packets_of_send (sends h to) + length h
  few_packets to =
      history_induction (λ b e. MayFollow shape commands b e)
      (λ h. packets_to h to ≤ sum_by packets_of_send (sends h to) + length h) grow (no_packets to)
    where
      of_option : (test : Pair → Bool) (o : Option Pair) → count_by test (option_to_list o) ≤ 1
      of_option test None = omega arith
      of_option test (Some pair) = by_test (test pair)
        where
          by_test : (b : Bool) → 0 + cond b 1 0 ≤ 1
          by_test true = omega arith
          by_test false = omega arith

      by_rank : (b : Bool) → 0 + cond b 1 0 ≤ 1
      by_rank true = omega arith
      by_rank false = omega arith

      one : (h : List Event) (stamp : ℕ) (what : Happened) →
          count_by (is_clear to) (option_to_list (new_pair h (matched_pairs h) what))
          + count_by (λ (x : Event). is_recall_to to x.what) (record { stamp = stamp; what = what } ∷ [])
          + count_by (λ (x : Event). is_withdraw_from to x.what) (record { stamp = stamp; what = what } ∷ []) ≤ 1
      one h stamp (event.Post p line) =
          let few = of_option (is_clear to) (new_pair h (matched_pairs h) (event.Post p line)) in omega (arith, few)
      one h stamp (event.Arrive a) =
          let few = of_option (is_clear to) (new_pair h (matched_pairs h) (event.Arrive a)) in omega (arith, few)
      one h stamp (event.Match number from n cap line) =
          let few = of_option (is_clear to) (new_pair h (matched_pairs h) (event.Match number from n cap line)) in
          omega (arith, few)
      one h stamp (event.Recall to' n) = let few = by_rank (to' == to) in omega (arith, few)
      one h stamp (event.Withdraw from n done) = let few = by_rank (from == to) in omega (arith, few)
      one h stamp what = omega arith

      grow : (h : List Event) (e : Event) → packets_to h to ≤ sum_by packets_of_send (sends h to) + length h →
          MayFollow shape commands h e →
          packets_to (h ++ e ∷ []) to ≤ sum_by packets_of_send (sends (h ++ e ∷ []) to) + length (h ++ e ∷ [])
      grow h e was may =
          let new : List Sent = filter (λ s. s.to == to) (cons_option (sent_of e.stamp e.what) []) in
          let all = packets-push h e to in
          let sent = ap (λ (ss : List Sent). sum_by packets_of_send ss) (sends-push h e to)
          ∙ sum_by-append packets_of_send (sends h to) new in
          let few = one h e.stamp e.what in
          let long = length-append h (e ∷ []) in
          omega (arith, was, all, sent, few, long)

-- a send is a start
pub sends_few : (h : List Event) (to : ℕ) → length (sends h to) ≤ starts_in h
sends_few [] to = omega arith
sends_few (e ∷ h) to = by_event e.what e.stamp (sends_few h to)
  where
    by_event : (what : Happened) (stamp : ℕ) → length (sends h to) ≤ starts_in h →
        length (sends (record { stamp = stamp; what = what } ∷ h) to)
        ≤ starts_in (record { stamp = stamp; what = what } ∷ h)
    by_event (event.Send to' n tag ctx len how line) stamp rest = by_rank (to' == to)
      where
        s : Sent
        s = record { stamp = stamp; to = to'; n = n; tag = tag; ctx = ctx; len = len; how = how; line = line }

        more : starts_in (record { stamp = stamp; what = event.Send to' n tag ctx len how line } ∷ h) ≡ 1 + starts_in h
        more = sum_by-append (λ (x : Event). cond (is_start x.what) 1 0)
            (record { stamp = stamp; what = event.Send to' n tag ctx len how line } ∷ []) h

        by_rank : (b : Bool) → length (cond b (s ∷ sends h to) (sends h to))
            ≤ starts_in (record { stamp = stamp; what = event.Send to' n tag ctx len how line } ∷ h)
        by_rank true = omega (arith, rest, more)
        by_rank false = omega (arith, rest, more)
    by_event what stamp rest =
        let more = sum_by-append (λ (x : Event). cond (is_start x.what) 1 0)
        (record { stamp = stamp; what = what } ∷ []) h in
        omega (arith, rest, more)

-- a short send calls for few packets
pub sum_few : (ss : List Sent) → ((k : ℕ) (s : Sent) → slice_get ss k ≡ Some s → s.len < 4294967296) →
    sum_by packets_of_send ss ≤ 4294967296 * length ss
sum_few [] short = omega arith
sum_few (s ∷ ss) short =
    let rest = sum_few ss (λ k x here. short (suc k) x here) in
    let first : packets_of_send s ≤ 4294967296 = by_how (is_ask s.how) in
    let all = sum_by-append packets_of_send (s ∷ []) ss in
    let one : sum_by packets_of_send (s ∷ []) ≡ packets_of_send s = omega arith in
    omega (arith, rest, first, all, one)
  where
    by_how : (b : Bool) → (if b then 1 else 1 + further_packets s.len) ≤ 4294967296
    by_how true = omega arith
    by_how false =
        let low = div-le_self (s.len - 1) MAX_PAYLOAD in
        let len = short 0 s refl in
        omega (arith, low, len)
