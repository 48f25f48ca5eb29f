-- A whole run is one by other numbers of lines, where those of a rank stay different.
use Rattle.std.proofs.Common.{◌≡◌, ℕ, zero, suc, ◌+◌, Bool, true, false, not, ◌&&◌, ◌||◌, Option, Some, None, List, []}
use Rattle.std.proofs.Common.{◌∷◌, ◌++◌, length, map, refl, sym, ◌∙◌, ap, subst, arith}
use Rattle.std.proofs.Math.Path.{fun_ext}
use Rattle.std.specs.Prelude.{if◌then◌else◌, IfSome, IsTrue, MatchOption, ◌==◌, nat_lt, option_map}
use Rattle.std.specs.Bool.{OnTrue}
use Rattle.std.specs.Option.{option_map_or}
use Rattle.std.specs.List.{AllByRecursion, filter, range_with_len, slice_get}
use Rattle.nm_types.specs.declared.scripts.Command.{Command}
use Rattle.nm_types.specs.Commands.{Numbered}
use Rattle.nm_types.specs.Sizes.{Sizes}
use Rattle.nm_history.specs.declared.events.Event.{Event}
use Rattle.nm_history.specs.declared.events.Happened.{Happened}
use Rattle.nm_history.specs.declared.events.Happened.TheVariants.{Send, Recall, Withdraw}
use Rattle.nm_history.specs.declared.plain.Pair.{Pair}
use Rattle.nm_history.specs.Answers.{can_go_on}
use Rattle.nm_history.specs.AtEach.{in_turn, in_turn_after}
use Rattle.nm_history.specs.Completion.{is_taken}
use Rattle.nm_history.specs.Delivery.{AreDelivered}
use Rattle.nm_history.specs.Happens.{happened, is_out, is_undone, is_whole}
use Rattle.nm_history.specs.Matching.{is_claimed, matched_pairs}
use Rattle.nm_history.specs.Outgoing.{Called, clear_packets, outgoing, packets_by, send_packets}
use Rattle.nm_history.specs.Quiescence.{AskedOver, EachPair, EachRank, EagerOver, Ended, IsAnswered, IsStopped, Packets}
use Rattle.nm_history.specs.Quiescence.{RecallsAnswered, is_kept_back, is_over, packets_by_rank_by, packets_from_by}
use Rattle.nm_history.specs.Quiescence.{packets_of_by}
use Rattle.nm_history.specs.RankRun.{IsRankRun}
use Rattle.nm_history.specs.Run.{IsRunBy}
use Rattle.nm_history.specs.Sends.{Arrived, Sent, arrivals, is_ask, sends, sent_body, sent_bytes}
use Rattle.std.proofs.lemmas.List.{length-map}
use Rattle.nm_transcript.specs.Renumbered.{KeepsApart, renumbered, renumbered_all, renumbered_command, renumbered_end}
use Rattle.nm_transcript.specs.Renumbered.{renumbered_ends, renumbered_event}
use Rattle.nm_transcript.proofs.AnswerLemmas.{found_same, goes_on_same}
use Rattle.nm_transcript.proofs.PairLemmas.{delivered_same, get_mapped, on_true}
use Rattle.nm_transcript.proofs.RankLemmas.{rank_run_same, true_of}
use Rattle.nm_transcript.proofs.SameLemmas.{arrivals_same, claimed_is, new_pair_is, out_same, push_same, resent}
use Rattle.nm_transcript.proofs.SameLemmas.{sends_same, taken_same, undone_same, whole_same}

-- so many packets from a rank to another
abbrev pub packets_between : ℕ → ℕ → ℕ → Packets
packets_between from to count = record { from = from; to = to; count = count }

module _ (f : ℕ → ℕ) (apart : KeepsApart f) (commands : List Numbered) where
  -- the packets that a history calls for
  packets_same : (to : ℕ) (before : List Event) (stamp : ℕ) (w : Happened) →
      packets_by (sent_body (map (renumbered_command f) commands)) to (renumbered_all f before) stamp (renumbered f w)
      ≡ packets_by (sent_body commands) to before stamp w
  packets_same to before stamp (Send to' n tag ctx len how line) =
      ap (λ (o : Option Command). if to' == to
      then send_packets (record {
        stamp = stamp;
        to = to';
        n = n;
        tag = tag;
        ctx = ctx;
        len = len;
        how = how;
        line = line;
      }) (option_map_or sent_bytes o [])
      else []) (found_same f apart commands line)
  packets_same to before stamp (Recall to' n) = refl
  packets_same to before stamp (Withdraw from n done) = refl
  packets_same to before stamp w =
      ap (λ (o : Option Pair). option_map_or (clear_packets to stamp) o []) (new_pair_is f before w)

  called_after : (to : ℕ) (b h : List Event) →
      in_turn_after (λ before e. packets_by (sent_body (map (renumbered_command f) commands)) to before e.stamp e.what)
      (renumbered_all f b) (renumbered_all f h)
      ≡ in_turn_after (λ before e. packets_by (sent_body commands) to before e.stamp e.what) b h
  called_after to b [] = refl
  called_after to b (e ∷ h) =
      ap (λ (xs : List Called). xs ++ in_turn_after
      (λ before e. packets_by (sent_body (map (renumbered_command f) commands)) to before e.stamp e.what)
      (renumbered_all f b ++ renumbered_event f e ∷ []) (renumbered_all f h)) (packets_same to b e.stamp e.what)
      ∙ ap (λ (k : List Event). packets_by (sent_body commands) to b e.stamp e.what ++ in_turn_after
      (λ before e. packets_by (sent_body (map (renumbered_command f) commands)) to before e.stamp e.what) k
      (renumbered_all f h)) (sym (push_same f b e))
      ∙ ap (λ (xs : List Called). packets_by (sent_body commands) to b e.stamp e.what ++ xs)
      (called_after to (b ++ e ∷ []) h)

  called_same : (to : ℕ) (h : List Event) →
      outgoing (sent_body (map (renumbered_command f) commands)) (renumbered_all f h) to
      ≡ outgoing (sent_body commands) h to
  unfolding in_turn
  called_same to h = called_after to [] h

  counts_same : (from : ℕ) (ranks : List ℕ) (h : List Event) (all : ℕ → List Numbered) → all from ≡ commands →
      (later : ℕ → List Numbered) → later from ≡ map (renumbered_command f) commands →
      packets_from_by later ranks from (renumbered_all f h) ≡ packets_from_by all ranks from h
  counts_same from ranks h all is later later_is =
      ap (λ (count : ℕ → Packets). filter (λ p. nat_lt 0 p.count) (map count ranks))
      (fun_ext (λ (to : ℕ). ap (λ (xs : List Called). packets_between from to (length xs))
      (ap (λ (cs : List Numbered). outgoing (sent_body cs) (renumbered_all f h) to) later_is
      ∙ called_same to h
      ∙ ap (λ (cs : List Numbered). outgoing (sent_body cs) h to) (sym is))))

  -- a rank that is at its end, or waits
  stopped_same : (rank : Ended) → IsStopped commands rank →
      IsStopped (map (renumbered_command f) commands) (renumbered_end f rank)
  stopped_same rank stopped =
      subst (λ (o : Option Numbered). MatchOption o (option_map f rank.waits ≡ None)
      (λ c. (option_map f rank.waits ≡ Some c.line)
      × (can_go_on (map (renumbered_command f) commands) (renumbered_all f rank.events) c.command ≡ false)))
      (sym (get_mapped (renumbered_command f) commands rank.at)) (by (slice_get commands rank.at) stopped) where
        by : (o : Option Numbered) →
            MatchOption o (rank.waits ≡ None)
            (λ c. (rank.waits ≡ Some c.line) × (can_go_on commands rank.events c.command ≡ false)) →
            MatchOption (option_map (renumbered_command f) o) (option_map f rank.waits ≡ None)
            (λ c. (option_map f rank.waits ≡ Some c.line)
            × (can_go_on (map (renumbered_command f) commands) (renumbered_all f rank.events) c.command ≡ false))
        by None none = ap (λ (w : Option ℕ). option_map f w) none
        by (Some c) some = (
          ap (λ (w : Option ℕ). option_map f w) some.0,
          goes_on_same f apart commands rank.events c.command ∙ some.1,
        )

module _ (f g : ℕ → ℕ) where
  all_resent : (P Q : Sent → Type 0) (ss : List Sent) → ((s : Sent) → P s → Q (resent f s)) → AllByRecursion P ss →
      AllByRecursion Q (map (resent f) ss)
  all_resent P Q [] imp all = tt
  all_resent P Q (s ∷ ss) imp all = (imp s all.0, all_resent P Q ss imp all.1)

  over_same : (i j : ℕ) (hi hj : List Event) (n : ℕ) →
      is_over i j (renumbered_all f hi) (renumbered_all g hj) n ≡ is_over i j hi hj n
  over_same i j hi hj n =
      ap (λ (b : Bool). b && happened (is_whole i n) (renumbered_all g hj)) (out_same f j n hi)
      ∙ ap (λ (b : Bool). happened (is_out j n) hi && b) (whole_same g i n hj)

  kept_back_same : (i j : ℕ) (hi hj : List Event) (n : ℕ) →
      is_kept_back i j (renumbered_all f hi) (renumbered_all g hj) n ≡ is_kept_back i j hi hj n
  kept_back_same i j hi hj n =
      ap (λ (b : Bool). not b && not (happened (is_whole i n) (renumbered_all g hj))) (out_same f j n hi)
      ∙ ap (λ (b : Bool). not (happened (is_out j n) hi) && not b) (whole_same g i n hj)

  eager_same : (i j : ℕ) (hi hj : List Event) → EagerOver i j hi hj →
      EagerOver i j (renumbered_all f hi) (renumbered_all g hj)
  eager_same i j hi hj over =
      subst (λ (ss : List Sent). AllByRecursion (λ s. OnTrue (not (is_ask s.how))
      (IsTrue (is_over i j (renumbered_all f hi) (renumbered_all g hj) s.n))) ss) (sym (sends_same f hi j))
      (all_resent (λ s. OnTrue (not (is_ask s.how)) (IsTrue (is_over i j hi hj s.n)))
      (λ s. OnTrue (not (is_ask s.how)) (IsTrue (is_over i j (renumbered_all f hi) (renumbered_all g hj) s.n)))
      (sends hi j)
      (λ s. on_true (IsTrue (is_over i j hi hj s.n)) (IsTrue (is_over i j (renumbered_all f hi) (renumbered_all g hj) s.n))
      (not (is_ask s.how))
      (true_of (is_over i j hi hj s.n) (is_over i j (renumbered_all f hi) (renumbered_all g hj) s.n)
      (over_same i j hi hj s.n))) over)

  asked_over_same : (i j : ℕ) (hi hj : List Event) → AskedOver i j hi hj →
      AskedOver i j (renumbered_all f hi) (renumbered_all g hj)
  asked_over_same i j hi hj over =
      subst (λ (ss : List Sent). AllByRecursion (λ s.
      OnTrue (is_ask s.how && is_taken (renumbered_all g hj) i s.n)
      (IsTrue (is_over i j (renumbered_all f hi) (renumbered_all g hj) s.n))
      × OnTrue (is_ask s.how && is_claimed (renumbered_all g hj) (matched_pairs (renumbered_all g hj)) i s.n)
      (IsTrue (is_kept_back i j (renumbered_all f hi) (renumbered_all g hj) s.n))) ss) (sym (sends_same f hi j))
      (all_resent (λ s. OnTrue (is_ask s.how && is_taken hj i s.n) (IsTrue (is_over i j hi hj s.n))
      × OnTrue (is_ask s.how && is_claimed hj (matched_pairs hj) i s.n) (IsTrue (is_kept_back i j hi hj s.n)))
      (λ s. OnTrue (is_ask s.how && is_taken (renumbered_all g hj) i s.n)
      (IsTrue (is_over i j (renumbered_all f hi) (renumbered_all g hj) s.n))
      × OnTrue (is_ask s.how && is_claimed (renumbered_all g hj) (matched_pairs (renumbered_all g hj)) i s.n)
      (IsTrue (is_kept_back i j (renumbered_all f hi) (renumbered_all g hj) s.n))) (sends hi j) (λ s holds. (
        subst (λ (b : Bool). OnTrue (is_ask s.how && b)
            (IsTrue (is_over i j (renumbered_all f hi) (renumbered_all g hj) s.n))) (sym (taken_same g hj i s.n))
            (subst (λ (b : Bool). OnTrue (is_ask s.how && is_taken hj i s.n) (IsTrue b))
            (sym (over_same i j hi hj s.n)) holds.0),
        subst (λ (b : Bool). OnTrue (is_ask s.how && b)
            (IsTrue (is_kept_back i j (renumbered_all f hi) (renumbered_all g hj) s.n))) (sym (claimed_is g hj i s.n))
            (subst (λ (b : Bool). OnTrue (is_ask s.how && is_claimed hj (matched_pairs hj) i s.n) (IsTrue b))
            (sym (kept_back_same i j hi hj s.n)) holds.1),
      )) over)

  arrived_same : (i j : ℕ) (hi hj : List Event) → length (arrivals hj i) ≡ length (sends hi j) →
      length (arrivals (renumbered_all g hj) i) ≡ length (sends (renumbered_all f hi) j)
  arrived_same i j hi hj same =
      ap (λ (xs : List Arrived). length xs) (arrivals_same g hj i) ∙ same
      ∙ sym (ap (λ (ss : List Sent). length ss) (sends_same f hi j) ∙ length-map (sends hi j) (resent f))

module _ (f : ℕ → ℕ) where
  answered_at : (all : List Event) (w : Happened) → IsAnswered all w →
      IsAnswered (renumbered_all f all) (renumbered f w)
  answered_at all (Recall to n) holds =
      true_of (happened (is_undone to n true) all || happened (is_undone to n false) all)
      (happened (is_undone to n true) (renumbered_all f all) || happened (is_undone to n false) (renumbered_all f all))
      (ap (λ (b : Bool). b || happened (is_undone to n false) (renumbered_all f all)) (undone_same f to n true all)
      ∙ ap (λ (b : Bool). happened (is_undone to n true) all || b) (undone_same f to n false all)) holds
  answered_at all w holds = tt

  recalls_in : (all h : List Event) → AllByRecursion (λ e. IsAnswered all e.what) h →
      AllByRecursion (λ e. IsAnswered (renumbered_all f all) e.what) (renumbered_all f h)
  recalls_in all [] each = tt
  recalls_in all (e ∷ h) each = (answered_at all e.what each.0, recalls_in all h each.1)

module _ (f : ℕ → ℕ → ℕ) where
  end_at : (k : ℕ) (ranks : List Ended) (i : ℕ) →
      slice_get (renumbered_ends f k ranks) i ≡ option_map (renumbered_end (f (k + i))) (slice_get ranks i)
  end_at k [] i = refl
  end_at k (rank ∷ ranks) zero =
      let place : k ≡ k + 0 = omega arith in ap (λ (n : ℕ). Some (renumbered_end (f n) rank)) place
  end_at k (rank ∷ ranks) (suc i) =
      let place : (k + 1) + i ≡ k + suc i = omega arith in
      end_at (k + 1) ranks i ∙ ap (λ (n : ℕ). option_map (renumbered_end (f n)) (slice_get ranks i)) place

  end_is : (ranks : List Ended) (i : ℕ) →
      slice_get (renumbered_ends f 0 ranks) i ≡ option_map (renumbered_end (f i)) (slice_get ranks i)
  end_is ranks i =
      let place : 0 + i ≡ i = omega arith in
      end_at 0 ranks i ∙ ap (λ (n : ℕ). option_map (renumbered_end (f n)) (slice_get ranks i)) place

  each_rank_same : (P Q : ℕ → Ended → Type 0) (ranks : List Ended) →
      ((i : ℕ) (rank : Ended) → P i rank → Q i (renumbered_end (f i) rank)) → EachRank P ranks →
      EachRank Q (renumbered_ends f 0 ranks)
  each_rank_same P Q ranks imp each i =
      subst (λ (o : Option Ended). IfSome o (Q i)) (sym (end_is ranks i)) (by (slice_get ranks i) (each i)) where
        by : (o : Option Ended) → IfSome o (P i) → IfSome (option_map (renumbered_end (f i)) o) (Q i)
        by None none = tt
        by (Some rank) some = imp i rank some

  each_pair_same : (P Q : ℕ → ℕ → List Event → List Event → Type 0) (ranks : List Ended) →
      ((i j : ℕ) (hi hj : List Event) → P i j hi hj → Q i j (renumbered_all (f i) hi) (renumbered_all (f j) hj)) →
      EachPair P ranks → EachPair Q (renumbered_ends f 0 ranks)
  each_pair_same P Q ranks imp each =
      each_rank_same (λ i a. EachRank (λ j b. P i j a.events b.events) ranks)
      (λ i a. EachRank (λ j b. Q i j a.events b.events) (renumbered_ends f 0 ranks)) ranks
      (λ i a inner. each_rank_same (λ j b. P i j a.events b.events)
      (λ j b. Q i j (renumbered_all (f i) a.events) b.events) ranks
      (λ j b holds. imp i j a.events b.events holds) inner) each

  many_same : (k : ℕ) (ranks : List Ended) → length (renumbered_ends f k ranks) ≡ length ranks
  many_same k [] = refl
  many_same k (rank ∷ ranks) = ap suc (many_same (k + 1) ranks)

module _ (f : ℕ → ℕ → ℕ) (apart : (i : ℕ) → KeepsApart (f i)) (commands : ℕ → List Numbered) where
  packets_by_rank_same : (numbers : List ℕ) (from : ℕ) (ranks : List Ended) →
      packets_by_rank_by (λ i. map (renumbered_command (f i)) (commands i)) numbers from (renumbered_ends f from ranks)
      ≡ packets_by_rank_by commands numbers from ranks
  packets_by_rank_same numbers from [] = refl
  packets_by_rank_same numbers from (rank ∷ ranks) =
      ap (λ (xs : List Packets). xs
      ++ packets_by_rank_by (λ i. map (renumbered_command (f i)) (commands i)) numbers (from + 1)
      (renumbered_ends f (from + 1) ranks))
      (counts_same (f from) (apart from) (commands from) from numbers rank.events commands refl
      (λ i. map (renumbered_command (f i)) (commands i)) refl)
      ∙ ap (λ (xs : List Packets). packets_from_by commands numbers from rank.events ++ xs)
      (packets_by_rank_same numbers (from + 1) ranks)

  packets_of_same : (ranks : List Ended) →
      packets_of_by (λ i. map (renumbered_command (f i)) (commands i)) (renumbered_ends f 0 ranks)
      ≡ packets_of_by commands ranks
  packets_of_same ranks =
      ap (λ (n : ℕ). packets_by_rank_by (λ i. map (renumbered_command (f i)) (commands i)) (range_with_len 0 n) 0
      (renumbered_ends f 0 ranks)) (many_same f 0 ranks)
      ∙ packets_by_rank_same (range_with_len 0 (length ranks)) 0 ranks

  -- a whole run
  pub run_same : (shape : Sizes) (ranks : List Ended) (packets : List Packets) → IsRunBy shape commands ranks packets →
      IsRunBy shape (λ i. map (renumbered_command (f i)) (commands i)) (renumbered_ends f 0 ranks) packets
  run_same shape ranks packets run = record {
    one_each = many_same f 0 ranks ∙ run.one_each;
    rank_runs = each_rank_same f (λ i rank. IsRankRun shape (commands i) rank.at rank.events)
        (λ i rank. IsRankRun shape (map (renumbered_command (f i)) (commands i)) rank.at rank.events) ranks
        (λ i rank runs. rank_run_same (f i) (apart i) (commands i) shape rank.at rank.events runs) run.rank_runs;
    delivered = each_pair_same f (λ i j hi hj. AreDelivered i j (commands i) (commands j) hi hj)
        (λ i j hi hj. AreDelivered i j (map (renumbered_command (f i)) (commands i))
        (map (renumbered_command (f j)) (commands j)) hi hj) ranks
        (λ i j hi hj holds. delivered_same (f i) (f j) (apart i) (apart j) i j (commands i) (commands j) hi hj holds)
        run.delivered;
    quiescent = record {
      arrived = each_pair_same f (λ i j hi hj. length (arrivals hj i) ≡ length (sends hi j))
          (λ i j hi hj. length (arrivals hj i) ≡ length (sends hi j)) ranks
          (λ i j hi hj same. arrived_same (f i) (f j) i j hi hj same) run.quiescent.arrived;
      eager = each_pair_same f EagerOver EagerOver ranks (λ i j hi hj over. eager_same (f i) (f j) i j hi hj over)
          run.quiescent.eager;
      asked = each_pair_same f AskedOver AskedOver ranks
          (λ i j hi hj over. asked_over_same (f i) (f j) i j hi hj over) run.quiescent.asked;
      recalls = each_rank_same f (λ i rank. RecallsAnswered rank.events) (λ i rank. RecallsAnswered rank.events) ranks
          (λ i rank all. recalls_in (f i) rank.events rank.events all) run.quiescent.recalls;
      waits = each_rank_same f (λ i rank. IsStopped (commands i) rank)
          (λ i rank. IsStopped (map (renumbered_command (f i)) (commands i)) rank) ranks
          (λ i rank stopped. stopped_same (f i) (apart i) (commands i) rank stopped) run.quiescent.waits;
      counts = run.quiescent.counts ∙ sym (packets_of_same ranks);
    };
  }
