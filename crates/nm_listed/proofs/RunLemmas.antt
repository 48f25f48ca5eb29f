-- The record of a log behind which nothing is left is of a run.
use Rattle.std.proofs.Common.{◌≡◌, ◌⊎◌, inl, inr, ℕ, zero, suc, ◌+◌, ◌*◌, ◌<◌, ◌≤◌, ◌==◌, ◌&&◌, ◌||◌, not, Bool}
use Rattle.std.proofs.Common.{true, false, cond}
use Rattle.std.proofs.Common.{Option, Some, None, List, [], ◌∷◌, ◌++◌, length, map, refl, sym, ◌∙◌, ap, subst}
use Rattle.std.proofs.Common.{arith, append_assoc}
use Rattle.std.specs.Prelude.{if◌then◌else◌, IsTrue, MatchOption, count_by, filter_map, is_some}
use Rattle.std.specs.Prelude.{option_and_then, option_map}
use Rattle.std.specs.List.{find, list_any, range_with_len, slice_get}
use Rattle.std.specs.Bool.{OnTrue}
use Rattle.std.specs.Option.{option_map_or}
use Rattle.std.proofs.lemmas.Bool.{false≢true}
use Rattle.std.proofs.lemmas.List.Folds.{list_any-append}
use Rattle.nm_types.specs.declared.answers.Account.{Account}
use Rattle.nm_types.specs.declared.answers.Answer.TheVariants as answer
use Rattle.nm_types.specs.declared.messages.Arrival.{Arrival}
use Rattle.nm_types.specs.declared.messages.Envelope.{Envelope}
use Rattle.nm_types.specs.Bodies.{HaveTheirLength}
use Rattle.nm_types.specs.declared.scripts.Command.{Command}
use Rattle.nm_types.specs.declared.scripts.Command.TheVariants as command
use Rattle.nm_types.specs.declared.scripts.Line.{Line}
use Rattle.nm_types.specs.Commands.{Numbered, StandAtLines, commands_from, commands_of}
use Rattle.nm_types.specs.Limits.{IsScript, sent_len}
use Rattle.nm_types.specs.Sizes.{Sizes}
use Rattle.nm_types.proofs.ListLemmas.{get_from_map, map_length, place_below}
use Rattle.nm_types.proofs.NumberLemmas.{same_number}
use Rattle.nm_types.proofs.OptionLemmas.{if_each, mapped_none, no_some, same_some}
use Rattle.nm_types.proofs.TruthLemmas.{and_left, and_right, both, not_true, or_left, or_right}
use Rattle.nm_history.specs.declared.events.Event.{Event}
use Rattle.nm_history.specs.declared.events.Happened.{Happened}
use Rattle.nm_history.specs.declared.events.Happened.TheVariants as event
use Rattle.nm_history.specs.declared.plain.Pair.{Pair}
use Rattle.nm_history.specs.Answers.{can_go_on, live, request_at}
use Rattle.nm_history.specs.AtEach.{AtEach}
use Rattle.nm_history.specs.Completion.{Request, is_complete, is_here, is_taken, pair_of_receive, result_of}
use Rattle.nm_history.specs.Completion.Request.{Receiving, Sending}
use Rattle.nm_history.specs.Delivery.{AreDelivered, ArriveInOrder, OutAfterPair, earlier_than, is_asked}
use Rattle.nm_history.specs.Happens.{happened, is_arrival, is_cancel, is_claim, is_out, is_recall, is_send}
use Rattle.nm_history.specs.Happens.{is_undone, is_whole}
use Rattle.nm_history.specs.Matching.{is_claimed, is_of_message, is_of_receive, matched_pairs}
use Rattle.nm_history.specs.Quiescence.{AskedOver, EachPair, EachRank, EagerOver, Ended}
use Rattle.nm_history.specs.Quiescence.{IsAnswered, IsStopped}
use Rattle.nm_history.specs.Quiescence.{Packets, RecallsAnswered, is_kept_back, is_over, packets_of as packets_due}
use Rattle.nm_history.specs.Run.{IsRunOf}
use Rattle.nm_history.specs.RankRun.{EndAt, IsRankRun, NumberAt, WholeAt, is_asking, ran_lines}
use Rattle.nm_history.specs.Sends.{Arrived, Sent, arrivals, is_ask, sends, sent_bytes}
use Rattle.nm_history.specs.Underway.{MayFollow}
use Rattle.nm_history.proofs.AppendLemmas.{arrivals-append, sends-append}
use Rattle.nm_history.proofs.AtEachLemmas.{AtEach-split}
use Rattle.nm_history.proofs.Basic.{on_test}
use Rattle.nm_history.proofs.EarlierLemmas.{earlier_is_front}
use Rattle.nm_history.proofs.Lasting.{by_splits}
use Rattle.nm_history.proofs.MatchingLemmas.{matched_pairs-append}
use Rattle.nm_history.proofs.OnceLemmas.{eqb_self}
use Rattle.nm_history.proofs.RankRunLemmas.{rank_run-from_splits}
use Rattle.nm_report.specs.declared.accounts.RankAccount.{RankAccount}
use Rattle.nm_report.specs.declared.pairs.PairCount.{PairCount}
use Rattle.nm_report.specs.declared.records.RunRecord.{RunRecord}
use Rattle.nm_report.specs.Ends.{account_of, are_done, ends_of}
use Rattle.nm_report.specs.Lawful.{IsRunIn}
use Rattle.nm_report.specs.Told.{RankTold, Told, told_by, told_of}
use Rattle.nm_outcomes.specs.Logs.{Step, history_in}
use Rattle.nm_outcomes.specs.Paths.{AreCommands}
use Rattle.nm_outcomes.specs.RankStates.{Spot, free_lem, is_that}
use Rattle.nm_outcomes.specs.Results.{is_past_recall, is_unasked, may_end_with, may_have_left}
use Rattle.nm_outcomes.specs.declared.spots.deeds.Reply.TheVariants as reply
use Rattle.nm_outcomes.specs.Deeds.{happening}
use Rattle.nm_outcomes.specs.Looks.{IsSaid, is_answer_by, is_recall_by}
use Rattle.nm_outcomes.proofs.EndLemmas.{all_follow, all_rising, results_may_come}
use Rattle.nm_outcomes.proofs.FoundLemmas.{script_commands}
use Rattle.nm_outcomes.proofs.HappenedLemmas.{sent_so, split_any}
use Rattle.nm_outcomes.proofs.LogLemmas.{all_delivered}
use Rattle.nm_outcomes.proofs.SaidLemmas.{first_own, said}
use Rattle.nm_outcomes.proofs.SentLemmas.{sends_numbered, sent_place}
use Rattle.nm_outcomes.proofs.SpotLemmas.{off_is}
use Rattle.nm_match.specs.Deeds.{is_message}
use Rattle.nm_explored.specs.Successors.{answer_in, result_in, seen_at, sent_at, shown_at}
use Rattle.nm_explored.specs.declared.choices.moves.Turn.{Turn}
use Rattle.nm_explored.specs.Met.{IsWay}
use Rattle.nm_explored.proofs.TellLemmas.{script_short}
use Rattle.nm_explored.specs.Ends.{all_told, told_in}
use Rattle.nm_explored.specs.Rests.{AreAtRest, is_waiting}
use Rattle.nm_explored.specs.Lines.{line_in}
use Rattle.nm_explored.specs.Settings.{IsAt}
use Rattle.nm_explored.proofs.PlacedLemmas.{first_said, numbers_in}
use Rattle.nm_explored.proofs.RestLemmas.{no_told, told_map}
use Rattle.nm_listed.specs.Ends.{EndsAreRuns, RecordsAreCountable, RecordsAreRuns}
use Rattle.nm_listed.specs.Records.{IsCountable, IsRecordOf, all_ended, ended_as}
use Rattle.nm_listed.specs.Tellings.{Telling, all_over, finished, told_way}
use Rattle.nm_listed.proofs.AnswerLemmas.{shows_some}
use Rattle.nm_listed.proofs.BeginLemmas.{of_line}
use Rattle.nm_listed.proofs.CountLemmas.{few_packets, few_starts, sends_few, sum_few}
use Rattle.nm_listed.proofs.FinishLemmas.{AllEnded, Then, all_came, end_all, sends_still, spot_at}
use Rattle.nm_listed.proofs.HushLemmas.{recall_sent}
use Rattle.nm_listed.proofs.QuietLemmas.{asked_or_not, sent_as}
use Rattle.nm_listed.proofs.RangeLemmas.{all_from, each_there, map_same, map_twice, range_at, range_long}
use Rattle.nm_listed.proofs.ReachLemmas.{IsReached, is_at}
use Rattle.nm_listed.proofs.ResultLemmas.{left_said, past_said, recall_said, withdrawn_said}
use Rattle.nm_listed.proofs.SteadyLemmas.{Begins, IsBegun, IsIdle}
use Rattle.nm_listed.proofs.TellLemmas.{IsTold}
use Rattle.nm_listed.proofs.WayLemmas.{way_reached}

unasked_here : (ss : List Sent) (k : ℕ) (s : Sent) → slice_get ss k ≡ Some s → is_ask s.how ≡ false →
    is_unasked ss s.n ≡ true
unasked_here [] k s here plain = absurd (no_some s here)
unasked_here (x ∷ ss) zero s here plain =
    or_left (x.n == s.n && not (is_ask x.how)) _
    (ap (λ (x : Sent). x.n == s.n && not (is_ask x.how)) (same_some x s here)
    ∙ both (s.n == s.n) (not (is_ask s.how)) (eqb_self s.n) (ap not plain))
unasked_here (x ∷ ss) (suc k) s here plain =
    or_right (x.n == s.n && not (is_ask x.how)) _ (unasked_here ss k s here plain)

asked_here : (ss : List Sent) (k : ℕ) (s : Sent) → slice_get ss k ≡ Some s → is_ask s.how ≡ true →
    is_asked ss s.n ≡ true
asked_here [] k s here ask = absurd (no_some s here)
asked_here (x ∷ ss) zero s here ask =
    or_left (x.n == s.n && is_ask x.how) _
    (ap (λ (x : Sent). x.n == s.n && is_ask x.how) (same_some x s here)
    ∙ both (s.n == s.n) (is_ask s.how) (eqb_self s.n) ask)
asked_here (x ∷ ss) (suc k) s here ask = or_right (x.n == s.n && is_ask x.how) _ (asked_here ss k s here ask)

module _ (shape : Sizes) (lines : List Line) (commands : AreCommands shape.ranks lines)
    (script : IsScript shape.ranks lines) (states : List Spot)
    (rest : AreAtRest shape.ranks lines (λ k. slice_get states k)) (log : List Step)
    (told : IsTold shape lines log states)
    (ended : (i : ℕ) → i < shape.ranks → (j : ℕ) → j < shape.ranks →
    AllEnded shape lines commands script states rest i j (length (sends (history_in log i) j)) log) where
  abbrev hist : ℕ → List Event
  hist i = history_in log i

  abbrev mine : ℕ → List Numbered
  mine i = commands_of i lines

  follows : (i : ℕ) → AtEach (λ b e. MayFollow shape (mine i) b e) (hist i)
  follows = all_follow shape lines log told.is_log

  numbers : (i : ℕ) → AtEach (λ b e. NumberAt shape.ranks b e.what) (hist i)
  numbers = numbers_in shape lines log told.is_log

  carried : (i j : ℕ) → i < shape.ranks → j < shape.ranks → AreDelivered i j (mine i) (mine j) (hist i) (hist j)
  carried i j low below = all_delivered shape lines log told.is_log i j low below

  -- the message with this number is over, as far as it can be
  over_at : (i j : ℕ) → i < shape.ranks → j < shape.ranks → (k : ℕ) (s : Sent) →
      slice_get (sends (hist i) j) k ≡ Some s →
      may_have_left (hist i) (hist j) i j s.n ≡ true → is_over i j (hist i) (hist j) s.n ≡ true
  over_at i j low below k s here left =
      let x = spot_at shape lines commands script states rest log told i low in
      let y = spot_at shape lines commands script states rest log told j below in
      let inside : s.n < length (sends (hist i) j) =
      (let small = place_below (sends (hist i) j) k s here in
      let number = sends_numbered shape.ranks (hist i) (numbers i) j k s here in
      omega (arith, small, number)) in
      let end = (ended i low j below low below x.0 y.0 x.1 y.1 s.n inside).left left in
      both (happened (is_out j s.n) (hist i)) (happened (is_whole i s.n) (hist j)) end.0 end.1

  eager_over : (i j : ℕ) → i < shape.ranks → j < shape.ranks → EagerOver i j (hist i) (hist j)
  eager_over i j low below =
      all_from (λ (s : Sent). OnTrue (not (is_ask s.how)) (IsTrue (is_over i j (hist i) (hist j) s.n)))
      (sends (hist i) j)
      (λ k s here. on_test (not (is_ask s.how))
      (λ plain. over_at i j low below k s here
      (or_left (is_unasked (sends (hist i) j) s.n) _
      (unasked_here (sends (hist i) j) k s here (not_ask (is_ask s.how) plain)))))
    where
      not_ask : (b : Bool) → not b ≡ true → b ≡ false
      not_ask false is = refl
      not_ask true is = absurd (false≢true is)

  -- a message that was asked for has left only where a receive has it
  taken_by_now : (i j n stamp : ℕ) → is_taken (earlier_than stamp (hist j)) i n ≡ true → is_taken (hist j) i n ≡ true
  taken_by_now i j n stamp was =
      let front = earlier_is_front stamp (hist j) (all_rising shape lines log told.is_log j) in
      let more = matched_pairs-append (earlier_than stamp (hist j)) front.0 in
      ap (λ (h : List Event). list_any (is_of_message i n) (matched_pairs h)) front.1
      ∙ ap (λ (ps : List Pair). list_any (is_of_message i n) ps) more.1
      ∙ list_any-append (is_of_message i n) (matched_pairs (earlier_than stamp (hist j))) more.0
      ∙ or_left (is_taken (earlier_than stamp (hist j)) i n) (list_any (is_of_message i n) more.0) was

  out_taken : (i j : ℕ) → i < shape.ranks → j < shape.ranks → (n : ℕ) → is_asked (sends (hist i) j) n ≡ true →
      happened (is_out j n) (hist i) ≡ true → is_taken (hist j) i n ≡ true
  out_taken i j low below n asked out =
      let at = split_any (is_out j n) (hist i) out in
      by_event at.1.what at.1.stamp at.0 at.2 at.3 at.4
      (AtEach-split (λ b e. OutAfterPair i j (hist j) b e.stamp e.what) at.0 at.1 at.2
      (subst (λ (h : List Event). AtEach (λ b e. OutAfterPair i j (hist j) b e.stamp e.what) h) at.3
      (carried i j low below).outs))
      (AtEach-split (λ b e. MayFollow shape (mine i) b e) at.0 at.1 at.2
      (subst (λ (h : List Event). AtEach (λ b e. MayFollow shape (mine i) b e) h) at.3 (follows i))).ends
    where
      by_event : (what : Happened) (stamp : ℕ) (before after : List Event) →
          hist i ≡ before ++ record { stamp = stamp; what = what } ∷ after → is_out j n what ≡ true →
          OutAfterPair i j (hist j) before stamp what → EndAt before what → is_taken (hist j) i n ≡ true
      by_event (event.Out to m) stamp before after split is right ends =
          let one : to ≡ j = same_number to j (and_left (to == j) (m == n) is) in
          let two : m ≡ n = same_number m n (and_right (to == j) (m == n) is) in
          let sent : happened (is_send j n) before ≡ true =
          subst (λ (k : ℕ). happened (is_send k n) before ≡ true) one
          (subst (λ (k : ℕ). happened (is_send to k) before ≡ true) two ends.1) in
          by_how (sent_so j n before sent)
          (subst (λ (k : ℕ). OnTrue (to == j && is_asked (sends before j) k)
          (IsTrue (is_taken (earlier_than stamp (hist j)) i k))) two right) (and_left (to == j) (m == n) is)
        where
          by_how : (is_asked (sends before j) n ≡ true) ⊎ (is_unasked (sends before j) n ≡ true) →
              OnTrue (to == j && is_asked (sends before j) n) (IsTrue (is_taken (earlier_than stamp (hist j)) i n)) →
              (to == j) ≡ true → is_taken (hist j) i n ≡ true
          by_how (inl asked') right same =
              taken_by_now i j n stamp
              (subst (λ (b : Bool). OnTrue b (IsTrue (is_taken (earlier_than stamp (hist j)) i n)))
              (both (to == j) (is_asked (sends before j) n) same asked') right)
          by_how (inr plain) right same =
              absurd (asked_or_not (hist i) j n (sends_numbered shape.ranks (hist i) (numbers i)) asked
              (ap (λ (h : List Event). is_unasked (sends h j) n) split
              ∙ ap (λ (ss : List Sent). is_unasked ss n)
              (sends-append before (record { stamp = stamp; what = event.Out to m } ∷ after) j)
              ∙ list_any-append (λ (s : Sent). s.n == n && not (is_ask s.how)) (sends before j) _
              ∙ or_left (is_unasked (sends before j) n) _ plain))
      by_event what stamp before after split is right ends = absurd (false≢true is)

  -- .. and is whole only there
  came_asking : (i j : ℕ) → i < shape.ranks → j < shape.ranks → (n k : ℕ) (s : Sent) →
      slice_get (sends (hist i) j) k ≡ Some s → s.n ≡ n → is_ask s.how ≡ true → (before after : List Event) →
      hist j ≡ before ++ after → happened (is_arrival i n) before ≡ true → happened (is_asking i n) before ≡ true
  came_asking i j low below n k s here number ask before after split came =
      let at = split_any (is_arrival i n) before came in
      by_event at.1.what at.1.stamp at.0 at.2 at.3 at.4
    where
      whole : (b rest : List Event) (stamp : ℕ) (what : Happened) →
          before ≡ b ++ record { stamp = stamp; what = what } ∷ rest →
          hist j ≡ b ++ record { stamp = stamp; what = what } ∷ (rest ++ after)
      whole b rest stamp what is =
          split ∙ ap (λ (h : List Event). h ++ after) is
          ∙ append_assoc b (record { stamp = stamp; what = what } ∷ rest) after

      by_event : (what : Happened) (stamp : ℕ) (b rest : List Event) →
          before ≡ b ++ record { stamp = stamp; what = what } ∷ rest → is_arrival i n what ≡ true →
          happened (is_asking i n) before ≡ true
      by_event (event.Arrive a) stamp b rest is so =
          let from : (a.env.from == i) ≡ true = and_left (a.env.from == i) (a.n == n) so in
          let same : a.n ≡ n = same_number a.n n (and_right (a.env.from == i) (a.n == n) so) in
          let at : hist j ≡ b ++ record { stamp = stamp; what = event.Arrive a } ∷ (rest ++ after) =
          whole b rest stamp (event.Arrive a) is in
          let counted : NumberAt shape.ranks b (event.Arrive a) =
          AtEach-split (λ b e. NumberAt shape.ranks b e.what) b (record { stamp = stamp; what = event.Arrive a })
          (rest ++ after)
          (subst (λ (h : List Event). AtEach (λ b e. NumberAt shape.ranks b e.what) h) at (numbers j)) in
          let place : length (arrivals b i) ≡ n =
          ap (λ (x : ℕ). length (arrivals b x)) (sym (same_number a.env.from i from)) ∙ sym counted.1 ∙ same in
          let order : arrivals (hist j) i
          ≡ arrivals b i ++ record { stamp = stamp; arrival = a } ∷ arrivals (rest ++ after) i =
          ap (λ (h : List Event). arrivals h i) at
          ∙ arrivals-append b (record { stamp = stamp; what = event.Arrive a } ∷ (rest ++ after)) i
          ∙ ap (λ (c : Bool). arrivals b i ++ cond c
          (record { stamp = stamp; arrival = a } ∷ arrivals (rest ++ after) i)
          (arrivals (rest ++ after) i)) from in
          let sent = sent_as i (sends (hist i) j) (arrivals b i) (record { stamp = stamp; arrival = a })
          (arrivals (rest ++ after) i)
          (subst (λ (as' : List Arrived). ArriveInOrder i (sends (hist i) j) as') order
          (carried i j low below).messages) in
          let spot : k ≡ length (arrivals b i) =
          sym (sends_numbered shape.ranks (hist i) (numbers i) j k s here) ∙ number ∙ sym place in
          let one : s ≡ sent.0 =
          same_some s sent.0 (sym here ∙ ap (λ (x : ℕ). slice_get (sends (hist i) j) x) spot ∙ sent.1) in
          ap (λ (h : List Event). happened (is_asking i n) h) is
          ∙ list_any-append (λ (e : Event). is_asking i n e.what) b
          (record { stamp = stamp; what = event.Arrive a } ∷ rest)
          ∙ or_right (happened (is_asking i n) b) _
          (or_left (a.env.from == i && a.n == n && is_ask a.env.how) _
          (both (a.env.from == i && a.n == n) (is_ask a.env.how) so
          (ap (λ (e : Envelope). is_ask e.how) sent.2 ∙ ap (λ (x : Sent). is_ask x.how) (sym one) ∙ ask)))
      by_event what stamp b rest is so = absurd (false≢true so)

  whole_taken : (i j : ℕ) → i < shape.ranks → j < shape.ranks → (k : ℕ) (s : Sent) →
      slice_get (sends (hist i) j) k ≡ Some s → is_ask s.how ≡ true → happened (is_whole i s.n) (hist j) ≡ true →
      is_taken (hist j) i s.n ≡ true
  whole_taken i j low below k s here ask whole =
      let at = split_any (is_whole i s.n) (hist j) whole in
      by_event at.1.what at.1.stamp at.0 at.2 at.3 at.4
      (AtEach-split (λ b e. MayFollow shape (mine j) b e) at.0 at.1 at.2
      (subst (λ (h : List Event). AtEach (λ b e. MayFollow shape (mine j) b e) h) at.3 (follows j))).wholes
    where
      by_event : (what : Happened) (stamp : ℕ) (before after : List Event) →
          hist j ≡ before ++ record { stamp = stamp; what = what } ∷ after → is_whole i s.n what ≡ true →
          WholeAt before what → is_taken (hist j) i s.n ≡ true
      by_event (event.Whole from m) stamp before after split is right =
          let one : from ≡ i = same_number from i (and_left (from == i) (m == s.n) is) in
          let two : m ≡ s.n = same_number m s.n (and_right (from == i) (m == s.n) is) in
          let right2 : WholeAt before (event.Whole i s.n) =
          subst (λ (x : ℕ). WholeAt before (event.Whole x s.n)) one
          (subst (λ (y : ℕ). WholeAt before (event.Whole from y)) two right) in
          let asking = came_asking i j low below s.n k s here refl ask before
          (record { stamp = stamp; what = event.Whole from m } ∷ after) split right2.1 in
          let taken : is_taken before i s.n ≡ true =
          subst (λ (b : Bool). OnTrue b (IsTrue (is_taken before i s.n))) asking right2.2 in
          let more = matched_pairs-append before (record { stamp = stamp; what = event.Whole from m } ∷ after) in
          ap (λ (h : List Event). list_any (is_of_message i s.n) (matched_pairs h)) split
          ∙ ap (λ (ps : List Pair). list_any (is_of_message i s.n) ps) more.1
          ∙ list_any-append (is_of_message i s.n) (matched_pairs before) more.0
          ∙ or_left (is_taken before i s.n) _ taken
      by_event what stamp before after split is right = absurd (false≢true is)

  asked_over : (i j : ℕ) → i < shape.ranks → j < shape.ranks → AskedOver i j (hist i) (hist j)
  asked_over i j low below =
      all_from (λ (s : Sent).
      OnTrue (is_ask s.how && is_taken (hist j) i s.n) (IsTrue (is_over i j (hist i) (hist j) s.n))
      × OnTrue (is_ask s.how && is_claimed (hist j) (matched_pairs (hist j)) i s.n)
      (IsTrue (is_kept_back i j (hist i) (hist j) s.n))) (sends (hist i) j)
      (λ k s here. (
        on_test (is_ask s.how && is_taken (hist j) i s.n)
            (λ is. over_at i j low below k s here
            (or_right (is_unasked (sends (hist i) j) s.n) _ (and_right (is_ask s.how) (is_taken (hist j) i s.n) is))),
        on_test (is_ask s.how && is_claimed (hist j) (matched_pairs (hist j)) i s.n)
            (λ is. kept k s here (and_left (is_ask s.how) _ is)
            (not_taken (is_taken (hist j) i s.n) (and_right (happened (is_claim i s.n) (hist j)) _
            (and_right (is_ask s.how) _ is)))),
      ))
    where
      not_taken : (b : Bool) → not b ≡ true → b ≡ false
      not_taken false is = refl
      not_taken true is = absurd (false≢true is)

      kept : (k : ℕ) (s : Sent) → slice_get (sends (hist i) j) k ≡ Some s → is_ask s.how ≡ true →
          is_taken (hist j) i s.n ≡ false → is_kept_back i j (hist i) (hist j) s.n ≡ true
      kept k s here ask open' =
          both (not (happened (is_out j s.n) (hist i))) (not (happened (is_whole i s.n) (hist j)))
          (ap not (not_true _ (λ out.
          false≢true (sym open' ∙ out_taken i j low below s.n (asked_here (sends (hist i) j) k s here ask) out))))
          (ap not (not_true _ (λ whole. false≢true (sym open' ∙ whole_taken i j low below k s here ask whole))))

  recalls_answered : (i : ℕ) → i < shape.ranks → RecallsAnswered (hist i)
  recalls_answered i low =
      by_splits (λ e. IsAnswered (hist i) e.what) (hist i) [] (hist i) refl
      (λ b e after split. by_event e.what e.stamp b after split)
    where
      by_event : (what : Happened) (stamp : ℕ) (b after : List Event) →
          hist i ≡ b ++ record { stamp = stamp; what = what } ∷ after → IsAnswered (hist i) what
      by_event (event.Recall to n) stamp b after split =
          let recalled : happened (is_recall to n) (hist i) ≡ true =
          ap (λ (h : List Event). happened (is_recall to n) h) split
          ∙ list_any-append (λ (e : Event). is_recall to n e.what) b
          (record { stamp = stamp; what = event.Recall to n } ∷ after)
          ∙ or_right (happened (is_recall to n) b) _
          (or_left (to == to && n == n) _ (both (to == to) (n == n) (eqb_self to) (eqb_self n))) in
          let sent = recall_sent shape (mine i) (hist i) (follows i) to n recalled in
          let place = sent_place (hist i) to n sent in
          let below : to < shape.ranks = ((told.steady i).sent to place.0 place.1 place.2).3 in
          let inside : n < length (sends (hist i) to) =
          (let small = place_below (sends (hist i) to) place.0 place.1 place.2 in
          let number = sends_numbered shape.ranks (hist i) (numbers i) to place.0 place.1 place.2 in
          let same = same_number place.1.n n place.3 in
          omega (arith, small, number, same)) in
          let x = spot_at shape lines commands script states rest log told i low in
          let y = spot_at shape lines commands script states rest log told to below in
          (ended i low to below low below x.0 y.0 x.1 y.1 n inside).recalls recalled
      by_event what stamp b after split = tt

  -- one rank
  module _ (i : ℕ) (low : i < shape.ranks) where
    abbrev spot : Spot
    spot = (spot_at shape lines commands script states rest log told i low).0

    here : slice_get states i ≡ Some spot
    here = (spot_at shape lines commands script states rest log told i low).1

    at : IsAt shape lines log (λ k. slice_get states k) i spot
    at = is_at shape lines commands script log states told i low spot here

    say : IsSaid lines (hist i) spot
    say = said lines (hist i) spot at.is

    -- the next command is held up
    held : (x : Numbered) → slice_get (mine i) (length (ran_lines (hist i))) ≡ Some x →
        (is_waiting x.command ≡ true) × (answer_in (λ k. slice_get states k) lines i spot x.line x.command ≡ None)
    held x next =
        (rest i low).held spot here x.line x.command
        (ap (λ (k : ℕ). line_in lines i k) say.ran ∙ ap (λ (o : Option Numbered). option_map (λ c. c.line) o) next)
        (commands.stand i (length (ran_lines (hist i))) x next)

    idle_end : IsIdle (hist i)
    idle_end = by_stage (told.steady i).stage
      where
        never : (c : Command) (line : ℕ) (last : Happened) → is_waiting c ≡ true →
            Begins shape.eager (mine i) (hist i) line c last → ⊥
        never (command.Wait q) line last waits begun = begun
        never (command.Await from tag ctx) line last waits begun = begun
        never (command.Send to q tag ctx sync body) line last waits begun = false≢true waits
        never (command.Recv q from tag ctx cap) line last waits begun = false≢true waits
        never (command.Test q) line last waits begun = begun
        never (command.Probe from tag ctx) line last waits begun = begun
        never (command.Cancel q) line last waits begun = false≢true waits
        never (command.Mprobe m from tag ctx) line last waits begun = false≢true waits
        never (command.Mrecv q m cap) line last waits begun = false≢true waits

        by_stage : IsIdle (hist i) ⊎ IsBegun shape.eager (mine i) (hist i) → IsIdle (hist i)
        by_stage (inl idle) = idle
        by_stage (inr b) =
            absurd (never b.command.command b.command.line b.last (held b.command b.next).0 b.begun)

    -- a request that can't end is not complete
    not_complete : (q : ℕ) (request : Request) → live (mine i) (hist i) q ≡ Some request →
        result_in (λ k. slice_get states k) i spot request ≡ None → is_complete (hist i) request ≡ false
    not_complete q (Receiving number) live_is none =
        by_off (happened (is_cancel number) (hist i)) (pair_of_receive (hist i) number) refl
        (sym (ap (λ (b : Bool). if b then Some reply.Cancelled
        else option_and_then (shown_at (λ k. slice_get states k) i) (find (is_of_receive number) spot.pairs))
        (off_is lines (hist i) spot at.is number)
        ∙ ap (λ (o : Option Pair). if happened (is_cancel number) (hist i) then Some reply.Cancelled
        else option_and_then (shown_at (λ k. slice_get states k) i) o) (at.is.paired number)) ∙ none)
      where
        some_none : {X : Type 0} (x : X) → Some x ≡ None → ⊥
        some_none x is = no_some x (sym is)

        by_off : (b : Bool) (o : Option Pair) → pair_of_receive (hist i) number ≡ o →
            (if b then Some reply.Cancelled else option_and_then (shown_at (λ k. slice_get states k) i) o) ≡ None →
            (b || option_map_or (is_here (hist i)) o false) ≡ false
        by_off true o found none = absurd (some_none reply.Cancelled none)
        by_off false None found none = refl
        by_off false (Some pair) found none =
            let shows = shows_some shape lines commands script states i low spot here log told number pair found in
            absurd (some_none shows.0 (sym shows.1 ∙ none))
    not_complete q (Sending to n) live_is none = not_true _ (λ complete. by_result complete)
      where
        line : (line : ℕ) × (request_at (hist i) line ≡ Some (Sending to n))
        line = of_line (request_at (hist i)) _ (Sending to n) live_is

        below : to < shape.ranks
        below = at.within line.0 to n line.1

        other : (x : Spot) × (slice_get states to ≡ Some x)
        other = spot_at shape lines commands script states rest log told to below

        some_none : {X : Type 0} (x : X) → Some x ≡ None → ⊥
        some_none x is = no_some x (sym is)

        may : may_end_with (history_in log) i (Sending to n) ≡ None
        may =
            ap (λ (b : Bool). if b then Some answer.Cancelled
            else if may_have_left (hist i) (hist to) i to n
            && (not (happened (is_recall to n) (hist i)) || is_past_recall (hist to) i n)
            then Some answer.Sent else None)
            (sym (withdrawn_said shape lines commands script states i low spot here to n below other.0 other.1 log
            told))
            ∙ by_flags (list_any (is_that i n) other.0.withdrawn)
            (may_have_left (hist i) (hist to) i to n
            && (not (happened (is_recall to n) (hist i)) || is_past_recall (hist to) i n))
            (sym (ap (λ (o : Option Spot). option_and_then (λ other. sent_at spot other i to n) o) other.1
            ∙ ap (λ (b : Bool). if list_any (is_that i n) other.0.withdrawn then Some reply.Cancelled
            else if b && (not (list_any (is_recall_by to n) spot.deeds)
            || (list_any (is_message i n) other.0.came && not (free_lem other.0 i n)))
            then Some reply.Sent else None)
            (left_said shape lines commands script states i low spot here to n below other.0 other.1 log told)
            ∙ ap (λ (b : Bool). if list_any (is_that i n) other.0.withdrawn then Some reply.Cancelled
            else if may_have_left (hist i) (hist to) i to n && (not b
            || (list_any (is_message i n) other.0.came && not (free_lem other.0 i n)))
            then Some reply.Sent else None)
            (recall_said shape lines commands script states i low spot here to n below other.0 other.1 log told)
            ∙ ap (λ (b : Bool). if list_any (is_that i n) other.0.withdrawn then Some reply.Cancelled
            else if may_have_left (hist i) (hist to) i to n && (not (happened (is_recall to n) (hist i)) || b)
            then Some reply.Sent else None)
            (past_said shape lines commands script states i low spot here to n below other.0 other.1 log told)) ∙ none)
          where
            by_flags : (w c : Bool) →
                (if w then Some reply.Cancelled else if c then Some reply.Sent else None) ≡ None →
                (if w then Some answer.Cancelled else if c then Some answer.Sent else None) ≡ None
            by_flags true c none = absurd (some_none reply.Cancelled none)
            by_flags false true none = absurd (some_none reply.Sent none)
            by_flags false false none = refl

        by_result : is_complete (hist i) (Sending to n) ≡ true → ⊥
        by_result complete =
            let u : Bool = happened (is_undone to n true) (hist i) in
            let result : result_of (hist i) (Sending to n) ≡ Some (if u then answer.Cancelled else answer.Sent) =
            ap (λ (b : Bool). if b then Some (if u then answer.Cancelled else answer.Sent) else None) complete in
            no_some _
            (sym may
            ∙ results_may_come shape lines log told.is_log i low (Sending to n) below
            (if u then answer.Cancelled else answer.Sent) result)

    stopped : IsStopped (mine i) (record {
      at = length (ran_lines (hist i));
      waits = option_map (λ c. c.line) (slice_get (mine i) (length (ran_lines (hist i))));
      events = hist i;
    })
    stopped = by_next (slice_get (mine i) (length (ran_lines (hist i)))) refl
      where
        some_none : {X : Type 0} (x : X) → Some x ≡ None → ⊥
        some_none x is = no_some x (sym is)

        waits_on : (c : Command) (line : ℕ) → is_waiting c ≡ true →
            answer_in (λ k. slice_get states k) lines i spot line c ≡ None → can_go_on (mine i) (hist i) c ≡ false
        waits_on (command.Wait q) line waits none =
            by_live (live (mine i) (hist i) q) refl
            (sym (ap (λ (o : Option Request). option_map_or (result_in (λ k. slice_get states k) i spot) o
            (Some reply.Null)) (say.live i q)) ∙ none)
          where
            by_live : (o : Option Request) → live (mine i) (hist i) q ≡ o →
                option_map_or (result_in (λ k. slice_get states k) i spot) o (Some reply.Null) ≡ None →
                option_map_or (is_complete (hist i)) o true ≡ false
            by_live None live_is none = absurd (some_none reply.Null none)
            by_live (Some request) live_is none = not_complete q request live_is none
        waits_on (command.Await from tag ctx) line waits none =
            ap (λ (o : Option Arrival). is_some o)
            (sym (first_said lines (hist i) spot at.is from tag ctx) ∙ mapped_none seen_at _ none)
        waits_on (command.Send to q tag ctx sync body) line waits none = absurd (false≢true waits)
        waits_on (command.Recv q from tag ctx cap) line waits none = absurd (false≢true waits)
        waits_on (command.Test q) line waits none = absurd (false≢true waits)
        waits_on (command.Probe from tag ctx) line waits none = absurd (false≢true waits)
        waits_on (command.Cancel q) line waits none = absurd (false≢true waits)
        waits_on (command.Mprobe m from tag ctx) line waits none = absurd (false≢true waits)
        waits_on (command.Mrecv q m cap) line waits none = absurd (false≢true waits)

        by_next : (o : Option Numbered) → slice_get (mine i) (length (ran_lines (hist i))) ≡ o →
            MatchOption o (option_map (λ (c : Numbered). c.line) o ≡ None)
            (λ c. (option_map (λ (c : Numbered). c.line) o ≡ Some c.line)
            × (can_go_on (mine i) (hist i) c.command ≡ false))
        by_next None next = refl
        by_next (Some x) next = let up = held x next in (refl, waits_on x.command x.line up.0 up.1)

    own_run : IsRankRun shape (mine i) (length (ran_lines (hist i))) (hist i)
    own_run =
        rank_run-from_splits shape (mine i) (length (ran_lines (hist i))) (hist i)
        (λ before e after split.
        AtEach-split (λ b e. MayFollow shape (mine i) b e) before e after
        (subst (λ (h : List Event). AtEach (λ b e. MayFollow shape (mine i) b e) h) split (follows i)))
        (told.steady i).few (told.steady i).order idle_end.starts idle_end.cancels idle_end.claims

    told_here : told_in lines i spot
        ≡ record {
          answers = filter_map (λ (e : Event). told_by e.what) (hist i);
          waits = option_map (λ (c : Numbered). c.line) (slice_get (mine i) (length (ran_lines (hist i))));
        }
    told_here =
        ap (λ (ts : List Told). record { answers = ts; waits = line_in lines i (count_by is_answer_by spot.deeds) })
        (told_map (happening lines) spot.deeds ∙ ap (λ (ws : List Happened). filter_map told_by ws) at.is.deeds
        ∙ sym (first_own told_by no_told (hist i)))
        ∙ ap (λ (k : ℕ). record {
          answers = filter_map (λ (e : Event). told_by e.what) (hist i);
          waits = line_in lines i k;
        }) say.ran

    -- what became of the rank, by its state
    ended_here : option_map (ended_as lines log i) (slice_get states i)
        ≡ Some (record {
          at = length (ran_lines (hist i));
          waits = option_map (λ c. c.line) (slice_get (mine i) (length (ran_lines (hist i))));
          events = hist i;
        })
    ended_here =
        ap (λ (o : Option Spot). option_map (ended_as lines log i) o) here
        ∙ ap (λ (k : ℕ). Some (record { at = k; waits = line_in lines i k; events = hist i })) say.ran

  -- what became of the ranks
  abbrev end_at : ℕ → Ended
  end_at i = record {
    at = length (ran_lines (hist i));
    waits = option_map (λ c. c.line) (slice_get (mine i) (length (ran_lines (hist i))));
    events = hist i;
  }

  abbrev pub all_ends : List Ended
  all_ends = map end_at (range_with_len 0 shape.ranks)

  each_made : (R : ℕ → Ended → Type 0) → ((i : ℕ) → i < shape.ranks → R i (end_at i)) → EachRank R all_ends
  each_made R each i =
      if_each (R i) (slice_get all_ends i)
      (λ e here.
      let k = get_from_map end_at (range_with_len 0 shape.ranks) i e here in
      let place = range_at 0 shape.ranks i k.0 k.1 in
      let number : i ≡ k.0 = (let p = place.0 in omega (arith, p)) in
      subst (λ (e : Ended). R i e) (ap (λ (x : ℕ). end_at x) number ∙ k.2) (each i place.1))

  each_two : (R : ℕ → ℕ → List Event → List Event → Type 0) →
      ((i j : ℕ) → i < shape.ranks → j < shape.ranks → R i j (hist i) (hist j)) → EachPair R all_ends
  each_two R each =
      each_made (λ i a. EachRank (λ j b. R i j a.events b.events) all_ends)
      (λ i low. each_made (λ j b. R i j (hist i) b.events) (λ j below. each i j low below))

  -- they are those of a run
  run_of : IsRunOf shape lines all_ends (packets_due lines all_ends)
  run_of = record {
    one_each = map_length end_at (range_with_len 0 shape.ranks) ∙ range_long 0 shape.ranks;
    rank_runs = each_made (λ i rank. IsRankRun shape (mine i) rank.at rank.events) (λ i low. own_run i low);
    delivered = each_two (λ i j hi hj. AreDelivered i j (mine i) (mine j) hi hj) carried;
    quiescent = record {
      arrived = each_two (λ i j hi hj. length (arrivals hj i) ≡ length (sends hi j))
          (λ i j low below.
          let x = spot_at shape lines commands script states rest log told i low in
          let y = spot_at shape lines commands script states rest log told j below in
          all_came shape lines commands script states rest i j low below x.0 y.0 x.1 y.1 log told);
      eager = each_two EagerOver eager_over;
      asked = each_two AskedOver asked_over;
      recalls = each_made (λ i rank. RecallsAnswered rank.events) recalls_answered;
      waits = each_made (λ i rank. IsStopped (mine i) rank) stopped;
      counts = refl;
    };
  }

  ends_are : all_ended lines (record { log = log; states = states }) shape.ranks ≡ all_ends
  ends_are =
      each_there (λ i. option_map (ended_as lines log i) (slice_get states i)) end_at 0 shape.ranks
      (λ i first last. let inside : i < shape.ranks = omega (arith, last) in ended_here i inside)

  -- what a rank told, by what became of it
  abbrev told_as : Ended → RankTold
  told_as end = record { answers = filter_map (λ (e : Event). told_by e.what) end.events; waits = end.waits }

  -- a record of the log is of a run that tells what is told in the states
  pub is_run : (run : RunRecord) → IsRecordOf shape lines (record { log = log; states = states }) run →
      IsRunIn shape lines run × (told_of run ≡ all_told lines (λ k. slice_get states k) shape.ranks)
  is_run run is = (
    record {
      shaped = is.shaped;
      lawful = subst (λ (ps : List Packets). IsRunOf shape lines (ends_of run.ranks) ps) (sym is.pairs)
          (subst (λ (es : List Ended). IsRunOf shape lines es (packets_due lines es)) (sym ends_are_all) run_of);
      home = record {
        all = ap (λ (c : Account). c.total) is.cells
            ∙ ap (λ (s : Sizes). s.ranks * s.cells) (sym is.shaped);
        home = ap (λ (c : Account). c.home) is.cells ∙ sym (ap (λ (c : Account). c.total) is.cells);
      };
      ended = is.done;
    },
    sym (map_twice (λ (rank : RankAccount). record {
      at = rank.at;
      waits = rank.waits;
      events = rank.history.events;
    }) told_as run.ranks)
        ∙ ap (λ (es : List Ended). map told_as es) ends_are_all
        ∙ map_twice end_at told_as (range_with_len 0 shape.ranks)
        ∙ sym (each_there (λ i. option_map (told_in lines i) (slice_get states i)) (λ i. told_as (end_at i)) 0
        shape.ranks
        (λ i first last.
        let inside : i < shape.ranks = omega (arith, last) in
        ap (λ (o : Option Spot). option_map (told_in lines i) o) (here i inside)
        ∙ ap (λ (t : RankTold). Some t) (told_here i inside))),
  )
    where
      ends_are_all : ends_of run.ranks ≡ all_ends
      ends_are_all = is.ranks ∙ ends_are

  -- a send is short
  send_short : HaveTheirLength → (i to k : ℕ) (s : Sent) → slice_get (sends (hist i) to) k ≡ Some s →
      s.len < 4294967296
  send_short lengths i to k s here =
      let command = (told.steady i).sent to k s here in
      let short = (script_short shape.ranks lines script).sends i s.line command.0 command.1 in
      let same = command.2 in
      let long = sent_long command.0 in
      omega (arith, short, same, long)
    where
      sent_long : (c : Command) → length (sent_bytes c) ≡ sent_len c
      sent_long (command.Send to q tag ctx sync body) = lengths body
      sent_long c = refl

  -- what became of the ranks can be counted
  pub countable : HaveTheirLength → IsCountable shape (record { log = log; states = states })
  countable lengths = record {
    some = (let few : shape.ranks ≤ 64 = script.few_ranks in omega (arith, few));
    there = λ i low. spot_at shape lines commands script states rest log told i low;
    numbered = λ i low. numbers i;
    few = λ i spot' low here'.
        let same : spot i low ≡ spot' = same_some (spot i low) spot' (sym (here i low) ∙ here') in
        let ran = ap (λ (x : Spot). count_by is_answer_by x.deeds) (sym same) ∙ (say i low).ran in
        let few = ran_few i in
        omega (arith, ran, few);
    packets = λ i to low.
        let all = few_packets shape (mine i) to (hist i) (follows i) in
        let sent = sum_few (sends (hist i) to) (λ k s here. send_short lengths i to k s here) in
        let starts = sends_few (hist i) to in
        let many = few_starts shape (mine i) (hist i) (follows i) in
        let none = ap (λ (ws : List Happened). length ws) (idle_end i low).starts in
        let few = ran_few i in
        omega (arith, all, sent, starts, many, none, few);
  }
    where
      few_commands : (rank number : ℕ) (lines : List Line) → length (commands_from rank number lines) ≤ length lines
      few_commands rank number [] = omega arith
      few_commands rank number (l ∷ lines) = by_rank (l.rank == rank) (few_commands rank (number + 1) lines)
        where
          by_rank : (b : Bool) → length (commands_from rank (number + 1) lines) ≤ length lines →
              length (cond b (record { line = number; command = l.command } ∷ commands_from rank (number + 1) lines)
              (commands_from rank (number + 1) lines))
              ≤ length (l ∷ lines)
          by_rank true fewer = omega (arith, fewer)
          by_rank false fewer = omega (arith, fewer)

      ran_few : (i : ℕ) → length (ran_lines (hist i)) < 65536
      ran_few i =
          let ran = (told.steady i).few in
          let own = few_commands i 2 lines in
          let few : length lines < 65536 = script.few_lines in
          omega (arith, ran, own, few)

abbrev record_of_ends : Sizes → List Line → List Ended → RunRecord
record_of_ends shape lines ends = record {
  shape = shape;
  ranks = map account_of ends;
  pairs = map (λ (p : Packets). record { from = p.from; to = p.to; packets = p.count }) (packets_due lines ends);
  cells = record { total = shape.ranks * shape.cells; home = shape.ranks * shape.cells };
  done = are_done ends;
}

-- the log that is made of a way to an end, with all that is left behind it
module _ (stand : StandAtLines) (shape : Sizes) (lines : List Line) (ts : List Turn) (state : List Spot)
    (script : IsScript shape.ranks lines) (way : IsWay shape.eager shape.ranks lines ts state)
    (rest : AreAtRest shape.ranks lines (λ i. slice_get state i)) where
  abbrev made_commands : AreCommands shape.ranks lines
  made_commands = script_commands shape.ranks lines stand script

  abbrev made : List Step
  made = (told_way lines shape.ranks ts).log

  made_reached : IsReached shape lines made state × ((told_way lines shape.ranks ts).states ≡ state)
  made_reached = way_reached shape lines made_commands script ts state way

  abbrev made_last : List Step
  made_last = all_over shape.ranks (record { log = made; states = state })

  made_over : Then shape lines made_commands script state rest made made_last (λ later. (i : ℕ) → i < shape.ranks →
      (j : ℕ) → j < shape.ranks →
      AllEnded shape lines made_commands script state rest i j (length (sends (history_in made i) j)) later)
  made_over = end_all shape lines made_commands script state rest made made_reached.0.told

  made_ended : (i : ℕ) → i < shape.ranks → (j : ℕ) → j < shape.ranks →
      AllEnded shape lines made_commands script state rest i j (length (sends (history_in made_last i) j)) made_last
  made_ended i low j below low' below' spot other here there n inside =
      let x = spot_at shape lines made_commands script state rest made made_reached.0.told i low in
      let y = spot_at shape lines made_commands script state rest made made_reached.0.told j below in
      let same = sends_still shape lines made_commands script state rest i j low below x.0 y.0 x.1 y.1 0 made made_last
      made_reached.0.told made_over.1 in
      made_over.2 i low j below low' below' spot other here there n (omega (arith, inside, same))

  made_is : finished shape.ranks (told_way lines shape.ranks ts) ≡ record { log = made_last; states = state }
  made_is = ap (λ (s : List Spot). record {
    log = all_over shape.ranks (record { log = made; states = s });
    states = s;
  }) made_reached.1

-- the record of the log that is made of a way to an end is of a run that tells what is told there
pub records_are_runs : StandAtLines → RecordsAreRuns
records_are_runs stand shape lines ts state run script way rest is =
    is_run shape lines (made_commands stand shape lines ts state script way rest) script state rest
    (made_last stand shape lines ts state script way rest) (made_over stand shape lines ts state script way rest).1
    (made_ended stand shape lines ts state script way rest) run
    (subst (λ (t : Telling). IsRecordOf shape lines t run) (made_is stand shape lines ts state script way rest) is)

-- .. and what becomes of the ranks by it can be counted
pub records_are_countable : StandAtLines → HaveTheirLength → RecordsAreCountable
records_are_countable stand lengths shape lines ts state script way rest =
    subst (λ (t : Telling). IsCountable shape t) (sym (made_is stand shape lines ts state script way rest))
    (countable shape lines (made_commands stand shape lines ts state script way rest) script state rest
    (made_last stand shape lines ts state script way rest) (made_over stand shape lines ts state script way rest).1
    (made_ended stand shape lines ts state script way rest) lengths)

-- each end is that of a run
pub ends_are_runs : StandAtLines → EndsAreRuns
ends_are_runs stand shape lines state script met rest =
    let ends : List Ended =
    all_ended lines (finished shape.ranks (told_way lines shape.ranks met.0)) shape.ranks in
    let same : ends_of (map account_of ends) ≡ ends = map_twice account_of (λ (rank : RankAccount). record {
      at = rank.at;
      waits = rank.waits;
      events = rank.history.events;
    }) ends ∙ map_same (λ (e : Ended). e) (λ e. refl) ends in
    let run : RunRecord = record_of_ends shape lines ends in
    let right = records_are_runs stand shape lines met.0 state run script met.1 rest (record {
      shaped = refl;
      ranks = same;
      pairs = map_twice (λ (p : Packets). record { from = p.from; to = p.to; packets = p.count })
          (λ (pair : PairCount). record { from = pair.from; to = pair.to; count = pair.packets })
          (packets_due lines ends)
          ∙ map_same (λ (p : Packets). p) (λ p. refl) (packets_due lines ends)
          ∙ ap (λ (es : List Ended). packets_due lines es) (sym same);
      cells = refl;
      done = ap (λ (es : List Ended). are_done es) (sym same);
    }) in
    (run, right.0, right.1)
