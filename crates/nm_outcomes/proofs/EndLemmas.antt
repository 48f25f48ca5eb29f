-- A result is one that its request may end with by then.
use Rattle.std.proofs.Common.{◌≡◌, ℕ, ◌==◌, ◌⊎◌, inl, inr, ◌&&◌, ◌||◌, not, Bool, true, false}
use Rattle.std.proofs.Common.{Option, Some, None, List, [], ◌∷◌, ◌++◌, refl, sym, ◌∙◌, ap, subst}
use Rattle.std.specs.Prelude.{IsTrue, if◌then◌else◌, option_map, option_and_then}
use Rattle.std.specs.Bool.{OnTrue}
use Rattle.std.specs.List.{AllByRecursion, list_any}
use Rattle.std.proofs.lemmas.Bool.{false≢true}
use Rattle.std.proofs.lemmas.List.Folds.{list_any-append}
use Rattle.nm_types.specs.declared.answers.Answer.{Answer}
use Rattle.nm_types.specs.declared.answers.Answer.TheVariants as answer
use Rattle.nm_types.specs.declared.scripts.Line.{Line}
use Rattle.nm_types.specs.Commands.{commands_of}
use Rattle.nm_types.specs.Sizes.{Sizes}
use Rattle.nm_history.specs.declared.events.Event.{Event}
use Rattle.nm_history.specs.declared.events.Happened.{Happened}
use Rattle.nm_history.specs.declared.events.Happened.TheVariants as event
use Rattle.nm_history.specs.declared.plain.Pair.{Pair}
use Rattle.nm_history.specs.AtEach.{AtEach}
use Rattle.nm_history.specs.Completion.{is_here, is_taken, pair_of_receive, result_of, shown}
use Rattle.nm_history.specs.Completion.Request.{Receiving, Sending}
use Rattle.nm_history.specs.Delivery.{AreDelivered, OutAfterPair, UndoneAfterWithdraw, WithdrawAfterRecall}
use Rattle.nm_history.specs.Delivery.{earlier_than, is_asked}
use Rattle.nm_history.specs.Happens.{happened, is_cancel, is_out, is_recall, is_same, is_send, is_undone}
use Rattle.nm_history.specs.Happens.{is_withdraw}
use Rattle.nm_history.specs.Matching.{is_of_message, matched_pairs}
use Rattle.nm_history.specs.RankRun.{EndAt, StampAt}
use Rattle.nm_history.specs.Sends.{Sent, is_ask, sends}
use Rattle.nm_history.specs.Underway.{MayFollow}
use Rattle.nm_history.proofs.AppendLemmas.{sends-append}
use Rattle.nm_history.proofs.AtEachLemmas.{AtEach-push, AtEach-split}
use Rattle.nm_history.proofs.DeliveryLemmas.{AtEach-along}
use Rattle.nm_history.proofs.EarlierLemmas.{earlier_is_front}
use Rattle.nm_history.proofs.MatchingLemmas.{matched_pairs-append}
use Rattle.nm_types.proofs.NumberLemmas.{same_number}
use Rattle.nm_types.proofs.OptionLemmas.{no_some}
use Rattle.nm_types.proofs.TruthLemmas.{and_left, and_right, both, or_left, or_right}
use Rattle.nm_outcomes.specs.Logs.{IsLog, MayCome, Step, history_in}
use Rattle.nm_outcomes.specs.Results.{ResultsMayCome, is_past_recall, is_unasked, may_have_left}
use Rattle.nm_outcomes.proofs.Early.{all_behind}
use Rattle.nm_outcomes.proofs.LogLemmas.{all_delivered, grown_here, grown_other, log_induction}
use Rattle.nm_outcomes.proofs.HappenedLemmas.{split_any}
use Rattle.nm_outcomes.proofs.HappenedLemmas.{not_both, late_past, sent_so}

-- each rank's history follows its own rules
module _ (shape : Sizes) (lines : List Line) where
  abbrev Follows : List Step → Type 0
  Follows log = (r : ℕ) → AtEach (λ b e. MayFollow shape (commands_of r lines) b e) (history_in log r)

  grown_follows : (log : List Step) (step : Step) → IsLog shape lines log → Follows log →
      MayCome shape lines (history_in log) step.rank step.event → Follows (log ++ step ∷ [])
  grown_follows log step is each next r = by_rank (step.rank == r) refl
    where
      by_rank : (b : Bool) → (step.rank == r) ≡ b →
          AtEach (λ b e. MayFollow shape (commands_of r lines) b e) (history_in (log ++ step ∷ []) r)
      by_rank true same =
          subst (λ (k : ℕ). AtEach (λ b e. MayFollow shape (commands_of k lines) b e)
          (history_in (log ++ step ∷ []) k))
          (same_number step.rank r same)
          (subst (λ (h : List Event). AtEach (λ b e. MayFollow shape (commands_of step.rank lines) b e) h)
          (sym (grown_here log step))
          (AtEach-push (λ b e. MayFollow shape (commands_of step.rank lines) b e) (history_in log step.rank) step.event
          (each step.rank) next.own))
      by_rank false other =
          subst (λ (h : List Event). AtEach (λ b e. MayFollow shape (commands_of r lines) b e) h)
          (sym (grown_other log step r other)) (each r)

  pub all_follow : (log : List Step) → IsLog shape lines log → Follows log
  unfolding AtEach
  all_follow = log_induction shape lines Follows grown_follows (λ r. tt)

-- two ranks of a log
module _ (shape : Sizes) (lines : List Line) (i j : ℕ) (hi hj : List Event)
    (own : AtEach (λ b e. MayFollow shape (commands_of i lines) b e) hi)
    (other : AtEach (λ b e. MayFollow shape (commands_of j lines) b e) hj)
    (delivered : AreDelivered i j (commands_of i lines) (commands_of j lines) hi hj)
  where
    ends : AtEach (λ b e. EndAt b e.what) hi
    ends = AtEach-along (λ b e. MayFollow shape (commands_of i lines) b e) (λ b e. EndAt b e.what) hi
        (λ b e next. next.ends) own

    other_ends : AtEach (λ b e. EndAt b e.what) hj
    other_ends = AtEach-along (λ b e. MayFollow shape (commands_of j lines) b e) (λ b e. EndAt b e.what) hj
        (λ b e next. next.ends) other

    rising : AtEach (λ b e. StampAt b e.stamp) hi
    rising = AtEach-along (λ b e. MayFollow shape (commands_of i lines) b e) (λ b e. StampAt b e.stamp) hi
        (λ b e next. next.stamps) own

    other_rising : AtEach (λ b e. StampAt b e.stamp) hj
    other_rising = AtEach-along (λ b e. MayFollow shape (commands_of j lines) b e) (λ b e. StampAt b e.stamp) hj
        (λ b e next. next.stamps) other

    happened_by_now : (test : Happened → Bool) (s : ℕ) (h : List Event) → AtEach (λ b e. StampAt b e.stamp) h →
        happened test (earlier_than s h) ≡ true → happened test h ≡ true
    happened_by_now test s h up was =
        let front = earlier_is_front s h up in
        ap (λ (k : List Event). happened test k) front.1
        ∙ list_any-append (λ (e : Event). test e.what) (earlier_than s h) front.0
        ∙ or_left (happened test (earlier_than s h)) (happened test front.0) was

    taken_by_now : (s n : ℕ) → is_taken (earlier_than s hj) i n ≡ true → is_taken hj i n ≡ true
    taken_by_now s n was =
        let front = earlier_is_front s hj other_rising in
        let more = matched_pairs-append (earlier_than s hj) front.0 in
        ap (λ (h : List Event). list_any (is_of_message i n) (matched_pairs h)) front.1
        ∙ ap (λ (ps : List Pair). list_any (is_of_message i n) ps) more.1
        ∙ list_any-append (is_of_message i n) (matched_pairs (earlier_than s hj)) more.0
        ∙ or_left (is_taken (earlier_than s hj) i n) (list_any (is_of_message i n) more.0) was

    -- what has left may have left
    left : (n : ℕ) → happened (is_out j n) hi ≡ true → may_have_left hi hj i j n ≡ true
    left n out =
        let spot = split_any (is_out j n) hi out in
        let after : OutAfterPair i j hj spot.0 spot.1.stamp spot.1.what =
        AtEach-split (λ b e. OutAfterPair i j hj b e.stamp e.what) spot.0 spot.1 spot.2
        (subst (λ (h : List Event). AtEach (λ b e. OutAfterPair i j hj b e.stamp e.what) h) spot.3 delivered.outs) in
        let ending : EndAt spot.0 spot.1.what =
        AtEach-split (λ b e. EndAt b e.what) spot.0 spot.1 spot.2
        (subst (λ (h : List Event). AtEach (λ b e. EndAt b e.what) h) spot.3 ends) in
        by_event spot.1.what spot.1.stamp spot.0 (spot.1 ∷ spot.2) spot.3 spot.4 after ending
      where
        by_event : (what : Happened) (stamp : ℕ) (before more : List Event) → hi ≡ before ++ more →
            is_out j n what ≡ true → OutAfterPair i j hj before stamp what → EndAt before what →
            may_have_left hi hj i j n ≡ true
        by_event (event.Out to m) stamp before more split is after ending =
            let one : to ≡ j = same_number to j (and_left (to == j) (m == n) is) in
            let two : m ≡ n = same_number m n (and_right (to == j) (m == n) is) in
            let sent : happened (is_send j n) before ≡ true =
            subst (λ (k : ℕ). happened (is_send k n) before ≡ true) one
            (subst (λ (k : ℕ). happened (is_send to k) before ≡ true) two ending.1) in
            by_how (sent_so j n before sent)
            (subst (λ (k : ℕ). OnTrue (to == j && is_asked (sends before j) k)
            (IsTrue (is_taken (earlier_than stamp hj) i k))) two after) (and_left (to == j) (m == n) is)
          where
            by_how : (is_asked (sends before j) n ≡ true) ⊎ (is_unasked (sends before j) n ≡ true) →
                OnTrue (to == j && is_asked (sends before j) n) (IsTrue (is_taken (earlier_than stamp hj) i n)) →
                (to == j) ≡ true → may_have_left hi hj i j n ≡ true
            by_how (inl asked) after same =
                or_right (is_unasked (sends hi j) n) (is_taken hj i n)
                (taken_by_now stamp n (subst (λ (b : Bool). OnTrue b (IsTrue (is_taken (earlier_than stamp hj) i n)))
                (both (to == j) (is_asked (sends before j) n) same asked) after))
            by_how (inr plain) after same =
                or_left (is_unasked (sends hi j) n) (is_taken hj i n)
                (ap (λ (h : List Event). is_unasked (sends h j) n) split
                ∙ ap (λ (ss : List Sent). is_unasked ss n) (sends-append before more j)
                ∙ list_any-append (λ (s : Sent). s.n == n && not (is_ask s.how)) (sends before j) (sends more j)
                ∙ or_left (is_unasked (sends before j) n) (is_unasked (sends more j) n) plain)
        by_event what stamp before more split is after ending = absurd (false≢true is)

    -- the answer to a recall is the receiver's
    pub answered : (n : ℕ) (done : Bool) → happened (is_undone j n done) hi ≡ true →
        happened (is_withdraw i n done) hj ≡ true
    answered n done undone =
        let spot = split_any (is_undone j n done) hi undone in
        by_event spot.1.what spot.1.stamp spot.4
        (all_behind (λ (e : Event). UndoneAfterWithdraw i j hj e.stamp e.what) spot.0 spot.1 spot.2
        (subst (λ (h : List Event). AllByRecursion (λ (e : Event). UndoneAfterWithdraw i j hj e.stamp e.what) h) spot.3
        delivered.withdrawals.answered))
      where
        same_done : (a b : Bool) → is_same a b ≡ true → b ≡ a
        same_done true true is = refl
        same_done false false is = refl
        same_done true false is = absurd (false≢true is)
        same_done false true is = absurd (false≢true is)

        by_event : (what : Happened) (stamp : ℕ) → is_undone j n done what ≡ true →
            UndoneAfterWithdraw i j hj stamp what → happened (is_withdraw i n done) hj ≡ true
        by_event (event.Undone to m d) stamp is after =
            let names : (to == j && m == n) ≡ true = and_left (to == j && m == n) (is_same done d) is in
            let one : (to == j) ≡ true = and_left (to == j) (m == n) names in
            let two : m ≡ n = same_number m n (and_right (to == j) (m == n) names) in
            let three : d ≡ done = same_done done d (and_right (to == j && m == n) (is_same done d) is) in
            happened_by_now (is_withdraw i n done) stamp hj other_rising
            (subst (λ (k : ℕ). happened (is_withdraw i k done) (earlier_than stamp hj) ≡ true) two
            (subst (λ (b : Bool). happened (is_withdraw i m b) (earlier_than stamp hj) ≡ true) three
            (subst (λ (b : Bool). OnTrue b (IsTrue (happened (is_withdraw i m d)
            (earlier_than stamp hj)))) one after)))
        by_event what stamp is after = absurd (false≢true is)

    -- what was withdrawn was recalled
    pub recalled : (n : ℕ) (done : Bool) → happened (is_withdraw i n done) hj ≡ true →
        happened (is_recall j n) hi ≡ true
    recalled n done withdrawn =
        let spot = split_any (is_withdraw i n done) hj withdrawn in
        by_event spot.1.what spot.1.stamp spot.4
        (all_behind (λ (e : Event). WithdrawAfterRecall i j hi e.stamp e.what) spot.0 spot.1 spot.2
        (subst (λ (h : List Event). AllByRecursion (λ (e : Event). WithdrawAfterRecall i j hi e.stamp e.what) h) spot.3
        delivered.withdrawals.asked))
      where
        by_event : (what : Happened) (stamp : ℕ) → is_withdraw i n done what ≡ true →
            WithdrawAfterRecall i j hi stamp what → happened (is_recall j n) hi ≡ true
        by_event (event.Withdraw from m d) stamp is after =
            let names : (from == i && m == n) ≡ true = and_left (from == i && m == n) (is_same done d) is in
            let one : (from == i) ≡ true = and_left (from == i) (m == n) names in
            let two : m ≡ n = same_number m n (and_right (from == i) (m == n) names) in
            happened_by_now (is_recall j n) stamp hi rising
            (subst (λ (k : ℕ). happened (is_recall j k) (earlier_than stamp hi) ≡ true) two
            (subst (λ (b : Bool). OnTrue b (IsTrue (happened (is_recall j m) (earlier_than stamp hi)))) one after))
        by_event what stamp is after = absurd (false≢true is)

    -- what a send ends with
    abbrev end_of : Bool → Bool → Bool → Option Answer
    end_of withdrawn left past =
        if withdrawn then Some answer.Cancelled else if left && past then Some answer.Sent else None

    pub sending : (n : ℕ) (a : Answer) → result_of hi (Sending j n) ≡ Some a →
        end_of (happened (is_withdraw i n true) hj) (may_have_left hi hj i j n)
        (not (happened (is_recall j n) hi) || is_past_recall hj i n) ≡ Some a
    sending n a result =
        by_flags (happened (is_undone j n true) hi) refl (happened (is_recall j n) hi) refl
        (happened (is_undone j n false) hi) refl (happened (is_out j n) hi) refl result
      where
        by_flags : (u : Bool) → happened (is_undone j n true) hi ≡ u → (r : Bool) → happened (is_recall j n) hi ≡ r →
            (l : Bool) → happened (is_undone j n false) hi ≡ l → (o : Bool) → happened (is_out j n) hi ≡ o →
            (if (if r then u || (l && o) else o) then Some (if u then answer.Cancelled else answer.Sent) else None)
            ≡ Some a →
            end_of (happened (is_withdraw i n true) hj) (may_have_left hi hj i j n)
            (not r || is_past_recall hj i n) ≡ Some a
        by_flags true undone r recall l late o out result = rw (answered n true undone) (by_complete r o result)
          where
            by_complete : (r o : Bool) → (if (if r then true else o) then Some answer.Cancelled else None) ≡ Some a →
                Some answer.Cancelled ≡ Some a
            by_complete true o result = result
            by_complete false true result = result
            by_complete false false result = absurd (no_some a result)
        by_flags false undone false recall l late true out result =
            rw (kept, left n out) result
          where
            kept : happened (is_withdraw i n true) hj ≡ false
            kept = by_test (happened (is_withdraw i n true) hj) refl
              where
                by_test : (b : Bool) → happened (is_withdraw i n true) hj ≡ b → b ≡ false
                by_test false is = refl
                by_test true is = absurd (false≢true (sym recall ∙ recalled n true is))
        by_flags false undone false recall l late false out result = absurd (no_some a result)
        by_flags false undone true recall true late true out result =
            rw (kept, left n out, late_past i n hj other_ends (answered n false late)) result
          where
            kept : happened (is_withdraw i n true) hj ≡ false
            kept = by_test (happened (is_withdraw i n true) hj) refl
              where
                by_test : (b : Bool) → happened (is_withdraw i n true) hj ≡ b → b ≡ false
                by_test false is = refl
                by_test true is = absurd (not_both i n hj other_ends is (answered n false late))
        by_flags false undone true recall true late false out result = absurd (no_some a result)
        by_flags false undone true recall false late o out result = absurd (no_some a result)

-- what a receive ends with
receiving : (h : List Event) (number : ℕ) (a : Answer) → result_of h (Receiving number) ≡ Some a →
    (if happened (is_cancel number) h then Some answer.Cancelled else option_map shown (pair_of_receive h number))
    ≡ Some a
receiving h number a = by_cancel (happened (is_cancel number) h)
  where
    by_pair : (o : Option Pair) →
        option_and_then (λ pair. if is_here h pair then Some (shown pair) else None) o ≡ Some a →
        option_map shown o ≡ Some a
    by_pair None result = absurd (no_some a result)
    by_pair (Some pair) result = by_here (is_here h pair) result
      where
        by_here : (b : Bool) → (if b then Some (shown pair) else None) ≡ Some a → Some (shown pair) ≡ Some a
        by_here true result = result
        by_here false result = absurd (no_some a result)

    by_cancel : (b : Bool) →
        (if b then Some answer.Cancelled
        else option_and_then (λ pair. if is_here h pair then Some (shown pair) else None) (pair_of_receive h number))
        ≡ Some a →
        (if b then Some answer.Cancelled else option_map shown (pair_of_receive h number)) ≡ Some a
    by_cancel true result = result
    by_cancel false result = by_pair (pair_of_receive h number) result

pub results_may_come : ResultsMayCome
results_may_come shape lines log is i low (Receiving number) within a result =
    receiving (history_in log i) number a result
results_may_come shape lines log is i low (Sending j n) within a result =
    sending shape lines i j (history_in log i) (history_in log j) (all_follow shape lines log is i)
    (all_follow shape lines log is j) (all_delivered shape lines log is i j low within) n a result

-- stamps rise in each history of a log
pub all_rising : (shape : Sizes) (lines : List Line) (log : List Step) → IsLog shape lines log → (r : ℕ) →
    AtEach (λ b e. StampAt b e.stamp) (history_in log r)
all_rising shape lines log is r =
    AtEach-along (λ b e. MayFollow shape (commands_of r lines) b e) (λ b e. StampAt b e.stamp) (history_in log r)
    (λ b e next. next.stamps) (all_follow shape lines log is r)

-- what happened before a stamp happened
pub happened_early : (test : Happened → Bool) (s : ℕ) (h : List Event) → AtEach (λ b e. StampAt b e.stamp) h →
    happened test (earlier_than s h) ≡ true → happened test h ≡ true
happened_early test s h up was =
    let front = earlier_is_front s h up in
    ap (λ (k : List Event). happened test k) front.1
    ∙ list_any-append (λ (e : Event). test e.what) (earlier_than s h) front.0
    ∙ or_left (happened test (earlier_than s h)) (happened test front.0) was
