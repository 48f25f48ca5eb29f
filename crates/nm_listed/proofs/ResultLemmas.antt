-- What a result needs is put into the log just before it.
use Rattle.std.proofs.Common.{◌≡◌, ℕ, suc, ◌<◌, ◌==◌, ◌&&◌, ◌||◌, not, Bool, true}
use Rattle.std.proofs.Common.{false, cond}
use Rattle.std.proofs.Common.{ltb, Option, Some, None, List, [], ◌∷◌, ◌++◌, refl, sym, ◌∙◌, ap, subst, arith}
use Rattle.std.specs.Prelude.{if◌then◌else◌, option_and_then}
use Rattle.std.specs.List.{find, list_any, slice_get, slice_index_or}
use Rattle.std.proofs.Math.Bool.{or-false}
use Rattle.std.proofs.lemmas.Bool.{false≢true}
use Rattle.std.proofs.lemmas.Bool.Decides.{nat_tests}
use Rattle.nm_types.specs.declared.answers.Answer.{Answer}
use Rattle.nm_types.specs.declared.answers.Answer.TheVariants as answer
use Rattle.nm_types.specs.declared.scripts.Line.{Line}
use Rattle.nm_types.specs.Commands.{Numbered, commands_of}
use Rattle.nm_types.specs.Limits.{IsScript}
use Rattle.nm_types.specs.Sizes.{Sizes}
use Rattle.nm_types.proofs.ListLemmas.{find_passes, place_below}
use Rattle.nm_types.proofs.NumberLemmas.{same_number}
use Rattle.nm_types.proofs.OptionLemmas.{no_some, same_some}
use Rattle.nm_types.proofs.TruthLemmas.{and_left, and_right, both, not_true, or_left, or_right}
use Rattle.nm_history.specs.declared.events.Event.{Event}
use Rattle.nm_history.specs.declared.events.Happened.{Happened}
use Rattle.nm_history.specs.declared.events.Happened.TheVariants as event
use Rattle.nm_history.specs.declared.plain.Pair.{Pair}
use Rattle.nm_history.specs.Answers.{live, request_at}
use Rattle.nm_history.specs.Completion.{Request, is_here, is_taken, pair_of_receive, result_of, shown}
use Rattle.nm_history.specs.Completion.Request.{Receiving, Sending}
use Rattle.nm_history.specs.Happens.{happened, is_arrival, is_cancel, is_out, is_recall, is_undone}
use Rattle.nm_history.specs.Happens.{is_whole, is_withdraw}
use Rattle.nm_history.specs.Matching.{is_free_message, is_matching, is_of_message, is_of_receive, matched_pairs}
use Rattle.nm_history.specs.Once.{IsOneToOne}
use Rattle.nm_history.specs.RankRun.{is_start}
use Rattle.nm_history.specs.Sends.{sends}
use Rattle.nm_history.specs.Underway.{is_answer}
use Rattle.nm_history.proofs.AppendLemmas.{happened-push}
use Rattle.nm_history.proofs.MatchingLemmas.{matched_pairs-push_other}
use Rattle.nm_history.proofs.OnceLemmas.{eqb_self}
use Rattle.nm_history.proofs.SelectionLemmas.{find_contains}
use Rattle.nm_match.specs.Deeds.{is_message}
use Rattle.nm_match.proofs.NumberLemmas.{is_known_message-arrived}
use Rattle.nm_outcomes.specs.Logs.{Step, history_in}
use Rattle.nm_outcomes.specs.Paths.{AreCommands}
use Rattle.nm_outcomes.specs.Places.{is_quiet, or_else}
use Rattle.nm_outcomes.specs.RankStates.{IsSpotOf, Spot, free_lem, is_that}
use Rattle.nm_outcomes.specs.Results.{is_past_recall, is_unasked, may_have_left}
use Rattle.nm_outcomes.specs.Looks.{is_recall_by, is_unasked_by}
use Rattle.nm_outcomes.proofs.Bodies.{came_known, pair_came}
use Rattle.nm_outcomes.proofs.EndLemmas.{all_follow, recalled}
use Rattle.nm_outcomes.proofs.LogLemmas.{all_delivered, grown_here}
use Rattle.nm_outcomes.proofs.SaidLemmas.{said}
use Rattle.nm_outcomes.proofs.SentLemmas.{request_sent, taken_of}
use Rattle.nm_explored.proofs.PlacedLemmas.{came_said, free_said}
use Rattle.nm_listed.specs.Tellings.{before_sent, clock, pushed, with_late, with_out, with_undone, with_whole}
use Rattle.nm_listed.proofs.BeginLemmas.{of_line}
use Rattle.nm_listed.proofs.LineLemmas.{request_push}
use Rattle.nm_listed.proofs.HushLemmas.{AreHushed, IsHushed, hushed_mark, index_is, pairs_apart}
use Rattle.nm_listed.proofs.QuietLemmas.{late_may, out_may, undone_may, whole_may}
use Rattle.nm_listed.proofs.ReachLemmas.{IsReached, is_at, reached_on}
use Rattle.nm_listed.proofs.SteadyLemmas.{steady_packet}
use Rattle.nm_listed.proofs.TellLemmas.{IsTold, MayBe, each_rank, now, quiet_spots}
use Rattle.nm_listed.proofs.TellLemmas.{step_at, told_quiet}

-- what a send ends with
send_cancelled : (h : List Event) (to n : ℕ) → happened (is_recall to n) h ≡ true →
    happened (is_undone to n true) h ≡ true → result_of h (Sending to n) ≡ Some answer.Cancelled
send_cancelled h to n recall undone = rw (recall, undone) refl

send_sent : (h : List Event) (to n : ℕ) → happened (is_recall to n) h ≡ false →
    happened (is_undone to n true) h ≡ false → happened (is_out to n) h ≡ true →
    result_of h (Sending to n) ≡ Some answer.Sent
send_sent h to n recall undone out = rw (recall, out, undone) refl

send_late : (h : List Event) (to n : ℕ) → happened (is_recall to n) h ≡ true →
    happened (is_undone to n true) h ≡ false → happened (is_undone to n false) h ≡ true →
    happened (is_out to n) h ≡ true → result_of h (Sending to n) ≡ Some answer.Sent
send_late h to n recall undone late out = rw (recall, undone, late, out) refl

-- two pairs of one message are one
one_message : (found : List Pair) → IsOneToOne found → (a b : ℕ) (p q : Pair) → slice_get found a ≡ Some p →
    slice_get found b ≡ Some q → p.arrival.env.from ≡ q.arrival.env.from → p.arrival.n ≡ q.arrival.n → p ≡ q
one_message found apart a b p q first second from number = by_order (ltb a b) refl (ltb b a) refl
  where
    never : (a b : ℕ) (p q : Pair) → slice_get found a ≡ Some p → slice_get found b ≡ Some q →
        p.arrival.env.from ≡ q.arrival.env.from → p.arrival.n ≡ q.arrival.n → a < b → ⊥
    never a b p q first second from number low =
        let one : slice_index_or found a p ≡ p = index_is found a p p first in
        let two : slice_index_or found b p ≡ q = index_is found b q p second in
        apart.messages a b p low (place_below found b q second)
        (ap (λ (x : Pair). x.arrival.env.from) one ∙ from ∙ ap (λ (x : Pair). x.arrival.env.from) (sym two))
        (ap (λ (x : Pair). x.arrival.n) one ∙ number ∙ ap (λ (x : Pair). x.arrival.n) (sym two))

    by_order : (x : Bool) → ltb a b ≡ x → (y : Bool) → ltb b a ≡ y → p ≡ q
    by_order true is y so =
        absurd (never a b p q first second from number (grind (arith, nat_tests)))
    by_order false is true so =
        absurd (never b a q p second first (sym from) (sym number) (grind (arith, nat_tests)))
    by_order false is false so =
        let same : a ≡ b = grind (arith, nat_tests) in
        same_some p q (sym first ∙ ap (λ (k : ℕ). slice_get found k) same ∙ second)

-- where the first that passes stands
find_place : (test : Pair → Bool) (xs : List Pair) (x : Pair) → find test xs ≡ Some x →
    (k : ℕ) × (slice_get xs k ≡ Some x)
find_place test [] x found = absurd (no_some x found)
find_place test (y ∷ ys) x found = by_test (test y) found (λ found. find_place test ys x found)
  where
    by_test : (b : Bool) → cond b (Some y) (find test ys) ≡ Some x →
        (find test ys ≡ Some x → (k : ℕ) × (slice_get ys k ≡ Some x)) → (k : ℕ) × (slice_get (y ∷ ys) k ≡ Some x)
    by_test true found later = (0, found)
    by_test false found later = let more = later found in (suc more.0, more.1)

-- a mark of a send leaves other requests as they were
marks_send : (h : List Event) (t to n : ℕ) (what : Happened) → is_matching what ≡ false →
    ((from m : ℕ) → is_whole from m what ≡ false) →
    ((to' m : ℕ) → is_out to' m what ≡ true → Sending to n ≡ Sending to' m) →
    ((to' m : ℕ) (done : Bool) → is_undone to' m done what ≡ true → Sending to n ≡ Sending to' m) →
    (r : Request) → (Some (Sending to n) ≡ Some r → ⊥) → IsHushed h r → IsHushed (h ++ now t what ∷ []) r
marks_send h t to n what pairs whole out undone (Sending to' m) other hushed = (
  happened-push (is_out to' m) h (now t what)
      ∙ ap (λ (b : Bool). b || is_out to' m what) hushed.0
      ∙ not_true _ (λ is. other (ap (λ (r : Request). Some r) (out to' m is))),
  happened-push (is_undone to' m true) h (now t what)
      ∙ ap (λ (b : Bool). b || is_undone to' m true what) hushed.1
      ∙ not_true _ (λ is. other (ap (λ (r : Request). Some r) (undone to' m true is))),
  happened-push (is_undone to' m false) h (now t what)
      ∙ ap (λ (b : Bool). b || is_undone to' m false what) hushed.2
      ∙ not_true _ (λ is. other (ap (λ (r : Request). Some r) (undone to' m false is))),
)
marks_send h t to n what pairs whole out undone (Receiving number) other hushed =
    λ pair found.
    happened-push (is_whole pair.arrival.env.from pair.arrival.n) h (now t what)
    ∙ ap (λ (b : Bool). happened (is_whole pair.arrival.env.from pair.arrival.n) h || b)
    (whole pair.arrival.env.from pair.arrival.n)
    ∙ or-false _
    ∙ hushed pair
    (ap (λ (ps : List Pair). find (is_of_receive number) ps) (sym (matched_pairs-push_other h (now t what) pairs))
    ∙ found)

two_sends : (to n to' m : ℕ) → (to == to' && n == m) ≡ true → Sending to n ≡ Sending to' m
two_sends to n to' m same =
    ap (λ (x : ℕ). Sending x n) (same_number to to' (and_left (to == to') (n == m) same))
    ∙ ap (λ (x : ℕ). Sending to' x) (same_number n m (and_right (to == to') (n == m) same))

-- nothing was marked of other requests than one of rank i
abbrev pub AreHushedBut : List Line → List Step → ℕ → Request → Type 0
AreHushedBut lines log i r0 =
    (j : ℕ) → AreHushed (commands_of j lines) (history_in log j) (cond (i == j) (Some r0) None)

module _ (shape : Sizes) (lines : List Line) (commands : AreCommands shape.ranks lines)
    (script : IsScript shape.ranks lines) (states : List Spot) (i : ℕ) (low : i < shape.ranks) (spot : Spot)
    (here : slice_get states i ≡ Some spot) where
  abbrev mine : List Numbered
  mine = commands_of i lines

  -- the log has what the result of a request needs
  pub record IsReady (log : List Step) (r0 : Request) (a : Option Answer) : Type 0 where
    pub told : IsTold shape lines log states
    pub hushed : AreHushedBut lines log i r0
    pub result : result_of (history_in log i) r0 ≡ a

  all_but : (log : List Step) (r0 : Request) → ((j : ℕ) → AreHushed (commands_of j lines) (history_in log j) None) →
      AreHushedBut lines log i r0
  all_but log r0 all j = by_rank (i == j) (all j)
    where
      by_rank : (b : Bool) → AreHushed (commands_of j lines) (history_in log j) None →
          AreHushed (commands_of j lines) (history_in log j) (cond b (Some r0) None)
      by_rank false was = was
      by_rank true was = record {
        requests = λ line open' r asked other. was.requests line open' r asked (λ is. no_some r is);
        taken = was.taken;
      }

  -- a mark of the request of rank i
  marked : (log : List Step) (told : IsTold shape lines log states) (r0 : Request) (what : Happened) →
      is_quiet what ≡ true → is_answer what ≡ false → is_start what ≡ false → is_matching what ≡ false →
      MayBe shape lines log (clock log) i what →
      ((r : Request) → (Some r0 ≡ Some r → ⊥) → IsHushed (history_in log i) r →
      IsHushed (history_in log i ++ now (clock log) what ∷ []) r) →
      ((from n : ℕ) → is_whole from n what ≡ true → is_taken (history_in log i) from n ≡ true) →
      AreHushedBut lines log i r0 → AreHushedBut lines (log ++ step_at i (clock log) what ∷ []) i r0
  marked log told r0 what quiet no_answer no_start no_pair may others whole hushed =
      each_rank shape lines (λ j h. AreHushed (commands_of j lines) h (cond (i == j) (Some r0) None)) log
      (step_at i (clock log) what)
      (subst (λ (b : Bool). AreHushed mine (history_in log i ++ now (clock log) what ∷ []) (cond b (Some r0) None))
      (sym (eqb_self i))
      (hushed_mark shape mine (history_in log i) (clock log) what no_answer no_start no_pair (Some r0) r0
      (subst (λ (b : Bool). AreHushed mine (history_in log i) (cond b (Some r0) None)) (eqb_self i) (hushed i))
      (λ r is. sym (same_some r0 r is)) others whole))
      hushed

  -- a send: what its state and that of the receiver say, after any log that tells of them
  module _ (to n : ℕ) (below : to < shape.ranks) (other : Spot) (there : slice_get states to ≡ Some other) where
    other_is : (log : List Step) → IsTold shape lines log states → IsSpotOf lines (history_in log to) other
    other_is log told = (is_at shape lines commands script log states told to below other there).is

    own_is : (log : List Step) → IsTold shape lines log states → IsSpotOf lines (history_in log i) spot
    own_is log told = (is_at shape lines commands script log states told i low spot here).is

    pub left_said : (log : List Step) (told : IsTold shape lines log states) →
        (list_any (is_unasked_by to n) spot.deeds || list_any (is_of_message i n) other.pairs)
        ≡ may_have_left (history_in log i) (history_in log to) i to n
    left_said log told =
        ap (λ (b : Bool). b || list_any (is_of_message i n) other.pairs)
        ((said lines (history_in log i) spot (own_is log told)).unasked to n)
        ∙ ap (λ (b : Bool). is_unasked (sends (history_in log i) to) n || b) ((other_is log told).taken i n)

    pub past_said : (log : List Step) (told : IsTold shape lines log states) →
        (list_any (is_message i n) other.came && not (free_lem other i n))
        ≡ is_past_recall (history_in log to) i n
    unfolding is_free_message
    past_said log told =
        ap (λ (b : Bool). b && not (free_lem other i n))
        (came_said lines (history_in log to) other (other_is log told) i n)
        ∙ ap (λ (b : Bool). happened (is_arrival i n) (history_in log to) && not b)
        (free_said lines (history_in log to) other (other_is log told) i n)

    pub recall_said : (log : List Step) (told : IsTold shape lines log states) →
        list_any (is_recall_by to n) spot.deeds ≡ happened (is_recall to n) (history_in log i)
    recall_said log told = (said lines (history_in log i) spot (own_is log told)).recalled to n

    pub withdrawn_said : (log : List Step) (told : IsTold shape lines log states) →
        list_any (is_that i n) other.withdrawn ≡ happened (is_withdraw i n true) (history_in log to)
    withdrawn_said log told = (other_is log told).withdrawn i n

    -- the recall's answer comes back
    undone_next : (log : List Step) (told : IsTold shape lines log states) (done : Bool) →
        IsHushed (history_in log i) (Sending to n) → list_any (is_recall_by to n) spot.deeds ≡ true →
        happened (is_withdraw i n done) (history_in log to) ≡ true →
        MayBe shape lines log (clock log) i (event.Undone to n done)
    undone_next log told done hushed recall withdrawn =
        undone_may shape lines log told.is_log (clock log) told.early i to n done hushed.1 hushed.2
        (sym (recall_said log told) ∙ recall) withdrawn

    hushed_undone : (log : List Step) (told : IsTold shape lines log states) (done : Bool) →
        MayBe shape lines log (clock log) i (event.Undone to n done) → AreHushedBut lines log i (Sending to n) →
        AreHushedBut lines (log ++ step_at i (clock log) (event.Undone to n done) ∷ []) i (Sending to n)
    hushed_undone log told done may hushed =
        marked log told (Sending to n) (event.Undone to n done) refl refl refl refl may
        (marks_send (history_in log i) (clock log) to n (event.Undone to n done) refl (λ from m. refl)
        (λ to' m is. absurd (false≢true is))
        (λ to' m d is. two_sends to n to' m (and_left (to == to' && n == m) _ is)))
        (λ from m is. absurd (false≢true is)) hushed

    hushed_out : (log : List Step) (told : IsTold shape lines log states) →
        MayBe shape lines log (clock log) i (event.Out to n) → AreHushedBut lines log i (Sending to n) →
        AreHushedBut lines (log ++ step_at i (clock log) (event.Out to n) ∷ []) i (Sending to n)
    hushed_out log told may hushed =
        marked log told (Sending to n) (event.Out to n) refl refl refl refl may
        (marks_send (history_in log i) (clock log) to n (event.Out to n) refl (λ from m. refl)
        (λ to' m is. two_sends to n to' m is) (λ to' m d is. absurd (false≢true is)))
        (λ from m is. absurd (false≢true is)) hushed

    told_more : (log : List Step) (told : IsTold shape lines log states) (what : Happened) → is_quiet what ≡ true →
        MayBe shape lines log (clock log) i what → IsTold shape lines (log ++ step_at i (clock log) what ∷ []) states
    told_more log told what quiet may = told_quiet shape lines log states told i what quiet low may

    -- what is so after a step of rank i
    after_step : (test : Happened → Bool) (log : List Step) (t : ℕ) (what : Happened) →
        happened test (history_in (log ++ step_at i t what ∷ []) i)
        ≡ (happened test (history_in log i) || test what)
    after_step test log t what =
        ap (λ (h : List Event). happened test h) (grown_here log (step_at i t what))
        ∙ happened-push test (history_in log i) (now t what)

    same_send : (to == to && n == n) ≡ true
    same_send = both (to == to) (n == n) (eqb_self to) (eqb_self n)

    -- what the result needs is one event, if the request is hushed
    withdrawn_log : (log : List Step) → happened (is_withdraw i n true) (history_in log to) ≡ true →
        happened (is_recall to n) (history_in log i) ≡ true →
        happened (is_undone to n true) (history_in log i) ≡ false →
        happened (is_undone to n false) (history_in log i) ≡ false →
        before_sent log i to n ≡ pushed log i (event.Undone to n true)
    withdrawn_log log withdrawn recall never none = rw (withdrawn, recall, never, none) refl

    left_log : (log : List Step) → happened (is_withdraw i n true) (history_in log to) ≡ false →
        happened (is_recall to n) (history_in log i) ≡ false → happened (is_out to n) (history_in log i) ≡ false →
        before_sent log i to n ≡ pushed log i (event.Out to n)
    left_log log never recall none = rw (never, recall, none) refl

    late_log : (log : List Step) → happened (is_withdraw i n true) (history_in log to) ≡ false →
        happened (is_recall to n) (history_in log i) ≡ true →
        before_sent log i to n ≡ with_out (with_undone (with_late log i to n) i to n false) i to n
    late_log log never recall = rw (never, recall) refl

    undone_log : (log : List Step) → happened (is_undone to n true) (history_in log i) ≡ false →
        happened (is_undone to n false) (history_in log i) ≡ false →
        with_undone log i to n false ≡ pushed log i (event.Undone to n false)
    undone_log log never none = rw (never, none) refl

    out_log : (log : List Step) → happened (is_out to n) (history_in log i) ≡ false →
        with_out log i to n ≡ pushed log i (event.Out to n)
    out_log log none = rw none refl

    pub send_withdrawn : (log : List Step) (reached : IsReached shape lines log states) →
        IsHushed (history_in log i) (Sending to n) → list_any (is_that i n) other.withdrawn ≡ true →
        IsReady (before_sent log i to n) (Sending to n) (Some answer.Cancelled)
    send_withdrawn log reached hushed gone =
        let told = reached.told in
        let t : ℕ = clock log in
        let withdrawn : happened (is_withdraw i n true) (history_in log to) ≡ true =
        sym (withdrawn_said log told) ∙ gone in
        let recall : happened (is_recall to n) (history_in log i) ≡ true =
        recalled shape lines i to (history_in log i) (history_in log to) (all_follow shape lines log told.is_log i)
        (all_follow shape lines log told.is_log to) (all_delivered shape lines log told.is_log i to low below) n true
        withdrawn in
        let may = undone_next log told true hushed (recall_said log told ∙ recall) withdrawn in
        subst (λ (later : List Step). IsReady later (Sending to n) (Some answer.Cancelled))
        (sym (withdrawn_log log withdrawn recall hushed.1 hushed.2))
        (record {
          told = told_more log told (event.Undone to n true) refl may;
          hushed = hushed_undone log told true may (all_but log (Sending to n) reached.hushed);
          result = send_cancelled (history_in (log ++ step_at i t (event.Undone to n true) ∷ []) i) to n
              (after_step (is_recall to n) log t (event.Undone to n true)
              ∙ or_left (happened (is_recall to n) (history_in log i)) false recall)
              (after_step (is_undone to n true) log t (event.Undone to n true)
              ∙ or_right (happened (is_undone to n true) (history_in log i)) _
              (both (to == to && n == n) true same_send refl));
        })

    out_next : (log : List Step) (told : IsTold shape lines log states) → (line : ℕ) →
        request_at (history_in log i) line ≡ Some (Sending to n) → happened (is_out to n) (history_in log i) ≡ false →
        (list_any (is_unasked_by to n) spot.deeds || list_any (is_of_message i n) other.pairs) ≡ true →
        MayBe shape lines log (clock log) i (event.Out to n)
    out_next log told line asked none left =
        out_may shape lines log told.is_log (clock log) told.early i to n none
        (request_sent (history_in log i) line to n asked) (sym (left_said log told) ∙ left)

    pub send_left : (log : List Step) (reached : IsReached shape lines log states) (line : ℕ) →
        request_at (history_in log i) line ≡ Some (Sending to n) → IsHushed (history_in log i) (Sending to n) →
        (list_any (is_unasked_by to n) spot.deeds || list_any (is_of_message i n) other.pairs) ≡ true →
        list_any (is_recall_by to n) spot.deeds ≡ false → list_any (is_that i n) other.withdrawn ≡ false →
        IsReady (before_sent log i to n) (Sending to n) (Some answer.Sent)
    send_left log reached line asked hushed left recall never =
        let told = reached.told in
        let t : ℕ = clock log in
        let may = out_next log told line asked hushed.0 left in
        subst (λ (later : List Step). IsReady later (Sending to n) (Some answer.Sent))
        (sym (left_log log (sym (withdrawn_said log told) ∙ never) (sym (recall_said log told) ∙ recall) hushed.0))
        (record {
          told = told_more log told (event.Out to n) refl may;
          hushed = hushed_out log told may (all_but log (Sending to n) reached.hushed);
          result = send_sent (history_in (log ++ step_at i t (event.Out to n) ∷ []) i) to n
              (after_step (is_recall to n) log t (event.Out to n)
              ∙ ap (λ (b : Bool). b || false) (sym (recall_said log told) ∙ recall))
              (after_step (is_undone to n true) log t (event.Out to n) ∙ ap (λ (b : Bool). b || false) hushed.1)
              (after_step (is_out to n) log t (event.Out to n)
              ∙ or_right (happened (is_out to n) (history_in log i)) _ same_send);
        })

    -- behind a late withdrawal
    send_past : (log : List Step) (reached : IsReached shape lines log states) (line : ℕ) →
        request_at (history_in log i) line ≡ Some (Sending to n) → IsHushed (history_in log i) (Sending to n) →
        (list_any (is_unasked_by to n) spot.deeds || list_any (is_of_message i n) other.pairs) ≡ true →
        list_any (is_recall_by to n) spot.deeds ≡ true →
        happened (is_withdraw i n false) (history_in log to) ≡ true →
        IsReady (with_out (with_undone log i to n false) i to n) (Sending to n) (Some answer.Sent)
    send_past log reached line asked hushed left recall late =
        let told = reached.told in
        let t : ℕ = clock log in
        let undone : Happened = event.Undone to n false in
        let out : Happened = event.Out to n in
        let may = undone_next log told false hushed recall late in
        let log1 : List Step = log ++ step_at i t undone ∷ [] in
        let told1 = told_more log told undone refl may in
        let t1 : ℕ = clock log1 in
        let none : happened (is_out to n) (history_in log1 i) ≡ false =
        after_step (is_out to n) log t undone ∙ ap (λ (b : Bool). b || false) hushed.0 in
        let asked1 : request_at (history_in log1 i) line ≡ Some (Sending to n) =
        ap (λ (h : List Event). request_at h line) (grown_here log (step_at i t undone))
        ∙ request_push (history_in log i) (now t undone) line ∙ still_asked (request_at (history_in log i) line)
        asked in
        let may1 = out_next log1 told1 line asked1 none left in
        subst (λ (later : List Step). IsReady later (Sending to n) (Some answer.Sent))
        (sym (ap (λ (l : List Step). with_out l i to n) (undone_log log hushed.1 hushed.2) ∙ out_log log1 none))
        (record {
          told = told_more log1 told1 out refl may1;
          hushed = hushed_out log1 told1 may1
              (hushed_undone log told false may (all_but log (Sending to n) reached.hushed));
          result = send_late (history_in (log1 ++ step_at i t1 out ∷ []) i) to n
              (after_step (is_recall to n) log1 t1 out
              ∙ or_left (happened (is_recall to n) (history_in log1 i)) false
              (sym (recall_said log1 told1) ∙ recall))
              (after_step (is_undone to n true) log1 t1 out
              ∙ ap (λ (b : Bool). b || false)
              (after_step (is_undone to n true) log t undone
              ∙ ap (λ (b : Bool). b || ((to == to && n == n) && false)) hushed.1
              ∙ and_none (to == to && n == n)))
              (after_step (is_undone to n false) log1 t1 out
              ∙ or_left (happened (is_undone to n false) (history_in log1 i)) false
              (after_step (is_undone to n false) log t undone
              ∙ or_right (happened (is_undone to n false) (history_in log i)) _
              (both (to == to && n == n) true same_send refl)))
              (after_step (is_out to n) log1 t1 out
              ∙ or_right (happened (is_out to n) (history_in log1 i)) _ same_send);
        })
      where
        and_none : (b : Bool) → (b && false) ≡ false
        and_none true = refl
        and_none false = refl

        still_asked : (o : Option Request) → o ≡ Some (Sending to n) → or_else o None ≡ Some (Sending to n)
        still_asked None is = absurd (no_some (Sending to n) is)
        still_asked (Some r) is = is

    -- a send that was recalled too late
    pub send_recalled : (log : List Step) (reached : IsReached shape lines log states) (q : ℕ) →
        live mine (history_in log i) q ≡ Some (Sending to n) →
        ((log : List Step) → IsReached shape lines log states → live mine (history_in log i) q ≡ Some (Sending to n) →
        IsHushed (history_in log i) (Sending to n)) →
        (list_any (is_unasked_by to n) spot.deeds || list_any (is_of_message i n) other.pairs) ≡ true →
        list_any (is_recall_by to n) spot.deeds ≡ true → list_any (is_that i n) other.withdrawn ≡ false →
        (list_any (is_message i n) other.came && not (free_lem other i n)) ≡ true →
        IsReady (before_sent log i to n) (Sending to n) (Some answer.Sent)
    send_recalled log reached q live_is hush left recall never past =
        subst (λ (later : List Step). IsReady later (Sending to n) (Some answer.Sent))
        (sym (late_log log (sym (withdrawn_said log told) ∙ never) (sym (recall_said log told) ∙ recall)))
        (by_late (happened (is_withdraw i n false) (history_in log to)) refl)
      where
        told : IsTold shape lines log states
        told = reached.told

        t : ℕ
        t = clock log

        late : Happened
        late = event.Withdraw i n false

        behind : List Step → List Step
        behind l = with_out (with_undone l i to n false) i to n

        late_is : (b : Bool) → happened (is_withdraw i n false) (history_in log to) ≡ b →
            with_late log i to n ≡ (if b then log else pushed log to late)
        late_is b is = rw is refl

        by_late : (b : Bool) → happened (is_withdraw i n false) (history_in log to) ≡ b →
            IsReady (behind (with_late log i to n)) (Sending to n) (Some answer.Sent)
        by_late true is =
            let line = of_line (request_at (history_in log i)) _ (Sending to n) live_is in
            subst (λ (l : List Step). IsReady (behind l) (Sending to n) (Some answer.Sent)) (sym (late_is true is))
            (send_past log reached line.0 line.1 (hush log reached live_is) left recall is)
        by_late false is =
            let may = late_may shape lines log told.is_log t told.early i to n (sym (recall_said log told) ∙ recall)
            (sym (past_said log told) ∙ past) (sym (withdrawn_said log told) ∙ never) is in
            let log1 : List Step = log ++ step_at to t late ∷ [] in
            let reached1 : IsReached shape lines log1 states =
            reached_on shape lines commands script log states states reached to late below may refl refl
            (quiet_spots shape lines log (step_at to t late) states refl told.stands)
            (steady_packet shape (commands_of to lines) (history_in log to) t late refl (told.steady to)) in
            let live1 : live mine (history_in log1 i) q ≡ Some (Sending to n) =
            sym ((said lines (history_in log1 i) spot (own_is log1 reached1.told)).live i q)
            ∙ (said lines (history_in log i) spot (own_is log told)).live i q ∙ live_is in
            let line = of_line (request_at (history_in log1 i)) _ (Sending to n) live1 in
            subst (λ (l : List Step). IsReady (behind l) (Sending to n) (Some answer.Sent)) (sym (late_is false is))
            (send_past log1 reached1 line.0 line.1 (hush log1 reached1 live1) left recall
            (ap (λ (h : List Event). happened (is_withdraw i n false) h) (grown_here log (step_at to t late))
            ∙ happened-push (is_withdraw i n false) (history_in log to) (now t late)
            ∙ or_right (happened (is_withdraw i n false) (history_in log to)) _
            (both (i == i && n == n) true (both (i == i) (n == n) (eqb_self i) (eqb_self n)) refl)))

  -- a receive whose message came
  pub receive_whole : (log : List Step) (reached : IsReached shape lines log states) (number : ℕ) (pair : Pair) →
      pair_of_receive (history_in log i) number ≡ Some pair → is_here (history_in log i) pair ≡ false →
      happened (is_cancel number) (history_in log i) ≡ false →
      IsReady (with_whole log i pair.arrival.env.from pair.arrival.n) (Receiving number) (Some (shown pair))
  receive_whole log reached number pair found gone kept =
      subst (λ (later : List Step). IsReady later (Receiving number) (Some (shown pair)))
      (sym (whole_log gone)) (record { told = told1; hushed = hushed1; result = result })
    where
      whole_log : happened (is_whole pair.arrival.env.from pair.arrival.n) (history_in log i) ≡ false →
          with_whole log i pair.arrival.env.from pair.arrival.n
          ≡ pushed log i (event.Whole pair.arrival.env.from pair.arrival.n)
      whole_log none = rw none refl

      told : IsTold shape lines log states
      told = reached.told

      t : ℕ
      t = clock log

      h : List Event
      h = history_in log i

      from : ℕ
      from = pair.arrival.env.from

      n : ℕ
      n = pair.arrival.n

      what : Happened
      what = event.Whole from n

      taken : is_taken h from n ≡ true
      taken = taken_of h number pair found (both (from == from) (n == n) (eqb_self from) (eqb_self n))

      came : happened (is_arrival from n) h ≡ true
      came = sym (is_known_message-arrived h from n)
          ∙ came_known h pair.arrival (pair_came h pair
          (find_contains (is_of_receive number) (matched_pairs h) pair found))

      may : MayBe shape lines log t i what
      may = whole_may shape lines log told.is_log t told.early from i n gone came (λ asking. taken)

      apart : IsOneToOne (matched_pairs h)
      apart = pairs_apart shape mine h (all_follow shape lines log told.is_log i)

      others : (r : Request) → (Some (Receiving number) ≡ Some r → ⊥) → IsHushed h r →
          IsHushed (h ++ now t what ∷ []) r
      others (Sending to m) other hushed = (
        happened-push (is_out to m) h (now t what) ∙ ap (λ (b : Bool). b || false) hushed.0,
        happened-push (is_undone to m true) h (now t what) ∙ ap (λ (b : Bool). b || false) hushed.1,
        happened-push (is_undone to m false) h (now t what) ∙ ap (λ (b : Bool). b || false) hushed.2,
      )
      others (Receiving m) other hushed =
          λ p found'.
          let was : pair_of_receive h m ≡ Some p =
          ap (λ (ps : List Pair). find (is_of_receive m) ps) (sym (matched_pairs-push_other h (now t what) refl))
          ∙ found' in
          happened-push (is_whole p.arrival.env.from p.arrival.n) h (now t what)
          ∙ ap (λ (b : Bool). b || (from == p.arrival.env.from && n == p.arrival.n)) (hushed p was)
          ∙ not_true _ (λ is. other (same_receive p was is))
        where
          same_receive : (p : Pair) → pair_of_receive h m ≡ Some p →
              (from == p.arrival.env.from && n == p.arrival.n) ≡ true → Some (Receiving number) ≡ Some (Receiving m)
          same_receive p was is =
              let a = find_place (is_of_receive number) (matched_pairs h) pair found in
              let b = find_place (is_of_receive m) (matched_pairs h) p was in
              let same : pair ≡ p =
              one_message (matched_pairs h) apart a.0 b.0 pair p a.1 b.1
              (same_number from p.arrival.env.from (and_left (from == p.arrival.env.from) (n == p.arrival.n) is))
              (same_number n p.arrival.n (and_right (from == p.arrival.env.from) (n == p.arrival.n) is)) in
              ap (λ (k : ℕ). Some (Receiving k))
              (sym (same_number pair.number number (find_passes (is_of_receive number) (matched_pairs h) pair found))
              ∙ ap (λ (x : Pair). x.number) same
              ∙ same_number p.number m (find_passes (is_of_receive m) (matched_pairs h) p was))

      told1 : IsTold shape lines (log ++ step_at i t what ∷ []) states
      told1 = told_quiet shape lines log states told i what refl low may

      hushed1 : AreHushedBut lines (log ++ step_at i t what ∷ []) i (Receiving number)
      hushed1 =
          marked log told (Receiving number) what refl refl refl refl may others
          (λ from' n' is.
          subst (λ (x : ℕ). is_taken h x n' ≡ true)
          (same_number from from' (and_left (from == from') (n == n') is))
          (subst (λ (y : ℕ). is_taken h from y ≡ true) (same_number n n' (and_right (from == from') (n == n') is))
          taken))
          (all_but log (Receiving number) reached.hushed)

      result_so : (g : List Event) → happened (is_cancel number) g ≡ false → pair_of_receive g number ≡ Some pair →
          is_here g pair ≡ true → result_of g (Receiving number) ≡ Some (shown pair)
      result_so g kept found whole =
          ap (λ (b : Bool). if b then Some answer.Cancelled
          else option_and_then (λ pair. if is_here g pair then Some (shown pair) else None) (pair_of_receive g number))
          kept
          ∙ ap (λ (o : Option Pair). option_and_then
          (λ pair. if is_here g pair then Some (shown pair) else None) o) found
          ∙ ap (λ (b : Bool). if b then Some (shown pair) else None) whole

      result : result_of (history_in (log ++ step_at i t what ∷ []) i) (Receiving number) ≡ Some (shown pair)
      result =
          ap (λ (g : List Event). result_of g (Receiving number)) (grown_here log (step_at i t what))
          ∙ result_so (h ++ now t what ∷ [])
          (happened-push (is_cancel number) h (now t what) ∙ ap (λ (b : Bool). b || false) kept)
          (ap (λ (ps : List Pair). find (is_of_receive number) ps) (matched_pairs-push_other h (now t what) refl)
          ∙ found)
          (happened-push (is_whole from n) h (now t what)
          ∙ or_right (happened (is_whole from n) h) _ (both (from == from) (n == n) (eqb_self from) (eqb_self n)))

  -- a receive that was cancelled
  pub receive_cancelled : (log : List Step) (reached : IsReached shape lines log states) (number : ℕ) →
      happened (is_cancel number) (history_in log i) ≡ true →
      IsReady log (Receiving number) (Some answer.Cancelled)
  receive_cancelled log reached number off = record {
    told = reached.told;
    hushed = all_but log (Receiving number) reached.hushed;
    result = ap (λ (b : Bool). if b then Some answer.Cancelled
        else option_and_then (λ pair. if is_here (history_in log i) pair then Some (shown pair) else None)
        (pair_of_receive (history_in log i) number)) off;
  }
