-- Recalls are answered.
use Rattle.std.proofs.Common.{◌≡◌, ℕ, ◌+◌, ◌<◌, ◌≤◌, ◌==◌, Bool, true, false, ◌&&◌, ◌||◌, cond, Some, None, List, []}
use Rattle.std.proofs.Common.{◌∷◌, ◌++◌, length, map, refl, sym, ◌∙◌, ap, subst, append_assoc, arith}
use Rattle.std.specs.Prelude.{nat_lt, IsTrue}
use Rattle.std.specs.Bool.{OnTrue}
use Rattle.std.specs.List.{AllByRecursion, list_any, cons_option}
use Rattle.std.proofs.lemmas.List.Folds.{list_any-append}
use Rattle.std.proofs.lemmas.Bool.Decides.{nat_tests}
use Rattle.nm_types.specs.Commands.{Numbered}
use Rattle.nm_types.specs.declared.packets.What.{What}
use Rattle.nm_types.specs.declared.packets.What.TheVariants as what
use Rattle.nm_history.specs.declared.events.Event.{Event}
use Rattle.nm_history.specs.declared.events.Happened.{Happened}
use Rattle.nm_history.specs.declared.events.Happened.TheVariants.{Recall, Withdraw, Undone}
use Rattle.nm_history.specs.AtEach.{AtEach, in_turn, in_turn_after}
use Rattle.nm_history.specs.Sends.{Sent}
use Rattle.nm_history.specs.Happens.{happened, is_recall, is_undone, is_same}
use Rattle.nm_history.specs.Outgoing.{Called, outgoing, packets_by, bare}
use Rattle.nm_history.specs.RankRun.{Always, EndAt}
use Rattle.nm_history.specs.Delivery.{earlier_than, EachEvent, WithdrawAfterRecall}
use Rattle.nm_channels.proofs.Streams.{NoClash, FreshAt, StreamContinued, UndoneContinued}
use Rattle.nm_channels.specs.Moments.{LogEntry, Cause, history_of, taken_from, taken_of, EachMomentAfter}
use Rattle.nm_channels.specs.Settled.{RecallAnswered}
use Rattle.nm_channels.specs.Sound.{AreSound, MayHappen, MadeBy}
use Rattle.nm_history.specs.Continues.{is_of_stream, WORN_STAMP}
use Rattle.nm_history.specs.Effects.{happenings, packet_makes, ask_ends}
use Rattle.nm_history.specs.Known.{Known, Taken, known_by}
use Rattle.nm_channels.specs.Moments.Cause.{Acted, Took, Drew}
use Rattle.nm_channels.proofs.Streaming.{Carries}
use Rattle.nm_channels.proofs.Causes.{Source, HasSource}
use Rattle.nm_channels.proofs.Clashing.{history_clashes, history_bare, BareCalled}
use Rattle.nm_channels.proofs.Answering.{Goes, Bare, answers_go, asks}
use Rattle.nm_history.proofs.Basic.{self_true, at_true, by-both, happened_in, any_gives}
use Rattle.nm_types.proofs.TruthLemmas.{or_left, or_right, and_left, and_right}
use Rattle.nm_types.proofs.NumberLemmas.{same_number}
use Rattle.nm_types.proofs.ListLemmas.{all_along}

carried_whats : (i num : ℕ) (called : List Called) (ts : List Taken) → Carries i num called ts →
    map (λ c. c.what) called ≡ map (λ t. t.packet.what) ts
carried_whats i num [] [] carries = refl
carried_whats i num [] (t ∷ ts) carries = absurd carries
carried_whats i num (c ∷ called) [] carries = absurd carries
carried_whats i num (c ∷ called) (t ∷ ts) carries = rw (carries.0.same, carried_whats i (num + 1) called ts carries.1)
    refl

carried_bare : (i num : ℕ) (called : List Called) (ts : List Taken) → Carries i num called ts →
    AllByRecursion BareCalled called → AllByRecursion Bare ts
carried_bare i num [] [] carries each = tt
carried_bare i num [] (t ∷ ts) carries each = absurd carries
carried_bare i num (c ∷ called) [] carries each = absurd carries
carried_bare i num (c ∷ called) (t ∷ ts) carries each = (
  (λ other. ap (λ (bytes : List ℕ). length bytes)
      (carries.0.bytes ∙ each.0 (ap is_of_stream (sym carries.0.same) ∙ other))),
  carried_bare i
      (num + 1) called ts carries.1 each.1,
)

-- the answers that a history calls for continue where they were asked for
pub carried_go : (eager i j : ℕ) (bodies bodies' : Sent → List ℕ) (commands : List Numbered) (h : List Event)
    (log : List LogEntry) → AreSound eager bodies' commands log → Carries j 0 (outgoing bodies h i) (taken_from j log) →
    AllByRecursion (λ t. t.packet.stamp < WORN_STAMP) (taken_from j log) → Always FreshAt h → Always EndAt h →
    AllByRecursion (Goes j (history_of log)) (taken_from j log)
unfolding AtEach in_turn
carried_go eager i j bodies bodies' commands h log sound carries in_time fresh ends =
    answers_go eager bodies' commands j log sound
    (subst (λ (ws : List What). NoClash [] ws) (carried_whats j 0 (outgoing bodies h i) (taken_from j log) carries)
    (history_clashes bodies i [] h [] fresh ends tt))
    (carried_bare j 0 (outgoing bodies h i) (taken_from j log) carries (history_bare bodies i [] h)) in_time

pub all_at : (P : Event → Type 0) (before : List Event) (e : Event) (after : List Event) →
    AllByRecursion P (before ++ e ∷ after) → P e
all_at P [] e after each = each.0
all_at P (x ∷ before) e after each = all_at P before e after each.1

lt_more : (x s s' : ℕ) → s ≤ s' → nat_lt x s ≡ true → nat_lt x s' ≡ true
lt_more x s s' more h = grind (arith, nat_tests)

pub earlier_more : (test : Event → Bool) (s s' : ℕ) (h : List Event) → s ≤ s' → list_any test (earlier_than s h)
    ≡ true → list_any test (earlier_than s' h) ≡ true
earlier_more test s s' [] more found = found
earlier_more test s s' (e ∷ h) more found = by_tests (nat_lt e.stamp s) (nat_lt e.stamp s')
    (lt_more e.stamp s s' more) (earlier_more test s s' h more) found where
      by_tests : (a b : Bool) → (a ≡ true → b ≡ true) →
          (list_any test (earlier_than s h) ≡ true → list_any test (earlier_than s' h) ≡ true) →
          list_any test (cond a (e ∷ earlier_than s h) (earlier_than s h)) ≡ true →
          list_any test (cond b (e ∷ earlier_than s' h) (earlier_than s' h)) ≡ true
      by_tests true false along later found = let bad : false ≡ true = along refl in cc
      by_tests false false along later found = later found
      by_tests false true along later found = or_right (test e) _ (later found)
      by_tests true true along later found = by_head (test e) later found where
        by_head : (b : Bool) → (list_any test (earlier_than s h) ≡ true → list_any test (earlier_than s' h) ≡ true) →
            (b || list_any test (earlier_than s h)) ≡ true → (b || list_any test (earlier_than s' h)) ≡ true
        by_head true later found = refl
        by_head false later found = later found

pub undone_go : (i j : ℕ) (hi hj : List Event) (ts : List Taken) → EachEvent (WithdrawAfterRecall i j hi) hj →
    AllByRecursion (HasSource i hj) ts → AllByRecursion (Goes j hi) ts → AllByRecursion UndoneContinued ts
undone_go i j hi hj ts asked sources goes = by-both (HasSource i hj) (Goes j hi) UndoneContinued ts
    (λ t has go n done same.
    let source : Source i hj t.packet.stamp (what.Withdrawn n done) =
    subst (λ (w : What). Source i hj t.packet.stamp w) same has in
    let at : WithdrawAfterRecall i j hi source.event.stamp source.event.what =
    all_at (λ e. WithdrawAfterRecall i j hi e.stamp e.what) source.before source.event source.after
    (subst (λ (h : List Event). EachEvent (WithdrawAfterRecall i j hi) h) source.split asked) in
    let recalled : happened (is_recall j n) (earlier_than source.event.stamp hi) ≡ true = at_true (i == i)
    (self_true i) (subst (λ (w : Happened). WithdrawAfterRecall i j hi source.event.stamp w) source.origin at) in
    go (ap is_of_stream same) (ap (λ (w : What). happened (asks j w) (earlier_than (t.packet.stamp + 1) hi)) same
    ∙ earlier_more (λ e. is_recall j n e.what) source.event.stamp (t.packet.stamp + 1) hi
    (omega (arith, source.since)) recalled))
    sources goes

-- a test that an event's packets pass where the event passes another
called_has : (test : What → Bool) (p : Happened → Bool) (bodies : Sent → List ℕ) (to : ℕ) →
    ((before : List Event) (stamp : ℕ) (w : Happened) → p w ≡ true → list_any (λ c. test c.what)
    (packets_by bodies to before stamp w) ≡ true) →
    (before events : List Event) → happened p events ≡ true → list_any (λ c. test c.what)
    (in_turn_after (λ before e. packets_by bodies to before e.stamp e.what) before events) ≡ true
called_has test p bodies to each before [] found = found
called_has test p bodies to each before (e ∷ events) found =
    list_any-append (λ (c : Called). test c.what) (packets_by bodies to before e.stamp e.what)
    (in_turn_after (λ before e. packets_by bodies to before e.stamp e.what) (before ++ e ∷ []) events)
    ∙ by_head (p e.what) refl found (called_has test p bodies to each (before ++ e ∷ []) events)
  where
    by_head : (b : Bool) → p e.what ≡ b → (b || happened p events) ≡ true →
        (happened p events ≡ true → list_any (λ c. test c.what)
        (in_turn_after (λ before e. packets_by bodies to before e.stamp e.what) (before ++ e ∷ []) events) ≡ true) →
        (list_any (λ c. test c.what) (packets_by bodies to before e.stamp e.what) || list_any (λ c. test c.what)
        (in_turn_after (λ before e. packets_by bodies to before e.stamp e.what) (before ++ e ∷ []) events)) ≡ true
    by_head true is found later = or_left _ _ (each before e.stamp e.what is)
    by_head false is found later = or_right _ _ (later found)

carried_has : (test : What → Bool) (i num : ℕ) (called : List Called) (ts : List Taken) → Carries i num called ts →
    list_any (λ c. test c.what) called ≡ true → list_any (λ t. test t.packet.what) ts ≡ true
carried_has test i num [] [] carries found = found
carried_has test i num [] (t ∷ ts) carries found = absurd carries
carried_has test i num (c ∷ called) [] carries found = absurd carries
carried_has test i num (c ∷ called) (t ∷ ts) carries found = rw carries.0.same
    (by_head (test c.what) found (carried_has test i (num + 1) called ts carries.1)) where
      by_head : (b : Bool) → (b || list_any (λ c. test c.what) called) ≡ true →
          (list_any (λ c. test c.what) called ≡ true → list_any (λ t. test t.packet.what) ts ≡ true) →
          (b || list_any (λ t. test t.packet.what) ts) ≡ true
      by_head true found later = refl
      by_head false found later = later found

-- a withdrawal of message n, or its answer
pub is_withdrawal : ℕ → What → Bool
is_withdrawal n (what.Withdraw m) = m == n
is_withdrawal n _ = false

pub is_answer_to : ℕ → What → Bool
is_answer_to n (what.Withdrawn m done) = m == n
is_answer_to n _ = false

-- message n of a rank was withdrawn or it was too late
abbrev was_withdrawn : ℕ → ℕ → Happened → Bool
was_withdrawn from n (Withdraw from' m done) = from' == from && m == n
was_withdrawn from n _ = false

abbrev was_answered : ℕ → ℕ → Happened → Bool
was_answered to n (Undone to' m done) = to' == to && m == n
was_answered to n _ = false

recall_calls : (bodies : Sent → List ℕ) (j n : ℕ) (before : List Event) (stamp : ℕ) (w : Happened) →
    is_recall j n w ≡ true → list_any (λ c. is_withdrawal n c.what) (packets_by bodies j before stamp w) ≡ true
unfolding is_withdrawal
recall_calls bodies j n before stamp (Recall to m) is = by_to (to == j) (and_left (to == j) (m == n) is) where
  by_to : (b : Bool) → b ≡ true → list_any (λ (c : Called). is_withdrawal n c.what)
      (cond b (bare stamp (what.Withdraw m) ∷ []) []) ≡ true
  by_to true h = or_left (m == n) false (and_right (to == j) (m == n) is)
  by_to false h = cc
recall_calls bodies j n before stamp w is = cc

withdraw_calls : (bodies : Sent → List ℕ) (i n : ℕ) (before : List Event) (stamp : ℕ) (w : Happened) →
    was_withdrawn i n w ≡ true → list_any (λ c. is_answer_to n c.what) (packets_by bodies i before stamp w) ≡ true
unfolding is_answer_to
withdraw_calls bodies i n before stamp (Withdraw from m done) is = by_from (from == i)
    (and_left (from == i) (m == n) is) where
      by_from : (b : Bool) → b ≡ true → list_any (λ (c : Called). is_answer_to n c.what)
          (cond b (bare stamp (what.Withdrawn m done) ∷ []) []) ≡ true
      by_from true h = or_left (m == n) false (and_right (from == i) (m == n) is)
      by_from false h = cc
withdraw_calls bodies i n before stamp w is = cc

-- what a packet that continued left in a history
abbrev Leaves : ℕ → List Event → Taken → Type 0
Leaves i h t = (n : ℕ) → t.continued ≡ true →
    (is_withdrawal n t.packet.what ≡ true → happened (was_withdrawn i n) h ≡ true)
    × (is_answer_to n t.packet.what ≡ true → happened (was_answered i n) h ≡ true)

packet_leaves : (known : Known) (h : List Event) (from n size : ℕ) (w : What) (rest : List Happened) →
    (is_withdrawal n w ≡ true → list_any (was_withdrawn from n) (packet_makes known h from w size ++ rest) ≡ true)
    × (is_answer_to n w ≡ true → list_any (was_answered from n) (packet_makes known h from w size ++ rest) ≡ true)
unfolding is_withdrawal is_answer_to
packet_leaves known h from n size (what.Withdraw m) rest = ((λ is. rw (self_true from, is) refl), (λ is. cc))
packet_leaves known h from n size (what.Withdrawn m done) rest = ((λ is. cc), (λ is. rw (self_true from, is) refl))
packet_leaves known h from n size w rest = ((λ is. cc), (λ is. cc))

log_leaves : (eager : ℕ) (bodies : Sent → List ℕ) (commands : List Numbered) (i : ℕ) (before log : List LogEntry) →
    EachMomentAfter (MayHappen eager bodies commands) before log → AllByRecursion (Leaves i (history_of log))
    (taken_from i log)
log_leaves eager bodies commands i before [] sound = tt
log_leaves eager bodies commands i before (m ∷ log) sound =
    by_cause m.cause sound.0.made (all_along (Leaves i (history_of log)) (Leaves i (m.events ++ history_of log))
    (taken_from i log)
    (λ t was n goes. (
      (λ is. later (was_withdrawn i n) ((was n goes).0 is)),
      (λ is. later (was_answered i n) ((was n goes).1 is)),
    ))
    (log_leaves eager bodies commands i (before ++ m ∷ []) log sound.1))
  where
    later : (test : Happened → Bool) → happened test (history_of log) ≡ true →
        happened test (m.events ++ history_of log) ≡ true
    later test found = list_any-append (λ (e : Event). test e.what) m.events (history_of log) ∙ or_right _ _ found

    by_cause : (c : Cause) → MadeBy eager bodies commands before c m.events →
        AllByRecursion (Leaves i (m.events ++ history_of log)) (taken_from i log) →
        AllByRecursion (Leaves i (m.events ++ history_of log)) (cons_option (taken_of i c) (taken_from i log))
    by_cause Acted made rest = rest
    by_cause (Drew d) made rest = rest
    by_cause (Took t) made rest = by_source (t.packet.from == i) refl where
      here : t.packet.from ≡ i → Leaves i (m.events ++ history_of log) t
      here source n goes =
          let known : Known = known_by (taken_from t.packet.from before) in
          let more : List Happened = ask_ends known (history_of before) t.packet.from t.packet.what in
          let made_is : happenings m.events ≡ packet_makes known (history_of before) t.packet.from t.packet.what
          (length t.packet.payload) ++ more =
          subst (λ (b : Bool). happenings m.events ≡ cond b
          (packet_makes known (history_of before) t.packet.from t.packet.what (length t.packet.payload) ++ more) [])
          goes made.1 in
          let leaves = packet_leaves known (history_of before) t.packet.from n (length t.packet.payload) t.packet.what
          more in (
            (λ is. list_any-append (λ (e : Event). was_withdrawn i n e.what) m.events (history_of log)
                ∙ or_left _ _ (ap (λ (k : ℕ). happened (was_withdrawn k n) m.events) (sym source)
                ∙ happened_in (was_withdrawn t.packet.from n) m.events
                ∙ ap (λ ws. list_any (was_withdrawn t.packet.from n) ws) made_is ∙ leaves.0 is)),
            (λ is. list_any-append (λ (e : Event). was_answered i n e.what) m.events (history_of log)
                ∙ or_left _ _ (ap (λ (k : ℕ). happened (was_answered k n) m.events) (sym source)
                ∙ happened_in (was_answered t.packet.from n) m.events
                ∙ ap (λ ws. list_any (was_answered t.packet.from n) ws) made_is ∙ leaves.1 is)),
          )

      by_source : (b : Bool) → (t.packet.from == i) ≡ b → AllByRecursion (Leaves i (m.events ++ history_of log))
          (cons_option (cond b (Some t) None) (taken_from i log))
      by_source false test = rest
      by_source true test = (here (same_number t.packet.from i test), rest)

answered_is : (h : List Event) (to n : ℕ) → happened (was_answered to n) h ≡ true →
    (happened (is_undone to n true) h || happened (is_undone to n false) h) ≡ true
answered_is [] to n found = cc
answered_is (e ∷ h) to n found = by_what e.what found (answered_is h to n) where
  split : (a b c d : Bool) → (c || d) ≡ true → ((a || c) || (b || d)) ≡ true
  split true b c d h = refl
  split false b true d h = refl
  split false true false d h = refl
  split false false false d h = h

  by_what : (w : Happened) → (was_answered to n w || happened (was_answered to n) h) ≡ true →
      (happened (was_answered to n) h ≡ true → (happened (is_undone to n true) h || happened (is_undone to n false) h)
      ≡ true) →
      ((is_undone to n true w || happened (is_undone to n true) h) ||
      (is_undone to n false w || happened (is_undone to n false) h)) ≡ true
  by_what (Undone to' m done) found later = by_test (to' == to) (m == n) done found later where
    by_test : (a b done : Bool) → ((a && b) || happened (was_answered to n) h) ≡ true →
        (happened (was_answered to n) h ≡ true → (happened (is_undone to n true) h || happened (is_undone to n false) h)
        ≡ true) →
        (((a && b && is_same true done) || happened (is_undone to n true) h) ||
        ((a && b && is_same false done) || happened (is_undone to n false) h)) ≡ true
    by_test true true true found later = refl
    by_test true true false found later = or_right _ _ refl
    by_test true false d found later = later found
    by_test false b d found later = later found
  by_what w found later = later found

-- a recalled message has its answer
pub recall_answered : (eager i j n : ℕ) (bi bj : Sent → List ℕ) (ci cj : List Numbered) (li lj : List LogEntry) →
    AreSound eager bi ci li → AreSound eager bj cj lj → Carries i 0 (outgoing bi (history_of li) j)
    (taken_from i lj) → Carries j 0 (outgoing bj (history_of lj) i) (taken_from j li) →
    AllByRecursion (λ t. is_withdrawal n t.packet.what ≡ true → t.continued ≡ true) (taken_from i lj) →
    AllByRecursion (λ t. is_answer_to n t.packet.what ≡ true → t.continued ≡ true) (taken_from j li) →
    happened (is_recall j n) (history_of li) ≡ true →
    (happened (is_undone j n true) (history_of li) || happened (is_undone j n false) (history_of li)) ≡ true
unfolding in_turn
recall_answered eager i j n bi bj ci cj li lj sound_i sound_j there back go_there go_back recalled =
    let hi : List Event = history_of li in
    let hj : List Event = history_of lj in
    let asked = carried_has (is_withdrawal n) i 0 (outgoing bi hi j) (taken_from i lj) there
    (called_has (is_withdrawal n) (is_recall j n) bi j (recall_calls bi j n) [] hi recalled) in
    let judged : happened (was_withdrawn i n) hj ≡ true = any_gives (λ (t : Taken). is_withdrawal n t.packet.what)
    (happened (was_withdrawn i n) hj ≡ true) (taken_from i lj) asked
    (by-both (Leaves i hj) (λ t. is_withdrawal n t.packet.what ≡ true → t.continued ≡ true)
    (λ t. is_withdrawal n t.packet.what ≡ true → happened (was_withdrawn i n) hj ≡ true) (taken_from i lj)
    (λ t leaves go is. (leaves n (go is)).0 is) (log_leaves eager bj cj i [] lj sound_j) go_there) in
    let told = carried_has (is_answer_to n) j 0 (outgoing bj hj i) (taken_from j li) back
    (called_has (is_answer_to n) (was_withdrawn i n) bj i (withdraw_calls bj i n) [] hj judged) in
    answered_is hi j n (any_gives (λ (t : Taken). is_answer_to n t.packet.what)
    (happened (was_answered j n) hi ≡ true) (taken_from j li) told
    (by-both (Leaves j hi) (λ t. is_answer_to n t.packet.what ≡ true → t.continued ≡ true)
    (λ t. is_answer_to n t.packet.what ≡ true → happened (was_answered j n) hi ≡ true) (taken_from j li)
    (λ t leaves go is. (leaves n (go is)).1 is) (log_leaves eager bi ci j [] li sound_i) go_back))

pub withdrawal_goes : (n : ℕ) (t : Taken) → StreamContinued t → is_withdrawal n t.packet.what ≡ true →
    t.continued ≡ true
unfolding is_withdrawal
withdrawal_goes n t stream is = by_what t.packet.what stream is where
  by_what : (w : What) → OnTrue (is_of_stream w) (t.continued ≡ true) → is_withdrawal n w ≡ true → t.continued ≡ true
  by_what (what.Withdraw m) stream is = stream
  by_what w stream is = cc

pub answer_goes : (n : ℕ) (t : Taken) → UndoneContinued t → is_answer_to n t.packet.what ≡ true → t.continued ≡ true
unfolding is_answer_to
answer_goes n t undone is = by_what t.packet.what refl is where
  by_what : (w : What) → t.packet.what ≡ w → is_answer_to n w ≡ true → t.continued ≡ true
  by_what (what.Withdrawn m done) same is = undone m done same
  by_what w same is = cc

recalls_each : (j : ℕ) (h before events : List Event) → h ≡ before ++ events →
    ((n : ℕ) → happened (is_recall j n) h ≡ true →
    (happened (is_undone j n true) h || happened (is_undone j n false) h) ≡ true) →
    AllByRecursion (λ e. RecallAnswered j h e.what) events
recalls_each j h before [] same answered = tt
recalls_each j h before (e ∷ events) same answered = (
  by_what e.what refl,
  recalls_each j h (before ++ e ∷ []) events
      (same ∙ sym (append_assoc before (e ∷ []) events)) answered,
)
  where
    by_what : (w : Happened) → e.what ≡ w → RecallAnswered j h w
    by_what (Recall to n) is = by_to (to == j) refl where
      by_to : (b : Bool) → (to == j) ≡ b →
          OnTrue b (IsTrue (happened (is_undone to n true) h || happened (is_undone to n false) h))
      by_to false test = tt
      by_to true test =
          let to_j : to ≡ j = same_number to j test in
          let first : (is_recall j n e.what || happened (is_recall j n) events) ≡ true =
          rw (is, test, self_true n) refl in
          let there : happened (is_recall j n) h ≡ true =
          ap (λ (k : List Event). happened (is_recall j n) k) same
          ∙ list_any-append (λ (e : Event). is_recall j n e.what) before (e ∷ events)
          ∙ or_right (happened (is_recall j n) before) (happened (is_recall j n) (e ∷ events)) first in
          subst (λ (k : ℕ). IsTrue (happened (is_undone k n true) h || happened (is_undone k n false) h)) (sym to_j)
          (answered n there)
    by_what w is = tt

pub recalls_all : (j : ℕ) (h : List Event) →
    ((n : ℕ) → happened (is_recall j n) h ≡ true →
    (happened (is_undone j n true) h || happened (is_undone j n false) h) ≡ true) →
    AllByRecursion (λ e. RecallAnswered j h e.what) h
recalls_all j h answered = recalls_each j h [] h refl answered
