-- What two ranks did in order: withdrawals after their recalls, answers after withdrawals, and
-- departures after pairs.
use Rattle.std.proofs.Common.{◌≡◌, ℕ, ◌<◌, ◌==◌, Bool, true, false, ◌&&◌, Option, Some, List, [], ◌∷◌, ◌++◌, refl}
use Rattle.std.proofs.Common.{◌∙◌, ap, subst, append_assoc, arith}
use Rattle.std.specs.Prelude.{nat_lt}
use Rattle.std.specs.List.{AllByRecursion, list_any}
use Rattle.std.specs.Option.{option_to_list}
use Rattle.std.proofs.lemmas.List.Elements.{filter-append}
use Rattle.std.proofs.lemmas.List.Folds.{list_any-append}
use Rattle.nm_types.specs.Commands.{Numbered}
use Rattle.nm_types.specs.declared.packets.What.TheVariants as what
use Rattle.nm_history.specs.declared.events.Event.{Event}
use Rattle.nm_history.specs.declared.events.Happened.{Happened}
use Rattle.nm_history.specs.declared.events.Happened.TheVariants.{Out, Withdraw, Undone}
use Rattle.nm_history.specs.declared.plain.Pair.{Pair}
use Rattle.nm_history.specs.AtEach.{AtEach, AtEachAfter}
use Rattle.nm_history.specs.Sends.{Sent, sends, is_ask}
use Rattle.nm_history.specs.Happens.{happened, is_recall, is_withdraw}
use Rattle.nm_history.specs.Matching.{matched_pairs, new_pair, is_of_message}
use Rattle.nm_history.specs.Completion.{is_taken}
use Rattle.nm_history.specs.Outgoing.{is_clear}
use Rattle.nm_history.specs.RankRun.{StampAt, last_stamp}
use Rattle.nm_history.specs.Delivery.{is_asked, earlier_than, WithdrawAfterRecall, UndoneAfterWithdraw, OutAfterPair}
use Rattle.nm_history.specs.Delivery.{Withdrawals}
use Rattle.nm_history.proofs.MatchingLemmas.{matched_pairs-push, matched_pairs-append}
use Rattle.nm_history.proofs.DeliveryLemmas.{AtEach-along}
use Rattle.nm_channels.specs.Moments.{LogEntry, history_of, taken_from}
use Rattle.nm_channels.specs.Sound.{AreSound}
use Rattle.nm_channels.proofs.Causes.{Source, HasSource}
use Rattle.nm_channels.proofs.Made.{MadeAt, MadeByPacket, packets_made}
use Rattle.nm_history.proofs.Basic.{self_true, lt_true, or_true, same_done, on_test, true_is}
use Rattle.nm_history.proofs.Growing.{fold-append}
use Rattle.nm_types.proofs.NumberLemmas.{same_number}
use Rattle.nm_types.proofs.TruthLemmas.{and_left, and_right}
use Rattle.nm_history.proofs.EachLemmas.{each_event}

-- what happened at an event had happened before every greater stamp
pub happened_at : (test : Happened → Bool) (stamp : ℕ) (before : List Event) (e : Event) (after : List Event) →
    e.stamp < stamp → test e.what ≡ true → happened test (earlier_than stamp (before ++ e ∷ after)) ≡ true
happened_at test stamp before e after earlier holds =
    let parts = filter-append (λ (e : Event). nat_lt e.stamp stamp) before (e ∷ after) in
    rw (
      parts,
      list_any-append (λ (e : Event). test e.what) (earlier_than stamp before)
          (earlier_than stamp (e ∷ after)),
      lt_true e.stamp stamp earlier,
      holds,
    ) (or_true _)

-- stamps rise
rise_after : (b xs : List Event) (e : Event) (after : List Event) → AtEachAfter (λ before e. StampAt before e.stamp) b
    (xs ++ e ∷ after) → AllByRecursion (λ x. x.stamp < e.stamp) xs × (last_stamp b < e.stamp)
rise_after b [] e after each = (tt, each.0)
rise_after b (x ∷ xs) e after each =
    let rest = rise_after (b ++ x ∷ []) xs e after each.1 in
    let last : last_stamp (b ++ x ∷ []) ≡ x.stamp = fold-append (λ stamp (e : Event). e.stamp) 0 b (x ∷ []) in
    ((omega (arith, rest.1, last), rest.0), omega (arith, rest.1, last, each.0))

pub rise : (xs : List Event) (e : Event) (after : List Event) → AtEach (λ before e. StampAt before e.stamp)
    (xs ++ e ∷ after) → AllByRecursion (λ x. x.stamp < e.stamp) xs
unfolding AtEach
rise xs e after each = (rise_after [] xs e after each).0

all_earlier : (stamp now : ℕ) (xs : List Event) → now < stamp → AllByRecursion (λ x. x.stamp < now) xs →
    earlier_than stamp xs ≡ xs
all_earlier stamp now [] later each = refl
all_earlier stamp now (x ∷ xs) later each = rw (lt_true x.stamp stamp (omega (arith, each.0, later)))
    (ap (λ (k : List Event). x ∷ k) (all_earlier stamp now xs later each.1))

and_both : (a b c : Bool) → (a && b) ≡ true → c ≡ true → (a && c) ≡ true
and_both true b c h k = k
and_both false b c h k = cc

-- a message that an event paired was paired before every greater stamp
pub taken_at : (i n stamp : ℕ) (before : List Event) (e : Event) (after : List Event) (pair : Pair) →
    AtEach (λ before e. StampAt before e.stamp) (before ++ e ∷ after) → e.stamp < stamp →
    new_pair before (matched_pairs before) e.what ≡ Some pair → is_of_message i n pair ≡ true →
    is_taken (earlier_than stamp (before ++ e ∷ after)) i n ≡ true
taken_at i n stamp before e after pair stamps earlier made is =
    let begins : earlier_than stamp (before ++ e ∷ after) ≡ (before ++ e ∷ []) ++ earlier_than stamp after =
    filter-append (λ (e : Event). nat_lt e.stamp stamp) before (e ∷ after)
    ∙ rw (
      all_earlier stamp e.stamp before earlier (rise before e after stamps),
      lt_true e.stamp stamp earlier,
      append_assoc before (e ∷ []) (earlier_than stamp after),
    ) refl in
    let more = matched_pairs-append (before ++ e ∷ []) (earlier_than stamp after) in
    let pairs : matched_pairs (before ++ e ∷ []) ≡ matched_pairs before ++ pair ∷ [] = matched_pairs-push before e
    ∙ ap (λ (o : Option Pair). matched_pairs before ++ option_to_list o) made in
    let here : list_any (is_of_message i n) (matched_pairs before ++ pair ∷ []) ≡ true = list_any-append
    (is_of_message i n) (matched_pairs before) (pair ∷ []) ∙ rw is (or_true _) in
    rw (begins, more.1, list_any-append (is_of_message i n) (matched_pairs (before ++ e ∷ [])) more.0, pairs, here) refl

pub is_cleared : (i n : ℕ) (pair : Pair) → is_clear i pair ≡ true → pair.arrival.n ≡ n → is_of_message i n pair ≡ true
is_cleared i n pair clear same = and_both (pair.arrival.env.from == i) (is_ask pair.arrival.env.how)
    (pair.arrival.n == n) clear (rw same (self_true n))

recalled : (i j : ℕ) (hi : List Event) (before : List Event) (stamp : ℕ) (w : Happened) →
    MadeByPacket (HasSource j hi) i before stamp w → WithdrawAfterRecall i j hi stamp w
recalled i j hi before stamp (Withdraw from n done) made = on_test (from == i) (λ test.
    let came = made (same_number from i test) in
    let source : Source j hi came.taken.packet.stamp (what.Withdraw n) =
    subst (λ w. Source j hi came.taken.packet.stamp w) came.same came.holds in
    true_is _ (ap (λ (h : List Event). happened (is_recall j n) (earlier_than stamp h)) source.split
    ∙ (happened_at (is_recall j n) stamp source.before source.event source.after
    (omega (arith, source.since, came.earlier)) (rw (source.origin, self_true j, self_true n) refl))))
recalled i j hi before stamp w made = tt

answered : (i j : ℕ) (hj : List Event) (before : List Event) (stamp : ℕ) (w : Happened) →
    MadeByPacket (HasSource i hj) j before stamp w → UndoneAfterWithdraw i j hj stamp w
answered i j hj before stamp (Undone to n done) made = on_test (to == j) (λ test.
    let came = made (same_number to j test) in
    let source : Source i hj came.taken.packet.stamp (what.Withdrawn n done) =
    subst (λ w. Source i hj came.taken.packet.stamp w) came.same came.holds in
    true_is _ (ap (λ (h : List Event). happened (is_withdraw i n done) (earlier_than stamp h)) source.split
    ∙ (happened_at (is_withdraw i n done) stamp source.before source.event source.after
    (omega (arith, source.since, came.earlier)) (rw (source.origin, self_true i, self_true n, same_done done) refl))))
answered i j hj before stamp w made = tt

-- what was cleared was paired before every greater stamp
source_taken : (i n sent stamp : ℕ) (h : List Event) → AtEach (λ before e. StampAt before e.stamp) h →
    Source i h sent (what.Clear n) → sent < stamp → is_taken (earlier_than stamp h) i n ≡ true
source_taken i n sent stamp h stamps source later =
    let split : h ≡ source.before ++ source.event ∷ source.after = source.split in
    let pair : Pair = source.origin.0 in
    ap (λ (h : List Event). is_taken (earlier_than stamp h) i n) split
    ∙ taken_at i n stamp source.before source.event source.after pair
    (subst (λ (h : List Event). AtEach (λ before e. StampAt before e.stamp) h) split stamps)
    (omega (arith, source.since, later)) source.origin.1 (is_cleared i n pair source.origin.2 source.origin.3)

left : (i j : ℕ) (hj : List Event) (before : List Event) (stamp : ℕ) (w : Happened) →
    AtEach (λ before e. StampAt before e.stamp) hj → MadeByPacket (HasSource i hj) j before stamp w →
    OutAfterPair i j hj before stamp w
left i j hj before stamp (Out to n) stamps made = on_test (to == j && is_asked (sends before j) n) (λ test.
    let came = made (same_number to j (and_left (to == j) (is_asked (sends before j) n) test))
    (and_right (to == j) (is_asked (sends before j) n) test) in
    let source : Source i hj came.taken.packet.stamp (what.Clear n) =
    subst (λ w. Source i hj came.taken.packet.stamp w) came.same came.holds in
    true_is _ (source_taken i n came.taken.packet.stamp stamp hj stamps source came.earlier))
left i j hj before stamp w stamps made = tt

-- withdrawals and answers are in order
pub withdrawals_in_order : (eager : ℕ) (i j : ℕ) (bi bj : Sent → List ℕ) (ci cj : List Numbered)
    (li lj : List LogEntry) → AreSound eager bi ci li → AreSound eager bj cj lj →
    AllByRecursion (HasSource j (history_of li)) (taken_from i lj) → AllByRecursion (HasSource i (history_of lj))
    (taken_from j li) → Withdrawals i j (history_of li) (history_of lj)
withdrawals_in_order eager i j bi bj ci cj li lj sound_i sound_j there back =
    let hi : List Event = history_of li in
    let hj : List Event = history_of lj in
    record {
      asked = each_event (WithdrawAfterRecall i j hi) hj
          (AtEach-along (MadeAt (HasSource j hi) i) (λ before e. WithdrawAfterRecall i j hi e.stamp e.what) hj
          (λ before e. recalled i j hi before e.stamp e.what)
          (packets_made eager bj cj (HasSource j hi) i lj sound_j there));
      answered = each_event (UndoneAfterWithdraw i j hj) hi
          (AtEach-along (MadeAt (HasSource i hj) j) (λ before e. UndoneAfterWithdraw i j hj e.stamp e.what) hi
          (λ before e. answered i j hj before e.stamp e.what)
          (packets_made eager bi ci (HasSource i hj) j li sound_i back));
    }

-- asked messages leave after they were paired
pub outs_in_order : (eager : ℕ) (i j : ℕ) (bi : Sent → List ℕ) (ci : List Numbered) (li : List LogEntry)
    (hj : List Event) → AreSound eager bi ci li → AtEach (λ before e. StampAt before e.stamp) hj →
    AllByRecursion (HasSource i hj) (taken_from j li) → AtEach (λ before e. OutAfterPair i j hj before e.stamp e.what)
    (history_of li)
outs_in_order eager i j bi ci li hj sound stamps back =
    AtEach-along (MadeAt (HasSource i hj) j) (λ before e. OutAfterPair i j hj before e.stamp e.what) (history_of li)
    (λ before e. left i j hj before e.stamp e.what stamps) (packets_made eager bi ci (HasSource i hj) j li sound back)
