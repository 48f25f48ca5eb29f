-- Eager messages that are complete are here.
use Rattle.std.proofs.Common.{◌≡◌, ℕ, ◌==◌, Bool, true, false, not, cond, Option, Some, None, List, [], ◌∷◌, ◌++◌}
use Rattle.std.proofs.Common.{length, map, refl, sym, ◌∙◌, ap, subst}
use Rattle.std.specs.Prelude.{IsTrue, fold}
use Rattle.std.specs.Bool.{OnTrue}
use Rattle.std.specs.List.{AllByRecursion, filter, filter_map, cons_option, list_any}
use Rattle.std.proofs.lemmas.List.Folds.{list_any-append}
use Rattle.nm_types.specs.Commands.{Numbered}
use Rattle.nm_types.specs.declared.packets.What.{What}
use Rattle.nm_types.specs.declared.packets.What.TheVariants as what
use Rattle.nm_history.specs.declared.events.Event.{Event}
use Rattle.nm_history.specs.declared.events.Happened.{Happened}
use Rattle.nm_history.specs.Sends.{Sent, sends, sent_of, is_ask}
use Rattle.nm_history.specs.Happens.{happened, is_whole, is_out}
use Rattle.nm_history.specs.Quiescence.{EagerOver, is_over}
use Rattle.nm_channels.proofs.Streams.{completes, completed, eager_numbers}
use Rattle.nm_history.specs.Rest.{EagerHaveLeft}
use Rattle.nm_channels.specs.Moments.{LogEntry, Cause, history_of, taken_from, taken_of, EachMomentAfter}
use Rattle.nm_channels.specs.Sound.{AreSound, MayHappen, MadeBy}
use Rattle.nm_history.specs.Effects.{happenings, packet_makes, ask_ends, whole_if}
use Rattle.nm_history.specs.Known.{Known, known_by, known_after, nothing_known}
use Rattle.nm_channels.specs.Moments.Cause.{Acted, Took, Drew}
use Rattle.nm_channels.proofs.Arriving.{known-push}
use Rattle.nm_history.proofs.Basic.{self_true, happened_in}
use Rattle.nm_types.proofs.TruthLemmas.{or_left, both, or_right}
use Rattle.nm_types.proofs.NumberLemmas.{same_number}
use Rattle.nm_types.proofs.ListLemmas.{all_along}

whole_here : (from n m : ℕ) (b : Bool) (rest : List Happened) → cond b (Some m) None ≡ Some n →
    list_any (is_whole from n) (whole_if b from m ++ rest) ≡ true
whole_here from n m false rest is = cc
whole_here from n m true rest is = let same : m ≡ n = cc in rw (same, self_true from, self_true n) refl

-- a packet that completes a message makes it whole
packet_completes : (known : Known) (h : List Event) (from n size : ℕ) (w : What) (rest : List Happened) →
    completes known w size ≡ Some n → list_any (is_whole from n) (packet_makes known h from w size ++ rest) ≡ true
packet_completes known h from n size (what.Head tag ctx len) rest is = whole_here from n known.count
    (len == size) rest is
packet_completes known h from n size (what.More m) rest is = whole_here from n m (known.missing == size) rest is
packet_completes known h from n size (what.Ask tag ctx len) rest is = cc
packet_completes known h from n size (what.Clear m) rest is = cc
packet_completes known h from n size (what.Withdraw m) rest is = cc
packet_completes known h from n size (what.Withdrawn m done) rest is = cc

-- message n of rank i is here
abbrev pub IsHere : ℕ → List Event → ℕ → Type 0
IsHere i h n = happened (is_whole i n) h ≡ true

with_new : (P : ℕ → Type 0) (o : Option ℕ) (ns : List ℕ) → ((n : ℕ) → o ≡ Some n → P n) → AllByRecursion P ns →
    AllByRecursion P (cons_option o ns)
with_new P None ns new each = each
with_new P (Some n) ns new each = (new n refl, each)

pub log_completes : (eager : ℕ) (bodies : Sent → List ℕ) (commands : List Numbered) (i : ℕ)
    (before log : List LogEntry) → EachMomentAfter (MayHappen eager bodies commands) before log →
    AllByRecursion (IsHere i (history_of log)) (completed (known_by (taken_from i before)) (taken_from i log))
log_completes eager bodies commands i before [] sound = tt
log_completes eager bodies commands i before (m ∷ log) sound =
    let rest = subst (λ (known : Known). AllByRecursion (IsHere i (history_of log))
    (completed known (taken_from i log))) (known-push before m i)
    (log_completes eager bodies commands i (before ++ m ∷ []) log sound.1) in
    by_cause m.cause sound.0.made (all_along (IsHere i (history_of log)) (IsHere i (m.events ++ history_of log)) _
    (λ n here. list_any-append (λ (e : Event). is_whole i n e.what) m.events (history_of log) ∙ or_right _ _ here)
    rest)
  where
    by_cause : (c : Cause) → MadeBy eager bodies commands before c m.events →
        AllByRecursion (IsHere i (m.events ++ history_of log))
        (completed (fold known_after (known_by (taken_from i before)) (cons_option (taken_of i c) []))
        (taken_from i log)) →
        AllByRecursion (IsHere i (m.events ++ history_of log))
        (completed (known_by (taken_from i before)) (cons_option (taken_of i c) (taken_from i log)))
    by_cause Acted made later = later
    by_cause (Drew d) made later = later
    by_cause (Took t) made later = by_source (t.packet.from == i) refl later where
      by_goes : (b : Bool) → t.continued ≡ b → t.packet.from ≡ i →
          (n : ℕ) → cond b (completes (known_by (taken_from i before)) t.packet.what (length t.packet.payload)) None
          ≡ Some n → IsHere i (m.events ++ history_of log) n
      by_goes false goes source n is = cc
      by_goes true goes source n is =
          let known : Known = known_by (taken_from t.packet.from before) in
          let ends : completes known t.packet.what (length t.packet.payload) ≡ Some n =
          ap (λ (k : ℕ). completes (known_by (taken_from k before)) t.packet.what (length t.packet.payload)) source
          ∙ is in
          let made_is : happenings m.events ≡ packet_makes known (history_of before) t.packet.from t.packet.what
          (length t.packet.payload) ++ ask_ends known (history_of before) t.packet.from t.packet.what =
          subst (λ (b : Bool). happenings m.events ≡ cond b
          (packet_makes known (history_of before) t.packet.from t.packet.what (length t.packet.payload) ++ ask_ends
          known (history_of before) t.packet.from t.packet.what) []) goes made.1 in
          let here : happened (is_whole t.packet.from n) m.events ≡ true =
          happened_in (is_whole t.packet.from n) m.events ∙ ap (λ ws. list_any (is_whole t.packet.from n) ws) made_is
          ∙ packet_completes known (history_of before) t.packet.from n (length t.packet.payload) t.packet.what
          (ask_ends known (history_of before) t.packet.from t.packet.what) ends in
          list_any-append (λ (e : Event). is_whole i n e.what) m.events (history_of log)
          ∙ or_left _ _ (ap (λ (k : ℕ). happened (is_whole k n) m.events) (sym source) ∙ here)

      by_source : (b : Bool) → (t.packet.from == i) ≡ b →
          AllByRecursion (IsHere i (m.events ++ history_of log))
          (completed (fold known_after (known_by (taken_from i before)) (cons_option (cond b (Some t) None) []))
          (taken_from i log)) →
          AllByRecursion (IsHere i (m.events ++ history_of log))
          (completed (known_by (taken_from i before)) (cons_option (cond b (Some t) None) (taken_from i log)))
      by_source false test later = later
      by_source true test later = with_new (IsHere i (m.events ++ history_of log)) _ _
          (by_goes t.continued refl (same_number t.packet.from i test)) later

-- eager messages of which all packets came are here
pub eager_here : (eager : ℕ) (bodies : Sent → List ℕ) (commands : List Numbered) (i : ℕ) (log : List LogEntry)
    (ss : List Sent) → AreSound eager bodies commands log → completed nothing_known (taken_from i log)
    ≡ eager_numbers ss →
    AllByRecursion (IsHere i (history_of log)) (eager_numbers ss)
eager_here eager bodies commands i log ss sound same =
    subst (λ (ns : List ℕ). AllByRecursion (IsHere i (history_of log)) ns) same
    (log_completes eager bodies commands i [] log sound)

-- each eager message that left and is here is over
over_each : (i j : ℕ) (hi hj : List Event) (all : List Sent) →
    AllByRecursion (λ s. OnTrue (not (is_ask s.how)) (IsTrue (happened (is_out s.to s.n) hi))) all →
    AllByRecursion (IsHere i hj) (eager_numbers (filter (λ s. s.to == j) all)) →
    AllByRecursion (λ s. OnTrue (not (is_ask s.how)) (IsTrue (is_over i j hi hj s.n))) (filter (λ s. s.to == j) all)
over_each i j hi hj [] left here = tt
over_each i j hi hj (s ∷ all) left here = by_to (s.to == j) refl (over_each i j hi hj all left.1) here where
  by_to : (b : Bool) → (s.to == j) ≡ b →
      (AllByRecursion (IsHere i hj) (eager_numbers (filter (λ s. s.to == j) all)) →
      AllByRecursion (λ s. OnTrue (not (is_ask s.how)) (IsTrue (is_over i j hi hj s.n)))
      (filter (λ s. s.to == j) all)) →
      AllByRecursion (IsHere i hj)
      (eager_numbers (cond b (s ∷ filter (λ s. s.to == j) all) (filter (λ s. s.to == j) all))) →
      AllByRecursion (λ s. OnTrue (not (is_ask s.how)) (IsTrue (is_over i j hi hj s.n)))
      (cond b (s ∷ filter (λ s. s.to == j) all) (filter (λ s. s.to == j) all))
  by_to false test later here = later here
  by_to true test later here = by_how (not (is_ask s.how)) left.0 here where
    by_how : (b : Bool) → OnTrue b (IsTrue (happened (is_out s.to s.n) hi)) →
        AllByRecursion (IsHere i hj)
        (map (λ s. s.n) (cond b (s ∷ filter (λ s. not (is_ask s.how)) (filter (λ s. s.to == j) all))
        (filter (λ s. not (is_ask s.how)) (filter (λ s. s.to == j) all)))) →
        OnTrue b (IsTrue (is_over i j hi hj s.n)) × AllByRecursion
        (λ s. OnTrue (not (is_ask s.how)) (IsTrue (is_over i j hi hj s.n))) (filter (λ s. s.to == j) all)
    by_how false out here = (tt, later here)
    by_how true out here = (
      both _ _ (ap (λ (k : ℕ). happened (is_out k s.n) hi) (sym (same_number s.to j test)) ∙ out) here.0,
      later
          here.1,
    )

-- each eager message is over
pub eager_over : (i j : ℕ) (hi hj : List Event) → EagerHaveLeft hi → AllByRecursion (IsHere i hj)
    (eager_numbers (sends hi j)) → EagerOver i j hi hj
eager_over i j hi hj left here = over_each i j hi hj (filter_map (λ e. sent_of e.stamp e.what) hi) left here
