-- Which packets made the withdrawals, the answers to recalls and the departures of a rank.
use Rattle.std.proofs.Common.{◌≡◌, ℕ, zero, suc, ◌+◌, ◌<◌, ◌≤◌, ◌==◌, max, Bool, true, false, not, ◌&&◌, cond, Option}
use Rattle.std.proofs.Common.{Some, None, List, [], ◌∷◌, ◌++◌, length, refl, sym, ◌∙◌, ap, subst, arith, append-nil}
use Rattle.std.proofs.Common.{append_assoc}
use Rattle.std.specs.Prelude.{slice_get, fold}
use Rattle.std.specs.List.{AllByRecursion, filter, filter_map, cons_option}
use Rattle.std.proofs.lemmas.List.Elements.{filter_map-append}
use Rattle.std.proofs.lemmas.Bool.Decides.{nat_tests}
use Rattle.nm_types.specs.Commands.{Numbered}
use Rattle.nm_types.specs.declared.packets.What.{What}
use Rattle.nm_types.specs.declared.packets.What.TheVariants as what
use Rattle.nm_history.specs.declared.events.Event.{Event}
use Rattle.nm_history.specs.declared.events.Happened.{Happened}
use Rattle.nm_history.specs.declared.events.Happened.TheVariants.{Out, Withdraw, Undone}
use Rattle.nm_history.specs.AtEach.{AtEach, AtEachAfter}
use Rattle.nm_history.specs.Sends.{Sent, sends}
use Rattle.nm_history.specs.Delivery.{is_asked}
use Rattle.nm_channels.proofs.Streams.{clear_of, cleared_by}
use Rattle.nm_channels.specs.Moments.{LogEntry, Cause, history_of, taken_from, taken_of, clock_at, clock_after, clock_of}
use Rattle.nm_channels.specs.Moments.{EachMomentAfter}
use Rattle.nm_channels.specs.Sound.{AreSound, MayHappen, MadeBy, OwnEvent}
use Rattle.nm_history.specs.Clearance.{to_push, pushed_out}
use Rattle.nm_history.specs.Clock.{AreStamped}
use Rattle.nm_history.specs.Effects.{happenings, packet_makes, ask_ends, whole_if, is_empty_send}
use Rattle.nm_history.specs.Known.{Known, Taken, known_by, known_after, learned, nothing_known}
use Rattle.nm_history.specs.Pieces.{Pulled, piece_makes, Due, is_due}
use Rattle.nm_channels.specs.Moments.Cause.{Acted, Took, Drew}
use Rattle.nm_channels.proofs.Delivering.{history-push}
use Rattle.nm_history.proofs.Basic.{at_true}
use Rattle.nm_history.proofs.Growing.{fold-append}
use Rattle.nm_types.proofs.ListLemmas.{all_append, all_along}
use Rattle.nm_history.proofs.Right.{append_after}

-- a packet of this kind came before this stamp
pub record CameBy (P : Taken → Type 0) (stamp : ℕ) (w : What) : Type 0 where
  pub taken : Taken
  pub holds : P taken
  pub goes : taken.continued ≡ true
  pub same : taken.packet.what ≡ w
  pub earlier : taken.packet.stamp < stamp

-- the packet of this rank that made an event
abbrev pub MadeByPacket : (Taken → Type 0) → ℕ → List Event → ℕ → Happened → Type 0
MadeByPacket P i h stamp (Withdraw from n done) = from ≡ i → CameBy P stamp (what.Withdraw n)
MadeByPacket P i h stamp (Undone to n done) = to ≡ i → CameBy P stamp (what.Withdrawn n done)
MadeByPacket P i h stamp (Out to n) = to ≡ i → is_asked (sends h i) n ≡ true → CameBy P stamp (what.Clear n)
MadeByPacket P i h stamp _ = Unit {0}

abbrev pub MadeAt : (Taken → Type 0) → ℕ → List Event → Event → Type 0
MadeAt P i h e = MadeByPacket P i h e.stamp e.what

-- what is true of happenings after a clock
abbrev MadeSince : (Taken → Type 0) → ℕ → ℕ → Happened → Type 0
MadeSince P i clock w = (h : List Event) (stamp : ℕ) → clock < stamp → MadeByPacket P i h stamp w

made_since : (P : Taken → Type 0) (i clock : ℕ) (h events : List Event) → AllByRecursion (MadeSince P i clock)
    (happenings events) → (now : ℕ) → clock ≤ now → AreStamped now events → AtEachAfter (MadeAt P i) h events
made_since P i clock h [] each now later stamped = tt
made_since P i clock h (e ∷ events) each now later stamped = (
  each.0 h e.stamp (omega (arith, stamped.0, later)),
  made_since P i clock (h ++ e ∷ []) events each.1 (now + 1)
      (omega (arith, later)) stamped.1,
)

whole_made : (P : Taken → Type 0) (i clock : ℕ) (b : Bool) (from n : ℕ) → AllByRecursion (MadeSince P i clock)
    (whole_if b from n)
whole_made P i clock true from n = ((λ h stamp later. tt), tt)
whole_made P i clock false from n = tt

-- what a packet makes happen
packet_made : (P : Taken → Type 0) (i clock : ℕ) (t : Taken) (known : Known) (h : List Event) (size : ℕ) (w : What) →
    t.packet.what ≡ w → t.continued ≡ true → (t.packet.from ≡ i → P t) → t.packet.stamp ≤ clock →
    AllByRecursion (MadeSince P i clock) (packet_makes known h t.packet.from w size ++ ask_ends known h t.packet.from w)
packet_made P i clock t known h size (what.Head tag ctx len) same goes holds past = (
  (λ h stamp later. tt),
  all_append (MadeSince P i clock) _ []
      (whole_made P i clock (len == size) t.packet.from known.count) tt,
)
packet_made P i clock t known h size (what.More m) same goes holds past = all_append (MadeSince P i clock) _ []
    (whole_made P i clock (known.missing == size) t.packet.from m) tt
packet_made P i clock t known h size (what.Ask tag ctx len) same goes holds past =
    ((λ h stamp later. tt), whole_made P i clock _ t.packet.from known.count)
packet_made P i clock t known h size (what.Clear m) same goes holds past = all_append (MadeSince P i clock) _ []
    (by_test (is_empty_send h t.packet.from m)) tt where
      by_test : (b : Bool) → AllByRecursion (MadeSince P i clock) (cond b (Out t.packet.from m ∷ []) [])
      by_test true = (
        (λ h stamp later source asked. record {
          taken = t;
          holds = holds source;
          goes = goes;
          same =
              same;
          earlier = omega (arith, past, later);
        }),
        tt,
      )
      by_test false = tt
packet_made P i clock t known h size (what.Withdraw m) same goes holds past = (
  (λ h stamp later source. record {
    taken = t;
    holds = holds source;
    goes = goes;
    same = same;
    earlier =
        omega (arith, past, later);
  }),
  tt,
)
packet_made P i clock t known h size (what.Withdrawn m done) same goes holds past = (
  (λ h stamp later source. record {
    taken = t;
    holds = holds source;
    goes = goes;
    same = same;
    earlier =
        omega (arith, past, later);
  }),
  tt,
)

-- the packet that cleared a message that leaves
pub record Cleared (Q : Taken → Type 0) (n : ℕ) : Type 0 where
  pub taken : Taken
  pub holds : Q taken
  pub goes : taken.continued ≡ true
  pub same : taken.packet.what ≡ what.Clear n

pub clear_parts : (n : ℕ) (t : Taken) → clear_of t ≡ Some n → (t.continued ≡ true) × (t.packet.what ≡ what.Clear n)
clear_parts n t is = by_goes t.continued refl is where
  by_what : (w : What) → cleared_by w ≡ Some n → w ≡ what.Clear n
  by_what (what.Clear m) is = let same : m ≡ n = cc in ap (λ (k : ℕ). what.Clear k) same
  by_what w is = cc

  by_goes : (b : Bool) → t.continued ≡ b → cond b (cleared_by t.packet.what) None ≡ Some n →
      (t.continued ≡ true) × (t.packet.what ≡ what.Clear n)
  by_goes false goes is = cc
  by_goes true goes is = (goes, by_what t.packet.what is)

clear_is : (Q : Taken → Type 0) (n : ℕ) (t : Taken) → Q t → clear_of t ≡ Some n → Cleared Q n
clear_is Q n t holds is = let parts = clear_parts n t is in
    record { taken = t; holds = holds; goes = parts.0; same = parts.1 }

push_from : (Q : Taken → Type 0) (p : ℕ → Bool) (n : ℕ) (ts : List Taken) (k : ℕ) → AllByRecursion Q ts →
    slice_get (filter p (filter_map clear_of ts)) k ≡ Some n → Cleared Q n
push_from Q p n [] k each found = cc
push_from Q p n (t ∷ ts) k each found = by_option (clear_of t) refl found
    (λ k found. push_from Q p n ts k each.1 found) where
      by_option : (o : Option ℕ) → clear_of t ≡ o → slice_get (filter p (cons_option o (filter_map clear_of ts))) k
          ≡ Some n → ((k : ℕ) → slice_get (filter p (filter_map clear_of ts)) k ≡ Some n → Cleared Q n) → Cleared Q n
      by_option None is found later = later k found
      by_option (Some m) is found later = by_test (p m) k found where
        by_test : (b : Bool) (k : ℕ) →
            slice_get (cond b (m ∷ filter p (filter_map clear_of ts)) (filter p (filter_map clear_of ts))) k ≡ Some n →
            Cleared Q n
        by_test false k found = later k found
        by_test true zero found = let same : m ≡ n = cc in clear_is Q n t each.0 (is ∙ ap (λ (x : ℕ). Some x) same)
        by_test true (suc k) found = later k found

-- the messages that packets cleared
pub known_cleared : (known : Known) (ts : List Taken) →
    (fold known_after known ts).cleared ≡ known.cleared ++ filter_map clear_of ts
known_cleared known [] = sym (append-nil known.cleared)
known_cleared known (t ∷ ts) = known_cleared (known_after known t) ts ∙ by_goes t.continued t.packet.what where
  by_goes : (b : Bool) (w : What) → (cond b (learned known w (length t.packet.payload)) known).cleared ++ filter_map
      clear_of ts ≡ known.cleared ++ cons_option (cond b (cleared_by w) None) (filter_map clear_of ts)
  by_goes false w = refl
  by_goes true (what.Clear n) = append_assoc known.cleared (n ∷ []) (filter_map clear_of ts)
  by_goes true w = refl

-- a packet with a property came before this clock
abbrev Past : (Taken → Type 0) → ℕ → Taken → Type 0
Past P clock t = P t × (t.packet.stamp ≤ clock)

own_made : (eager : ℕ) (bodies : Sent → List ℕ) (commands : List Numbered) (P : Taken → Type 0) (i : ℕ)
    (log : List LogEntry) (clock now : ℕ) (h events : List Event) → clock ≤ now → AllByRecursion (Past P clock)
    (taken_from i log) →
    AtEachAfter (λ h e. OwnEvent eager bodies commands log h e.stamp e.what) h events → AreStamped now events →
    AtEachAfter (MadeAt P i) h events
own_made eager bodies commands P i log clock now h [] later past own stamped = tt
own_made eager bodies commands P i log clock now h (e ∷ events) later past own stamped = (
  by_what e.what own.0,
  own_made eager bodies commands P i log clock (now + 1) (h ++ e ∷ []) events
      (omega (arith, later)) past own.1 stamped.1,
)
  where
    by_what : (w : Happened) → OwnEvent eager bodies commands log h e.stamp w → MadeByPacket P i h e.stamp w
    by_what (Withdraw from n done) own' = absurd own'
    by_what (Undone to n done) own' = absurd own'
    by_what (Out to n) own' = λ source asked.
        let here : slice_get (to_push h (known_by (taken_from i log)) i) (length (pushed_out h i)) ≡ Some n =
        subst (λ (k : ℕ). slice_get (to_push h (known_by (taken_from k log)) k) (length (pushed_out h k)) ≡ Some n)
        source (at_true (is_asked (sends h to) n) (ap (λ (k : ℕ). is_asked (sends h k) n) source ∙ asked) own') in
        let from = push_from (Past P clock) (λ m. not (is_empty_send h i m)) n (taken_from i log) _ past
        (ap (λ (ns : List ℕ). slice_get (filter (λ m. not (is_empty_send h i m)) ns) (length (pushed_out h i)))
        (sym (known_cleared nothing_known (taken_from i log))) ∙ here) in
        record {
          taken = from.taken;
          holds = from.holds.0;
          goes = from.goes;
          same = from.same;
          earlier =
              omega (arith, from.holds.1, stamped.0, later);
        }
    by_what w own' = tt

taken_here : (P : Taken → Type 0) (i : ℕ) (t : Taken) → AllByRecursion P (cons_option (taken_of i (Took t)) []) →
    t.packet.from ≡ i → P t
taken_here P i t each source = by_test (t.packet.from == i)
    (let same : (t.packet.from == i) ≡ true = grind (arith, nat_tests) in same) each where
      by_test : (b : Bool) → b ≡ true → AllByRecursion P (cons_option (cond b (Some t) None) []) → P t
      by_test true _ each = each.0
      by_test false h each = cc

piece_made : (P : Taken → Type 0) (i clock from : ℕ) (o : Option Due) (d : Pulled) →
    AllByRecursion (MadeSince P i clock) (piece_makes from o d.piece)
piece_made P i clock from None d = tt
piece_made P i clock from (Some due) d = whole_made P i clock (is_due d.piece due && due.last) from d.piece.n

past_max : (clock stamp : ℕ) → stamp ≤ max clock stamp
past_max clock stamp = omega arith

cause_made : (eager : ℕ) (bodies : Sent → List ℕ) (commands : List Numbered) (P : Taken → Type 0) (i : ℕ)
    (before : List LogEntry) (c : Cause) (events : List Event) → MadeBy eager bodies commands before c events →
    AreStamped (clock_at (clock_of before) c) events → AllByRecursion P (cons_option (taken_of i c) []) →
    AllByRecursion (Past P (clock_of before)) (taken_from i before) → AtEachAfter (MadeAt P i)
    (history_of before) events
cause_made eager bodies commands P i before Acted events made stamped new past = own_made eager bodies commands P i
    before (clock_of before) (clock_of before) (history_of before) events (omega arith) past made stamped
cause_made eager bodies commands P i before (Drew d) events made stamped new past =
    made_since P i (clock_of before) (history_of before) events
    (subst (λ (ws : List Happened). AllByRecursion (MadeSince P i (clock_of before)) ws) (sym made.2)
    (piece_made P i (clock_of before) d.piece.from _ d)) (clock_of before) (omega arith) stamped
cause_made eager bodies commands P i before (Took t) events made stamped new past =
    made_since P i (max (clock_of before) t.packet.stamp) (history_of before) events
    (subst (λ (ws : List Happened). AllByRecursion (MadeSince P i (max (clock_of before) t.packet.stamp)) ws)
    (sym made.1) (by_goes (known_by (taken_from t.packet.from before)) t.continued refl))
    (max (clock_of before) t.packet.stamp) (omega arith) stamped
  where
    by_goes : (known : Known) (b : Bool) → t.continued ≡ b →
        AllByRecursion (MadeSince P i (max (clock_of before) t.packet.stamp))
        (cond b (packet_makes known (history_of before) t.packet.from t.packet.what (length t.packet.payload) ++
        ask_ends known (history_of before) t.packet.from t.packet.what) [])
    by_goes known false goes = tt
    by_goes known true goes = packet_made P i (max (clock_of before) t.packet.stamp) t known (history_of before)
        (length t.packet.payload) t.packet.what refl goes (taken_here P i t new)
        (past_max (clock_of before) t.packet.stamp)

split_cons : (P : Taken → Type 0) (o : Option Taken) (ts : List Taken) → AllByRecursion P (cons_option o ts) →
    AllByRecursion P (cons_option o []) × AllByRecursion P ts
split_cons P None ts each = (tt, each)
split_cons P (Some t) ts each = ((each.0, tt), each.1)

new_past : (P : Taken → Type 0) (i clock : ℕ) (m : LogEntry) → AllByRecursion P (cons_option (taken_of i m.cause) []) →
    AllByRecursion (Past P (clock_after clock m)) (cons_option (taken_of i m.cause) [])
new_past P i clock m new = by_cause m.cause new where
  by_cause : (c : Cause) → AllByRecursion P (cons_option (taken_of i c) []) →
      AllByRecursion (Past P (clock_at clock c + length m.events)) (cons_option (taken_of i c) [])
  by_cause Acted new = tt
  by_cause (Drew d) new = tt
  by_cause (Took t) new = by_test (t.packet.from == i) new where
    by_test : (b : Bool) → AllByRecursion P (cons_option (cond b (Some t) None) []) →
        AllByRecursion (Past P (max clock t.packet.stamp + length m.events)) (cons_option (cond b (Some t) None) [])
    by_test true new = ((new.0, omega arith), tt)
    by_test false new = tt

clock_rises : (clock : ℕ) (m : LogEntry) → clock ≤ clock_after clock m
clock_rises clock m = by_cause m.cause where
  by_cause : (c : Cause) → clock ≤ clock_at clock c + length m.events
  by_cause (Took t) = omega arith
  by_cause Acted = omega arith
  by_cause (Drew d) = omega arith

log_made : (eager : ℕ) (bodies : Sent → List ℕ) (commands : List Numbered) (P : Taken → Type 0) (i : ℕ)
    (before log : List LogEntry) → EachMomentAfter (MayHappen eager bodies commands) before log →
    AllByRecursion P (taken_from i log) →
    AllByRecursion (Past P (clock_of before)) (taken_from i before) → AtEachAfter (MadeAt P i) (history_of before)
    (history_of log)
log_made eager bodies commands P i before [] sound each past = tt
log_made eager bodies commands P i before (m ∷ log) sound each past =
    let parts = split_cons P (taken_of i m.cause) (taken_from i log) each in
    let clock : clock_of (before ++ m ∷ []) ≡ clock_after (clock_of before) m = fold-append clock_after 0 before
    (m ∷ []) in
    let still = all_along (Past P (clock_of before)) (Past P (clock_after (clock_of before) m)) (taken_from i before)
    (λ t was. (was.0, omega (arith, was.1, clock_rises (clock_of before) m))) past in
    let all = all_append (Past P (clock_after (clock_of before) m)) (taken_from i before)
    (cons_option (taken_of i m.cause) []) still (new_past P i (clock_of before) m parts.0) in
    append_after (MadeAt P i) (history_of before) m.events (history_of log)
    (cause_made eager bodies commands P i before m.cause m.events sound.0.made sound.0.stamped parts.0 past)
    (subst (λ (k : List Event). AtEachAfter (MadeAt P i) k (history_of log)) (history-push before m)
    (log_made eager bodies commands P i (before ++ m ∷ []) log sound.1 parts.1
    (subst (λ (c : ℕ). AllByRecursion (Past P c) (taken_from i (before ++ m ∷ []))) (sym clock)
    (subst (λ (ts : List Taken). AllByRecursion (Past P (clock_after (clock_of before) m)) ts)
    (sym (filter_map-append (λ (m : LogEntry). taken_of i m.cause) before (m ∷ []))) all))))

-- the packets that made a rank's withdrawals, answers to recalls and departures
pub packets_made : (eager : ℕ) (bodies : Sent → List ℕ) (commands : List Numbered) (P : Taken → Type 0) (i : ℕ)
    (log : List LogEntry) → AreSound eager bodies commands log → AllByRecursion P (taken_from i log) →
    AtEach (MadeAt P i) (history_of log)
unfolding AtEach
packets_made eager bodies commands P i log sound each = log_made eager bodies commands P i [] log sound each tt
