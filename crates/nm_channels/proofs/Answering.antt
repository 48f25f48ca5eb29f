-- Answers continue: no answer is a stray where it was asked for.
use Rattle.std.proofs.Common.{◌≡◌, ℕ, ◌+◌, ◌<◌, ◌≤◌, ◌==◌, max, Bool, true, false, ◌&&◌, ◌||◌, cond, Some, None, List}
use Rattle.std.proofs.Common.{[], ◌∷◌, ◌++◌, length, map, refl, sym, ◌∙◌, ap, subst, append-nil, append_assoc, arith}
use Rattle.std.specs.Prelude.{nat_lt, fold}
use Rattle.std.specs.List.{AllByRecursion, list_any, filter, cons_option}
use Rattle.std.proofs.lemmas.List.Elements.{filter-append}
use Rattle.nm_types.specs.Commands.{Numbered}
use Rattle.nm_types.specs.declared.packets.What.{What}
use Rattle.nm_types.specs.declared.packets.What.TheVariants as what
use Rattle.nm_history.specs.declared.events.Event.{Event}
use Rattle.nm_history.specs.declared.events.Happened.{Happened}
use Rattle.nm_history.specs.Sends.{Sent}
use Rattle.nm_history.specs.Happens.{happened, is_asked_send, is_recall}
use Rattle.nm_history.specs.Delivery.{earlier_than}
use Rattle.nm_channels.proofs.Streams.{clashes, NoClash}
use Rattle.nm_channels.specs.Moments.{LogEntry, Cause, history_of, taken_from, taken_of, clock_at, clock_after, clock_of}
use Rattle.nm_channels.specs.Moments.{EachMomentAfter}
use Rattle.nm_channels.specs.Sound.{AreSound, MayHappen, MadeBy}
use Rattle.nm_history.specs.Clock.{AreStamped}
use Rattle.std.proofs.lemmas.List.Folds.{list_any-append}
use Rattle.nm_history.specs.Continues.{has, is_of_stream, continues_stream, continues_answer, WORN_STAMP}
use Rattle.nm_history.specs.Known.{Known, Taken, known_by, known_after, learned}
use Rattle.nm_channels.specs.Moments.Cause.{Acted, Took, Drew}
use Rattle.nm_channels.proofs.Arriving.{known-push}
use Rattle.nm_channels.proofs.Delivering.{history-push}
use Rattle.nm_history.proofs.Basic.{lt_true}
use Rattle.nm_history.proofs.Growing.{fold-append}
use Rattle.nm_history.specs.Outgoing.{bare}
use Rattle.nm_history.proofs.AskedLemmas.{asked_sends}
use Rattle.nm_types.proofs.NumberLemmas.{eq_true, lt_false, same_number}
use Rattle.nm_types.proofs.ListLemmas.{all_append, all_along}

-- what an answer of this rank answers
abbrev pub asks : ℕ → What → Happened → Bool
asks from (what.Clear n) w = is_asked_send from n w
asks from (what.Withdrawn n done) w = is_recall from n w
asks from _ w = false

-- what an answer finds known, where it clashes with none before
pub record KnownSeen (known : Known) (seen : List What) : Type 0 where
  pub clear : (n : ℕ) → AllByRecursion (λ v. clashes v (what.Clear n) ≡ false) seen →
      (list_any (λ m. m == n) known.cleared ≡ false) × (list_any (λ m. m == n) known.undone ≡ false)
  pub undo : (n : ℕ) (done : Bool) → AllByRecursion (λ v. clashes v (what.Withdrawn n done) ≡ false) seen →
      (list_any (λ m. m == n) known.answered ≡ false) × ((done && list_any (λ m. m == n) known.cleared) ≡ false)

and_true : (a : Bool) → (a && true) ≡ false → a ≡ false
and_true true h = cc
and_true false h = refl

-- a number is not among others and one more
none_more : (ms : List ℕ) (m n : ℕ) → has ms n ≡ false → (m == n) ≡ false → has (ms ++ m ∷ []) n ≡ false
none_more ms m n none other = list_any-append (λ (x : ℕ). x == n) ms (m ∷ []) ∙ rw (none, other) refl

none_done : (done : Bool) (ms : List ℕ) (m n : ℕ) → ((m == n) && done) ≡ false → (done && has ms n) ≡ false →
    (done && has (ms ++ m ∷ []) n) ≡ false
none_done false ms m n other none = refl
none_done true ms m n other none = none_more ms m n none (and_true (m == n) other)

seen_step : (known : Known) (seen : List What) (w : What) (size : ℕ) (b : Bool) → KnownSeen known seen →
    KnownSeen (cond b (learned known w size) known) (w ∷ seen)
seen_step known seen w size false was =
    record { clear = λ n each. was.clear n each.1; undo = λ n done each. was.undo n done each.1 }
seen_step known seen (what.Head tag ctx len) size true was =
    record { clear = λ n each. was.clear n each.1; undo = λ n done each. was.undo n done each.1 }
seen_step known seen (what.More n) size true was =
    record { clear = λ n each. was.clear n each.1; undo = λ n done each. was.undo n done each.1 }
seen_step known seen (what.Ask tag ctx len) size true was =
    record { clear = λ n each. was.clear n each.1; undo = λ n done each. was.undo n done each.1 }
seen_step known seen (what.Withdraw n) size true was =
    record { clear = λ n each. was.clear n each.1; undo = λ n done each. was.undo n done each.1 }
seen_step known seen (what.Clear m) size true was = record {
  clear = λ n each. (none_more known.cleared m n (was.clear n each.1).0 each.0, (was.clear n each.1).1);
  undo = λ n done each. (
    (was.undo n done each.1).0,
    none_done done known.cleared m n each.0
        (was.undo n done each.1).1,
  );
}
seen_step known seen (what.Withdrawn m true) size true was = record {
  clear = λ n each. (
    (was.clear n each.1).0,
    none_more known.undone m n (was.clear n each.1).1
        (and_true (m == n) each.0),
  );
  undo = λ n done each. (none_more known.answered m n (was.undo n done each.1).0 each.0, (was.undo n done each.1).1);
}
seen_step known seen (what.Withdrawn m false) size true was = record {
  clear = λ n each. was.clear n each.1;
  undo = λ n done each. (none_more known.answered m n (was.undo n done each.1).0 each.0, (was.undo n done each.1).1);
}

answer_fits : (known : Known) (h : List Event) (from size : ℕ) (w : What) (seen : List What) →
    is_of_stream w ≡ false → size ≡ 0 → happened (asks from w) h ≡ true → KnownSeen known seen →
    AllByRecursion (λ v. clashes v w ≡ false) seen → continues_answer known h from w size ≡ true
answer_fits known h from size (what.Clear n) seen other bare asked is apart =
    rw (asked_sends h from n, asked, (is.clear n apart).0, (is.clear n apart).1, eq_true size 0 bare) refl
answer_fits known h from size (what.Withdrawn n done) seen other bare asked is apart =
    rw (asked, (is.undo n done apart).0, (is.undo n done apart).1, eq_true size 0 bare) refl
answer_fits known h from size w seen other bare asked is apart = cc

-- what has a greater stamp was not there before
none_early : (stamp : ℕ) (events : List Event) → AllByRecursion (λ e. stamp < e.stamp) events →
    earlier_than (stamp + 1) events ≡ []
none_early stamp [] late = refl
none_early stamp (e ∷ events) late = rw (lt_false e.stamp (stamp + 1) (omega (arith, late.0)))
    (none_early stamp events late.1)

filtered : (test : Event → Bool) (p : Event → Bool) (h : List Event) → list_any test (filter p h) ≡ true →
    list_any test h ≡ true
filtered test p [] found = found
filtered test p (e ∷ h) found = by_test (p e) (filtered test p h) found where
  by_test : (b : Bool) → (list_any test (filter p h) ≡ true → list_any test h ≡ true) →
      list_any test (cond b (e ∷ filter p h) (filter p h)) ≡ true → (test e || list_any test h) ≡ true
  by_test true later found = by_head (test e) later found where
    by_head : (b : Bool) → (list_any test (filter p h) ≡ true → list_any test h ≡ true) →
        (b || list_any test (filter p h)) ≡ true → (b || list_any test h) ≡ true
    by_head true later found = refl
    by_head false later found = later found
  by_test false later found = by_head (test e) (later found) where
    by_head : (b : Bool) → list_any test h ≡ true → (b || list_any test h) ≡ true
    by_head true found = refl
    by_head false found = found

-- what had happened up to a stamp stands in what was there before later events
here_before : (test : Happened → Bool) (stamp : ℕ) (h late : List Event) →
    AllByRecursion (λ e. stamp < e.stamp) late → happened test (earlier_than (stamp + 1) (h ++ late)) ≡ true →
    happened test h ≡ true
here_before test stamp h late after found =
    let same : earlier_than (stamp + 1) (h ++ late) ≡ earlier_than (stamp + 1) h =
    filter-append (λ (e : Event). nat_lt e.stamp (stamp + 1)) h late
    ∙ ap (λ (k : List Event). earlier_than (stamp + 1) h ++ k) (none_early stamp late after)
    ∙ append-nil (earlier_than (stamp + 1) h) in
    filtered (λ e. test e.what) (λ e. nat_lt e.stamp (stamp + 1)) h
    (ap (λ (k : List Event). happened test k) (sym same) ∙ found)

stamped_late : (now : ℕ) (events : List Event) → AreStamped now events → AllByRecursion (λ e. now < e.stamp) events
stamped_late now [] stamped = tt
stamped_late now (e ∷ events) stamped = (
  omega (arith, stamped.0),
  all_along (λ (e : Event). now + 1 < e.stamp) (λ e. now < e.stamp) events
      (λ e late. omega (arith, late)) (stamped_late (now + 1) events stamped.1),
)

clock_past : (clock : ℕ) (c : Cause) → clock ≤ clock_at clock c
clock_past clock Acted = omega arith
clock_past clock (Took t) = omega arith
clock_past clock (Drew d) = omega arith

-- later moments have greater stamps
later_stamps : (eager : ℕ) (bodies : Sent → List ℕ) (commands : List Numbered) (before log : List LogEntry) →
    EachMomentAfter (MayHappen eager bodies commands) before log → AllByRecursion (λ e. clock_of before < e.stamp)
    (history_of log)
later_stamps eager bodies commands before [] sound = tt
later_stamps eager bodies commands before (m ∷ log) sound =
    let clock : clock_of (before ++ m ∷ []) ≡ clock_after (clock_of before) m = fold-append clock_after 0 before
    (m ∷ []) in
    let past = clock_past (clock_of before) m.cause in
    all_append (λ (e : Event). clock_of before < e.stamp) m.events (history_of log)
    (all_along (λ (e : Event). clock_at (clock_of before) m.cause < e.stamp) (λ e. clock_of before < e.stamp) m.events
    (λ e late. omega (arith, late, past))
    (stamped_late (clock_at (clock_of before) m.cause) m.events sound.0.stamped))
    (all_along (λ (e : Event). clock_of (before ++ m ∷ []) < e.stamp) (λ e. clock_of before < e.stamp)
    (history_of log) (λ e late. omega (arith, late, clock, past))
    (later_stamps eager bodies commands (before ++ m ∷ []) log sound.1))

-- an answer that was asked for before its stamp continued
abbrev pub Goes : ℕ → List Event → Taken → Type 0
Goes i whole t = is_of_stream t.packet.what ≡ false → happened (asks i t.packet.what)
    (earlier_than (t.packet.stamp + 1) whole) ≡ true → t.continued ≡ true

-- an answer has no payload
abbrev pub Bare : Taken → Type 0
Bare t = is_of_stream t.packet.what ≡ false → length t.packet.payload ≡ 0

abbrev whats : List Taken → List What
whats ts = map (λ t. t.packet.what) ts

one_goes : (eager i : ℕ) (known : Known) (before late whole : List Event) (seen : List What) (t : Taken) →
    t.packet.from ≡ i → before ++ late ≡ whole → AllByRecursion (λ e. t.packet.stamp < e.stamp) late →
    t.continued ≡ (nat_lt t.packet.stamp WORN_STAMP && cond (is_of_stream t.packet.what)
    (continues_stream eager known t.packet.what (length t.packet.payload))
    (continues_answer known before t.packet.from t.packet.what (length t.packet.payload))) →
    KnownSeen known seen → AllByRecursion (λ v. clashes v t.packet.what ≡ false) seen → t.packet.stamp < WORN_STAMP →
    Bare t → Goes i whole t
one_goes eager i known before late whole seen t source same after made is apart in_time bare other asked =
    let here : happened (asks i t.packet.what) before ≡ true = here_before (asks i t.packet.what) t.packet.stamp
    before late after (ap (λ (h : List Event). happened (asks i t.packet.what)
    (earlier_than (t.packet.stamp + 1) h)) same ∙ asked) in
    let fits : continues_answer known before t.packet.from t.packet.what (length t.packet.payload) ≡ true =
    answer_fits known before t.packet.from (length t.packet.payload) t.packet.what seen other (bare other)
    (ap (λ (k : ℕ). happened (asks k t.packet.what) before) source ∙ here) is apart in
    made ∙ rw (lt_true t.packet.stamp WORN_STAMP in_time, other) fits

log_answers : (eager : ℕ) (bodies : Sent → List ℕ) (commands : List Numbered) (i : ℕ) (whole : List Event)
    (before log : List LogEntry) → EachMomentAfter (MayHappen eager bodies commands) before log →
    history_of before ++ history_of log ≡ whole →
    (seen : List What) → KnownSeen (known_by (taken_from i before)) seen → NoClash seen (whats (taken_from i log)) →
    AllByRecursion Bare (taken_from i log) → AllByRecursion (λ t. t.packet.stamp < WORN_STAMP) (taken_from i log) →
    AllByRecursion (Goes i whole) (taken_from i log)
log_answers eager bodies commands i whole before [] sound same seen is apart bare in_time = tt
log_answers eager bodies commands i whole before (m ∷ log) sound same seen is apart bare in_time =
    let clock : clock_of (before ++ m ∷ []) ≡ clock_after (clock_of before) m = fold-append clock_after 0 before
    (m ∷ []) in
    let late = all_append (λ (e : Event). clock_at (clock_of before) m.cause < e.stamp) m.events (history_of log)
    (stamped_late (clock_at (clock_of before) m.cause) m.events sound.0.stamped)
    (all_along (λ (e : Event). clock_of (before ++ m ∷ []) < e.stamp)
    (λ e. clock_at (clock_of before) m.cause < e.stamp) (history_of log) (λ e late. omega (arith, late, clock))
    (later_stamps eager bodies commands (before ++ m ∷ []) log sound.1)) in
    let next : history_of (before ++ m ∷ []) ++ history_of log ≡ whole = ap (λ (h : List Event). h ++ history_of log)
    (history-push before m) ∙ append_assoc (history_of before) m.events (history_of log) ∙ same in
    by_cause m.cause sound.0.made late apart bare in_time
    (subst (λ (known : Known). (seen' : List What) → KnownSeen known seen' →
    NoClash seen' (whats (taken_from i log)) → AllByRecursion Bare (taken_from i log) →
    AllByRecursion (λ t. t.packet.stamp < WORN_STAMP) (taken_from i log) → AllByRecursion (Goes i whole)
    (taken_from i log))
    (known-push before m i) (λ seen' is' apart' bare' in_time'. log_answers eager bodies commands i whole
    (before ++ m ∷ []) log sound.1 next seen' is' apart' bare' in_time'))
  where
    by_cause : (c : Cause) → MadeBy eager bodies commands before c m.events →
        AllByRecursion (λ e. clock_at (clock_of before) c < e.stamp) (m.events ++ history_of log) →
        NoClash seen (whats (cons_option (taken_of i c) (taken_from i log))) →
        AllByRecursion Bare (cons_option (taken_of i c) (taken_from i log)) →
        AllByRecursion (λ t. t.packet.stamp < WORN_STAMP) (cons_option (taken_of i c) (taken_from i log)) →
        ((seen' : List What) →
        KnownSeen (fold known_after (known_by (taken_from i before)) (cons_option (taken_of i c) [])) seen' →
        NoClash seen' (whats (taken_from i log)) → AllByRecursion Bare (taken_from i log) →
        AllByRecursion (λ t. t.packet.stamp < WORN_STAMP) (taken_from i log) → AllByRecursion (Goes i whole)
        (taken_from i log)) →
        AllByRecursion (Goes i whole) (cons_option (taken_of i c) (taken_from i log))
    by_cause Acted made late apart bare in_time next = next seen is apart bare in_time
    by_cause (Drew d) made late apart bare in_time next = next seen is apart bare in_time
    by_cause (Took t) made late apart bare in_time next = by_source (t.packet.from == i) refl apart bare in_time next
      where
        past : (clock stamp : ℕ) → stamp ≤ max clock stamp
        past clock stamp = omega arith

        by_source : (b : Bool) → (t.packet.from == i) ≡ b →
            NoClash seen (whats (cons_option (cond b (Some t) None) (taken_from i log))) →
            AllByRecursion Bare (cons_option (cond b (Some t) None) (taken_from i log)) →
            AllByRecursion (λ t. t.packet.stamp < WORN_STAMP) (cons_option (cond b (Some t) None) (taken_from i log)) →
            ((seen' : List What) →
            KnownSeen (fold known_after (known_by (taken_from i before)) (cons_option (cond b (Some t) None) []))
            seen' → NoClash seen' (whats (taken_from i log)) → AllByRecursion Bare (taken_from i log) →
            AllByRecursion (λ t. t.packet.stamp < WORN_STAMP) (taken_from i log) → AllByRecursion (Goes i whole)
            (taken_from i log)) →
            AllByRecursion (Goes i whole) (cons_option (cond b (Some t) None) (taken_from i log))
        by_source false test apart bare in_time next = next seen is apart bare in_time
        by_source true test apart bare in_time next =
            let source : t.packet.from ≡ i = same_number t.packet.from i test in (
              one_goes eager i (known_by (taken_from i before)) (history_of before) (m.events ++ history_of log) whole
                  seen t source same
                  (all_along (λ (e : Event). max (clock_of before) t.packet.stamp < e.stamp)
                  (λ e. t.packet.stamp < e.stamp) (m.events ++ history_of log)
                  (λ e l. omega (arith, l, past (clock_of before) t.packet.stamp)) late)
                  (subst (λ (k : ℕ). t.continued
                  ≡ (nat_lt t.packet.stamp WORN_STAMP && cond (is_of_stream t.packet.what)
                  (continues_stream eager (known_by (taken_from k before)) t.packet.what (length t.packet.payload))
                  (continues_answer (known_by (taken_from k before)) (history_of before) t.packet.from
                  t.packet.what (length t.packet.payload)))) source made.0)
                  is apart.0 in_time.0 bare.0,
              next (t.packet.what ∷ seen) (seen_step (known_by (taken_from i before)) seen t.packet.what
                  (length t.packet.payload) t.continued is) apart.1 bare.1 in_time.1,
            )

-- the answers of a rank that were asked for continued
pub answers_go : (eager : ℕ) (bodies : Sent → List ℕ) (commands : List Numbered) (i : ℕ) (log : List LogEntry) →
    AreSound eager bodies commands log → NoClash [] (whats (taken_from i log)) →
    AllByRecursion Bare (taken_from i log) →
    AllByRecursion (λ t. t.packet.stamp < WORN_STAMP) (taken_from i log) → AllByRecursion (Goes i (history_of log))
    (taken_from i log)
answers_go eager bodies commands i log sound apart bare in_time = log_answers eager bodies commands i
    (history_of log) [] log sound refl []
    (record { clear = λ n each. (refl, refl); undo = λ n done each. (refl, nothing done) }) apart bare in_time where
      nothing : (done : Bool) → (done && false) ≡ false
      nothing true = refl
      nothing false = refl
