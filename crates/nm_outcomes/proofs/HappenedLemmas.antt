-- What happened in a history: once, or before something else.
use Rattle.std.proofs.Common.{◌≡◌, ℕ, ◌==◌, ◌⊎◌, inl, inr, ◌&&◌, ◌||◌, not, Bool, true, false}
use Rattle.std.proofs.Common.{cond, List, [], ◌∷◌, ◌++◌, refl, sym, ◌∙◌, ap, subst}
use Rattle.std.proofs.Common.{append-nil, append_assoc}
use Rattle.std.specs.List.{cons_option, filter, filter_map}
use Rattle.std.specs.Option.{option_to_list}
use Rattle.std.proofs.lemmas.Bool.{false≢true}
use Rattle.nm_types.specs.declared.messages.How.TheVariants.{Eager}
use Rattle.nm_history.specs.declared.events.Event.{Event}
use Rattle.nm_history.specs.declared.events.Happened.{Happened}
use Rattle.nm_history.specs.declared.events.Happened.TheVariants as event
use Rattle.nm_history.specs.declared.plain.Pair.{Pair}
use Rattle.nm_history.specs.AtEach.{AtEach, AtEachAfter}
use Rattle.nm_history.specs.Delivery.{is_asked}
use Rattle.nm_history.specs.Happens.{happened, is_arrival, is_same, is_send}
use Rattle.nm_history.specs.Happens.{is_withdraw}
use Rattle.nm_history.specs.Matching.{is_free_message, matched_pairs, new_pair}
use Rattle.nm_history.specs.RankRun.{EndAt}
use Rattle.nm_history.specs.Sends.{Sent, is_ask, sends, sent_of}
use Rattle.nm_history.proofs.AppendLemmas.{happened-push}
use Rattle.nm_history.proofs.MatchingLemmas.{matched_pairs-push}
use Rattle.nm_history.proofs.SelectionLemmas.{free_before}
use Rattle.nm_types.proofs.NumberLemmas.{same_number}
use Rattle.nm_types.proofs.TruthLemmas.{and_left, and_right, both, or_left, or_right}
use Rattle.nm_outcomes.specs.Results.{is_past_recall, is_unasked}

-- what happened stands somewhere
pub split_any : (test : Happened → Bool) (h : List Event) → happened test h ≡ true →
    (before : List Event) × (e : Event) × (after : List Event) × (h ≡ before ++ e ∷ after) × (test e.what ≡ true)
split_any test [] some = absurd (false≢true some)
split_any test (x ∷ h) some = by_test (test x.what) refl some (λ some. split_any test h some)
  where
    by_test : (b : Bool) → test x.what ≡ b → (b || happened test h) ≡ true →
        (happened test h ≡ true → (before : List Event) × (e : Event) × (after : List Event)
        × (h ≡ before ++ e ∷ after) × (test e.what ≡ true)) →
        (before : List Event) × (e : Event) × (after : List Event) × (x ∷ h ≡ before ++ e ∷ after)
        × (test e.what ≡ true)
    by_test true is some later = ([], x, h, refl, is)
    by_test false is some later =
        let more = later some in
        (x ∷ more.0, more.1, more.2, ap (λ (k : List Event). x ∷ k) more.3, more.4)

-- a rank's history, one event after another
pub history_after : (R : List Event → Event → Type 0) (P : List Event → Type 0) →
    ((h : List Event) (e : Event) → P h → R h e → P (h ++ e ∷ [])) → (before events : List Event) → P before →
    AtEachAfter R before events → P (before ++ events)
history_after R P grow before [] holds each = subst P (sym (append-nil before)) holds
history_after R P grow before (e ∷ events) holds each =
    subst P (append_assoc before (e ∷ []) events)
    (history_after R P grow (before ++ e ∷ []) events (grow before e holds each.0) each.1)

pub history_induction : (R : List Event → Event → Type 0) (P : List Event → Type 0) →
    ((h : List Event) (e : Event) → P h → R h e → P (h ++ e ∷ [])) → P [] → (h : List Event) → AtEach R h → P h
unfolding AtEach
history_induction R P grow none h each = history_after R P grow [] h none each

-- one of two came: before, or last
pub last_or_before : (test : Happened → Bool) (h : List Event) (e : Event) → happened test (h ++ e ∷ []) ≡ true →
    (happened test h ≡ true) ⊎ (test e.what ≡ true)
last_or_before test h e some = by_first (happened test h) refl (sym (happened-push test h e) ∙ some)
  where
    by_first : (b : Bool) → happened test h ≡ b → (b || test e.what) ≡ true →
        (happened test h ≡ true) ⊎ (test e.what ≡ true)
    by_first true is some = inl is
    by_first false is some = inr some

pub still : (test : Happened → Bool) (h : List Event) (e : Event) → happened test h ≡ true →
    happened test (h ++ e ∷ []) ≡ true
still test h e some = happened-push test h e ∙ or_left (happened test h) (test e.what) some

-- a withdrawal is done or late, and not both
pub not_both : (i n : ℕ) (h : List Event) → AtEach (λ b e. EndAt b e.what) h →
    happened (is_withdraw i n true) h ≡ true → happened (is_withdraw i n false) h ≡ true → ⊥
not_both i n h ends =
    history_induction (λ b e. EndAt b e.what)
    (λ h. happened (is_withdraw i n true) h ≡ true → happened (is_withdraw i n false) h ≡ true → ⊥) grow
    (λ done late. false≢true done) h ends
  where
    -- behind a withdrawal of the message there is none
    none_behind : (h : List Event) (what : Happened) (d : Bool) → is_withdraw i n d what ≡ true → EndAt h what →
        (happened (is_withdraw i n true) h ≡ false) × (happened (is_withdraw i n false) h ≡ false)
    none_behind h (event.Withdraw from m done) d is ends =
        let names : (from == i && m == n) ≡ true = and_left (from == i && m == n) (is_same d done) is in
        let one : from ≡ i = same_number from i (and_left (from == i) (m == n) names) in
        let two : m ≡ n = same_number m n (and_right (from == i) (m == n) names) in
        subst (λ (f : ℕ). (happened (is_withdraw f n true) h ≡ false) × (happened
        (is_withdraw f n false) h ≡ false)) one
        (subst (λ (k : ℕ). (happened (is_withdraw from k true) h ≡ false)
        × (happened (is_withdraw from k false) h ≡ false)) two (ends.0, ends.1))
    none_behind h what d is ends = absurd (false≢true is)

    not_one : (what : Happened) → is_withdraw i n true what ≡ true → is_withdraw i n false what ≡ true → ⊥
    not_one (event.Withdraw from m true) done late =
        false≢true (and_right (from == i && m == n) false late)
    not_one (event.Withdraw from m false) done late =
        false≢true (and_right (from == i && m == n) false done)
    not_one what done late = false≢true done

    grow : (h : List Event) (e : Event) →
        (happened (is_withdraw i n true) h ≡ true → happened (is_withdraw i n false) h ≡ true → ⊥) → EndAt h e.what →
        happened (is_withdraw i n true) (h ++ e ∷ []) ≡ true →
        happened (is_withdraw i n false) (h ++ e ∷ []) ≡ true → ⊥
    grow h e before ends done late =
        by_places (last_or_before (is_withdraw i n true) h e done) (last_or_before (is_withdraw i n false) h e late)
      where
        by_places : (happened (is_withdraw i n true) h ≡ true) ⊎ (is_withdraw i n true e.what ≡ true) →
            (happened (is_withdraw i n false) h ≡ true) ⊎ (is_withdraw i n false e.what ≡ true) → ⊥
        by_places (inl a) (inl b) = before a b
        by_places (inl a) (inr b) = false≢true (sym (none_behind h e.what false b ends).0 ∙ a)
        by_places (inr a) (inl b) = false≢true (sym (none_behind h e.what true a ends).1 ∙ b)
        by_places (inr a) (inr b) = not_one e.what a b

-- what came and is not free stays so
pub past_still : (i n : ℕ) (h : List Event) (e : Event) → is_past_recall h i n ≡ true →
    is_past_recall (h ++ e ∷ []) i n ≡ true
past_still i n h e past =
    both (happened (is_arrival i n) (h ++ e ∷ []))
    (not (is_free_message (h ++ e ∷ []) (matched_pairs (h ++ e ∷ [])) i n))
    (still (is_arrival i n) h e (and_left (happened (is_arrival i n) h)
    (not (is_free_message h (matched_pairs h) i n)) past))
    (by_free (is_free_message (h ++ e ∷ []) (matched_pairs (h ++ e ∷ [])) i n) refl)
  where
    by_free : (b : Bool) → is_free_message (h ++ e ∷ []) (matched_pairs (h ++ e ∷ [])) i n ≡ b → not b ≡ true
    by_free false is = refl
    by_free true is =
        let was : is_free_message h (matched_pairs h) i n ≡ true =
        free_before h e (matched_pairs h) (option_to_list (new_pair h (matched_pairs h) e.what))
        (record { n = n; env = record { from = i; tag = 0; ctx = 0; len = 0; how = Eager } })
        (subst (λ (ps : List Pair). is_free_message (h ++ e ∷ []) ps i n ≡ true) (matched_pairs-push h e) is) in
        ap not (sym was)
        ∙ and_right (happened (is_arrival i n) h) (not (is_free_message h (matched_pairs h) i n)) past

-- behind a late withdrawal the message is past its recall
pub late_past : (i n : ℕ) (h : List Event) → AtEach (λ b e. EndAt b e.what) h →
    happened (is_withdraw i n false) h ≡ true → is_past_recall h i n ≡ true
late_past i n h ends =
    history_induction (λ b e. EndAt b e.what)
    (λ h. happened (is_withdraw i n false) h ≡ true → is_past_recall h i n ≡ true) grow (λ none. absurd
    (false≢true none))
    h ends
  where
    now : (h : List Event) (what : Happened) → is_withdraw i n false what ≡ true → EndAt h what →
        is_past_recall h i n ≡ true
    now h (event.Withdraw from m done) is ends =
        let names : (from == i && m == n) ≡ true = and_left (from == i && m == n) (is_same false done) is in
        let one : from ≡ i = same_number from i (and_left (from == i) (m == n) names) in
        let two : m ≡ n = same_number m n (and_right (from == i) (m == n) names) in
        subst (λ (f : ℕ). is_past_recall h f n ≡ true) one
        (subst (λ (k : ℕ). is_past_recall h from k ≡ true) two
        (both (happened (is_arrival from m) h) (not (is_free_message h (matched_pairs h) from m)) ends.2
        (late_free done (and_right (from == i && m == n) (is_same false done) is) ends.3)))
      where
        late_free : (d : Bool) → is_same false d ≡ true → d ≡ is_free_message h (matched_pairs h) from m →
            not (is_free_message h (matched_pairs h) from m) ≡ true
        late_free true late free = absurd (false≢true late)
        late_free false late free = ap not (sym free)
    now h what is ends = absurd (false≢true is)

    grow : (h : List Event) (e : Event) → (happened (is_withdraw i n false) h ≡ true → is_past_recall h i n ≡ true) →
        EndAt h e.what → happened (is_withdraw i n false) (h ++ e ∷ []) ≡ true →
        is_past_recall (h ++ e ∷ []) i n ≡ true
    grow h e before ends late = past_still i n h e (by_place (last_or_before (is_withdraw i n false) h e late))
      where
        by_place : (happened (is_withdraw i n false) h ≡ true) ⊎ (is_withdraw i n false e.what ≡ true) →
            is_past_recall h i n ≡ true
        by_place (inl a) = before a
        by_place (inr b) = now h e.what b ends

-- a message that was sent was sent by asking or not
pub sent_so : (j n : ℕ) (h : List Event) → happened (is_send j n) h ≡ true →
    (is_asked (sends h j) n ≡ true) ⊎ (is_unasked (sends h j) n ≡ true)
sent_so j n [] some = absurd (false≢true some)
sent_so j n (e ∷ h) some = by_event e.what some (λ later. sent_so j n h later)
  where
    Either : List Sent → Type 0
    Either ss = (is_asked ss n ≡ true) ⊎ (is_unasked ss n ≡ true)

    skip : (s : Sent) (ss : List Sent) → Either ss → Either (s ∷ ss)
    skip s ss (inl asked) = inl (or_right (s.n == n && is_ask s.how) (is_asked ss n) asked)
    skip s ss (inr plain) = inr (or_right (s.n == n && not (is_ask s.how)) (is_unasked ss n) plain)

    here : (s : Sent) (ss : List Sent) → (s.n == n) ≡ true → Either (s ∷ ss)
    here s ss is = by_how (is_ask s.how) refl
      where
        by_how : (b : Bool) → is_ask s.how ≡ b → Either (s ∷ ss)
        by_how true so = inl (or_left (s.n == n && is_ask s.how) (is_asked ss n) (both (s.n == n)
            (is_ask s.how) is so))
        by_how false so =
            inr (or_left (s.n == n && not (is_ask s.how)) (is_unasked ss n)
            (both (s.n == n) (not (is_ask s.how)) is (ap not so)))

    by_event : (what : Happened) → (is_send j n what || happened (is_send j n) h) ≡ true →
        (happened (is_send j n) h ≡ true → Either (sends h j)) →
        Either (filter (λ s. s.to == j) (cons_option (sent_of e.stamp what)
        (filter_map (λ (e : Event). sent_of e.stamp e.what) h)))
    by_event (event.Send to m tag ctx len how line) some later = by_rank (to == j) refl some
      where
        by_rank : (b : Bool) → (to == j) ≡ b → ((b && m == n) || happened (is_send j n) h) ≡ true →
            Either (cond b (record {
              stamp = e.stamp;
              to = to;
              n = m;
              tag = tag;
              ctx = ctx;
              len = len;
              how = how;
              line = line;
            } ∷ sends h j) (sends h j))
        by_rank false is some = later some
        by_rank true is some = by_number (m == n) refl some
          where
            by_number : (c : Bool) → (m == n) ≡ c → (c || happened (is_send j n) h) ≡ true →
                Either (record {
                  stamp = e.stamp;
                  to = to;
                  n = m;
                  tag = tag;
                  ctx = ctx;
                  len = len;
                  how = how;
                  line = line;
                } ∷ sends h j)
            by_number true same some = here (record {
              stamp = e.stamp;
              to = to;
              n = m;
              tag = tag;
              ctx = ctx;
              len = len;
              how = how;
              line = line;
            }) (sends h j) same
            by_number false same some = skip (record {
              stamp = e.stamp;
              to = to;
              n = m;
              tag = tag;
              ctx = ctx;
              len = len;
              how = how;
              line = line;
            }) (sends h j) (later some)
    by_event what some later = later some
