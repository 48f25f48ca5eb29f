-- What was sent, came, and is over at rest.
use Rattle.std.proofs.Common.{◌≡◌, ◌⊎◌, inl, inr, ℕ, zero, suc, ◌<◌, ◌==◌, ◌&&◌, ◌||◌, not, Bool, true, false}
use Rattle.std.proofs.Common.{cond, Some, None, List, [], ◌∷◌, ◌++◌, length, refl, sym, ◌∙◌, ap, subst}
use Rattle.std.proofs.Common.{arith, append-nil}
use Rattle.std.specs.Prelude.{IsTrue}
use Rattle.std.specs.Bool.{OnTrue}
use Rattle.std.specs.List.{cons_option, filter, filter_map, find, list_any, slice_get}
use Rattle.std.proofs.lemmas.Bool.{false≢true}
use Rattle.nm_types.specs.Commands.{Numbered}
use Rattle.nm_history.specs.declared.events.Event.{Event}
use Rattle.nm_history.specs.declared.events.Happened.{Happened}
use Rattle.nm_history.specs.declared.events.Happened.TheVariants as event
use Rattle.nm_history.specs.declared.plain.Pair.{Pair}
use Rattle.nm_history.specs.AtEach.{AtEach}
use Rattle.nm_history.specs.Answers.{request_at, request_of}
use Rattle.nm_history.specs.Completion.{is_taken, pair_of_receive}
use Rattle.nm_history.specs.Completion.Request.{Receiving, Sending}
use Rattle.nm_history.specs.Delivery.{AreDelivered, is_asked}
use Rattle.nm_history.specs.Happens.{happened, is_arrival, is_send}
use Rattle.nm_history.specs.Matching.{is_claimed, is_of_message, is_of_receive}
use Rattle.nm_history.specs.Matching.{matched_pairs}
use Rattle.nm_history.specs.Quiescence.{AskedOver, EagerOver}
use Rattle.nm_history.specs.Quiescence.{is_kept_back, is_over}
use Rattle.nm_history.specs.RankRun.{NumberAt}
use Rattle.nm_history.specs.Sends.{Sent, is_ask, sends, sent_of}
use Rattle.nm_history.proofs.DeliveryLemmas.{sends-push}
use Rattle.nm_history.proofs.OnceLemmas.{eqb_self}
use Rattle.nm_types.proofs.NumberLemmas.{same_number}
use Rattle.nm_types.proofs.OptionLemmas.{no_some, same_some}
use Rattle.nm_types.proofs.TruthLemmas.{and_left, and_right, both, or_left, or_right}
use Rattle.nm_outcomes.specs.Results.{is_unasked, may_have_left}
use Rattle.nm_types.proofs.ListLemmas.{all_at}
use Rattle.nm_sure.proofs.Lists.{any_at}
use Rattle.nm_outcomes.proofs.HappenedLemmas.{history_induction, last_or_before}
use Rattle.nm_outcomes.proofs.HappenedLemmas.{sent_so}

-- the sends of a history stand at their numbers
pub get_more : {X : Type 0} (xs : List X) (x : X) (b : Bool) (k : ℕ) (s : X) →
    slice_get (xs ++ cond b (x ∷ []) []) k ≡ Some s →
    (slice_get xs k ≡ Some s) ⊎ ((k ≡ length xs) × (x ≡ s) × (b ≡ true))
get_more xs x false k s here = inl (ap (λ ys. slice_get ys k) (sym (append-nil xs)) ∙ here)
get_more [] x true zero s here = inr (refl, same_some x s here, refl)
get_more [] x true (suc k) s here = absurd (no_some s here)
get_more (y ∷ ys) x true zero s here = inl here
get_more (y ∷ ys) x true (suc k) s here = by_more (get_more ys x true k s here)
  where
    by_more : (slice_get ys k ≡ Some s) ⊎ ((k ≡ length ys) × (x ≡ s) × (true ≡ true)) →
        (slice_get ys k ≡ Some s) ⊎ ((suc k ≡ suc (length ys)) × (x ≡ s) × (true ≡ true))
    by_more (inl before) = inl before
    by_more (inr last) = inr (ap suc last.0, last.1, refl)

abbrev pub AreNumbered : List Event → Type 0
AreNumbered h = (to k : ℕ) (s : Sent) → slice_get (sends h to) k ≡ Some s → s.n ≡ k

pub sends_numbered : (ranks : ℕ) (h : List Event) → AtEach (λ b e. NumberAt ranks b e.what) h → AreNumbered h
sends_numbered ranks =
    history_induction (λ b e. NumberAt ranks b e.what) AreNumbered grow (λ to k s here. absurd (no_some s here))
  where
    by_event : (h : List Event) (stamp : ℕ) (what : Happened) → AreNumbered h → NumberAt ranks h what →
        (to k : ℕ) (s : Sent) →
        slice_get (sends h to ++ filter (λ s. s.to == to) (cons_option (sent_of stamp what) [])) k ≡ Some s → s.n ≡ k
    by_event h stamp (event.Send to' n tag ctx len how line) before number to k s here =
        by_place (get_more (sends h to) (record {
          stamp = stamp;
          to = to';
          n = n;
          tag = tag;
          ctx = ctx;
          len = len;
          how = how;
          line = line;
        }) (to' == to) k s here)
      where
        by_place : (slice_get (sends h to) k ≡ Some s) ⊎ ((k ≡ length (sends h to)) × (record {
          stamp = stamp;
          to = to';
          n = n;
          tag = tag;
          ctx = ctx;
          len = len;
          how = how;
          line = line;
        } ≡ s) × ((to' == to) ≡ true)) → s.n ≡ k
        by_place (inl was) = before to k s was
        by_place (inr last) =
            ap (λ (s : Sent). s.n) (sym last.1) ∙ number
            ∙ ap (λ (t : ℕ). length (sends h t)) (same_number to' to last.2) ∙ sym last.0
    by_event h stamp what before number to k s here =
        before to k s (ap (λ (ss : List Sent). slice_get ss k) (sym (append-nil (sends h to))) ∙ here)

    grow : (h : List Event) (e : Event) → AreNumbered h → NumberAt ranks h e.what → AreNumbered (h ++ e ∷ [])
    grow h e before number to k s here =
        by_event h e.stamp e.what before number to k s
        (ap (λ (ss : List Sent). slice_get ss k) (sym (sends-push h e to)) ∙ here)

-- two ranks at rest
module _ (ranks i j : ℕ) (ci cj : List Numbered) (hi hj : List Event)
    (numbers : AtEach (λ b e. NumberAt ranks b e.what) hi)
    (delivered : AreDelivered i j ci cj hi hj) (eager : EagerOver i j hi hj) (asked : AskedOver i j hi hj)
  where
    -- a message that may have left is over
    pub over : (n : ℕ) (s : Sent) → slice_get (sends hi j) n ≡ Some s → may_have_left hi hj i j n ≡ true →
        is_over i j hi hj n ≡ true
    over n s here may =
        subst (λ (k : ℕ). is_over i j hi hj k ≡ true) (sends_numbered ranks hi numbers j n s here)
        (by_how (is_ask s.how) refl)
      where
        taken_now : is_ask s.how ≡ true → is_taken hj i s.n ≡ true
        taken_now ask = by_either (is_unasked (sends hi j) n) refl may
          where
            by_either : (b : Bool) → is_unasked (sends hi j) n ≡ b → (b || is_taken hj i n) ≡ true →
                is_taken hj i s.n ≡ true
            by_either false is may =
                ap (λ (k : ℕ). is_taken hj i k) (sends_numbered ranks hi numbers j n s here) ∙ may
            by_either true is may =
                let other = any_at (λ (s : Sent). s.n == n && not (is_ask s.how)) (sends hi j) is in
                let number : other.0 ≡ n =
                sym (sends_numbered ranks hi numbers j other.0 other.1 other.2)
                ∙ same_number other.1.n n (and_left (other.1.n == n) (not (is_ask other.1.how)) other.3) in
                let same : other.1 ≡ s =
                same_some other.1 s (sym other.2 ∙ ap (λ (k : ℕ). slice_get (sends hi j) k) number ∙ here) in
                absurd (false≢true (ap not (sym ask ∙ ap (λ (s : Sent). is_ask s.how) (sym same))
                ∙ and_right (other.1.n == n) (not (is_ask other.1.how)) other.3))

        by_how : (b : Bool) → is_ask s.how ≡ b → is_over i j hi hj s.n ≡ true
        by_how false so =
            subst (λ (b : Bool). OnTrue (not b) (IsTrue (is_over i j hi hj s.n))) so
            (all_at (λ (s : Sent). OnTrue (not (is_ask s.how)) (IsTrue (is_over i j hi hj s.n))) (sends hi j) n s eager
            here)
        by_how true so =
            subst (λ (b : Bool). OnTrue b (IsTrue (is_over i j hi hj s.n)))
            (both (is_ask s.how) (is_taken hj i s.n) so (taken_now so))
            (all_at (λ (s : Sent). OnTrue (is_ask s.how && is_taken hj i s.n) (IsTrue (is_over i j hi hj s.n))
            × OnTrue (is_ask s.how && is_claimed hj (matched_pairs hj) i s.n) (IsTrue (is_kept_back i j hi hj s.n)))
            (sends hi j) n s asked here).0

-- the message of a receive's pair is taken
pub taken_of : (h : List Event) (number : ℕ) (p : Pair) → pair_of_receive h number ≡ Some p →
    is_of_message p.arrival.env.from p.arrival.n p ≡ true → is_taken h p.arrival.env.from p.arrival.n ≡ true
taken_of h number p found is = among (matched_pairs h) found
  where
    among : (xs : List Pair) → find (is_of_receive number) xs ≡ Some p →
        list_any (is_of_message p.arrival.env.from p.arrival.n) xs ≡ true
    among [] found = absurd (no_some p found)
    among (y ∷ ys) found = by_test (is_of_receive number y) found (λ found. among ys found)
      where
        by_test : (b : Bool) → cond b (Some y) (find (is_of_receive number) ys) ≡ Some p →
            (find (is_of_receive number) ys ≡ Some p →
            list_any (is_of_message p.arrival.env.from p.arrival.n) ys ≡ true) →
            (is_of_message p.arrival.env.from p.arrival.n y
            || list_any (is_of_message p.arrival.env.from p.arrival.n) ys) ≡ true
        by_test true found later =
            or_left (is_of_message p.arrival.env.from p.arrival.n y) _
            (ap (is_of_message p.arrival.env.from p.arrival.n) (same_some y p found) ∙ is)
        by_test false found later =
            or_right (is_of_message p.arrival.env.from p.arrival.n y) _ (later found)

-- a message that came is of a rank of the run
pub came_within : (ranks from n : ℕ) (h : List Event) → AtEach (λ b e. NumberAt ranks b e.what) h →
    happened (is_arrival from n) h ≡ true → from < ranks
came_within ranks from n h numbers =
    history_induction (λ b e. NumberAt ranks b e.what) (λ h. happened (is_arrival from n) h ≡ true → from < ranks) grow
    (λ none. absurd (false≢true none)) h numbers
  where
    now : (h : List Event) (what : Happened) → is_arrival from n what ≡ true → NumberAt ranks h what → from < ranks
    now h (event.Arrive a) is number =
        subst (λ (i : ℕ). i < ranks) (same_number a.env.from from (and_left (a.env.from == from)
        (a.n == n) is)) number.0
    now h what is number = absurd (false≢true is)

    grow : (h : List Event) (e : Event) → (happened (is_arrival from n) h ≡ true → from < ranks) →
        NumberAt ranks h e.what → happened (is_arrival from n) (h ++ e ∷ []) ≡ true → from < ranks
    grow h e before number some = by_place (last_or_before (is_arrival from n) h e some)
      where
        by_place : (happened (is_arrival from n) h ≡ true) ⊎ (is_arrival from n e.what ≡ true) → from < ranks
        by_place (inl was) = before was
        by_place (inr is) = now h e.what is number

-- the request of a line that is a send was sent
pub request_sent : (h : List Event) (line to n : ℕ) → request_at h line ≡ Some (Sending to n) →
    happened (is_send to n) h ≡ true
request_sent [] line to n asked = absurd (no_some (Sending to n) asked)
request_sent (e ∷ h) line to n asked = by_event e.what asked (λ asked. request_sent h line to n asked)
  where
    by_event : (what : Happened) →
        slice_get (cons_option (request_of line what) (filter_map (λ e. request_of line e.what) h)) 0
        ≡ Some (Sending to n) →
        (request_at h line ≡ Some (Sending to n) → happened (is_send to n) h ≡ true) →
        (is_send to n what || happened (is_send to n) h) ≡ true
    by_event (event.Send to' m tag ctx len how line') asked later = by_line (line' == line) asked
      where
        by_line : (b : Bool) →
            slice_get (cons_option (cond b (Some (Sending to' m)) None) (filter_map (λ e. request_of line e.what) h)) 0
            ≡ Some (Sending to n) → ((to' == to && m == n) || happened (is_send to n) h) ≡ true
        by_line true asked =
            let one : to' ≡ to = cc in
            let two : m ≡ n = cc in
            or_left (to' == to && m == n) (happened (is_send to n) h)
            (both (to' == to) (m == n) (ap (λ (k : ℕ). k == to) one ∙ eqb_self to) (ap (λ (k : ℕ). k == n) two
            ∙ eqb_self n))
        by_line false asked = or_right (to' == to && m == n) (happened (is_send to n) h) (later asked)
    by_event (event.Post p line') asked later = by_line (line' == line) asked
      where
        by_line : (b : Bool) →
            slice_get (cons_option (cond b (Some (Receiving p.number)) None)
            (filter_map (λ e. request_of line e.what) h)) 0
            ≡ Some (Sending to n) → happened (is_send to n) h ≡ true
        by_line true asked = absurd (grind arith)
        by_line false asked = later asked
    by_event (event.Match number from m cap line') asked later = by_line (line' == line) asked
      where
        by_line : (b : Bool) →
            slice_get (cons_option (cond b (Some (Receiving number)) None)
            (filter_map (λ e. request_of line e.what) h)) 0
            ≡ Some (Sending to n) → happened (is_send to n) h ≡ true
        by_line true asked = absurd (grind arith)
        by_line false asked = later asked
    by_event what asked later = later asked

-- what was sent stands among the sends
pub sent_place : (h : List Event) (to n : ℕ) → happened (is_send to n) h ≡ true →
    (k : ℕ) × (s : Sent) × (slice_get (sends h to) k ≡ Some s) × ((s.n == n) ≡ true)
sent_place h to n some = by_how (sent_so to n h some)
  where
    by_how : (is_asked (sends h to) n ≡ true) ⊎ (is_unasked (sends h to) n ≡ true) →
        (k : ℕ) × (s : Sent) × (slice_get (sends h to) k ≡ Some s) × ((s.n == n) ≡ true)
    by_how (inl asked) =
        let x = any_at (λ (s : Sent). s.n == n && is_ask s.how) (sends h to) asked in
        (x.0, x.1, x.2, and_left (x.1.n == n) (is_ask x.1.how) x.3)
    by_how (inr plain) =
        let x = any_at (λ (s : Sent). s.n == n && not (is_ask s.how)) (sends h to) plain in
        (x.0, x.1, x.2, and_left (x.1.n == n) (not (is_ask x.1.how)) x.3)
