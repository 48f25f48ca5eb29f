-- The place of a rank after one event more.
use Rattle.std.proofs.Common.{◌≡◌, ℕ, ◌+◌, ◌==◌, ◌||◌, ◌&&◌, not, Bool, true, false, cond, Option, Some, None, List}
use Rattle.std.proofs.Common.{[], ◌∷◌, ◌++◌}
use Rattle.std.proofs.Common.{append-nil, length, map, refl, sym, ◌∙◌, ap, length-append, arith}
use Rattle.std.specs.Prelude.{if◌then◌else◌, is_some, option_map}
use Rattle.std.specs.List.{cons_option, filter, filter_map, find, list_any, slice_get}
use Rattle.std.specs.Option.{option_to_list}
use Rattle.std.proofs.Math.Bool.{and-false, and-true, or-false}
use Rattle.std.proofs.lemmas.Bool.{eqb-true, false≢true}
use Rattle.std.proofs.lemmas.List.{map-append}
use Rattle.std.proofs.lemmas.List.Elements.{All-weaker}
use Rattle.std.proofs.lemmas.List.Folds.{list_any-append}
use Rattle.std.proofs.lemmas.List.Sums.{fold_push}
use Rattle.std.proofs.lemmas.List.Elements.{filter-append, filter_map-append}
use Rattle.nm_types.specs.declared.messages.Arrival.{Arrival}
use Rattle.nm_types.specs.declared.messages.Envelope.{Envelope}
use Rattle.nm_types.specs.declared.messages.Post as post
use Rattle.nm_types.specs.Commands.{Numbered}
use Rattle.nm_history.specs.declared.events.Event.{Event}
use Rattle.nm_history.specs.declared.events.Happened.{Happened}
use Rattle.nm_history.specs.declared.events.Happened.TheVariants as event
use Rattle.nm_history.specs.declared.plain.Pair.{Pair}
use Rattle.nm_history.specs.Answers.{Message, claim_at, claim_line_after, line_after}
use Rattle.nm_history.specs.Answers.{message_claimed, request_at, request_of}
use Rattle.nm_history.specs.Completion.{Request, is_taken, pair_of_receive}
use Rattle.nm_history.specs.Happens.{happened, is_arrival, is_cancel, is_claim, is_recall, is_withdraw}
use Rattle.nm_history.specs.Matching.{is_of_message, is_of_receive, matched_pairs, new_pair, pair_of, pair_of_claimed}
use Rattle.nm_history.specs.Matching.{first_message, first_receive}
use Rattle.nm_history.specs.RankRun.{is_start, ran_lines, ran_of, since_after, since_command}
use Rattle.nm_history.specs.Selection.{matches}
use Rattle.nm_history.specs.Sends.{Arrived, Sent, arrival_of, arrivals, arrived_of, envelope, is_ask}
use Rattle.nm_history.specs.Sends.{messages, sends, sent_of}
use Rattle.nm_history.specs.Underway.{is_answer}
use Rattle.nm_history.proofs.AnswerLemmas.{line-push}
use Rattle.nm_history.proofs.AppendLemmas.{happened-push}
use Rattle.nm_history.proofs.DeliveryLemmas.{sends-push}
use Rattle.nm_history.proofs.MatchingLemmas.{matched_pairs-push}
use Rattle.nm_history.proofs.OnceLemmas.{arrivals-push, messages-push}
use Rattle.nm_history.proofs.RankRunLemmas.{ran_lines-push, since-push}
use Rattle.nm_lookups.specs.Queues.{free_messages, is_closed, is_gone, open_receives, posted_after_arrival}
use Rattle.nm_lookups.specs.Queues.{posted_after_post, unexpected_after_arrival, unexpected_after_post}
use Rattle.nm_lookups.specs.Queues.{without_message, without_receive}
use Rattle.nm_match.specs.Deeds.{is_message}
use Rattle.nm_match.proofs.PushLemmas.{closes}
use Rattle.nm_lookups.proofs.HistoryLemmas.{free_arrived, free_left, free_posted, free_same, open_arrived, open_left}
use Rattle.nm_lookups.proofs.HistoryLemmas.{open_posted, open_same, others_open}
use Rattle.nm_lookups.proofs.ReplayLemmas.{first_free, first_open, found_any}
use Rattle.nm_types.proofs.ListLemmas.{find_passes}
use Rattle.nm_types.proofs.TruthLemmas.{and_left, and_right}
use Rattle.nm_report.specs.Told.{Told, told_by}
use Rattle.nm_outcomes.specs.Results.{is_unasked}
use Rattle.nm_outcomes.specs.Places.{is_quiet}
use Rattle.nm_outcomes.specs.Places.{IsPlaceOf, IsProper, RankPoint, PlacesFollow, after, message_for, messages_after}
use Rattle.nm_outcomes.specs.Places.{or_else, pair_by, receive_for, receives_after}

-- a search in two lists, and what comes first of two lists
pub find-append : {X : Type 0} (test : X → Bool) (xs ys : List X) →
    find test (xs ++ ys) ≡ or_else (find test xs) (find test ys)
find-append test [] ys = refl
find-append {X} test (x ∷ xs) ys = by_test (test x) (find-append test xs ys)
  where
    by_test : (b : Bool) → find test (xs ++ ys) ≡ or_else (find test xs) (find test ys) →
        cond b (Some x) (find test (xs ++ ys)) ≡ or_else (cond b (Some x) (find test xs)) (find test ys)
    by_test true later = refl
    by_test false later = later

pub first-append : {X : Type 0} (xs ys : List X) → slice_get (xs ++ ys) 0 ≡ or_else (slice_get xs 0) (slice_get ys 0)
first-append [] ys = refl
first-append (x ∷ xs) ys = refl

pub one_or_none : {X : Type 0} (o : Option X) → slice_get (cons_option o []) 0 ≡ o
one_or_none None = refl
one_or_none (Some x) = refl

-- what was started since the last answer
begun_after : (since : List Happened) (what : Happened) →
    (if is_answer what then [] else filter is_start since ++ filter is_start (what ∷ []))
    ≡ filter is_start (since_after since what)
begun_after since (event.Ran line answer) = refl
begun_after since what = sym (filter-append is_start since (what ∷ []))

-- stamps play no part
unstamped_sends : (me to stamp : ℕ) (what : Happened) →
    map (envelope me) (filter (λ s. s.to == to) (cons_option (sent_of 0 what) []))
    ≡ map (envelope me) (filter (λ s. s.to == to) (cons_option (sent_of stamp what) []))
unstamped_sends me to stamp (event.Send to' n tag ctx len how line) = by_test (to' == to)
  where
    by_test : (b : Bool) →
        map (envelope me) (cond b (record {
          stamp = 0;
          to = to';
          n = n;
          tag = tag;
          ctx = ctx;
          len = len;
          how = how;
          line = line;
        } ∷ []) [])
        ≡ map (envelope me) (cond b (record {
          stamp = stamp;
          to = to';
          n = n;
          tag = tag;
          ctx = ctx;
          len = len;
          how = how;
          line = line;
        } ∷ []) [])
    by_test true = refl
    by_test false = refl
unstamped_sends me to stamp what = refl

unstamped_arrivals : (from stamp : ℕ) (what : Happened) →
    length (filter (λ a. a.arrival.env.from == from) (cons_option (arrived_of 0 what) []))
    ≡ length (filter (λ a. a.arrival.env.from == from) (cons_option (arrived_of stamp what) []))
unstamped_arrivals from stamp (event.Arrive a) = by_test (a.env.from == from)
  where
    by_test : (b : Bool) →
        length {A = Arrived} (cond b (record { stamp = 0; arrival = a } ∷ []) [])
        ≡ length {A = Arrived} (cond b (record { stamp = stamp; arrival = a } ∷ []) [])
    by_test true = refl
    by_test false = refl
unstamped_arrivals from stamp what = refl

unstamped_lines : (to stamp : ℕ) (what : Happened) →
    map (λ (s : Sent). s.line) (filter (λ s. s.to == to) (cons_option (sent_of 0 what) []))
    ≡ map (λ (s : Sent). s.line) (filter (λ s. s.to == to) (cons_option (sent_of stamp what) []))
unstamped_lines to stamp (event.Send to' n tag ctx len how line) = by_test (to' == to)
  where
    by_test : (b : Bool) →
        map (λ (s : Sent). s.line) (cond b (record {
          stamp = 0;
          to = to';
          n = n;
          tag = tag;
          ctx = ctx;
          len = len;
          how = how;
          line = line;
        } ∷ []) [])
        ≡ map (λ (s : Sent). s.line) (cond b (record {
          stamp = stamp;
          to = to';
          n = n;
          tag = tag;
          ctx = ctx;
          len = len;
          how = how;
          line = line;
        } ∷ []) [])
    by_test true = refl
    by_test false = refl
unstamped_lines to stamp what = refl

unstamped_unasked : (to n stamp : ℕ) (what : Happened) →
    is_unasked (filter (λ s. s.to == to) (cons_option (sent_of 0 what) [])) n
    ≡ is_unasked (filter (λ s. s.to == to) (cons_option (sent_of stamp what) [])) n
unstamped_unasked to n stamp (event.Send to' m tag ctx len how line) = by_test (to' == to)
  where
    by_test : (b : Bool) →
        is_unasked (cond b (record {
          stamp = 0;
          to = to';
          n = m;
          tag = tag;
          ctx = ctx;
          len = len;
          how = how;
          line = line;
        } ∷ []) []) n
        ≡ is_unasked (cond b (record {
          stamp = stamp;
          to = to';
          n = m;
          tag = tag;
          ctx = ctx;
          len = len;
          how = how;
          line = line;
        } ∷ []) []) n
    by_test true = refl
    by_test false = refl
unstamped_unasked to n stamp what = refl

-- a test of what happened, after one event more
test-push : (test : Happened → Bool) (h : List Event) (e : Event) (b : Bool) → b ≡ happened test h →
    (b || test e.what) ≡ happened test (h ++ e ∷ [])
test-push test h e b is = ap (λ (c : Bool). c || test e.what) is ∙ sym (happened-push test h e)

module _ (me : ℕ) (commands : List Numbered) (h : List Event) (place : RankPoint) (is : IsPlaceOf me commands h place)
  where
    found_message : (p : post.Post) → message_for place p ≡ first_message h (matched_pairs h) p.from p.tag p.ctx
    found_message p =
        ap (λ (ms : List Arrival). find (λ a. matches p.from p.tag p.ctx a.env) ms) is.messages
        ∙ first_free h p.from p.tag p.ctx

    found_receive : (a : Arrival) → receive_for place a ≡ first_receive h (matched_pairs h) a.env
    found_receive a =
        ap (λ (ps : List post.Post). find (λ p. matches p.from p.tag p.ctx a.env) ps) is.receives ∙ first_open h a.env

    pair_made : (what : Happened) → IsProper h what → pair_by place what ≡ new_pair h (matched_pairs h) what
    pair_made (event.Post p line) simple = ap (λ (o : Option Arrival). option_map (λ a. pair_of p a) o)
        (found_message p)
    pair_made (event.Arrive a) simple =
        ap (λ (o : Option post.Post). option_map (λ p. pair_of p a) o) (found_receive a)
    pair_made (event.Match number from n cap line) simple =
        ap (λ (o : Option Arrival). option_map (λ a. pair_of_claimed number cap a) o) (is.known from n)
    pair_made what simple = refl

    closed_is : (number : ℕ) → (is_some (place.pairs number) || place.off number) ≡ is_closed h number
    closed_is number =
        ap (λ (b : Bool). b || place.off number)
        (ap (λ (o : Option Pair). is_some o) (is.pairs number) ∙ found_any (is_of_receive number) (matched_pairs h))
        ∙ ap (λ (b : Bool). list_any (is_of_receive number) (matched_pairs h) || b) (is.off number)

    abbrev gone : ℕ → ℕ → Bool
    gone from n = place.taken from n || place.claimed from n || place.withdrawn from n

    gone_is : (from n : ℕ) → gone from n ≡ is_gone h from n
    gone_is from n =
        ap (λ (b : Bool). b || place.claimed from n || place.withdrawn from n) (is.taken from n)
        ∙ ap (λ (b : Bool). is_taken h from n || b || place.withdrawn from n) (is.claimed from n)
        ∙ ap (λ (b : Bool). is_taken h from n || happened (is_claim from n) h || b) (is.withdrawn from n)

    receives_made : (stamp : ℕ) (what : Happened) → IsProper h what →
        receives_after place what ≡ open_receives (h ++ record { stamp = stamp; what = what } ∷ [])
    receives_made stamp (event.Post p line) simple =
        ap (λ (o : Option Arrival). posted_after_post p (is_some (place.pairs p.number) || place.off p.number)
        place.receives o) (found_message p)
        ∙ ap (λ (ps : List post.Post). posted_after_post p (is_some (place.pairs p.number) || place.off p.number) ps
        (first_message h (matched_pairs h) p.from p.tag p.ctx)) is.receives
        ∙ ap (λ (b : Bool). posted_after_post p b (open_receives h)
        (first_message h (matched_pairs h) p.from p.tag p.ctx)) (closed_is p.number)
        ∙ sym (open_posted h stamp line p (first_message h (matched_pairs h) p.from p.tag p.ctx) simple refl)
    receives_made stamp (event.Arrive a) simple =
        ap (λ (o : Option post.Post). posted_after_arrival place.receives (option_map (λ p. p.number) o))
        (found_receive a)
        ∙ ap (λ (ps : List post.Post). posted_after_arrival ps
        (option_map (λ p. p.number) (first_receive h (matched_pairs h) a.env))) is.receives
        ∙ sym (open_arrived h stamp a (first_receive h (matched_pairs h) a.env) refl)
    receives_made stamp (event.Cancel number true) simple =
        ap (λ (ps : List post.Post). without_receive number ps) is.receives
        ∙ sym (open_left h (record { stamp = stamp; what = event.Cancel number true }) [] refl number refl
        (λ m. and-true (number == m)))
    receives_made stamp (event.Cancel number false) simple =
        is.receives
        ∙ sym (open_same h (record { stamp = stamp; what = event.Cancel number false }) [] refl refl
        (λ k d inside. and-false _))
    receives_made stamp (event.Match number from n cap line) simple =
        let e : Event = record { stamp = stamp; what = event.Match number from n cap line } in
        let more : List Pair = pair_of_claimed number cap simple.1.0 ∷ [] in
        is.receives
        ∙ sym (open_same h e more
        (ap (λ (o : Option Arrival). option_to_list (option_map
        (λ a. pair_of_claimed number cap a) o)) simple.1.1) refl
        (All-weaker (λ (p : post.Post). (number == p.number) ≡ false)
        (λ (p : post.Post). closes (event.Match number from n cap line) more p.number ≡ false)
        (λ p other. or-false _ ∙ or-false _ ∙ other) (open_receives h) (others_open h number simple.0)))
    receives_made stamp what simple =
        is.receives ∙ sym (open_same h (record { stamp = stamp; what = what }) [] refl refl (λ k d inside. refl))

    messages_made : (stamp : ℕ) (what : Happened) → IsProper h what →
        messages_after place what ≡ free_messages (h ++ record { stamp = stamp; what = what } ∷ [])
    messages_made stamp (event.Post p line) simple =
        ap (λ (o : Option Arrival). unexpected_after_post place.messages o) (found_message p)
        ∙ ap (λ (ms : List Arrival). unexpected_after_post ms (first_message h (matched_pairs h) p.from p.tag p.ctx))
        is.messages
        ∙ sym (free_posted h stamp line p (first_message h (matched_pairs h) p.from p.tag p.ctx) refl)
    messages_made stamp (event.Arrive a) simple =
        ap (λ (o : Option post.Post). unexpected_after_arrival a (gone a.env.from a.n) place.messages
        (option_map (λ p. p.number) o)) (found_receive a)
        ∙ ap (λ (ms : List Arrival). unexpected_after_arrival a (gone a.env.from a.n) ms
        (option_map (λ p. p.number) (first_receive h (matched_pairs h) a.env))) is.messages
        ∙ ap (λ (b : Bool). unexpected_after_arrival a b (free_messages h)
        (option_map (λ p. p.number) (first_receive h (matched_pairs h) a.env))) (gone_is a.env.from a.n)
        ∙ sym (free_arrived h stamp a (first_receive h (matched_pairs h) a.env) simple refl)
    messages_made stamp (event.Withdraw from n true) simple =
        ap (λ (ms : List Arrival). without_message from n ms) is.messages
        ∙ sym (free_left h (record { stamp = stamp; what = event.Withdraw from n true }) [] refl from n refl
        (λ i m. and-true (from == i && n == m)))
    messages_made stamp (event.Withdraw from n false) simple =
        is.messages
        ∙ sym (free_same h (record { stamp = stamp; what = event.Withdraw from n false }) [] refl refl
        (λ k d inside. and-false _))
    messages_made stamp (event.Claim from n line) simple =
        ap (λ (ms : List Arrival). without_message from n ms) is.messages
        ∙ sym (free_left h (record { stamp = stamp; what = event.Claim from n line }) [] refl from n refl
        (λ i m. or-false (from == i && n == m)))
    messages_made stamp (event.Match number from n cap line) simple =
        let e : Event = record { stamp = stamp; what = event.Match number from n cap line } in
        let a : Arrival = simple.1.0 in
        let passes : is_message from n a ≡ true = find_passes (is_message from n) (messages h) a simple.1.1 in
        let is_from : a.env.from ≡ from = eqb-true a.env.from from (and_left (a.env.from == from) (a.n == n) passes) in
        let is_n : a.n ≡ n = eqb-true a.n n (and_right (a.env.from == from) (a.n == n) passes) in
        ap (λ (ms : List Arrival). without_message from n ms) is.messages
        ∙ sym (free_left h e (pair_of_claimed number cap a ∷ [])
        (ap (λ (o : Option Arrival). option_to_list (option_map (λ a. pair_of_claimed number cap a) o)) simple.1.1)
        from n refl (λ i m. or-false _ ∙ or-false _ ∙ or-false _ ∙ (rw (is_from, is_n) refl)))
    messages_made stamp what simple =
        is.messages ∙ sym (free_same h (record { stamp = stamp; what = what }) [] refl refl (λ k d inside. refl))

    pub place_follows : (e : Event) → IsProper h e.what →
        IsPlaceOf me commands (h ++ e ∷ []) (after me commands place e.what)
    place_follows e simple = record {
      told = ap (λ (ts : List Told). ts ++ cons_option (told_by e.what) []) is.told
          ∙ sym (filter_map-append (λ (e : Event). told_by e.what) h (e ∷ []));
      done = ap (λ (n : ℕ). n + length (cons_option (ran_of e.what) [])) is.done
          ∙ sym (ap (λ (ls : List ℕ). length ls) (ran_lines-push h e)
          ∙ length-append (ran_lines h) (cons_option (ran_of e.what) []));
      begun = ap (λ (ws : List Happened). if is_answer e.what then [] else ws ++ filter is_start
          (e.what ∷ [])) is.begun
          ∙ begun_after (since_command h) e.what
          ∙ ap (λ (ws : List Happened). filter is_start ws) (sym (since-push h e));
      named = λ q. ap (λ (o : Option ℕ). line_after commands q o e.what) (is.named q) ∙ sym (line-push commands h e q);
      requests = λ line. ap (λ (o : Option Request). or_else o (request_of line e.what)) (is.requests line)
          ∙ ap (λ (o : Option Request). or_else (request_at h line) o) (sym (one_or_none (request_of line e.what)))
          ∙ sym (ap (λ (rs : List Request). slice_get rs 0)
          (filter_map-append (λ (e : Event). request_of line e.what) h (e ∷ []))
          ∙ first-append (filter_map (λ (e : Event). request_of line e.what) h)
          (cons_option (request_of line e.what) []));
      handled = λ m. ap (λ (o : Option ℕ). claim_line_after commands m o e.what) (is.handled m)
          ∙ sym (fold_push (λ (line : Option ℕ) (e : Event). claim_line_after commands m line e.what) None h e);
      claims = λ line. ap (λ (o : Option Message). or_else o (message_claimed line e.what)) (is.claims line)
          ∙ ap (λ (o : Option Message). or_else (claim_at h line) o) (sym (one_or_none (message_claimed line e.what)))
          ∙ sym (ap (λ (ms : List Message). slice_get ms 0)
          (filter_map-append (λ (e : Event). message_claimed line e.what) h (e ∷ []))
          ∙ first-append (filter_map (λ (e : Event). message_claimed line e.what) h)
          (cons_option (message_claimed line e.what) []));
      receives = receives_made e.stamp e.what simple;
      messages = messages_made e.stamp e.what simple;
      pairs = λ number. ap (λ (o : Option Pair). or_else o
          (find (is_of_receive number) (option_to_list (pair_by place e.what)))) (is.pairs number)
          ∙ ap (λ (o : Option Pair). or_else (pair_of_receive h number) (find (is_of_receive number)
          (option_to_list o)))
          (pair_made e.what simple)
          ∙ sym (ap (λ (ps : List Pair). find (is_of_receive number) ps) (matched_pairs-push h e)
          ∙ find-append (is_of_receive number) (matched_pairs h)
          (option_to_list (new_pair h (matched_pairs h) e.what)));
      off = λ number. test-push (is_cancel number) h e (place.off number) (is.off number);
      known = λ from n. ap (λ (o : Option Arrival). or_else o
          (find (is_message from n) (cons_option (arrival_of e.what) []))) (is.known from n)
          ∙ sym (ap (λ (ms : List Arrival). find (is_message from n) ms) (messages-push h e)
          ∙ find-append (is_message from n) (messages h) (cons_option (arrival_of e.what) []));
      arrived = λ from n. test-push (is_arrival from n) h e (place.arrived from n) (is.arrived from n);
      taken = λ from n. ap (λ (b : Bool). b || list_any (is_of_message from n) (option_to_list (pair_by place e.what)))
          (is.taken from n)
          ∙ ap (λ (o : Option Pair). is_taken h from n || list_any (is_of_message from n) (option_to_list o))
          (pair_made e.what simple)
          ∙ sym (ap (λ (ps : List Pair). list_any (is_of_message from n) ps) (matched_pairs-push h e)
          ∙ list_any-append (is_of_message from n) (matched_pairs h)
          (option_to_list (new_pair h (matched_pairs h) e.what)));
      claimed = λ from n. test-push (is_claim from n) h e (place.claimed from n) (is.claimed from n);
      withdrawn = λ from n. test-push (is_withdraw from n true) h e (place.withdrawn from n) (is.withdrawn from n);
      lines = λ to. ap (λ (ls : List ℕ). ls ++ map (λ (s : Sent). s.line)
          (filter (λ s. s.to == to) (cons_option (sent_of 0 e.what) []))) (is.lines to)
          ∙ ap (λ (ls : List ℕ). map (λ (s : Sent). s.line) (sends h to) ++ ls) (unstamped_lines to e.stamp e.what)
          ∙ sym (ap (λ (ss : List Sent). map (λ (s : Sent). s.line) ss) (sends-push h e to)
          ∙ map-append (λ (s : Sent). s.line) (sends h to)
          (filter (λ s. s.to == to) (cons_option (sent_of e.stamp e.what) [])));
      unasked = λ to n. ap (λ (b : Bool). b
          || is_unasked (filter (λ s. s.to == to) (cons_option (sent_of 0 e.what) [])) n) (is.unasked to n)
          ∙ ap (λ (b : Bool). is_unasked (sends h to) n || b) (unstamped_unasked to n e.stamp e.what)
          ∙ sym (ap (λ (ss : List Sent). is_unasked ss n) (sends-push h e to)
          ∙ list_any-append (λ (s : Sent). s.n == n && not (is_ask s.how)) (sends h to)
          (filter (λ s. s.to == to) (cons_option (sent_of e.stamp e.what) [])));
      recalled = λ to n. test-push (is_recall to n) h e (place.recalled to n) (is.recalled to n);
      sent = λ to. ap (λ (es : List Envelope). es ++ map (envelope me)
          (filter (λ s. s.to == to) (cons_option (sent_of 0 e.what) []))) (is.sent to)
          ∙ ap (λ (es : List Envelope). map (envelope me) (sends h to) ++ es) (unstamped_sends me to e.stamp e.what)
          ∙ sym (ap (λ (ss : List Sent). map (envelope me) ss) (sends-push h e to)
          ∙ map-append (envelope me) (sends h to) (filter (λ s. s.to == to)
          (cons_option (sent_of e.stamp e.what) [])));
      came = λ from. ap (λ (n : ℕ). n + length (filter (λ a. a.arrival.env.from == from)
          (cons_option (arrived_of 0 e.what) []))) (is.came from)
          ∙ ap (λ (n : ℕ). length (arrivals h from) + n) (unstamped_arrivals from e.stamp e.what)
          ∙ sym (ap (λ (as' : List Arrived). length as') (arrivals-push h e from)
          ∙ length-append (arrivals h from) (filter (λ a. a.arrival.env.from == from)
          (cons_option (arrived_of e.stamp e.what) [])));
    }

pub places_follow : PlacesFollow
places_follow me commands h e place simple is = place_follows me commands h place is e simple

-- what nothing is added to
pub or_none : {X : Type 0} (o : Option X) → or_else o None ≡ o
or_none None = refl
or_none (Some x) = refl

plus_none : (n : ℕ) → n + 0 ≡ n
plus_none n = omega arith

-- an event that is no move leaves the place as it was
module _ (me : ℕ) (commands : List Numbered) (h : List Event) (e : Event) (place : RankPoint) where
  left_out : (to n : ℕ) → IsPlaceOf me commands (h ++ e ∷ []) (after me commands place (event.Out to n)) →
      IsPlaceOf me commands (h ++ e ∷ []) place
  left_out to n f = record {
    told = sym (append-nil place.told) ∙ f.told;
    done = sym (plus_none place.done) ∙ f.done;
    begun = sym (append-nil place.begun) ∙ f.begun;
    named = f.named;
    requests = λ l. sym (or_none (place.requests l)) ∙ f.requests l;
    handled = f.handled;
    claims = λ l. sym (or_none (place.claims l)) ∙ f.claims l;
    receives = f.receives;
    messages = f.messages;
    pairs = λ k. sym (or_none (place.pairs k)) ∙ f.pairs k;
    off = λ k. sym (or-false (place.off k)) ∙ f.off k;
    known = λ i k. sym (or_none (place.known i k)) ∙ f.known i k;
    arrived = λ i k. sym (or-false (place.arrived i k)) ∙ f.arrived i k;
    taken = λ i k. sym (or-false (place.taken i k)) ∙ f.taken i k;
    claimed = λ i k. sym (or-false (place.claimed i k)) ∙ f.claimed i k;
    withdrawn = λ i k. sym (or-false (place.withdrawn i k)) ∙ f.withdrawn i k;
    sent = λ t. sym (append-nil (place.sent t)) ∙ f.sent t;
    lines = λ t. sym (append-nil (place.lines t)) ∙ f.lines t;
    unasked = λ t k. sym (or-false (place.unasked t k)) ∙ f.unasked t k;
    recalled = λ t k. sym (or-false (place.recalled t k)) ∙ f.recalled t k;
    came = λ i. sym (plus_none (place.came i)) ∙ f.came i;
  }

  late_out : (from n : ℕ) →
      IsPlaceOf me commands (h ++ e ∷ []) (after me commands place (event.Withdraw from n false)) →
      IsPlaceOf me commands (h ++ e ∷ []) place
  late_out from n f = record {
    told = sym (append-nil place.told) ∙ f.told;
    done = sym (plus_none place.done) ∙ f.done;
    begun = sym (append-nil place.begun) ∙ f.begun;
    named = f.named;
    requests = λ l. sym (or_none (place.requests l)) ∙ f.requests l;
    handled = f.handled;
    claims = λ l. sym (or_none (place.claims l)) ∙ f.claims l;
    receives = f.receives;
    messages = f.messages;
    pairs = λ k. sym (or_none (place.pairs k)) ∙ f.pairs k;
    off = λ k. sym (or-false (place.off k)) ∙ f.off k;
    known = λ i k. sym (or_none (place.known i k)) ∙ f.known i k;
    arrived = λ i k. sym (or-false (place.arrived i k)) ∙ f.arrived i k;
    taken = λ i k. sym (or-false (place.taken i k)) ∙ f.taken i k;
    claimed = λ i k. sym (or-false (place.claimed i k)) ∙ f.claimed i k;
    withdrawn = λ i k. sym (ap (λ (b : Bool). place.withdrawn i k || b) (and-false (from == i && n == k))
        ∙ or-false (place.withdrawn i k)) ∙ f.withdrawn i k;
    sent = λ t. sym (append-nil (place.sent t)) ∙ f.sent t;
    lines = λ t. sym (append-nil (place.lines t)) ∙ f.lines t;
    unasked = λ t k. sym (or-false (place.unasked t k)) ∙ f.unasked t k;
    recalled = λ t k. sym (or-false (place.recalled t k)) ∙ f.recalled t k;
    came = λ i. sym (plus_none (place.came i)) ∙ f.came i;
  }

  pub quiet_follows : is_quiet e.what ≡ true → IsPlaceOf me commands h place →
      IsPlaceOf me commands (h ++ e ∷ []) place
  quiet_follows quiet is = by_event e.what quiet (λ proper. places_follow me commands h e place proper is)
    where
      by_event : (what : Happened) → is_quiet what ≡ true →
          (IsProper h what → IsPlaceOf me commands (h ++ e ∷ []) (after me commands place what)) →
          IsPlaceOf me commands (h ++ e ∷ []) place
      by_event (event.Out to n) quiet f = left_out to n (f tt)
      by_event (event.Whole from n) quiet f = left_out from n (f tt)
      by_event (event.Undone to n done) quiet f = left_out to n (f tt)
      by_event (event.Withdraw from n false) quiet f = late_out from n (f tt)
      by_event (event.Withdraw from n true) quiet f = absurd (false≢true quiet)
      by_event what quiet f = absurd (false≢true quiet)
