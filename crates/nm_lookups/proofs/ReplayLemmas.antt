-- A replay after one event more.
use Rattle.std.proofs.Common.{◌≡◌, ◌≢◌, ℕ, ◌==◌, Bool, true, false, not, ◌&&◌, ◌||◌, cond, Option, Some, None}
use Rattle.std.proofs.Common.{List, [], ◌∷◌, ◌++◌, get_or, refl, sym, ◌∙◌, ap, subst, append-nil}
use Rattle.std.specs.List.{All, find, list_any, cons_option}
use Rattle.std.specs.Option.{is_some, option_or}
use Rattle.std.proofs.Math.Bool.{and-false, or-false}
use Rattle.std.proofs.lemmas.Bool.{eqb-true, false≢true, false_from_ne_true, ne_eqb, or_right}
use Rattle.std.proofs.lemmas.List.Elements.{All-cons, All-filter, All-nil, All-weaker, filter_passes}
use Rattle.std.proofs.lemmas.List.Folds.{find-append, list_any-append, list_any_none}
use Rattle.indexmap.specs.IndexMap.{get}
use Rattle.indexmap.specs.IndexSet.{contains}
use Rattle.nm_types.specs.declared.messages.Arrival.{Arrival}
use Rattle.nm_types.specs.declared.messages.Envelope.{Envelope}
use Rattle.nm_types.specs.declared.messages.Peer.{Peer}
use Rattle.nm_types.specs.declared.messages.Post as post
use Rattle.nm_types.specs.declared.messages.TagPick.{TagPick}
use Rattle.nm_history.specs.declared.events.Event.{Event}
use Rattle.nm_history.specs.declared.plain.Pair.{Pair}
use Rattle.nm_history.specs.Matching.{first_message, first_receive, is_free, is_open, matched_pairs}
use Rattle.nm_history.specs.Matching.{is_free_message}
use Rattle.nm_history.specs.Selection.{matches}
use Rattle.nm_history.specs.Sends.{arrival_of, message_of, messages, post_of, posts}
use Rattle.nm_history.proofs.OnceLemmas.{eqb_self, messages-push, posts-push}
use Rattle.nm_match.specs.declared.deeds.Deed.{Deed}
use Rattle.nm_match.specs.Deeds.{history_of, is_known_message, is_known_receive, is_message}
use Rattle.nm_match.proofs.DeedLemmas.{first_message-queue, queues-none}
use Rattle.nm_match.proofs.ListLemmas.{filter_none, find-filter}
use Rattle.nm_match.proofs.PushLemmas.{closes, is_known_message-push, messages_known, takes}
use Rattle.nm_match.proofs.TurnLemmas.{others_number}
use Rattle.nm_match.specs.declared.names.Message.{Message}
use Rattle.nm_lookups.specs.declared.pairing.replays.Replay.{Replay}
use Rattle.nm_match.specs.Names.{same_message}
use Rattle.nm_lookups.specs.Queues.{HasQueuesOf, HasQueues, free_messages, is_closed, is_gone, is_posted, open_receives}
use Rattle.nm_lookups.specs.Queues.{without_message, without_receive}
use Rattle.nm_lookups.specs.Replays.{Replays}
use Rattle.nm_lookups.proofs.HistoryLemmas.{closed-push, gone-push, is_free-gone, is_open-closed}
use Rattle.nm_lookups.proofs.HistoryLemmas.{made}
use Rattle.nm_lookups.proofs.MatcherLemmas.{keeps_agree}
use Rattle.nm_types.proofs.TruthLemmas.{and_left, and_right}

-- one is found where one passes
pub found_any : {X : Type 0} (test : X → Bool) (xs : List X) → is_some (find test xs) ≡ list_any test xs
found_any test [] = refl
found_any test (x ∷ xs) = at (test x) (found_any test xs)
  where
    at : (b : Bool) → is_some (find test xs) ≡ list_any test xs →
        is_some (cond b (Some x) (find test xs)) ≡ (b || list_any test xs)
    at true later = refl
    at false later = later

-- a message came where it is found
pub is_some-message_of : (h : List Event) (from n : ℕ) → is_some (message_of h from n) ≡ is_known_message h from n
unfolding is_known_message
is_some-message_of h from n = found_any (is_message from n) (messages h)

-- a receive of this number is among these
abbrev is_among : List post.Post → ℕ → Bool
is_among ps number = list_any (λ (q : post.Post). q.number == number) ps

each_number : (ps : List post.Post) → All (λ p. is_among ps p.number ≡ true) ps
each_number [] = All-nil (λ p. is_among [] p.number ≡ true)
each_number (p ∷ ps) =
    All-cons (λ q. is_among (p ∷ ps) q.number ≡ true) p ps
    (rw (eqb_self p.number) refl)
    (All-weaker (λ q. is_among ps q.number ≡ true) (λ q. is_among (p ∷ ps) q.number ≡ true)
    (λ q named. or_right (p.number == q.number) _ named) ps (each_number ps))

not_true : (b : Bool) → not b ≡ true → b ≡ false
not_true true h = absurd (false≢true h)
not_true false h = refl

module _ (h : List Event) where
  -- a receive that was not posted, or is closed, is not open
  pub untouched_open : (number : ℕ) → (not (is_closed h number) && is_posted h number) ≡ false →
      open_receives h ≡ without_receive number (open_receives h)
  untouched_open number not_open =
      sym (filter_none (λ p. number == p.number) (open_receives h)
      (λ k d inside. other (get_or (open_receives h) k d)
      (filter_passes (is_open h (matched_pairs h)) (posts h) k d inside)
      (All-filter (is_open h (matched_pairs h)) (λ p. is_posted h p.number ≡ true) (posts h)
      (each_number (posts h)) k d inside)))
    where
      other : (p : post.Post) → is_open h (matched_pairs h) p ≡ true → is_posted h p.number ≡ true →
          (number == p.number) ≡ false
      other p opened posted = false_from_ne_true (number == p.number) (λ same.
          let is : number ≡ p.number = eqb-true number p.number same in
          false≢true (sym not_open
          ∙ subst (λ m. (not (is_closed h m) && is_posted h m) ≡ true) (sym is)
          (rw (sym (is_open-closed h p) ∙ opened, posted) refl)))

  -- a message that did not come, or is gone, is not free
  pub untouched_free : (from n : ℕ) → (not (is_gone h from n) && is_known_message h from n) ≡ false →
      free_messages h ≡ without_message from n (free_messages h)
  untouched_free from n not_free =
      sym (filter_none (is_message from n) (free_messages h)
      (λ k d inside. other (get_or (free_messages h) k d)
      (filter_passes (is_free h (matched_pairs h)) (messages h) k d inside)
      (All-filter (is_free h (matched_pairs h)) (λ a. is_known_message h a.env.from a.n ≡ true) (messages h)
      (messages_known h) k d inside)))
    where
      other : (a : Arrival) → is_free h (matched_pairs h) a ≡ true → is_known_message h a.env.from a.n ≡ true →
          is_message from n a ≡ false
      other a free came = false_from_ne_true (is_message from n a) (λ same.
          let is_from : a.env.from ≡ from = eqb-true a.env.from from (and_left (a.env.from == from) (a.n == n) same) in
          let is_n : a.n ≡ n = eqb-true a.n n (and_right (a.env.from == from) (a.n == n) same) in
          false≢true (sym not_free
          ∙ subst (λ i. (not (is_gone h i n) && is_known_message h i n) ≡ true) is_from
          (subst (λ m. (not (is_gone h a.env.from m) && is_known_message h a.env.from m) ≡ true) is_n
          (rw (sym (is_free-gone h a) ∙ free, came) refl))))

-- the first that is selected in the queue of a history
pub first_free : (h : List Event) (from : Peer) (tag : TagPick) (ctx : ℕ) →
    find (λ a. matches from tag ctx a.env) (free_messages h) ≡ first_message h (matched_pairs h) from tag ctx
first_free h from tag ctx = find-filter (λ (a : Arrival). matches from tag ctx a.env) (is_free h (matched_pairs h))
    (messages h)

pub first_open : (h : List Event) (env : Envelope) →
    find (λ p. matches p.from p.tag p.ctx env) (open_receives h) ≡ first_receive h (matched_pairs h) env
first_open h env = find-filter (λ (p : post.Post). matches p.from p.tag p.ctx env) (is_open h (matched_pairs h))
    (posts h)

-- what a matcher that follows a history answers is what the definitions say of that history
pub first_message-followed : {deeds : List Deed} (h : List Event) → HasQueuesOf h deeds →
    (from : Peer) (tag : TagPick) (ctx : ℕ) →
    first_message (history_of deeds) (matched_pairs (history_of deeds)) from tag ctx
    ≡ first_message h (matched_pairs h) from tag ctx
first_message-followed h keeps from tag ctx =
    sym (first_message-queue keeps.queues from tag ctx) ∙ first_free h from tag ctx

-- a matcher with the queues of a history follows it
pub follows : {posted' : List post.Post} {unexpected' : List Arrival} {knows' : ℕ → Bool} {came' : ℕ → ℕ →
    Bool} {deeds : List Deed} →
    HasQueues posted' unexpected' knows' came' deeds → (h : List Event) → open_receives h ≡ posted' →
    free_messages h ≡ unexpected' →
    ((number : ℕ) → knows' number ≡ is_posted h number) → ((from n : ℕ) → came' from n ≡ is_known_message h from n) →
    HasQueuesOf h deeds
follows {posted' = posted'} {deeds = deeds} keeps h opened freed known came =
    subst (λ (ps : List post.Post). HasQueues ps (free_messages h) (is_posted h) (is_known_message h) deeds) (sym opened)
    (subst (λ (ms : List Arrival). HasQueues posted' ms (is_posted h) (is_known_message h) deeds) (sym freed)
    (keeps_agree keeps (is_posted h) (is_known_message h) known came))

pub is_posted-push : (h : List Event) (e : Event) (number : ℕ) → is_posted (h ++ e ∷ []) number
    ≡ (is_posted h number || list_any (λ p. p.number == number) (cons_option (post_of e.what) []))
is_posted-push h e number =
    ap (λ (ps : List post.Post). list_any (λ p. p.number == number) ps) (posts-push h e)
    ∙ list_any-append (λ (p : post.Post). p.number == number) (posts h) (cons_option (post_of e.what) [])

pub message_of-push : (h : List Event) (e : Event) (from n : ℕ) → message_of (h ++ e ∷ []) from n
    ≡ option_or (message_of h from n) (find (is_message from n) (cons_option (arrival_of e.what) []))
message_of-push h e from n =
    ap (λ (as' : List Arrival). find (is_message from n) as') (messages-push h e)
    ∙ find-append (is_message from n) (messages h) (cons_option (arrival_of e.what) [])

-- what a table has of a history whose last event posts and brings nothing
module _ (h : List Event) (e : Event) where
  pub posts-same : post_of e.what ≡ None → posts (h ++ e ∷ []) ≡ posts h
  posts-same none = posts-push h e ∙ ap (λ (o : Option post.Post). posts h ++ cons_option o []) none
      ∙ append-nil (posts h)

  pub messages-same : arrival_of e.what ≡ None → messages (h ++ e ∷ []) ≡ messages h
  messages-same none = messages-push h e ∙ ap (λ (o : Option Arrival). messages h ++ cons_option o []) none
      ∙ append-nil (messages h)

  pub known-same : arrival_of e.what ≡ None → (from n : ℕ) →
      is_known_message (h ++ e ∷ []) from n ≡ is_known_message h from n
  known-same none from n = is_known_message-push h e from n
      ∙ ap (λ (o : Option Arrival). is_known_message h from n || list_any (is_message from n) (cons_option o [])) none
      ∙ or-false (is_known_message h from n)

module _ {h : List Event} {old : Replay} (replays : Replays h old) (e : Event) (more : List Pair) (is : made h e ≡ more)
    (new : Replay) where
  -- an event that posts and brings nothing
  pub quietly : post_of e.what ≡ None → arrival_of e.what ≡ None → new.posts ≡ old.posts → new.messages ≡ old.messages →
      HasQueues (open_receives (h ++ e ∷ [])) (free_messages (h ++ e ∷ [])) (is_posted h) (is_known_message h) new.matcher →
      ((number : ℕ) → contains ◌==◌ new.closed number ≡ (is_closed h number || closes e.what more number)) →
      ((m : Message) → contains same_message new.gone m ≡ (is_gone h m.rank m.n || takes e.what more m.rank m.n)) →
      Replays (h ++ e ∷ []) new
  quietly no_post no_arrival same_posts same_messages keeps closed gone = record {
    queues = follows keeps (h ++ e ∷ []) refl refl
        (λ number. ap (λ (ps : List post.Post). list_any (λ p. p.number == number) ps) (sym (posts-same h e no_post)))
        (λ from n. sym (known-same h e no_arrival from n));
    kept = subst (λ ps. All (λ p. get ◌==◌ new.posts p.number ≡ Some p) ps) (sym (posts-same h e no_post))
        (subst (λ table. All (λ p. get ◌==◌ table p.number ≡ Some p) (posts h)) (sym same_posts) replays.kept);
    posted = λ number. ap (λ table. is_some (get ◌==◌ table number)) same_posts ∙ replays.posted number
        ∙ ap (λ (ps : List post.Post). list_any (λ p. p.number == number) ps) (sym (posts-same h e no_post));
    messages = λ m. ap (λ table. get same_message table m) same_messages ∙ replays.messages m
        ∙ ap (λ (as' : List Arrival). find (is_message m.rank m.n) as') (sym (messages-same h e no_arrival));
    closed = λ number. closed number ∙ sym (closed-push h e more is number);
    gone = λ m. gone m ∙ sym (gone-push h e more is m.rank m.n);
  }

-- one more in a set
pub cond-or : (b c : Bool) → cond b true c ≡ (c || b)
cond-or true true = refl
cond-or true false = refl
cond-or false true = refl
cond-or false false = refl

-- what is closed, or was not posted, needs no cancel; what is gone, or did not come, no withdrawal
module _ {h : List Event} {old : Replay} (replays : Replays h old) where
  untouched_receive : (number : ℕ) → (not (is_closed h number) && is_posted h number) ≡ false →
      HasQueues (without_receive number (open_receives h)) (free_messages h) (is_posted h) (is_known_message h) old.matcher
  untouched_receive number not_open =
      subst (λ (ps : List post.Post). HasQueues ps (free_messages h) (is_posted h) (is_known_message h) old.matcher)
      (untouched_open h number not_open) replays.queues

  pub closed_keeps : (number : ℕ) → true ≡ contains ◌==◌ old.closed number →
      HasQueues (without_receive number (open_receives h)) (free_messages h) (is_posted h) (is_known_message h) old.matcher
  closed_keeps number closed =
      untouched_receive number (ap (λ b. not b && is_posted h number) (sym (closed ∙ replays.closed number)))

  pub unposted_keeps : (number : ℕ) → false ≡ is_some (get ◌==◌ old.posts number) →
      HasQueues (without_receive number (open_receives h)) (free_messages h) (is_posted h) (is_known_message h) old.matcher
  unposted_keeps number none =
      untouched_receive number (ap (λ b. not (is_closed h number) && b) (sym (none ∙ replays.posted number))
      ∙ and-false (not (is_closed h number)))

  untouched_message : (m : Message) → (not (is_gone h m.rank m.n) && is_known_message h m.rank m.n) ≡ false →
      HasQueues (open_receives h) (without_message m.rank m.n (free_messages h)) (is_posted h)
      (is_known_message h) old.matcher
  untouched_message m not_free =
      subst (λ (ms : List Arrival). HasQueues (open_receives h) ms (is_posted h) (is_known_message h) old.matcher)
      (untouched_free h m.rank m.n not_free) replays.queues

  pub gone_keeps : (m : Message) → true ≡ contains same_message old.gone m →
      HasQueues (open_receives h) (without_message m.rank m.n (free_messages h)) (is_posted h)
      (is_known_message h) old.matcher
  gone_keeps m gone =
      untouched_message m (ap (λ b. not b && is_known_message h m.rank m.n) (sym (gone ∙ replays.gone m)))

  -- a message is found where it came
  came_here : (m : Message) → is_some (get same_message old.messages m) ≡ is_known_message h m.rank m.n
  came_here m = ap is_some (replays.messages m) ∙ is_some-message_of h m.rank m.n

  pub missing_keeps : (m : Message) → false ≡ is_some (get same_message old.messages m) →
      HasQueues (open_receives h) (without_message m.rank m.n (free_messages h)) (is_posted h)
      (is_known_message h) old.matcher
  missing_keeps m none =
      untouched_message m (ap (λ b. not (is_gone h m.rank m.n) && b) (sym (none ∙ came_here m))
      ∙ and-false (not (is_gone h m.rank m.n)))

  -- what is found is known to the matcher
  pub message_known : (m : Message) → true ≡ is_some (get same_message old.messages m) →
      is_known_message (history_of old.matcher) m.rank m.n ≡ true
  message_known m found = replays.queues.messages m.rank m.n ∙ sym (found ∙ came_here m)

-- a receive that a history does not know is not known to a matcher that follows it
pub receive_unknown : {h : List Event} {old : Replay} → Replays h old → (number : ℕ) →
    is_known_receive h number ≡ false → is_known_receive (history_of old.matcher) number ≡ false
receive_unknown {h = h} replays number is_new =
    replays.queues.receives number
    ∙ list_any_none (λ (p : post.Post). p.number == number) (posts h)
    (All-weaker (λ p. p.number ≢ number) (λ p. (p.number == number) ≡ false)
    (λ p other. ne_eqb p.number number other) (posts h) (others_number h number is_new))

-- a replay of no event
pub replays_start : (new : Replay) → new.matcher ≡ [] → new.posts.entries ≡ [] → new.messages.entries ≡ [] →
    new.closed.keys ≡ [] → new.gone.keys ≡ [] → Replays [] new
unfolding history_of is_free_message is_known_message is_known_receive matched_pairs
replays_start new no_deed no_post no_message none_closed none_gone = record {
  queues = rw no_deed (record {
    claimed = [];
    cancelled = [];
    queues = queues-none;
    receives = λ number. refl;
    messages = λ from n. refl;
  });
  kept = All-nil (λ p. get ◌==◌ new.posts p.number ≡ Some p);
  posted = λ number. rw no_post refl;
  messages = λ m. rw no_message refl;
  closed = λ number. rw none_closed refl;
  gone = λ m. rw none_gone refl;
}
