-- A replay after each kind of event.
use Rattle.std.proofs.Common.{◌≡◌, ◌≢◌, ℕ, ◌==◌, Bool, true, false, not, ◌&&◌, ◌||◌, cond, Option, Some, None}
use Rattle.std.proofs.Common.{Result, Ok, Err}
use Rattle.std.proofs.Common.{List, [], ◌∷◌, ◌++◌, get_or, refl, sym, ◌∙◌, ap, subst, arith}
use Rattle.std.specs.Prelude.{OnOk}
use Rattle.std.specs.List.{All, find, list_any}
use Rattle.std.specs.Option.{is_some, option_map, option_or, option_to_list}
use Rattle.std.proofs.Math.Bool.{or-false, and-true}
use Rattle.std.proofs.lemmas.Bool.{eqb-true, false≢true, ne_eqb}
use Rattle.std.proofs.lemmas.List.Elements.{All-push, All-weaker}
use Rattle.indexmap.specs.IndexMap.{get, Updates}
use Rattle.indexmap.specs.IndexSet.{contains}
use Rattle.indexmap.specs.IndexSet as set
use Rattle.nm_types.specs.declared.messages.Arrival.{Arrival}
use Rattle.nm_types.specs.declared.messages.Post as post
use Rattle.nm_history.specs.declared.events.Event.{Event}
use Rattle.nm_history.specs.declared.events.Happened.{Happened}
use Rattle.nm_history.specs.declared.events.Happened.TheVariants.{Post, Arrive, Cancel}
use Rattle.nm_history.specs.declared.events.Happened.TheVariants.{Withdraw, Claim, Match}
use Rattle.nm_history.specs.declared.plain.Pair.{Pair}
use Rattle.nm_history.specs.Matching.{first_message, first_receive, is_open, matched_pairs, pair_of}
use Rattle.nm_history.specs.Matching.{pair_of_claimed}
use Rattle.nm_history.specs.Selection.{matches}
use Rattle.nm_history.specs.Sends.{message_of, messages, posts}
use Rattle.nm_history.proofs.OnceLemmas.{eqb_self, find_among}
use Rattle.nm_history.proofs.OnceLemmas.{posts-push}
use Rattle.nm_match.specs.declared.deeds.Deed.{Deed}
use Rattle.nm_match.specs.Deeds.{is_known_message, is_known_receive, is_message}
use Rattle.nm_match.proofs.PushLemmas.{closes, is_known_message-push, takes}
use Rattle.nm_match.proofs.TurnLemmas.{others_number}
use Rattle.nm_match.specs.declared.names.Message.{Message}
use Rattle.nm_lookups.specs.declared.pairing.replays.Replay.{Replay}
use Rattle.nm_match.specs.Names.{id_of_arrival, same_message}
use Rattle.nm_lookups.specs.Queues.{HasQueues, free_messages, is_closed, is_gone, is_posted, open_receives}
use Rattle.nm_lookups.specs.Queues.{posted_after_arrival, posted_after_post, unexpected_after_arrival}
use Rattle.nm_lookups.specs.Queues.{unexpected_after_post, without_message, without_receive}
use Rattle.nm_lookups.specs.Replays.{HasSameQueues, HasSameReceives, Replays, IsNextReplay}
use Rattle.nm_lookups.proofs.HistoryLemmas.{closed-push, free_arrived, free_left, free_posted, free_same, gone-push}
use Rattle.nm_lookups.proofs.HistoryLemmas.{open_arrived, open_left, open_posted, open_same, others_open}
use Rattle.nm_lookups.proofs.ReplayLemmas.{cond-or, first_free, first_open, follows, is_posted-push}
use Rattle.nm_lookups.proofs.ReplayLemmas.{is_some-message_of, known-same}
use Rattle.nm_lookups.proofs.ReplayLemmas.{message_of-push, messages-same, posts-same, quietly}
use Rattle.nm_types.proofs.OptionLemmas.{mapped_none, mapped_some}
use Rattle.nm_types.proofs.ListLemmas.{find_passes}
use Rattle.nm_types.proofs.TruthLemmas.{and_left, and_right}

-- an event that is no deed of a matcher
abbrev pub is_idle : Happened → Bool
is_idle (Post p line) = false
is_idle (Arrive a) = false
is_idle (Cancel number done) = not done
is_idle (Withdraw from n done) = not done
is_idle (Claim from n line) = false
is_idle (Match number from n cap line) = false
is_idle _ = true

module _ {h : List Event} {old : Replay} (replays : Replays h old) (new : Replay) where
  -- one number more among the closed ones, one name more among those gone
  closed_more : (number : ℕ) → set.Updates ◌==◌ old.closed new.closed number true → (m : ℕ) →
      contains ◌==◌ new.closed m ≡ (is_closed h m || number == m)
  closed_more number more m = more.0 m ∙ cond-or (number == m) (contains ◌==◌ old.closed m)
      ∙ ap (λ b. b || number == m) (replays.closed m)

  gone_more : (from n : ℕ) → set.Updates same_message old.gone new.gone (record { rank = from; n = n }) true →
      (m : Message) →
      contains same_message new.gone m ≡ (is_gone h m.rank m.n || (from == m.rank && n == m.n))
  gone_more from n more m = more.0 m ∙ cond-or (from == m.rank && n == m.n) (contains same_message old.gone m)
      ∙ ap (λ b. b || (from == m.rank && n == m.n)) (replays.gone m)

  closed_same : new.closed ≡ old.closed → (m : ℕ) → contains ◌==◌ new.closed m ≡ (is_closed h m || false)
  closed_same same m = ap (λ table. contains ◌==◌ table m) same ∙ replays.closed m ∙ sym (or-false (is_closed h m))

  gone_same : new.gone ≡ old.gone → (m : Message) → contains same_message new.gone m ≡ (is_gone h m.rank m.n || false)
  gone_same same m = ap (λ table. contains same_message table m) same ∙ replays.gone m
      ∙ sym (or-false (is_gone h m.rank m.n))

  -- the queues after an event, and those of the matcher
  pub in_step : (e : Event) (posted' : List post.Post) (unexpected' : List Arrival) →
      open_receives (h ++ e ∷ []) ≡ posted' → free_messages (h ++ e ∷ []) ≡ unexpected' →
      HasQueues posted' unexpected' (is_posted h) (is_known_message h) new.matcher →
      HasQueues (open_receives (h ++ e ∷ [])) (free_messages (h ++ e ∷ [])) (is_posted h) (is_known_message h) new.matcher
  in_step e posted' unexpected' opened freed keeps =
      subst (λ (ps : List post.Post). HasQueues ps (free_messages (h ++ e ∷ [])) (is_posted h)
      (is_known_message h) new.matcher) (sym opened)
      (subst (λ (ms : List Arrival). HasQueues posted' ms (is_posted h) (is_known_message h) new.matcher) (sym freed) keeps)

  -- a receive is cancelled
  pub cancel_takes : (stamp number : ℕ) → new.posts ≡ old.posts → new.messages ≡ old.messages → new.gone ≡ old.gone →
      set.Updates ◌==◌ old.closed new.closed number true →
      HasQueues (without_receive number (open_receives h)) (free_messages h) (is_posted h)
      (is_known_message h) new.matcher →
      IsNextReplay h (record { stamp = stamp; what = Cancel number true }) None new
  cancel_takes stamp number same_posts same_messages same_gone closed keeps =
      let e : Event = record { stamp = stamp; what = Cancel number true } in record {
        made_is = refl;
        replays = quietly replays e [] refl new refl refl same_posts same_messages
            (in_step e (without_receive number (open_receives h)) (free_messages h)
            (open_left h e [] refl number refl (λ m. and-true (number == m)))
            (free_same h e [] refl refl (λ k d inside. refl)) keeps)
            (λ m. closed_more number closed m ∙ ap (λ b. is_closed h m || b) (sym (and-true (number == m))))
            (gone_same same_gone);
      }

  -- a message is claimed
  pub claim_takes : (stamp from n line : ℕ) → new.posts ≡ old.posts → new.messages ≡ old.messages →
      new.closed ≡ old.closed →
      set.Updates same_message old.gone new.gone (record { rank = from; n = n }) true →
      HasQueues (open_receives h) (without_message from n (free_messages h)) (is_posted h)
      (is_known_message h) new.matcher →
      IsNextReplay h (record { stamp = stamp; what = Claim from n line }) None new
  claim_takes stamp from n line same_posts same_messages same_closed gone keeps =
      let e : Event = record { stamp = stamp; what = Claim from n line } in record {
        made_is = refl;
        replays = quietly replays e [] refl new refl refl same_posts same_messages
            (in_step e (open_receives h) (without_message from n (free_messages h))
            (open_same h e [] refl refl (λ k d inside. refl))
            (free_left h e [] refl from n refl (λ i m. or-false (from == i && n == m))) keeps)
            (closed_same same_closed)
            (λ m. gone_more from n gone m
            ∙ ap (λ b. is_gone h m.rank m.n || b) (sym (or-false (from == m.rank && n == m.n))));
      }

  -- a message is withdrawn
  pub withdrawal_takes : (stamp from n : ℕ) → new.posts ≡ old.posts → new.messages ≡ old.messages →
      new.closed ≡ old.closed →
      set.Updates same_message old.gone new.gone (record { rank = from; n = n }) true →
      HasQueues (open_receives h) (without_message from n (free_messages h)) (is_posted h)
      (is_known_message h) new.matcher →
      IsNextReplay h (record { stamp = stamp; what = Withdraw from n true }) None new
  withdrawal_takes stamp from n same_posts same_messages same_closed gone keeps =
      let e : Event = record { stamp = stamp; what = Withdraw from n true } in record {
        made_is = refl;
        replays = quietly replays e [] refl new refl refl same_posts same_messages
            (in_step e (open_receives h) (without_message from n (free_messages h))
            (open_same h e [] refl refl (λ k d inside. refl))
            (free_left h e [] refl from n refl (λ i m. and-true (from == i && n == m))) keeps)
            (closed_same same_closed)
            (λ m. gone_more from n gone m
            ∙ ap (λ b. is_gone h m.rank m.n || b) (sym (and-true (from == m.rank && n == m.n))));
      }

  -- a matched receive takes a message
  pub match_takes : (stamp number from n cap line : ℕ) (a : Arrival) → is_known_receive h number ≡ false →
      message_of h from n ≡ Some a → new.posts ≡ old.posts → new.messages ≡ old.messages →
      set.Updates ◌==◌ old.closed new.closed number true →
      set.Updates same_message old.gone new.gone (record { rank = from; n = n }) true →
      HasQueues (open_receives h) (without_message from n (free_messages h)) (is_posted h)
      (is_known_message h) new.matcher →
      IsNextReplay h (record { stamp = stamp; what = Match number from n cap line }) (Some (pair_of_claimed number cap a)) new
  match_takes stamp number from n cap line a new_number is same_posts same_messages closed gone keeps =
      let e : Event = record { stamp = stamp; what = Match number from n cap line } in
      let more : List Pair = pair_of_claimed number cap a ∷ [] in
      let made_is = ap (λ (o : Option Arrival). option_map (λ a. pair_of_claimed number cap a) o) is in
      let made_are = ap (λ (o : Option Pair). option_to_list o) made_is in
      let passes = find_passes (is_message from n) (messages h) a is in
      let is_from : a.env.from ≡ from = eqb-true a.env.from from (and_left (a.env.from == from) (a.n == n) passes) in
      let is_n : a.n ≡ n = eqb-true a.n n (and_right (a.env.from == from) (a.n == n) passes) in
      record {
        made_is = sym made_is;
        replays = quietly replays e more made_are new refl refl same_posts same_messages
            (in_step e (open_receives h) (without_message from n (free_messages h))
            (open_same h e more made_are refl
            (All-weaker (λ (p : post.Post). (number == p.number) ≡ false)
            (λ (p : post.Post). closes (Match number from n cap line) more p.number ≡ false)
            (λ p other. or-false _ ∙ or-false _ ∙ other) (open_receives h) (others_open h number new_number)))
            (free_left h e more made_are from n refl
            (λ i m. or-false _ ∙ or-false _ ∙ or-false _ ∙ (rw (is_from, is_n) refl))) keeps)
            (λ m. closed_more number closed m ∙ ap (λ b. is_closed h m || b)
            (sym (or-false _ ∙ or-false (number == m))))
            (λ m. gone_more from n gone m ∙ ap (λ b. is_gone h m.rank m.n || b)
            (sym (or-false _ ∙ or-false _ ∙ or-false _ ∙ (rw (is_from, is_n) refl))));
      }

module _ {h : List Event} {old : Replay} (replays : Replays h old) (new : Replay) {E : Type 0} where
  -- a message is claimed, or withdrawn, if there was memory for it
  pub claimed_takes : (r : Result (Unit {0}) E) (stamp from n line : ℕ) →
      OnOk r (set.Updates same_message old.gone new.gone (record { rank = from; n = n }) true) →
      OnOk r (HasQueues (open_receives h) (without_message from n (free_messages h)) (is_posted h)
      (is_known_message h) new.matcher) →
      OnOk r (HasSameReceives old new) →
      OnOk r (IsNextReplay h (record { stamp = stamp; what = Claim from n line }) None new)
  claimed_takes (Ok done) stamp from n line gone keeps same =
      claim_takes replays new stamp from n line same.posts same.messages same.closed gone keeps
  claimed_takes (Err e) stamp from n line gone keeps same = tt

  pub withdrawn_takes : (r : Result (Unit {0}) E) (stamp from n : ℕ) →
      OnOk r (set.Updates same_message old.gone new.gone (record { rank = from; n = n }) true) →
      OnOk r (HasQueues (open_receives h) (without_message from n (free_messages h)) (is_posted h)
      (is_known_message h) new.matcher) →
      OnOk r (HasSameReceives old new) →
      OnOk r (IsNextReplay h (record { stamp = stamp; what = Withdraw from n true }) None new)
  withdrawn_takes (Ok done) stamp from n gone keeps same =
      withdrawal_takes replays new stamp from n same.posts same.messages same.closed gone keeps
  withdrawn_takes (Err e) stamp from n gone keeps same = tt

some_or : (o : Option post.Post) (b : Bool) (p : post.Post) → is_some (cond b (Some p) o) ≡ (is_some o || (b || false))
some_or None true p = refl
some_or None false p = refl
some_or (Some q) true p = refl
some_or (Some q) false p = refl

with_none : (o : Option Arrival) → o ≡ option_or o None
with_none None = refl
with_none (Some a) = refl

none_of : (o : Option Arrival) → is_some o ≡ false → o ≡ None
none_of None none = refl
none_of (Some a) none = absurd (false≢true (sym none))

module _ {h : List Event} {old : Replay} (replays : Replays h old) (new : Replay) where
  -- the receives after one more
  kept_posted : (p : post.Post) → is_known_receive h p.number ≡ false →
      Updates ◌==◌ old.posts new.posts p.number (Some p) →
      All (λ q. get ◌==◌ new.posts q.number ≡ Some q) (posts h ++ p ∷ [])
  kept_posted p is_new more =
      All-push (λ q. get ◌==◌ new.posts q.number ≡ Some q) (posts h) p
      (λ k d inside. early (get_or (posts h) k d) (others_number h p.number is_new k d inside)
      (replays.kept k d inside))
      (more.0 p.number ∙ rw (eqb_self p.number) refl)
    where
      early : (q : post.Post) → q.number ≢ p.number → get ◌==◌ old.posts q.number ≡ Some q →
          get ◌==◌ new.posts q.number ≡ Some q
      early q other was = more.0 q.number ∙ rw (ne_eqb p.number q.number (λ same. other (sym same))) was

  -- a receive is posted
  pub post_takes : (stamp line : ℕ) (p : post.Post) (taken : Option Arrival) (cancelled : Bool) →
      is_known_receive h p.number ≡ false →
      first_message h (matched_pairs h) p.from p.tag p.ctx ≡ taken → cancelled ≡ is_closed h p.number →
      Updates ◌==◌ old.posts new.posts p.number (Some p) → new.messages ≡ old.messages →
      ((m : ℕ) → contains ◌==◌ new.closed m
      ≡ (is_closed h m || closes (Post p line) (option_to_list (option_map (λ a. pair_of p a) taken)) m)) →
      ((m : Message) →
      contains same_message new.gone m ≡ (is_gone h m.rank m.n || takes (Post p line)
      (option_to_list (option_map (λ a. pair_of p a) taken)) m.rank m.n)) →
      HasQueues (posted_after_post p cancelled (open_receives h) taken) (unexpected_after_post (free_messages h) taken)
      (λ number. is_posted h number || p.number == number) (is_known_message h) new.matcher →
      IsNextReplay h (record { stamp = stamp; what = Post p line }) (option_map (λ a. pair_of p a) taken) new
  post_takes stamp line p taken cancelled is_new first was_closed table same_messages closed gone keeps =
      let e : Event = record { stamp = stamp; what = Post p line } in
      let made_is = ap (λ (o : Option Arrival). option_map (λ a. pair_of p a) o) first in
      let made_are = ap (λ (o : Option Pair). option_to_list o) made_is in
      record {
        made_is = sym made_is;
        replays = record {
          queues = follows keeps (h ++ e ∷ [])
              (open_posted h stamp line p taken is_new first
              ∙ ap (λ b. posted_after_post p b (open_receives h) taken) (sym was_closed))
              (free_posted h stamp line p taken first)
              (λ number. ap (λ b. is_posted h number || b) (sym (or-false (p.number == number)))
              ∙ sym (is_posted-push h e number))
              (λ from n. sym (known-same h e refl from n));
          kept = subst (λ ps. All (λ q. get ◌==◌ new.posts q.number ≡ Some q) ps) (sym (posts-push h e))
              (kept_posted p is_new table);
          posted = λ number. ap is_some (table.0 number) ∙ some_or (get ◌==◌ old.posts number) (p.number == number) p
              ∙ ap (λ b. b || (p.number == number || false)) (replays.posted number) ∙ sym (is_posted-push h e number);
          messages = λ m. ap (λ table. get same_message table m) same_messages ∙ replays.messages m
              ∙ ap (λ (as' : List Arrival). find (is_message m.rank m.n) as') (sym (messages-same h e refl));
          closed = λ m. closed m ∙ sym (closed-push h e
              (option_to_list (option_map (λ a. pair_of p a) taken)) made_are m);
          gone = λ m. gone m ∙ sym (gone-push h e
              (option_to_list (option_map (λ a. pair_of p a) taken)) made_are m.rank m.n);
        };
      }

  -- the messages after one more
  messages_brought : (stamp : ℕ) (a : Arrival) → is_known_message h a.env.from a.n ≡ false →
      Updates same_message old.messages new.messages (record { rank = a.env.from; n = a.n }) (Some a) → (m : Message) →
      get same_message new.messages m ≡ message_of (h ++ record { stamp = stamp; what = Arrive a } ∷ []) m.rank m.n
  messages_brought stamp a is_new more m =
      more.0 m ∙ by_name (a.env.from == m.rank && a.n == m.n) refl
      ∙ sym (message_of-push h (record { stamp = stamp; what = Arrive a }) m.rank m.n)
    where
      by_name : (b : Bool) → (a.env.from == m.rank && a.n == m.n) ≡ b →
          cond b (Some a) (get same_message old.messages m) ≡ option_or (message_of h m.rank m.n) (cond b (Some a) None)
      by_name true same =
          let is_from : a.env.from ≡ m.rank = eqb-true a.env.from m.rank
          (and_left (a.env.from == m.rank) (a.n == m.n) same) in
          let is_n : a.n ≡ m.n = eqb-true a.n m.n (and_right (a.env.from == m.rank) (a.n == m.n) same) in
          let none : message_of h m.rank m.n ≡ None = none_of (message_of h m.rank m.n)
          (is_some-message_of h m.rank m.n
          ∙ subst (λ i. is_known_message h i m.n ≡ false) is_from
          (subst (λ k. is_known_message h a.env.from k ≡ false) is_n is_new)) in
          rw none refl
      by_name false other = replays.messages m ∙ with_none (message_of h m.rank m.n)

  -- a message comes
  pub arrival_takes : (stamp : ℕ) (a : Arrival) (taken : Option post.Post) (gone_before : Bool) →
      is_known_message h a.env.from a.n ≡ false →
      first_receive h (matched_pairs h) a.env ≡ taken → gone_before ≡ is_gone h a.env.from a.n →
      Updates same_message old.messages new.messages (record { rank = a.env.from; n = a.n }) (Some a) →
      new.posts ≡ old.posts →
      ((m : ℕ) → contains ◌==◌ new.closed m
      ≡ (is_closed h m || closes (Arrive a) (option_to_list (option_map (λ p. pair_of p a) taken)) m)) →
      ((m : Message) → contains same_message new.gone m
      ≡ (is_gone h m.rank m.n || takes (Arrive a) (option_to_list (option_map (λ p. pair_of p a) taken)) m.rank m.n)) →
      HasQueues (posted_after_arrival (open_receives h) (option_map (λ p. p.number) taken))
      (unexpected_after_arrival a gone_before (free_messages h) (option_map (λ p. p.number) taken)) (is_posted h)
      (λ from n. is_known_message h from n || (a.env.from == from && a.n == n)) new.matcher →
      IsNextReplay h (record { stamp = stamp; what = Arrive a }) (option_map (λ p. pair_of p a) taken) new
  arrival_takes stamp a taken gone_before is_new first was_gone table same_posts closed gone keeps =
      let e : Event = record { stamp = stamp; what = Arrive a } in
      let made_is = ap (λ (o : Option post.Post). option_map (λ p. pair_of p a) o) first in
      let made_are = ap (λ (o : Option Pair). option_to_list o) made_is in
      record {
        made_is = sym made_is;
        replays = record {
          queues = follows keeps (h ++ e ∷ []) (open_arrived h stamp a taken first)
              (free_arrived h stamp a taken is_new first
              ∙ ap (λ b. unexpected_after_arrival a b (free_messages h) (option_map (λ p. p.number) taken))
              (sym was_gone))
              (λ number. ap (λ (ps : List post.Post). list_any (λ p. p.number == number) ps)
              (sym (posts-same h e refl)))
              (λ from n. ap (λ b. is_known_message h from n || b) (sym (or-false (a.env.from == from && a.n == n)))
              ∙ sym (is_known_message-push h e from n));
          kept = subst (λ ps. All (λ p. get ◌==◌ new.posts p.number ≡ Some p) ps) (sym (posts-same h e refl))
              (subst (λ table. All (λ p. get ◌==◌ table p.number ≡ Some p) (posts h)) (sym same_posts) replays.kept);
          posted = λ number. ap (λ table. is_some (get ◌==◌ table number)) same_posts ∙ replays.posted number
              ∙ ap (λ (ps : List post.Post). list_any (λ p. p.number == number) ps) (sym (posts-same h e refl));
          messages = messages_brought stamp a is_new table;
          closed = λ m. closed m ∙ sym (closed-push h e
              (option_to_list (option_map (λ p. pair_of p a) taken)) made_are m);
          gone = λ m. gone m ∙ sym (gone-push h e
              (option_to_list (option_map (λ p. pair_of p a) taken)) made_are m.rank m.n);
        };
      }

  -- the receive that takes a message is found by its number
  pub found_by_number : (a : Arrival) (p : post.Post) → first_receive h (matched_pairs h) a.env ≡ Some p →
      get ◌==◌ old.posts p.number ≡ Some p
  found_by_number a p first =
      find_among (λ q. get ◌==◌ old.posts q.number ≡ Some q)
      (λ q. matches q.from q.tag q.ctx a.env && is_open h (matched_pairs h) q) (posts h) p replays.kept first

module _ {h : List Event} {old : Replay} (replays : Replays h old) where
  -- what a matcher answers to a receive that is posted, and what it has then
  abbrev PostTold : post.Post → Bool → Option Arrival → List Deed → Type 0
  PostTold p cancelled taken deeds =
      (taken ≡ find (λ a. matches p.from p.tag p.ctx a.env) (free_messages h))
      × HasQueues (posted_after_post p cancelled (open_receives h) taken) (unexpected_after_post (free_messages h) taken)
      (λ number. is_posted h number || p.number == number) (is_known_message h) deeds

  -- a receive is posted, and takes a message
  pub post_some_takes : (stamp line : ℕ) (p : post.Post) (cancelled : Bool) (taken : Option Arrival) (a : Arrival)
      (between new : Replay) (pair : Pair) → is_known_receive h p.number ≡ false →
      cancelled ≡ contains ◌==◌ old.closed p.number → PostTold p cancelled taken between.matcher → taken ≡ Some a →
      Updates ◌==◌ old.posts between.posts p.number (Some p) → between.messages ≡ old.messages →
      HasSameQueues between new → set.Updates ◌==◌ old.closed new.closed p.number true →
      set.Updates same_message old.gone new.gone (id_of_arrival a) true → pair ≡ pair_of p a →
      IsNextReplay h (record { stamp = stamp; what = Post p line }) (Some pair) new
  post_some_takes stamp line p cancelled taken a between new pair is_new closed_before told is table messages
      same closed gone made =
      subst (λ (pair : Pair). IsNextReplay h (record { stamp = stamp; what = Post p line }) (Some pair) new) (sym made)
      (post_takes replays new stamp line p (Some a) cancelled is_new
      (sym (first_free h p.from p.tag p.ctx) ∙ sym told.0 ∙ is) (closed_before ∙ replays.closed p.number)
      (rw (← same.posts) at table) (same.messages ∙ messages)
      (λ m. closed_more replays new p.number closed m
      ∙ ap (λ b. is_closed h m || b) (sym (or-false _ ∙ or-false (p.number == m))))
      (λ m. gone_more replays new a.env.from a.n gone m
      ∙ ap (λ b. is_gone h m.rank m.n || b)
      (sym (or-false _ ∙ or-false _ ∙ or-false (a.env.from == m.rank && a.n == m.n))))
      (subst (λ (o : Option Arrival). HasQueues (posted_after_post p cancelled (open_receives h) o)
      (unexpected_after_post (free_messages h) o) (λ number. is_posted h number || p.number == number)
      (is_known_message h) new.matcher) is (rw (← same.matcher) at told.1)))

  -- .. and takes none
  pub post_none_takes : (stamp line : ℕ) (p : post.Post) (cancelled : Bool) (taken : Option Arrival) (new : Replay) →
      is_known_receive h p.number ≡ false → cancelled ≡ contains ◌==◌ old.closed p.number →
      PostTold p cancelled taken new.matcher → taken ≡ None → Updates ◌==◌ old.posts new.posts p.number (Some p) →
      new.messages ≡ old.messages → new.closed ≡ old.closed → new.gone ≡ old.gone →
      IsNextReplay h (record { stamp = stamp; what = Post p line }) None new
  post_none_takes stamp line p cancelled taken new is_new closed_before told is table messages closed gone =
      post_takes replays new stamp line p None cancelled is_new
      (sym (first_free h p.from p.tag p.ctx) ∙ sym told.0 ∙ is) (closed_before ∙ replays.closed p.number) table messages
      (closed_same replays new closed) (gone_same replays new gone)
      (subst (λ (o : Option Arrival). HasQueues (posted_after_post p cancelled (open_receives h) o)
      (unexpected_after_post (free_messages h) o) (λ number. is_posted h number || p.number == number)
      (is_known_message h) new.matcher) is told.1)

  -- what a matcher answers to a message that comes, and what it has then
  abbrev ArrivalTold : Arrival → Bool → Option ℕ → List Deed → Type 0
  ArrivalTold a gone taken deeds =
      (taken ≡ option_map (λ p. p.number) (find (λ p. matches p.from p.tag p.ctx a.env) (open_receives h)))
      × HasQueues (posted_after_arrival (open_receives h) taken) (unexpected_after_arrival a gone (free_messages h) taken)
      (is_posted h) (λ from n. is_known_message h from n || (a.env.from == from && a.n == n)) deeds

  -- the receive of that number is the first that selects the message
  first_of_number : (a : Arrival) (taken : Option ℕ) (number : ℕ) (o : Option post.Post) →
      taken ≡ option_map (λ p. p.number) (find (λ p. matches p.from p.tag p.ctx a.env) (open_receives h)) →
      taken ≡ Some number → get ◌==◌ old.posts number ≡ o →
      (p : post.Post) × (first_receive h (matched_pairs h) a.env ≡ Some p) × (o ≡ Some p) × (p.number ≡ number)
  first_of_number a taken number o told is look =
      let first = mapped_some (λ (p : post.Post). p.number)
      (find (λ p. matches p.from p.tag p.ctx a.env) (open_receives h)) number (sym told ∙ is) in
      let p : post.Post = first.0 in
      let chosen : first_receive h (matched_pairs h) a.env ≡ Some p = sym (first_open h a.env) ∙ first.1 in (
        p,
        chosen,
        sym look ∙ subst (λ n. get ◌==◌ old.posts n ≡ Some p) first.2 (found_by_number replays old a p chosen),
        first.2,
      )

  -- a message comes, and goes to a receive
  pub arrival_some_takes : (stamp : ℕ) (a : Arrival) (gone_before : Bool) (taken : Option ℕ) (number : ℕ)
      (p : post.Post)
      (between new : Replay) (pair : Pair) → is_known_message h a.env.from a.n ≡ false →
      gone_before ≡ contains same_message old.gone (id_of_arrival a) → ArrivalTold a gone_before taken between.matcher →
      taken ≡ Some number → get ◌==◌ old.posts number ≡ Some p →
      Updates same_message old.messages between.messages (id_of_arrival a) (Some a) → between.posts ≡ old.posts →
      HasSameQueues between new → set.Updates ◌==◌ old.closed new.closed number true →
      set.Updates same_message old.gone new.gone (id_of_arrival a) true →
      pair ≡ pair_of_claimed number p.cap a → IsNextReplay h (record { stamp = stamp; what = Arrive a }) (Some pair) new
  arrival_some_takes stamp a gone_before taken number p between new pair is_new before told is look table
      posts same closed gone made =
      let first = first_of_number a taken number (Some p) told.0 is look in
      let q : post.Post = first.0 in
      let one : p ≡ q = cc in
      let of_number : q.number ≡ number = first.3 in
      let numbers : p.number ≡ number = ap (λ (r : post.Post). r.number) one ∙ of_number in
      let of_pair : pair_of q a ≡ pair =
      ap (λ (r : post.Post). pair_of r a) (sym one) ∙ ap (λ m. pair_of_claimed m p.cap a) numbers ∙ sym made in
      subst (λ (pair : Pair). IsNextReplay h (record { stamp = stamp; what = Arrive a }) (Some pair) new) of_pair
      (arrival_takes replays new stamp a (Some q) gone_before is_new first.1 (before ∙ replays.gone (id_of_arrival a))
      (rw (← same.messages) at table) (same.posts ∙ posts)
      (λ m. closed_more replays new number closed m
      ∙ ap (λ b. is_closed h m || b) (ap (λ n. n == m) (sym of_number) ∙ sym (or-false _ ∙ or-false (q.number == m))))
      (λ m. gone_more replays new a.env.from a.n gone m
      ∙ ap (λ b. is_gone h m.rank m.n || b)
      (sym (or-false _ ∙ or-false _ ∙ or-false (a.env.from == m.rank && a.n == m.n))))
      (subst (λ (o : Option ℕ). HasQueues (posted_after_arrival (open_receives h) o)
      (unexpected_after_arrival a gone_before (free_messages h) o) (is_posted h)
      (λ from n. is_known_message h from n || (a.env.from == from && a.n == n)) new.matcher)
      (is ∙ ap Some (sym of_number)) (rw (← same.matcher) at told.1)))

  -- .. and goes to none
  pub arrival_none_takes : (stamp : ℕ) (a : Arrival) (gone_before : Bool) (taken : Option ℕ) (new : Replay) →
      is_known_message h a.env.from a.n ≡ false → gone_before ≡ contains same_message old.gone (id_of_arrival a) →
      ArrivalTold a gone_before taken new.matcher → taken ≡ None →
      Updates same_message old.messages new.messages (id_of_arrival a) (Some a) → new.posts ≡ old.posts →
      new.closed ≡ old.closed → new.gone ≡ old.gone →
      IsNextReplay h (record { stamp = stamp; what = Arrive a }) None new
  arrival_none_takes stamp a gone_before taken new is_new before told is table posts closed gone =
      arrival_takes replays new stamp a None gone_before is_new
      (sym (first_open h a.env) ∙ mapped_none (λ (p : post.Post). p.number)
      (find (λ p. matches p.from p.tag p.ctx a.env) (open_receives h)) (sym told.0 ∙ is))
      (before ∙ replays.gone (id_of_arrival a)) table posts (closed_same replays new closed)
      (gone_same replays new gone)
      (subst (λ (o : Option ℕ). HasQueues (posted_after_arrival (open_receives h) o)
      (unexpected_after_arrival a gone_before (free_messages h) o) (is_posted h)
      (λ from n. is_known_message h from n || (a.env.from == from && a.n == n)) new.matcher) is told.1)

  -- a receive of a number that was given is found
  pub number_found : (a : Arrival) (gone : Bool) (taken : Option ℕ) (number : ℕ) (deeds : List Deed) →
      ArrivalTold a gone taken deeds →
      taken ≡ Some number → get ◌==◌ old.posts number ≡ None → ⊥
  number_found a gone taken number deeds told is missing =
      let first = first_of_number a taken number None told.0 is missing in
      let never : None ≡ Some first.0 = first.2 in
      absurd (grind arith)
