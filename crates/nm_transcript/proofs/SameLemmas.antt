-- What a history says of messages is the same by other numbers of lines.
use Rattle.std.proofs.Common.{◌≡◌, ℕ, ◌==◌, Bool, true, false, cond, not, ◌&&◌, ◌||◌, Option, Some, None, List, [], ◌∷◌}
use Rattle.std.proofs.Common.{◌++◌, map, refl, sym, ◌∙◌, ap}
use Rattle.std.proofs.Math.Path.{fun_ext}
use Rattle.std.proofs.lemmas.List.{map_push}
use Rattle.std.specs.Prelude.{if◌then◌else◌, option_and_then, option_map, option_to_list}
use Rattle.std.specs.Option.{option_map_or}
use Rattle.std.specs.List.{cons_option, filter, filter_map, find, list_any}
use Rattle.nm_types.specs.declared.answers.Answer.TheVariants as answer
use Rattle.nm_types.specs.declared.messages.Arrival.{Arrival}
use Rattle.nm_types.specs.declared.messages.Envelope.{Envelope}
use Rattle.nm_types.specs.declared.messages.Peer.{Peer}
use Rattle.nm_types.specs.declared.messages.Post as post
use Rattle.nm_types.specs.declared.messages.TagPick.{TagPick}
use Rattle.nm_history.specs.declared.events.Event.{Event}
use Rattle.nm_history.specs.declared.events.Happened.{Happened}
use Rattle.nm_history.specs.declared.events.Happened.TheVariants.{Post, Arrive}
use Rattle.nm_history.specs.declared.events.Happened.TheVariants.{Match, Ran}
use Rattle.nm_history.specs.declared.plain.Pair.{Pair}
use Rattle.nm_history.specs.Completion.{Request, is_complete, is_here, is_taken, pair_of_receive, result_of, shown}
use Rattle.nm_history.specs.Completion.Request.{Sending, Receiving}
use Rattle.nm_history.specs.Happens.{happened, is_arrival, is_cancel, is_claim, is_out, is_recall, is_send, is_undone}
use Rattle.nm_history.specs.Happens.{is_whole, is_withdraw}
use Rattle.nm_history.specs.Matching.{first_message, first_receive, is_claimed, is_free, is_free_message, is_of_message}
use Rattle.nm_history.specs.Matching.{is_of_receive, is_open, matched_pairs, matched_pairs_after, new_pair, pair_of}
use Rattle.nm_history.specs.Matching.{pair_of_claimed}
use Rattle.nm_history.specs.RankRun.{is_asking}
use Rattle.nm_history.specs.Selection.{matches}
use Rattle.nm_history.specs.Sends.{Arrived, Sent, arrival_of, arrivals, arrived_of, message_of, messages, post_of, posts}
use Rattle.nm_history.specs.Sends.{receive_of, receives, sends, sent_of}
use Rattle.nm_transcript.specs.Renumbered.{renumbered, renumbered_all, renumbered_event}

-- a send by another number of its line
abbrev pub resent : (ℕ → ℕ) → Sent → Sent
resent f s =
    record {
      stamp = s.stamp;
      to = s.to;
      n = s.n;
      tag = s.tag;
      ctx = s.ctx;
      len = s.len;
      how = s.how;
      line = f s.line;
    }

pub map_cons_option : {X Y : Type 0} (g : X → Y) (o : Option X) (xs : List X) →
    map g (cons_option o xs) ≡ cons_option (option_map g o) (map g xs)
map_cons_option g None xs = refl
map_cons_option g (Some x) xs = refl

module _ (f : ℕ → ℕ) where
  -- what events say in turn
  pub in_all : {X : Type 0} (g k : Event → Option X) (h : List Event) →
      ((e : Event) → g (renumbered_event f e) ≡ k e) → filter_map g (renumbered_all f h) ≡ filter_map k h
  in_all g k [] same = refl
  in_all {X} g k (e ∷ h) same =
      ap (λ (o : Option X). cons_option o (filter_map g (renumbered_all f h))) (same e)
      ∙ ap (λ (xs : List X). cons_option (k e) xs) (in_all g k h same)

  -- whether something happened
  pub any_same : (test : Happened → Bool) (h : List Event) →
      ((w : Happened) → test (renumbered f w) ≡ test w) → happened test (renumbered_all f h) ≡ happened test h
  any_same test [] same = refl
  any_same test (e ∷ h) same =
      ap (λ (b : Bool). b || happened test (renumbered_all f h)) (same e.what)
      ∙ ap (λ (b : Bool). test e.what || b) (any_same test h same)

  is_send_same : (to n : ℕ) (w : Happened) → is_send to n (renumbered f w) ≡ is_send to n w
  is_send_same to n (Ran line answer) = refl
  is_send_same to n w = refl

  is_arrival_same : (from n : ℕ) (w : Happened) → is_arrival from n (renumbered f w) ≡ is_arrival from n w
  is_arrival_same from n (Ran line answer) = refl
  is_arrival_same from n w = refl

  is_whole_same : (from n : ℕ) (w : Happened) → is_whole from n (renumbered f w) ≡ is_whole from n w
  is_whole_same from n (Ran line answer) = refl
  is_whole_same from n w = refl

  is_out_same : (to n : ℕ) (w : Happened) → is_out to n (renumbered f w) ≡ is_out to n w
  is_out_same to n (Ran line answer) = refl
  is_out_same to n w = refl

  is_cancel_same : (number : ℕ) (w : Happened) → is_cancel number (renumbered f w) ≡ is_cancel number w
  is_cancel_same number (Ran line answer) = refl
  is_cancel_same number w = refl

  is_recall_same : (to n : ℕ) (w : Happened) → is_recall to n (renumbered f w) ≡ is_recall to n w
  is_recall_same to n (Ran line answer) = refl
  is_recall_same to n w = refl

  is_withdraw_same : (from n : ℕ) (done : Bool) (w : Happened) →
      is_withdraw from n done (renumbered f w) ≡ is_withdraw from n done w
  is_withdraw_same from n done (Ran line answer) = refl
  is_withdraw_same from n done w = refl

  is_undone_same : (to n : ℕ) (done : Bool) (w : Happened) →
      is_undone to n done (renumbered f w) ≡ is_undone to n done w
  is_undone_same to n done (Ran line answer) = refl
  is_undone_same to n done w = refl

  is_claim_same : (from n : ℕ) (w : Happened) → is_claim from n (renumbered f w) ≡ is_claim from n w
  is_claim_same from n (Ran line answer) = refl
  is_claim_same from n w = refl

  is_asking_same : (from n : ℕ) (w : Happened) → is_asking from n (renumbered f w) ≡ is_asking from n w
  is_asking_same from n (Ran line answer) = refl
  is_asking_same from n w = refl

  pub sent_same : (to n : ℕ) (h : List Event) → happened (is_send to n) (renumbered_all f h) ≡ happened (is_send to n) h
  sent_same to n h = any_same (is_send to n) h (is_send_same to n)

  pub came_same : (from n : ℕ) (h : List Event) →
      happened (is_arrival from n) (renumbered_all f h) ≡ happened (is_arrival from n) h
  came_same from n h = any_same (is_arrival from n) h (is_arrival_same from n)

  pub whole_same : (from n : ℕ) (h : List Event) →
      happened (is_whole from n) (renumbered_all f h) ≡ happened (is_whole from n) h
  whole_same from n h = any_same (is_whole from n) h (is_whole_same from n)

  pub out_same : (to n : ℕ) (h : List Event) → happened (is_out to n) (renumbered_all f h) ≡ happened (is_out to n) h
  out_same to n h = any_same (is_out to n) h (is_out_same to n)

  pub cancel_same : (number : ℕ) (h : List Event) →
      happened (is_cancel number) (renumbered_all f h) ≡ happened (is_cancel number) h
  cancel_same number h = any_same (is_cancel number) h (is_cancel_same number)

  pub recall_same : (to n : ℕ) (h : List Event) →
      happened (is_recall to n) (renumbered_all f h) ≡ happened (is_recall to n) h
  recall_same to n h = any_same (is_recall to n) h (is_recall_same to n)

  pub withdraw_same : (from n : ℕ) (done : Bool) (h : List Event) →
      happened (is_withdraw from n done) (renumbered_all f h) ≡ happened (is_withdraw from n done) h
  withdraw_same from n done h = any_same (is_withdraw from n done) h (is_withdraw_same from n done)

  pub undone_same : (to n : ℕ) (done : Bool) (h : List Event) →
      happened (is_undone to n done) (renumbered_all f h) ≡ happened (is_undone to n done) h
  undone_same to n done h = any_same (is_undone to n done) h (is_undone_same to n done)

  pub claim_same : (from n : ℕ) (h : List Event) →
      happened (is_claim from n) (renumbered_all f h) ≡ happened (is_claim from n) h
  claim_same from n h = any_same (is_claim from n) h (is_claim_same from n)

  pub asking_same : (from n : ℕ) (h : List Event) →
      happened (is_asking from n) (renumbered_all f h) ≡ happened (is_asking from n) h
  asking_same from n h = any_same (is_asking from n) h (is_asking_same from n)

  -- messages and receives
  arrival_of_same : (w : Happened) → arrival_of (renumbered f w) ≡ arrival_of w
  arrival_of_same (Ran line answer) = refl
  arrival_of_same w = refl

  arrived_of_same : (stamp : ℕ) (w : Happened) → arrived_of stamp (renumbered f w) ≡ arrived_of stamp w
  arrived_of_same stamp (Ran line answer) = refl
  arrived_of_same stamp w = refl

  post_of_same : (w : Happened) → post_of (renumbered f w) ≡ post_of w
  post_of_same (Ran line answer) = refl
  post_of_same w = refl

  receive_of_same : (w : Happened) → receive_of (renumbered f w) ≡ receive_of w
  receive_of_same (Ran line answer) = refl
  receive_of_same w = refl

  pub messages_same : (h : List Event) → messages (renumbered_all f h) ≡ messages h
  messages_same h = in_all (λ e. arrival_of e.what) (λ e. arrival_of e.what) h (λ e. arrival_of_same e.what)

  pub posts_same : (h : List Event) → posts (renumbered_all f h) ≡ posts h
  posts_same h = in_all (λ e. post_of e.what) (λ e. post_of e.what) h (λ e. post_of_same e.what)

  pub receives_same : (h : List Event) → receives (renumbered_all f h) ≡ receives h
  receives_same h = in_all (λ e. receive_of e.what) (λ e. receive_of e.what) h (λ e. receive_of_same e.what)

  pub arrivals_same : (h : List Event) (from : ℕ) → arrivals (renumbered_all f h) from ≡ arrivals h from
  arrivals_same h from =
      ap (λ (xs : List Arrived). filter (λ a. a.arrival.env.from == from) xs)
      (in_all (λ e. arrived_of e.stamp e.what) (λ e. arrived_of e.stamp e.what) h
      (λ e. arrived_of_same e.stamp e.what))

  pub message_same : (h : List Event) (from n : ℕ) → message_of (renumbered_all f h) from n ≡ message_of h from n
  message_same h from n =
      ap (λ (xs : List Arrival). find (λ a. a.env.from == from && a.n == n) xs) (messages_same h)

  sent_of_same : (stamp : ℕ) (w : Happened) → sent_of stamp (renumbered f w) ≡ option_map (resent f) (sent_of stamp w)
  sent_of_same stamp (Ran line answer) = refl
  sent_of_same stamp w = refl

  all_sent : (h : List Event) → filter_map (λ e. sent_of e.stamp e.what) (renumbered_all f h)
      ≡ map (resent f) (filter_map (λ (e : Event). sent_of e.stamp e.what) h)
  all_sent [] = refl
  all_sent (e ∷ h) =
      ap (λ (o : Option Sent). cons_option o (filter_map (λ e. sent_of e.stamp e.what) (renumbered_all f h)))
      (sent_of_same e.stamp e.what)
      ∙ ap (λ (xs : List Sent). cons_option (option_map (resent f) (sent_of e.stamp e.what)) xs) (all_sent h)
      ∙ sym (map_cons_option (resent f) (sent_of e.stamp e.what)
      (filter_map (λ (e : Event). sent_of e.stamp e.what) h))

  to_rank : (to : ℕ) (xs : List Sent) →
      filter (λ s. s.to == to) (map (resent f) xs) ≡ map (resent f) (filter (λ (s : Sent). s.to == to) xs)
  to_rank to [] = refl
  to_rank to (x ∷ xs) = by (x.to == to) (to_rank to xs) where
    by : (b : Bool) → filter (λ s. s.to == to) (map (resent f) xs) ≡ map (resent f) (filter (λ (s : Sent). s.to == to) xs) →
        cond b (resent f x ∷ filter (λ s. s.to == to) (map (resent f) xs)) (filter (λ s. s.to == to) (map (resent f) xs))
        ≡ map (resent f) (cond b (x ∷ filter (λ (s : Sent). s.to == to) xs) (filter (λ (s : Sent). s.to == to) xs))
    by true rest = ap (λ (ys : List Sent). resent f x ∷ ys) rest
    by false rest = rest

  pub sends_same : (h : List Event) (to : ℕ) → sends (renumbered_all f h) to ≡ map (resent f) (sends h to)
  sends_same h to =
      ap (λ (xs : List Sent). filter (λ s. s.to == to) xs) (all_sent h)
      ∙ to_rank to (filter_map (λ (e : Event). sent_of e.stamp e.what) h)

  -- matching
  free_same : (h : List Event) (found : List Pair) (from n : ℕ) →
      is_free_message (renumbered_all f h) found from n ≡ is_free_message h found from n
  unfolding is_free_message
  free_same h found from n =
      ap (λ (b : Bool). not (list_any (is_of_message from n) found) && not b
      && not (happened (is_withdraw from n true) (renumbered_all f h))) (claim_same from n h)
      ∙ ap (λ (b : Bool). not (list_any (is_of_message from n) found) && not (happened (is_claim from n) h) && not b)
      (withdraw_same from n true h)

  pub first_message_same : (h : List Event) (found : List Pair) (from : Peer) (tag : TagPick) (ctx : ℕ) →
      first_message (renumbered_all f h) found from tag ctx ≡ first_message h found from tag ctx
  first_message_same h found from tag ctx =
      ap (λ (xs : List Arrival). find
      (λ a. matches from tag ctx a.env && is_free (renumbered_all f h) found a) xs) (messages_same h)
      ∙ ap (λ (test : Arrival → Bool). find test (messages h))
      (fun_ext (λ (a : Arrival). ap (λ (b : Bool). matches from tag ctx a.env && b)
      (free_same h found a.env.from a.n)))

  first_receive_same : (h : List Event) (found : List Pair) (env : Envelope) →
      first_receive (renumbered_all f h) found env ≡ first_receive h found env
  first_receive_same h found env =
      ap (λ (xs : List post.Post). find
      (λ p. matches p.from p.tag p.ctx env && is_open (renumbered_all f h) found p) xs) (posts_same h)
      ∙ ap (λ (test : post.Post → Bool). find test (posts h))
      (fun_ext (λ (p : post.Post). ap (λ (b : Bool). matches p.from p.tag p.ctx env
      && (not (list_any (is_of_receive p.number) found) && not b)) (cancel_same p.number h)))

  pub new_pair_same : (h : List Event) (found : List Pair) (w : Happened) →
      new_pair (renumbered_all f h) found (renumbered f w) ≡ new_pair h found w
  new_pair_same h found (Post p line) =
      ap (λ (o : Option Arrival). option_map (λ a. pair_of p a) o) (first_message_same h found p.from p.tag p.ctx)
  new_pair_same h found (Arrive a) =
      ap (λ (o : Option post.Post). option_map (λ p. pair_of p a) o) (first_receive_same h found a.env)
  new_pair_same h found (Match number from n cap line) =
      ap (λ (o : Option Arrival). option_map (λ a. pair_of_claimed number cap a) o) (message_same h from n)
  new_pair_same h found w = refl

  pub push_same : (h : List Event) (e : Event) →
      renumbered_all f (h ++ e ∷ []) ≡ renumbered_all f h ++ renumbered_event f e ∷ []
  push_same h e = map_push (renumbered_event f) h e

  pairs_after_same : (b : List Event) (found : List Pair) (h : List Event) →
      matched_pairs_after (renumbered_all f b) found (renumbered_all f h) ≡ matched_pairs_after b found h
  pairs_after_same b found [] = refl
  pairs_after_same b found (e ∷ h) =
      ap (λ (o : Option Pair). matched_pairs_after (renumbered_all f b ++ renumbered_event f e ∷ [])
      (found ++ option_to_list o) (renumbered_all f h)) (new_pair_same b found e.what)
      ∙ ap (λ (k : List Event). matched_pairs_after k (found ++ option_to_list (new_pair b found e.what))
      (renumbered_all f h)) (sym (push_same b e))
      ∙ pairs_after_same (b ++ e ∷ []) (found ++ option_to_list (new_pair b found e.what)) h

  pub pairs_same : (h : List Event) → matched_pairs (renumbered_all f h) ≡ matched_pairs h
  unfolding matched_pairs
  pairs_same h = pairs_after_same [] [] h

  pub new_pair_is : (h : List Event) (w : Happened) →
      new_pair (renumbered_all f h) (matched_pairs (renumbered_all f h)) (renumbered f w)
      ≡ new_pair h (matched_pairs h) w
  new_pair_is h w =
      ap (λ (found : List Pair). new_pair (renumbered_all f h) found (renumbered f w)) (pairs_same h)
      ∙ new_pair_same h (matched_pairs h) w

  pub first_message_is : (h : List Event) (from : Peer) (tag : TagPick) (ctx : ℕ) →
      first_message (renumbered_all f h) (matched_pairs (renumbered_all f h)) from tag ctx
      ≡ first_message h (matched_pairs h) from tag ctx
  first_message_is h from tag ctx =
      ap (λ (found : List Pair). first_message (renumbered_all f h) found from tag ctx) (pairs_same h)
      ∙ first_message_same h (matched_pairs h) from tag ctx

  pub free_is : (h : List Event) (from n : ℕ) →
      is_free_message (renumbered_all f h) (matched_pairs (renumbered_all f h)) from n
      ≡ is_free_message h (matched_pairs h) from n
  free_is h from n =
      ap (λ (found : List Pair). is_free_message (renumbered_all f h) found from n) (pairs_same h)
      ∙ free_same h (matched_pairs h) from n

  pub claimed_is : (h : List Event) (from n : ℕ) →
      is_claimed (renumbered_all f h) (matched_pairs (renumbered_all f h)) from n
      ≡ is_claimed h (matched_pairs h) from n
  claimed_is h from n =
      ap (λ (found : List Pair). is_claimed (renumbered_all f h) found from n) (pairs_same h)
      ∙ ap (λ (b : Bool). b && not (list_any (is_of_message from n) (matched_pairs h))) (claim_same from n h)

  pub taken_same : (h : List Event) (from n : ℕ) → is_taken (renumbered_all f h) from n ≡ is_taken h from n
  taken_same h from n = ap (λ (found : List Pair). list_any (is_of_message from n) found) (pairs_same h)

  pub received_same : (h : List Event) (number : ℕ) → list_any (is_of_receive number) (matched_pairs (renumbered_all f h))
      ≡ list_any (is_of_receive number) (matched_pairs h)
  received_same h number = ap (λ (found : List Pair). list_any (is_of_receive number) found) (pairs_same h)

  -- completion
  pub pair_of_receive_same : (h : List Event) (number : ℕ) →
      pair_of_receive (renumbered_all f h) number ≡ pair_of_receive h number
  pair_of_receive_same h number = ap (λ (found : List Pair). find (is_of_receive number) found) (pairs_same h)

  here_same : (h : List Event) → ◌≡◌ {A = Pair → Bool} (is_here (renumbered_all f h)) (is_here h)
  here_same h = fun_ext (λ (p : Pair). whole_same p.arrival.env.from p.arrival.n h)

  pub complete_same : (h : List Event) (r : Request) → is_complete (renumbered_all f h) r ≡ is_complete h r
  complete_same h (Receiving number) =
      ap (λ (b : Bool). b || option_map_or (is_here (renumbered_all f h))
      (pair_of_receive (renumbered_all f h) number) false) (cancel_same number h)
      ∙ ap (λ (o : Option Pair). happened (is_cancel number) h || option_map_or (is_here (renumbered_all f h)) o false)
      (pair_of_receive_same h number)
      ∙ ap (λ (here : Pair → Bool). happened (is_cancel number) h
      || option_map_or here (pair_of_receive h number) false) (here_same h)
  complete_same h (Sending to n) =
      ap (λ (b : Bool). if b
      then happened (is_undone to n true) (renumbered_all f h)
      || (happened (is_undone to n false) (renumbered_all f h) && happened (is_out to n) (renumbered_all f h))
      else happened (is_out to n) (renumbered_all f h)) (recall_same to n h)
      ∙ ap (λ (b : Bool). if happened (is_recall to n) h
      then b || (happened (is_undone to n false) (renumbered_all f h) && happened (is_out to n) (renumbered_all f h))
      else happened (is_out to n) (renumbered_all f h)) (undone_same to n true h)
      ∙ ap (λ (b : Bool). if happened (is_recall to n) h
      then happened (is_undone to n true) h || (b && happened (is_out to n) (renumbered_all f h))
      else happened (is_out to n) (renumbered_all f h)) (undone_same to n false h)
      ∙ ap (λ (b : Bool). if happened (is_recall to n) h
      then happened (is_undone to n true) h || (happened (is_undone to n false) h && b)
      else b) (out_same to n h)

  pub result_same : (h : List Event) (r : Request) → result_of (renumbered_all f h) r ≡ result_of h r
  result_same h (Receiving number) =
      ap (λ (b : Bool). if b then Some answer.Cancelled
      else option_and_then (λ pair. if is_here (renumbered_all f h) pair then Some (shown pair) else None)
      (pair_of_receive (renumbered_all f h) number)) (cancel_same number h)
      ∙ ap (λ (here : Pair → Bool). if happened (is_cancel number) h then Some answer.Cancelled
      else option_and_then (λ pair. if here pair then Some (shown pair) else None)
      (pair_of_receive (renumbered_all f h) number)) (here_same h)
      ∙ ap (λ (o : Option Pair). if happened (is_cancel number) h then Some answer.Cancelled
      else option_and_then (λ pair. if is_here h pair then Some (shown pair) else None) o) (pair_of_receive_same h number)
  result_same h (Sending to n) =
      ap (λ (b : Bool). if b
      then Some (if happened (is_undone to n true) (renumbered_all f h) then answer.Cancelled else answer.Sent)
      else None) (complete_same h (Sending to n))
      ∙ ap (λ (b : Bool). if is_complete h (Sending to n)
      then Some (if b then answer.Cancelled else answer.Sent)
      else None) (undone_same to n true h)
