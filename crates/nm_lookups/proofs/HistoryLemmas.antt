-- What one event more does to the queues of a history.
use Rattle.std.proofs.Common.{◌≡◌, ◌≢◌, ℕ, ◌==◌, Bool, true, false, not, ◌&&◌, ◌||◌, cond, Option, Some, None}
use Rattle.std.proofs.Common.{List, [], ◌∷◌, ◌++◌, refl, sym, ◌∙◌, ap, subst, append-nil}
use Rattle.std.specs.List.{All, filter, list_any, cons_option}
use Rattle.std.specs.Option.{option_map, option_to_list}
use Rattle.std.proofs.Math.Bool.{or-false}
use Rattle.std.proofs.lemmas.Bool.{ne_eqb}
use Rattle.std.proofs.lemmas.List.Elements.{All-filter, All-weaker, filter_agree}
use Rattle.std.proofs.lemmas.List.Folds.{list_any-append}
use Rattle.nm_types.specs.declared.messages.Arrival.{Arrival}
use Rattle.nm_types.specs.declared.messages.Post as post
use Rattle.nm_history.specs.declared.events.Event.{Event}
use Rattle.nm_history.specs.declared.events.Happened.TheVariants.{Arrive, Post}
use Rattle.nm_history.specs.declared.plain.Pair.{Pair}
use Rattle.nm_history.specs.Happens.{happened, is_cancel, is_claim, is_withdraw}
use Rattle.nm_history.specs.Matching.{first_message, first_receive, is_free, is_free_message, is_of_message}
use Rattle.nm_history.specs.Matching.{is_of_receive, is_open, matched_pairs, new_pair, pair_of}
use Rattle.nm_history.specs.Sends.{arrival_of, messages, post_of, posts}
use Rattle.nm_history.proofs.MatchingLemmas.{matched_pairs-push}
use Rattle.nm_history.proofs.OnceLemmas.{eqb_self}
use Rattle.nm_match.specs.Deeds.{is_known_message, is_known_receive, is_message}
use Rattle.nm_match.proofs.ListLemmas.{filter_none}
use Rattle.nm_match.proofs.PushLemmas.{closes, free_messages-push, is_free-push, is_open-push}
use Rattle.nm_match.proofs.PushLemmas.{open_receives-push, takes}
use Rattle.nm_match.proofs.TurnLemmas.{others_message, others_number}
use Rattle.nm_lookups.specs.Queues.{free_messages, is_closed, is_gone, open_receives, posted_after_arrival}
use Rattle.nm_lookups.specs.Queues.{posted_after_post, unexpected_after_arrival, unexpected_after_post}
use Rattle.nm_lookups.specs.Queues.{without_message, without_receive}
use Rattle.nm_lookups.proofs.MatcherLemmas.{both_ways, other_name}
use Rattle.nm_types.proofs.TruthLemmas.{or_mix}
use Rattle.nm_history.proofs.AppendLemmas.{happened-push}

-- the pairs that an event makes
abbrev pub made : List Event → Event → List Pair
made h e = option_to_list (new_pair h (matched_pairs h) e.what)

three_apart : (x y p q u v : Bool) → ((x || y) || (p || q) || (u || v)) ≡ ((x || p || u) || (y || q || v))
three_apart true y p q u v = refl
three_apart false true true q u v = refl
three_apart false true false q true v = refl
three_apart false true false q false v = refl
three_apart false false true q u v = refl
three_apart false false false true true v = refl
three_apart false false false true false v = refl
three_apart false false false false true v = refl
three_apart false false false false false v = refl

-- a receive is closed after the event where it was before, or the event closes it
pub is_closed-push : (h : List Event) (e : Event) (number : ℕ) →
    is_closed (h ++ e ∷ []) number ≡ (is_closed h number || closes e.what (made h e) number)
is_closed-push h e number =
    rw (
      matched_pairs-push h e,
      list_any-append (is_of_receive number) (matched_pairs h) (made h e),
      happened-push (is_cancel number) h e,
    )
    (or_mix (list_any (is_of_receive number) (matched_pairs h)) (list_any (is_of_receive number) (made h e))
    (happened (is_cancel number) h) (is_cancel number e.what))

-- a message is gone after the event where it was before, or the event takes it
pub is_gone-push : (h : List Event) (e : Event) (from n : ℕ) →
    is_gone (h ++ e ∷ []) from n ≡ (is_gone h from n || takes e.what (made h e) from n)
is_gone-push h e from n =
    rw (
      matched_pairs-push h e,
      list_any-append (is_of_message from n) (matched_pairs h) (made h e),
      happened-push (is_claim from n) h e,
      happened-push (is_withdraw from n true) h e,
    )
    (three_apart (list_any (is_of_message from n) (matched_pairs h)) (list_any (is_of_message from n) (made h e))
    (happened (is_claim from n) h) (is_claim from n e.what)
    (happened (is_withdraw from n true) h) (is_withdraw from n true e.what))

not_either : (x y : Bool) → (not x && not y) ≡ not (x || y)
not_either true y = refl
not_either false y = refl

not_any : (x y z : Bool) → (not x && not y && not z) ≡ not (x || y || z)
not_any true y z = refl
not_any false true z = refl
not_any false false z = refl

-- a receive is open where it is not closed, and a message is free where it is not gone
pub is_open-closed : (h : List Event) (p : post.Post) → is_open h (matched_pairs h) p ≡ not (is_closed h p.number)
is_open-closed h p = not_either (list_any (is_of_receive p.number) (matched_pairs h)) (happened (is_cancel p.number) h)

pub is_free-gone : (h : List Event) (a : Arrival) → is_free h (matched_pairs h) a ≡ not (is_gone h a.env.from a.n)
unfolding is_free_message
is_free-gone h a =
    not_any (list_any (is_of_message a.env.from a.n) (matched_pairs h)) (happened (is_claim a.env.from a.n) h)
    (happened (is_withdraw a.env.from a.n true) h)

-- one event more, which makes these pairs
module _ (h : List Event) (e : Event) (more : List Pair) (is : made h e ≡ more) where
  open-push : open_receives (h ++ e ∷ [])
      ≡ filter (λ p. not (closes e.what more p.number)) (open_receives h)
      ++ filter (is_open (h ++ e ∷ []) (matched_pairs h ++ more)) (cons_option (post_of e.what) [])
  open-push =
      subst (λ (ms : List Pair). open_receives (h ++ e ∷ [])
      ≡ filter (λ p. not (closes e.what ms p.number)) (open_receives h)
      ++ filter (is_open (h ++ e ∷ []) (matched_pairs h ++ ms)) (cons_option (post_of e.what) [])) is
      (subst (λ (found : List Pair). filter (is_open (h ++ e ∷ []) found) (posts (h ++ e ∷ []))
      ≡ filter (λ p. not (closes e.what (made h e) p.number)) (open_receives h)
      ++ filter (is_open (h ++ e ∷ []) (matched_pairs h ++ made h e)) (cons_option (post_of e.what) []))
      (sym (matched_pairs-push h e)) (open_receives-push h e (matched_pairs h) (made h e)))

  free-push : free_messages (h ++ e ∷ [])
      ≡ filter (λ a. not (takes e.what more a.env.from a.n)) (free_messages h)
      ++ filter (is_free (h ++ e ∷ []) (matched_pairs h ++ more)) (cons_option (arrival_of e.what) [])
  free-push =
      subst (λ (ms : List Pair). free_messages (h ++ e ∷ [])
      ≡ filter (λ a. not (takes e.what ms a.env.from a.n)) (free_messages h)
      ++ filter (is_free (h ++ e ∷ []) (matched_pairs h ++ ms)) (cons_option (arrival_of e.what) [])) is
      (subst (λ (found : List Pair). filter (is_free (h ++ e ∷ []) found) (messages (h ++ e ∷ []))
      ≡ filter (λ a. not (takes e.what (made h e) a.env.from a.n)) (free_messages h)
      ++ filter (is_free (h ++ e ∷ []) (matched_pairs h ++ made h e)) (cons_option (arrival_of e.what) []))
      (sym (matched_pairs-push h e)) (free_messages-push h e (matched_pairs h) (made h e)))

  -- what it closes and takes
  pub closed-push : (number : ℕ) → is_closed (h ++ e ∷ []) number ≡ (is_closed h number || closes e.what more number)
  closed-push number = is_closed-push h e number
      ∙ ap (λ (ms : List Pair). is_closed h number || closes e.what ms number) is

  pub gone-push : (from n : ℕ) → is_gone (h ++ e ∷ []) from n ≡ (is_gone h from n || takes e.what more from n)
  gone-push from n = is_gone-push h e from n ∙ ap (λ (ms : List Pair). is_gone h from n || takes e.what ms from n) is

  -- an event that posts nothing leaves those open that it does not close
  pub open_left : (number : ℕ) → post_of e.what ≡ None → ((m : ℕ) → closes e.what more m ≡ (number == m)) →
      open_receives (h ++ e ∷ []) ≡ without_receive number (open_receives h)
  open_left number none closed =
      open-push
      ∙ ap (λ (o : Option post.Post). filter (λ p. not (closes e.what more p.number)) (open_receives h)
      ++ filter (is_open (h ++ e ∷ []) (matched_pairs h ++ more)) (cons_option o [])) none
      ∙ append-nil _
      ∙ filter_agree (λ p. not (closes e.what more p.number)) (λ p. not (number == p.number))
      (λ p. ap not (closed p.number)) (open_receives h)

  pub open_same : post_of e.what ≡ None →
      All (λ p. closes e.what more p.number ≡ false) (open_receives h) →
      open_receives (h ++ e ∷ []) ≡ open_receives h
  open_same none others =
      open-push
      ∙ ap (λ (o : Option post.Post). filter (λ p. not (closes e.what more p.number)) (open_receives h)
      ++ filter (is_open (h ++ e ∷ []) (matched_pairs h ++ more)) (cons_option o [])) none
      ∙ append-nil _
      ∙ filter_none (λ p. closes e.what more p.number) (open_receives h) others

  -- an event that brings nothing leaves those free that it does not take
  pub free_left : (from n : ℕ) → arrival_of e.what ≡ None →
      ((i m : ℕ) → takes e.what more i m ≡ (from == i && n == m)) →
      free_messages (h ++ e ∷ []) ≡ without_message from n (free_messages h)
  free_left from n none taken =
      free-push
      ∙ ap (λ (o : Option Arrival). filter (λ a. not (takes e.what more a.env.from a.n)) (free_messages h)
      ++ filter (is_free (h ++ e ∷ []) (matched_pairs h ++ more)) (cons_option o [])) none
      ∙ append-nil _
      ∙ filter_agree (λ a. not (takes e.what more a.env.from a.n)) (λ a. not (is_message from n a))
      (λ a. ap not (taken a.env.from a.n ∙ both_ways from n a.env.from a.n)) (free_messages h)

  pub free_same : arrival_of e.what ≡ None →
      All (λ a. takes e.what more a.env.from a.n ≡ false) (free_messages h) →
      free_messages (h ++ e ∷ []) ≡ free_messages h
  free_same none others =
      free-push
      ∙ ap (λ (o : Option Arrival). filter (λ a. not (takes e.what more a.env.from a.n)) (free_messages h)
      ++ filter (is_free (h ++ e ∷ []) (matched_pairs h ++ more)) (cons_option o [])) none
      ∙ append-nil _
      ∙ filter_none (λ a. takes e.what more a.env.from a.n) (free_messages h) others

-- no open receive has a new number, and no free message a new name
pub others_open : (h : List Event) (number : ℕ) → is_known_receive h number ≡ false →
    All (λ p. (number == p.number) ≡ false) (open_receives h)
others_open h number new =
    All-filter (is_open h (matched_pairs h)) (λ p. (number == p.number) ≡ false) (posts h)
    (All-weaker (λ p. p.number ≢ number) (λ p. (number == p.number) ≡ false)
    (λ p other. ne_eqb number p.number (λ same. other (sym same))) (posts h) (others_number h number new))

pub others_free : (h : List Event) (a : Arrival) → is_known_message h a.env.from a.n ≡ false →
    All (λ b. is_message a.env.from a.n b ≡ false) (free_messages h)
others_free h a new =
    All-filter (is_free h (matched_pairs h)) (λ b. is_message a.env.from a.n b ≡ false) (messages h)
    (All-weaker (λ b. b.env.from ≡ a.env.from → b.n ≢ a.n) (λ b. is_message a.env.from a.n b ≡ false)
    (λ b other. other_name a.env.from a.n b other) (messages h) (others_message h a.env.from a.n new))

last_or_not : {X : Type 0} (c : Bool) (xs : List X) (x : X) →
    xs ++ cond (not c && not false) (x ∷ []) [] ≡ cond c xs (xs ++ x ∷ [])
last_or_not true xs x = append-nil xs
last_or_not false xs x = refl

last_not : {X : Type 0} (b : Bool) (xs : List X) (x : X) → xs ++ cond (b && not true) (x ∷ []) [] ≡ xs
last_not true xs x = append-nil xs
last_not false xs x = append-nil xs

-- a receive is posted, which takes this message, or none
module _ (h : List Event) (stamp line : ℕ) (p : post.Post) where
  pub open_posted : (taken : Option Arrival) → is_known_receive h p.number ≡ false →
      first_message h (matched_pairs h) p.from p.tag p.ctx ≡ taken →
      open_receives (h ++ record { stamp = stamp; what = Post p line } ∷ [])
      ≡ posted_after_post p (is_closed h p.number) (open_receives h) taken
  open_posted None new none =
      let e : Event = record { stamp = stamp; what = Post p line } in
      open-push h e [] (ap (λ (o : Option Arrival). option_to_list (option_map (λ a. pair_of p a) o)) none)
      ∙ ap (λ (ps : List post.Post). ps ++ filter (is_open (h ++ e ∷ []) (matched_pairs h ++ [])) (p ∷ []))
      (filter_none (λ (q : post.Post). closes (Post p line) [] q.number) (open_receives h) (λ k d inside. refl))
      ∙ ap (λ b. open_receives h ++ cond b (p ∷ []) [])
      (is_open-push h e (matched_pairs h) [] p ∙ ap (λ b. b && not false) (is_open-closed h p))
      ∙ last_or_not (is_closed h p.number) (open_receives h) p
  open_posted (Some a) new some =
      let e : Event = record { stamp = stamp; what = Post p line } in
      let more : List Pair = pair_of p a ∷ [] in
      let closed : closes (Post p line) more p.number ≡ true = rw (eqb_self p.number) refl in
      open-push h e more (ap (λ (o : Option Arrival). option_to_list (option_map (λ a. pair_of p a) o)) some)
      ∙ ap (λ (ps : List post.Post). ps ++ filter (is_open (h ++ e ∷ []) (matched_pairs h ++ more)) (p ∷ []))
      (filter_none (λ (q : post.Post). closes (Post p line) more q.number) (open_receives h)
      (All-weaker (λ (q : post.Post). (p.number == q.number) ≡ false)
      (λ (q : post.Post). closes (Post p line) more q.number ≡ false)
      (λ q other. or-false _ ∙ or-false _ ∙ other) (open_receives h) (others_open h p.number new)))
      ∙ ap (λ b. open_receives h ++ cond b (p ∷ []) [])
      (is_open-push h e (matched_pairs h) more p ∙ ap (λ b. is_open h (matched_pairs h) p && not b) closed)
      ∙ last_not (is_open h (matched_pairs h) p) (open_receives h) p

  pub free_posted : (taken : Option Arrival) →
      first_message h (matched_pairs h) p.from p.tag p.ctx ≡ taken →
      free_messages (h ++ record { stamp = stamp; what = Post p line } ∷ [])
      ≡ unexpected_after_post (free_messages h) taken
  free_posted None none =
      free_same h (record { stamp = stamp; what = Post p line }) []
      (ap (λ (o : Option Arrival). option_to_list (option_map (λ a. pair_of p a) o)) none) refl (λ k d inside. refl)
  free_posted (Some a) some =
      free_left h (record { stamp = stamp; what = Post p line }) (pair_of p a ∷ [])
      (ap (λ (o : Option Arrival). option_to_list (option_map (λ a. pair_of p a) o)) some) a.env.from a.n refl
      (λ i m. or-false _ ∙ or-false _ ∙ or-false _)

-- a message comes, which goes to this receive, or to none
module _ (h : List Event) (stamp : ℕ) (a : Arrival) where
  pub open_arrived : (taken : Option post.Post) → first_receive h (matched_pairs h) a.env ≡ taken →
      open_receives (h ++ record { stamp = stamp; what = Arrive a } ∷ [])
      ≡ posted_after_arrival (open_receives h) (option_map (λ p. p.number) taken)
  open_arrived None none =
      open_same h (record { stamp = stamp; what = Arrive a }) []
      (ap (λ (o : Option post.Post). option_to_list (option_map (λ p. pair_of p a) o)) none) refl (λ k d inside. refl)
  open_arrived (Some p) some =
      open_left h (record { stamp = stamp; what = Arrive a }) (pair_of p a ∷ [])
      (ap (λ (o : Option post.Post). option_to_list (option_map (λ p. pair_of p a) o)) some) p.number refl
      (λ m. or-false _ ∙ or-false _)

  pub free_arrived : (taken : Option post.Post) → is_known_message h a.env.from a.n ≡ false →
      first_receive h (matched_pairs h) a.env ≡ taken →
      free_messages (h ++ record { stamp = stamp; what = Arrive a } ∷ [])
      ≡ unexpected_after_arrival a (is_gone h a.env.from a.n) (free_messages h) (option_map (λ p. p.number) taken)
  free_arrived None new none =
      let e : Event = record { stamp = stamp; what = Arrive a } in
      free-push h e [] (ap (λ (o : Option post.Post). option_to_list (option_map (λ p. pair_of p a) o)) none)
      ∙ ap (λ (ms : List Arrival). ms ++ filter (is_free (h ++ e ∷ []) (matched_pairs h ++ [])) (a ∷ []))
      (filter_none (λ (b : Arrival). takes (Arrive a) [] b.env.from b.n) (free_messages h) (λ k d inside. refl))
      ∙ ap (λ b. free_messages h ++ cond b (a ∷ []) [])
      (is_free-push h e (matched_pairs h) [] a ∙ ap (λ b. b && not false) (is_free-gone h a))
      ∙ last_or_not (is_gone h a.env.from a.n) (free_messages h) a
  free_arrived (Some p) new some =
      let e : Event = record { stamp = stamp; what = Arrive a } in
      let more : List Pair = pair_of p a ∷ [] in
      let taken : takes (Arrive a) more a.env.from a.n ≡ true = rw (eqb_self a.env.from, eqb_self a.n) refl in
      free-push h e more (ap (λ (o : Option post.Post). option_to_list (option_map (λ p. pair_of p a) o)) some)
      ∙ ap (λ (ms : List Arrival). ms ++ filter (is_free (h ++ e ∷ []) (matched_pairs h ++ more)) (a ∷ []))
      (filter_none (λ (b : Arrival). takes (Arrive a) more b.env.from b.n) (free_messages h)
      (All-weaker (λ (b : Arrival). is_message a.env.from a.n b ≡ false)
      (λ (b : Arrival). takes (Arrive a) more b.env.from b.n ≡ false)
      (λ b other. or-false _ ∙ or-false _ ∙ or-false _ ∙ both_ways a.env.from a.n b.env.from b.n ∙ other)
      (free_messages h) (others_free h a new)))
      ∙ ap (λ b. free_messages h ++ cond b (a ∷ []) [])
      (is_free-push h e (matched_pairs h) more a ∙ ap (λ b. is_free h (matched_pairs h) a && not b) taken)
      ∙ last_not (is_free h (matched_pairs h) a) (free_messages h) a
