-- Matching is the same on a history and on the deeds that it stands for.
use Rattle.std.proofs.Common.{◌≡◌, ℕ, ◌==◌, Bool, true, false, not, ◌&&◌, ◌||◌, cond, Option, Some, None}
use Rattle.std.proofs.Common.{List, [], ◌∷◌, ◌++◌, refl, sym, ◌∙◌, ap, subst, append-nil, append_assoc}
use Rattle.std.proofs.Math.Bool.{and-false, or-false}
use Rattle.std.specs.Prelude.{fold}
use Rattle.std.specs.List.{find, list_any}
use Rattle.std.specs.Option.{option_map, option_to_list}
use Rattle.std.proofs.lemmas.Bool.{eqb-true}
use Rattle.std.proofs.lemmas.List.Sums.{fold-append}
use Rattle.std.proofs.lemmas.List.Folds.{list_any-append}
use Rattle.nm_types.specs.declared.messages.Arrival.{Arrival}
use Rattle.nm_types.specs.declared.messages.Envelope.{Envelope}
use Rattle.nm_types.specs.declared.messages.Peer.{Peer}
use Rattle.nm_types.specs.declared.messages.TagPick.{TagPick}
use Rattle.nm_types.specs.declared.messages.Post as post
use Rattle.nm_history.specs.declared.events.Event.{Event}
use Rattle.nm_history.specs.declared.events.Happened.{Happened}
use Rattle.nm_history.specs.declared.events.Happened.TheVariants.{Post, Arrive, Cancel, Withdraw, Claim}
use Rattle.nm_history.specs.declared.events.Happened.TheVariants.{Match}
use Rattle.nm_history.specs.declared.plain.Pair.{Pair}
use Rattle.nm_history.specs.Sends.{arrival_of, messages, message_of, post_of, posts, receive_of, receives}
use Rattle.nm_history.specs.Selection.{matches}
use Rattle.nm_history.specs.Happens.{happened, is_cancel, is_claim, is_withdraw}
use Rattle.nm_history.specs.Matching.{first_message, first_receive, is_claimed, is_free, is_free_message}
use Rattle.nm_history.specs.Matching.{is_of_message, is_of_receive, is_open, matched_pairs, new_pair}
use Rattle.nm_history.specs.Matching.{pair_of, pair_of_claimed}
use Rattle.nm_history.proofs.MatchingLemmas.{matched_pairs-push}
use Rattle.nm_history.proofs.OnceLemmas.{messages-push, posts-push, receives-push}
use Rattle.nm_match.specs.declared.deeds.Deed.{Deed}
use Rattle.nm_match.specs.declared.deeds.Deed.TheVariants as deed
use Rattle.nm_match.specs.Deeds.{Represents, deeds_after, deeds_of, event_of, history_of, is_known_message}
use Rattle.nm_match.specs.Deeds.{is_known_receive, is_message}
use Rattle.nm_match.proofs.DeedLemmas.{history_of-push}
use Rattle.nm_types.proofs.ListLemmas.{find_agree}
use Rattle.nm_types.proofs.TruthLemmas.{and_left}
use Rattle.nm_history.proofs.AppendLemmas.{happened-push}

-- two histories, with their pairs, are the same to matching
record Alike (h g : List Event) (found made : List Pair) : Type 0 where
  posts_same : posts h ≡ posts g
  messages_same : messages h ≡ messages g
  receives_same : receives h ≡ receives g
  cancels_same : (number : ℕ) → happened (is_cancel number) h ≡ happened (is_cancel number) g
  claims_same : (from n : ℕ) → happened (is_claim from n) h ≡ happened (is_claim from n) g
  withdrawals_same : (from n : ℕ) → happened (is_withdraw from n true) h
      ≡ happened (is_withdraw from n true) g
  paired_same : (number : ℕ) → list_any (is_of_receive number) found ≡ list_any (is_of_receive number) made
  taken_same : (from n : ℕ) → list_any (is_of_message from n) found ≡ list_any (is_of_message from n) made

module _ {h g : List Event} {found made : List Pair} (alike : Alike h g found made) where
  is_open-alike : (p : post.Post) → is_open h found p ≡ is_open g made p
  is_open-alike p = rw (alike.paired_same p.number, alike.cancels_same p.number) refl

  is_free_message-alike : (from n : ℕ) → is_free_message h found from n ≡ is_free_message g made from n
  unfolding is_free_message
  is_free_message-alike from n = rw (
    alike.taken_same from n,
    alike.claims_same from n,
    alike.withdrawals_same from n,
  ) refl

  is_claimed-alike : (from n : ℕ) → is_claimed h found from n ≡ is_claimed g made from n
  is_claimed-alike from n = rw (alike.taken_same from n, alike.claims_same from n) refl

  first_message-alike : (from : Peer) (tag : TagPick) (ctx : ℕ) →
      first_message h found from tag ctx ≡ first_message g made from tag ctx
  first_message-alike from tag ctx =
      find_agree (λ a. matches from tag ctx a.env && is_free h found a)
      (λ a. matches from tag ctx a.env && is_free g made a)
      (λ a. ap (λ b. matches from tag ctx a.env && b) (is_free_message-alike a.env.from a.n)) (messages h)
      ∙ ap (λ (as' : List Arrival). find
      (λ a. matches from tag ctx a.env && is_free g made a) as') alike.messages_same

  first_receive-alike : (env : Envelope) → first_receive h found env ≡ first_receive g made env
  first_receive-alike env =
      find_agree (λ p. matches p.from p.tag p.ctx env && is_open h found p)
      (λ p. matches p.from p.tag p.ctx env && is_open g made p)
      (λ p. ap (λ b. matches p.from p.tag p.ctx env && b) (is_open-alike p)) (posts h)
      ∙ ap (λ (ps : List post.Post). find
      (λ p. matches p.from p.tag p.ctx env && is_open g made p) ps) alike.posts_same

  message_of-alike : (from n : ℕ) → message_of h from n ≡ message_of g from n
  message_of-alike from n = ap (λ (as' : List Arrival).
      find (λ a. a.env.from == from && a.n == n) as') alike.messages_same

  -- an event more of both, that is the same to matching
  alike-push : (e f : Event) (more others : List Pair) → post_of e.what ≡ post_of f.what →
      arrival_of e.what ≡ arrival_of f.what → receive_of e.what ≡ receive_of f.what →
      ((number : ℕ) → is_cancel number e.what ≡ is_cancel number f.what) →
      ((from n : ℕ) → is_claim from n e.what ≡ is_claim from n f.what) →
      ((from n : ℕ) → is_withdraw from n true e.what ≡ is_withdraw from n true f.what) →
      ((number : ℕ) → list_any (is_of_receive number) more ≡ list_any (is_of_receive number) others) →
      ((from n : ℕ) → list_any (is_of_message from n) more ≡ list_any (is_of_message from n) others) →
      Alike (h ++ e ∷ []) (g ++ f ∷ []) (found ++ more) (made ++ others)
  alike-push e f more others post arrival receive cancels claims withdrawals paired taken = record {
    posts_same = rw (posts-push h e, posts-push g f, alike.posts_same, post) refl;
    messages_same = rw (messages-push h e, messages-push g f, alike.messages_same, arrival) refl;
    receives_same = rw (receives-push h e, receives-push g f, alike.receives_same, receive) refl;
    cancels_same = λ number. rw (
      happened-push (is_cancel number) h e,
      happened-push (is_cancel number) g f,
      alike.cancels_same number,
      cancels number,
    ) refl;
    claims_same = λ from n. rw (
      happened-push (is_claim from n) h e,
      happened-push (is_claim from n) g f,
      alike.claims_same from n,
      claims from n,
    ) refl;
    withdrawals_same = λ from n. rw (
      happened-push (is_withdraw from n true) h e,
      happened-push (is_withdraw from n true) g f,
      alike.withdrawals_same from n,
      withdrawals from n,
    ) refl;
    paired_same = λ number. rw (
      list_any-append (is_of_receive number) found more,
      list_any-append (is_of_receive number) made others,
      alike.paired_same number,
      paired number,
    ) refl;
    taken_same = λ from n. rw (
      list_any-append (is_of_message from n) found more,
      list_any-append (is_of_message from n) made others,
      alike.taken_same from n,
      taken from n,
    ) refl;
  }

  -- an event more of the first, that changes nothing to matching
  alike-stay : (e : Event) → post_of e.what ≡ None → arrival_of e.what ≡ None → receive_of e.what ≡ None →
      ((number : ℕ) → (happened (is_cancel number) g || is_cancel number e.what)
      ≡ happened (is_cancel number) g) → ((from n : ℕ) → is_claim from n e.what ≡ false) →
      ((from n : ℕ) → is_withdraw from n true e.what ≡ false) →
      Alike (h ++ e ∷ []) g (found ++ []) made
  alike-stay e post arrival receive cancels claims withdrawals = record {
    posts_same = rw (posts-push h e, alike.posts_same, post) (append-nil (posts g));
    messages_same = rw (messages-push h e, alike.messages_same, arrival) (append-nil (messages g));
    receives_same = rw (receives-push h e, alike.receives_same, receive) (append-nil (receives g));
    cancels_same = λ number. rw (happened-push (is_cancel number) h e, alike.cancels_same number)
        (cancels number);
    claims_same = λ from n. rw (happened-push (is_claim from n) h e, alike.claims_same from n, claims from n)
        (or-false _);
    withdrawals_same = λ from n. rw (
      happened-push (is_withdraw from n true) h e,
      alike.withdrawals_same from n,
      withdrawals from n,
    ) (or-false _);
    paired_same = λ number. rw (append-nil found) (alike.paired_same number);
    taken_same = λ from n. rw (append-nil found) (alike.taken_same from n);
  }

-- a history is the same to matching as these deeds
abbrev AlikeOf : List Event → List Deed → Type 0
AlikeOf h deeds = Alike h (history_of deeds) (matched_pairs h) (matched_pairs (history_of deeds))

pushed : (h : List Event) (deeds : List Deed) (e : Event) (d : Deed) →
    Alike (h ++ e ∷ []) (history_of deeds ++ event_of d ∷ [])
    (matched_pairs h ++ option_to_list (new_pair h (matched_pairs h) e.what))
    (matched_pairs (history_of deeds) ++ option_to_list
    (new_pair (history_of deeds) (matched_pairs (history_of deeds)) (event_of d).what)) →
    AlikeOf (h ++ e ∷ []) (deeds ++ d ∷ [])
pushed h deeds e d alike = rw (
  history_of-push deeds d,
  matched_pairs-push h e,
  matched_pairs-push (history_of deeds) (event_of d),
) alike

stayed : (h : List Event) (deeds : List Deed) (e : Event) → new_pair h (matched_pairs h) e.what ≡ None →
    Alike (h ++ e ∷ []) (history_of deeds) (matched_pairs h ++ []) (matched_pairs (history_of deeds)) →
    AlikeOf (h ++ e ∷ []) deeds
stayed h deeds e none alike = rw (matched_pairs-push h e, none) alike

received_same : (m number cap : ℕ) (o : Option Arrival) →
    list_any (is_of_receive m) (option_to_list (option_map (λ a. pair_of_claimed number cap a) o))
    ≡ list_any (is_of_receive m) (option_to_list (option_map (λ a. pair_of_claimed number 0 a) o))
received_same m number cap None = refl
received_same m number cap (Some a) = refl

taken_same : (i k number cap : ℕ) (o : Option Arrival) →
    list_any (is_of_message i k) (option_to_list (option_map (λ a. pair_of_claimed number cap a) o))
    ≡ list_any (is_of_message i k) (option_to_list (option_map (λ a. pair_of_claimed number 0 a) o))
taken_same i k number cap None = refl
taken_same i k number cap (Some a) = refl

or_again : (was new : Bool) → (new ≡ true → was ≡ true) → (was || new) ≡ was
or_again true new again = refl
or_again false true again = sym (again refl)
or_again false false again = refl

cancel_alike : (h : List Event) (deeds : List Deed) (stamp number : ℕ) (done again : Bool) →
    happened (is_cancel number) (history_of deeds) ≡ again → AlikeOf h deeds →
    AlikeOf (h ++ record { stamp = stamp; what = Cancel number done } ∷ [])
    (cond (done && not again) (deeds ++ deed.Cancel number ∷ []) deeds)
cancel_alike h deeds stamp number true false first alike =
    pushed h deeds (record { stamp = stamp; what = Cancel number true }) (deed.Cancel number)
    (alike-push alike (record { stamp = stamp; what = Cancel number true })
    (event_of (deed.Cancel number)) [] [] refl refl refl (λ _. refl) (λ _ _. refl) (λ _ _. refl)
    (λ _. refl) (λ _ _. refl))
cancel_alike h deeds stamp number true true again alike =
    stayed h deeds (record { stamp = stamp; what = Cancel number true }) refl
    (alike-stay alike (record { stamp = stamp; what = Cancel number true }) refl refl refl
    (λ m. or_again _ _ (λ this. subst (λ k. happened (is_cancel k) (history_of deeds) ≡ true)
    (eqb-true number m (and_left (number == m) true this)) again)) (λ _ _. refl) (λ _ _. refl))
cancel_alike h deeds stamp number false again _ alike =
    stayed h deeds (record { stamp = stamp; what = Cancel number false }) refl
    (alike-stay alike (record { stamp = stamp; what = Cancel number false }) refl refl refl
    (λ m. rw (and-false (number == m)) (or-false _)) (λ _ _. refl) (λ _ _. refl))

withdraw_alike : (h : List Event) (deeds : List Deed) (stamp from n : ℕ) (done : Bool) → AlikeOf h deeds →
    AlikeOf (h ++ record { stamp = stamp; what = Withdraw from n done } ∷ [])
    (cond done (deeds ++ deed.Withdraw from n ∷ []) deeds)
withdraw_alike h deeds stamp from n true alike =
    pushed h deeds (record { stamp = stamp; what = Withdraw from n true }) (deed.Withdraw from n)
    (alike-push alike (record { stamp = stamp; what = Withdraw from n true })
    (event_of (deed.Withdraw from n)) [] [] refl refl refl (λ _. refl) (λ _ _. refl) (λ _ _. refl)
    (λ _. refl) (λ _ _. refl))
withdraw_alike h deeds stamp from n false alike =
    stayed h deeds (record { stamp = stamp; what = Withdraw from n false }) refl
    (alike-stay alike (record { stamp = stamp; what = Withdraw from n false }) refl refl refl
    (λ _. or-false _) (λ _ _. refl) (λ i k. and-false (from == i && n == k)))

step_alike : (h : List Event) (deeds : List Deed) (stamp : ℕ) (what : Happened) → AlikeOf h deeds →
    AlikeOf (h ++ record { stamp = stamp; what = what } ∷ []) (deeds_after deeds what)
step_alike h deeds stamp (Post p line) alike =
    let same = first_message-alike alike p.from p.tag p.ctx in
    pushed h deeds (record { stamp = stamp; what = Post p line }) (deed.Post p)
    (alike-push alike (record { stamp = stamp; what = Post p line })
    (event_of (deed.Post p)) _ _ refl refl refl (λ _. refl) (λ _ _. refl) (λ _ _. refl)
    (λ m. ap (λ (o : Option Arrival). list_any (is_of_receive m)
    (option_to_list (option_map (λ a. pair_of p a) o))) same)
    (λ i k. ap (λ (o : Option Arrival). list_any (is_of_message i k)
    (option_to_list (option_map (λ a. pair_of p a) o))) same))
step_alike h deeds stamp (Arrive a) alike =
    let same = first_receive-alike alike a.env in
    pushed h deeds (record { stamp = stamp; what = Arrive a }) (deed.Arrive a)
    (alike-push alike (record { stamp = stamp; what = Arrive a })
    (event_of (deed.Arrive a)) _ _ refl refl refl (λ _. refl) (λ _ _. refl) (λ _ _. refl)
    (λ m. ap (λ (o : Option post.Post). list_any (is_of_receive m)
    (option_to_list (option_map (λ p. pair_of p a) o))) same)
    (λ i k. ap (λ (o : Option post.Post). list_any (is_of_message i k)
    (option_to_list (option_map (λ p. pair_of p a) o))) same))
step_alike h deeds stamp (Match number from n cap line) alike =
    let same = message_of-alike alike from n in
    pushed h deeds (record { stamp = stamp; what = Match number from n cap line }) (deed.Match number from n)
    (alike-push alike (record { stamp = stamp; what = Match number from n cap line })
    (event_of (deed.Match number from n)) _ _ refl refl refl (λ _. refl) (λ _ _. refl) (λ _ _. refl)
    (λ m. received_same m number cap (message_of h from n)
    ∙ ap (λ (o : Option Arrival). list_any (is_of_receive m)
    (option_to_list (option_map (λ a. pair_of_claimed number 0 a) o))) same)
    (λ i k. taken_same i k number cap (message_of h from n)
    ∙ ap (λ (o : Option Arrival). list_any (is_of_message i k)
    (option_to_list (option_map (λ a. pair_of_claimed number 0 a) o))) same))
step_alike h deeds stamp (Cancel number done) alike =
    cancel_alike h deeds stamp number done (happened (is_cancel number) (history_of deeds)) refl alike
step_alike h deeds stamp (Withdraw from n done) alike = withdraw_alike h deeds stamp from n done alike
step_alike h deeds stamp (Claim from n line) alike =
    pushed h deeds (record { stamp = stamp; what = Claim from n line }) (deed.Claim from n)
    (alike-push alike (record { stamp = stamp; what = Claim from n line })
    (event_of (deed.Claim from n)) [] [] refl refl refl (λ _. refl) (λ _ _. refl) (λ _ _. refl)
    (λ _. refl) (λ _ _. refl))
step_alike h deeds stamp what alike =
    stayed h deeds (record { stamp = stamp; what = what }) refl
    (alike-stay alike (record { stamp = stamp; what = what }) refl refl refl (λ _. or-false _) (λ _ _. refl)
    (λ _ _. refl))

alike_after : (h : List Event) (deeds : List Deed) (events : List Event) → AlikeOf h deeds →
    AlikeOf (h ++ events) (fold (λ deeds e. deeds_after deeds e.what) deeds events)
alike_after h deeds [] alike = subst (λ (k : List Event). AlikeOf k deeds) (sym (append-nil h)) alike
alike_after h deeds (e ∷ events) alike =
    subst (λ (k : List Event). AlikeOf k (fold (λ deeds e. deeds_after deeds e.what)
    (deeds_after deeds e.what) events)) (append_assoc h (e ∷ []) events)
    (alike_after (h ++ e ∷ []) (deeds_after deeds e.what) events (step_alike h deeds e.stamp e.what alike))

-- a history is the same to matching as its deeds
alike_deeds : (h : List Event) → AlikeOf h (deeds_of h)
unfolding deeds_of history_of matched_pairs
alike_deeds h = alike_after [] [] h (record {
  posts_same = refl;
  messages_same = refl;
  receives_same = refl;
  cancels_same = λ _. refl;
  claims_same = λ _ _. refl;
  withdrawals_same = λ _ _. refl;
  paired_same = λ _. refl;
  taken_same = λ _ _. refl;
})

-- the deeds of one event more
deeds_of-push : (h : List Event) (e : Event) → deeds_of (h ++ e ∷ []) ≡ deeds_after (deeds_of h) e.what
unfolding deeds_of
deeds_of-push h e = fold-append (λ (deeds : List Deed) (e : Event). deeds_after deeds e.what) [] h (e ∷ [])

-- a history that stands for these deeds, with one event more
pub stands_push : (deeds : List Deed) (h : List Event) (e : Event) → Represents deeds h →
    Represents (deeds_after deeds e.what) (h ++ e ∷ [])
stands_push deeds h e stands = ap (λ (ds : List Deed). deeds_after ds e.what) stands ∙ sym (deeds_of-push h e)

module _ (deeds : List Deed) (h : List Event) (stands : Represents deeds h) where
  alike_stands : AlikeOf h deeds
  alike_stands = rw stands (alike_deeds h)

  pub first_message-stands : (from : Peer) (tag : TagPick) (ctx : ℕ) →
      first_message h (matched_pairs h) from tag ctx
      ≡ first_message (history_of deeds) (matched_pairs (history_of deeds)) from tag ctx
  first_message-stands = first_message-alike alike_stands

  pub first_receive-stands : (env : Envelope) → first_receive h (matched_pairs h) env
      ≡ first_receive (history_of deeds) (matched_pairs (history_of deeds)) env
  first_receive-stands = first_receive-alike alike_stands

  pub is_free_message-stands : (from n : ℕ) → is_free_message h (matched_pairs h) from n
      ≡ is_free_message (history_of deeds) (matched_pairs (history_of deeds)) from n
  is_free_message-stands = is_free_message-alike alike_stands

  pub is_claimed-stands : (from n : ℕ) → is_claimed h (matched_pairs h) from n
      ≡ is_claimed (history_of deeds) (matched_pairs (history_of deeds)) from n
  is_claimed-stands = is_claimed-alike alike_stands

  pub is_open-stands : (p : post.Post) → is_open h (matched_pairs h) p
      ≡ is_open (history_of deeds) (matched_pairs (history_of deeds)) p
  is_open-stands = is_open-alike alike_stands

  pub paired-stands : (number : ℕ) → list_any (is_of_receive number) (matched_pairs h)
      ≡ list_any (is_of_receive number) (matched_pairs (history_of deeds))
  paired-stands = alike_stands.paired_same

  pub taken-stands : (from n : ℕ) → list_any (is_of_message from n) (matched_pairs h)
      ≡ list_any (is_of_message from n) (matched_pairs (history_of deeds))
  taken-stands = alike_stands.taken_same

  pub cancelled-stands : (number : ℕ) → happened (is_cancel number) h
      ≡ happened (is_cancel number) (history_of deeds)
  cancelled-stands = alike_stands.cancels_same

  pub is_known_receive-stands : (number : ℕ) → is_known_receive h number
      ≡ is_known_receive (history_of deeds) number
  unfolding is_known_receive
  is_known_receive-stands number = ap (λ (ms : List ℕ).
      list_any (λ m. m == number) ms) alike_stands.receives_same

  pub is_known_message-stands : (from n : ℕ) → is_known_message h from n
      ≡ is_known_message (history_of deeds) from n
  unfolding is_known_message
  is_known_message-stands from n = ap (λ (as' : List Arrival).
      list_any (is_message from n) as') alike_stands.messages_same

  pub message_of-stands : (from n : ℕ) → message_of h from n ≡ message_of (history_of deeds) from n
  message_of-stands = message_of-alike alike_stands
