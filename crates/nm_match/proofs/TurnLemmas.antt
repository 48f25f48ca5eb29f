-- What stays true of a history while each deed is one that may come next.
use Rattle.std.proofs.Common.{◌≡◌, ◌≢◌, ℕ, ◌==◌, Bool, true, false, ◌||◌, Option, Some, None}
use Rattle.std.proofs.Common.{List, [], ◌∷◌, ◌++◌, refl, sym, ◌∙◌, subst, inl, inr}
use Rattle.std.proofs.Common.{append-nil}
use Rattle.std.specs.Prelude.{AllPairs}
use Rattle.std.specs.List.{All, list_any, cons_option}
use Rattle.std.proofs.lemmas.Bool.{false≢true, or_cases, or_left, or_from}
use Rattle.std.proofs.lemmas.Bool.{false_from_ne_true}
use Rattle.std.proofs.lemmas.List.Elements.{All-weaker}
use Rattle.std.proofs.lemmas.List.Folds.{list_any-append}
use Rattle.std.proofs.lemmas.List.Quantifiers.{all_pairs_push}
use Rattle.nm_types.specs.declared.messages.Arrival.{Arrival}
use Rattle.nm_types.specs.declared.messages.Post as post
use Rattle.nm_history.specs.declared.events.Event.{Event}
use Rattle.nm_history.specs.declared.plain.Pair.{Pair}
use Rattle.nm_history.specs.Sends.{messages, posts, post_of, arrival_of, receive_of}
use Rattle.nm_history.specs.Happens.{happened, is_cancel, is_claim, is_withdraw}
use Rattle.nm_history.specs.Matching.{is_of_message, is_of_receive}
use Rattle.nm_history.proofs.OnceLemmas.{posts-push, messages-push}
use Rattle.nm_match.specs.Deeds.{is_known_message, is_known_receive}
use Rattle.nm_match.specs.Queues.{IsInTurn, TwoReceives, TwoMessages}
use Rattle.nm_match.proofs.PushLemmas.{is_known_message-push, is_known_receive-push}
use Rattle.nm_match.proofs.PushLemmas.{posts_known, messages_known}
use Rattle.nm_history.proofs.AppendLemmas.{happened-push}

-- what holds of no unknown thing
pub false_when : (x y : Bool) → (x ≡ true → y ≡ true) → y ≡ false → x ≡ false
false_when true y gives never = absurd (false≢true (sym never ∙ gives refl))
false_when false y gives never = refl

-- the event is of a receive of this number, posted or of a claimed message
abbrev pub is_new_receive : ℕ → Event → Bool
is_new_receive number e = list_any (λ m. m == number) (cons_option (receive_of e.what) [])

-- the event e, which makes the pairs more, is one that may come next
pub record MayCome (h : List Event) (found : List Pair) (e : Event) (more : List Pair) : Type 0 where
  pub pairs_known : (number : ℕ) → list_any (is_of_receive number) more ≡ true →
      is_known_receive (h ++ e ∷ []) number ≡ true
  pub pairs_open : (number : ℕ) → list_any (is_of_receive number) more ≡ true →
      happened (is_cancel number) (h ++ e ∷ []) ≡ false
  pub cancels_known : (number : ℕ) → is_cancel number e.what ≡ true → is_known_receive h number ≡ true
  pub cancels_open : (number : ℕ) → is_cancel number e.what ≡ true →
      list_any (is_of_receive number) (found ++ more) ≡ false
  pub pairs_came : (from n : ℕ) → list_any (is_of_message from n) more ≡ true →
      is_known_message (h ++ e ∷ []) from n ≡ true
  pub claims_came : (from n : ℕ) → is_claim from n e.what ≡ true → is_known_message h from n ≡ true
  pub withdrawals_came : (from n : ℕ) → is_withdraw from n true e.what ≡ true →
      is_known_message h from n ≡ true
  pub posts_new : (p : post.Post) → post_of e.what ≡ Some p → is_known_receive h p.number ≡ false
  pub messages_new : (a : Arrival) → arrival_of e.what ≡ Some a → is_known_message h a.env.from a.n ≡ false
  pub receives_kept : (number : ℕ) → is_new_receive number e ≡ true →
      (list_any (λ p. p.number == number) (posts (h ++ e ∷ [])) || list_any (is_of_receive number)
      (found ++ more)) ≡ true

two_kept : {X : Type 0} (R : X → X → Type 0) (xs : List X) (o : Option X) → AllPairs R xs →
    ((x : X) → o ≡ Some x → All (λ y. R y x) xs) → AllPairs R (xs ++ cons_option o [])
two_kept R xs None two new = rw (append-nil xs) two
two_kept R xs (Some x) two new = all_pairs_push R xs x two (new x refl)

-- a receive that is not known has another number than each that was posted
pub others_number : (h : List Event) (number : ℕ) → is_known_receive h number ≡ false →
    All (λ p. p.number ≢ number) (posts h)
others_number h number unknown =
    All-weaker (λ p. is_known_receive h p.number ≡ true) (λ p. p.number ≢ number)
    (λ p known same. false≢true (sym unknown ∙ subst (λ m. is_known_receive h m ≡ true) same known))
    (posts h) (posts_known h)

-- a message that did not come is another than each that came
pub others_message : (h : List Event) (from n : ℕ) → is_known_message h from n ≡ false →
    All (λ a. a.env.from ≡ from → a.n ≢ n) (messages h)
others_message h from n new =
    All-weaker (λ a. is_known_message h a.env.from a.n ≡ true) (λ a. a.env.from ≡ from → a.n ≢ n)
    (λ a came same_from same_n. false≢true (sym new
    ∙ subst (λ m. is_known_message h from m ≡ true) same_n
    (subst (λ i. is_known_message h i a.n ≡ true) same_from came))) (messages h) (messages_known h)

-- what was known stays known
pub known_later : (h : List Event) (e : Event) (number : ℕ) → is_known_receive h number ≡ true →
    is_known_receive (h ++ e ∷ []) number ≡ true
known_later h e number known = is_known_receive-push h e number ∙ or_left _ _ known

-- what came stays come
pub came_later : (h : List Event) (e : Event) (from n : ℕ) → is_known_message h from n ≡ true →
    is_known_message (h ++ e ∷ []) from n ≡ true
came_later h e from n came = is_known_message-push h e from n ∙ or_left _ _ came

-- either of two gives the third
pub either : (x y z : Bool) → (x ≡ true → z ≡ true) → (y ≡ true → z ≡ true) → (x || y) ≡ true → z ≡ true
either true y z first second h = first refl
either false y z first second h = second h

some_of_four : (x y u v : Bool) → (x || u) ≡ true → ((x || y) || (u || v)) ≡ true
some_of_four true y u v h = refl
some_of_four false true u v h = refl
some_of_four false false u v h = or_left u v h

pub in_turn-push : (h : List Event) (found : List Pair) (e : Event) (more : List Pair) → IsInTurn h found →
    MayCome h found e more → IsInTurn (h ++ e ∷ []) (found ++ more)
in_turn-push h found e more was may =
    let h' : List Event = h ++ e ∷ [] in
    record {
      two_receives = rw (posts-push h e) (two_kept TwoReceives (posts h) (post_of e.what) was.two_receives
          (λ p new. others_number h p.number (may.posts_new p new)));
      two_messages = rw (messages-push h e) (two_kept TwoMessages (messages h)
          (arrival_of e.what) was.two_messages (λ a new.
          others_message h a.env.from a.n (may.messages_new a new)));
      paired_known = λ number paired.
          either (list_any (is_of_receive number) found) (list_any (is_of_receive number) more)
          (is_known_receive h' number)
          (λ old. known_later h e number (was.paired_known number old)) (may.pairs_known number)
          (rw (list_any-append (is_of_receive number) found more) at paired);
      cancelled_known = λ number cancelled.
          either (happened (is_cancel number) h) (is_cancel number e.what) (is_known_receive h' number)
          (λ old. known_later h e number (was.cancelled_known number old))
          (λ new. known_later h e number (may.cancels_known number new))
          (rw (happened-push (is_cancel number) h e) at cancelled);
      taken_came = λ from n taken.
          either (list_any (is_of_message from n) found) (list_any (is_of_message from n) more)
          (is_known_message h' from n)
          (λ old. came_later h e from n (was.taken_came from n old)) (may.pairs_came from n)
          (rw (list_any-append (is_of_message from n) found more) at taken);
      claimed_came = λ from n claimed.
          either (happened (is_claim from n) h) (is_claim from n e.what) (is_known_message h' from n)
          (λ old. came_later h e from n (was.claimed_came from n old))
          (λ new. came_later h e from n (may.claims_came from n new))
          (rw (happened-push (is_claim from n) h e) at claimed);
      withdrawn_came = λ from n withdrawn.
          either (happened (is_withdraw from n true) h) (is_withdraw from n true e.what)
          (is_known_message h' from n)
          (λ old. came_later h e from n (was.withdrawn_came from n old))
          (λ new. came_later h e from n (may.withdrawals_came from n new))
          (rw (happened-push (is_withdraw from n true) h e) at withdrawn);
      cancelled_unpaired = λ number cancelled.
          elim (or_cases (happened (is_cancel number) h) (is_cancel number e.what)
          (rw (happened-push (is_cancel number) h e) at cancelled)) [
            | inl old ↦ list_any-append (is_of_receive number) found more
                ∙ or_from _ _ (was.cancelled_unpaired number old)
                (false_from_ne_true (list_any (is_of_receive number) more)
                (λ paired. false≢true (sym (may.pairs_open number paired) ∙ cancelled)))
            | inr new ↦ may.cancels_open number new
          ];
      posted_or_paired = λ number known.
          either (is_known_receive h number) (is_new_receive number e)
          (list_any (λ p. p.number == number) (posts h') || list_any (is_of_receive number)
          (found ++ more))
          (λ old. rw (
            posts-push h e,
            list_any-append (λ (p : post.Post). p.number == number) (posts h)
                (cons_option (post_of e.what) []),
            list_any-append (is_of_receive number) found more,
          )
          (some_of_four (list_any (λ (p : post.Post). p.number == number) (posts h))
          (list_any (λ (p : post.Post). p.number == number) (cons_option (post_of e.what) []))
          (list_any (is_of_receive number) found) (list_any (is_of_receive number) more)
          (was.posted_or_paired number old)))
          (may.receives_kept number)
          (rw (is_known_receive-push h e number) at known);
    }
