-- Which numbers are taken after each deed, and how many there can be.
use Rattle.std.proofs.Common.{◌≡◌, ◌≢◌, ℕ, ◌+◌, ◌*◌, ◌<◌, ◌≤◌, ◌^◌, Bool, true, false, ◌||◌}
use Rattle.std.proofs.Common.{List, [], ◌∷◌, ◌++◌, length, map, sym, ◌∙◌, ap, subst, inl, inr, arith}
use Rattle.std.specs.Prelude.{AllPairs, eqb}
use Rattle.std.specs.List.{All, AllByRecursion, IsDistinct, cons_option, list_any}
use Rattle.std.proofs.Math.Bool.{or-false}
use Rattle.std.proofs.lemmas.Bool.{eqb-true, false≢true, false_from_ne_true, or_cases}
use Rattle.std.proofs.lemmas.List.{length-append, length-map}
use Rattle.std.proofs.lemmas.List.Elements.{All-append, All-cons, All-head, All-nil, All-tail, All-weaker}
use Rattle.std.proofs.lemmas.List.Kept.{AllPairs-cons}
use Rattle.std.proofs.lemmas.List.Folds.{list_any-append}
use Rattle.std.proofs.lemmas.Map.Steps.{length-le_from_distinct_below}
use Rattle.nm_types.specs.declared.messages.Arrival.{Arrival}
use Rattle.nm_types.specs.declared.messages.Post as post
use Rattle.nm_history.specs.Sends.{messages, posts, post_of, arrival_of}
use Rattle.nm_history.proofs.OnceLemmas.{posts-push, messages-push}
use Rattle.nm_match.specs.declared.deeds.Deed.{Deed}
use Rattle.nm_match.specs.declared.deeds.Deed.TheVariants as deed
use Rattle.nm_match.specs.declared.names.Message.{Message}
use Rattle.nm_match.specs.declared.seen.Seen.{Seen}
use Rattle.nm_match.specs.Deeds.{event_of, happened_by, history_of, is_deed_of_message, is_deed_of_receive}
use Rattle.nm_match.specs.Deeds.{is_known_message, is_known_receive}
use Rattle.nm_match.specs.Names.{id_of_arrival, id_of_receive, same_message}
use Rattle.nm_match.specs.Queues.{TwoMessages, TwoReceives}
use Rattle.nm_match.specs.SameKeys.{same_message-true}
use Rattle.nm_match.specs.Seen.{AreFew, AreNames, has_seen}
use Rattle.nm_match.proofs.BucketLemmas.{pairs_head, pairs_tail}
use Rattle.nm_match.proofs.DeedLemmas.{history_of-push, is_known_message-deeds, is_known_receive-deeds}
use Rattle.nm_match.proofs.TurnLemmas.{others_number}

-- a receive's number is below 2^64
abbrev IsSmallPost : post.Post → Type 0
IsSmallPost p = p.number < 2 ^ 64

-- a sender is below 2^8, and its number below 2^64
abbrev IsSmallMessage : Arrival → Type 0
IsSmallMessage a = (a.env.from < 2 ^ 8) × (a.n < 2 ^ 64)

posts_deed : (deeds : List Deed) (d : Deed) →
    posts (history_of (deeds ++ d ∷ [])) ≡ posts (history_of deeds) ++ cons_option (post_of (happened_by d)) []
posts_deed deeds d = ap posts (history_of-push deeds d) ∙ posts-push (history_of deeds) (event_of d)

messages_deed : (deeds : List Deed) (d : Deed) →
    messages (history_of (deeds ++ d ∷ [])) ≡ messages (history_of deeds) ++ cons_option
    (arrival_of (happened_by d)) []
messages_deed deeds d = ap messages (history_of-push deeds d) ∙ messages-push (history_of deeds) (event_of d)

any_deed : (test : Deed → Bool) (deeds : List Deed) (d : Deed) (before : Bool) →
    before ≡ list_any test deeds → (before || test d) ≡ list_any test (deeds ++ d ∷ [])
any_deed test deeds d before same =
    ap (λ b. b || test d) same
    ∙ sym (list_any-append test deeds (d ∷ []) ∙ ap (λ b. list_any test deeds || b) (or-false (test d)))

-- nothing is taken where nothing was done
pub names_none : (r m : Seen) → ((i : Message) → has_seen r i ≡ false) → ((i : Message) → has_seen m i ≡ false) →
    AreFew r → AreFew m → AreNames [] 0 0 r m
unfolding history_of
names_none r m no_receive no_message few_receives few_messages = record {
  receives = λ number. no_receive (id_of_receive number);
  messages = λ from n. no_message (record { rank = from; n = n });
  ordered = omega arith;
  counted = omega arith;
  one_group = λ id some. absurd (false≢true (sym (no_receive id) ∙ some));
  few_receives = few_receives;
  few_messages = few_messages;
  small_receives = All-nil IsSmallPost;
  small_messages = All-nil IsSmallMessage;
}

-- one name more is taken, and few stay in memory
pub record IsAdded (id : Message) (r r' : Seen) : Type 0 where
  seen : (i : Message) → has_seen r' i ≡ (has_seen r i || same_message id i)
  few : has_seen r id ≡ false → AreFew r → AreFew r'

-- one name more, where room was made before
pub seen_more : (r r1 r2 : Seen) {id id' : Message} → id ≡ id' →
    ((i : Message) → has_seen r1 i ≡ has_seen r i) → (AreFew r → AreFew r1) →
    ((i : Message) → has_seen r2 i ≡ (has_seen r1 i || same_message id i)) →
    (has_seen r1 id ≡ false → AreFew r1 → AreFew r2) → IsAdded id' r r2
seen_more r r1 r2 {id} {id'} same room room_few add add_few = record {
  seen = λ i. add i ∙ ap (λ b. b || same_message id i) (room i)
      ∙ ap (λ (m : Message). has_seen r i || same_message m i) same;
  few = λ new few. add_few (room id ∙ ap (λ (m : Message). has_seen r m) same ∙ new) (room_few few);
}

module _ (deeds : List Deed) {order next : ℕ} {r m : Seen} (names : AreNames deeds order next r m) where
  -- room that was made takes no name
  pub names_kept : (r' m' : Seen) → ((i : Message) → has_seen r' i ≡ has_seen r i) →
      ((i : Message) → has_seen m' i ≡ has_seen m i) → (AreFew r → AreFew r') → (AreFew m → AreFew m') →
      AreNames deeds order next r' m'
  names_kept r' m' same_r same_m few_r few_m = record {
    receives = λ number. same_r (id_of_receive number) ∙ names.receives number;
    messages = λ from n. same_m (record { rank = from; n = n }) ∙ names.messages from n;
    ordered = names.ordered;
    counted = names.counted;
    one_group = λ id some. names.one_group id (sym (same_r id) ∙ some);
    few_receives = few_r names.few_receives;
    few_messages = few_m names.few_messages;
    small_receives = names.small_receives;
    small_messages = names.small_messages;
  }

  names_push : (d : Deed) (later_order later : ℕ) (r' m' : Seen) →
      later_order ≤ order + length (cons_option (post_of (happened_by d)) []) →
      later ≤ next + (length (cons_option (post_of (happened_by d)) [])
      + length (cons_option (arrival_of (happened_by d)) [])) →
      All IsSmallPost (cons_option (post_of (happened_by d)) []) →
      All IsSmallMessage (cons_option (arrival_of (happened_by d)) []) →
      ((number : ℕ) → has_seen r' (id_of_receive number)
      ≡ (has_seen r (id_of_receive number) || is_deed_of_receive number d)) →
      ((from n : ℕ) → has_seen m' (record { rank = from; n = n })
      ≡ (has_seen m (record { rank = from; n = n }) || is_deed_of_message from n d)) →
      ((id : Message) → has_seen r' id ≡ true → id.rank ≡ 0) → AreFew r' → AreFew m' →
      AreNames (deeds ++ d ∷ []) later_order later r' m'
  names_push d later_order later r' m' ordered few small_post small_message seen_r seen_m one few_r few_m = record {
    receives = λ number. seen_r number
        ∙ any_deed (is_deed_of_receive number) deeds d (has_seen r (id_of_receive number)) (names.receives number);
    messages = λ from n. seen_m from n
        ∙ any_deed (is_deed_of_message from n) deeds d (has_seen m (record { rank = from; n = n }))
        (names.messages from n);
    ordered =
        let ps = length-append (posts (history_of deeds)) (cons_option (post_of (happened_by d)) []) in
        let was = names.ordered in
        rw (posts_deed deeds d) (omega (arith, ps, was, ordered));
    counted =
        let ps = length-append (posts (history_of deeds)) (cons_option (post_of (happened_by d)) []) in
        let as' = length-append (messages (history_of deeds)) (cons_option (arrival_of (happened_by d)) []) in
        let was = names.counted in
        rw (posts_deed deeds d, messages_deed deeds d) (omega (arith, ps, as', was, few));
    one_group = one;
    few_receives = few_r;
    few_messages = few_m;
    small_receives = rw (posts_deed deeds d) (All-append IsSmallPost (posts (history_of deeds))
        (cons_option (post_of (happened_by d)) []) names.small_receives small_post);
    small_messages = rw (messages_deed deeds d) (All-append IsSmallMessage (messages (history_of deeds))
        (cons_option (arrival_of (happened_by d)) []) names.small_messages small_message);
  }

  new_receive : (number : ℕ) → is_known_receive (history_of deeds) number ≡ false →
      has_seen r (id_of_receive number) ≡ false
  new_receive number new = names.receives number ∙ is_known_receive-deeds deeds number ∙ new

  one_more : (number : ℕ) (r' : Seen) → IsAdded (id_of_receive number) r r' → (id : Message) →
      has_seen r' id ≡ true → id.rank ≡ 0
  one_more number r' added id some = elim (or_cases (has_seen r id) (same_message (id_of_receive number) id)
      (sym (added.seen id) ∙ some)) [
        | inl was ↦ names.one_group id was
        | inr same ↦ ap (λ (i : Message). i.rank) (sym (same_message-true (id_of_receive number) id same))
      ]

  -- after a receive was posted
  pub names_post : (p : post.Post) (later : ℕ) (r' : Seen) → p.number < 2 ^ 64 → later ≤ order + 1 →
      is_known_receive (history_of deeds) p.number ≡ false → IsAdded (id_of_receive p.number) r r' →
      AreNames (deeds ++ deed.Post p ∷ []) later next r' m
  names_post p later r' small few new added =
      names_push (deed.Post p) later next r' m (omega (arith, few)) (omega arith)
      (All-cons IsSmallPost p [] small (All-nil IsSmallPost)) (All-nil IsSmallMessage)
      (λ number. added.seen (id_of_receive number)) (λ from n. sym (or-false _))
      (one_more p.number r' added) (added.few (new_receive p.number new) names.few_receives) names.few_messages

  -- after a message came
  pub names_arrive : (a : Arrival) (later : ℕ) (m' : Seen) → a.env.from < 2 ^ 8 → a.n < 2 ^ 64 → later ≤ next + 1 →
      is_known_message (history_of deeds) a.env.from a.n ≡ false → IsAdded (id_of_arrival a) m m' →
      AreNames (deeds ++ deed.Arrive a ∷ []) order later r m'
  names_arrive a later m' small_from small_n few new added =
      names_push (deed.Arrive a) order later r m' (omega arith) (omega (arith, few)) (All-nil IsSmallPost)
      (All-cons IsSmallMessage a [] (small_from, small_n) (All-nil IsSmallMessage))
      (λ number. sym (or-false _)) (λ from n. added.seen (record { rank = from; n = n }))
      names.one_group names.few_receives
      (added.few (names.messages a.env.from a.n ∙ is_known_message-deeds deeds a.env.from a.n ∙ new)
      names.few_messages)

  -- after a claimed message was received
  pub names_matched : (number from n : ℕ) (r' : Seen) → is_known_receive (history_of deeds) number ≡ false →
      IsAdded (id_of_receive number) r r' → AreNames (deeds ++ deed.Match number from n ∷ []) order next r' m
  names_matched number from n r' new added =
      names_push (deed.Match number from n) order next r' m (omega arith) (omega arith) (All-nil IsSmallPost)
      (All-nil IsSmallMessage)
      (λ other. added.seen (id_of_receive other)) (λ from n. sym (or-false _))
      (one_more number r' added) (added.few (new_receive number new) names.few_receives) names.few_messages

  -- the other deeds take no number
  pub names_cancel : (number : ℕ) → AreNames (deeds ++ deed.Cancel number ∷ []) order next r m
  names_cancel number =
      names_push (deed.Cancel number) order next r m (omega arith) (omega arith) (All-nil IsSmallPost)
      (All-nil IsSmallMessage)
      (λ other. sym (or-false _)) (λ from n. sym (or-false _)) names.one_group
      names.few_receives names.few_messages

  pub names_withdraw : (from n : ℕ) → AreNames (deeds ++ deed.Withdraw from n ∷ []) order next r m
  names_withdraw from n =
      names_push (deed.Withdraw from n) order next r m (omega arith) (omega arith) (All-nil IsSmallPost)
      (All-nil IsSmallMessage)
      (λ other. sym (or-false _)) (λ from n. sym (or-false _)) names.one_group
      names.few_receives names.few_messages

  pub names_claim : (from n : ℕ) → AreNames (deeds ++ deed.Claim from n ∷ []) order next r m
  names_claim from n =
      names_push (deed.Claim from n) order next r m (omega arith) (omega arith) (All-nil IsSmallPost)
      (All-nil IsSmallMessage)
      (λ other. sym (or-false _)) (λ from n. sym (or-false _)) names.one_group
      names.few_receives names.few_messages

module _ {X : Type 0} (f : X → ℕ) (R : X → X → Type 0) (P : X → Type 0)
    (apart : (x y : X) → P x → P y → R x y → f x ≢ f y) where
  each_apart : (x : X) (xs : List X) → P x → All P xs → All (λ y. R x y) xs →
      AllByRecursion (λ y. eqb (f x) y ≡ false) (map f xs)
  each_apart x [] here all others = tt
  each_apart x (y ∷ ys) here all others = (
    false_from_ne_true (eqb (f x) (f y)) (λ same. apart x y here (All-head P y ys all)
        (All-head (λ z. R x z) y ys others) (eqb-true (f x) (f y) same)),
    each_apart x ys here (All-tail P y ys all) (All-tail (λ z. R x z) y ys others),
  )

  distinct_map : (xs : List X) → All P xs → AllPairs R xs → IsDistinct eqb (map f xs)
  unfolding IsDistinct
  distinct_map [] all two = tt
  distinct_map (x ∷ xs) all two = (
    each_apart x xs (All-head P x xs all) (All-tail P x xs all) (pairs_head R x xs two),
    distinct_map xs (All-tail P x xs all) (pairs_tail R x xs two),
  )

  below_map : (n : ℕ) → ((x : X) → P x → f x < n) → (xs : List X) → All P xs → (q : ℕ) →
      list_any (eqb q) (map f xs) ≡ true → q < n
  below_map n small [] all q never = absurd (false≢true never)
  below_map n small (x ∷ xs) all q some = elim (or_cases (eqb q (f x)) (list_any (eqb q) (map f xs)) some) [
    | inl here ↦ subst (λ k. k < n) (sym (eqb-true q (f x) here)) (small x (All-head P x xs all))
    | inr later ↦ below_map n small xs (All-tail P x xs all) q later
  ]

  -- things that are apart by a number below n are at most n
  few : (n : ℕ) → ((x : X) → P x → f x < n) → (xs : List X) → All P xs → AllPairs R xs → length xs ≤ n
  few n small xs all two =
      let bound = length-le_from_distinct_below (map f xs) n (distinct_map xs all two) (below_map n small xs all) in
      subst (λ k. k ≤ n) (length-map xs f) bound

-- the number of a message among all that there can be
abbrev place : Arrival → ℕ
place a = a.env.from * 18446744073709551616 + a.n

-- the next order number is far below 2^128
pub next_small : (deeds : List Deed) {order next : ℕ} {r m : Seen} → AreNames deeds order next r m →
    AllPairs TwoReceives (posts (history_of deeds)) → AllPairs TwoMessages (messages (history_of deeds)) →
    next < 2 ^ 73
next_small deeds names two_receives two_messages =
    let receives = few (λ (p : post.Post). p.number) TwoReceives IsSmallPost (λ p q small_p small_q two. two)
    (2 ^ 64) (λ p small. small) (posts (history_of deeds)) names.small_receives two_receives in
    let came = few place TwoMessages IsSmallMessage
    (λ a b small_a small_b two same. two (omega (arith, small_a.1, small_b.1, same))
    (omega (arith, small_a.1, small_b.1, same)))
    (2 ^ 72) (λ a small. omega (arith, small.0, small.1)) (messages (history_of deeds)) names.small_messages
    two_messages in
    let counted = names.counted in
    omega (arith, receives, came, counted)

-- the order number of a new receive fits 64 bits, since the receives before it have as many numbers, all below 2^64
pub order_small : (deeds : List Deed) {order next : ℕ} {r m : Seen} → AreNames deeds order next r m →
    AllPairs TwoReceives (posts (history_of deeds)) → (p : post.Post) → p.number < 2 ^ 64 →
    is_known_receive (history_of deeds) p.number ≡ false → order < 2 ^ 64
order_small deeds names two p small new =
    let all = few (λ (q : post.Post). q.number) TwoReceives IsSmallPost (λ q s small_q small_s apart. apart)
    (2 ^ 64) (λ q small. small) (p ∷ posts (history_of deeds))
    (All-cons IsSmallPost p (posts (history_of deeds)) small names.small_receives)
    (AllPairs-cons TwoReceives p (posts (history_of deeds))
    (All-weaker (λ (q : post.Post). q.number ≢ p.number) (λ (q : post.Post). TwoReceives p q)
    (λ q other same. other (sym same)) (posts (history_of deeds))
    (others_number (history_of deeds) p.number new)) two) in
    let ordered = names.ordered in omega (arith, all, ordered)
