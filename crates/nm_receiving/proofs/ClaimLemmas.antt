-- The messages that are claimed, after each deed of the matcher.
use Rattle.std.proofs.Common.{◌≡◌, ℕ, ◌==◌, Bool, true, false, not, ◌&&◌, ◌||◌, if◌then◌else◌, Option, Some, None}
use Rattle.std.proofs.Common.{List, [], ◌∷◌, ◌++◌, refl, sym, ◌∙◌, ap, subst, append-nil, is_some}
use Rattle.std.specs.Prelude.{Result, Ok, Err, OnOk, OnErr}
use Rattle.std.specs.List.{All, cons_option, find, list_any}
use Rattle.std.specs.Map.{lookup}
use Rattle.std.specs.Option.{option_map, option_to_list}
use Rattle.std.proofs.lemmas.Bool.{false_from_ne_true, true≢false}
use Rattle.std.proofs.lemmas.List.Elements.{All-nil, All-push, All-weaker}
use Rattle.nm_types.specs.declared.messages.Arrival.{Arrival}
use Rattle.nm_types.specs.declared.messages.Peer.{Peer}
use Rattle.nm_types.specs.declared.messages.Post as post
use Rattle.nm_types.specs.declared.messages.TagPick.{TagPick}
use Rattle.nm_history.specs.declared.events.Event.{Event}
use Rattle.nm_history.specs.declared.plain.Pair.{Pair}
use Rattle.nm_history.specs.Happens.{happened, is_claim}
use Rattle.nm_history.specs.Matching.{first_message, is_claimed, is_free, is_of_message, matched_pairs, new_pair}
use Rattle.nm_history.specs.Matching.{first_receive, pair_of, pair_of_claimed}
use Rattle.nm_history.specs.Selection.{matches}
use Rattle.nm_history.specs.Sends.{arrival_of, message_of, messages}
use Rattle.nm_history.proofs.Basic.{or_true}
use Rattle.nm_history.proofs.MatchingLemmas.{matched_pairs-push}
use Rattle.nm_history.proofs.OnceLemmas.{find_among, messages-push}
use Rattle.nm_match.specs.declared.deeds.Deed.{Deed}
use Rattle.nm_match.specs.declared.deeds.Deed.TheVariants as deed
use Rattle.nm_match.specs.declared.names.Message.{Message}
use Rattle.nm_match.specs.Deeds.{event_of, history_of, is_known_message}
use Rattle.nm_match.specs.Names.{id_of_arrival, same_message}
use Rattle.nm_match.proofs.DeedLemmas.{history_of-push}
use Rattle.nm_match.proofs.NameLemmas.{same_message-true}
use Rattle.nm_match.proofs.PushLemmas.{is_claimed-push}
use Rattle.nm_match.proofs.QueueLemmas.{free_means}
use Rattle.nm_receiving.specs.Claims.{AreNoted, IsNamed, IsNoted}
use Rattle.nm_receiving.proofs.Facts.{message_from_none, message_name}
use Rattle.nm_receiving.proofs.Lists.{find-first_more, find-still}
use Rattle.nm_types.proofs.ListLemmas.{find_passes}
use Rattle.nm_types.proofs.NumberLemmas.{eq_true, same_number}
use Rattle.nm_types.proofs.TruthLemmas.{and_left, and_right}

-- the messages by the deeds
abbrev came : List Deed → List Arrival
came deeds = messages (history_of deeds)

-- message n of a rank is claimed, by the deeds
abbrev claims : List Deed → ℕ → ℕ → Bool
claims deeds from n = is_claimed (history_of deeds) (matched_pairs (history_of deeds)) from n

was_claimed : (c d p q : Bool) → d ≡ false → ((c || d) && not (p || q)) ≡ true → (c && not p) ≡ true
was_claimed true false true q none h = h
was_claimed true false false q none h = refl
was_claimed false false p q none h = h
was_claimed c true p q none h = absurd (true≢false none)

-- a message stays claimed that is in no new pair
pub still_claimed : (c d p q : Bool) → (c && not p) ≡ true → q ≡ false → ((c || d) && not (p || q)) ≡ true
still_claimed true d false false is none = refl
still_claimed true d false true is none = absurd (true≢false none)
still_claimed true d true q is none = is
still_claimed false d p q is none = absurd (true≢false (sym is))

either : (b : Bool) → (b || false) ≡ true → b ≡ true
either true is = refl
either false is = is

-- the name of a message that passes
named_by : (a : Arrival) (from n : ℕ) → ((a.env.from == from && a.n == n) || false) ≡ true
    → (a.env.from ≡ from) × (a.n ≡ n)
named_by a from n is =
    let both = either (a.env.from == from && a.n == n) is in (
      same_number a.env.from from (and_left (a.env.from == from) (a.n == n) both),
      same_number a.n n (and_right (a.env.from == from) (a.n == n) both),
    )

was_received : (x p q : Bool) → q ≡ true → (x && not (p || q)) ≡ true → ⊥
was_received true true q is h = true≢false (sym h)
was_received true false true is h = true≢false (sym h)
was_received true false false is h = true≢false (sym is)
was_received false p q is h = true≢false (sym h)

-- nothing is claimed at first
pub noted-none : (claimed : List (Message × Arrival)) → claimed ≡ [] → AreNoted claimed []
unfolding history_of matched_pairs
noted-none claimed none = record {
  named = All-nil (IsNamed []);
  each = λ from n is. absurd (true≢false (sym is));
  only = λ from n is. absurd (true≢false (sym (sym (ap (λ (es : List (Message × Arrival)).
      is_some (lookup (same_message (record { rank = from; n = n })) es)) none) ∙ is)));
}

-- one deed more
module _ (deeds : List Deed) (d : Deed) where
  abbrev more : List Pair
  more = option_to_list (new_pair (history_of deeds) (matched_pairs (history_of deeds)) (event_of d).what)

  claims-push : (from n : ℕ) → claims (deeds ++ d ∷ []) from n
      ≡ ((happened (is_claim from n) (history_of deeds) || is_claim from n (event_of d).what) && not
      (list_any (is_of_message from n) (matched_pairs (history_of deeds)) || list_any (is_of_message from n) more))
  claims-push from n =
      ap (λ (g : List Event). is_claimed g (matched_pairs g) from n) (history_of-push deeds d)
      ∙ ap (λ (ps : List Pair). is_claimed (history_of deeds ++ event_of d ∷ []) ps from n)
      (matched_pairs-push (history_of deeds) (event_of d))
      ∙ is_claimed-push (history_of deeds) (event_of d) (matched_pairs (history_of deeds)) more from n

  -- what is claimed was claimed before, unless the deed claims it
  claimed_before : (from n : ℕ) → is_claim from n (event_of d).what ≡ false → claims (deeds ++ d ∷ []) from n ≡ true
      → claims deeds from n ≡ true
  claimed_before from n none is =
      was_claimed (happened (is_claim from n) (history_of deeds)) (is_claim from n (event_of d).what)
      (list_any (is_of_message from n) (matched_pairs (history_of deeds))) (list_any (is_of_message from n) more) none
      (sym (claims-push from n) ∙ is)

  -- and it stays claimed, unless it is received
  claimed_still : (from n : ℕ) → claims deeds from n ≡ true → list_any (is_of_message from n) more ≡ false
      → claims (deeds ++ d ∷ []) from n ≡ true
  claimed_still from n was none =
      claims-push from n
      ∙ still_claimed (happened (is_claim from n) (history_of deeds)) (is_claim from n (event_of d).what)
      (list_any (is_of_message from n) (matched_pairs (history_of deeds))) (list_any (is_of_message from n) more) was
      none

  came-push : came (deeds ++ d ∷ []) ≡ came deeds ++ cons_option (arrival_of (event_of d).what) []
  came-push = ap (λ (g : List Event). messages g) (history_of-push deeds d)
      ∙ messages-push (history_of deeds) (event_of d)

  -- a message that came is there for good
  message_later : (from n : ℕ) (a : Arrival) → message_of (history_of deeds) from n ≡ Some a
      → message_of (history_of (deeds ++ d ∷ [])) from n ≡ Some a
  message_later from n a is =
      ap (λ (ms : List Arrival). find (λ b. b.env.from == from && b.n == n) ms) came-push
      ∙ find-still (λ (b : Arrival). b.env.from == from && b.n == n) (came deeds)
      (cons_option (arrival_of (event_of d).what) []) a is

  noted_later : (claimed : List (Message × Arrival)) (from n : ℕ) → IsNoted claimed deeds from n
      → IsNoted claimed (deeds ++ d ∷ []) from n
  noted_later claimed from n was = record {
    arrival = was.arrival;
    found = was.found;
    is = message_later from n was.arrival was.is;
  }

  -- no message came by it
  named_same : arrival_of (event_of d).what ≡ None → All (IsNamed (came deeds)) (came deeds)
      → All (IsNamed (came (deeds ++ d ∷ []))) (came (deeds ++ d ∷ []))
  named_same none named = subst (λ (ms : List Arrival). All (IsNamed ms) ms)
      (sym (came-push ∙ ap (λ (o : Option Arrival). came deeds ++ cons_option o []) none ∙ append-nil (came deeds)))
      named

  -- a deed that claims nothing, and receives nothing that is claimed
  pub noted-more : (claimed : List (Message × Arrival)) → ((from n : ℕ) → is_claim from n (event_of d).what ≡ false)
      → ((from n : ℕ) → claims deeds from n ≡ true → list_any (is_of_message from n) more ≡ false)
      → All (IsNamed (came (deeds ++ d ∷ []))) (came (deeds ++ d ∷ [])) → AreNoted claimed deeds
      → AreNoted claimed (deeds ++ d ∷ [])
  noted-more claimed none unpaired named noted = record {
    named = named;
    each = λ from n is. noted_later claimed from n (noted.each from n (claimed_before from n (none from n) is));
    only = λ from n is. let was = noted.only from n is in claimed_still from n was (unpaired from n was);
  }

-- a message that is free is not claimed
free_other : (deeds : List Deed) (a : Arrival) (from n : ℕ)
    → is_free (history_of deeds) (matched_pairs (history_of deeds)) a ≡ true → claims deeds from n ≡ true
    → ((a.env.from == from && a.n == n) || false) ≡ false
free_other deeds a from n free claimed_now =
    false_from_ne_true ((a.env.from == from && a.n == n) || false) (λ is.
    let name = named_by a from n is in
    let parts = free_means (history_of deeds) (matched_pairs (history_of deeds)) a.env.from a.n free in
    true≢false (sym (and_left (happened (is_claim from n) (history_of deeds))
    (not (list_any (is_of_message from n) (matched_pairs (history_of deeds)))) claimed_now)
    ∙ ap (λ (i : ℕ). happened (is_claim i n) (history_of deeds)) (sym name.0)
    ∙ ap (λ (k : ℕ). happened (is_claim a.env.from k) (history_of deeds)) (sym name.1) ∙ parts.1))

-- so no receive that is posted takes it
unpaired-post : (deeds : List Deed) (p : post.Post) (from n : ℕ) → claims deeds from n ≡ true
    → list_any (is_of_message from n) (more deeds (deed.Post p)) ≡ false
unpaired-post deeds p from n claimed_now =
    by (first_message (history_of deeds) (matched_pairs (history_of deeds)) p.from p.tag p.ctx) refl
  where
    test : Arrival → Bool
    test b = matches p.from p.tag p.ctx b.env && is_free (history_of deeds) (matched_pairs (history_of deeds)) b

    by : (o : Option Arrival)
        → first_message (history_of deeds) (matched_pairs (history_of deeds)) p.from p.tag p.ctx ≡ o
        → list_any (is_of_message from n) (option_to_list (option_map (λ (a : Arrival). pair_of p a) o)) ≡ false
    by None is = refl
    by (Some a) is = free_other deeds a from n
        (and_right (matches p.from p.tag p.ctx a.env)
        (is_free (history_of deeds) (matched_pairs (history_of deeds)) a)
        (find_passes test (came deeds) a is)) claimed_now

-- nor one that takes a message which comes
unpaired-arrive : (claimed : List (Message × Arrival)) (deeds : List Deed) (a : Arrival)
    → is_known_message (history_of deeds) a.env.from a.n ≡ false → AreNoted claimed deeds
    → (from n : ℕ) → claims deeds from n ≡ true
    → list_any (is_of_message from n) (more deeds (deed.Arrive a)) ≡ false
unpaired-arrive claimed deeds a unknown noted from n claimed_now =
    by (first_receive (history_of deeds) (matched_pairs (history_of deeds)) a.env)
  where
    other : ((a.env.from == from && a.n == n) || false) ≡ false
    other = false_from_ne_true ((a.env.from == from && a.n == n) || false) (λ is.
        let name = named_by a from n is in
        let was = (noted.each from n claimed_now).is in
        let none : message_of (history_of deeds) from n ≡ None =
        ap (λ (i : ℕ). message_of (history_of deeds) i n) (sym name.0)
        ∙ ap (λ (k : ℕ). message_of (history_of deeds) a.env.from k) (sym name.1)
        ∙ message_from_none (history_of deeds) a.env.from a.n unknown in
        let h : ⊥ = cc in h)

    by : (o : Option post.Post)
        → list_any (is_of_message from n) (option_to_list (option_map (λ (p : post.Post). pair_of p a) o)) ≡ false
    by None = refl
    by (Some p) = other

-- a receive, a cancel, a withdrawal
pub noted-post : (claimed : List (Message × Arrival)) (deeds : List Deed) (p : post.Post) → AreNoted claimed deeds
    → AreNoted claimed (deeds ++ deed.Post p ∷ [])
noted-post claimed deeds p noted = noted-more deeds (deed.Post p) claimed (λ _ _. refl) (unpaired-post deeds p)
    (named_same deeds (deed.Post p) refl noted.named) noted

pub noted-cancel : (claimed : List (Message × Arrival)) (deeds : List Deed) (number : ℕ) → AreNoted claimed deeds
    → AreNoted claimed (deeds ++ deed.Cancel number ∷ [])
noted-cancel claimed deeds number noted = noted-more deeds (deed.Cancel number) claimed (λ _ _. refl)
    (λ _ _ _. refl)
    (named_same deeds (deed.Cancel number) refl noted.named) noted

pub noted-withdraw : (claimed : List (Message × Arrival)) (deeds : List Deed) (from n : ℕ) → AreNoted claimed deeds
    → AreNoted claimed (deeds ++ deed.Withdraw from n ∷ [])
noted-withdraw claimed deeds from n noted = noted-more deeds (deed.Withdraw from n) claimed (λ _ _. refl)
    (λ _ _ _. refl)
    (named_same deeds (deed.Withdraw from n) refl noted.named) noted

-- a message has its own name
pub itself : (a : Arrival) → (a.env.from == a.env.from && a.n == a.n) ≡ true
itself a = ap (λ (b : Bool). b && a.n == a.n) (eq_true a.env.from a.env.from refl) ∙ eq_true a.n a.n refl

-- a message that comes
pub noted-arrive : (claimed : List (Message × Arrival)) (deeds : List Deed) (a : Arrival)
    → is_known_message (history_of deeds) a.env.from a.n ≡ false → AreNoted claimed deeds
    → AreNoted claimed (deeds ++ deed.Arrive a ∷ [])
noted-arrive claimed deeds a unknown noted = noted-more deeds (deed.Arrive a) claimed (λ _ _. refl)
    (unpaired-arrive claimed deeds a unknown noted)
    (subst (λ (ms : List Arrival). All (IsNamed ms) ms) (sym (came-push deeds (deed.Arrive a)))
    (All-push (IsNamed (came deeds ++ a ∷ [])) (came deeds) a
    (All-weaker (IsNamed (came deeds)) (IsNamed (came deeds ++ a ∷ []))
    (λ b is. find-still (λ (c : Arrival). c.env.from == b.env.from && c.n == b.n) (came deeds) (a ∷ []) b is)
    (came deeds) noted.named)
    (find-first_more (λ (c : Arrival). c.env.from == a.env.from && c.n == a.n) (came deeds) (Some a)
    (message_from_none (history_of deeds) a.env.from a.n unknown)
    (λ x is. let same : a ≡ x = cc in
    subst (λ (y : Arrival). (y.env.from == a.env.from && y.n == a.n) ≡ true) same (itself a)))))
    noted

-- the message that a probe shows is free
pub first_free : (deeds : List Deed) (from : Peer) (tag : TagPick) (ctx : ℕ) (a : Arrival)
    → Some a ≡ first_message (history_of deeds) (matched_pairs (history_of deeds)) from tag ctx
    → is_free (history_of deeds) (matched_pairs (history_of deeds)) a ≡ true
first_free deeds from tag ctx a is =
    and_right (matches from tag ctx a.env) (is_free (history_of deeds) (matched_pairs (history_of deeds)) a)
    (find_passes (λ b. matches from tag ctx b.env && is_free (history_of deeds) (matched_pairs (history_of deeds)) b)
    (came deeds) a (sym is))

-- and is the one of its name
pub first_named : (claimed : List (Message × Arrival)) (deeds : List Deed) (from : Peer) (tag : TagPick) (ctx : ℕ)
    (a : Arrival) → AreNoted claimed deeds
    → Some a ≡ first_message (history_of deeds) (matched_pairs (history_of deeds)) from tag ctx
    → message_of (history_of deeds) a.env.from a.n ≡ Some a
first_named claimed deeds from tag ctx a noted is =
    find_among (IsNamed (came deeds))
    (λ b. matches from tag ctx b.env && is_free (history_of deeds) (matched_pairs (history_of deeds)) b)
    (came deeds) a noted.named (sym is)

-- a message is claimed, and noted
pub noted-claim : (claimed claimed' : List (Message × Arrival)) (deeds : List Deed) (a : Arrival)
    → is_free (history_of deeds) (matched_pairs (history_of deeds)) a ≡ true
    → message_of (history_of deeds) a.env.from a.n ≡ Some a
    → lookup (same_message (id_of_arrival a)) claimed' ≡ Some a
    → ((id : Message) → same_message (id_of_arrival a) id ≡ false
    → lookup (same_message id) claimed' ≡ lookup (same_message id) claimed)
    → AreNoted claimed deeds → AreNoted claimed' (deeds ++ deed.Claim a.env.from a.n ∷ [])
noted-claim claimed claimed' deeds a free there own others noted = record {
  named = named_same deeds (deed.Claim a.env.from a.n) refl noted.named;
  each = λ from n is. by from n is (same_message (id_of_arrival a) (record { rank = from; n = n })) refl;
  only = λ from n is. back from n is (same_message (id_of_arrival a) (record { rank = from; n = n })) refl;
}
  where
    own_claimed : claims (deeds ++ deed.Claim a.env.from a.n ∷ []) a.env.from a.n ≡ true
    own_claimed =
        claims-push deeds (deed.Claim a.env.from a.n) a.env.from a.n
        ∙ ap (λ (b : Bool). (happened (is_claim a.env.from a.n) (history_of deeds) || b) && not
        (list_any (is_of_message a.env.from a.n) (matched_pairs (history_of deeds)) || false)) (itself a)
        ∙ ap (λ (b : Bool). b && not
        (list_any (is_of_message a.env.from a.n) (matched_pairs (history_of deeds)) || false))
        (or_true (happened (is_claim a.env.from a.n) (history_of deeds)))
        ∙ ap (λ (b : Bool). not (b || false))
        (free_means (history_of deeds) (matched_pairs (history_of deeds)) a.env.from a.n free).0

    back : (from n : ℕ) → is_some (lookup (same_message (record { rank = from; n = n })) claimed') ≡ true → (b : Bool)
        → same_message (id_of_arrival a) (record { rank = from; n = n }) ≡ b
        → claims (deeds ++ deed.Claim a.env.from a.n ∷ []) from n ≡ true
    back from n is true same =
        subst (λ (m : Message). claims (deeds ++ deed.Claim a.env.from a.n ∷ []) m.rank m.n ≡ true)
        (same_message-true (id_of_arrival a) (record { rank = from; n = n }) same) own_claimed
    back from n is false other =
        claimed_still deeds (deed.Claim a.env.from a.n) from n
        (noted.only from n (sym (ap (λ (o : Option Arrival). is_some o)
        (others (record { rank = from; n = n }) other)) ∙ is)) refl

    by : (from n : ℕ) → claims (deeds ++ deed.Claim a.env.from a.n ∷ []) from n ≡ true → (b : Bool)
        → same_message (id_of_arrival a) (record { rank = from; n = n }) ≡ b
        → IsNoted claimed' (deeds ++ deed.Claim a.env.from a.n ∷ []) from n
    by from n is true same =
        subst (λ (m : Message). IsNoted claimed' (deeds ++ deed.Claim a.env.from a.n ∷ []) m.rank m.n)
        (same_message-true (id_of_arrival a) (record { rank = from; n = n }) same)
        (record {
          arrival = a;
          found = own;
          is = message_later deeds (deed.Claim a.env.from a.n) a.env.from a.n a there;
        })
    by from n is false other =
        let was = noted.each from n (claimed_before deeds (deed.Claim a.env.from a.n) from n other is) in
        record {
          arrival = was.arrival;
          found = others (record { rank = from; n = n }) other ∙ was.found;
          is = message_later deeds (deed.Claim a.env.from a.n) from n was.arrival was.is;
        }

-- a claimed message is received, and let go
pub noted-match : (claimed claimed' : List (Message × Arrival)) (deeds : List Deed) (number from n : ℕ)
    → claims deeds from n ≡ true
    → lookup (same_message (record { rank = from; n = n })) claimed' ≡ None
    → ((id : Message) → same_message (record { rank = from; n = n }) id ≡ false
    → lookup (same_message id) claimed' ≡ lookup (same_message id) claimed)
    → AreNoted claimed deeds → AreNoted claimed' (deeds ++ deed.Match number from n ∷ [])
noted-match claimed claimed' deeds number from n claimed_now own others noted = record {
  named = named_same deeds (deed.Match number from n) refl noted.named;
  each = λ i k is. by i k is (same_message (record { rank = from; n = n }) (record { rank = i; n = k })) refl;
  only = λ i k is. back i k is (same_message (record { rank = from; n = n }) (record { rank = i; n = k })) refl;
}
  where
    was : IsNoted claimed deeds from n
    was = noted.each from n claimed_now

    name : (was.arrival.env.from ≡ from) × (was.arrival.n ≡ n)
    name = message_name (history_of deeds) from n was.arrival was.is

    paired : list_any (is_of_message from n) (more deeds (deed.Match number from n)) ≡ true
    paired =
        ap (λ (o : Option Arrival). list_any (is_of_message from n)
        (option_to_list (option_map (λ (a : Arrival). pair_of_claimed number 0 a) o))) was.is
        ∙ ap (λ (b : Bool). (b && was.arrival.n == n) || false) (eq_true was.arrival.env.from from name.0)
        ∙ ap (λ (b : Bool). b || false) (eq_true was.arrival.n n name.1)

    by : (i k : ℕ) → claims (deeds ++ deed.Match number from n ∷ []) i k ≡ true → (b : Bool)
        → same_message (record { rank = from; n = n }) (record { rank = i; n = k }) ≡ b
        → IsNoted claimed' (deeds ++ deed.Match number from n ∷ []) i k
    by i k is true same =
        let is' : claims (deeds ++ deed.Match number from n ∷ []) from n ≡ true =
        subst (λ (m : Message). claims (deeds ++ deed.Match number from n ∷ []) m.rank m.n ≡ true)
        (sym (same_message-true (record { rank = from; n = n }) (record { rank = i; n = k }) same)) is in
        absurd (was_received
        (happened (is_claim from n) (history_of deeds) || is_claim from n (event_of (deed.Match number from n)).what)
        (list_any (is_of_message from n) (matched_pairs (history_of deeds)))
        (list_any (is_of_message from n) (more deeds (deed.Match number from n))) paired
        (sym (claims-push deeds (deed.Match number from n) from n) ∙ is'))
    by i k is false other =
        let before = noted.each i k (claimed_before deeds (deed.Match number from n) i k refl is) in
        record {
          arrival = before.arrival;
          found = others (record { rank = i; n = k }) other ∙ before.found;
          is = message_later deeds (deed.Match number from n) i k before.arrival before.is;
        }

    -- the pair is of no other message
    unpaired : (i k : ℕ) → same_message (record { rank = from; n = n }) (record { rank = i; n = k }) ≡ false
        → list_any (is_of_message i k) (more deeds (deed.Match number from n)) ≡ false
    unpaired i k other =
        ap (λ (o : Option Arrival). list_any (is_of_message i k)
        (option_to_list (option_map (λ (a : Arrival). pair_of_claimed number 0 a) o))) was.is
        ∙ ap (λ (j : ℕ). (j == i && was.arrival.n == k) || false) name.0
        ∙ ap (λ (j : ℕ). (from == i && j == k) || false) name.1
        ∙ ap (λ (b : Bool). b || false) other

    back : (i k : ℕ) → is_some (lookup (same_message (record { rank = i; n = k })) claimed') ≡ true → (b : Bool)
        → same_message (record { rank = from; n = n }) (record { rank = i; n = k }) ≡ b
        → claims (deeds ++ deed.Match number from n ∷ []) i k ≡ true
    back i k is true same =
        absurd (true≢false (sym is ∙ ap (λ (o : Option Arrival). is_some o)
        (subst (λ (m : Message). lookup (same_message m) claimed' ≡ None)
        (same_message-true (record { rank = from; n = n }) (record { rank = i; n = k }) same) own)))
    back i k is false other =
        claimed_still deeds (deed.Match number from n) i k (noted.only i k (sym (ap (λ (o : Option Arrival). is_some o)
        (others (record { rank = i; n = k }) other)) ∙ is)) (unpaired i k other)

-- where memory was refused nothing is other
pub noted_by : {X E : Type 0} (claimed : List (Message × Arrival)) (deeds deeds' after : List Deed) (r : Result X E)
    → OnOk r (deeds' ≡ after) → OnErr r (deeds' ≡ deeds) → AreNoted claimed after → AreNoted claimed deeds
    → AreNoted claimed deeds'
noted_by claimed deeds deeds' after (Ok x) ok err more' same =
    subst (λ (ds : List Deed). AreNoted claimed ds) (sym ok) more'
noted_by claimed deeds deeds' after (Err e) ok err more' same =
    subst (λ (ds : List Deed). AreNoted claimed ds) (sym err) same

-- nor where nothing was done
pub noted_if : (claimed : List (Message × Arrival)) (deeds deeds' after : List Deed) (b : Bool)
    → deeds' ≡ (if b then after else deeds) → AreNoted claimed after → AreNoted claimed deeds
    → AreNoted claimed deeds'
noted_if claimed deeds deeds' after true is more' same =
    subst (λ (ds : List Deed). AreNoted claimed ds) (sym is) more'
noted_if claimed deeds deeds' after false is more' same =
    subst (λ (ds : List Deed). AreNoted claimed ds) (sym is) same
