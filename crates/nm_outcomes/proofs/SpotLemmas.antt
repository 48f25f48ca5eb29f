-- The state of a rank follows its history.
use Rattle.std.proofs.Common.{◌≡◌, ℕ, ◌+◌, ◌||◌, ◌==◌, not, Bool, true, false, cond, Option, Some, None, List, []}
use Rattle.std.proofs.Common.{◌∷◌, ◌++◌}
use Rattle.std.proofs.Common.{append-nil, arith, length, map, refl, sym, ◌∙◌, ap, subst}
use Rattle.std.specs.Prelude.{if◌then◌else◌, is_some}
use Rattle.std.specs.List.{cons_option, filter, find, list_any}
use Rattle.std.specs.Option.{option_to_list}
use Rattle.std.proofs.lemmas.Bool.{false≢true}
use Rattle.std.proofs.lemmas.List.{map-append}
use Rattle.std.proofs.lemmas.List.Elements.{filter-append}
use Rattle.std.proofs.Math.Bool.{or-false}
use Rattle.nm_types.specs.declared.messages.Arrival.{Arrival}
use Rattle.nm_types.specs.declared.scripts.Line.{Line}
use Rattle.nm_history.specs.declared.events.Event.{Event}
use Rattle.nm_history.specs.declared.events.Happened.{Happened}
use Rattle.nm_history.specs.declared.events.Happened.TheVariants as event
use Rattle.nm_history.specs.declared.plain.Pair.{Pair}
use Rattle.nm_history.specs.Answers.{claim_at, line_of_handle, line_of_name, request_at}
use Rattle.nm_history.specs.Completion.{is_taken, pair_of_receive}
use Rattle.nm_history.specs.Happens.{happened, is_arrival, is_cancel, is_claim, is_recall, is_withdraw}
use Rattle.nm_history.specs.Matching.{is_of_message, is_of_receive}
use Rattle.nm_history.specs.RankRun.{ran_lines, starts_since}
use Rattle.nm_history.specs.Sends.{Arrived, arrival_of, arrivals, arrived_of, message_of, sends}
use Rattle.nm_history.specs.Underway.{is_of_packet}
use Rattle.nm_match.specs.Deeds.{is_message}
use Rattle.nm_lookups.specs.Queues.{free_messages, open_receives}
use Rattle.nm_lookups.proofs.ReplayLemmas.{found_any}
use Rattle.nm_types.proofs.ListLemmas.{find_nothing}
use Rattle.nm_types.proofs.NumberLemmas.{same_number}
use Rattle.nm_types.proofs.TruthLemmas.{and_left, and_right}
use Rattle.nm_report.specs.Told.{told_by}
use Rattle.nm_outcomes.specs.Results.{is_unasked}
use Rattle.nm_outcomes.specs.Places.{IsPlaceOf, IsProper, RankPoint, after, envelopes_to}
use Rattle.nm_outcomes.specs.Places.{or_else, pair_by}
use Rattle.nm_outcomes.proofs.PlaceLemmas.{or_none, places_follow}
use Rattle.nm_outcomes.specs.declared.spots.deeds.Deed.{Deed}
use Rattle.nm_outcomes.specs.declared.spots.deeds.Deed.TheVariants as deed
use Rattle.nm_outcomes.specs.Deeds.{happening}
use Rattle.nm_outcomes.specs.RankStates.{IsSpotOf, Spot, is_cancel_by, is_claim_by}
use Rattle.nm_outcomes.specs.RankStates.{is_closed_at, is_gone_at, is_that, own_of}
use Rattle.nm_outcomes.specs.RankStates.{with_arrival, with_pair}
use Rattle.nm_outcomes.proofs.ListLemmas.{any-map, any-placed_new, count-placed_new}
use Rattle.nm_outcomes.proofs.ListLemmas.{find-placed_new}
use Rattle.std.specs.Prelude.{filter_map}

-- the place of a history
abbrev pub place_at : List Event → RankPoint
place_at h = record {
  told = filter_map (λ (e : Event). told_by e.what) h;
  done = length (ran_lines h);
  begun = starts_since h;
  named = λ q. line_of_name [] h q;
  requests = λ line. request_at h line;
  handled = λ m. line_of_handle [] h m;
  claims = λ line. claim_at h line;
  receives = open_receives h;
  messages = free_messages h;
  pairs = λ number. pair_of_receive h number;
  off = λ number. happened (is_cancel number) h;
  known = λ from n. message_of h from n;
  arrived = λ from n. happened (is_arrival from n) h;
  taken = λ from n. is_taken h from n;
  claimed = λ from n. happened (is_claim from n) h;
  withdrawn = λ from n. happened (is_withdraw from n true) h;
  sent = λ to. envelopes_to 0 h to;
  lines = λ to. map (λ s. s.line) (sends h to);
  unasked = λ to n. is_unasked (sends h to) n;
  recalled = λ to n. happened (is_recall to n) h;
  came = λ from. length (arrivals h from);
}

place_is : (h : List Event) → IsPlaceOf 0 [] h (place_at h)
place_is h = record {
  told = refl;
  done = refl;
  begun = refl;
  named = λ q. refl;
  requests = λ line. refl;
  handled = λ m. refl;
  claims = λ line. refl;
  receives = refl;
  messages = refl;
  pairs = λ number. refl;
  off = λ number. refl;
  known = λ from n. refl;
  arrived = λ from n. refl;
  taken = λ from n. refl;
  claimed = λ from n. refl;
  withdrawn = λ from n. refl;
  sent = λ to. refl;
  lines = λ to. refl;
  unasked = λ to n. refl;
  recalled = λ to n. refl;
  came = λ from. refl;
}

-- the events of commands, after one event more
own-push : (h : List Event) (e : Event) →
    own_of (h ++ e ∷ []) ≡ own_of h ++ (if not (is_of_packet e.what) then e.what ∷ [] else [])
own-push h e =
    ap (λ (ws : List Happened). filter (λ what. not (is_of_packet what)) ws)
    (map-append (λ (e : Event). e.what) h (e ∷ []))
    ∙ filter-append (λ what. not (is_of_packet what)) (map (λ (e : Event). e.what) h) (e.what ∷ [])

-- a test that no event of a packet passes looks at the events of commands alone
pub own_any : (test : Happened → Bool) → ((what : Happened) → is_of_packet what ≡ true → test what ≡ false) →
    (h : List Event) → happened test h ≡ list_any test (own_of h)
own_any test never [] = refl
own_any test never (e ∷ h) = by_kind (is_of_packet e.what) refl (own_any test never h)
  where
    by_kind : (b : Bool) → is_of_packet e.what ≡ b → happened test h ≡ list_any test (own_of h) →
        (test e.what || happened test h) ≡ list_any test (cond (not b) (e.what ∷ own_of h) (own_of h))
    by_kind true packet later = rw (never e.what packet) later
    by_kind false own later = ap (λ (b : Bool). test e.what || b) later

no_cancel : (number : ℕ) (what : Happened) → is_of_packet what ≡ true → is_cancel number what ≡ false
no_cancel number (event.Cancel number' done) packet = absurd (false≢true packet)
no_cancel number what packet = refl

no_claim : (from n : ℕ) (what : Happened) → is_of_packet what ≡ true → is_claim from n what ≡ false
no_claim from n (event.Claim from' n' line) packet = absurd (false≢true packet)
no_claim from n what packet = refl

cancel_by : (lines : List Line) (number : ℕ) (d : Deed) → is_cancel number (happening lines d) ≡ is_cancel_by number d
cancel_by lines number (deed.Cancel number' done) = refl
cancel_by lines number (deed.Send to n tag ctx len how line) = refl
cancel_by lines number (deed.Post r line) = refl
cancel_by lines number (deed.Match number' from n cap line) = refl
cancel_by lines number (deed.Recall to n) = refl
cancel_by lines number (deed.Claim from n line) = refl
cancel_by lines number (deed.Ran line reply) = refl

claim_by : (lines : List Line) (from n : ℕ) (d : Deed) → is_claim from n (happening lines d) ≡ is_claim_by from n d
claim_by lines from n (deed.Claim from' n' line) = refl
claim_by lines from n (deed.Send to m tag ctx len how line) = refl
claim_by lines from n (deed.Post r line) = refl
claim_by lines from n (deed.Match number' from' m cap line) = refl
claim_by lines from n (deed.Cancel number done) = refl
claim_by lines from n (deed.Recall to m) = refl
claim_by lines from n (deed.Ran line reply) = refl

-- a message is withdrawn, or was to be
abbrev pub is_withdraw_any : Happened → Bool
is_withdraw_any (event.Withdraw from n done) = true
is_withdraw_any _ = false

-- the pairs with one more, if there is one
abbrev pub pairs_with : Option Pair → List Pair → List Pair
pairs_with None pairs = pairs
pairs_with (Some pair) pairs = with_pair pair pairs

abbrev pub came_with : Option Arrival → List Arrival → List Arrival
came_with None came = came
came_with (Some a) came = with_arrival a came

module _ (lines : List Line) (h : List Event) (spot : Spot) (is : IsSpotOf lines h spot) where
  pub off_is : (number : ℕ) → list_any (is_cancel_by number) spot.deeds ≡ happened (is_cancel number) h
  off_is number =
      sym (any-map (happening lines) (is_cancel number) (is_cancel_by number) spot.deeds (cancel_by lines number))
      ∙ ap (λ (ws : List Happened). list_any (is_cancel number) ws) is.deeds
      ∙ sym (own_any (is_cancel number) (no_cancel number) h)

  claimed_is : (from n : ℕ) → list_any (is_claim_by from n) spot.deeds ≡ happened (is_claim from n) h
  claimed_is from n =
      sym (any-map (happening lines) (is_claim from n) (is_claim_by from n) spot.deeds (claim_by lines from n))
      ∙ ap (λ (ws : List Happened). list_any (is_claim from n) ws) is.deeds
      ∙ sym (own_any (is_claim from n) (no_claim from n) h)

  pub closed_is : (number : ℕ) → is_closed_at spot number
      ≡ (is_some (pair_of_receive h number) || happened (is_cancel number) h)
  closed_is number =
      ap (λ (b : Bool). b || list_any (is_cancel_by number) spot.deeds)
      (sym (found_any (is_of_receive number) spot.pairs) ∙ ap (λ (o : Option Pair). is_some o) (is.paired number))
      ∙ ap (λ (b : Bool). is_some (pair_of_receive h number) || b) (off_is number)

  pub gone_is : (from n : ℕ) → is_gone_at spot from n
      ≡ (is_taken h from n || happened (is_claim from n) h || happened (is_withdraw from n true) h)
  gone_is from n =
      ap (λ (b : Bool). b || list_any (is_claim_by from n) spot.deeds || list_any (is_that from n) spot.withdrawn)
      (is.taken from n)
      ∙ ap (λ (b : Bool). is_taken h from n || b || list_any (is_that from n) spot.withdrawn) (claimed_is from n)
      ∙ ap (λ (b : Bool). is_taken h from n || happened (is_claim from n) h || b) (is.withdrawn from n)

  module _ (stamp : ℕ) (what : Happened) (fine : IsProper h what) where
    pub next : IsPlaceOf 0 [] (h ++ record { stamp = stamp; what = what } ∷ []) (after 0 [] (place_at h) what)
    next = places_follow 0 [] h (record { stamp = stamp; what = what }) (place_at h) fine (place_is h)

    pub paired_next : (o : Option Pair) → pair_by (place_at h) what ≡ o → (number : ℕ) →
        find (is_of_receive number) (pairs_with o spot.pairs)
        ≡ pair_of_receive (h ++ record { stamp = stamp; what = what } ∷ []) number
    paired_next o made number =
        by_made o
        ∙ ap (λ (x : Option Pair). or_else x (find (is_of_receive number) (option_to_list o))) (is.paired number)
        ∙ ap (λ (x : Option Pair). or_else (pair_of_receive h number) (find (is_of_receive number) (option_to_list x)))
        (sym made)
        ∙ next.pairs number
      where
        new : (pair : Pair) → is_of_receive number pair ≡ true →
            list_any (is_of_receive pair.number) spot.pairs ≡ false → find (is_of_receive number) spot.pairs ≡ None
        new pair passes none =
            find_nothing (is_of_receive number) spot.pairs
            (subst (λ (k : ℕ). list_any (is_of_receive k) spot.pairs ≡ false) (same_number pair.number number passes)
            none)

        by_made : (o : Option Pair) → find (is_of_receive number) (pairs_with o spot.pairs)
            ≡ or_else (find (is_of_receive number) spot.pairs) (find (is_of_receive number) (option_to_list o))
        by_made None = sym (or_none (find (is_of_receive number) spot.pairs))
        by_made (Some pair) =
            find-placed_new (is_of_receive pair.number) (is_of_receive number) _ pair spot.pairs (new pair)

    pub taken_next : (o : Option Pair) → pair_by (place_at h) what ≡ o → (from n : ℕ) →
        list_any (is_of_message from n) (pairs_with o spot.pairs)
        ≡ is_taken (h ++ record { stamp = stamp; what = what } ∷ []) from n
    taken_next o made from n =
        by_made o
        ∙ ap (λ (b : Bool). b || list_any (is_of_message from n) (option_to_list o)) (is.taken from n)
        ∙ ap (λ (x : Option Pair). is_taken h from n || list_any (is_of_message from n) (option_to_list x)) (sym made)
        ∙ next.taken from n
      where
        by_made : (o : Option Pair) → list_any (is_of_message from n) (pairs_with o spot.pairs)
            ≡ (list_any (is_of_message from n) spot.pairs || list_any (is_of_message from n) (option_to_list o))
        by_made None = sym (or-false _)
        by_made (Some pair) = any-placed_new (is_of_receive pair.number) (is_of_message from n) _ pair spot.pairs

    pub known_next : (o : Option Arrival) → arrival_of what ≡ o → (from n : ℕ) →
        find (is_message from n) (came_with o spot.came)
        ≡ message_of (h ++ record { stamp = stamp; what = what } ∷ []) from n
    known_next o brought from n =
        by_arrival o
        ∙ ap (λ (x : Option Arrival). or_else x (find (is_message from n) (cons_option o []))) (is.known from n)
        ∙ ap (λ (x : Option Arrival). or_else (message_of h from n) (find (is_message from n) (cons_option x [])))
        (sym brought)
        ∙ next.known from n
      where
        new : (a : Arrival) → is_message from n a ≡ true → list_any (is_message a.env.from a.n) spot.came ≡ false →
            find (is_message from n) spot.came ≡ None
        new a passes none =
            find_nothing (is_message from n) spot.came
            (subst (λ (k : ℕ). list_any (is_message from k) spot.came ≡ false)
            (same_number a.n n (and_right (a.env.from == from) (a.n == n) passes))
            (subst (λ (k : ℕ). list_any (is_message k a.n) spot.came ≡ false)
            (same_number a.env.from from (and_left (a.env.from == from) (a.n == n) passes)) none))

        by_arrival : (o : Option Arrival) → find (is_message from n) (came_with o spot.came)
            ≡ or_else (find (is_message from n) spot.came) (find (is_message from n) (cons_option o []))
        by_arrival None = sym (or_none (find (is_message from n) spot.came))
        by_arrival (Some a) =
            find-placed_new (is_message a.env.from a.n) (is_message from n) _ a spot.came (new a)

    pub came_next : (o : Option Arrival) → arrival_of what ≡ o →
        (from : ℕ) → length (filter (λ a. a.env.from == from) (came_with o spot.came))
        ≡ length (arrivals (h ++ record { stamp = stamp; what = what } ∷ []) from)
    came_next o brought from =
        by_arrival o
        ∙ ap (λ (n : ℕ). n + length (filter (λ (a : Arrival). a.env.from == from) (cons_option o []))) (is.came from)
        ∙ ap (λ (x : Option Arrival). length (arrivals h from)
        + length (filter (λ (a : Arrival). a.env.from == from) (cons_option x []))) (sym brought)
        ∙ ap (λ (n : ℕ). length (arrivals h from) + n) (counted what) ∙ next.came from
      where
        counted : (what : Happened) → length (filter (λ (a : Arrival). a.env.from == from)
            (cons_option (arrival_of what) []))
            ≡ length (filter (λ a. a.arrival.env.from == from) (cons_option (arrived_of 0 what) []))
        counted (event.Arrive a) = by_test (a.env.from == from)
          where
            by_test : (b : Bool) → length {A = Arrival} (cond b (a ∷ []) [])
                ≡ length {A = Arrived} (cond b (record { stamp = 0; arrival = a } ∷ []) [])
            by_test true = refl
            by_test false = refl
        counted what = refl

        none_more : (n : ℕ) → n ≡ n + 0
        none_more n = omega arith

        by_arrival : (o : Option Arrival) → length (filter (λ a. a.env.from == from) (came_with o spot.came))
            ≡ length (filter (λ a. a.env.from == from) spot.came)
            + length (filter (λ (a : Arrival). a.env.from == from) (cons_option o []))
        by_arrival None = none_more _
        by_arrival (Some a) =
            count-placed_new (is_message a.env.from a.n) (λ (b : Arrival). b.env.from == from) _ a spot.came

    pub withdrawn_next : is_withdraw_any what ≡ false → (from n : ℕ) →
        list_any (is_that from n) spot.withdrawn
        ≡ happened (is_withdraw from n true) (h ++ record { stamp = stamp; what = what } ∷ [])
    withdrawn_next other from n =
        is.withdrawn from n ∙ sym (or-false _)
        ∙ ap (λ (b : Bool). happened (is_withdraw from n true) h || b) (sym (none what other)) ∙ next.withdrawn from n
      where
        none : (what : Happened) → is_withdraw_any what ≡ false → is_withdraw from n true what ≡ false
        none (event.Withdraw from' n' done) other = absurd (false≢true (sym other))
        none what other = refl

    pub deeds_next : (d : Deed) → happening lines d ≡ what → is_of_packet what ≡ false →
        map (happening lines) (spot.deeds ++ d ∷ []) ≡ own_of (h ++ record { stamp = stamp; what = what } ∷ [])
    deeds_next d is_what own =
        map-append (happening lines) spot.deeds (d ∷ [])
        ∙ ap (λ (ws : List Happened). ws ++ happening lines d ∷ []) is.deeds
        ∙ ap (λ (w : Happened). own_of h ++ w ∷ []) is_what
        ∙ ap (λ (b : Bool). own_of h ++ (if not b then what ∷ [] else [])) (sym own)
        ∙ sym (own-push h (record { stamp = stamp; what = what }))

    pub deeds_same : is_of_packet what ≡ true →
        map (happening lines) spot.deeds ≡ own_of (h ++ record { stamp = stamp; what = what } ∷ [])
    deeds_same packet =
        is.deeds ∙ sym (append-nil (own_of h))
        ∙ ap (λ (b : Bool). own_of h ++ (if not b then what ∷ [] else [])) (sym packet)
        ∙ sym (own-push h (record { stamp = stamp; what = what }))
