-- What cancels, withdrawals, claims, pieces and results keep, and events of other kinds.
use Rattle.std.proofs.Common.{◌≡◌, ℕ, ◌+◌, ◌<◌, Bool, true, false, not, Option, Some, None, List, [], ◌∷◌, ◌++◌}
use Rattle.std.proofs.Common.{length, get_or, refl, sym, ◌∙◌, ap, subst, append-nil, append_assoc, ◌⊎◌, inl, inr}
use Rattle.std.specs.List.{slice_get}
use Rattle.std.proofs.Math.ListN.{set}
use Rattle.std.proofs.lemmas.Bool.{cases_eq, true≢false}
use Rattle.nm_history.specs.declared.events.Event.{Event}
use Rattle.nm_history.specs.declared.events.Happened.{Happened}
use Rattle.nm_history.specs.declared.events.Happened.TheVariants.{Arrive, Whole}
use Rattle.nm_history.specs.Happens.{at, is_cancel, is_whole}
use Rattle.nm_history.specs.Matching.{is_free_message, is_matching, matched_pairs}
use Rattle.nm_history.specs.Sends.{arrival_of, receive_of}
use Rattle.nm_history.proofs.MatchingLemmas.{matched_pairs-push_other}
use Rattle.nm_history.specs.Effects.{happenings}
use Rattle.nm_history.specs.Rest.{EmptyAreHere}
use Rattle.nm_history.specs.Rules.{AreRight, IsRightAt}
use Rattle.nm_match.specs.declared.deeds.Deed.{Deed}
use Rattle.nm_match.specs.Deeds.{deeds_after}
use Rattle.nm_receiving.specs.declared.receipts.Receive.{Receive}
use Rattle.nm_receiving.specs.Receipts.{ReceivingView}
use Rattle.nm_receiving.specs.Received.{AreReceived, Preserves}
use Rattle.nm_receiving.proofs.Events.{right-one, unstamp-one}
use Rattle.nm_receiving.proofs.Facts.{empty_more}
use Rattle.nm_receiving.proofs.Grow.{happened_later}
use Rattle.nm_receiving.proofs.Stood.{received_of, stood_of}
use Rattle.std.specs.List.{AllByRecursion, list_any}
use Rattle.std.specs.Option.{option_and_then}
use Rattle.std.proofs.lemmas.List.{get_or-set_other, get_or-set_same, length-set}
use Rattle.std.proofs.lemmas.Option.{slice_get_within}
use Rattle.nm_history.specs.declared.events.Happened.TheVariants.{Post, Cancel, Withdraw, Claim, Match}
use Rattle.nm_history.specs.Matching.{is_of_receive}
use Rattle.nm_rndv.specs.Grants.{Granted, due_in, expected_in, is_open_in, is_whole_in, taken_in, with_piece}
use Rattle.nm_rndv.specs.Pieces.{piece_size}
use Rattle.nm_receiving.specs.Pieces.{AreDue}
use Rattle.nm_receiving.proofs.DueLemmas.{due-piece, due-taken}
use Rattle.nm_match.proofs.StandsLemmas.{paired-stands}
use Rattle.nm_match.specs.Deeds.{history_of}
use Rattle.nm_receiving.specs.Receipts.{drawn_from, granted_to, pair_with}
use Rattle.nm_receiving.specs.Received.{is_of_receiving}
use Rattle.nm_receiving.specs.Steps.{has_cancelled, has_ended, rows_from}
use Rattle.nm_receiving.proofs.Cancelling.{stood-cancelled, stood-late}
use Rattle.nm_receiving.proofs.Lists.{row-other, row-same}
use Rattle.nm_receiving.proofs.Stood.{is_cancelled_at, stood-quiet, with_deeds}
use Rattle.nm_types.proofs.ListLemmas.{get_set_other, get_set_same}

-- an event that makes no pair
still_empty : (h : List Event) (e : Event) → is_matching e.what ≡ false → EmptyAreHere h → EmptyAreHere (h ++ e ∷ [])
still_empty h e silent empty =
    empty_more h (h ++ e ∷ []) None (matched_pairs-push_other h e silent ∙ sym (append-nil (matched_pairs h)))
    (λ i k. happened_later (is_whole i k) h (e ∷ [])) (λ q is. absurd (let h' : ⊥ = cc in h')) empty

-- an event of no receive and of no message
quiet : (v : ReceivingView) (h : List Event) (stamp : ℕ) (what : Happened) → is_of_receiving what ≡ false
    → AreReceived v h → AreReceived v (h ++ at stamp what ∷ [])
quiet v h stamp (Post p line) none received = absurd (true≢false none)
quiet v h stamp (Arrive a) none received = absurd (true≢false none)
quiet v h stamp (Whole from n) none received = absurd (true≢false none)
quiet v h stamp (Cancel number done) none received = absurd (true≢false none)
quiet v h stamp (Withdraw from n done) none received = absurd (true≢false none)
quiet v h stamp (Claim from n line) none received = absurd (true≢false none)
quiet v h stamp (Match number from n cap line) none received = absurd (true≢false none)
quiet v h stamp what none received =
    received_of v (h ++ at stamp what ∷ [])
    (stood-quiet v h (at stamp what) (stood_of v h received) v.deeds refl refl refl refl (λ _ _. refl) (λ _. refl))
    (still_empty h (at stamp what) refl received.empty)

pub quiet_events : (v : ReceivingView) (h events : List Event) → AllByRecursion (λ e. is_of_receiving e.what ≡ false)
    events
    → AreReceived v h → AreReceived v (h ++ events)
quiet_events v h [] none received = subst (λ (k : List Event). AreReceived v k) (sym (append-nil h)) received
quiet_events v h (e ∷ events) none received =
    subst (λ (k : List Event). AreReceived v k) (append_assoc h (e ∷ []) events)
    (quiet_events v (h ++ e ∷ []) events none.1 (quiet v h e.stamp e.what none.0 received))

-- an event that changes the deeds alone
pub keeps-deeds : (v : ReceivingView) (w : Happened) (deeds : List Deed) → deeds ≡ deeds_after v.deeds w →
    is_matching w ≡ false
    → arrival_of w ≡ None → receive_of w ≡ None → ((from n : ℕ) → is_whole from n w ≡ false) →
    ((k : ℕ) → is_cancel k w ≡ false)
    → (h events : List Event) → happenings events ≡ w ∷ [] → AreReceived v h → AreReceived (with_deeds v deeds)
    (h ++ events)
keeps-deeds v w deeds done silent no_arrival no_receive not_whole not_cancel h events happens received =
    unstamp-one (λ events. AreReceived (with_deeds v deeds) (h ++ events)) events w
    (λ s. received_of (with_deeds v deeds) (h ++ at s w ∷ [])
    (stood-quiet v h (at s w) (stood_of v h received) deeds done silent no_arrival no_receive not_whole not_cancel)
    (still_empty h (at s w) silent received.empty))
    happens

-- a claim of a message that is free
pub keeps-claim : (v : ReceivingView) (from n line : ℕ) (deeds : List Deed)
    → deeds ≡ deeds_after v.deeds (Claim from n line)
    → ((h : List Event) → AreReceived v h → is_free_message h (matched_pairs h) from n ≡ true)
    → Preserves v (with_deeds v deeds) (Claim from n line ∷ [])
keeps-claim v from n line deeds done free h events happens received right = (
  keeps-deeds v (Claim from n line) deeds done refl refl refl (λ _ _. refl) (λ _. refl) h events happens received,
  unstamp-one (λ events. AreRight v.sizes.ranks h events) events (Claim from n line)
      (λ s. right-one v.sizes.ranks h (at s (Claim from n line))
      (record {
        numbers = tt;
        matches = tt;
        claims = free h received;
        cancels = tt;
        wholes = tt;
        ends = tt;
      })) happens,
)

-- a cancel
right_cancel : (v : ReceivingView) (h : List Event) (number : ℕ) (done : Bool) → AreReceived v h
    → done ≡ not (list_any (is_of_receive number) (matched_pairs (history_of v.deeds))) → IsRightAt v.sizes.ranks h
    (Cancel number done)
right_cancel v h number done received late = record {
  numbers = tt;
  matches = tt;
  claims = tt;
  cancels = late ∙ ap not (sym (paired-stands v.deeds h received.stands number));
  wholes = tt;
  ends = tt;
}

pub keeps-late : (v : ReceivingView) (number : ℕ) →
    false ≡ not (list_any (is_of_receive number) (matched_pairs (history_of v.deeds)))
    → Preserves v v (Cancel number false ∷ [])
keeps-late v number late h events happens received right =
    unstamp-one (λ events. AreReceived v (h ++ events) × AreRight v.sizes.ranks h events) events (Cancel number false)
    (λ s. (
      received_of v (h ++ at s (Cancel number false) ∷ []) (stood-late v h (stood_of v h received) s number)
          (still_empty h (at s (Cancel number false)) refl received.empty),
      right-one v.sizes.ranks h (at s (Cancel number false)) (right_cancel v h number false received late),
    ))
    happens

pub keeps-cancelled : (v : ReceivingView) (number : ℕ) (r : Receive) → slice_get v.receives number ≡ Some r →
    (deeds : List Deed)
    → deeds ≡ deeds_after v.deeds (Cancel number true)
    → true ≡ not (list_any (is_of_receive number) (matched_pairs (history_of v.deeds)))
    → Preserves v (record v { deeds = deeds; receives = set v.receives number (has_cancelled r) }) (Cancel number true ∷ [])
keeps-cancelled v number r here deeds done late h events happens received right =
    let v' : ReceivingView = record v { deeds = deeds; receives = set v.receives number (has_cancelled r) } in
    unstamp-one (λ events. AreReceived v' (h ++ events) × AreRight v.sizes.ranks h events) events (Cancel number true)
    (λ s. (
      received_of v' (h ++ at s (Cancel number true) ∷ [])
          (stood-cancelled v h (stood_of v h received) s number r here deeds done)
          (still_empty h (at s (Cancel number true)) refl received.empty),
      right-one v.sizes.ranks h (at s (Cancel number true)) (right_cancel v h number true received late),
    ))
    happens

-- other grants, of which the same is due
with_due : (v : ReceivingView) (grants : List (List (ℕ × Granted))) (drawn : List ℕ) (h : List Event)
    → ((from : ℕ) → AreDue (rows_from grants from) h from (get_or drawn from 0)) → AreReceived v h
    → AreReceived (record v { grants = grants; drawn = drawn }) h
with_due v grants drawn h due all = record {
  stands = all.stands;
  arrived = all.arrived;
  messages = all.messages;
  whole = all.whole;
  count = all.count;
  pairs = all.pairs;
  cancelled = all.cancelled;
  due = due;
  empty = all.empty;
}

-- a piece that continues
pub keeps-piece : (v : ReceivingView) (from n at' : ℕ) (bytes : List ℕ) → from < length v.grants → from < length v.drawn
    → expected_in (granted_to v from) ≡ Some (n, at') → length bytes ≡ piece_size (due_in (granted_to v from))
    → is_open_in (granted_to v from) n ≡ true → (h : List Event) → AreReceived v h
    → AreReceived (record v {
      grants = set v.grants from (with_piece (granted_to v from) n bytes);
      drawn = set v.drawn from (drawn_from v from + 1);
    }) h
keeps-piece v from n at' bytes inside inside' expected size is h received =
    with_due v (set v.grants from row) (set v.drawn from (drawn_from v from + 1)) h (λ i. by i (cases_eq i from))
    received
  where
    row : List (ℕ × Granted)
    row = with_piece (granted_to v from) n bytes

    by : (i : ℕ) → (i ≡ from) ⊎ (i ≡ from → ⊥) → AreDue (get_or (set v.grants from row) i []) h i
        (get_or (set v.drawn from (drawn_from v from + 1)) i 0)
    by i (inl same) =
        subst (λ (j : ℕ). AreDue (get_or (set v.grants from row) j []) h j
        (get_or (set v.drawn from (drawn_from v from + 1)) j 0)) (sym same)
        (rw (
          row-same v.grants from row from refl inside,
          get_or-set_same v.drawn from (drawn_from v from + 1) 0
              inside',
        )
        (due-piece (granted_to v from) h from (drawn_from v from) n at' bytes expected size is (received.due from)))
    by i (inr differ) =
        rw (row-other v.grants from row i differ, get_or-set_other v.drawn from i (drawn_from v from + 1) 0 differ)
        (received.due i)

-- a receive that ended
pub keeps-ended : (v : ReceivingView) (k : ℕ) (r : Receive) → slice_get v.receives k ≡ Some r →
    (h : List Event) → AreReceived v h
    → AreReceived (record v { receives = set v.receives k (has_ended r) }) h
keeps-ended v k r here h all = record {
  stands = all.stands;
  arrived = all.arrived;
  messages = all.messages;
  whole = all.whole;
  count = length-set v.receives k (has_ended r) ∙ all.count;
  pairs = λ i. same_pair i (cases_eq i k) ∙ all.pairs i;
  cancelled = λ i. same_cancelled i (cases_eq i k) ∙ all.cancelled i;
  due = all.due;
  empty = all.empty;
}
  where
    at_k : slice_get (set v.receives k (has_ended r)) k ≡ Some (has_ended r)
    at_k = get_set_same v.receives k (has_ended r) (slice_get_within v.receives k r here)

    same_pair : (i : ℕ) → (i ≡ k) ⊎ (i ≡ k → ⊥)
        → option_and_then (pair_with i) (slice_get (set v.receives k (has_ended r)) i) ≡ option_and_then (pair_with i)
        (slice_get v.receives i)
    same_pair i (inl same) =
        ap (λ (j : ℕ). option_and_then (pair_with j) (slice_get (set v.receives k (has_ended r)) j)) same
        ∙ ap (λ (o : Option Receive). option_and_then (pair_with k) o) at_k
        ∙ sym (ap (λ (o : Option Receive). option_and_then (pair_with k) o) here)
        ∙ ap (λ (j : ℕ). option_and_then (pair_with j) (slice_get v.receives j)) (sym same)
    same_pair i (inr differ) = ap (λ (o : Option Receive). option_and_then (pair_with i) o)
        (get_set_other v.receives k i (has_ended r) differ)

    same_cancelled : (i : ℕ) → (i ≡ k) ⊎ (i ≡ k → ⊥)
        → is_cancelled_at (slice_get (set v.receives k (has_ended r)) i) ≡ is_cancelled_at (slice_get v.receives i)
    same_cancelled i (inl same) =
        ap (λ (j : ℕ). is_cancelled_at (slice_get (set v.receives k (has_ended r)) j)) same
        ∙ ap is_cancelled_at at_k ∙ sym (ap is_cancelled_at here)
        ∙ ap (λ (j : ℕ). is_cancelled_at (slice_get v.receives j)) (sym same)
    same_cancelled i (inr differ) = ap is_cancelled_at (get_set_other v.receives k i (has_ended r) differ)

-- the bytes of a granted message that are taken
pub keeps-taken : (v : ReceivingView) (from n : ℕ) → from < length v.grants → is_whole_in (granted_to v from) n ≡ true
    → (h : List Event) → AreReceived v h
    → AreReceived (record v { grants = set v.grants from (taken_in (granted_to v from) n) }) h
keeps-taken v from n inside whole h received =
    with_due v (set v.grants from row) v.drawn h (λ i. by i (cases_eq i from)) received
  where
    row : List (ℕ × Granted)
    row = taken_in (granted_to v from) n

    by : (i : ℕ) → (i ≡ from) ⊎ (i ≡ from → ⊥) → AreDue (get_or (set v.grants from row) i []) h i (get_or v.drawn i 0)
    by i (inl same) =
        subst (λ (j : ℕ). AreDue (get_or (set v.grants from row) j []) h j (get_or v.drawn j 0)) (sym same)
        (rw (row-same v.grants from row from refl inside)
        (due-taken (granted_to v from) h from (drawn_from v from) n whole (received.due from)))
    by i (inr differ) = rw (row-other v.grants from row i differ) (received.due i)
