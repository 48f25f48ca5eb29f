-- What the tables answer: whether a piece is due, and what became of a receive.
use Rattle.std.proofs.Common.{◌≡◌, ℕ, ◌<◌, ◌≤◌, Bool, true, false, not, ◌||◌, is_some, nat_lt, Option, Some, None, List}
use Rattle.std.proofs.Common.{◌↔◌, length, refl, sym, ◌∙◌, ap, arith}
use Rattle.std.proofs.Common.{◌⊎◌, inl, inr}
use Rattle.std.specs.List.{list_any, slice_get}
use Rattle.std.specs.Option.{option_and_then, option_map, option_map_or}
use Rattle.std.proofs.lemmas.Bool.{cases_lt, le-ltb, lt-ltb, true≢false}
use Rattle.std.proofs.lemmas.Bool.Decides.{nat_tests}
use Rattle.std.proofs.lemmas.Option.{slice_get_within}
use Rattle.nm_types.specs.declared.messages.Arrival.{Arrival}
use Rattle.nm_history.specs.declared.events.Event.{Event}
use Rattle.nm_history.specs.declared.plain.Pair.{Pair}
use Rattle.nm_history.specs.Completion.{is_complete, is_here, pair_of_receive}
use Rattle.nm_history.specs.Completion.Request.{Receiving}
use Rattle.nm_history.specs.Pieces.{Due, due_pieces}
use Rattle.nm_history.specs.Happens.{happened, is_cancel}
use Rattle.nm_history.specs.Matching.{is_of_receive, matched_pairs, pair_of_claimed as pair}
use Rattle.nm_history.proofs.Basic.{or_false, or_true}
use Rattle.nm_kept.specs.Entering.{kept_if}
use Rattle.nm_kept.proofs.EntryLemmas.{kept_there}
use Rattle.nm_match.specs.Deeds.{history_of}
use Rattle.nm_match.proofs.StandsLemmas.{paired-stands}
use Rattle.nm_rndv.specs.Grants.{AllWhole, Granted, expected_in, first_unfinished}
use Rattle.nm_rndv.proofs.GrantLemmas.{none_expected}
use Rattle.nm_receiving.specs.Pieces.{AreDue}
use Rattle.nm_receiving.proofs.DueLemmas.{due-first}
use Rattle.nm_receiving.proofs.PieceLemmas.{due_of_grants-first}
use Rattle.nm_receiving.specs.declared.receipts.Receipt.{Receipt}
use Rattle.nm_receiving.specs.declared.receipts.Receive.{Receive}
use Rattle.nm_receiving.specs.Kept.{ReceivingInvariant}
use Rattle.nm_receiving.specs.Receipts.{ReceivingView, pair_with, receipt_of}
use Rattle.nm_receiving.specs.Received.{AreReceived}
use Rattle.nm_receiving.specs.Receives.{has_ended_at, is_live, live_at}
use Rattle.nm_receiving.proofs.Stood.{is_cancelled_at, is_whole_at}
use Rattle.nm_types.proofs.ListLemmas.{find_nothing, get_some}
use Rattle.nm_types.proofs.OptionLemmas.{some_mapped}

some_inside : {X : Type 0} (xs : List X) (k : ℕ) → is_some (slice_get xs k) ≡ nat_lt k (length xs)
some_inside {X} xs k = by (cases_lt k (length xs)) (slice_get xs k) refl
  where
    by : (k < length xs) ⊎ (length xs ≤ k) → (o : Option X) → slice_get xs k ≡ o → is_some (slice_get xs k) ≡ nat_lt k
        (length xs)
    by (inl below) None is =
        let there = get_some xs k below in absurd (let same = there.1 in let h : ⊥ = cc in h)
    by (inr past) None is = ap (λ (o : Option X). is_some o) is ∙ sym (le-ltb k (length xs) past)
    by place (Some x) is = ap (λ (o : Option X). is_some o) is ∙ sym (lt-ltb k (length xs) (slice_get_within xs k x is))

-- a piece is due exactly where a grant expects one
pub due_is : (grants : List (ℕ × Granted)) (h : List Event) (from place : ℕ) → AreDue grants h from place
    → is_some (expected_in grants) ≡ nat_lt place (length (due_pieces h from))
due_is grants h from place due =
    some_mapped _ (first_unfinished grants) ∙ sym (some_mapped _ (first_unfinished grants))
    ∙ ap (λ (o : Option Due). is_some o) (sym (due_of_grants-first grants) ∙ due-first grants h from place due)
    ∙ some_inside (due_pieces h from) place

-- no piece is due exactly where every grant is whole
pub none_due : (grants : List (ℕ × Granted)) (h : List Event) (from place : ℕ) → AreDue grants h from place
    → AllWhole grants ↔ (length (due_pieces h from) ≤ place)
none_due grants h from place due = (there, back)
  where
    there : AllWhole grants → length (due_pieces h from) ≤ place
    there whole =
        let is = due_is grants h from place due in
        let expected = none_expected grants in
        let none = expected.1 whole in grind (arith, nat_tests, is, none)

    back : length (due_pieces h from) ≤ place → AllWhole grants
    back past =
        let expected = none_expected grants in
        expected.0 (due_is grants h from place due ∙ le-ltb place (length (due_pieces h from)) past)

-- what became of a receive
pub complete_some : (v : ReceivingView) (h : List Event) → AreReceived v h → (number : ℕ) (r : Receive) →
    slice_get v.receives number ≡ Some r
    → is_complete h (Receiving number)
    ≡ (r.cancelled || option_map_or (λ a. is_whole_at (receipt_of v a.env.from a.n)) r.taken false)
complete_some v h received number r here =
    ap (λ (b : Bool). b || option_map_or (is_here h) (pair_of_receive h number) false)
    (sym (received.cancelled number) ∙ ap is_cancelled_at here)
    ∙ ap (λ (o : Option Pair). r.cancelled || option_map_or (is_here h) o false)
    (sym (received.pairs number) ∙ ap (λ (o : Option Receive). option_and_then (pair_with number) o) here)
    ∙ ap (λ (b : Bool). r.cancelled || b) (by r.taken)
  where
    by : (o : Option Arrival) → option_map_or (is_here h) (option_map (pair number r.cap) o) false
        ≡ option_map_or (λ a. is_whole_at (receipt_of v a.env.from a.n)) o false
    by None = refl
    by (Some a) = sym (received.whole a.env.from a.n)

-- a receive that was cancelled is complete
pub cancelled_complete : (v : ReceivingView) (h : List Event) → AreReceived v h → (number : ℕ) (r : Receive) →
    slice_get v.receives number ≡ Some r → r.cancelled ≡ true → is_complete h (Receiving number) ≡ true
cancelled_complete v h received number r here cancelled =
    complete_some v h received number r here
    ∙ ap (λ (b : Bool). b || option_map_or (λ a. is_whole_at (receipt_of v a.env.from a.n)) r.taken false) cancelled

-- so is one whose message is here whole
pub taken_complete : (v : ReceivingView) (h : List Event) → AreReceived v h → (number : ℕ) (r : Receive) →
    slice_get v.receives number ≡ Some r → (a : Arrival) → r.taken ≡ Some a → (m : Receipt) →
    receipt_of v a.env.from a.n ≡ Some m → m.whole ≡ true → is_complete h (Receiving number) ≡ true
taken_complete v h received number r here a some m came whole =
    complete_some v h received number r here
    ∙ ap (λ (o : Option Arrival). r.cancelled || option_map_or (λ a. is_whole_at (receipt_of v a.env.from a.n)) o false)
    some
    ∙ ap (λ (o : Option Receipt). r.cancelled || is_whole_at o) came
    ∙ ap (λ (b : Bool). r.cancelled || b) whole ∙ or_true r.cancelled

pub complete_none : (v : ReceivingView) (h : List Event) → AreReceived v h →
    (number : ℕ) → slice_get v.receives number ≡ None
    → is_complete h (Receiving number) ≡ false
complete_none v h received number none =
    ap (λ (b : Bool). b || option_map_or (is_here h) (pair_of_receive h number) false)
    (sym (received.cancelled number) ∙ ap is_cancelled_at none)
    ∙ ap (λ (o : Option Pair). option_map_or (is_here h) o false)
    (sym (received.pairs number) ∙ ap (λ (o : Option Receive). option_and_then (pair_with number) o) none)

-- a receive that is not among those that did not end is complete exactly where it was begun
pub gone_complete : (v : ReceivingView) → ReceivingInvariant v → (h : List Event) → AreReceived v h → (number : ℕ) →
    live_at v.receives number ≡ None → nat_lt number (length v.receives) ≡ is_complete h (Receiving number)
gone_complete v kept h received number none = by (slice_get v.receives number) refl none
  where
    by : (o : Option Receive) → slice_get v.receives number ≡ o → kept_if is_live o ≡ None →
        nat_lt number (length v.receives) ≡ is_complete h (Receiving number)
    by None here none' =
        le-ltb number (length v.receives) (past (cases_lt number (length v.receives)))
        ∙ sym (complete_none v h received number here)
      where
        past : (number < length v.receives) ⊎ (length v.receives ≤ number) → length v.receives ≤ number
        past (inr most) = most
        past (inl less) = absurd (let there = get_some v.receives number less in
            let same = there.1 in let h' : ⊥ = cc in h')
    by (Some r) here none' = at r.ended refl
      where
        at : (b : Bool) → r.ended ≡ b → nat_lt number (length v.receives) ≡ is_complete h (Receiving number)
        at true ended =
            lt-ltb number (length v.receives) (slice_get_within v.receives number r here)
            ∙ sym (kept.over number (ap (λ (o : Option Receive). option_map_or (λ r. r.ended) o false) here ∙ ended))
            ∙ complete_some v kept.history kept.received number r here
            ∙ sym (complete_some v h received number r here)
        at false live = absurd (let made = kept_there is_live (Some r) r refl (ap not live) in
            let h' : ⊥ = cc in h')

-- one that ended was cancelled, if it took no message
pub ended_cancelled : (v : ReceivingView) → ReceivingInvariant v → (number : ℕ) →
    true ≡ not (list_any (is_of_receive number) (matched_pairs (history_of v.deeds))) →
    has_ended_at v.receives number ≡ true →
    option_map_or (λ r. r.cancelled) (slice_get v.receives number) false ≡ true
ended_cancelled v kept number late ended =
    let h : List Event = kept.history in
    let unpaired = not_true (list_any (is_of_receive number) (matched_pairs h))
    (late ∙ ap not (sym (paired-stands v.deeds h kept.received.stands number))) in
    kept.received.cancelled number ∙ sym (or_false (happened (is_cancel number) h))
    ∙ ap (λ (o : Option Pair). happened (is_cancel number) h || option_map_or (is_here h) o false)
    (sym (find_nothing (is_of_receive number) (matched_pairs h) unpaired))
    ∙ kept.over number ended
  where
    not_true : (b : Bool) → true ≡ not b → b ≡ false
    not_true true is = absurd (true≢false is)
    not_true false is = refl
