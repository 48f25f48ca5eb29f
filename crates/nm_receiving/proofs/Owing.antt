-- A piece of a sender is expected exactly where a message of it is owed.
use Rattle.std.specs.Prelude.{IsNone}
use Rattle.std.proofs.Common.{◌≡◌, ℕ, ◌<◌, ◌≤◌, ◌==◌, Bool, true, false, ◌&&◌, ◌↔◌, is_some, Option, Some, None}
use Rattle.std.proofs.Common.{List, refl, sym, ◌∙◌, ap, subst, ◌⊎◌, inl, inr, arith}
use Rattle.std.specs.Option.{option_map}
use Rattle.std.proofs.lemmas.Bool.{OnTrue_at, cases_lt, eq-eqb, true≢false}
use Rattle.std.proofs.lemmas.List.Elements.{All-contains, All-from_recursion}
use Rattle.std.proofs.lemmas.Option.{same_Some}
use Rattle.nm_types.specs.declared.messages.Arrival.{Arrival}
use Rattle.nm_history.specs.declared.events.Event.{Event}
use Rattle.nm_history.specs.Completion.{is_taken}
use Rattle.nm_history.specs.Happens.{happened, is_whole}
use Rattle.nm_history.specs.Matching.{matched_pairs}
use Rattle.nm_history.specs.Sends.{is_ask, message_of}
use Rattle.nm_rndv.specs.Grants.{Granted, expected_in, grant_in, is_open}
use Rattle.nm_rndv.proofs.GrantLemmas.{none_expected}
use Rattle.nm_receiving.specs.declared.receipts.Receipt.{Receipt}
use Rattle.nm_receiving.specs.Kept.{HasOpen, ReceivingInvariant}
use Rattle.nm_receiving.specs.Receipts.{ReceivingView, granted_to, is_empty_ask, receipt_of}
use Rattle.nm_receiving.specs.Received.{AreReceived, IsOwed}
use Rattle.nm_receiving.proofs.Events.{same_taken}
use Rattle.nm_receiving.proofs.Facts.{Whole_in, taken_pair}
use Rattle.nm_receiving.proofs.Goings.{names_of}
use Rattle.nm_receiving.proofs.Grants.{grant_among}
use Rattle.nm_receiving.proofs.Lists.{some_from}
use Rattle.nm_receiving.proofs.Stood.{is_whole_at}
use Rattle.nm_receiving.proofs.TablesPiece.{expected_is}
use Rattle.nm_types.proofs.OptionLemmas.{mapped_some, some_and, some_of}

-- where a grant is open, one is expected to go on
open_expected : (row : List (ℕ × Granted)) (n : ℕ) → HasOpen row n → is_some (expected_in row) ≡ true
open_expected row n is = by (expected_in row) refl
  where
    by : (o : Option (ℕ × ℕ)) → expected_in row ≡ o → is_some (expected_in row) ≡ true
    by (Some at') there = ap (λ (o : Option (ℕ × ℕ)). is_some o) there
    by None none =
        let g = some_and (λ (g : Granted). is_open g ≡ true) (grant_in row n) is in
        let whole = none_expected row in
        let shut = grant_among (λ e. is_open e.1 ≡ false) row n g.0
        (whole.0 (subst (λ (o : Option (ℕ × ℕ)). IsNone o) (sym none) refl)) g.1 in
        absurd (true≢false (sym g.2 ∙ shut))

module _ (v : ReceivingView) (kept : ReceivingInvariant v) (from : ℕ) where
  abbrev k : List Event
  k = kept.history

  abbrev row : List (ℕ × Granted)
  row = granted_to v from

  -- a message that has no bytes, was sent by asking and was taken is here
  empty_is_here : (n : ℕ) (r : Receipt) → receipt_of v from n ≡ Some r → is_ask r.arrival.env.how ≡ true
      → is_taken k from n ≡ true → r.arrival.env.len ≡ 0 → r.whole ≡ true
  empty_is_here n r here asked taken none =
      let pair = taken_pair v.sizes.ranks k kept.right from n taken in
      let each = All-contains (Whole_in k) (matched_pairs k) pair.0
      (All-from_recursion (Whole_in k) (matched_pairs k) kept.received.empty) pair.1 in
      let is : pair.0.arrival ≡ r.arrival = same_Some pair.0.arrival r.arrival
      (sym pair.2 ∙ sym (kept.received.messages from n)
      ∙ ap (λ (o : Option Receipt). option_map (λ m. m.arrival) o) here)
      in
      let name = names_of v k kept.received from n r here in
      let empty : is_empty_ask r.arrival ≡ true = ap (λ (b : Bool). b && r.arrival.env.len == 0) asked
      ∙ eq-eqb r.arrival.env.len 0 none in
      let whole : happened (is_whole r.arrival.env.from r.arrival.n) k ≡ true =
      subst (λ (a : Arrival). is_empty_ask a ≡ true → happened (is_whole a.env.from a.n) k ≡ true) is
      (λ e. OnTrue_at e each) empty in
      sym (ap is_whole_at here) ∙ kept.received.whole from n
      ∙ ap (λ (i : ℕ). happened (is_whole i n) k) (sym name.0)
      ∙ ap (λ (j : ℕ). happened (is_whole r.arrival.env.from j) k) (sym name.1) ∙ whole

  module _ (h : List Event) (received : AreReceived v h) where
    same : (n : ℕ) → is_taken h from n ≡ is_taken k from n
    same n = same_taken v.deeds h k received.stands kept.received.stands from n

    due_owed : is_some (expected_in row) ≡ true → (n : ℕ) × IsOwed h from n
    due_owed due =
        let at' = some_of (expected_in row) due in
        let n : ℕ = at'.0.0 in
        let found = expected_is v k from n at'.0.1 kept.tables at'.1 in
        let r : Receipt = found.2 in
        let is = found.3 in (
          n,
          record {
            asked = some_from (λ (a : Arrival). is_ask a.env.how ≡ true) (message_of h from n) r.arrival
                (sym (received.messages from n) ∙ ap (λ (o : Option Receipt). option_map (λ m. m.arrival) o) is.here)
                is.cleared.asked;
            taken = same n ∙ is.cleared.taken;
            lacking = sym (received.whole from n) ∙ ap is_whole_at is.here ∙ is.cleared.due is.is_open';
          },
        )

    owed_due : (n : ℕ) × IsOwed h from n → is_some (expected_in row) ≡ true
    owed_due m =
        let n : ℕ = m.0 in
        let owed : IsOwed h from n = m.1 in
        let a = some_and (λ (a : Arrival). is_ask a.env.how ≡ true) (message_of h from n) owed.asked in
        let r = mapped_some (λ (m : Receipt). m.arrival) (receipt_of v from n) a.0 (received.messages from n ∙ a.1) in
        let asked : is_ask r.0.arrival.env.how ≡ true = ap (λ (x : Arrival). is_ask x.env.how) r.2 ∙ a.2 in
        let taken : is_taken k from n ≡ true = sym (same n) ∙ owed.taken in
        let lacking : r.0.whole ≡ false = sym (ap is_whole_at r.1) ∙ received.whole from n ∙ owed.lacking in
        let open' = kept.owed from n r.0 r.1
        (record { asked = asked; body = body n r.0 r.1 asked taken lacking; taken = taken; lacking = lacking }) in
        open_expected row n open'
      where
        body : (n : ℕ) (r : Receipt) → receipt_of v from n ≡ Some r → is_ask r.arrival.env.how ≡ true
            → is_taken k from n ≡ true → r.whole ≡ false → 0 < r.arrival.env.len
        body n r here asked taken lacking = by (cases_lt 0 r.arrival.env.len)
          where
            by : (0 < r.arrival.env.len) ⊎ (r.arrival.env.len ≤ 0) → 0 < r.arrival.env.len
            by (inl some) = some
            by (inr none) = absurd (true≢false
                (sym (empty_is_here n r here asked taken (omega (arith, none))) ∙ lacking))

    pub expected_where_owed : (is_some (expected_in row) ≡ true) ↔ ((n : ℕ) × IsOwed h from n)
    expected_where_owed = (due_owed, owed_due)
