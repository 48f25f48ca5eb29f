-- Whether the message that a receive took is here, as its grant tells.
use Rattle.std.proofs.Common.{◌≡◌, ℕ, ◌+◌, ◌<◌, ◌≤◌, ◌^◌, ◌==◌, ◌&&◌, ◌⊎◌, inl, inr, Bool, true, false, Option}
use Rattle.std.proofs.Common.{Some, List}
use Rattle.std.proofs.Common.{length, refl, sym, ◌∙◌, ap, subst, arith}
use Rattle.std.proofs.Common.{nat_lt}
use Rattle.std.specs.List.{find, slice_get}
use Rattle.std.specs.Option.{option_map_or}
use Rattle.std.proofs.lemmas.Bool.{OnTrue_at, cases_lt, eq-eqb, ltb-true, true≢false}
use Rattle.std.proofs.lemmas.List.Elements.{All-from_recursion}
use Rattle.std.proofs.lemmas.Option.{same_Some}
use Rattle.nm_types.specs.declared.messages.Arrival.{Arrival}
use Rattle.nm_types.specs.declared.packets.Packet.{Packet}
use Rattle.nm_history.specs.declared.events.Event.{Event}
use Rattle.nm_history.specs.Happens.{happened, is_whole}
use Rattle.nm_history.specs.Matching.{is_of_receive, matched_pairs, pair_of_claimed as pair}
use Rattle.nm_history.specs.Sends.{is_ask}
use Rattle.nm_history.proofs.OnceLemmas.{find_among}
use Rattle.nm_rndv.specs.Grants.{Granted, grant_in, is_open, is_whole as is_whole_grant, is_whole_in}
use Rattle.nm_receiving.specs.declared.receipts.Receipt.{Receipt}
use Rattle.nm_receiving.specs.declared.receipts.Receive.{Receive}
use Rattle.nm_receiving.specs.Calls.{MayBeTakenIn}
use Rattle.nm_receiving.specs.Kept.{HasBytes, IsGranted, ReceivingInvariant}
use Rattle.nm_receiving.specs.Receipts.{ReceivingView, granted_to, is_empty_ask, receipt_of}
use Rattle.nm_receiving.specs.Steps.{rows_from}
use Rattle.nm_receiving.proofs.Facts.{Whole_in}
use Rattle.nm_receiving.proofs.Showing.{pair_here}
use Rattle.nm_receiving.proofs.Tables.{took}
use Rattle.nm_types.proofs.NumberLemmas.{eq_true, unequal}
use Rattle.nm_types.proofs.OptionLemmas.{some_and}

-- one message more of a sender leaves their number within 64 bits
pub few_more : (v : ReceivingView) → ReceivingInvariant v → (p : Packet) → MayBeTakenIn v p →
    (rows : List (List Receipt)) → rows ≡ v.receipts → length (rows_from rows p.from) + 1 < 2 ^ 64
few_more v kept p may rows same =
    let count = kept.tables.counts p.from in
    let few = may.few in
    subst (λ (rs : List (List Receipt)). length (rows_from rs p.from) + 1 < 2 ^ 64) (sym same)
    (omega (arith, count, few))

-- a receive that did not end, and the message that it took
module _ (v : ReceivingView) (kept : ReceivingInvariant v) (number : ℕ) (r : Receive)
    (here : slice_get v.receives number ≡ Some r) (live : r.ended ≡ false) (a : Arrival) (some : r.taken ≡ Some a) where
  abbrev h : List Event
  h = kept.history

  came : (m : Receipt) × (receipt_of v a.env.from a.n ≡ Some m) × (m.arrival ≡ a) × HasBytes v m
  came = let had = kept.tables.taken number r a here some in (had.0, had.1.0, had.1.1, had.2 live)

  -- one without bytes that was asked for is here
  empty_here : is_ask a.env.how ≡ true → a.env.len ≡ 0 → came.0.whole ≡ true
  empty_here asked none =
      let found : find (is_of_receive number) (matched_pairs h) ≡ Some (pair number r.cap a) =
      sym (kept.received.pairs number) ∙ pair_here v number r here a some in
      let whole = find_among (Whole_in h) (is_of_receive number) (matched_pairs h) (pair number r.cap a)
      (All-from_recursion (Whole_in h) (matched_pairs h) kept.received.empty) found in
      let empty : is_empty_ask a ≡ true =
      ap (λ (b : Bool). b && a.env.len == 0) asked ∙ eq_true a.env.len 0 none in
      let is : happened (is_whole a.env.from a.n) h ≡ true = OnTrue_at empty whole in
      ap (λ (o : Option Receipt). option_map_or (λ m. m.whole) o false) (sym came.1)
      ∙ kept.received.whole a.env.from a.n ∙ is

  -- all of its bytes came exactly where it is whole
  full : is_ask a.env.how ≡ true → (g : Granted) → grant_in (granted_to v a.env.from) a.n ≡ Some g → (bs : List ℕ) →
      g.bytes ≡ Some bs → (came.0.whole ≡ true → length bs ≡ g.len) → (length bs == g.len) ≡ came.0.whole
  full asked g there bs bytes filled = by came.0.whole refl
    where
      open_is : came.0.whole ≡ false → 0 < a.env.len → is_open g ≡ true
      open_is lacks body =
          let awaited = kept.owed a.env.from a.n came.0 came.1
          (record {
            asked = ap (λ (x : Arrival). is_ask x.env.how) came.2 ∙ asked;
            body = subst (λ (x : Arrival). 0 < x.env.len) (sym came.2) body;
            taken = took v h kept.received number r a here some;
            lacking = lacks;
          }) in
          let g' = some_and (λ (g : Granted). is_open g ≡ true) (grant_in (granted_to v a.env.from) a.n) awaited in
          subst (λ (g : Granted). is_open g ≡ true) (sym (same_Some g g'.0 (sym there ∙ g'.1))) g'.2

      lacking : came.0.whole ≡ false → length bs ≡ g.len → (0 < a.env.len) ⊎ (a.env.len ≤ 0) → ⊥
      lacking lacks all (inl body) =
          let less : nat_lt (length bs) g.len ≡ true =
          ap (λ (o : Option (List ℕ)). option_map_or (λ bytes. nat_lt (length bytes) g.len) o false) (sym bytes)
          ∙ open_is lacks body in
          omega (arith, all, ltb-true (length bs) g.len less)
      lacking lacks all (inr none) = true≢false (sym (empty_here asked (omega (arith, none))) ∙ lacks)

      by : (b : Bool) → came.0.whole ≡ b → (length bs == g.len) ≡ b
      by true whole = eq-eqb (length bs) g.len (filled whole)
      by false lacks = unequal (length bs) g.len (λ all. lacking lacks all (cases_lt 0 a.env.len))

  pub asked_here : is_ask a.env.how ≡ true → is_whole_in (granted_to v a.env.from) a.n
      ≡ option_map_or (λ m. m.whole) (receipt_of v a.env.from a.n) false
  asked_here asked =
      let m : Receipt = came.0 in
      let g = some_and (IsGranted m) (grant_in (granted_to v m.arrival.env.from) m.arrival.n)
      (came.3.granted (ap (λ (x : Arrival). is_ask x.env.how) came.2 ∙ asked)) in
      let there : grant_in (granted_to v a.env.from) a.n ≡ Some g.0 =
      ap (λ (x : Arrival). grant_in (granted_to v x.env.from) x.n) (sym came.2) ∙ g.1 in
      let bs = some_and (λ (bytes : List ℕ). m.whole ≡ true → length bytes ≡ g.0.len) g.0.bytes g.2.bytes in
      ap (λ (o : Option Granted). option_map_or is_whole_grant o false) there
      ∙ ap (λ (o : Option (List ℕ)). option_map_or (λ bytes. length bytes == g.0.len) o false) bs.1
      ∙ full asked g.0 there bs.0 bs.1 bs.2
      ∙ sym (ap (λ (o : Option Receipt). option_map_or (λ m. m.whole) o false) came.1)
