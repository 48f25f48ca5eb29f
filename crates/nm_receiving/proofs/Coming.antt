-- How the tables stand to a history after a message came.
use Rattle.std.proofs.Common.{◌≡◌, ℕ, ◌+◌, ◌<◌, false, ◌&&◌}
use Rattle.std.proofs.Common.{Option, Some, None, List, [], ◌∷◌, ◌++◌, length, get_or, refl, sym, ◌∙◌, ap, subst, ◌⊎◌}
use Rattle.std.proofs.Common.{inl, inr}
use Rattle.std.proofs.Common.{arith, length-append}
use Rattle.std.specs.List.{slice_get}
use Rattle.std.specs.Option.{option_and_then, option_map, option_to_list}
use Rattle.std.proofs.Math.ListN.{set}
use Rattle.std.proofs.lemmas.Bool.{cases_eq}
use Rattle.std.proofs.lemmas.List.{length-set}
use Rattle.std.proofs.lemmas.Option.{slice_get_past, slice_get_within}
use Rattle.nm_types.specs.declared.messages.Arrival.{Arrival}
use Rattle.nm_types.specs.declared.messages.Post as post
use Rattle.nm_history.specs.declared.events.Event.{Event}
use Rattle.nm_history.specs.declared.events.Happened.TheVariants.{Arrive}
use Rattle.nm_history.specs.declared.plain.Pair.{Pair}
use Rattle.nm_history.specs.Completion.{pair_of_receive}
use Rattle.nm_history.specs.Happens.{at, happened, is_cancel, is_whole}
use Rattle.nm_history.specs.Matching.{first_receive, matched_pairs, pair_of, pair_of_claimed as pair}
use Rattle.nm_history.specs.Sends.{arrivals, message_of}
use Rattle.nm_history.proofs.MatchingLemmas.{matched_pairs-push}
use Rattle.nm_match.specs.declared.deeds.Deed.TheVariants as deed
use Rattle.nm_match.proofs.StandsLemmas.{stands_push}
use Rattle.nm_eager.specs.Streams.{Stream}
use Rattle.nm_receiving.specs.declared.receipts.Receipt.{Receipt}
use Rattle.nm_receiving.specs.declared.receipts.Receive.{Receive}
use Rattle.nm_receiving.specs.Receipts.{ReceivingView, receipts_from, receipt_of, drawn_from, pair_with}
use Rattle.nm_receiving.specs.Steps.{grants_with, has_taken, with_taken}
use Rattle.nm_receiving.proofs.Dues.{due-with}
use Rattle.nm_receiving.proofs.Grow.{arrivals_more, arrivals_other, happened_still}
use Rattle.nm_receiving.proofs.Grow.{message_more, message_other, pair_new, pair_still}
use Rattle.nm_receiving.proofs.Lists.{row-other, row-same, slice_get-last, slice_get-push_other}
use Rattle.nm_history.specs.Matching.{is_of_receive, is_open}
use Rattle.nm_history.specs.Selection.{matches}
use Rattle.nm_history.specs.Sends.{posts}
use Rattle.nm_match.proofs.QueueLemmas.{open_means}
use Rattle.nm_receiving.specs.Steps.{rows_from}
use Rattle.nm_receiving.proofs.Stood.{Stood, is_cancelled_at, is_whole_at}
use Rattle.nm_types.proofs.ListLemmas.{find_passes, get_set_other, get_set_same, find_nothing}
use Rattle.nm_types.proofs.TruthLemmas.{and_right}
use Rattle.nm_history.proofs.AppendLemmas.{receives_still}

-- a message of this rank came
abbrev pub newcomer : Arrival → Receipt
newcomer a = record { arrival = a; whole = false }

-- its row
abbrev pub with_newcomer : List (List Receipt) → Arrival → List (List Receipt)
with_newcomer rows a = set rows a.env.from (rows_from rows a.env.from ++ newcomer a ∷ [])

-- the message that a receive takes, if there is such a receive
abbrev pub taken_by : Option ℕ → Arrival → Option Arrival
taken_by taker a = option_map (λ _. a) taker

abbrev pub came : ReceivingView → List Stream → Arrival → Option ℕ → ReceivingView
came v streams a taker =
    record v {
      deeds = v.deeds ++ deed.Arrive a ∷ [];
      streams = streams;
      grants = grants_with v.grants (taken_by taker a);
      receipts = with_newcomer v.receipts a;
      receives = with_taken v.receives taker a;
    }

-- a posted receive is there with its capacity
pub record HasCap (rs : List Receive) (p : post.Post) (r : Receive) : Type 0 where
  pub there : slice_get rs p.number ≡ Some r
  pub cap : r.cap ≡ p.cap

module _ (v : ReceivingView) (h : List Event) (stood : Stood v h) (streams : List Stream) (stamp : ℕ) (a : Arrival)
    (inside : a.env.from < length v.receipts) (next : a.n ≡ length (receipts_from v a.env.from)) where
  abbrev row : List Receipt
  row = receipts_from v a.env.from

  abbrev more : List Receipt
  more = row ++ newcomer a ∷ []

  abbrev rows : List (List Receipt)
  rows = with_newcomer v.receipts a

  abbrev e : Event
  e = at stamp (Arrive a)

  -- the receipts afterwards
  pub came_here : slice_get (get_or rows a.env.from []) a.n ≡ Some (newcomer a)
  came_here =
      ap (λ (xs : List Receipt). slice_get xs a.n) (row-same v.receipts a.env.from more a.env.from refl inside)
      ∙ slice_get-last row (newcomer a) a.n next

  pub came_other : (from n : ℕ) → (from ≡ a.env.from → n ≡ a.n → ⊥) → slice_get (get_or rows from []) n
      ≡ receipt_of v from n
  came_other from n differ = by (cases_eq from a.env.from)
    where
      by : (from ≡ a.env.from) ⊎ (from ≡ a.env.from → ⊥) → slice_get (get_or rows from []) n ≡ receipt_of v from n
      by (inl same) =
          ap (λ (xs : List Receipt). slice_get xs n) (row-same v.receipts a.env.from more from same inside)
          ∙ slice_get-push_other row (newcomer a) n (λ last. differ same (last ∙ sym next))
          ∙ ap (λ (j : ℕ). receipt_of v j n) (sym same)
      by (inr other) = ap (λ (xs : List Receipt). slice_get xs n) (row-other v.receipts a.env.from more from other)

  came_length : (from : ℕ) → length (get_or rows from []) ≡ length (arrivals (h ++ e ∷ []) from)
  came_length from = by (cases_eq from a.env.from)
    where
      by : (from ≡ a.env.from) ⊎ (from ≡ a.env.from → ⊥) → length (get_or rows from []) ≡ length
          (arrivals (h ++ e ∷ []) from)
      by (inl same) =
          ap length (row-same v.receipts a.env.from more from same inside) ∙ length-append row (newcomer a ∷ [])
          ∙ ap (λ (k : ℕ). k + 1) (stood.arrived a.env.from ∙ ap (λ (j : ℕ). length (arrivals h j)) (sym same))
          ∙ sym (arrivals_more h stamp a from same)
      by (inr other) =
          ap length (row-other v.receipts a.env.from more from other) ∙ stood.arrived from
          ∙ sym (arrivals_other h stamp a from other)

  was_none : receipt_of v a.env.from a.n ≡ None
  was_none = slice_get_past row a.n (omega (arith, next))

  is_new : message_of h a.env.from a.n ≡ None
  is_new = sym (stood.messages a.env.from a.n) ∙ ap (λ (o : Option Receipt). option_map (λ m. m.arrival) o) was_none

  place : (from n : ℕ) → (from ≡ a.env.from) × (n ≡ a.n) ⊎ (from ≡ a.env.from → n ≡ a.n → ⊥)
  place from n = by (cases_eq from a.env.from) (cases_eq n a.n)
    where
      by : (from ≡ a.env.from) ⊎ (from ≡ a.env.from → ⊥) → (n ≡ a.n) ⊎ (n ≡ a.n → ⊥)
          → (from ≡ a.env.from) × (n ≡ a.n) ⊎ (from ≡ a.env.from → n ≡ a.n → ⊥)
      by (inl same) (inl same') = inl (same, same')
      by (inl same) (inr other) = inr (λ _ is. other is)
      by (inr other) right = inr (λ is _. other is)

  came_messages : (from n : ℕ) → (from ≡ a.env.from) × (n ≡ a.n) ⊎ (from ≡ a.env.from → n ≡ a.n → ⊥)
      → option_map (λ m. m.arrival) (slice_get (get_or rows from []) n) ≡ message_of (h ++ e ∷ []) from n
  came_messages from n (inl same) =
      ap (λ (i : ℕ). option_map (λ m. m.arrival) (slice_get (get_or rows i []) n)) same.0
      ∙ ap (λ (j : ℕ). option_map (λ m. m.arrival) (slice_get (get_or rows a.env.from []) j)) same.1
      ∙ ap (λ (o : Option Receipt). option_map (λ m. m.arrival) o) came_here
      ∙ sym (message_more h stamp a is_new)
      ∙ ap (λ (j : ℕ). message_of (h ++ e ∷ []) a.env.from j) (sym same.1)
      ∙ ap (λ (i : ℕ). message_of (h ++ e ∷ []) i n) (sym same.0)
  came_messages from n (inr differ) =
      ap (λ (o : Option Receipt). option_map (λ m. m.arrival) o) (came_other from n differ)
      ∙ stood.messages from n ∙ sym (message_other h stamp a from n (λ same same'. differ (sym same) (sym same')))

  came_whole : (from n : ℕ) → (from ≡ a.env.from) × (n ≡ a.n) ⊎ (from ≡ a.env.from → n ≡ a.n → ⊥)
      → is_whole_at (slice_get (get_or rows from []) n) ≡ happened (is_whole from n) (h ++ e ∷ [])
  came_whole from n (inl same) =
      ap (λ (i : ℕ). is_whole_at (slice_get (get_or rows i []) n)) same.0
      ∙ ap (λ (j : ℕ). is_whole_at (slice_get (get_or rows a.env.from []) j)) same.1
      ∙ ap is_whole_at came_here
      ∙ sym (happened_still (is_whole a.env.from a.n) h e refl ∙ sym (stood.whole a.env.from a.n)
      ∙ ap is_whole_at was_none)
      ∙ ap (λ (j : ℕ). happened (is_whole a.env.from j) (h ++ e ∷ [])) (sym same.1)
      ∙ ap (λ (i : ℕ). happened (is_whole i n) (h ++ e ∷ [])) (sym same.0)
  came_whole from n (inr differ) =
      ap is_whole_at (came_other from n differ) ∙ stood.whole from n ∙ sym (happened_still (is_whole from n) h e refl)

  module _ (granted_in : a.env.from < length v.grants) where
    -- no receive takes it
    stood-came_none : first_receive h (matched_pairs h) a.env ≡ None → Stood (came v streams a None) (h ++ e ∷ [])
    stood-came_none none =
        let grown : matched_pairs (h ++ e ∷ []) ≡ matched_pairs h ++ option_to_list None =
        matched_pairs-push h e
        ∙ ap (λ (o : Option post.Post). matched_pairs h ++ option_to_list (option_map (λ p. pair_of p a) o)) none in
        record {
          stands = stands_push v.deeds h e stood.stands;
          arrived = came_length;
          messages = λ from n. came_messages from n (place from n);
          whole = λ from n. came_whole from n (place from n);
          count = stood.count ∙ sym (receives_still h e refl);
          pairs = λ k. stood.pairs k
              ∙ sym (pair_still h (h ++ e ∷ []) None grown k (λ q is. absurd (let h' : ⊥ = cc in h')));
          cancelled = λ k. stood.cancelled k ∙ sym (happened_still (is_cancel k) h e refl);
          due = due-with h (e ∷ []) 0 0 None grown v.grants (drawn_from v) (λ b is. absurd (let h' : ⊥ = cc in h'))
              stood.due;
        }

    -- this receive takes it
    module _ (p : post.Post) (oldest : first_receive h (matched_pairs h) a.env ≡ Some p) (r : Receive)
        (had : HasCap v.receives p r) where
      abbrev k0 : ℕ
      k0 = p.number

      taken_is : with_taken v.receives (Some k0) a ≡ set v.receives k0 (has_taken a r)
      taken_is = rw had.there refl

      grown : matched_pairs (h ++ e ∷ []) ≡ matched_pairs h ++ pair p.number p.cap a ∷ []
      grown = matched_pairs-push h e
          ∙ ap (λ (o : Option post.Post). matched_pairs h ++ option_to_list (option_map (λ p. pair_of p a) o)) oldest

      no_pair : pair_of_receive h k0 ≡ None
      no_pair =
          let passes = find_passes (λ (p : post.Post). matches p.from p.tag p.ctx a.env && is_open h
          (matched_pairs h) p) (posts h) p oldest in
          find_nothing (is_of_receive k0) (matched_pairs h)
          (open_means h (matched_pairs h) p
          (and_right (matches p.from p.tag p.ctx a.env) (is_open h (matched_pairs h) p) passes)).0

      taken_pairs : (k : ℕ) → (k ≡ k0) ⊎ (k ≡ k0 → ⊥)
          → option_and_then (pair_with k) (slice_get (set v.receives k0 (has_taken a r)) k) ≡ pair_of_receive
          (h ++ e ∷ []) k
      taken_pairs k (inl same) =
          ap (λ (j : ℕ). option_and_then (pair_with j) (slice_get (set v.receives k0 (has_taken a r)) j)) same
          ∙ ap (λ (o : Option Receive). option_and_then (pair_with k0) o)
          (get_set_same v.receives k0 (has_taken a r) (slice_get_within v.receives k0 r had.there))
          ∙ ap (λ (c : ℕ). let q : Option Pair = Some (pair k0 c a) in q) had.cap
          ∙ sym (pair_new h (h ++ e ∷ []) (Some (pair p.number p.cap a)) grown k0 no_pair
          (λ q is. let same' : pair p.number p.cap a ≡ q = cc in ap (λ (x : Pair). x.number) (sym same')))
          ∙ ap (λ (j : ℕ). pair_of_receive (h ++ e ∷ []) j) (sym same)
      taken_pairs k (inr differ) =
          ap (λ (o : Option Receive). option_and_then (pair_with k) o)
          (get_set_other v.receives k0 k (has_taken a r) differ)
          ∙ stood.pairs k
          ∙ sym (pair_still h (h ++ e ∷ []) (Some (pair p.number p.cap a)) grown k
          (λ q is same. let same' : pair p.number p.cap a ≡ q = cc in
          differ (sym (ap (λ (x : Pair). x.number) same' ∙ same))))

      taken_cancelled : (k : ℕ) → (k ≡ k0) ⊎ (k ≡ k0 → ⊥)
          → is_cancelled_at (slice_get (set v.receives k0 (has_taken a r)) k) ≡ is_cancelled_at (slice_get v.receives k)
      taken_cancelled k (inl same) =
          ap (λ (j : ℕ). is_cancelled_at (slice_get (set v.receives k0 (has_taken a r)) j)) same
          ∙ ap is_cancelled_at (get_set_same v.receives k0 (has_taken a r) (slice_get_within v.receives k0 r had.there))
          ∙ sym (ap is_cancelled_at had.there) ∙ ap (λ (j : ℕ). is_cancelled_at (slice_get v.receives j)) (sym same)
      taken_cancelled k (inr differ) = ap is_cancelled_at (get_set_other v.receives k0 k (has_taken a r) differ)

      stood-came_some : Stood (came v streams a (Some k0)) (h ++ e ∷ [])
      stood-came_some = record {
        stands = stands_push v.deeds h e stood.stands;
        arrived = came_length;
        messages = λ from n. came_messages from n (place from n);
        whole = λ from n. came_whole from n (place from n);
        count = ap length taken_is ∙ length-set v.receives k0 (has_taken a r) ∙ stood.count
            ∙ sym (receives_still h e refl);
        pairs = λ k. ap (λ (rs : List Receive). option_and_then (pair_with k) (slice_get rs k)) taken_is
            ∙ taken_pairs k (cases_eq k k0);
        cancelled = λ k. ap (λ (rs : List Receive). is_cancelled_at (slice_get rs k)) taken_is
            ∙ taken_cancelled k (cases_eq k k0)
            ∙ stood.cancelled k ∙ sym (happened_still (is_cancel k) h e refl);
        due = due-with h (e ∷ []) p.number p.cap (Some a) grown v.grants (drawn_from v)
            (λ b is. let same : a ≡ b = cc in subst (λ (c : Arrival). c.env.from < length v.grants) same granted_in)
            stood.due;
      }

    pub stood-came : (o : Option post.Post) → first_receive h (matched_pairs h) a.env ≡ o
        → ((p : post.Post) → o ≡ Some p → (r : Receive) × HasCap v.receives p r)
        → Stood (came v streams a (option_map (λ p. p.number) o)) (h ++ e ∷ [])
    stood-came None none caps = stood-came_none none
    stood-came (Some p) oldest caps = let had = caps p refl in stood-came_some p oldest had.0 had.1
