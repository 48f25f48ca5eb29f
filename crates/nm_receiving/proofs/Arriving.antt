-- How the tables go on when a message comes.
use Rattle.std.specs.Prelude.{IsSomeAnd, is_some}
use Rattle.std.proofs.Common.{◌≡◌, ℕ, ◌<◌, Bool, true, false, ◌&&◌, cond, Option, Some, None, List, [], ◌∷◌, ◌++◌}
use Rattle.std.proofs.Common.{length, get_or, refl, sym, ◌∙◌, ap, subst, append_assoc, arith, ◌⊎◌, inl, inr}
use Rattle.std.specs.List.{All, slice_get}
use Rattle.std.specs.Option.{option_map, option_to_list}
use Rattle.std.proofs.Math.ListN.{set}
use Rattle.std.proofs.lemmas.Bool.{false_from_ne_true, false≢true}
use Rattle.std.proofs.lemmas.List.{set-set, set_at}
use Rattle.std.proofs.lemmas.List.Elements.{All-push, All-weaker}
use Rattle.std.proofs.lemmas.Option.{slice_get_past}
use Rattle.nm_types.specs.declared.messages.Arrival.{Arrival}
use Rattle.nm_types.specs.declared.messages.Post as post
use Rattle.nm_history.specs.declared.events.Event.{Event}
use Rattle.nm_history.specs.declared.events.Happened.TheVariants.{Arrive, Whole}
use Rattle.nm_history.specs.declared.plain.Pair.{Pair}
use Rattle.nm_history.specs.Completion.{is_taken}
use Rattle.nm_history.specs.Matching.{first_receive, is_open as is_open_receive, matched_pairs, pair_of}
use Rattle.nm_history.specs.Selection.{matches}
use Rattle.nm_history.specs.Sends.{is_ask, posts}
use Rattle.nm_history.proofs.MatchingLemmas.{matched_pairs-push}
use Rattle.nm_history.proofs.OnceLemmas.{find_among}
use Rattle.nm_history.specs.Happens.{at}
use Rattle.nm_match.specs.Deeds.{history_of}
use Rattle.nm_match.proofs.StandsLemmas.{first_receive-stands}
use Rattle.nm_eager.specs.Streams.{Stream, missing}
use Rattle.nm_rndv.specs.Grants.{Granted, fresh, grant_in, is_open}
use Rattle.nm_receiving.specs.declared.receipts.Receipt.{Receipt}
use Rattle.nm_receiving.specs.declared.receipts.Receive.{Receive}
use Rattle.nm_receiving.specs.Kept.{AreGrantedFor, TablesAgree, HasBytes, IsCleared, ReceivingInvariant}
use Rattle.nm_receiving.specs.Receipts.{ReceivingView, granted_to, receipt_of, receipts_from, stream_of}
use Rattle.nm_receiving.specs.Steps.{made_whole, rows_from, rows_with_whole, with_whole}
use Rattle.nm_receiving.proofs.Coming.{HasCap, came, came_here, newcomer, stood-came, taken_by, with_newcomer}
use Rattle.nm_receiving.proofs.Goings.{goes_on, like-push, names_of}
use Rattle.nm_receiving.proofs.Grants.{Granted_now, grant_among, granted_cases}
use Rattle.nm_receiving.proofs.Facts.{taken_pair}
use Rattle.nm_receiving.proofs.Grow.{posts_still, taken_now, taken_other}
use Rattle.nm_receiving.proofs.Lists.{row-same, slice_get-last}
use Rattle.nm_receiving.proofs.Marking.{marked}
use Rattle.nm_receiving.specs.Receives.{has_ended_at}
use Rattle.nm_receiving.proofs.Overs.{ended_same, taken_ended}
use Rattle.nm_receiving.proofs.Stood.{Stood, stood_of}
use Rattle.nm_receiving.proofs.TablesCome.{AreLonger, owed-came, tables-came}
use Rattle.nm_receiving.proofs.TablesMark.{MayMark, owed-marked, tables-marked}
use Rattle.nm_receiving.proofs.Taking.{IsAtOnce, IsNext, keeps-came, marked_if}
use Rattle.nm_types.proofs.OptionLemmas.{mapped_none, mapped_some, some_and}

-- the posted receive that takes a message is there
pub receive_caps : (v : ReceivingView) (kept : ReceivingInvariant v) (a : Arrival) (o : Option post.Post)
    → first_receive (history_of v.deeds) (matched_pairs (history_of v.deeds)) a.env ≡ o
    → (p : post.Post) → o ≡ Some p → (r : Receive) × HasCap v.receives p r
receive_caps v kept a o oldest p is =
    let h : List Event = kept.history in
    let there = some_and (λ (r : Receive). r.cap ≡ p.cap) (slice_get v.receives p.number)
    (find_among (λ (p : post.Post). IsSomeAnd (slice_get v.receives p.number) (λ r. r.cap ≡ p.cap))
    (λ (p : post.Post). matches p.from p.tag p.ctx a.env && is_open_receive h (matched_pairs h) p)
    (posts h) p kept.tables.caps
    (first_receive-stands v.deeds h kept.received.stands a.env ∙ oldest ∙ is)) in
    (there.0, record { there = there.1; cap = there.2 })

module _ (v : ReceivingView) (kept : ReceivingInvariant v) (streams : List Stream) (a : Arrival) (o : Option post.Post)
    (next : IsNext v a)
    (long : AreLonger v streams a) (oldest : first_receive (history_of v.deeds) (matched_pairs (history_of v.deeds))
    a.env ≡ o) where
  abbrev h : List Event
  h = kept.history

  abbrev taker : Option ℕ
  taker = option_map (λ p. p.number) o

  abbrev e : Event
  e = at 0 (Arrive a)

  abbrev h1 : List Event
  h1 = h ++ e ∷ []

  abbrev v1 : ReceivingView
  v1 = came v streams a taker

  oldest0 : first_receive h (matched_pairs h) a.env ≡ o
  oldest0 = first_receive-stands v.deeds h kept.received.stands a.env ∙ oldest

  stood0 : Stood v h
  stood0 = stood_of v h kept.received

  stood1 : Stood v1 h1
  stood1 = stood-came v h stood0 streams 0 a next.receipts next.next next.grants o oldest0
      (receive_caps v kept a o oldest)

  grown1 : matched_pairs h1 ≡ matched_pairs h ++ option_to_list (option_map (λ p. pair_of p a) o)
  grown1 = matched_pairs-push h e
      ∙ ap (λ (o : Option post.Post). matched_pairs h ++ option_to_list (option_map (λ p. pair_of p a) o)) oldest0

  taken1 : is_some o ≡ true → is_taken h1 a.env.from a.n ≡ true
  taken1 = by o grown1
    where
      by : (o : Option post.Post) → matched_pairs h1 ≡ matched_pairs h ++ option_to_list
          (option_map (λ p. pair_of p a) o)
          → is_some o ≡ true → is_taken h1 a.env.from a.n ≡ true
      by None grown is = absurd (false≢true is)
      by (Some p) grown is = taken_now h h1 (pair_of p a) grown

  paired : (k : ℕ) → taker ≡ Some k → is_taken h1 a.env.from a.n ≡ true
  paired k is = taken1 (by o is)
    where
      by : (o : Option post.Post) → option_map (λ p. p.number) o ≡ Some k → is_some o ≡ true
      by None is = absurd (let h' : ⊥ = cc in h')
      by (Some p) is = refl

  tables1 : TablesAgree v1 h1
  tables1 = tables-came v h h1 stood0 streams a taker kept.tables next.receipts next.grants next.next long
      (names_of v h kept.received) (option_to_list (option_map (λ p. pair_of p a) o)) grown1 paired
      (posts_still h e refl)

  was_none : receipt_of v a.env.from a.n ≡ None
  was_none = slice_get_past (receipts_from v a.env.from) a.n (let n_is = next.next in omega (arith, n_is))

  -- it was taken by no receive, and no other message is taken now
  came_alone : taker ≡ None → is_taken h1 a.env.from a.n ≡ false
  came_alone none =
      taken_other h h1 (option_map (λ p. pair_of p a) o) grown1 a.env.from a.n
      (λ q made. absurd (let none' = mapped_none (λ (p : post.Post). p.number) o none in
      let of = mapped_some (λ (p : post.Post). pair_of p a) o q made in
      let there = of.1 in let h' : ⊥ = cc in h'))
      ∙ false_from_ne_true (is_taken h a.env.from a.n) (λ is.
      let pair = taken_pair v.sizes.ranks h kept.right a.env.from a.n is in
      let there = pair.2 in
      let none' = sym (kept.received.messages a.env.from a.n)
      ∙ ap (λ (r : Option Receipt). option_map (λ m. m.arrival) r) was_none in
      let h' : ⊥ = cc in h')

  came_others : (i k : ℕ) → (i ≡ a.env.from → k ≡ a.n → ⊥) → is_taken h1 i k ≡ is_taken h i k
  came_others i k differ =
      taken_other h h1 (option_map (λ p. pair_of p a) o) grown1 i k (λ q made from_is n_is.
      let of = mapped_some (λ (p : post.Post). pair_of p a) o q made in
      differ (sym from_is ∙ ap (λ (x : Pair). x.arrival.env.from) (sym of.2))
      (sym n_is ∙ ap (λ (x : Pair). x.arrival.n) (sym of.2)))

  owed1 : AreGrantedFor v1 h1
  owed1 = owed-came v h h1 stood0 streams a taker kept.tables next.receipts next.grants next.next long
      (names_of v h kept.received) (option_to_list (option_map (λ p. pair_of p a) o)) grown1 came_alone came_others
      kept.owed

  others_shut : All (λ e. e.0 ≡ a.n → is_open e.1 ≡ false) (granted_to v a.env.from)
  others_shut = All-weaker (λ e. IsSomeAnd (receipt_of v a.env.from e.0) (IsCleared h a.env.from e))
      (λ e. e.0 ≡ a.n → is_open e.1 ≡ false)
      (λ e was same. let had = some_and (IsCleared h a.env.from e) (receipt_of v a.env.from e.0) was in
      let there : receipt_of v a.env.from a.n ≡ Some had.0 = ap (λ (k : ℕ). receipt_of v a.env.from k) (sym same)
      ∙ had.1 in
      let none = was_none in absurd (let h' : ⊥ = cc in h'))
      (granted_to v a.env.from) (kept.tables.cleared a.env.from)

  taken_inside : (b : Arrival) → taken_by taker a ≡ Some b → (b ≡ a) × (b.env.from < length v.grants)
  taken_inside b is = by taker is
    where
      by : (k : Option ℕ) → taken_by k a ≡ Some b → (b ≡ a) × (b.env.from < length v.grants)
      by None is = absurd (let h' : ⊥ = cc in h')
      by (Some k) is = let same : a ≡ b = cc in
          (sym same, subst (λ (c : Arrival). c.env.from < length v.grants) same next.grants)

  all_shut : (is_ask a.env.how ≡ true → a.env.len ≡ 0) → All (λ e. e.0 ≡ a.n → is_open e.1 ≡ false)
      (granted_to v1 a.env.from)
  all_shut none = by (granted_cases v.grants (taken_by taker a) a.env.from (λ b is. let t = taken_inside b is in t.1))
    where
      by : (granted_to v1 a.env.from ≡ granted_to v a.env.from) ⊎ Granted_now v.grants (taken_by taker a) a.env.from
          → All (λ e. e.0 ≡ a.n → is_open e.1 ≡ false) (granted_to v1 a.env.from)
      by (inl same) = subst (λ (row : List (ℕ × Granted)). All (λ e. e.0 ≡ a.n → is_open e.1 ≡ false) row)
          (sym same) others_shut
      by (inr now) =
          let b : Arrival = now.0 in
          let t = taken_inside b now.1 in
          let len : b.env.len ≡ 0 = ap (λ (x : Arrival). x.env.len) t.0
          ∙ none (ap (λ (x : Arrival). is_ask x.env.how) (sym t.0) ∙ now.2) in
          subst (λ (row : List (ℕ × Granted)). All (λ e. e.0 ≡ a.n → is_open e.1 ≡ false) row) (sym now.4)
          (All-push (λ e. e.0 ≡ a.n → is_open e.1 ≡ false) (granted_to v a.env.from) (b.n, fresh b.env.len) others_shut
          (λ _. ap (λ (k : ℕ). is_open (fresh k)) len))

  -- it may be whole at once
  pub came_may_mark : (is_ask a.env.how ≡ true → a.env.len ≡ 0) → (is_ask a.env.how ≡ true → is_some o ≡ true)
      → (HasBytes v1 (newcomer a) → HasBytes v1 (made_whole (newcomer a))) → missing (stream_of v1 a.env.from) ≡ 0
      → MayMark v1 h1 a.env.from a.n (newcomer a)
  came_may_mark none taken complete finished = record {
    here = came_here v h stood0 streams 0 a next.receipts next.next;
    complete = complete;
    last = λ _ some. let h' : ⊥ = omega (arith, some, finished) in h';
    taken = λ how. taken1 (taken how);
    closed = all_shut none;
  }

  ended1 : (k : ℕ) → has_ended_at v1.receives k ≡ true → has_ended_at v.receives k ≡ true
  ended1 = ended_same v.receives v1.receives (taken_ended v.receives taker a)

  pub kept-came : (b : Bool) → IsAtOnce a o b → (b ≡ true → MayMark v1 h1 a.env.from a.n (newcomer a)) →
      ReceivingInvariant (marked_if b v1 a.env.from a.n)
  kept-came false at_once may =
      goes_on v v1 kept (e ∷ []) refl ended1
      (keeps-came v streams a o false next at_once (receive_caps v kept a o oldest) h kept.received kept.right oldest0
      (e ∷ []) refl)
      (λ i k. refl) tables1 owed1
  kept-came true at_once may =
      let x : Event = at 0 (Whole a.env.from a.n) in
      goes_on v (marked v1 a.env.from a.n) kept (e ∷ x ∷ []) refl ended1
      (keeps-came v streams a o true next at_once (receive_caps v kept a o oldest) h kept.received kept.right oldest0
      (e ∷ x ∷ []) refl)
      (λ i k. refl)
      (subst (λ (k : List Event). TablesAgree (marked v1 a.env.from a.n) k) (append_assoc h (e ∷ []) (x ∷ []))
      (tables-marked v1 h1 (h1 ++ x ∷ []) stood1 a.env.from a.n (newcomer a) tables1 (like-push h1 x refl refl)
      (may refl)))
      (subst (λ (k : List Event). AreGrantedFor (marked v1 a.env.from a.n) k) (append_assoc h (e ∷ []) (x ∷ []))
      (owed-marked v1 h1 (h1 ++ x ∷ []) stood1 a.env.from a.n (newcomer a)
      (came_here v h stood0 streams 0 a next.receipts next.next) (like-push h1 x refl refl) (λ i k _. owed1 i k)))

-- the row of a message that came, and is whole if this is true
pub row_came : (rows : List (List Receipt)) (a : Arrival) (b : Bool) → a.env.from < length rows →
    a.n ≡ length (rows_from rows a.env.from)
    → set rows a.env.from (rows_from rows a.env.from ++ record { arrival = a; whole = b } ∷ [])
    ≡ cond b (rows_with_whole (with_newcomer rows a) a.env.from a.n) (with_newcomer rows a)
row_came rows a false inside next = refl
row_came rows a true inside next =
    let row : List Receipt = rows_from rows a.env.from in
    let more : List Receipt = row ++ newcomer a ∷ [] in
    let here : get_or (set rows a.env.from more) a.env.from [] ≡ more = row-same rows a.env.from more a.env.from refl
    inside in
    let whole : with_whole more a.n ≡ row ++ made_whole (newcomer a) ∷ [] =
    whole_last row (newcomer a) a.n next in
    sym (ap (λ (r : List Receipt). set (set rows a.env.from more) a.env.from (with_whole r a.n)) here
    ∙ ap (λ (r : List Receipt). set (set rows a.env.from more) a.env.from r) whole
    ∙ set-set rows a.env.from more (row ++ made_whole (newcomer a) ∷ []))
  where
    whole_last : (row : List Receipt) (r : Receipt) (n : ℕ) → n ≡ length row →
        with_whole (row ++ r ∷ []) n ≡ row ++ made_whole r ∷ []
    whole_last row r n last = rw (slice_get-last row r n last) (set_at row r [] (made_whole r) n (sym last))

-- the next message of a rank has no grant yet
pub none_granted_yet : (v : ReceivingView) (kept : ReceivingInvariant v) (from n : ℕ) → n ≡ length (receipts_from v from) →
    grant_in (granted_to v from) n ≡ None
none_granted_yet v kept from n next = by (grant_in (granted_to v from) n) refl
  where
    by : (o : Option Granted) → grant_in (granted_to v from) n ≡ o → grant_in (granted_to v from) n ≡ None
    by None is = is
    by (Some g) is =
        let entry = grant_among (λ e. IsSomeAnd (receipt_of v from e.0) (IsCleared kept.history from e))
        (granted_to v from) n g (kept.tables.cleared from) is in
        let r = some_and (IsCleared kept.history from (n, g)) (receipt_of v from n) entry in
        let there = r.1 in
        let none = slice_get_past (receipts_from v from) n (omega (arith, next)) in absurd (let h : ⊥ = cc in h)
