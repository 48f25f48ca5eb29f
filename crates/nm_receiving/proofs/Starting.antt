-- How the tables go on when a receive begins.
use Rattle.std.specs.Prelude.{IfSome, IsSome, IsSomeAnd, is_some}
use Rattle.std.proofs.Common.{◌≡◌, ℕ, ◌<◌, ◌==◌, Bool, true, false, ◌||◌, cond, Option, Some, None, List, [], ◌∷◌, ◌++◌}
use Rattle.std.proofs.Common.{length, get_or, refl, sym, ◌∙◌, ap, subst, append_assoc, arith}
use Rattle.std.specs.List.{All}
use Rattle.std.specs.Option.{option_map, option_to_list}
use Rattle.std.proofs.lemmas.Bool.{and_parts, eqb-true, true≢false}
use Rattle.std.proofs.lemmas.List.Elements.{All-push, All-weaker}
use Rattle.std.proofs.lemmas.Option.{same_Some}
use Rattle.nm_types.specs.declared.messages.Arrival.{Arrival}
use Rattle.nm_types.specs.declared.messages.Post as post
use Rattle.nm_history.specs.declared.events.Event.{Event}
use Rattle.nm_history.specs.declared.events.Happened.{Happened}
use Rattle.nm_history.specs.declared.events.Happened.TheVariants.{Match, Post, Whole}
use Rattle.nm_history.specs.Completion.{is_taken}
use Rattle.nm_history.specs.Happens.{at, happened, is_withdraw}
use Rattle.nm_history.specs.Matching.{first_message, is_claimed, matched_pairs, pair_of_claimed as pair}
use Rattle.nm_history.specs.Sends.{is_ask, message_of, posts, post_of}
use Rattle.nm_history.proofs.OnceLemmas.{posts-push}
use Rattle.nm_history.specs.Rules.{AreRight}
use Rattle.nm_match.specs.declared.deeds.Deed.{Deed}
use Rattle.nm_match.specs.declared.deeds.Deed.TheVariants as deed
use Rattle.nm_match.specs.Deeds.{history_of}
use Rattle.nm_match.proofs.StandsLemmas.{first_message-stands, is_claimed-stands, message_of-stands}
use Rattle.nm_rndv.specs.Grants.{Granted, Granting, IsReadyFor, fresh, grant_in, is_open}
use Rattle.nm_receiving.specs.declared.receipts.Receipt.{Receipt}
use Rattle.nm_receiving.specs.declared.receipts.Receive.{Receive}
use Rattle.nm_receiving.specs.Kept.{AreGrantedFor, TablesAgree, IsCleared, IsGranted, ReceivingInvariant}
use Rattle.nm_receiving.specs.Receipts.{ReceivingView, granted_to, is_empty_ask, receipt_of}
use Rattle.nm_receiving.specs.Received.{AreReceived}
use Rattle.nm_receiving.specs.Steps.{grants_with, made_whole, rows_after, rows_with, rows_with_whole}
use Rattle.nm_receiving.proofs.Facts.{IsTakeable, claimed_takeable, first_takeable, right_named}
use Rattle.nm_receiving.proofs.Goings.{goes_on, like-push}
use Rattle.nm_receiving.proofs.Grants.{grant_new, granted_new}
use Rattle.nm_receiving.proofs.Grow.{taken_now}
use Rattle.nm_receiving.proofs.Keeping.{IsBegin, MayBegin, begun_stood, grown, keeps-begun}
use Rattle.nm_receiving.proofs.Lists.{some_from}
use Rattle.nm_receiving.proofs.Marking.{marked}
use Rattle.nm_receiving.specs.Receives.{has_ended_at}
use Rattle.nm_receiving.proofs.Overs.{begun_ended}
use Rattle.nm_receiving.proofs.Stood.{begun}
use Rattle.nm_receiving.proofs.Tables.{IsFree, no_grant, owed-begun, tables-begun}
use Rattle.nm_receiving.proofs.TablesMark.{MayMark, owed-marked, tables-marked}
use Rattle.nm_types.proofs.OptionLemmas.{mapped_some as mapped, some_and, if_each, one_option}

-- a message that may be taken is here
pub is_free : (v : ReceivingView) (kept : ReceivingInvariant v) (a : Arrival) → IsTakeable v.sizes.ranks kept.history a →
    (r : Receipt) × IsFree v kept.history a r
is_free v kept a takeable =
    let there = mapped (λ (m : Receipt). m.arrival) (receipt_of v a.env.from a.n) a
    (kept.received.messages a.env.from a.n ∙ takeable.named) in
    let sender = takeable.sender in
    let rows = kept.tables.grants in (
      there.0,
      record {
        granted = omega (arith, sender, rows);
        here = there.1;
        arrival = there.2;
        untaken =
            takeable.untaken;
      },
    )

pub may_begin : (v : ReceivingView) (kept : ReceivingInvariant v) (a : Arrival) (r : Receipt) → IsFree v kept.history a r →
    MayBegin v a r
may_begin v kept a r free = record {
  granted = free.granted;
  here = free.here;
  whole = λ empty.
      let asked = and_parts (is_ask a.env.how) (a.env.len == 0) empty in
      kept.tables.waiting a.env.from a.n r free.here (ap (λ (x : Arrival). is_ask x.env.how) free.arrival ∙ asked.0)
      free.untaken;
}

-- an empty message that was asked for, and that a receive takes, may be whole
module _ (v : ReceivingView) (h h1 : List Event) (d : Deed) (number cap : ℕ) (a : Arrival) (r : Receipt)
    (tables : TablesAgree v h)
    (free : IsFree v h a r) (grown1 : matched_pairs h1 ≡ matched_pairs h ++ pair number cap a ∷ [])
    (empty : is_empty_ask a ≡ true) where
  abbrev from : ℕ
  from = a.env.from

  abbrev v1 : ReceivingView
  v1 = begun v d cap (Some a)

  asked : is_ask a.env.how ≡ true
  asked = let both = and_parts (is_ask a.env.how) (a.env.len == 0) empty in both.0

  no_bytes : a.env.len ≡ 0
  no_bytes = let both = and_parts (is_ask a.env.how) (a.env.len == 0) empty in eqb-true a.env.len 0 both.1

  asked_r : is_ask r.arrival.env.how ≡ true
  asked_r = ap (λ (x : Arrival). is_ask x.env.how) free.arrival ∙ asked

  row_is : granted_to v1 from ≡ granted_to v from ++ (a.n, fresh a.env.len) ∷ []
  row_is = granted_new v.grants a asked free.granted from refl

  there : grant_in (granted_to v1 from) a.n ≡ Some (fresh a.env.len)
  there = ap (λ (row : List (ℕ × Granted)). grant_in row a.n) row_is
      ∙ grant_new (granted_to v from) a.n (fresh a.env.len) (no_grant v h tables from a.n free.untaken)

  shut : is_open (fresh a.env.len) ≡ false
  shut = ap (λ (k : ℕ). is_open (fresh k)) no_bytes

  others_shut : All (λ e. e.0 ≡ a.n → is_open e.1 ≡ false) (granted_to v from)
  others_shut = All-weaker (λ e. IsSomeAnd (receipt_of v from e.0) (IsCleared h from e))
      (λ e. e.0 ≡ a.n → is_open e.1 ≡ false)
      (λ e was same. let had = some_and (IsCleared h from e) (receipt_of v from e.0) was in
      absurd (true≢false (sym had.2.taken ∙ ap (λ (k : ℕ). is_taken h from k) same ∙ free.untaken)))
      (granted_to v from) (tables.cleared from)

  pub empty_may_mark : MayMark v1 h1 from a.n r
  empty_may_mark = record {
    here = free.here;
    complete = λ had. record {
      granted = λ how.
          let there' : grant_in (granted_to v1 r.arrival.env.from) r.arrival.n ≡ Some (fresh a.env.len) =
          subst (λ (x : Arrival). grant_in (granted_to v1 x.env.from) x.n ≡ Some (fresh a.env.len))
          (sym free.arrival) there in
          some_from (IsGranted (made_whole r)) (grant_in (granted_to v1 r.arrival.env.from) r.arrival.n)
          (fresh a.env.len) there'
          (record { len = ap (λ (x : Arrival). x.env.len) (sym free.arrival); bytes = λ _. sym no_bytes });
      joined = λ eager. absurd (true≢false (sym asked_r ∙ eager));
    };
    last = λ last some.
        let was = some_and (λ (r : Receipt). (is_ask r.arrival.env.how ≡ false) × (r.whole ≡ false))
        (receipt_of v from a.n)
        (tables.unfinished from a.n last some) in
        let same : was.0 ≡ r = same_Some was.0 r (sym was.1 ∙ free.here) in
        true≢false (sym asked_r ∙ ap (λ (x : Receipt). is_ask x.arrival.env.how) (sym same) ∙ was.2.0);
    taken = λ _. taken_now h h1 (pair number cap a) grown1;
    closed = subst (λ (row : List (ℕ × Granted)). All (λ e. e.0 ≡ a.n → is_open e.1 ≡ false) row) (sym row_is)
        (All-push (λ e. e.0 ≡ a.n → is_open e.1 ≡ false) (granted_to v from) (a.n, fresh a.env.len) others_shut
        (λ _. shut));
  }

-- what a receive that begins posts
pub record Posts (w : Happened) (number cap : ℕ) : Type 0 where
  pub posted : (p : post.Post) → post_of w ≡ Some p → (p.number ≡ number) × (p.cap ≡ cap)
  pub in_time : (from n : ℕ) → is_withdraw from n false w ≡ false

module _ (v : ReceivingView) (kept : ReceivingInvariant v) (w : Happened) (d : Deed) (number cap : ℕ) (post' : Posts w number cap)
  where
    abbrev h : List Event
    h = kept.history

    abbrev e : Event
    e = at 0 w

    abbrev h1 : List Event
    h1 = h ++ e ∷ []

    posts1 : posts h1 ≡ posts h ++ option_to_list (post_of w)
    posts1 = posts-push h e ∙ ap (λ (ps : List post.Post). posts h ++ ps) (one_option (post_of w))

    in_time1 : (from n : ℕ) → happened (is_withdraw from n false) (e ∷ []) ≡ false
    in_time1 from n = ap (λ (b : Bool). b || false) (post'.in_time from n)

    tables1 : (taken : Option Arrival) → IsBegin v w d number cap taken →
        ((a : Arrival) → taken ≡ Some a → (r : Receipt) × IsFree v h a r)
        → TablesAgree (begun v d cap taken) h1
    tables1 taken begins free =
        tables-begun v h h1 d number cap taken kept.received kept.tables begins.next
        (grown v w d number cap taken begins h 0 kept.received kept.right)
        free (post_of w) posts1 post'.posted

    owed1 : (taken : Option Arrival) → IsBegin v w d number cap taken →
        ((a : Arrival) → taken ≡ Some a → (r : Receipt) × IsFree v h a r)
        → AreGrantedFor (begun v d cap taken) h1
    owed1 taken begins free =
        owed-begun v h h1 d number cap taken kept.received kept.tables begins.next
        (grown v w d number cap taken begins h 0 kept.received kept.right) free kept.owed

    ended1 : (taken : Option Arrival) (k : ℕ) → has_ended_at (begun v d cap taken).receives k ≡ true →
        has_ended_at v.receives k ≡ true
    ended1 taken =
        begun_ended v.receives (record { cap = cap; taken = taken; cancelled = false; ended = false }) refl

    kept-begun_none : IsBegin v w d number cap None → ReceivingInvariant (begun v d cap None)
    kept-begun_none begins =
        goes_on v (begun v d cap None) kept (e ∷ []) refl (ended1 None)
        (keeps-begun v w d number cap None begins (λ a is. absurd (let h' : ⊥ = cc in h')) h (e ∷ []) refl kept.received
        kept.right)
        in_time1 (tables1 None begins (λ a is. absurd (let h' : ⊥ = cc in h')))
        (owed1 None begins (λ a is. absurd (let h' : ⊥ = cc in h')))

    kept-begun_some : (a : Arrival) → IsBegin v w d number cap (Some a) → IsTakeable v.sizes.ranks h a
        → ReceivingInvariant (record (begun v d cap (Some a)) { receipts = rows_after v.receipts a })
    kept-begun_some a begins takeable = by (is_empty_ask a) refl
      where
        free : (r : Receipt) × IsFree v h a r
        free = is_free v kept a takeable

        free_of : (b : Arrival) → Some a ≡ Some b → (r : Receipt) × IsFree v h b r
        free_of b is = let same : a ≡ b = cc in subst (λ (x : Arrival). (r : Receipt) × IsFree v h x r) same free

        may_of : (b : Arrival) → Some a ≡ Some b → (r : Receipt) × MayBegin v b r
        may_of b is = let f = free_of b is in (f.0, may_begin v kept b f.0 f.1)

        by : (b : Bool) → is_empty_ask a ≡ b →
            ReceivingInvariant (record (begun v d cap (Some a)) { receipts = rows_after v.receipts a })
        by false bytes =
            let rows : rows_after v.receipts a ≡ v.receipts =
            ap (λ (b : Bool). cond b (rows_with_whole v.receipts a.env.from a.n) v.receipts) bytes in
            let keeps = keeps-begun v w d number cap (Some a) begins may_of h (e ∷ [])
            (ap (λ (b : Bool). w ∷ cond b (Whole a.env.from a.n ∷ []) []) (sym bytes)) kept.received kept.right in
            subst (λ (rs : List (List Receipt)). ReceivingInvariant (record (begun v d cap (Some a)) { receipts = rs })) (sym rows)
            (goes_on v (begun v d cap (Some a)) kept (e ∷ []) refl (ended1 (Some a))
            (subst (λ (rs : List (List Receipt)). AreReceived (record (begun v d cap (Some a)) { receipts = rs })
            (h ++ e ∷ []) × AreRight v.sizes.ranks h (e ∷ [])) rows keeps)
            in_time1 (tables1 (Some a) begins free_of) (owed1 (Some a) begins free_of))
        by true empty =
            let x : Event = at 0 (Whole a.env.from a.n) in
            let rows : rows_after v.receipts a ≡ rows_with_whole v.receipts a.env.from a.n =
            ap (λ (b : Bool). cond b (rows_with_whole v.receipts a.env.from a.n) v.receipts) empty in
            let keeps = keeps-begun v w d number cap (Some a) begins may_of h (e ∷ x ∷ [])
            (ap (λ (b : Bool). w ∷ cond b (Whole a.env.from a.n ∷ []) []) (sym empty)) kept.received kept.right in
            let stood1 = begun_stood v w d number cap (Some a) begins h 0 kept.received kept.right
            (λ b is. let m = may_of b is in m.1.granted) in
            subst (λ (rs : List (List Receipt)). ReceivingInvariant (record (begun v d cap (Some a)) { receipts = rs })) (sym rows)
            (goes_on v (marked (begun v d cap (Some a)) a.env.from a.n) kept (e ∷ x ∷ []) refl (ended1 (Some a))
            (subst (λ (rs : List (List Receipt)). AreReceived (record (begun v d cap (Some a)) { receipts = rs })
            (h ++ (e ∷ x ∷ []))
            × AreRight v.sizes.ranks h (e ∷ x ∷ [])) rows keeps)
            (λ from n. ap (λ (b : Bool). b || (false || false)) (post'.in_time from n))
            (subst (λ (k : List Event). TablesAgree (marked (begun v d cap (Some a)) a.env.from a.n) k)
            (append_assoc h (e ∷ []) (x ∷ []))
            (tables-marked (begun v d cap (Some a)) h1 (h1 ++ x ∷ []) stood1 a.env.from a.n free.0
            (tables1 (Some a) begins free_of)
            (like-push h1 x refl refl)
            (empty_may_mark v h h1 d number cap a free.0 kept.tables free.1
            (grown v w d number cap (Some a) begins h 0 kept.received kept.right) empty)))
            (subst (λ (k : List Event). AreGrantedFor (marked (begun v d cap (Some a)) a.env.from a.n) k)
            (append_assoc h (e ∷ []) (x ∷ []))
            (owed-marked (begun v d cap (Some a)) h1 (h1 ++ x ∷ []) stood1 a.env.from a.n free.0 free.1.here
            (like-push h1 x refl refl) (λ i k _. owed1 (Some a) begins free_of i k))))

    pub kept-begun : (taken : Option Arrival) → IsBegin v w d number cap taken →
        ((a : Arrival) → taken ≡ Some a → IsTakeable v.sizes.ranks h a)
        → ReceivingInvariant (record (begun v d cap taken) { receipts = rows_with v.receipts taken })
    kept-begun None begins takeable = kept-begun_none begins
    kept-begun (Some a) begins takeable = kept-begun_some a begins (takeable a refl)

-- the fields afterwards
pub begun_same : (v : ReceivingView) (d : Deed) (cap : ℕ) (taken : Option Arrival) (deeds : List Deed)
    (grants : List (List (ℕ × Granted)))
    (rows : List (List Receipt)) (rs : List Receive) → deeds ≡ v.deeds ++ d ∷ [] →
    grants ≡ grants_with v.grants taken → rows ≡ rows_with v.receipts taken
    → rs ≡ v.receives ++ record { cap = cap; taken = taken; cancelled = false; ended = false } ∷ []
    → ◌≡◌ {A = ReceivingView} (record (begun v d cap taken) { receipts = rows_with v.receipts taken })
    (record v { deeds = deeds; grants = grants; receipts = rows; receives = rs })
begun_same v d cap taken deeds grants rows rs deeds_is grants_is rows_is rs_is =
    rw (deeds_is, grants_is, rows_is, rs_is) refl

-- a receive that is posted
pub is_begin_post : (v : ReceivingView) (p : post.Post) (line : ℕ) (taken : Option Arrival) →
    p.number ≡ length v.receives
    → taken ≡ first_message (history_of v.deeds) (matched_pairs (history_of v.deeds)) p.from p.tag p.ctx
    → IsBegin v (Post p line) (deed.Post p) p.number p.cap taken
is_begin_post v p line taken next oldest = record {
  done = refl;
  no_arrival = refl;
  receive = refl;
  not_whole = λ _ _. refl;
  not_cancel = λ _. refl;
  next = next;
  pair_made = λ h received right. ap (λ (o : Option Arrival). option_map (pair p.number p.cap) o)
      (first_message-stands v.deeds h received.stands p.from p.tag p.ctx ∙ sym oldest);
  right = λ h received right. record {
    numbers = next ∙ received.count;
    matches = tt;
    claims = tt;
    cancels = tt;
    wholes =
        tt;
    ends = tt;
  };
}

pub post_takeable : (v : ReceivingView) (kept : ReceivingInvariant v) (p : post.Post) (taken : Option Arrival)
    → taken ≡ first_message (history_of v.deeds) (matched_pairs (history_of v.deeds)) p.from p.tag p.ctx
    → (a : Arrival) → taken ≡ Some a → IsTakeable v.sizes.ranks kept.history a
post_takeable v kept p taken oldest a is =
    first_takeable v.sizes.ranks kept.history p.from p.tag p.ctx a (right_named v.sizes.ranks kept.history kept.right)
    (first_message-stands v.deeds kept.history kept.received.stands p.from p.tag p.ctx ∙ sym oldest ∙ is)

-- the receive of a claimed message
pub is_begin_match : (v : ReceivingView) (number from n cap line : ℕ) (taken : Option Arrival) →
    number ≡ length v.receives
    → is_claimed (history_of v.deeds) (matched_pairs (history_of v.deeds)) from n ≡ true →
    message_of (history_of v.deeds) from n ≡ taken
    → IsBegin v (Match number from n cap line) (deed.Match number from n) number cap taken
is_begin_match v number from n cap line taken next claimed is = record {
  done = refl;
  no_arrival = refl;
  receive = refl;
  not_whole = λ _ _. refl;
  not_cancel = λ _. refl;
  next = next;
  pair_made = λ h received right. ap (λ (o : Option Arrival). option_map (pair number cap) o)
      (message_of-stands v.deeds h received.stands from n ∙ is);
  right = λ h received right. record {
    numbers = next ∙ received.count;
    matches = is_claimed-stands v.deeds h received.stands from n ∙ claimed;
    claims = tt;
    cancels = tt;
    wholes = tt;
    ends = tt;
  };
}

pub match_takeable : (v : ReceivingView) (kept : ReceivingInvariant v) (from n : ℕ) (taken : Option Arrival)
    → is_claimed (history_of v.deeds) (matched_pairs (history_of v.deeds)) from n ≡ true →
    message_of (history_of v.deeds) from n ≡ taken
    → (a : Arrival) → taken ≡ Some a → IsTakeable v.sizes.ranks kept.history a
match_takeable v kept from n taken claimed there a is =
    claimed_takeable v.sizes.ranks kept.history from n a (right_named v.sizes.ranks kept.history kept.right)
    (is_claimed-stands v.deeds kept.history kept.received.stands from n ∙ claimed)
    (message_of-stands v.deeds kept.history kept.received.stands from n ∙ there ∙ is)

-- what a receive takes may be granted
module _ (v : ReceivingView) (kept : ReceivingInvariant v) (taken : Option Arrival)
    (takeable : (a : Arrival) → taken ≡ Some a → IsTakeable v.sizes.ranks kept.history a) where
  pub may_grant-sender : (grants : List (List (ℕ × Granted))) → grants ≡ v.grants →
      IfSome taken (λ a. a.env.from < length grants)
  may_grant-sender grants same = if_each (λ (a : Arrival). a.env.from < length grants) taken
      (λ a is. let f = is_free v kept a (takeable a is) in
      subst (λ (gs : List (List (ℕ × Granted))). a.env.from < length gs) (sym same) f.1.granted)

  pub may_grant-new : (grants : List (List (ℕ × Granted))) → grants ≡ v.grants →
      IfSome taken (λ a. grant_in (get_or grants a.env.from []) a.n ≡ None)
  may_grant-new grants same = if_each (λ (a : Arrival). grant_in (get_or grants a.env.from []) a.n ≡ None) taken
      (λ a is. let f = is_free v kept a (takeable a is) in
      subst (λ (gs : List (List (ℕ × Granted))). grant_in (get_or gs a.env.from []) a.n ≡ None) (sym same)
      (no_grant v kept.history kept.tables a.env.from a.n f.1.untaken))

  pub may_grant-ready : (g : Granting) (selects : ℕ → Bool)
      → ((rank : ℕ) → rank < length v.grants → selects rank ≡ true → IsReadyFor g rank)
      → ((a : Arrival) → taken ≡ Some a → selects a.env.from ≡ true) → IfSome taken (λ a. IsReadyFor g a.env.from)
  may_grant-ready g selects ready selected = if_each (λ (a : Arrival). IsReadyFor g a.env.from) taken
      (λ a is. let f = is_free v kept a (takeable a is) in ready a.env.from f.1.granted (selected a is))

  pub may_grant-came : IfSome taken (λ a. IsSome (receipt_of v a.env.from a.n))
  may_grant-came = if_each (λ (a : Arrival). IsSome (receipt_of v a.env.from a.n)) taken
      (λ a is. let f = is_free v kept a (takeable a is) in ap (λ (o : Option Receipt). is_some o) f.1.here)

  pub taken_sender : IfSome taken (λ a. a.env.from < v.sizes.ranks)
  taken_sender = if_each (λ (a : Arrival). a.env.from < v.sizes.ranks) taken (λ a is. let t = takeable a is in t.sender)

  pub may_begin_with : (a : Arrival) → taken ≡ Some a → (r : Receipt) × MayBegin v a r
  may_begin_with a is = let f = is_free v kept a (takeable a is) in (f.0, may_begin v kept a f.0 f.1)
