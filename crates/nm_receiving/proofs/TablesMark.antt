-- What the tables keep when a message is whole.
use Rattle.std.specs.Prelude.{IsSomeAnd}
use Rattle.std.proofs.Common.{◌≡◌, ℕ, ◌+◌, ◌<◌, true, false, Some, List}
use Rattle.std.proofs.Common.{get_or, sym, ◌∙◌, ap, subst, ◌⊎◌, inl, inr}
use Rattle.std.specs.List.{All, list_any, slice_get}
use Rattle.std.proofs.lemmas.Bool.{cases_eq, true≢false}
use Rattle.std.proofs.lemmas.Option.{same_Some}
use Rattle.nm_types.specs.declared.messages.Arrival.{Arrival}
use Rattle.nm_types.specs.declared.messages.Post as post
use Rattle.nm_history.specs.declared.events.Event.{Event}
use Rattle.nm_history.specs.declared.plain.Pair.{Pair}
use Rattle.nm_history.specs.Completion.{is_taken}
use Rattle.nm_history.specs.Matching.{is_of_message, matched_pairs}
use Rattle.nm_history.specs.Sends.{is_ask, posts}
use Rattle.nm_eager.specs.Streams.{missing}
use Rattle.nm_rndv.specs.Grants.{Granted, is_open}
use Rattle.nm_receiving.specs.declared.receipts.Receipt.{Receipt}
use Rattle.nm_receiving.specs.declared.receipts.Receive.{Receive}
use Rattle.nm_receiving.specs.Kept.{AreGrantedFor, TablesAgree, HasBytes, HasOpen, IsCleared, IsGrantedFor, IsHere}
use Rattle.nm_receiving.specs.Receipts.{ReceivingView, granted_to, receipt_of, receipts_from, stream_of}
use Rattle.nm_receiving.proofs.Lists.{some_from}
use Rattle.std.proofs.lemmas.List.{length-set}
use Rattle.nm_receiving.specs.Steps.{made_whole, with_whole}
use Rattle.nm_receiving.proofs.Marking.{marked, marked_here, marked_length, marked_other}
use Rattle.nm_receiving.proofs.Stood.{Stood}
use Rattle.nm_receiving.proofs.Tables.{awaited_before}
use Rattle.nm_types.proofs.OptionLemmas.{some_and}

-- the same pairs and posts
pub record IsLike (h h' : List Event) : Type 0 where
  pub pairs : matched_pairs h' ≡ matched_pairs h
  pub posts : posts h' ≡ posts h

pub like_taken : (h h' : List Event) → IsLike h h' → (from n : ℕ) → is_taken h' from n ≡ is_taken h from n
like_taken h h' like from n = ap (λ (ps : List Pair). list_any (is_of_message from n) ps) like.pairs

pub like_cleared : (h h' : List Event) → IsLike h h' → (from : ℕ) (e : ℕ × Granted) (r : Receipt) →
    IsCleared h from e r → IsCleared h' from e r
like_cleared h h' like from e r was = record {
  asked = was.asked;
  taken = like_taken h h' like from e.0
      ∙ was.taken;
  due = was.due;
}

-- a message that is whole now is awaited no more, and the others have the grants that they had
pub owed-marked : (v : ReceivingView) (h h' : List Event) → Stood v h → (from n : ℕ) (r : Receipt)
    → receipt_of v from n ≡ Some r → IsLike h h'
    → ((i k : ℕ) → (i ≡ from → k ≡ n → ⊥) → IsGrantedFor v h i k) → AreGrantedFor (marked v from n) h'
owed-marked v h h' stood from n r here like others i k s there awaited = by (cases_eq i from) (cases_eq k n)
  where
    other : (i ≡ from → k ≡ n → ⊥) → HasOpen (granted_to v i) k
    other differ = others i k differ s (sym (marked_other v h stood 0 from n r here i k differ) ∙ there)
        (awaited_before h h' i k s (sym (like_taken h h' like i k) ∙ awaited.taken) awaited)

    by : (i ≡ from) ⊎ (i ≡ from → ⊥) → (k ≡ n) ⊎ (k ≡ n → ⊥) → HasOpen (granted_to v i) k
    by (inl same) (inl same') =
        let is : made_whole r ≡ s = same_Some (made_whole r) s (sym (marked_here v h stood 0 from n r here)
        ∙ ap (λ (j : ℕ). receipt_of (marked v from n) from j) (sym same')
        ∙ ap (λ (j : ℕ). receipt_of (marked v from n) j k) (sym same) ∙ there) in
        absurd (true≢false (ap (λ (x : Receipt). x.whole) is ∙ awaited.lacking))
    by (inl same) (inr differ) = other (λ _ is. differ is)
    by (inr differ) place = other (λ is _. differ is)

-- a message may be made whole
pub record MayMark (v : ReceivingView) (h : List Event) (from n : ℕ) (r : Receipt) : Type 0 where
  pub here : receipt_of v from n ≡ Some r
  pub complete : HasBytes v r → HasBytes v (made_whole r)
  pub last : n + 1 ≡ (stream_of v from).count → 0 < missing (stream_of v from) → ⊥
  pub taken : is_ask r.arrival.env.how ≡ true → is_taken h from n ≡ true
  pub closed : All (λ e. e.0 ≡ n → is_open e.1 ≡ false) (granted_to v from)

module _ (v : ReceivingView) (h h' : List Event) (stood : Stood v h) (from n : ℕ) (r : Receipt) (tables : TablesAgree v h)
    (like : IsLike h h') (may : MayMark v h from n r) where
  abbrev v1 : ReceivingView
  v1 = marked v from n

  abbrev Here : ℕ → ℕ → Type 0
  Here i k = (i ≡ from) × (k ≡ n)

  place : (i k : ℕ) → Here i k ⊎ (i ≡ from → k ≡ n → ⊥)
  place i k = by (cases_eq i from) (cases_eq k n)
    where
      by : (i ≡ from) ⊎ (i ≡ from → ⊥) → (k ≡ n) ⊎ (k ≡ n → ⊥) → Here i k ⊎ (i ≡ from → k ≡ n → ⊥)
      by (inl same) (inl same') = inl (same, same')
      by (inl same) (inr other) = inr (λ _ is. other is)
      by (inr other) right = inr (λ is _. other is)

  bytes_marked : (s : Receipt) → HasBytes v s → HasBytes v1 s
  bytes_marked s bytes = record { granted = bytes.granted; joined = bytes.joined }

  here1 : receipt_of v1 from n ≡ Some (made_whole r)
  here1 = marked_here v h stood 0 from n r may.here

  other1 : (i k : ℕ) → (i ≡ from → k ≡ n → ⊥) → receipt_of v1 i k ≡ receipt_of v i k
  other1 i k differ = marked_other v h stood 0 from n r may.here i k differ

  -- which receipt stands at a place
  found : (i k : ℕ) (s : Receipt) → receipt_of v1 i k ≡ Some s
      → (Here i k × (made_whole r ≡ s)) ⊎ ((receipt_of v i k ≡ Some s) × (i ≡ from → k ≡ n → ⊥))
  found i k s is = by (place i k)
    where
      by : Here i k ⊎ (i ≡ from → k ≡ n → ⊥) →
          (Here i k × (made_whole r ≡ s)) ⊎ ((receipt_of v i k ≡ Some s) × (i ≡ from → k ≡ n → ⊥))
      by (inl same) = inl (
        same,
        same_Some (made_whole r) s
            (sym here1 ∙ ap (λ (j : ℕ). receipt_of v1 from j) (sym same.1) ∙ ap (λ (j : ℕ). receipt_of v1 j k)
            (sym same.0) ∙ is),
      )
      by (inr differ) = inr (sym (other1 i k differ) ∙ is, differ)

  was_here : (i k : ℕ) → Here i k → receipt_of v i k ≡ Some r
  was_here i k same = ap (λ (j : ℕ). receipt_of v j k) same.0 ∙ ap (λ (j : ℕ). receipt_of v from j) same.1 ∙ may.here

  marked_unfinished : (i k : ℕ) → k + 1 ≡ (stream_of v i).count → 0 < missing (stream_of v i)
      → IsSomeAnd (receipt_of v1 i k) (λ r. (is_ask r.arrival.env.how ≡ false) × (r.whole ≡ false))
  marked_unfinished i k last some = by (place i k)
    where
      by : Here i k ⊎ (i ≡ from → k ≡ n → ⊥) → IsSomeAnd (receipt_of v1 i k)
          (λ r. (is_ask r.arrival.env.how ≡ false) × (r.whole ≡ false))
      by (inl same) = absurd (may.last
          (sym (ap (λ (j : ℕ). j + 1) same.1) ∙ last ∙ ap (λ (j : ℕ). (stream_of v j).count) same.0)
          (subst (λ (j : ℕ). 0 < missing (stream_of v j)) same.0 some))
      by (inr differ) =
          let was = some_and (λ (r : Receipt). (is_ask r.arrival.env.how ≡ false) × (r.whole ≡ false))
          (receipt_of v i k) (tables.unfinished i k last some) in
          some_from (λ (r : Receipt). (is_ask r.arrival.env.how ≡ false) × (r.whole ≡ false))
          (receipt_of v1 i k) was.0 (other1 i k differ ∙ was.1) was.2

  marked_untaken : (i k : ℕ) (s : Receipt) → receipt_of v1 i k ≡ Some s → is_ask s.arrival.env.how ≡ false →
      is_taken h' i k ≡ false → HasBytes v1 s
  marked_untaken i k s is how none = by (found i k s is)
    where
      none' : is_taken h i k ≡ false
      none' = sym (like_taken h h' like i k) ∙ none

      by : (Here i k × (made_whole r ≡ s)) ⊎ ((receipt_of v i k ≡ Some s) × (i ≡ from → k ≡ n → ⊥)) → HasBytes v1 s
      by (inl here) =
          subst (λ (x : Receipt). HasBytes v1 x) here.1 (bytes_marked (made_whole r)
          (may.complete (tables.untaken i k r (was_here i k here.0)
          (ap (λ (x : Receipt). is_ask x.arrival.env.how) here.1 ∙ how) none')))
      by (inr other) = bytes_marked s (tables.untaken i k s other.0 how none')

  marked_waiting : (i k : ℕ) (s : Receipt) → receipt_of v1 i k ≡ Some s → is_ask s.arrival.env.how ≡ true →
      is_taken h' i k ≡ false → s.whole ≡ false
  marked_waiting i k s is how none = by (found i k s is)
    where
      none' : is_taken h i k ≡ false
      none' = sym (like_taken h h' like i k) ∙ none

      by : (Here i k × (made_whole r ≡ s)) ⊎ ((receipt_of v i k ≡ Some s) × (i ≡ from → k ≡ n → ⊥)) → s.whole ≡ false
      by (inl here) =
          absurd (true≢false (sym (may.taken (ap (λ (x : Receipt). is_ask x.arrival.env.how) here.1 ∙ how))
          ∙ ap (λ (j : ℕ). is_taken h from j) (sym here.0.1) ∙ ap (λ (j : ℕ). is_taken h j k) (sym here.0.0) ∙ none'))
      by (inr other) = tables.waiting i k s other.0 how none'

  marked_taken : (k : ℕ) (receive : Receive) (a : Arrival) → slice_get v.receives k ≡ Some receive →
      receive.taken ≡ Some a
      → (s : Receipt) × IsHere v1 a s × (receive.ended ≡ false → HasBytes v1 s)
  marked_taken k receive a at' some = by (place a.env.from a.n)
    where
      was : (s : Receipt) × IsHere v a s × (receive.ended ≡ false → HasBytes v s)
      was = tables.taken k receive a at' some

      by : Here a.env.from a.n ⊎ (a.env.from ≡ from → a.n ≡ n → ⊥) →
          (s : Receipt) × IsHere v1 a s × (receive.ended ≡ false → HasBytes v1 s)
      by (inl same) =
          let is : r ≡ was.0 = same_Some r was.0 (sym (was_here a.env.from a.n same) ∙ was.1.0) in (
            made_whole r,
            (
              ap (λ (j : ℕ). receipt_of v1 j a.n) same.0 ∙ ap (λ (j : ℕ). receipt_of v1 from j) same.1 ∙ here1,
              ap (λ (x : Receipt). x.arrival) is ∙ was.1.1,
            ),
            λ live. bytes_marked (made_whole r)
                (may.complete (subst (λ (x : Receipt). HasBytes v x) (sym is) (was.2 live))),
          )
      by (inr differ) = (
        was.0,
        (other1 a.env.from a.n differ ∙ was.1.0, was.1.1),
        λ live. bytes_marked was.0
            (was.2 live),
      )

  marked_cleared : (i : ℕ) → All (λ e. IsSomeAnd (receipt_of v1 i e.0) (IsCleared h' i e)) (granted_to v i)
  marked_cleared i k d inside = by (place i e.0)
    where
      e : ℕ × Granted
      e = get_or (granted_to v i) k d

      was : (s : Receipt) × (receipt_of v i e.0 ≡ Some s) × IsCleared h i e s
      was = some_and (IsCleared h i e) (receipt_of v i e.0) (tables.cleared i k d inside)

      by : Here i e.0 ⊎ (i ≡ from → e.0 ≡ n → ⊥) → IsSomeAnd (receipt_of v1 i e.0) (IsCleared h' i e)
      by (inl same) =
          let is : r ≡ was.0 = same_Some r was.0 (sym (was_here i e.0 same) ∙ was.1) in
          let shut : is_open e.1 ≡ false =
          subst (λ (j : ℕ). All (λ e. e.0 ≡ n → is_open e.1 ≡ false) (granted_to v j)) (sym same.0) may.closed k d
          inside same.1 in
          some_from (IsCleared h' i e) (receipt_of v1 i e.0) (made_whole r)
          (ap (λ (j : ℕ). receipt_of v1 j e.0) same.0 ∙ ap (λ (j : ℕ). receipt_of v1 from j) same.1 ∙ here1)
          (record {
            asked = ap (λ (x : Receipt). is_ask x.arrival.env.how) is ∙ was.2.asked;
            taken = like_taken h h' like i e.0 ∙ was.2.taken;
            due = λ open'. absurd (true≢false (sym open' ∙ shut));
          })
      by (inr differ) =
          some_from (IsCleared h' i e) (receipt_of v1 i e.0) was.0 (other1 i e.0 differ ∙ was.1)
          (like_cleared h h' like i e was.0 was.2)

  pub tables-marked : TablesAgree v1 h'
  tables-marked = record {
    streams = tables.streams;
    grants = tables.grants;
    receipts = length-set v.receipts from (with_whole (receipts_from v from) n) ∙ tables.receipts;
    drawn = tables.drawn;
    counts = λ i. tables.counts i ∙ sym (marked_length v h stood 0 from n r may.here i);
    unfinished = marked_unfinished;
    untaken = marked_untaken;
    waiting = marked_waiting;
    taken = marked_taken;
    apart = tables.apart;
    cleared = marked_cleared;
    once = tables.once;
    caps = subst (λ (ps : List post.Post). All (λ p. IsSomeAnd (slice_get v.receives p.number) (λ r. r.cap ≡ p.cap))
        ps) (sym like.posts) tables.caps;
  }
