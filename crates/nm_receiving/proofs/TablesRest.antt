-- What the tables keep when receives are cancelled or end, and when bytes come or are taken.
use Rattle.std.specs.Prelude.{IsSomeAnd}
use Rattle.std.proofs.Common.{◌≡◌, ℕ, ◌<◌, true, false, nat_eq, Some, List, []}
use Rattle.std.proofs.Common.{length, get_or, refl, sym, ◌∙◌, ap, subst, ◌⊎◌, inl, inr}
use Rattle.std.specs.List.{All, IsDistinct, slice_get}
use Rattle.std.specs.Map.{keys_of}
use Rattle.std.proofs.lemmas.Bool.{cases_eq, true≢false}
use Rattle.std.proofs.lemmas.List.Elements.{All-weaker}
use Rattle.std.proofs.lemmas.Option.{same_Some, slice_get_within}
use Rattle.nm_types.specs.declared.messages.Arrival.{Arrival}
use Rattle.nm_types.specs.declared.messages.Post as post
use Rattle.nm_history.specs.declared.events.Event.{Event}
use Rattle.nm_history.specs.Completion.{is_taken}
use Rattle.nm_history.specs.Sends.{posts}
use Rattle.nm_match.specs.declared.deeds.Deed.{Deed}
use Rattle.nm_eager.specs.Streams.{message_of, missing}
use Rattle.nm_rndv.specs.Grants.{Granted, grant_in}
use Rattle.nm_receiving.specs.declared.receipts.Receipt.{Receipt}
use Rattle.nm_receiving.specs.declared.receipts.Receive.{Receive}
use Rattle.nm_receiving.specs.Kept.{AreGrantedFor, TablesAgree, HasBytes, HasOpen, IsCleared}
use Rattle.nm_receiving.specs.Receipts.{ReceivingView, granted_to, receipt_of, stream_of}
use Rattle.nm_receiving.proofs.Lists.{some_from}
use Rattle.std.proofs.Math.ListN.{set}
use Rattle.nm_eager.specs.Streams.{Stream, nothing_came}
use Rattle.nm_receiving.proofs.Grants.{open_still}
use Rattle.nm_receiving.proofs.Tables.{awaited_before, bytes_along}
use Rattle.nm_receiving.proofs.TablesMark.{IsLike, like_cleared, like_taken}
use Rattle.nm_types.proofs.ListLemmas.{get_set_other, get_set_same}
use Rattle.nm_types.proofs.OptionLemmas.{some_and}

-- a receive afterwards took the same message, and did not end before unless it ended
pub record IsLater (was now : Receive) : Type 0 where
  pub taken : was.taken ≡ now.taken
  pub ended : now.ended ≡ false → was.ended ≡ false

pub record AreLater (rs rs' : List Receive) : Type 0 where
  pub back : (k : ℕ) (now : Receive) → slice_get rs' k ≡ Some now →
      (was : Receive) × (slice_get rs k ≡ Some was) × IsLater was now
  pub caps : (k : ℕ) (was : Receive) → slice_get rs k ≡ Some was →
      (now : Receive) × (slice_get rs' k ≡ Some now) × (now.cap ≡ was.cap)

pub tables-receives : (v : ReceivingView) (h h' : List Event) (deeds : List Deed) (rs : List Receive) →
    TablesAgree v h → IsLike h h'
    → AreLater v.receives rs → TablesAgree (record v { deeds = deeds; receives = rs }) h'
tables-receives v h h' deeds rs tables like later = record {
  streams = tables.streams;
  grants = tables.grants;
  receipts = tables.receipts;
  drawn = tables.drawn;
  counts = tables.counts;
  unfinished = tables.unfinished;
  untaken = λ from n r here how none. same_bytes r
      (tables.untaken from n r here how (sym (like_taken h h' like from n) ∙ none));
  waiting = λ from n r here how none. tables.waiting from n r here how (sym (like_taken h h' like from n) ∙ none);
  taken = λ k receive a at' some.
      let was = later.back k receive at' in
      let had = tables.taken k was.0 a was.1 (was.2.taken ∙ some) in
      (had.0, had.1, λ live. same_bytes had.0 (had.2 (was.2.ended live)));
  apart = λ k l receive other a b at' at'' some some' same same'.
      let was = later.back k receive at' in let was' = later.back l other at'' in
      tables.apart k l was.0 was'.0 a b was.1 was'.1 (was.2.taken ∙ some) (was'.2.taken ∙ some') same same';
  cleared = λ from. All-weaker (λ e. IsSomeAnd (receipt_of v from e.0) (IsCleared h from e))
      (λ e. IsSomeAnd (receipt_of v from e.0) (IsCleared h' from e))
      (λ e had. let r = some_and (IsCleared h from e) (receipt_of v from e.0) had in
      some_from (IsCleared h' from e) (receipt_of v from e.0) r.0 r.1 (like_cleared h h' like from e r.0 r.2))
      (granted_to v from) (tables.cleared from);
  once = tables.once;
  caps = subst (λ (ps : List post.Post). All (λ p. IsSomeAnd (slice_get rs p.number) (λ r. r.cap ≡ p.cap)) ps)
      (sym like.posts)
      (All-weaker (λ p. IsSomeAnd (slice_get v.receives p.number) (λ r. r.cap ≡ p.cap))
      (λ p. IsSomeAnd (slice_get rs p.number) (λ r. r.cap ≡ p.cap))
      (λ p had. let r = some_and (λ (r : Receive). r.cap ≡ p.cap) (slice_get v.receives p.number) had in
      let now = later.caps p.number r.0 r.1 in
      some_from (λ (r : Receive). r.cap ≡ p.cap) (slice_get rs p.number) now.0 now.1 (now.2 ∙ r.2))
      (posts h) tables.caps);
}
  where
    same_bytes : (r : Receipt) → HasBytes v r → HasBytes (record v { deeds = deeds; receives = rs }) r
    same_bytes r bytes = record { granted = bytes.granted; joined = bytes.joined }

-- neither receives nor streams play a part in what is owed, and no event that makes no pair
pub owed-still : (v v' : ReceivingView) (h h' : List Event) → v'.grants ≡ v.grants → v'.receipts ≡ v.receipts
    → IsLike h h' → AreGrantedFor v h → AreGrantedFor v' h'
owed-still v v' h h' grants receipts like owed i k r here awaited =
    subst (λ (rows : List (List (ℕ × Granted))). HasOpen (get_or rows i []) k) (sym grants)
    (owed i k r (ap (λ (rows : List (List Receipt)). slice_get (get_or rows i []) k) (sym receipts) ∙ here)
    (awaited_before h h' i k r (sym (like_taken h h' like i k) ∙ awaited.taken) awaited))

-- the same history
pub like_itself : (h : List Event) → IsLike h h
like_itself h = record { pairs = refl; posts = refl }

pub later_same : (rs : List Receive) → AreLater rs rs
later_same rs = record {
  back = λ k now is. (now, is, record { taken = refl; ended = λ live. live });
  caps = λ k was is. (was, is, refl);
}

-- one receive that is changed
pub later_set : (rs : List Receive) (k0 : ℕ) (was now : Receive) → slice_get rs k0 ≡ Some was → IsLater was now →
    now.cap ≡ was.cap
    → AreLater rs (set rs k0 now)
later_set rs k0 was now here later cap = record {
  back = λ k r is. back k r is (cases_eq k k0);
  caps = λ k r is. caps k r is (cases_eq k k0);
}
  where
    at_k0 : slice_get (set rs k0 now) k0 ≡ Some now
    at_k0 = get_set_same rs k0 now (slice_get_within rs k0 was here)

    back : (k : ℕ) (r : Receive) → slice_get (set rs k0 now) k ≡ Some r → (k ≡ k0) ⊎ (k ≡ k0 → ⊥)
        → (old : Receive) × (slice_get rs k ≡ Some old) × IsLater old r
    back k r is (inl same) =
        let is_now : now ≡ r = same_Some now r (sym at_k0 ∙ ap (λ (j : ℕ). slice_get (set rs k0 now) j) (sym same)
        ∙ is) in
        (was, ap (λ (j : ℕ). slice_get rs j) same ∙ here, subst (λ (x : Receive). IsLater was x) is_now later)
    back k r is (inr differ) =
        (r, sym (get_set_other rs k0 k now differ) ∙ is, record { taken = refl; ended = λ live. live })

    caps : (k : ℕ) (r : Receive) → slice_get rs k ≡ Some r → (k ≡ k0) ⊎ (k ≡ k0 → ⊥)
        → (x : Receive) × (slice_get (set rs k0 now) k ≡ Some x) × (x.cap ≡ r.cap)
    caps k r is (inl same) =
        let is_was : was ≡ r = same_Some was r (sym here ∙ ap (λ (j : ℕ). slice_get rs j) (sym same) ∙ is) in
        (now, ap (λ (j : ℕ). slice_get (set rs k0 now) j) same ∙ at_k0, cap ∙ ap (λ (x : Receive). x.cap) is_was)
    caps k r is (inr differ) = (r, get_set_other rs k0 k now differ ∙ is, refl)

-- other bytes than those of message n are still here, and as many are missing
pub record AreRemoved (v : ReceivingView) (h : List Event) (streams : List Stream)
    (grants : List (List (ℕ × Granted))) (from n : ℕ) : Type 0 where
  pub streams' : length streams ≡ length v.streams
  pub grants' : length grants ≡ length v.grants
  pub counts : (i : ℕ) → (get_or streams i nothing_came).count ≡ (stream_of v i).count
  pub missed : (i : ℕ) → missing (get_or streams i nothing_came) ≡ missing (stream_of v i)
  pub joined : (i k : ℕ) → (i ≡ from → k ≡ n → ⊥) → message_of (get_or streams i nothing_came) k ≡ message_of
      (stream_of v i) k
  pub granted : (i k : ℕ) → (i ≡ from → k ≡ n → ⊥) → grant_in (get_or grants i []) k ≡ grant_in (granted_to v i) k
  pub cleared : (i : ℕ) → All (λ e. IsSomeAnd (receipt_of v i e.0) (IsCleared h i e)) (get_or grants i [])
  pub once : (i : ℕ) → IsDistinct nat_eq (keys_of (get_or grants i []))

-- what is owed stays where the bytes of a whole message are removed
pub owed-removed : (v : ReceivingView) (h : List Event) (streams : List Stream) (grants : List (List (ℕ × Granted)))
    (from n : ℕ) (m : Receipt) → AreRemoved v h streams grants from n → receipt_of v from n ≡ Some m → m.whole ≡ true
    → AreGrantedFor v h → AreGrantedFor (record v { streams = streams; grants = grants }) h
owed-removed v h streams grants from n m removed came whole owed i k r here awaited =
    by (cases_eq i from) (cases_eq k n)
  where
    other : (i ≡ from → k ≡ n → ⊥) → HasOpen (get_or grants i []) k
    other differ = open_still (granted_to v i) (get_or grants i []) k (λ g is. removed.granted i k differ ∙ is)
        (owed i k r here awaited)

    by : (i ≡ from) ⊎ (i ≡ from → ⊥) → (k ≡ n) ⊎ (k ≡ n → ⊥) → HasOpen (get_or grants i []) k
    by (inl same) (inl same') =
        let is : m ≡ r = same_Some m r (sym came ∙ ap (λ (j : ℕ). receipt_of v from j) (sym same')
        ∙ ap (λ (j : ℕ). receipt_of v j k) (sym same) ∙ here) in
        absurd (true≢false (sym whole ∙ ap (λ (x : Receipt). x.whole) is ∙ awaited.lacking))
    by (inl same) (inr differ) = other (λ _ is. differ is)
    by (inr differ) place = other (λ is _. differ is)

pub tables-removed : (v : ReceivingView) (h : List Event) (streams : List Stream) (grants : List (List (ℕ × Granted)))
    (from n : ℕ)
    → TablesAgree v h → AreRemoved v h streams grants from n → is_taken h from n ≡ true
    → ((k : ℕ) (receive : Receive) (a : Arrival) → slice_get v.receives k ≡ Some receive → receive.taken ≡ Some a →
    receive.ended ≡ false
    → a.env.from ≡ from → a.n ≡ n → ⊥)
    → ((i k : ℕ) (s : Receipt) → receipt_of v i k ≡ Some s → (s.arrival.env.from ≡ i) × (s.arrival.n ≡ k))
    → TablesAgree (record v { streams = streams; grants = grants }) h
tables-removed v h streams grants from n tables removed is_done ended names = record {
  streams = removed.streams' ∙ tables.streams;
  grants = removed.grants' ∙ tables.grants;
  receipts = tables.receipts;
  drawn = tables.drawn;
  counts = λ i. removed.counts i ∙ tables.counts i;
  unfinished = λ i k last some. tables.unfinished i k (last ∙ removed.counts i)
      (subst (λ (m : ℕ). 0 < m) (removed.missed i) some);
  untaken = λ i k r here how none.
      let name = names i k r here in
      still r (λ same same'. true≢false (sym (ap (λ (j : ℕ). is_taken h j k) (sym name.0 ∙ same)
      ∙ ap (λ (j : ℕ). is_taken h from j) (sym name.1 ∙ same') ∙ is_done) ∙ none)) (tables.untaken i k r here how none);
  waiting = tables.waiting;
  taken = λ k receive a at' some.
      let had = tables.taken k receive a at' some in (
        had.0,
        had.1,
        λ live. still had.0
            (λ same same'. ended k receive a at' some live (ap (λ (x : Arrival). x.env.from) (sym had.1.1) ∙ same)
            (ap (λ (x : Arrival). x.n) (sym had.1.1) ∙ same'))
            (had.2 live),
      );
  apart = tables.apart;
  cleared = removed.cleared;
  once = removed.once;
  caps = tables.caps;
}
  where
    still : (r : Receipt) → (r.arrival.env.from ≡ from → r.arrival.n ≡ n → ⊥) → HasBytes v r
        → HasBytes (record v { streams = streams; grants = grants }) r
    still r differ = bytes_along v (record v { streams = streams; grants = grants }) r r refl
        (λ how g is has. (g, removed.granted r.arrival.env.from r.arrival.n differ ∙ is, has))
        (λ how m is has. (m, removed.joined r.arrival.env.from r.arrival.n differ ∙ is, has))
