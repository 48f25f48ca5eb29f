-- What the tables keep among each other: what every step uses, and a receive that begins.
use Rattle.std.specs.Prelude.{IsSomeAnd}
use Rattle.std.proofs.Common.{◌≡◌, ℕ, ◌<◌, ◌==◌, ◌&&◌, Bool, true, false, nat_eq, Option, Some, None, List, [], ◌∷◌}
use Rattle.std.proofs.Common.{◌++◌}
use Rattle.std.proofs.Common.{length, refl, sym, ◌∙◌, ap, subst, ◌⊎◌, inl, inr}
use Rattle.std.specs.List.{All, IsDistinct, slice_get}
use Rattle.std.specs.Map.{keys_of}
use Rattle.std.specs.Option.{option_and_then, option_map, option_to_list}
use Rattle.std.proofs.lemmas.Bool.{cases_eq, false_from_ne_true, true≢false}
use Rattle.std.proofs.lemmas.List.Elements.{All-append, All-cons, All-nil, All-push, All-weaker}
use Rattle.std.proofs.lemmas.Option.{same_Some, slice_get_within}
use Rattle.nm_types.specs.declared.messages.Arrival.{Arrival}
use Rattle.nm_types.specs.declared.messages.Post as post
use Rattle.nm_history.specs.declared.events.Event.{Event}
use Rattle.nm_history.specs.declared.plain.Pair.{Pair}
use Rattle.nm_history.specs.Completion.{is_taken, pair_of_receive}
use Rattle.nm_history.specs.Matching.{is_of_message, is_of_receive, matched_pairs, pair_of_claimed as pair}
use Rattle.nm_history.specs.Sends.{is_ask, posts}
use Rattle.nm_match.specs.declared.deeds.Deed.{Deed}
use Rattle.nm_eager.specs.Streams.{Incoming, message_of}
use Rattle.nm_rndv.specs.Grants.{Granted, fresh, grant_in}
use Rattle.nm_receiving.specs.declared.receipts.Receipt.{Receipt}
use Rattle.nm_receiving.specs.declared.receipts.Receive.{Receive}
use Rattle.nm_receiving.specs.Kept.{AreGrantedFor, TablesAgree, HasBytes, HasOpen, IsAwaited, IsCleared, IsGranted}
use Rattle.nm_receiving.specs.Kept.{IsHere, IsJoined}
use Rattle.nm_receiving.specs.Receipts.{ReceivingView, granted_to, pair_with, receipt_of, stream_of}
use Rattle.nm_receiving.specs.Received.{AreReceived}
use Rattle.nm_receiving.proofs.Grants.{Granted_now, grant_among, grant_new, grant_still, granted_cases}
use Rattle.nm_receiving.proofs.Grants.{granted_length, granted_new, once_push, open_new, open_still}
use Rattle.nm_receiving.proofs.Grow.{newly_taken, taken_later, taken_now}
use Rattle.nm_receiving.proofs.Lists.{any_of_found, slice_get-last, slice_get-push_other, some_from}
use Rattle.nm_receiving.proofs.Stood.{begun}
use Rattle.nm_types.proofs.NumberLemmas.{eq_true}
use Rattle.nm_types.proofs.ListLemmas.{get_front}
use Rattle.nm_types.proofs.OptionLemmas.{mapped_some, some_and}

-- a receive that has a message has it in the history
pub took : (v : ReceivingView) (h : List Event) → AreReceived v h → (k : ℕ) (receive : Receive) (a : Arrival)
    → slice_get v.receives k ≡ Some receive → receive.taken ≡ Some a → is_taken h a.env.from a.n ≡ true
took v h received k receive a at' some =
    let there : pair_of_receive h k ≡ Some (pair k receive.cap a) =
    sym (received.pairs k) ∙ ap (λ (o : Option Receive). option_and_then (pair_with k) o) at'
    ∙ ap (λ (o : Option Arrival). option_map (pair k receive.cap) o) some in
    any_of_found (is_of_receive k) (is_of_message a.env.from a.n) (matched_pairs h) (pair k receive.cap a) there
    (ap (λ (b : Bool). b && a.n == a.n) (eq_true a.env.from a.env.from refl) ∙ eq_true a.n a.n refl)

-- a message that is not taken later was not taken before
pub untaken_before : (h h' : List Event) (more : List Pair) → matched_pairs h' ≡ matched_pairs h ++ more → (from n : ℕ)
    → is_taken h' from n ≡ false → is_taken h from n ≡ false
untaken_before h h' more grown from n none =
    false_from_ne_true (is_taken h from n) (λ is. true≢false (sym (taken_later h h' more grown from n is) ∙ none))

-- the bytes of a message are in another view too
pub bytes_along : (v v' : ReceivingView) (r s : Receipt) → s.arrival ≡ r.arrival
    → (is_ask r.arrival.env.how ≡ true → (g : Granted) → grant_in (granted_to v r.arrival.env.from) r.arrival.n
    ≡ Some g → IsGranted r g
    → (g' : Granted) × (grant_in (granted_to v' r.arrival.env.from) r.arrival.n ≡ Some g') × IsGranted s g')
    → (is_ask r.arrival.env.how ≡ false → (m : Incoming) → message_of (stream_of v r.arrival.env.from) r.arrival.n
    ≡ Some m → IsJoined r m
    → (m' : Incoming) × (message_of (stream_of v' r.arrival.env.from) r.arrival.n ≡ Some m') × IsJoined s m')
    → HasBytes v r → HasBytes v' s
bytes_along v v' r s same grant join bytes = record {
  granted = subst (λ (a : Arrival). is_ask a.env.how ≡ true → IsSomeAnd (grant_in (granted_to v' a.env.from) a.n)
      (IsGranted s)) (sym same)
      (λ how. let had = some_and (IsGranted r) (grant_in (granted_to v r.arrival.env.from) r.arrival.n)
      (bytes.granted how) in
      let has = grant how had.0 had.1 had.2 in
      some_from (IsGranted s) (grant_in (granted_to v' r.arrival.env.from) r.arrival.n) has.0 has.1 has.2);
  joined = subst (λ (a : Arrival). is_ask a.env.how ≡ false → IsSomeAnd (message_of (stream_of v' a.env.from) a.n)
      (IsJoined s)) (sym same)
      (λ how. let had = some_and (IsJoined r) (message_of (stream_of v r.arrival.env.from) r.arrival.n)
      (bytes.joined how) in
      let has = join how had.0 had.1 had.2 in
      some_from (IsJoined s) (message_of (stream_of v' r.arrival.env.from) r.arrival.n) has.0 has.1 has.2);
}

-- a message that no receive took has no grant
pub no_grant : (v : ReceivingView) (h : List Event) → TablesAgree v h → (from n : ℕ) → is_taken h from n ≡ false
    → grant_in (granted_to v from) n ≡ None
no_grant v h tables from n untaken = by (grant_in (granted_to v from) n) refl
  where
    by : (o : Option Granted) → grant_in (granted_to v from) n ≡ o → grant_in (granted_to v from) n ≡ None
    by None is = is
    by (Some g) is =
        let entry = grant_among (λ e. IsSomeAnd (receipt_of v from e.0) (IsCleared h from e)) (granted_to v from) n g
        (tables.cleared from) is in
        let r = some_and (IsCleared h from (n, g)) (receipt_of v from n) entry in
        absurd (true≢false (sym r.2.taken ∙ untaken))

-- an entry stays cleared in a longer history
pub still_cleared : (h h' : List Event) (more : List Pair) → matched_pairs h' ≡ matched_pairs h ++ more →
    (from : ℕ) (e : ℕ × Granted) (r : Receipt)
    → IsCleared h from e r → IsCleared h' from e r
still_cleared h h' more grown from e r was =
    record { asked = was.asked; taken = taken_later h h' more grown from e.0 was.taken; due = was.due }

-- pieces of the message were to come before, if it was taken before
pub awaited_before : (h h' : List Event) (from n : ℕ) (r : Receipt) → is_taken h from n ≡ true → IsAwaited h' from n r
    → IsAwaited h from n r
awaited_before h h' from n r was awaited =
    record { asked = awaited.asked; body = awaited.body; taken = was; lacking = awaited.lacking }

-- what a receive takes: a message that is here, and that no receive took
pub record IsFree (v : ReceivingView) (h : List Event) (a : Arrival) (r : Receipt) : Type 0 where
  pub granted : a.env.from < length v.grants
  pub here : receipt_of v a.env.from a.n ≡ Some r
  pub arrival : r.arrival ≡ a
  pub untaken : is_taken h a.env.from a.n ≡ false

module _ (v : ReceivingView) (h h' : List Event) (d : Deed) (number cap : ℕ) (taken : Option Arrival)
    (received : AreReceived v h) (tables : TablesAgree v h) (next : number ≡ length v.receives)
    (grown : matched_pairs h' ≡ matched_pairs h ++ option_to_list (option_map (pair number cap) taken))
    (free : (a : Arrival) → taken ≡ Some a → (r : Receipt) × IsFree v h a r) where
  abbrev v1 : ReceivingView
  v1 = begun v d cap taken

  abbrev new : Receive
  new = record { cap = cap; taken = taken; cancelled = false; ended = false }

  inside : (a : Arrival) → taken ≡ Some a → a.env.from < length v.grants
  inside a is = let f = free a is in f.1.granted

  -- what was granted still is
  granted_still : (from n : ℕ) (g : Granted) → grant_in (granted_to v from) n ≡ Some g →
      grant_in (granted_to v1 from) n ≡ Some g
  granted_still from n g is = by (granted_cases v.grants taken from inside)
    where
      by : (granted_to v1 from ≡ granted_to v from) ⊎ Granted_now v.grants taken from →
          grant_in (granted_to v1 from) n ≡ Some g
      by (inl same) = ap (λ (row : List (ℕ × Granted)). grant_in row n) same ∙ is
      by (inr now) = ap (λ (row : List (ℕ × Granted)). grant_in row n) now.4
          ∙ grant_still (granted_to v from) ((now.0.n, fresh now.0.env.len) ∷ []) n g is

  bytes_still : (r : Receipt) → HasBytes v r → HasBytes v1 r
  bytes_still r = bytes_along v v1 r r refl
      (λ how g is has. (g, granted_still r.arrival.env.from r.arrival.n g is, has)) (λ how m is has. (m, is, has))

  -- what is granted now
  granted_here : (a : Arrival) → taken ≡ Some a → is_ask a.env.how ≡ true
      → grant_in (granted_to v1 a.env.from) a.n ≡ Some (fresh a.env.len)
  granted_here a some how =
      let f = free a some in
      ap (λ (row : List (ℕ × Granted)). grant_in row a.n)
      (ap (λ (o : Option Arrival). granted_to (begun v d cap o) a.env.from) some
      ∙ granted_new v.grants a how f.1.granted a.env.from refl)
      ∙ grant_new (granted_to v a.env.from) a.n (fresh a.env.len) (no_grant v h tables a.env.from a.n f.1.untaken)

  new_bytes : (a : Arrival) → taken ≡ Some a → (r : Receipt) × IsHere v1 a r × HasBytes v1 r
  new_bytes a some = let f = free a some in (f.0, (f.1.here, f.1.arrival), by (is_ask a.env.how) refl f.0 f.1)
    where
      by : (b : Bool) → is_ask a.env.how ≡ b → (r : Receipt) → IsFree v h a r → HasBytes v1 r
      by false eager r f =
          bytes_still r (tables.untaken a.env.from a.n r f.here (ap (λ (x : Arrival). is_ask x.env.how) f.arrival
          ∙ eager) f.untaken)
      by true how r f =
          let asked : is_ask r.arrival.env.how ≡ true = ap (λ (x : Arrival). is_ask x.env.how) f.arrival ∙ how in
          let not_whole = tables.waiting a.env.from a.n r f.here asked f.untaken in
          let there' : grant_in (granted_to v1 r.arrival.env.from) r.arrival.n ≡ Some (fresh a.env.len) =
          subst (λ (x : Arrival). grant_in (granted_to v1 x.env.from) x.n ≡ Some (fresh a.env.len))
          (sym f.arrival) (granted_here a some how) in
          record {
            granted = λ _. some_from (IsGranted r) (grant_in (granted_to v1 r.arrival.env.from) r.arrival.n)
                (fresh a.env.len) there'
                (record {
                  len = ap (λ (x : Arrival). x.env.len) (sym f.arrival);
                  bytes = λ whole. absurd (true≢false (sym whole ∙ not_whole));
                });
            joined = λ eager. absurd (true≢false (sym asked ∙ eager));
          }

  place : (k : ℕ) (receive : Receive) → slice_get (v.receives ++ new ∷ []) k ≡ Some receive
      → ((slice_get v.receives k ≡ Some receive)) ⊎ ((k ≡ length v.receives) × (new ≡ receive))
  place k receive at' = by (cases_eq k (length v.receives))
    where
      by : (k ≡ length v.receives) ⊎ (k ≡ length v.receives → ⊥)
          → ((slice_get v.receives k ≡ Some receive)) ⊎ ((k ≡ length v.receives) × (new ≡ receive))
      by (inl last) = inr (last, same_Some new receive (sym (slice_get-last v.receives new k last) ∙ at'))
      by (inr other) = inl (sym (slice_get-push_other v.receives new k other) ∙ at')

  begun_taken : (k : ℕ) (receive : Receive) (a : Arrival) → slice_get (v.receives ++ new ∷ []) k ≡ Some receive →
      receive.taken ≡ Some a
      → (r : Receipt) × IsHere v1 a r × (receive.ended ≡ false → HasBytes v1 r)
  begun_taken k receive a at' some = by (place k receive at')
    where
      by : ((slice_get v.receives k ≡ Some receive)) ⊎ ((k ≡ length v.receives) × (new ≡ receive))
          → (r : Receipt) × IsHere v1 a r × (receive.ended ≡ false → HasBytes v1 r)
      by (inl old) = let had = tables.taken k receive a old some in
          (had.0, had.1, λ live. bytes_still had.0 (had.2 live))
      by (inr last) =
          let has = new_bytes a (ap (λ (x : Receive). x.taken) last.1 ∙ some) in (has.0, has.1, λ _. has.2)

  -- the message of the new receive is no other's
  not_theirs : (k : ℕ) (receive : Receive) (a b : Arrival) → slice_get v.receives k ≡ Some receive →
      receive.taken ≡ Some a → taken ≡ Some b
      → a.env.from ≡ b.env.from → a.n ≡ b.n → ⊥
  not_theirs k receive a b at' some some' same same' =
      let f = free b some' in
      let is = took v h received k receive a at' some in
      true≢false (sym is ∙ ap (λ (i : ℕ). is_taken h i a.n) same ∙ ap (λ (j : ℕ). is_taken h b.env.from j) same'
      ∙ f.1.untaken)

  begun_apart : (k l : ℕ) (receive other : Receive) (a b : Arrival) → slice_get (v.receives ++ new ∷ []) k
      ≡ Some receive
      → slice_get (v.receives ++ new ∷ []) l ≡ Some other → receive.taken ≡ Some a → other.taken ≡ Some b
      → a.env.from ≡ b.env.from → a.n ≡ b.n → k ≡ l
  begun_apart k l receive other a b at' at'' some some' same same' = by (place k receive at') (place l other at'')
    where
      by : ((slice_get v.receives k ≡ Some receive)) ⊎ ((k ≡ length v.receives) × (new ≡ receive))
          → ((slice_get v.receives l ≡ Some other)) ⊎ ((l ≡ length v.receives) × (new ≡ other)) → k ≡ l
      by (inl old) (inl old') = tables.apart k l receive other a b old old' some some' same same'
      by (inl old) (inr last) =
          absurd (not_theirs k receive a b old some (ap (λ (x : Receive). x.taken) last.1 ∙ some') same same')
      by (inr last) (inl old) =
          absurd (not_theirs l other b a old some' (ap (λ (x : Receive). x.taken) last.1 ∙ some) (sym same) (sym same'))
      by (inr last) (inr last') = last.0 ∙ sym last'.0

  cleared_still : (from : ℕ) → All (λ e. IsSomeAnd (receipt_of v from e.0) (IsCleared h' from e)) (granted_to v from)
  cleared_still from =
      All-weaker (λ e. IsSomeAnd (receipt_of v from e.0) (IsCleared h from e))
      (λ e. IsSomeAnd (receipt_of v from e.0) (IsCleared h' from e))
      (λ e was. let r = some_and (IsCleared h from e) (receipt_of v from e.0) was in
      some_from (IsCleared h' from e) (receipt_of v from e.0) r.0 r.1
      (still_cleared h h' (option_to_list (option_map (pair number cap) taken)) grown from e r.0 r.2))
      (granted_to v from) (tables.cleared from)

  begun_cleared : (from : ℕ) → All (λ e. IsSomeAnd (receipt_of v from e.0) (IsCleared h' from e)) (granted_to v1 from)
  begun_cleared from = by (granted_cases v.grants taken from inside)
    where
      by : (granted_to v1 from ≡ granted_to v from) ⊎ Granted_now v.grants taken from
          → All (λ e. IsSomeAnd (receipt_of v from e.0) (IsCleared h' from e)) (granted_to v1 from)
      by (inl same) = subst (λ (row : List (ℕ × Granted)). All
          (λ e. IsSomeAnd (receipt_of v from e.0) (IsCleared h' from e)) row) (sym same)
          (cleared_still from)
      by (inr now) =
          let a : Arrival = now.0 in
          let f = free a now.1 in
          let asked : is_ask f.0.arrival.env.how ≡ true = ap (λ (x : Arrival). is_ask x.env.how) f.1.arrival ∙ now.2 in
          let grown' : matched_pairs h' ≡ matched_pairs h ++ pair number cap a ∷ [] =
          grown ∙ ap (λ (o : Option Arrival). matched_pairs h ++ option_to_list (option_map (pair number cap) o))
          now.1 in
          subst (λ (row : List (ℕ × Granted)). All (λ e. IsSomeAnd (receipt_of v from e.0) (IsCleared h' from e)) row)
          (sym now.4)
          (All-push (λ e. IsSomeAnd (receipt_of v from e.0) (IsCleared h' from e)) (granted_to v from)
          (a.n, fresh a.env.len) (cleared_still from)
          (some_from (IsCleared h' from (a.n, fresh a.env.len)) (receipt_of v from a.n) f.0
          (ap (λ (i : ℕ). receipt_of v i a.n) now.3 ∙ f.1.here)
          (record {
            asked = asked;
            taken = ap (λ (i : ℕ). is_taken h' i a.n) now.3 ∙ taken_now h h' (pair number cap a) grown';
            due = λ _. tables.waiting a.env.from a.n f.0 f.1.here asked f.1.untaken;
          })))

  begun_once : (from : ℕ) → IsDistinct nat_eq (keys_of (granted_to v1 from))
  begun_once from = by (granted_cases v.grants taken from inside)
    where
      by : (granted_to v1 from ≡ granted_to v from) ⊎ Granted_now v.grants taken from →
          IsDistinct nat_eq (keys_of (granted_to v1 from))
      by (inl same) = subst (λ (row : List (ℕ × Granted)). IsDistinct nat_eq (keys_of row)) (sym same)
          (tables.once from)
      by (inr now) =
          let a : Arrival = now.0 in
          let f = free a now.1 in
          subst (λ (row : List (ℕ × Granted)). IsDistinct nat_eq (keys_of row)) (sym now.4)
          (once_push (granted_to v from) a.n (fresh a.env.len)
          (ap (λ (i : ℕ). grant_in (granted_to v i) a.n) now.3 ∙ no_grant v h tables a.env.from a.n f.1.untaken)
          (tables.once from))

  -- a message whose pieces are to come has an open grant
  pub owed-begun : AreGrantedFor v h → AreGrantedFor v1 h'
  owed-begun owed i k r here awaited = by (is_taken h i k) refl
    where
      by : (b : Bool) → is_taken h i k ≡ b → HasOpen (granted_to v1 i) k
      by true was = open_still (granted_to v i) (granted_to v1 i) k (granted_still i k)
          (owed i k r here (awaited_before h h' i k r was awaited))
      by false not_yet =
          let now = newly_taken h h' (option_map (pair number cap) taken) grown i k not_yet awaited.taken in
          let of = mapped_some (pair number cap) taken now.0 now.1 in
          let a : Arrival = of.0 in
          let from_is : a.env.from ≡ i = ap (λ (q : Pair). q.arrival.env.from) of.2 ∙ now.2 in
          let n_is : a.n ≡ k = ap (λ (q : Pair). q.arrival.n) of.2 ∙ now.3 in
          let f = free a of.1 in
          let is_r : f.0 ≡ r = same_Some f.0 r (sym f.1.here ∙ ap (λ (j : ℕ). receipt_of v j a.n) from_is
          ∙ ap (λ (j : ℕ). receipt_of v i j) n_is ∙ here) in
          let is_a : r.arrival ≡ a = ap (λ (x : Receipt). x.arrival) (sym is_r) ∙ f.1.arrival in
          let asked : is_ask a.env.how ≡ true = ap (λ (x : Arrival). is_ask x.env.how) (sym is_a) ∙ awaited.asked in
          let body : 0 < a.env.len = subst (λ (x : Arrival). 0 < x.env.len) is_a awaited.body in
          subst (λ (j : ℕ). HasOpen (granted_to v1 j) k) from_is
          (subst (λ (j : ℕ). HasOpen (granted_to v1 a.env.from) j) n_is
          (open_new (granted_to v1 a.env.from) a.n a.env.len (granted_here a of.1 asked) body))

  pub tables-begun : (po : Option post.Post) → posts h' ≡ posts h ++ option_to_list po
      → ((p : post.Post) → po ≡ Some p → (p.number ≡ number) × (p.cap ≡ cap)) → TablesAgree v1 h'
  tables-begun po posted is_p = record {
    streams = tables.streams;
    grants = granted_length v.grants taken ∙ tables.grants;
    receipts = tables.receipts;
    drawn = tables.drawn;
    counts = tables.counts;
    unfinished = tables.unfinished;
    untaken = λ from n r here how none. bytes_still r (tables.untaken from n r here how
        (untaken_before h h' (option_to_list (option_map (pair number cap) taken)) grown from n none));
    waiting = λ from n r here how none. tables.waiting from n r here how
        (untaken_before h h' (option_to_list (option_map (pair number cap) taken)) grown from n none);
    taken = begun_taken;
    apart = begun_apart;
    cleared = begun_cleared;
    once = begun_once;
    caps = subst (λ (ps : List post.Post). All (λ p. IsSomeAnd (slice_get (v.receives ++ new ∷ []) p.number)
        (λ r. r.cap ≡ p.cap)) ps) (sym posted)
        (All-append (λ p. IsSomeAnd (slice_get (v.receives ++ new ∷ []) p.number) (λ r. r.cap ≡ p.cap)) (posts h)
        (option_to_list po)
        (All-weaker (λ p. IsSomeAnd (slice_get v.receives p.number) (λ r. r.cap ≡ p.cap))
        (λ p. IsSomeAnd (slice_get (v.receives ++ new ∷ []) p.number) (λ r. r.cap ≡ p.cap))
        (λ p had. let r = some_and (λ (r : Receive). r.cap ≡ p.cap) (slice_get v.receives p.number) had in
        some_from (λ (r : Receive). r.cap ≡ p.cap) (slice_get (v.receives ++ new ∷ []) p.number) r.0
        (get_front v.receives (new ∷ []) p.number (slice_get_within v.receives p.number r.0 r.1) ∙ r.1) r.2)
        (posts h) tables.caps)
        (new_cap po is_p));
  }
    where
      new_cap : (po : Option post.Post) → ((p : post.Post) → po ≡ Some p → (p.number ≡ number) × (p.cap ≡ cap))
          → All (λ p. IsSomeAnd (slice_get (v.receives ++ new ∷ []) p.number) (λ r. r.cap ≡ p.cap)) (option_to_list po)
      new_cap None is = All-nil (λ p. IsSomeAnd (slice_get (v.receives ++ new ∷ []) p.number) (λ r. r.cap ≡ p.cap))
      new_cap (Some p) is =
          let same = is p refl in
          All-cons (λ p. IsSomeAnd (slice_get (v.receives ++ new ∷ []) p.number) (λ r. r.cap ≡ p.cap)) p []
          (some_from (λ (r : Receive). r.cap ≡ p.cap) (slice_get (v.receives ++ new ∷ []) p.number) new
          (slice_get-last v.receives new p.number (same.0 ∙ next)) (sym same.1))
          (All-nil (λ p. IsSomeAnd (slice_get (v.receives ++ new ∷ []) p.number) (λ r. r.cap ≡ p.cap)))
