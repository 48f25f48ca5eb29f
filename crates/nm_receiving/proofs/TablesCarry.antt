-- What the tables keep when an eager message goes on, and when bytes are taken.
use Rattle.std.proofs.Common.{◌≡◌, ◌≢◌, ℕ, ◌+◌, ◌<◌, ◌≤◌, ◌==◌, Bool, true, false, cond, Option, Some, List, [], ◌∷◌}
use Rattle.std.proofs.Common.{◌++◌}
use Rattle.std.proofs.Common.{length, get_or, refl, sym, ◌∙◌, ap, subst, ◌⊎◌, inl, inr, arith, length-append}
use Rattle.std.specs.Option.{option_map}
use Rattle.std.proofs.lemmas.Bool.{cases_eq, true≢false}
use Rattle.std.proofs.lemmas.Option.{same_Some}
use Rattle.nm_history.specs.declared.events.Event.{Event}
use Rattle.nm_history.specs.Sends.{is_ask}
use Rattle.nm_eager.specs.Streams.{Incoming, message_of, missing}
use Rattle.nm_rndv.specs.Grants.{Granted}
use Rattle.nm_receiving.specs.declared.receipts.Receipt.{Receipt}
use Rattle.nm_receiving.specs.Kept.{TablesAgree, HasBytes, IsCleared, IsJoined}
use Rattle.nm_receiving.specs.Receipts.{ReceivingView, granted_to, receipt_of, stream_of}
use Rattle.nm_receiving.proofs.Lists.{some_from}
use Rattle.std.proofs.Common.{map, find}
use Rattle.nm_eager.specs.Streams.{Stream, carried_on, lacking, nothing_came, with_more as with_more_bytes}
use Rattle.nm_receiving.specs.Steps.{made_whole}
use Rattle.nm_receiving.proofs.Lists.{found-le-sum}
use Rattle.nm_receiving.proofs.Tables.{bytes_along}
use Rattle.nm_receiving.proofs.TablesMark.{MayMark}
use Rattle.nm_eager.specs.Streams.{IsStream}
use Rattle.nm_eager.proofs.MissingLemmas.{missing-carried_on}
use Rattle.nm_types.proofs.OptionLemmas.{some_and}

-- a message of a stream that goes on
keeps_number : (n : ℕ) (bytes : List ℕ) (m : Incoming) → (with_more_bytes n bytes m).n ≡ m.n
keeps_number n bytes m = by (m.n == n)
  where
    by : (b : Bool) → (cond b (record m { bytes = m.bytes ++ bytes }) m).n ≡ m.n
    by true = refl
    by false = refl

keeps_len : (n : ℕ) (bytes : List ℕ) (m : Incoming) → (with_more_bytes n bytes m).len ≡ m.len
keeps_len n bytes m = by (m.n == n)
  where
    by : (b : Bool) → (cond b (record m { bytes = m.bytes ++ bytes }) m).len ≡ m.len
    by true = refl
    by false = refl

has_more : (n : ℕ) (bytes : List ℕ) (m : Incoming) → length m.bytes ≤ length (with_more_bytes n bytes m).bytes
has_more n bytes m = by (m.n == n)
  where
    by : (b : Bool) → length m.bytes ≤ length (cond b (record m { bytes = m.bytes ++ bytes }) m).bytes
    by true = omega (arith, length-append m.bytes bytes)
    by false = omega arith

pub carried : (n : ℕ) (bytes : List ℕ) (ms : List Incoming) (k : ℕ)
    → find (λ m. m.n == k) (map (with_more_bytes n bytes) ms) ≡ option_map (with_more_bytes n bytes)
    (find (λ m. m.n == k) ms)
carried n bytes [] k = refl
carried n bytes (m ∷ ms) k = by (m.n == k) refl (carried n bytes ms k)
  where
    m' : Incoming
    m' = with_more_bytes n bytes m

    by : (b : Bool) → (m.n == k) ≡ b
        → find (λ m. m.n == k) (map (with_more_bytes n bytes) ms) ≡ option_map (with_more_bytes n bytes)
        (find (λ m. m.n == k) ms)
        → cond ((with_more_bytes n bytes m).n == k) (Some (with_more_bytes n bytes m))
        (find (λ m. m.n == k) (map (with_more_bytes n bytes) ms))
        ≡ option_map (with_more_bytes n bytes) (cond (m.n == k) (Some m) (find (λ m. m.n == k) ms))
    by true is later =
        ap (λ (j : ℕ). cond (j == k) (Some (with_more_bytes n bytes m))
        (find (λ m. m.n == k) (map (with_more_bytes n bytes) ms))) (keeps_number n bytes m)
        ∙ ap (λ (b : Bool). cond b (Some (with_more_bytes n bytes m))
        (find (λ m. m.n == k) (map (with_more_bytes n bytes) ms))) is
        ∙ sym (ap (λ (b : Bool). option_map (with_more_bytes n bytes) (cond b (Some m) (find (λ m. m.n == k) ms))) is)
    by false is later =
        ap (λ (j : ℕ). cond (j == k) (Some (with_more_bytes n bytes m))
        (find (λ m. m.n == k) (map (with_more_bytes n bytes) ms))) (keeps_number n bytes m)
        ∙ ap (λ (b : Bool). cond b (Some (with_more_bytes n bytes m))
        (find (λ m. m.n == k) (map (with_more_bytes n bytes) ms))) is
        ∙ later
        ∙ sym (ap (λ (b : Bool). option_map (with_more_bytes n bytes) (cond b (Some m) (find (λ m. m.n == k) ms))) is)

-- the bytes of message n came, and the other streams are as they were
pub record AreCarried (v : ReceivingView) (streams : List Stream) (from n : ℕ) (bytes : List ℕ) : Type 0 where
  pub streams' : length streams ≡ length v.streams
  pub same : (i : ℕ) → i ≢ from → get_or streams i nothing_came ≡ stream_of v i
  pub here : get_or streams from nothing_came ≡ carried_on (stream_of v from) n bytes

module _ (v : ReceivingView) (h : List Event) (streams : List Stream) (from n : ℕ) (bytes : List ℕ)
    (tables : TablesAgree v h)
    (more : AreCarried v streams from n bytes) (right : IsStream (stream_of v from))
    (last : n + 1 ≡ (stream_of v from).count)
    (within : length bytes ≤ missing (stream_of v from)) where
  abbrev v1 : ReceivingView
  v1 = record v { streams = streams }

  left : missing (stream_of v1 from) + length bytes ≡ missing (stream_of v from)
  left = ap (λ (s : Stream). missing s + length bytes) more.here ∙ missing-carried_on (stream_of v from) n bytes right
      last within

  joined_now : (i k : ℕ) (m : Incoming) → message_of (stream_of v i) k ≡ Some m
      → (m' : Incoming) × (message_of (stream_of v1 i) k ≡ Some m') × (m'.len ≡ m.len)
      × (length m.bytes ≤ length m'.bytes)
  joined_now i k m is = by (cases_eq i from)
    where
      by : (i ≡ from) ⊎ (i ≡ from → ⊥)
          → (m' : Incoming) × (message_of (stream_of v1 i) k ≡ Some m') × (m'.len ≡ m.len)
          × (length m.bytes ≤ length m'.bytes)
      by (inl same) = (
        with_more_bytes n bytes m,
        ap (λ (j : ℕ). message_of (stream_of v1 j) k) same ∙ ap (λ (s : Stream). message_of s k) more.here
            ∙ carried n bytes (stream_of v from).messages k
            ∙ ap (λ (o : Option Incoming). option_map (with_more_bytes n bytes) o)
            (ap (λ (j : ℕ). message_of (stream_of v j) k) (sym same) ∙ is),
        keeps_len n bytes m,
        has_more n bytes m,
      )
      by (inr other) = (m, ap (λ (s : Stream). message_of s k) (more.same i other) ∙ is, refl, omega arith)

  carried_bytes : (s : Receipt) → HasBytes v s → HasBytes v1 s
  carried_bytes s = bytes_along v v1 s s refl (λ how g is has. (g, is, has))
      (λ how m is has.
      let now = joined_now s.arrival.env.from s.arrival.n m is in
      let len = now.2 in
      let more' = now.3 in (
        now.0,
        now.1,
        record {
          len = len ∙ has.len;
          whole = λ whole. let had = has.whole whole in omega (arith, len, more', had);
        },
      ))

  counts1 : (i : ℕ) → (stream_of v1 i).count ≡ (stream_of v i).count
  counts1 i = by (cases_eq i from)
    where
      by : (i ≡ from) ⊎ (i ≡ from → ⊥) → (stream_of v1 i).count ≡ (stream_of v i).count
      by (inl same) = ap (λ (j : ℕ). (stream_of v1 j).count) same ∙ ap (λ (s : Stream). s.count) more.here
          ∙ ap (λ (j : ℕ). (stream_of v j).count) (sym same)
      by (inr other) = ap (λ (s : Stream). s.count) (more.same i other)

  missed : (i : ℕ) → 0 < missing (stream_of v1 i) → 0 < missing (stream_of v i)
  missed i some = by (cases_eq i from)
    where
      by : (i ≡ from) ⊎ (i ≡ from → ⊥) → 0 < missing (stream_of v i)
      by (inl same) =
          let some' : 0 < missing (stream_of v1 from) = subst (λ (j : ℕ). 0 < missing (stream_of v1 j)) same some in
          let had : 0 < missing (stream_of v from) = omega (arith, some', left) in
          subst (λ (j : ℕ). 0 < missing (stream_of v j)) (sym same) had
      by (inr other) = subst (λ (s : Stream). 0 < missing s) (more.same i other) some

  pub tables-carried : TablesAgree v1 h
  tables-carried = record {
    streams = more.streams' ∙ tables.streams;
    grants = tables.grants;
    receipts = tables.receipts;
    drawn = tables.drawn;
    counts = λ i. counts1 i ∙ tables.counts i;
    unfinished = λ i k end some. tables.unfinished i k (end ∙ counts1 i) (missed i some);
    untaken = λ i k s here how none. carried_bytes s (tables.untaken i k s here how none);
    waiting = tables.waiting;
    taken = λ k receive a at' some.
        let had = tables.taken k receive a at' some in (had.0, had.1, λ live. carried_bytes had.0 (had.2 live));
    apart = tables.apart;
    cleared = tables.cleared;
    once = tables.once;
    caps = tables.caps;
  }

  -- the message that goes on is eager and not whole
  pub goes_on_here : 0 < missing (stream_of v from)
      → (r : Receipt) × (receipt_of v from n ≡ Some r) × (is_ask r.arrival.env.how ≡ false) × (r.whole ≡ false)
  goes_on_here some =
      let was = some_and (λ (r : Receipt). (is_ask r.arrival.env.how ≡ false) × (r.whole ≡ false)) (receipt_of v from n)
      (tables.unfinished from n last some) in
      (was.0, was.1, was.2.0, was.2.1)

  -- with its last bytes it may be made whole
  pub carried_may_mark : missing (stream_of v from) ≡ length bytes → (r : Receipt) → receipt_of v from n ≡ Some r →
      is_ask r.arrival.env.how ≡ false
      → r.arrival.env.from ≡ from → MayMark v1 h from n r
  carried_may_mark full r here eager name = record {
    here = here;
    complete = λ had. record {
      granted = λ asked. absurd (true≢false (sym asked ∙ eager));
      joined = λ how.
          let was = some_and (IsJoined r) (message_of (stream_of v1 r.arrival.env.from) r.arrival.n) (had.joined how) in
          let lacks : lacking was.0 ≤ missing (stream_of v1 r.arrival.env.from) =
          found-le-sum lacking (λ (m : Incoming). m.n == r.arrival.n) (stream_of v1 r.arrival.env.from).messages was.0
          was.1 in
          let none : missing (stream_of v1 r.arrival.env.from) ≡ 0 =
          ap (λ (j : ℕ). missing (stream_of v1 j)) name ∙ nothing_left in
          some_from (IsJoined (made_whole r)) (message_of (stream_of v1 r.arrival.env.from) r.arrival.n) was.0 was.1
          (record { len = was.2.len; whole = λ _. omega (arith, lacks, none) });
    };
    last = λ _ some. let h' : ⊥ = omega (arith, some, nothing_left) in h';
    taken = λ asked. absurd (true≢false (sym asked ∙ eager));
    closed = λ k d inside same.
        let e : ℕ × Granted = get_or (granted_to v from) k d in
        let was = some_and (IsCleared h from e) (receipt_of v from e.0) (tables.cleared from k d inside) in
        let is_r : was.0 ≡ r = same_Some was.0 r (sym was.1 ∙ ap (λ (j : ℕ). receipt_of v from j) same ∙ here) in
        absurd (true≢false (sym was.2.asked ∙ ap (λ (x : Receipt). is_ask x.arrival.env.how) is_r ∙ eager));
  }
    where
      nothing_left : missing (stream_of v1 from) ≡ 0
      nothing_left = omega (arith, left, full)
