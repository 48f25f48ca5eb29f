-- What came of eager messages, by a joiner.
use Rattle.std.proofs.Common.{◌≡◌, ◌≢◌, ℕ, ◌-◌, ◌<◌, ◌==◌, true, false, Some, List}
use Rattle.std.proofs.Common.{length, get_or, refl, sym, ◌∙◌, ap, arith, ◌⊎◌, inl, inr}
use Rattle.std.proofs.Math.ListN.{set}
use Rattle.std.proofs.lemmas.Bool.{cases_eq, true≢false}
use Rattle.std.proofs.lemmas.List.{get_or-set_other, get_or-set_same, get_or_default, length-set, same_lists}
use Rattle.nm_types.specs.declared.messages.Arrival.{Arrival}
use Rattle.nm_types.specs.Sizes.{Sizes}
use Rattle.nm_history.specs.Sends.{is_ask}
use Rattle.nm_eager.specs.Joining.{Joining, MakesRoom, stream_from}
use Rattle.nm_eager.specs.Senders.{Received}
use Rattle.nm_eager.specs.Streams.{Incoming, IsStream, Stream, begun, message_of, missing, nothing_came, skipped}
use Rattle.nm_eager.proofs.MessageLemmas.{Lacks-below, find-lacks}
use Rattle.nm_eager.proofs.MissingLemmas.{missing-begun}
use Rattle.nm_receiving.specs.Kept.{IsJoined}
use Rattle.nm_receiving.specs.Receipts.{ReceivingView, stream_of}
use Rattle.nm_receiving.specs.Steps.{streams_of}
use Rattle.nm_receiving.proofs.Beginning.{stream_at, streams_length}
use Rattle.nm_receiving.proofs.Coming.{newcomer}
use Rattle.nm_receiving.proofs.Lists.{find-first_more, find-none_more, some_from}
use Rattle.nm_receiving.proofs.TablesCome.{AreLonger}
use Rattle.nm_types.proofs.NumberLemmas.{unequal, eq_true}

-- one stream changed, and no other
module _ (old new : Joining) (from : ℕ) (s : Stream) (sizes : new.sizes ≡ old.sizes) (inside : from < old.sizes.ranks)
    (changed : stream_from new from ≡ s) (others : (other : ℕ) → other ≢ from →
    stream_from new other ≡ stream_from old other) where
  ranks : new.sizes.ranks ≡ old.sizes.ranks
  ranks = ap (λ (z : Sizes). z.ranks) sizes

  changed_at : (k : ℕ) → k < old.sizes.ranks → (k ≡ from) ⊎ (k ≡ from → ⊥) → stream_from new k ≡ get_or
      (set (streams_of old) from s) k nothing_came
  changed_at k below (inl same) =
      ap (λ (j : ℕ). stream_from new j) same ∙ changed
      ∙ sym (ap (λ (j : ℕ). get_or (set (streams_of old) from s) j nothing_came) same
      ∙ get_or-set_same (streams_of old) from s nothing_came (omega (arith, inside, streams_length old)))
  changed_at k below (inr other) =
      others k other ∙ sym (stream_at old k below) ∙ sym (get_or-set_other (streams_of old) from k s nothing_came other)

  pub stream_changed : streams_of new ≡ set (streams_of old) from s
  stream_changed =
      same_lists (streams_of new) (set (streams_of old) from s)
      (omega (arith, ranks, streams_length new, streams_length old, length-set (streams_of old) from s))
      (λ k d below.
      let inside_new : k < new.sizes.ranks = omega (arith, below, streams_length new) in
      let inside_old : k < old.sizes.ranks = omega (arith, inside_new, ranks) in
      get_or_default (streams_of new) k d nothing_came below
      ∙ stream_at new k inside_new ∙ changed_at k inside_old (cases_eq k from)
      ∙ sym (get_or_default (set (streams_of old) from s) k d nothing_came
      (omega (arith, inside_old, streams_length old, length-set (streams_of old) from s))))

-- room alone changes no stream
pub room_same : (old new : Joining) (from : ℕ) → MakesRoom old new from →
    (other : ℕ) → stream_from new other ≡ stream_from old other
room_same old new from room other = by (cases_eq other from)
  where
    by : (other ≡ from) ⊎ (other ≡ from → ⊥) → stream_from new other ≡ stream_from old other
    by (inl same) = ap (λ (j : ℕ). stream_from new j) same ∙ room.same.same ∙ ap (λ (j : ℕ). stream_from old j)
        (sym same)
    by (inr differ) = ap (λ (r : Received). r.stream) (room.others other differ)

pub streams_same : (old new : Joining) → new.sizes ≡ old.sizes →
    ((other : ℕ) → stream_from new other ≡ stream_from old other)
    → streams_of new ≡ streams_of old
streams_same old new sizes same =
    let ranks : new.sizes.ranks ≡ old.sizes.ranks = ap (λ (z : Sizes). z.ranks) sizes in
    same_lists (streams_of new) (streams_of old) (omega (arith, ranks, streams_length new, streams_length old))
    (λ k d below.
    let inside_new : k < new.sizes.ranks = omega (arith, below, streams_length new) in
    let inside_old : k < old.sizes.ranks = omega (arith, inside_new, ranks) in
    get_or_default (streams_of new) k d nothing_came below
    ∙ stream_at new k inside_new ∙ same k ∙ sym (stream_at old k inside_old)
    ∙ sym (get_or_default (streams_of old) k d nothing_came (omega (arith, inside_old, streams_length old))))

-- the stream of a rank where an eager message began
module _ (v : ReceivingView) (a : Arrival) (bytes : List ℕ) (inside : a.env.from < length v.streams)
    (next : a.n ≡ (stream_of v a.env.from).count) (eager : is_ask a.env.how ≡ false)
    (finished : missing (stream_of v a.env.from) ≡ 0) (right : IsStream (stream_of v a.env.from)) where
  abbrev s1 : Stream
  s1 = stream_of v a.env.from

  abbrev s2 : Stream
  s2 = begun s1 a.env.len bytes

  abbrev m1 : Incoming
  m1 = record { n = s1.count; len = a.env.len; bytes = bytes }

  begun_here : get_or (set v.streams a.env.from s2) a.env.from nothing_came ≡ s2
  begun_here = get_or-set_same v.streams a.env.from s2 nothing_came inside

  pub begun_joined : message_of (get_or (set v.streams a.env.from s2) a.env.from nothing_came) a.n ≡ Some m1
  begun_joined = ap (λ (s : Stream). message_of s a.n) begun_here
      ∙ find-first_more (λ (m : Incoming). m.n == a.n) s1.messages (Some m1)
      (find-lacks a.n s1.messages (Lacks-below a.n 0 s1.count s1.messages (omega (arith, next)) right.numbered))
      (λ x is. let same : m1 ≡ x = cc in eq_true x.n a.n (ap (λ (x : Incoming). x.n) (sym same) ∙ sym next))

  pub begun_missing : missing (get_or (set v.streams a.env.from s2) a.env.from nothing_came) ≡ a.env.len - length bytes
  begun_missing = ap missing begun_here ∙ omega (arith, missing-begun s1 a.env.len bytes, finished)

  pub begun_longer : AreLonger v (set v.streams a.env.from s2) a
  begun_longer = record {
    length' = length-set v.streams a.env.from s2;
    same = λ from differ. get_or-set_other v.streams a.env.from from s2 nothing_came differ;
    longer = record {
      count = ap (λ (s : Stream). s.count) begun_here;
      others = λ k differ. ap (λ (s : Stream). message_of s k) begun_here
          ∙ find-none_more (λ (m : Incoming). m.n == k) s1.messages (Some m1)
          (λ x is. let same : m1 ≡ x = cc in
          unequal x.n k (λ is_k. differ (sym is_k ∙ ap (λ (x : Incoming). x.n) (sym same) ∙ sym next)));
      finished = finished;
      asked = λ how. absurd (true≢false (sym how ∙ eager));
      eager = λ _. some_from (IsJoined (newcomer a))
          (message_of (get_or (set v.streams a.env.from s2) a.env.from nothing_came) a.n) m1 begun_joined
          (record { len = refl; whole = λ whole. absurd (true≢false (sym whole)) });
    };
  }

-- the stream of a rank where a message was announced
module _ (v : ReceivingView) (a : Arrival) (inside : a.env.from < length v.streams) (asked : is_ask a.env.how ≡ true)
    (finished : missing (stream_of v a.env.from) ≡ 0) where
  abbrev t1 : Stream
  t1 = stream_of v a.env.from

  abbrev t2 : Stream
  t2 = skipped t1

  skipped_here : get_or (set v.streams a.env.from t2) a.env.from nothing_came ≡ t2
  skipped_here = get_or-set_same v.streams a.env.from t2 nothing_came inside

  pub skipped_missing : missing (get_or (set v.streams a.env.from t2) a.env.from nothing_came) ≡ 0
  skipped_missing = ap missing skipped_here ∙ finished

  pub skipped_longer : AreLonger v (set v.streams a.env.from t2) a
  skipped_longer = record {
    length' = length-set v.streams a.env.from t2;
    same = λ from differ. get_or-set_other v.streams a.env.from from t2 nothing_came differ;
    longer = record {
      count = ap (λ (s : Stream). s.count) skipped_here;
      others = λ k differ. ap (λ (s : Stream). message_of s k) skipped_here;
      finished = finished;
      asked = λ _. skipped_missing;
      eager = λ how. absurd (true≢false (sym asked ∙ how));
    };
  }

-- one stream changed by a step
pub stream_stepped : (old new : Joining) (from : ℕ) (step : Stream → Stream) → new.sizes ≡ old.sizes →
    from < old.sizes.ranks
    → stream_from new from ≡ step (stream_from old from) →
    ((other : ℕ) → other ≢ from → stream_from new other ≡ stream_from old other)
    → streams_of new ≡ set (streams_of old) from (step (get_or (streams_of old) from nothing_came))
stream_stepped old new from step sizes inside changed others =
    stream_changed old new from (step (stream_from old from)) sizes inside changed others
    ∙ ap (λ (s : Stream). set (streams_of old) from (step s)) (sym (stream_at old from inside))
