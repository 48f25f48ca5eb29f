-- The tables where nothing came and nothing was received.
use Rattle.std.proofs.Common.{◌≡◌, ℕ, ◌<◌, ◌≤◌, false, nat_eq, Option, Some, None, List, []}
use Rattle.std.proofs.Common.{length, get_or, replicate, refl, sym}
use Rattle.std.proofs.Common.{◌∙◌, ap, subst}
use Rattle.std.proofs.Common.{arith, ◌⊎◌, inl, inr}
use Rattle.std.specs.List.{All, IsDistinct, slice_get}
use Rattle.std.specs.Map.{keys_of}
use Rattle.std.specs.Option.{option_map_or}
use Rattle.std.proofs.lemmas.Bool.{cases_lt, false≢true}
use Rattle.std.proofs.lemmas.List.{get_or-replicate, get_or_past, length-replicate}
use Rattle.std.proofs.lemmas.List.Elements.{All-nil}
use Rattle.std.proofs.lemmas.List.FromFn.{get_or-map-range_with_len, length-map-range_with_len}
use Rattle.std.specs.Prelude.{IsSomeAnd}
use Rattle.nm_types.specs.declared.messages.Post as post
use Rattle.nm_match.specs.Deeds.{Represents, deeds_of}
use Rattle.nm_history.specs.Matching.{matched_pairs}
use Rattle.nm_eager.specs.Joining.{Joining, stream_from}
use Rattle.nm_eager.specs.Streams.{Stream, nothing_came}
use Rattle.nm_rndv.specs.Grants.{Granted}
use Rattle.nm_receiving.specs.Pieces.{AreDue}
use Rattle.nm_receiving.specs.declared.receipts.Receipt.{Receipt}
use Rattle.nm_receiving.specs.declared.receipts.Receive.{Receive}
use Rattle.nm_receiving.specs.Kept.{TablesAgree, IsCleared, ReceivingInvariant}
use Rattle.nm_receiving.specs.Receipts.{ReceivingView, drawn_from, granted_to, receipt_of, receipts_from, stream_of}
use Rattle.nm_receiving.specs.Received.{AreReceived}
use Rattle.nm_receiving.specs.Steps.{streams_of}

-- a list of the same
pub all_same : {X : Type 0} (n : ℕ) (x : X) (i : ℕ) → get_or (replicate n x) i x ≡ x
all_same {X} n x i = by (cases_lt i n)
  where
    by : (i < n) ⊎ (n ≤ i) → get_or (replicate n x) i x ≡ x
    by (inl below) = get_or-replicate n i x x below
    by (inr past) = get_or_past (replicate n x) i x (omega (arith, length-replicate n x))

-- the streams of a joiner, by sender
pub stream_at : (joining : Joining) (from : ℕ) → from < joining.sizes.ranks →
    get_or (streams_of joining) from nothing_came ≡ stream_from joining from
stream_at joining from below =
    get_or-map-range_with_len (λ (from : ℕ). stream_from joining from) 0 joining.sizes.ranks from from nothing_came
    below (omega arith)

pub streams_length : (joining : Joining) → length (streams_of joining) ≡ joining.sizes.ranks
streams_length joining = length-map-range_with_len (λ (from : ℕ). stream_from joining from) 0 joining.sizes.ranks

pub no_streams : (joining : Joining) → ((from : ℕ) → stream_from joining from ≡ nothing_came) → (from : ℕ)
    → get_or (streams_of joining) from nothing_came ≡ nothing_came
no_streams joining none from = by (cases_lt from joining.sizes.ranks)
  where
    by : (from < joining.sizes.ranks) ⊎ (joining.sizes.ranks ≤ from) → get_or (streams_of joining) from nothing_came
        ≡ nothing_came
    by (inl below) = stream_at joining from below ∙ none from
    by (inr past) = get_or_past (streams_of joining) from nothing_came (omega (arith, streams_length joining))

once-nil : IsDistinct nat_eq []
unfolding IsDistinct
once-nil = tt

-- nothing is in it
pub record IsEmpty (v : ReceivingView) : Type 0 where
  pub deeds : v.deeds ≡ []
  pub streams : (from : ℕ) → stream_of v from ≡ nothing_came
  pub streams' : length v.streams ≡ v.sizes.ranks
  pub grants : v.grants ≡ replicate v.sizes.ranks []
  pub receipts : v.receipts ≡ replicate v.sizes.ranks []
  pub receives : v.receives ≡ []
  pub drawn : v.drawn ≡ replicate v.sizes.ranks 0

module _ (v : ReceivingView) (empty : IsEmpty v) where
  no_receipts : (from : ℕ) → receipts_from v from ≡ []
  no_receipts from = ap (λ (rows : List (List Receipt)). get_or rows from []) empty.receipts
      ∙ all_same v.sizes.ranks [] from

  pub no_grants : (from : ℕ) → granted_to v from ≡ []
  no_grants from = ap (λ (rows : List (List (ℕ × Granted))). get_or rows from []) empty.grants
      ∙ all_same v.sizes.ranks [] from

  pub none_drawn : (from : ℕ) → drawn_from v from ≡ 0
  none_drawn from = ap (λ (xs : List ℕ). get_or xs from 0) empty.drawn ∙ all_same v.sizes.ranks 0 from

  no_receipt : (from n : ℕ) → receipt_of v from n ≡ None
  no_receipt from n = ap (λ (row : List Receipt). slice_get row n) (no_receipts from)

  no_receive : (k : ℕ) → slice_get v.receives k ≡ None
  no_receive k = ap (λ (rs : List Receive). slice_get rs k) empty.receives

  never_receipt : {P : Type 0} (from n : ℕ) (r : Receipt) → receipt_of v from n ≡ Some r → P
  never_receipt from n r is = let none = no_receipt from n in absurd (let h : ⊥ = cc in h)

  never_receive : {P : Type 0} (k : ℕ) (r : Receive) → slice_get v.receives k ≡ Some r → P
  never_receive k r is = let none = no_receive k in absurd (let h : ⊥ = cc in h)

  stands-none : Represents v.deeds []
  unfolding deeds_of
  stands-none = empty.deeds

  due-none : (from : ℕ) → AreDue (granted_to v from) [] from (drawn_from v from)
  unfolding matched_pairs
  due-none from = rw (no_grants from, none_drawn from) (record { came = omega arith; rest = refl })

  pub received-none : AreReceived v []
  unfolding matched_pairs
  received-none = record {
    stands = stands-none;
    arrived = λ from. ap length (no_receipts from);
    messages = λ from n. rw (no_receipt from n) refl;
    whole = λ from n. rw (no_receipt from n) refl;
    count = ap length empty.receives;
    pairs = λ k. rw (no_receive k) refl;
    cancelled = λ k. rw (no_receive k) refl;
    due = due-none;
    empty = tt;
  }

  tables-none : TablesAgree v []
  tables-none = record {
    streams = empty.streams';
    grants = ap length empty.grants ∙ length-replicate v.sizes.ranks [];
    receipts = ap length empty.receipts ∙ length-replicate v.sizes.ranks [];
    drawn = ap length empty.drawn ∙ length-replicate v.sizes.ranks 0;
    counts = λ from. ap (λ (s : Stream). s.count) (empty.streams from) ∙ sym (ap length (no_receipts from));
    unfinished = λ from n last. absurd (let count = ap (λ (s : Stream). s.count) (empty.streams from) in
        let h : ⊥ = omega (arith, last, count) in h);
    untaken = λ from n r is. never_receipt from n r is;
    waiting = λ from n r is. never_receipt from n r is;
    taken = λ k r a is. never_receive k r is;
    apart = λ k l r s a b is. never_receive k r is;
    cleared = λ from. subst (λ (row : List (ℕ × Granted)). All
        (λ e. IsSomeAnd (receipt_of v from e.0) (IsCleared [] from e)) row) (sym (no_grants from))
        (All-nil (λ (e : ℕ × Granted). IsSomeAnd (receipt_of v from e.0) (IsCleared [] from e)));
    once = λ from. subst (λ (row : List (ℕ × Granted)). IsDistinct nat_eq (keys_of row))
        (sym (no_grants from)) once-nil;
    caps = All-nil (λ (p : post.Post). IsSomeAnd (slice_get v.receives p.number) (λ r. r.cap ≡ p.cap));
  }

  pub kept-none : ReceivingInvariant v
  kept-none = record {
    history = [];
    received = received-none;
    right = tt;
    in_time = λ from n. refl;
    tables = tables-none;
    owed = λ from n r is. never_receipt from n r is;
    over = λ k is. absurd (false≢true
        (sym (ap (λ (o : Option Receive). option_map_or (λ r. r.ended) o false) (no_receive k)) ∙ is));
  }
