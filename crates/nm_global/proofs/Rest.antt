-- Ranks with nothing left to send, and nothing between them.
use Rattle.std.proofs.Common.{◌≡◌, ℕ, ◌<◌, ◌≤◌, zero, suc, Some, List, [], ◌∷◌, length, map, refl, sym, ◌∙◌}
use Rattle.std.proofs.Common.{ap, subst, arith}
use Rattle.std.specs.Prelude.{IfSome}
use Rattle.std.specs.List.{AllByRecursion, slice_get}
use Rattle.std.proofs.lemmas.List.{length-map}
use Rattle.std.proofs.lemmas.Option.{slice_get_within}
use Rattle.nm_types.specs.declared.packets.Packet.{Packet}
use Rattle.nm_types.specs.declared.packets.Piece.{Piece}
use Rattle.nm_types.specs.Commands.{Numbered}
use Rattle.nm_types.specs.Sizes.{Sizes}
use Rattle.nm_history.specs.declared.events.Event.{Event}
use Rattle.nm_history.specs.Outgoing.{AreCalled, AreCalledPieces, outgoing, packets_to, ring}
use Rattle.nm_history.specs.Quiescence.{EachRank, Ended, Packets, IsStopped, packets_of_by}
use Rattle.nm_history.specs.RankRun.{IsRankRun}
use Rattle.nm_history.specs.Run.{IsRunBy}
use Rattle.nm_history.specs.Sends.{Sent, sent_body}
use Rattle.nm_history.proofs.OutgoingLemmas.{outgoing_count}
use Rattle.nm_history.specs.Clearance.{pushed_out, to_push}
use Rattle.nm_history.specs.Continues.{WORN_STAMP}
use Rattle.nm_history.specs.Known.{Known, known_by}
use Rattle.nm_history.specs.Rest.{EagerHaveLeft, EmptyAreHere}
use Rattle.nm_rndv.specs.Offers.{AllOut}
use Rattle.nm_sending.specs.Letters.{Letter}
use Rattle.nm_sending.specs.Letters.{packets_for}
use Rattle.nm_sending.specs.Outboxes.{popped_to}
use Rattle.nm_rank.specs.Ranks.{RankView}
use Rattle.nm_global.specs.Emitted.{IsEmitted, Emitted}
use Rattle.nm_global.proofs.Packets.{count_is}
use Rattle.nm_channels.specs.Ends.{AreEnds, ClearedHaveLeft, IsChannel, IsEnd}
use Rattle.nm_channels.specs.Finished.{AreAllEndsBy, AreInRange, ended_of}
use Rattle.nm_channels.specs.Moments.{history_of, taken_from}
use Rattle.nm_channels.specs.Settled.{HasNoStray}
use Rattle.nm_channels.proofs.Run.{all_settle_by}
use Rattle.nm_channels.proofs.Settled.{ends_settle}
use Rattle.nm_global.specs.Ranks.{AreAtRest, Each, EachTwo, HasNothingToSend, IsPassed, RankInvariant, OneRank}
use Rattle.nm_global.specs.Ranks.{finished_of, recorded_of}
use Rattle.nm_global.proofs.Places.{along_map, mapped_at, of_two, two_of}
use Rattle.nm_types.proofs.ListLemmas.{all_split, all_along}
use Rattle.nm_types.proofs.OptionLemmas.{if_some, if_each}

-- where nothing is left to send, what left is all that the history calls for
pub record HaveAllLeft : Type 0 where
  pub packets :
      (bodies : Sent → List ℕ) (v : RankView) (to : ℕ) (left : Emitted) →
      v.sending.outbox.letters ≡ [] → IsEmitted bodies v to left →
      AreCalled v.me 0 (outgoing bodies v.events to) left.packets
  pub pieces :
      (bodies : Sent → List ℕ) (v : RankView) (to : ℕ) (left : Emitted) →
      AllOut v.sending.offers → IsEmitted bodies v to left →
      AreCalledPieces v.me 0 (ring bodies v.events to) left.pieces

below : (stamp clock limit : ℕ) → stamp ≤ clock → clock < limit → stamp < limit
below stamp clock limit early less = omega arith

module _ (all : HaveAllLeft) (shape : Sizes) (commands : ℕ → List Numbered) where
  end_of : (i : ℕ) (r : OneRank) → RankInvariant shape (commands i) i r → HasNothingToSend r →
      IsEnd shape (commands i) r.at r.log
  end_of i r stands none =
      let same = stands.logged.events in
      record {
        run = subst (λ (h : List Event). IsRankRun shape (commands i) r.at h) same stands.run;
        sound = stands.logged.sound;
        eager = subst (λ (h : List Event). EagerHaveLeft h) same none.eager;
        empty = subst (λ (h : List Event). EmptyAreHere h) same none.empty;
      }

  cleared_left : (i j : ℕ) (r : OneRank) → RankInvariant shape (commands i) i r → HasNothingToSend r → j < shape.ranks →
      ClearedHaveLeft r.log j
  cleared_left i j r stands none within =
      let here : j < r.view.sizes.ranks = subst (λ (s : Sizes). j < s.ranks) (sym stands.sizes) within in
      subst (λ (h : List Event).
      length (pushed_out h j) ≡ length (to_push h (known_by (taken_from j r.log)) j)) stands.logged.events
      (subst (λ (k : Known). length (pushed_out r.view.events j) ≡ length (to_push r.view.events k j))
      (stands.logged.taken.known j) (ap (λ (ns : List ℕ). length ns) (none.cleared j here)))

  channel : (i j : ℕ) (a b : OneRank) → RankInvariant shape (commands i) i a → HasNothingToSend a → j < shape.ranks →
      IsPassed i j a b → IsChannel i j (commands i) a.log b.log
  channel i j a b stands none within passed =
      let bodies = sent_body (commands i) in
      let same = stands.logged.events in
      let is = stands.left j within in
      record {
        packets = subst (λ (ps : List Packet). AreCalled i 0 (outgoing bodies (history_of a.log) j) ps)
            (sym passed.packets)
            (subst (λ (h : List Event). AreCalled i 0 (outgoing bodies h j) (a.left j).packets) same
            (subst (λ (k : ℕ). AreCalled k 0 (outgoing bodies a.view.events j) (a.left j).packets) stands.me
            (all.packets bodies a.view j (a.left j) none.outbox is)));
        pieces = subst (λ (qs : List Piece). AreCalledPieces i 0 (ring bodies (history_of a.log) j) qs)
            (sym passed.pieces)
            (subst (λ (h : List Event). AreCalledPieces i 0 (ring bodies h j) (a.left j).pieces) same
            (subst (λ (k : ℕ). AreCalledPieces k 0 (ring bodies a.view.events j) (a.left j).pieces) stands.me
            (all.pieces bodies a.view j (a.left j) none.pieces is)));
        cleared = cleared_left i j a stands none within;
        in_time = all_along (λ t. t.packet.stamp ≤ a.view.clock) (λ t. t.packet.stamp < WORN_STAMP)
            (taken_from i b.log)
            (λ t early. below t.packet.stamp a.view.clock WORN_STAMP early none.early)
            (along_map (λ t. t.packet) (λ p. p.stamp ≤ a.view.clock) (taken_from i b.log)
            (subst (λ (ps : List Packet). AllByRecursion (λ p. p.stamp ≤ a.view.clock) ps)
            (sym passed.packets)
            (all_split (λ p. p.stamp ≤ a.view.clock) (a.left j).packets
            (packets_for j a.view.sending.outbox.letters) is.packets.early).0));
      }

  -- two ranks are the ends of the channels between them
  abbrev pub TwoEnds : ℕ → ℕ → OneRank → OneRank → Type 0
  TwoEnds i j a b = AreEnds shape i j (commands i) (commands j) a.at b.at a.log b.log

  module _ (ranks : List OneRank) (rest : AreAtRest shape commands ranks) where
    pub stands_at : (i : ℕ) (r : OneRank) → slice_get ranks i ≡ Some r → RankInvariant shape (commands i) i r
    stands_at i r is = if_some (RankInvariant shape (commands i) i) (slice_get ranks i) r is (rest.standing i)

    pub rests_at : (i : ℕ) (r : OneRank) → slice_get ranks i ≡ Some r → HasNothingToSend r
    rests_at i r is = if_some HasNothingToSend (slice_get ranks i) r is (rest.resting i)

    within : (i : ℕ) (r : OneRank) → slice_get ranks i ≡ Some r → i < shape.ranks
    within i r is = subst (λ (k : ℕ). i < k) rest.many (slice_get_within ranks i r is)

    pub two_ends : EachTwo TwoEnds ranks
    two_ends = two_of TwoEnds ranks (λ i j a b is is'. record {
      sender = end_of i a (stands_at i a is) (rests_at i a is);
      receiver = end_of j b (stands_at j b is') (rests_at j b is');
      there = channel i j a b (stands_at i a is) (rests_at i a is) (within j b is')
          (of_two IsPassed ranks rest.passed i j a b is is');
      back = channel j i b a (stands_at j b is') (rests_at j b is') (within i a is)
          (of_two IsPassed ranks rest.passed j i b a is' is);
    })

    pub all_ends : AreAllEndsBy shape commands (map finished_of ranks)
    all_ends i j =
        mapped_at finished_of
        (λ a. IfSome (slice_get (map finished_of ranks) j)
        (λ b. AreEnds shape i j (commands i) (commands j) a.at b.at a.log b.log)) ranks i
        (if_each _ (slice_get ranks i) (λ a is. mapped_at finished_of
        (λ b. AreEnds shape i j (commands i) (commands j) a.at b.at a.log b.log) ranks j
        (if_some (λ a. Each (λ j b. TwoEnds i j a b) ranks) (slice_get ranks i) a is (two_ends i) j)))

    pub no_strays : EachTwo (λ i j a b. HasNoStray i b.log) ranks
    no_strays = two_of (λ i j a b. HasNoStray i b.log) ranks (λ i j a b is is'.
        (ends_settle shape i j (commands i) (commands j) a.at b.at a.log b.log
        (of_two TwoEnds ranks two_ends i j a b is is')).no_stray)

-- what is recorded of ranks is what their logs show
recorded : (ranks : List OneRank) → Each (λ i r. r.view.events ≡ history_of r.log) ranks →
    map recorded_of ranks ≡ map ended_of (map finished_of ranks)
recorded [] each = refl
recorded (r ∷ ranks) each =
    ap (λ (h : List Event). record { at = r.at; waits = r.waits; events = h } ∷ map recorded_of ranks)
    (each zero)
    ∙ ap (λ (es : List Ended). ended_of (finished_of r) ∷ es) (recorded ranks (λ i. each (suc i)))

-- the histories are a run of the commands
pub rest_is_run : HaveAllLeft → (shape : Sizes) (commands : ℕ → List Numbered) (ranks : List OneRank)
    (packets : List Packets) → AreInRange shape.ranks commands → AreAtRest shape commands ranks →
    EachRank (λ i rank. IsStopped (commands i) rank) (map recorded_of ranks) →
    packets ≡ packets_of_by commands (map recorded_of ranks) → IsRunBy shape commands (map recorded_of ranks) packets
rest_is_run all shape commands ranks packets in_range rest stand counts =
    let same : map recorded_of ranks ≡ map ended_of (map finished_of ranks) =
    recorded ranks (λ i. if_each (λ r. r.view.events ≡ history_of r.log) (slice_get ranks i)
    (λ r is. (stands_at all shape commands ranks rest i r is).logged.events)) in
    subst (λ (es : List Ended). IsRunBy shape commands es packets) (sym same)
    (all_settle_by shape commands (map finished_of ranks) packets in_range (length-map ranks finished_of ∙ rest.many)
    (all_ends all shape commands ranks rest)
    (subst (λ (es : List Ended). EachRank (λ i rank. IsStopped (commands i) rank) es) same stand)
    (counts ∙ ap (λ (es : List Ended). packets_of_by commands es) same))

-- as many packets were popped as the history calls for
counted : (bodies : Sent → List ℕ) (v : RankView) (to : ℕ) (left : Emitted) → v.sending.outbox.letters ≡ [] →
    IsEmitted bodies v to left → popped_to v.sending.outbox to ≡ packets_to v.events to
counted bodies v to left none is =
    let put = count_is bodies v to left.packets is.packets in
    let called = outgoing_count bodies v.events to in
    let here : length (packets_for to v.sending.outbox.letters) ≡ 0 =
    ap (λ (ls : List Letter). length (packets_for to ls)) none in
    omega (arith, put, called, here)

pub rest_counts : (shape : Sizes) (commands : ℕ → List Numbered) (ranks : List OneRank) → AreAtRest shape commands ranks →
    Each (λ i r. (to : ℕ) → to < shape.ranks →
    popped_to r.view.sending.outbox to ≡ packets_to r.view.events to) ranks
rest_counts shape commands ranks rest i =
    if_each (λ r. (to : ℕ) → to < shape.ranks →
    popped_to r.view.sending.outbox to ≡ packets_to r.view.events to) (slice_get ranks i)
    (λ r is to within.
    let stands = if_some (RankInvariant shape (commands i) i) (slice_get ranks i) r is (rest.standing i) in
    let none = if_some HasNothingToSend (slice_get ranks i) r is (rest.resting i) in
    counted (sent_body (commands i)) r.view to (r.left to) none.outbox (stands.left to within))
