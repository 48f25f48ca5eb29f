-- Two ranks stay in step as packets and pieces move.
use Rattle.std.proofs.Common.{◌≡◌, ℕ, ◌+◌, ◌<◌, Option, None, Some, List, [], ◌∷◌, length}
use Rattle.std.proofs.Common.{refl, sym, ◌∙◌, ap, arith, replicate}
use Rattle.std.specs.Option.{option_map, option_and_then}
use Rattle.std.specs.Prelude.{IfOk, MatchOption, OnErr, slice_get, slice_index_or, slice_set}
use Rattle.std.specs.Prelude.{Result, Ok, Err}
use Rattle.std.proofs.lemmas.List.{get_or-set_same, get_or-replicate, length-replicate, length-set}
use Rattle.nm_types.specs.declared.packets.Packet.{Packet}
use Rattle.nm_types.specs.declared.packets.Piece.{Piece}
use Rattle.nm_types.specs.declared.answers.Answer.{Answer}
use Rattle.nm_types.specs.Sizes.{Sizes}
use Rattle.nm_history.specs.declared.events.Happened.{Happened}
use Rattle.nm_history.specs.Sends.{Sent}
use Rattle.nm_request.specs.declared.Kind.{Kind}
use Rattle.nm_request.specs.declared.Req.{Req}
use Rattle.nm_sending.specs.Letters.{Letter}
use Rattle.nm_sending.specs.Outboxes.{OutboxView, popped_to}
use Rattle.nm_rndv.specs.Offers.{Offered, Offering, first_leaving, next_in, next_offered}
use Rattle.nm_rndv.specs.Offers.{offered_of, state_at}
use Rattle.nm_sending.specs.Departures.{SendingView, pushed_to}
use Rattle.nm_rank.specs.Calls.{Starts, TakesPacket, TakesPiece}
use Rattle.nm_rank.specs.New.{IsNew}
use Rattle.nm_rank.specs.declared.answers.FinishFault.{FinishFault}
use Rattle.nm_rank.specs.Pops.{PopsPacket, PopsPiece}
use Rattle.nm_rank.specs.Requests.{Finishes}
use Rattle.nm_rank.specs.Ranks.{RankView, count_of}
use Rattle.uses.specs.Steps.{AreInStep, IsOneOfTwo, TookAll}

-- a count that was set
set_at : (xs ys : List ℕ) (k i x : ℕ) → length xs ≡ 2 → i < 2 → k ≡ i → ys ≡ slice_set xs k x →
    (slice_index_or ys i 0 ≡ x) × (length ys ≡ 2)
set_at xs ys k i x two low here set =
    let at : ys ≡ slice_set xs i x = set ∙ ap (λ (k : ℕ). slice_set xs k x) here in (
      ap (λ (l : List ℕ). slice_index_or l i 0) at ∙ get_or-set_same xs i x 0 (omega (arith, two, low)),
      ap (λ (l : List ℕ). length l) at ∙ length-set xs i x ∙ two,
    )

-- both ways round
pub flipped : {i j : ℕ} {a b : RankView} → AreInStep i j a b → AreInStep j i b a
flipped step = record { first = step.second; second = step.first; there = step.back; back = step.there }

-- two new ranks
pub new_ranks : (shape : Sizes) (a b : RankView) → shape.ranks ≡ 2 → IsNew shape 0 a → IsNew shape 1 b →
    AreInStep 0 1 a b
new_ranks shape a b two new_a new_b = record {
  first = one 0 a (omega arith) new_a;
  second = one 1 b (omega arith) new_b;
  there = took 0 1 a b (omega arith) (omega arith) new_a new_b;
  back = took 1 0 b a (omega arith) (omega arith) new_b new_a;
}
  where
    many : (ns : List ℕ) → ns ≡ replicate shape.ranks 0 → length ns ≡ 2
    many ns is = ap (λ (l : List ℕ). length l) is ∙ length-replicate shape.ranks 0 ∙ two

    zero_at : (ns : List ℕ) (k : ℕ) → k < 2 → ns ≡ replicate shape.ranks 0 → slice_index_or ns k 0 ≡ 0
    zero_at ns k low is = ap (λ (l : List ℕ). slice_index_or l k 0) is
        ∙ get_or-replicate shape.ranks k 0 0 (omega (arith, low, two))

    one : (i : ℕ) (v : RankView) → i < 2 → IsNew shape i v → IsOneOfTwo i v
    one i v low new = record {
      low = low;
      me = new.me;
      ranks = ap (λ (s : Sizes). s.ranks) new.sizes ∙ two;
      took = many v.took new.took;
      pulled = many v.pulled new.pulled;
      popped = many v.sending.outbox.popped new.popped;
      pushed = many v.sending.pushed new.pushed;
    }

    took : (i j : ℕ) (v w : RankView) → i < 2 → j < 2 → IsNew shape i v → IsNew shape j w → TookAll i j v w
    took i j v w low high new_v new_w = record {
      packets = zero_at w.took i low new_w.took ∙ sym (zero_at v.sending.outbox.popped j high new_v.popped);
      pieces = zero_at w.pulled i low new_w.pulled ∙ sym (zero_at v.sending.pushed j high new_v.pushed);
    }

-- a rank where no packet and no piece came or left
pub record Stays (old new : RankView) : Type 0 where
  pub me : new.me ≡ old.me
  pub sizes : new.sizes ≡ old.sizes
  pub took : new.took ≡ old.took
  pub pulled : new.pulled ≡ old.pulled
  pub popped : new.sending.outbox.popped ≡ old.sending.outbox.popped
  pub pushed : new.sending.pushed ≡ old.sending.pushed

one_stays : {i : ℕ} (old new : RankView) → Stays old new → IsOneOfTwo i old → IsOneOfTwo i new
one_stays old new stays one = record {
  low = one.low;
  me = stays.me ∙ one.me;
  ranks = ap (λ (s : Sizes). s.ranks) stays.sizes ∙ one.ranks;
  took = ap (λ (l : List ℕ). length l) stays.took ∙ one.took;
  pulled = ap (λ (l : List ℕ). length l) stays.pulled ∙ one.pulled;
  popped = ap (λ (l : List ℕ). length l) stays.popped ∙ one.popped;
  pushed = ap (λ (l : List ℕ). length l) stays.pushed ∙ one.pushed;
}

-- in step they stay where one of them stays
pub first_stays : {i j : ℕ} (a a' b : RankView) → Stays a a' → AreInStep i j a b → AreInStep i j a' b
first_stays {i} {j} a a' b stays step = record {
  first = one_stays a a' stays step.first;
  second = step.second;
  there = record {
    packets = step.there.packets ∙ ap (λ (l : List ℕ). slice_index_or l j 0) (sym stays.popped);
    pieces = step.there.pieces ∙ ap (λ (l : List ℕ). slice_index_or l j 0) (sym stays.pushed);
  };
  back = record {
    packets = ap (λ (l : List ℕ). slice_index_or l j 0) stays.took ∙ step.back.packets;
    pieces = ap (λ (l : List ℕ). slice_index_or l j 0) stays.pulled ∙ step.back.pieces;
  };
}

pub second_stays : {i j : ℕ} (a b b' : RankView) → Stays b b' → AreInStep i j a b → AreInStep i j a b'
second_stays a b b' stays step = flipped (first_stays b b' a stays (flipped step))

-- a start stays
pub started_stays : {bodies : Sent → List ℕ} {ws : List Happened} {kind : Kind} (old new : RankView) (r : Req) →
    Starts bodies ws kind old new r → Stays old new
started_stays old new r s = record {
  me = s.takes.me;
  sizes = s.takes.sizes;
  took = s.takes.took;
  pulled = s.takes.pulled;
  popped = s.happened.packets.popped;
  pushed = s.happened.pushed;
}

-- and so does the end of a request
pub finished_stays : (r : Req) (result : Result Answer FinishFault) (old new : RankView) →
    IfOk result (λ answer. Finishes r answer old new) → OnErr result (new ≡ old) → Stays old new
finished_stays r (Ok answer) old new finishes same = record {
  me = ap (λ (v : RankView). v.me) finishes.same;
  sizes = ap (λ (v : RankView). v.sizes) finishes.same;
  took = ap (λ (v : RankView). v.took) finishes.same;
  pulled = ap (λ (v : RankView). v.pulled) finishes.same;
  popped = ap (λ (v : RankView). v.sending.outbox.popped) finishes.same;
  pushed = ap (λ (v : RankView). v.sending.pushed) finishes.same;
}
finished_stays r (Err fault) old new finishes same = record {
  me = ap (λ (v : RankView). v.me) same;
  sizes = ap (λ (v : RankView). v.sizes) same;
  took = ap (λ (v : RankView). v.took) same;
  pulled = ap (λ (v : RankView). v.pulled) same;
  popped = ap (λ (v : RankView). v.sending.outbox.popped) same;
  pushed = ap (λ (v : RankView). v.sending.pushed) same;
}

some_none : {X : Type 0} (x : X) → Some x ≡ None → ⊥
some_none x never = cc

-- what stands first, where something does
pub letter_of : {X : Type 0} (x : X) (o : Option Letter) (to : ℕ) (p : Packet) →
    MatchOption o (Some x ≡ None) (λ letter. (to ≡ letter.to) × (p ≡ letter.packet)) →
    (l : Letter) × (o ≡ Some l) × (to ≡ l.to)
letter_of x None to p m = absurd (some_none x m)
letter_of x (Some l) to p m = (l, refl, m.0)

-- what has a first has some
pub has_first : (ls : List Letter) (l : Letter) → slice_get ls 0 ≡ Some l → 0 < length ls
has_first [] l is = absurd (grind arith)
has_first (x ∷ ls) l is = omega arith

-- a packet left the one and came to the other
pub packet_moved : {i j : ℕ} (a a' b b' : RankView) (p : Packet) (l : Letter) → AreInStep i j a b → p.from ≡ i →
    TakesPacket p b b' → slice_get a.sending.outbox.letters 0 ≡ Some l → l.to ≡ j → PopsPacket a a' →
    AreInStep i j a' b'
packet_moved {i} {j} a a' b b' p l step own took first to pops =
    let f = step.first in let s = step.second in
    let puts = (took.happened (λ _. [])).packets in
    let pushes = (took.happened (λ _. [])).pushed in
    let came = set_at b.took b'.took p.from i _ s.took f.low own took.took in
    let pop = rw first at pops.popped in
    let left = set_at a.sending.outbox.popped a'.sending.outbox.popped l.to j _ f.popped s.low to
    (ap (λ (o : OutboxView). o.popped) pop.1) in
    record {
      first = record {
        low = f.low;
        me = pops.takes.me ∙ f.me;
        ranks = ap (λ (s : Sizes). s.ranks) pops.takes.sizes ∙ f.ranks;
        took = ap (λ (l : List ℕ). length l) pops.takes.took ∙ f.took;
        pulled = ap (λ (l : List ℕ). length l) pops.takes.pulled ∙ f.pulled;
        popped = left.1;
        pushed = ap (λ (l : List ℕ). length l) pops.same.1 ∙ f.pushed;
      };
      second = record {
        low = s.low;
        me = took.me ∙ s.me;
        ranks = ap (λ (s : Sizes). s.ranks) took.sizes ∙ s.ranks;
        took = came.1;
        pulled = ap (λ (l : List ℕ). length l) took.pulled ∙ s.pulled;
        popped = ap (λ (l : List ℕ). length l) puts.popped ∙ s.popped;
        pushed = ap (λ (l : List ℕ). length l) pushes ∙ s.pushed;
      };
      there = record {
        packets = came.0 ∙ ap (λ (k : ℕ). count_of b.took k + 1) own ∙ ap (λ (n : ℕ). n + 1) step.there.packets
            ∙ ap (λ (k : ℕ). popped_to a.sending.outbox k + 1) (sym to) ∙ sym left.0;
        pieces = ap (λ (l : List ℕ). slice_index_or l i 0) took.pulled ∙ step.there.pieces
            ∙ ap (λ (l : List ℕ). slice_index_or l j 0) (sym pops.same.1);
      };
      back = record {
        packets = ap (λ (l : List ℕ). slice_index_or l j 0) pops.takes.took ∙ step.back.packets
            ∙ ap (λ (l : List ℕ). slice_index_or l i 0) (sym puts.popped);
        pieces = ap (λ (l : List ℕ). slice_index_or l j 0) pops.takes.pulled ∙ step.back.pieces
            ∙ ap (λ (l : List ℕ). slice_index_or l i 0) (sym pushes);
      };
    }

-- the next piece is one of the first message that leaves
pub piece_goes : (v : Offering) (o : Offered) → Some o ≡ next_offered v →
    (m : ℕ × ℕ) × (first_leaving v ≡ Some m) × (m.0 ≡ o.to)
piece_goes v o next = by (first_leaving v) refl next
  where
    made : (m : ℕ × ℕ) (x : Option (ℕ × List ℕ)) →
        Some o ≡ option_map (λ next. record { to = m.0; n = m.1; at = next.0; bytes = next.1 }) x → m.0 ≡ o.to
    made m None never = absurd (grind arith)
    made m (Some x) is = cc

    by : (f : Option (ℕ × ℕ)) → first_leaving v ≡ f → Some o ≡ option_and_then (offered_of v.destinations) f →
        (m : ℕ × ℕ) × (first_leaving v ≡ Some m) × (m.0 ≡ o.to)
    by None is never = absurd (grind arith)
    by (Some m) is next = (m, is, made m (option_and_then next_in (state_at v.destinations m)) next)

-- a piece left the one and came to the other
pub piece_moved : {i j : ℕ} (a a' b b' : RankView) (p : Piece) (o : Offered) → AreInStep i j a b → p.from ≡ i →
    TakesPiece p b b' → Some o ≡ next_offered a.sending.offers → o.to ≡ j → PopsPiece a a' → AreInStep i j a' b'
piece_moved {i} {j} a a' b b' p o step own took next to pops =
    let f = step.first in let s = step.second in
    let goes = piece_goes a.sending.offers o next in
    let m = goes.0 in
    let came = set_at b.pulled b'.pulled p.from i _ s.pulled f.low own took.pulled in
    let pop = rw goes.1 at pops.popped in
    let left = set_at a.sending.pushed a'.sending.pushed m.0 j _ f.pushed s.low (goes.2 ∙ to) pop.1 in
    record {
      first = record {
        low = f.low;
        me = pops.takes.me ∙ f.me;
        ranks = ap (λ (s : Sizes). s.ranks) pops.takes.sizes ∙ f.ranks;
        took = ap (λ (l : List ℕ). length l) pops.takes.took ∙ f.took;
        pulled = ap (λ (l : List ℕ). length l) pops.takes.pulled ∙ f.pulled;
        popped = ap (λ (x : OutboxView). length x.popped) pops.outbox ∙ f.popped;
        pushed = left.1;
      };
      second = record {
        low = s.low;
        me = took.me ∙ s.me;
        ranks = ap (λ (s : Sizes). s.ranks) took.sizes ∙ s.ranks;
        took = ap (λ (l : List ℕ). length l) took.took ∙ s.took;
        pulled = came.1;
        popped = ap (λ (v : SendingView). length v.outbox.popped) took.sending ∙ s.popped;
        pushed = ap (λ (v : SendingView). length v.pushed) took.sending ∙ s.pushed;
      };
      there = record {
        packets = ap (λ (l : List ℕ). slice_index_or l i 0) took.took ∙ step.there.packets
            ∙ ap (λ (x : OutboxView). popped_to x j) (sym pops.outbox);
        pieces = came.0 ∙ ap (λ (k : ℕ). count_of b.pulled k + 1) own ∙ ap (λ (n : ℕ). n + 1) step.there.pieces
            ∙ ap (λ (k : ℕ). pushed_to a.sending k + 1) (sym (goes.2 ∙ to)) ∙ sym left.0;
      };
      back = record {
        packets = ap (λ (l : List ℕ). slice_index_or l j 0) pops.takes.took ∙ step.back.packets
            ∙ ap (λ (v : SendingView). popped_to v.outbox i) (sym took.sending);
        pieces = ap (λ (l : List ℕ). slice_index_or l j 0) pops.takes.pulled ∙ step.back.pieces
            ∙ ap (λ (v : SendingView). pushed_to v i) (sym took.sending);
      };
    }
