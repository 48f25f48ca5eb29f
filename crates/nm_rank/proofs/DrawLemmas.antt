-- A piece that was taken.
use Rattle.std.proofs.Common.{◌≡◌, ℕ, zero, suc, ◌+◌, ◌<◌, ◌≤◌, Bool, true, false, List, [], ◌∷◌, ◌++◌, length}
use Rattle.std.proofs.Common.{length-set, sym, ◌∙◌, ap, subst, arith}
use Rattle.std.specs.Prelude.{if◌then◌else◌, slice_index_or, slice_set, ◌&&◌, Option, Some, None}
use Rattle.std.specs.List.{AllByRecursion}
use Rattle.std.proofs.lemmas.List.{get_or-set_same, get_or-set_other}
use mathlib.Core.Logic.{dite}
use native.Mathlib.Decide.{ℕ_discrete}
use Rattle.nm_types.specs.Sizes.{Sizes}
use Rattle.nm_history.specs.declared.events.Event.{Event}
use Rattle.nm_history.specs.declared.events.Happened.{Happened}
use Rattle.nm_history.specs.Clock.{stamped}
use Rattle.nm_history.specs.Known.{Known}
use Rattle.nm_history.specs.Pieces.{Due, is_due, piece_makes}
use Rattle.nm_history.specs.Rules.{AreRight}
use Rattle.nm_history.proofs.Agreeing.{agrees-piece}
use Rattle.nm_history.proofs.Growing.{stamped-same}
use Rattle.nm_history.proofs.Right.{right-append}
use Rattle.nm_types.specs.declared.packets.Piece.{Piece}
use Rattle.nm_eager.specs.Streams.{Stream, missing, nothing_came}
use Rattle.nm_rank.specs.Journals.{JournalView}
use Rattle.nm_request.specs.Requests.{Live}
use Rattle.nm_sending.specs.Departures.{SendingView}
use Rattle.nm_sending.specs.Sent.{is_of_sending}
use Rattle.nm_receiving.specs.Receipts.{ReceivingView, drawn_from}
use Rattle.nm_receiving.specs.Received.{Preserves}
use Rattle.nm_rank.specs.Fields.{AreFields, endings}
use Rattle.nm_rank.specs.Ranks.{known_from, count_of}
use Rattle.nm_rank.proofs.Goes.{requests-more}
use Rattle.nm_rank.proofs.LeaveLemmas.{StaysSent}
use Rattle.nm_rank.proofs.ReceiveLemmas.{whole-none, whole-few}

-- what is below a count stays so where the count of one rank rises by one and what is below it by at most one
at_most : (ds : List ℕ) (k d p : ℕ) → d ≤ 1 → slice_index_or ds k 0 ≤ p
    → slice_index_or (slice_set ds k (slice_index_or ds k 0 + d)) k 0 ≤ p + 1
at_most [] k d p few here = omega arith
at_most (x ∷ ds) zero d p few here = omega arith
at_most (x ∷ ds) (suc k) d p few here = at_most ds k d p few here

pub below-set : (ds ps : List ℕ) (k d i : ℕ) → k < length ps
    → d ≤ 1 → slice_index_or ds k 0 ≤ slice_index_or ps k 0
    → slice_index_or ds i 0 ≤ slice_index_or ps i 0
    → slice_index_or (slice_set ds k (slice_index_or ds k 0 + d)) i 0
    ≤ slice_index_or (slice_set ps k (slice_index_or ps k 0 + 1)) i 0
below-set ds ps k d i low few here there = dite (ℕ_discrete k i)
    (λ e. subst (λ (m : ℕ). slice_index_or (slice_set ds k (slice_index_or ds k 0 + d)) m 0
    ≤ slice_index_or (slice_set ps k (slice_index_or ps k 0 + 1)) m 0) e
    (rw (get_or-set_same ps k (slice_index_or ps k 0 + 1) 0 low)
    (at_most ds k d (slice_index_or ps k 0) few here)))
    (λ ne. rw (
      get_or-set_other ds k i (slice_index_or ds k 0 + d) 0 (λ e. ne (sym e)),
      get_or-set_other ps k i (slice_index_or ps k 0 + 1) 0 (λ e. ne (sym e)),
    ) there)

one-at-most : (b : Bool) → (if b then 1 else 0) ≤ 1
one-at-most true = omega arith
one-at-most false = omega arith

-- what a piece makes happen is of no message that was sent
piece-none : (from c : ℕ) (d : Option Due) (p : Piece)
    → AllByRecursion (λ (e : Event). is_of_sending e.what ≡ false) (stamped c (piece_makes from d p))
piece-none from c None p = tt
piece-none from c (Some d) p = whole-none (is_due p d && d.last) from p.n c

piece-few : (from : ℕ) (d : Option Due) (p : Piece) → length (piece_makes from d p) ≤ 1
piece-few from None p = omega arith
piece-few from (Some d) p = whole-few (is_due p d && d.last) from p.n

-- the fields after a piece was taken
pub fields-draw : (me : ℕ) (sizes : Sizes) (j j' : JournalView) (s : SendingView)
    (r r' : ReceivingView) (known : List Known) (q : Live) (took pulled : List ℕ)
    (p : Piece) (ws : List Happened) (continued : Bool) (due : Option Due)
    → AreFields me sizes j s r known q took pulled
    → j'.events ≡ j.events ++ stamped j.clock ws
    → j'.clock ≡ j.clock + length ws → j.spare ≤ j'.spare + length ws → s.staying + 2 ≤ j.spare
    → ws ≡ piece_makes p.from due p
    → Preserves r r' ws
    → r' ≡ record r { grants = r'.grants; receipts = r'.receipts; drawn = r'.drawn }
    → r'.drawn ≡ slice_set r.drawn p.from (drawn_from r p.from + (if continued then 1 else 0))
    → p.from < sizes.ranks → p.number ≡ count_of pulled p.from → StaysSent
    → AreFields me sizes j' s r' known q took (slice_set pulled p.from (p.number + 1))
fields-draw me sizes j j' s r r' known q took pulled p ws continued due a e c room two is kept same drawn
    within number stays =
    let h = j.events in
    let es = stamped j.clock ws in
    let right = subst (λ (z : Sizes). AreRight z.ranks [] h) (sym a.peers.shape) a.history.right in
    let goes = kept h es (stamped-same j.clock ws) a.history.received right in
    let none : AllByRecursion (λ (e : Event). is_of_sending e.what ≡ false) es =
    rw is (piece-none p.from j.clock due p) in
    let few : length ws ≤ 1 = rw is (piece-few p.from due p) in
    let sz : r'.sizes ≡ r.sizes = ap (λ (u : ReceivingView). u.sizes) same in
    let st : r'.streams ≡ r.streams = ap (λ (u : ReceivingView). u.streams) same in
    record {
      history = rw e (record {
        right = right-append sizes.ranks [] h es a.history.right
            (subst (λ (z : Sizes). AreRight z.ranks h es) a.peers.shape goes.1);
        sent = stays s h es none a.history.sent;
        received = goes.0;
        agrees = λ from b. agrees-piece from p.from h es (known_from known from) due p
            (stamped-same j.clock ws ∙ is) (a.history.agrees from b);
      });
      peers = record {
        shape = sz ∙ a.peers.shape;
        own = a.peers.own;
        within = a.peers.within;
        to = a.peers.to;
        streams = a.peers.streams;
        packets = a.peers.packets;
        pieces = length-set pulled p.from (p.number + 1) ∙ a.peers.pieces;
      };
      told = record {
        counts = λ from b. (a.told.counts from b
            ∙ sym (ap (λ (xs : List Stream). (slice_index_or xs from nothing_came).count) st));
        missing = λ from b. (a.told.missing from b
            ∙ sym (ap (λ (xs : List Stream). missing (slice_index_or xs from nothing_came)) st));
        cleared = a.told.cleared;
        few = a.told.few;
        drawn = λ from b. rw (drawn, number) (below-set r.drawn pulled p.from
            (if continued then 1 else 0) from (rw (a.peers.pieces) within) (one-at-most continued)
            (a.told.drawn p.from within) (a.told.drawn from b));
      };
      requests = rw e (requests-more sizes.ranks q h es r r'
          (ap (λ (u : ReceivingView). endings u) same) a.requests);
      room = record { events = omega arith; few = omega (arith, a.room.few) };
    }
