-- Pieces that leave.
use Rattle.std.proofs.Common.{◌≡◌, ℕ, ◌+◌, ◌*◌, ◌<◌, ◌==◌, Bool, true, false, cond, Option, Some, None}
use Rattle.std.proofs.Common.{List, [], ◌∷◌, ◌++◌, length, map, refl, sym, ◌∙◌, ap, subst, arith, find}
use Rattle.std.proofs.Common.{append-nil, append_assoc, filter, nat_lt, option_and_then, option_map}
use Rattle.std.proofs.Common.{set, length-append}
use Rattle.std.specs.Bool.{then_some}
use Rattle.std.specs.List.{AllByRecursion}
use Rattle.std.specs.Option.{option_map_or}
use Rattle.std.proofs.lemmas.List.{length-set}
use Rattle.nm_types.specs.Bodies.{body_len}
use Rattle.nm_types.specs.declared.limits.TheConstants.{MAX_PIECE}
use Rattle.nm_types.specs.declared.packets.Packet.{Packet}
use Rattle.nm_types.specs.declared.packets.Piece.{Piece}
use Rattle.nm_history.specs.declared.events.Event.{Event}
use Rattle.nm_history.specs.declared.events.Happened.{Happened}
use Rattle.nm_history.specs.declared.events.Happened.TheVariants.{Out}
use Rattle.nm_history.specs.AtEach.{in_turn_after}
use Rattle.nm_history.specs.Outgoing.{AreCalledPieces, CalledPiece, part_at, ring, send_pieces}
use Rattle.nm_history.specs.Sends.{Sent, sends}
use Rattle.nm_history.proofs.OutgoingLemmas.{called_pieces-append}
use Rattle.nm_history.specs.Clock.{stamped}
use Rattle.nm_rndv.specs.declared.asked.State.{State}
use Rattle.nm_rndv.specs.declared.asked.State.TheVariants.{Cleared}
use Rattle.nm_rndv.specs.Cuts.{Cut, next_bytes, offset_of, rest_of}
use Rattle.nm_rndv.specs.Offers.{Offered, Offering, after_piece, destined, first_leaving, is_out}
use Rattle.nm_rndv.specs.Offers.{leaving_or_out}
use Rattle.nm_rndv.specs.Offers.{leaves, next_in, next_offered, offered, offered_of, out_by_piece, state_at}
use Rattle.nm_rndv.specs.Offers.{state_of, with_popped, with_step}
use Rattle.nm_rndv.proofs.StateLemmas.{leaving_is_cleared}
use Rattle.nm_sending.specs.Outboxes.{OutboxView}
use Rattle.nm_sending.specs.Departures.{cleared_to, ends_to, pushed_to}
use Rattle.nm_sending.specs.Sent.{outs}
use Rattle.nm_rank.specs.Calls.{Notes}
use Rattle.nm_rank.specs.Ranks.{RankView}
use Rattle.nm_global.specs.Emitted.{AreOffered, ArePacketsLeft, ArePiecesLeft, IsBody, IsEager, IsEmitted}
use Rattle.nm_global.specs.Emitted.{Emitted, begun}
use Rattle.nm_global.specs.Emitted.{begun_of, first_of, sent_in}
use Rattle.nm_global.specs.Emitted.{with_piece}
use Rattle.nm_global.proofs.Turns.{at-set}
use Rattle.nm_global.proofs.Packets.{outgoing_same, outs_silent, packets_stay}
use Rattle.nm_global.proofs.Steps.{Stepped, body_is, piece_called, piece_offered}
use Rattle.nm_global.proofs.Destinations.{Grows, cleared_in, lasts, other_goes, piece_state}
use Rattle.nm_global.proofs.Pieces.{called_as, eager_still, pieces_at, pieces_go, ring_grows}
use Rattle.nm_global.proofs.Numbered.{found_number}
use Rattle.nm_types.proofs.NumberLemmas.{eq_true, same_number}
use Rattle.nm_history.proofs.EachLemmas.{pieces_count}

-- the numbers of the messages to a rank
abbrev numbers_to : ℕ → List (ℕ × ℕ) → List ℕ
numbers_to to ms = map (λ (m : ℕ × ℕ). m.1) (filter (λ (m : ℕ × ℕ). m.0 == to) ms)

-- the first message of all that leaves is the first one to its rank
first_here : (o : Offering) (to : ℕ) (ms : List (ℕ × ℕ)) (m : ℕ × ℕ) →
    find (leaves o.destinations) ms ≡ Some m → m.0 ≡ to →
    first_of (state_of o to) (numbers_to to ms) ≡ Some m.1
first_here o to [] m found here = cc
first_here o to (x ∷ ms) m found here =
    by (leaves o.destinations x) refl found (first_here o to ms m) (x.0 == to) refl
  where
    test : (b : Bool) → leaves o.destinations x ≡ b → (x.0 == to) ≡ true →
        leaves o.destinations (to, x.1) ≡ b
    test b is same = ap (λ (t : ℕ). leaves o.destinations (t, x.1)) (sym (same_number x.0 to same)) ∙ is

    by : (b : Bool) → leaves o.destinations x ≡ b →
        cond b (Some x) (find (leaves o.destinations) ms) ≡ Some m →
        (find (leaves o.destinations) ms ≡ Some m → m.0 ≡ to →
        first_of (state_of o to) (numbers_to to ms) ≡ Some m.1) → (c : Bool) → (x.0 == to) ≡ c →
        first_of (state_of o to) (map (λ (m : ℕ × ℕ). m.1)
        (cond c (x ∷ filter (λ (m : ℕ × ℕ). m.0 == to) ms) (filter (λ (m : ℕ × ℕ). m.0 == to) ms)))
        ≡ Some m.1
    by true leaving found later true same =
        let first : x ≡ m = cc in
        rw (test true leaving same) (ap (λ (m : ℕ × ℕ). Some m.1) first)
    by true leaving found later false other =
        let first : x ≡ m = cc in
        let yes = eq_true x.0 to (ap (λ (m : ℕ × ℕ). m.0) first ∙ here) in
        cc
    by false stays found later true same = rw (test false stays same) (later found here)
    by false stays found later false other = later found here

found_passes : (p : ℕ × ℕ → Bool) (ms : List (ℕ × ℕ)) (m : ℕ × ℕ) → find p ms ≡ Some m → p m ≡ true
found_passes p [] m found = cc
found_passes p (x ∷ ms) m found = by (p x) refl found (found_passes p ms m) where
  by : (b : Bool) → p x ≡ b → cond b (Some x) (find p ms) ≡ Some m → (find p ms ≡ Some m → p m ≡ true) →
      p m ≡ true
  by true passes found later = let same : x ≡ m = cc in ap p (sym same) ∙ passes
  by false fails found later = later found

-- the next piece is of the first message that leaves
pub record IsNext (v : RankView) (piece : ℕ × Piece) (m : ℕ × ℕ) (cut : Cut) : Type 0 where
  pub first : first_leaving v.sending.offers ≡ Some m
  pub state : state_at v.sending.offers.destinations m ≡ Some (Cleared cut)
  pub same :
      offered piece ≡ record { to = m.0; n = m.1; at = offset_of cut; bytes = next_bytes cut }

pub next_is : (v : RankView) (piece : ℕ × Piece) →
    Some (offered piece) ≡ next_offered v.sending.offers → (m : ℕ × ℕ) × (cut : Cut) × IsNext v piece m cut
next_is v piece next = by (first_leaving v.sending.offers) refl next where
  by : (o : Option (ℕ × ℕ)) → first_leaving v.sending.offers ≡ o →
      Some (offered piece) ≡ option_and_then (offered_of v.sending.offers.destinations) o →
      (m : ℕ × ℕ) × (cut : Cut) × IsNext v piece m cut
  by None first next = cc
  by (Some m) first next =
      let leaving = leaving_is_cleared (state_at v.sending.offers.destinations m)
      (found_passes (leaves v.sending.offers.destinations) v.sending.offers.order m first) in
      let same : Some (offered piece)
      ≡ Some (record { to = m.0; n = m.1; at = offset_of leaving.0; bytes = next_bytes leaving.0 }) =
      next ∙ ap (λ (o : Option State). option_map
      (λ (next : ℕ × List ℕ). record { to = m.0; n = m.1; at = next.0; bytes = next.1 })
      (option_and_then next_in o)) leaving.1 in
      (m, leaving.0, record { first = first; state = leaving.1; same = cc })

-- the next piece leaves
module _ (bodies : Sent → List ℕ) (v v' : RankView) (to : ℕ) (piece : ℕ × Piece) (left : Emitted)
    (is : IsEmitted bodies v to left) (m : ℕ × ℕ) (cut : Cut) (next : IsNext v piece m cut)
    (from : piece.1.from ≡ v.me) (number : piece.1.number ≡ pushed_to v.sending piece.0)
    (notes : Notes (outs (option_and_then (out_by_piece v.sending.offers)
    (first_leaving v.sending.offers))) v v')
    (offers : v'.sending.offers ≡ with_popped v.sending.offers m)
    (pushed : v'.sending.pushed ≡ set v.sending.pushed m.0 (pushed_to v.sending m.0 + 1))
    (own : v'.me ≡ v.me) (outbox : v'.sending.outbox ≡ v.sending.outbox) where
  abbrev ss : List Sent
  ss = sends v.events to

  abbrev ss' : List Sent
  ss' = sends v'.events to

  abbrev o : Offering
  o = v.sending.offers

  abbrev o' : Offering
  o' = with_popped v.sending.offers m

  abbrev st : ℕ → Option State
  st = state_of v.sending.offers to

  abbrev st' : ℕ → Option State
  st' = state_of (with_popped v.sending.offers m) to

  abbrev cleared : List ℕ
  cleared = cleared_in v.sending.offers to

  abbrev pieces_of_it : List CalledPiece
  pieces_of_it = option_map_or (send_pieces bodies) (sent_in (sends v.events to) m.1) []

  -- the event by which it leaves, where no others are left
  abbrev more : Bool → List Event
  more b = stamped v.clock (cond b [] (Out m.0 m.1 ∷ []))

  -- whether others are left after it
  abbrev pub stays : Bool
  stays = nat_lt (MAX_PIECE * (cut.popped + 1)) (body_len cut.body)

  outs_by : (b : Bool) → stays ≡ b →
      outs (then_some (is_out (leaving_or_out (rest_of cut))) m) ≡ cond b [] (Out m.0 m.1 ∷ [])
  outs_by b left =
      ap (λ (b : Bool). outs (then_some (is_out (leaving_or_out
      (cond b (Some (record { body = cut.body; popped = cut.popped + 1 })) None))) m)) left ∙ by b
    where
      by : (b : Bool) → outs (then_some (is_out (leaving_or_out
          (cond b (Some (record { body = cut.body; popped = cut.popped + 1 })) None))) m)
          ≡ cond b [] (Out m.0 m.1 ∷ [])
      by true = refl
      by false = refl

  grown : v'.events ≡ v.events ++ more stays
  grown =
      notes.events
      ∙ ap (λ (ws : List Happened). v.events ++ stamped v.clock ws)
      (ap (λ (x : Option (ℕ × ℕ)). outs (option_and_then (out_by_piece o) x)) next.first
      ∙ ap (λ (x : Option State). outs (then_some (option_map_or (λ s. is_out (after_piece s)) x false) m))
      next.state
      ∙ outs_by stays refl)

  abbrev g : Grows bodies v v' to left.pieces
  g = record { are = is.pieces; own = own; more = more stays; events = grown }

  eager : AllByRecursion (IsEager ss') (ends_to to v'.sending.outbox.letters)
  eager =
      subst (λ (x : OutboxView). AllByRecursion (IsEager ss') (ends_to to x.letters)) (sym outbox)
      (eager_still g (ends_to to v.sending.outbox.letters) is.pieces.eager)

  receiver : piece.0 ≡ m.0
  receiver = ap (λ (o : Offered). o.to) next.same

  count_now : pushed_to v'.sending to
      ≡ cond (m.0 == to) (pushed_to v.sending m.0 + 1) (pushed_to v.sending to)
  count_now =
      ap (λ (ks : List ℕ). pushed_to (record v.sending { pushed = ks }) to) pushed
      ∙ at-set v.sending.pushed m.0 to (pushed_to v.sending m.0 + 1) 0 is.pieces.place

  places : length v'.sending.pushed ≡ length v.sending.pushed
  places =
      ap (λ (ks : List ℕ). length ks) pushed
      ∙ length-set v.sending.pushed m.0 (pushed_to v.sending m.0 + 1)

  destinations : length v'.sending.offers.destinations ≡ length o.destinations
  destinations =
      ap (λ (x : Offering). length x.destinations) offers
      ∙ length-set o.destinations m.0 (with_step (destined o m.0) m.1 after_piece)

  -- for another rank
  piece_elsewhere : (m.0 == to) ≡ false → ArePiecesLeft bodies v' to left.pieces
  piece_elsewhere other =
      pieces_go g (quiet stays)
      (record {
        count = count_now ∙ ap (λ (b : Bool). cond b (pushed_to v.sending m.0 + 1)
            (pushed_to v.sending to)) other;
        places = places;
      }) o' offers (other_goes g m.0 (with_step (destined o m.0) m.1 after_piece) other) eager
    where
      quiet : (b : Bool) → in_turn_after (pieces_at bodies to) v.events (more b) ≡ []
      quiet true = refl
      quiet false = rw other refl

  -- for this rank
  module _ (here : m.0 ≡ to) where
    first : first_of st cleared ≡ Some m.1
    first = first_here o to o.order m next.first here

    at : state_of o to m.1 ≡ Some (Cleared cut)
    at = ap (λ (t : ℕ). state_of o t m.1) (sym here) ∙ next.state

    stepped : Stepped st st' m.1 after_piece
    stepped = piece_state g m here

    abbrev now : IsBody bodies ss m.1 cut.body × (MAX_PIECE * cut.popped < body_len cut.body)
    now =
        body_is bodies ss st cleared is.pieces.offered ss' (lasts g) st' m.1 cut first at stepped

    offered_now : AreOffered bodies ss' (state_of v'.sending.offers to) (cleared_to v'.sending to)
    offered_now =
        subst (λ (x : Offering). AreOffered bodies ss' (state_of x to) (cleared_in x to)) (sym offers)
        (piece_offered bodies ss st cleared is.pieces.offered ss' (lasts g) st' m.1 cut first at stepped)

    -- the piece that is called for
    abbrev piece_due : CalledPiece
    piece_due = record {
      n = now.0.s.n;
      at = MAX_PIECE * cut.popped;
      bytes = part_at MAX_PIECE (bodies now.0.s) cut.popped;
    }

    ring_now : (b : Bool) → stays ≡ b →
        ring bodies v'.events to ≡ ring bodies v.events to ++ cond b [] pieces_of_it
    ring_now b left =
        ring_grows bodies v.events v'.events (more stays) to grown
        ∙ ap (λ (b : Bool). ring bodies v.events to ++ in_turn_after (pieces_at bodies to) v.events (more b))
        left
        ∙ ap (λ (cs : List CalledPiece). ring bodies v.events to ++ cs) (by b)
      where
        by : (b : Bool) → in_turn_after (pieces_at bodies to) v.events (more b) ≡ cond b [] pieces_of_it
        by true = refl
        by false = rw (eq_true m.0 to here) (append-nil pieces_of_it)

    begun_now : (b : Bool) → stays ≡ b →
        cond b [] pieces_of_it ++ begun bodies v' to ≡ begun bodies v to ++ piece_due ∷ []
    begun_now b left =
        ap (λ (x : Offering). cond b [] pieces_of_it
        ++ begun_of bodies ss' (state_of x to) (first_of (state_of x to) (cleared_in x to))) offers
        ∙ piece_called bodies ss st cleared is.pieces.offered ss' (lasts g) st' m.1 cut first at stepped b
        left

    count : 0 + length (ring bodies v.events to ++ begun bodies v to) ≡ pushed_to v.sending to
    count =
        let all = pieces_count v.me 0 (ring bodies v.events to ++ begun bodies v to) left.pieces
        is.pieces.called in
        let here = is.pieces.pushed in
        omega (arith, all, here)

    is_called : AreCalledPieces v.me (0 + length (ring bodies v.events to ++ begun bodies v to))
        (piece_due ∷ []) (piece.1 ∷ [])
    is_called = (
      record {
        sender = from;
        numbered = number ∙ ap (λ (k : ℕ). pushed_to v.sending k) (receiver ∙ here) ∙ sym count;
        message = ap (λ (o : Offered). o.n) next.same ∙ sym (found_number m.1 ss now.0.s now.0.sent);
        place = ap (λ (o : Offered). o.at) next.same;
        same = ap (λ (o : Offered). o.bytes) next.same
            ∙ ap (λ (bytes : List ℕ). part_at MAX_PIECE bytes cut.popped) now.0.bytes;
      },
      tt,
    )

    all_called : ring bodies v'.events to ++ begun bodies v' to
        ≡ (ring bodies v.events to ++ begun bodies v to) ++ piece_due ∷ []
    all_called =
        ap (λ (cs : List CalledPiece). cs ++ begun bodies v' to) (ring_now stays refl)
        ∙ append_assoc (ring bodies v.events to) (cond stays [] pieces_of_it) (begun bodies v' to)
        ∙ ap (λ (cs : List CalledPiece). ring bodies v.events to ++ cs) (begun_now stays refl)
        ∙ sym (append_assoc (ring bodies v.events to) (begun bodies v to) (piece_due ∷ []))

    piece_here : ArePiecesLeft bodies v' to (left.pieces ++ piece.1 ∷ [])
    piece_here =
        record {
          called = called_as (left.pieces ++ piece.1 ∷ []) own all_called
              (called_pieces-append v.me 0 (ring bodies v.events to ++ begun bodies v to)
              (piece_due ∷ []) left.pieces (piece.1 ∷ []) is.pieces.called is_called);
          pushed = length-append left.pieces (piece.1 ∷ [])
              ∙ ap (λ (k : ℕ). k + 1) (is.pieces.pushed
              ∙ ap (λ (k : ℕ). pushed_to v.sending k) (sym here))
              ∙ sym (count_now ∙ ap (λ (b : Bool). cond b (pushed_to v.sending m.0 + 1)
              (pushed_to v.sending to)) (eq_true m.0 to here));
          place = subst (λ (k : ℕ). to < k) (sym places) is.pieces.place;
          known = subst (λ (k : ℕ). to < k) (sym destinations) is.pieces.known;
          offered = offered_now;
          eager = eager;
        }

  pub piece_leaves : IsEmitted bodies v' to (with_piece to piece left)
  piece_leaves =
      record {
        packets = subst (λ (ps : List Packet). ArePacketsLeft bodies v' to ps) (same (piece.0 == to))
            (packets_stay bodies v v' to left.packets own (let clock = notes.clock in omega (arith, clock))
            (outgoing_same bodies to v.events v'.events v.clock
            (outs (option_and_then (out_by_piece o) (first_leaving o))) notes.events
            (outs_silent (option_and_then (out_by_piece o) (first_leaving o)))) outbox is.packets);
        pieces = by (piece.0 == to) refl;
      }
    where
      same : (b : Bool) →
          left.packets
          ≡ (let l : Emitted = cond b (record left { pieces = left.pieces ++ piece.1 ∷ [] }) left in
          l.packets)
      same true = refl
      same false = refl

      by : (b : Bool) → (piece.0 == to) ≡ b → ArePiecesLeft bodies v' to
          (let l : Emitted = cond b (record left { pieces = left.pieces ++ piece.1 ∷ [] }) left in l.pieces)
      by true same = piece_here (sym receiver ∙ same_number piece.0 to same)
      by false other = piece_elsewhere (ap (λ (k : ℕ). k == to) (sym receiver) ∙ other)
