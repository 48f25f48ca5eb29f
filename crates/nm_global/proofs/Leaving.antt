-- Packets that leave.
use Rattle.std.proofs.Common.{◌≡◌, ℕ, ◌+◌, ◌==◌, Bool, true, false, cond, Option, Some, None, arith}
use Rattle.std.proofs.Common.{List, [], ◌∷◌, ◌++◌, refl, ◌∙◌, subst, IfSome}
use Rattle.std.proofs.Common.{append-nil, option_map}
use Rattle.std.proofs.Common.{set}
use Rattle.std.specs.List.{AllByRecursion}
use Rattle.std.specs.Option.{option_map_or}
use Rattle.nm_types.specs.declared.packets.Piece.{Piece}
use Rattle.nm_history.specs.AtEach.{in_turn_after}
use Rattle.nm_history.specs.Outgoing.{send_pieces}
use Rattle.nm_history.specs.Sends.{Sent, sends}
use Rattle.nm_history.specs.Clock.{stamped}
use Rattle.nm_sending.specs.Letters.{Letter}
use Rattle.nm_sending.specs.Outboxes.{popped_to}
use Rattle.nm_sending.specs.Departures.{ended_by, ends_to}
use Rattle.nm_sending.specs.Sent.{outs}
use Rattle.nm_rank.specs.Calls.{Notes}
use Rattle.nm_rank.specs.Ranks.{RankView}
use Rattle.nm_global.specs.Emitted.{ArePiecesLeft, IsEager, IsEmitted, Emitted, sent_in}
use Rattle.nm_global.specs.Emitted.{with_packet}
use Rattle.nm_global.proofs.Destinations.{Grows, stay}
use Rattle.nm_global.proofs.Pieces.{each_later, eager_pieces, eager_still, pieces_at, pieces_go}
use Rattle.nm_global.proofs.Pieces.{same_pushed}
use Rattle.nm_global.proofs.Packets.{OfBoth, OfOne, outgoing_same, outs_silent, packets_pop}

-- what is behind the first letter leaves with no message that was sent by asking, nor does that
module _ (bodies : Sent → List ℕ) (v v' : RankView) (to : ℕ) (letter : Letter) (left : Emitted)
    (are : ArePiecesLeft bodies v to left.pieces)
    (letters : v.sending.outbox.letters ≡ letter ∷ v'.sending.outbox.letters) where
  parts : IfSome (cond (letter.to == to) letter.ends None) (IsEager (sends v.events to))
      × AllByRecursion (IsEager (sends v.events to)) (ends_to to v'.sending.outbox.letters)
  parts =
      each_later (IsEager (sends v.events to)) (cond (letter.to == to) letter.ends None)
      (ends_to to v'.sending.outbox.letters)
      (subst (λ (ls : List Letter). AllByRecursion (IsEager (sends v.events to)) (ends_to to ls)) letters
      are.eager)

  quiet : (o : Option ℕ) → letter.ends ≡ o →
      in_turn_after (pieces_at bodies to) v.events
      (stamped v.clock (outs (option_map (λ n. (letter.to, n)) o))) ≡ []
  quiet None is = refl
  quiet (Some n) is = by (letter.to == to) refl where
    by : (b : Bool) → (letter.to == to) ≡ b →
        cond (letter.to == to) (option_map_or (send_pieces bodies) (sent_in (sends v.events to) n) []) []
        ++ [] ≡ []
    by true same =
        let eager = subst (λ (b : Bool). IfSome (cond b letter.ends None) (IsEager (sends v.events to)))
        same parts.0 in
        let here = subst (λ (o : Option ℕ). IfSome o (IsEager (sends v.events to))) is eager in
        rw same (append-nil (option_map_or (send_pieces bodies) (sent_in (sends v.events to) n) [])
        ∙ eager_pieces bodies (sends v.events to) n here)
    by false other = rw other refl

  pub pieces_pop : v'.me ≡ v.me → Notes (outs (ended_by (Some letter))) v v' →
      v'.sending.offers ≡ v.sending.offers → v'.sending.pushed ≡ v.sending.pushed →
      ArePiecesLeft bodies v' to left.pieces
  pieces_pop own notes offers pushed =
      let g : Grows bodies v v' to left.pieces =
      record {
        are = are;
        own = own;
        more = stamped v.clock (outs (ended_by (Some letter)));
        events = notes.events;
      } in
      pieces_go g (quiet letter.ends refl) (same_pushed v v' to pushed) v.sending.offers offers (stay g)
      (eager_still g (ends_to to v'.sending.outbox.letters) parts.1)

-- the first packet leaves
pub packet_leaves : OfOne → OfBoth → (bodies : Sent → List ℕ) (v v' : RankView) (to : ℕ)
    (letter : Letter) (left : Emitted) → v'.me ≡ v.me → Notes (outs (ended_by (Some letter))) v v' →
    v.sending.outbox.letters ≡ letter ∷ v'.sending.outbox.letters →
    v'.sending.outbox ≡ record v.sending.outbox {
      letters = v'.sending.outbox.letters;
      popped = set v.sending.outbox.popped letter.to (popped_to v.sending.outbox letter.to + 1);
    } → v'.sending.offers ≡ v.sending.offers → v'.sending.pushed ≡ v.sending.pushed →
    IsEmitted bodies v to left → IsEmitted bodies v' to (with_packet to (letter.to, letter.packet) left)
packet_leaves one both bodies v v' to letter left own notes letters outbox offers pushed is =
    record {
      packets = packets_pop one both bodies v v' to letter left own
          (let clock = notes.clock in omega (arith, clock))
          (outgoing_same bodies to v.events v'.events v.clock (outs (ended_by (Some letter)))
          notes.events (outs_silent (ended_by (Some letter)))) letters outbox is.packets;
      pieces = subst (λ (ps : List Piece). ArePiecesLeft bodies v' to ps) (by (letter.to == to))
          (pieces_pop bodies v v' to letter left is.pieces letters own notes offers pushed);
    }
  where
    by : (b : Bool) →
        left.pieces
        ≡ (let l : Emitted = cond b (record left { packets = left.packets ++ letter.packet ∷ [] }) left in
        l.pieces)
    by true = refl
    by false = refl
