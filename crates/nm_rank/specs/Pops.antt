-- What leaves a rank.
use Rattle.std.specs.Prelude.{◌≡◌, ℕ, ◌+◌, false, IfSome, Option, Some, ◌∷◌, length}
use Rattle.std.specs.Prelude.{option_and_then, slice_get, slice_set}
use Rattle.nm_history.specs.Delivery.{is_asked}
use Rattle.nm_history.specs.Sends.{sends}
use Rattle.nm_history.specs.Clearance.{pushed_out, to_push}
use Rattle.nm_sending.specs.Outboxes.{popped_to}
use Rattle.nm_rndv.specs.Offers.{first_leaving, out_by_piece, with_popped}
use Rattle.nm_sending.specs.Departures.{ended_by, pushed_to}
use Rattle.nm_sending.specs.Sent.{outs}
use Rattle.nm_rank.specs.Calls.{Notes, TakesNone}
use Rattle.nm_rank.specs.Ranks.{RankView, known_from}

-- the message that leaves with the first packet, if one does: destination and number
abbrev pub out_with_packet : RankView → Option (ℕ × ℕ)
out_with_packet v = ended_by (slice_get v.sending.outbox.letters 0)

-- the message that leaves with the next piece, if one does
abbrev pub out_with_piece : RankView → Option (ℕ × ℕ)
out_with_piece v = option_and_then (out_by_piece v.sending.offers) (first_leaving v.sending.offers)

-- The first packet is popped. The message that leaves with it was not sent by asking.
pub record PopsPacket (old new : RankView) : Type 0 where
  pub left : Notes (outs (out_with_packet old)) old new
  pub popped :
      IfSome (slice_get old.sending.outbox.letters 0) (λ letter.
      (old.sending.outbox.letters ≡ letter ∷ new.sending.outbox.letters)
      × (new.sending.outbox
      ≡ record old.sending.outbox {
        letters = new.sending.outbox.letters;
        popped = slice_set old.sending.outbox.popped letter.to
            (popped_to old.sending.outbox letter.to + 1);
      }))
  pub same :
      (new.sending.offers ≡ old.sending.offers) × (new.sending.pushed ≡ old.sending.pushed)
  pub eager : IfSome (out_with_packet old) (λ m. is_asked (sends old.events m.0) m.1 ≡ false)
  pub takes : TakesNone old new
  pub receiving : new.receiving ≡ old.receiving
  pub requests : new.requests ≡ old.requests

-- The next piece is popped. The message that leaves with it is the next one in the order of the
-- clearances.
pub record PopsPiece (old new : RankView) : Type 0 where
  pub left : Notes (outs (out_with_piece old)) old new
  pub in_turn :
      IfSome (out_with_piece old) (λ m.
      slice_get (to_push old.events (known_from old.known m.0) m.0)
      (length (pushed_out old.events m.0)) ≡ Some m.1)
  pub popped :
      IfSome (first_leaving old.sending.offers) (λ m.
      (new.sending.offers ≡ with_popped old.sending.offers m)
      × (new.sending.pushed
      ≡ slice_set old.sending.pushed m.0 (pushed_to old.sending m.0 + 1)))
  pub outbox : new.sending.outbox ≡ old.sending.outbox
  pub takes : TakesNone old new
  pub receiving : new.receiving ≡ old.receiving
  pub requests : new.requests ≡ old.requests
