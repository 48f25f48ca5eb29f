-- What each call that changes a rank did to it: one relation for each call, named after it; and one step of
-- a rank, which is any of them. MPI 3.1, 3.4 to 3.8.
use Rattle.std.specs.Prelude.{◌≡◌, ℕ, Bool, Some, List, [], ◌∷◌, length, slice_get}
use Rattle.nm_types.specs.Bodies.{bytes_of}
use Rattle.nm_types.specs.declared.answers.Answer.{Answer}
use Rattle.nm_types.specs.declared.messages.Arrival.{Arrival}
use Rattle.nm_types.specs.declared.messages.Peer.{Peer}
use Rattle.nm_types.specs.declared.messages.TagPick.{TagPick}
use Rattle.nm_types.specs.declared.packets.Packet.{Packet}
use Rattle.nm_types.specs.declared.packets.Piece.{Piece}
use Rattle.nm_types.specs.declared.scripts.Body.{Body}
use Rattle.nm_history.specs.declared.events.Event.{Event}
use Rattle.nm_history.specs.declared.events.Happened.{Happened}
use Rattle.nm_history.specs.declared.events.Happened.TheVariants as event
use Rattle.nm_history.specs.Matching.{first_message, matched_pairs}
use Rattle.nm_history.specs.Sends.{Sent, message_of, receives}
use Rattle.nm_request.specs.declared.Kind.{Kind}
use Rattle.nm_request.specs.declared.Kind.TheVariants as kind
use Rattle.nm_request.specs.declared.Req.{Req}
use Rattle.nm_request.specs.Requests.{kind_of}
use Rattle.nm_rndv.specs.Offers.{next_offered, offered}
use Rattle.nm_sending.specs.Letters.{Letter}
use Rattle.nm_sending.specs.Calls.{event_of, offers_sent}
use Rattle.nm_sending.specs.Departures.{pushed_to}
use Rattle.nm_receiving.specs.Receipts.{taken_events}
use Rattle.nm_rank.specs.declared.answers.Cancelled.{Cancelled}
use Rattle.nm_rank.specs.Calls.{Happens, Notes, Starts, TakesNone, TakesPacket, TakesPiece}
use Rattle.nm_rank.specs.Pops.{PopsPacket, PopsPiece}
use Rattle.nm_rank.specs.Ranks.{RankView}
use Rattle.nm_rank.specs.Requests.{Finishes, cancel_answer, cancel_events, offers_cancelled}
use Rattle.nm_rank.specs.Sends.{next_send}

-- A send of this body is started (MPI 3.1, 3.4), and has this request; by whatever the bodies of sends
-- are, where this one's is its own. One that is sent by asking is asked for.
pub record StartsSend (s : Sent) (body : Body) (r : Req) (old new : RankView) : Type 0 where
  pub started :
      (bodies : Sent → List ℕ) → bodies s ≡ bytes_of body →
      Starts bodies (event_of s ∷ []) (kind.Send s.to s.n) old new r
  pub offers : new.sending.offers ≡ offers_sent old.sending.offers s body

-- what happens where a receive is started, as the next one: it takes the oldest free message that it
-- selects, if there is one (MPI 3.1, 3.2.4)
abbrev pub post_events : List Event → Peer → TagPick → (ctx cap line : ℕ) → List Happened
post_events h from tag ctx cap line =
    event.Post
    (record { number = length (receives h); from = from; tag = tag; ctx = ctx; cap = cap }) line
    ∷ taken_events (first_message h (matched_pairs h) from tag ctx)

-- what happens where the receive of claimed message n of a rank is started, as the next one (3.8.3)
abbrev pub match_events : List Event → (from n cap line : ℕ) → List Happened
match_events h from n cap line =
    event.Match (length (receives h)) from n cap line ∷ taken_events (message_of h from n)

-- A receive is started, and has this request.
pub record StartsReceive (from : Peer) (tag : TagPick) (ctx cap line : ℕ) (r : Req)
    (old new : RankView) : Type 0 where
  pub started :
      (bodies : Sent → List ℕ) →
      Starts bodies (post_events old.events from tag ctx cap line)
      (kind.Receive (length (receives old.events))) old new r
  pub offers : new.sending.offers ≡ old.sending.offers

-- The receive of a claimed message is started, and has this request.
pub record StartsMatched (from n cap line : ℕ) (r : Req) (old new : RankView) : Type 0 where
  pub started :
      (bodies : Sent → List ℕ) →
      Starts bodies (match_events old.events from n cap line)
      (kind.Receive (length (receives old.events))) old new r
  pub offers : new.sending.offers ≡ old.sending.offers

-- A message is claimed by a matched probe (3.8.2).
pub record Claims (a : Arrival) (line : ℕ) (old new : RankView) : Type 0 where
  pub claimed : Notes (event.Claim a.env.from a.n line ∷ []) old new
  pub takes : TakesNone old new
  pub sending : new.sending ≡ old.sending
  pub requests : new.requests ≡ old.requests

-- A live request is cancelled, as far as it can be (3.8.4), with this answer.
pub record Cancels (r : Req) (answer : Cancelled) (old new : RankView) : Type 0 where
  pub kind : Kind
  pub live : kind_of old.requests r ≡ Some kind
  pub answered : answer ≡ cancel_answer old.events kind
  pub happened :
      (bodies : Sent → List ℕ) → Happens bodies old.clock (cancel_events old.events kind) old new
  pub offers : new.sending.offers ≡ offers_cancelled old.events kind old.sending.offers
  pub takes : TakesNone old new
  pub requests : new.requests ≡ old.requests

-- The answer of a line's command is recorded, and nothing else happens.
pub record Records (line : ℕ) (answer : Answer) (old new : RankView) : Type 0 where
  pub noted : Notes (event.Ran line answer ∷ []) old new
  pub takes : TakesNone old new
  pub sending : new.sending ≡ old.sending
  pub receiving : new.receiving ≡ old.receiving
  pub requests : new.requests ≡ old.requests

-- One step of a rank: a call that changed it, with what the call was given, what it answered, and what left
-- the rank by it. Each has its call's name.
pub data Step (old new : RankView) : Type 0 where
  isend :
      (to tag ctx line : ℕ) (body : Body) (sync : Bool) (r : Req) →
      StartsSend (next_send old to tag ctx body sync line) body r old new → Step old new
  irecv :
      (from : Peer) (tag : TagPick) (ctx cap line : ℕ) (r : Req) →
      StartsReceive from tag ctx cap line r old new → Step old new
  imrecv : (from n cap line : ℕ) (r : Req) → StartsMatched from n cap line r old new → Step old new
  improbe : (a : Arrival) (line : ℕ) → Claims a line old new → Step old new
  cancel : (r : Req) (answer : Cancelled) → Cancels r answer old new → Step old new
  finish :
      (r : Req) (k : Kind) (answer : Answer) → kind_of old.requests r ≡ Some k →
      Finishes r answer old new → Step old new
  ran : (line : ℕ) (answer : Answer) → Records line answer old new → Step old new
  pop_front :
      (letter : Letter) → slice_get old.sending.outbox.letters 0 ≡ Some letter →
      PopsPacket old new → Step old new
  pop_piece :
      (piece : ℕ × Piece) → Some (offered piece) ≡ next_offered old.sending.offers →
      piece.1.from ≡ old.me → piece.1.number ≡ pushed_to old.sending piece.0 →
      PopsPiece old new → Step old new
  take_packet : (p : Packet) → TakesPacket p old new → Step old new
  take_piece : (q : Piece) → TakesPiece q old new → Step old new
