-- What left a rank for another one, by what its history calls for. No rank keeps it.
use Rattle.std.specs.Prelude.{◌≡◌, ℕ, ◌*◌, ◌<◌, ◌≤◌, ◌==◌, false, true, if◌then◌else◌, Option, Some, None}
use Rattle.std.specs.Prelude.{IsSome, IsSomeAnd, List, [], ◌∷◌, ◌++◌, find, length, take}
use Rattle.std.specs.List.{AllByRecursion}
use Rattle.std.specs.Option.{option_map_or}
use Rattle.nm_types.specs.Bodies.{body_len, bytes_of}
use Rattle.nm_types.specs.declared.limits.TheConstants.{MAX_PIECE}
use Rattle.nm_types.specs.declared.packets.Packet.{Packet}
use Rattle.nm_types.specs.declared.packets.Piece.{Piece}
use Rattle.nm_types.specs.declared.scripts.Body.{Body}
use Rattle.nm_history.specs.Outgoing.{AreCalled, AreCalledPieces, CalledPiece, outgoing, ring}
use Rattle.nm_history.specs.Outgoing.{send_pieces}
use Rattle.nm_history.specs.Sends.{Sent, is_ask, sends}
use Rattle.nm_history.specs.Continues.{has}
use Rattle.nm_rndv.specs.declared.asked.State.{State}
use Rattle.nm_rndv.specs.declared.asked.State.TheVariants.{Asked, Cleared}
use Rattle.nm_rndv.specs.Offers.{is_leaving, state_of}
use Rattle.nm_sending.specs.Letters.{packets_for}
use Rattle.nm_sending.specs.Outboxes.{popped_to}
use Rattle.nm_sending.specs.Departures.{cleared_to, ends_to, pushed_to}
use Rattle.nm_rank.specs.Ranks.{RankView}

-- what left a rank for another one: its packets and its pieces, each in the order in which they left
pub record Emitted : Type 0 where
  pub packets : List Packet
  pub pieces : List Piece

-- nothing left
abbrev pub nothing : Emitted
nothing = record { packets = []; pieces = [] }

-- what left for a rank, after this packet for one
abbrev pub with_packet : ℕ → ℕ × Packet → Emitted → Emitted
with_packet to packet left =
    if packet.0 == to then record left { packets = left.packets ++ packet.1 ∷ [] } else left

-- what left for a rank, after this piece for one
abbrev pub with_piece : ℕ → ℕ × Piece → Emitted → Emitted
with_piece to piece left =
    if piece.0 == to then record left { pieces = left.pieces ++ piece.1 ∷ [] } else left

-- message n of these sends
abbrev pub sent_in : List Sent → ℕ → Option Sent
sent_in ss n = find (λ s. s.n == n) ss

-- message n of these sends was not sent by asking
abbrev pub IsEager : List Sent → ℕ → Type 0
IsEager ss n = IsSomeAnd (sent_in ss n) (λ s. is_ask s.how ≡ false)

-- this is the body of message n of these sends, which was sent by asking
pub record IsBody (bodies : Sent → List ℕ) (ss : List Sent) (n : ℕ) (body : Body) : Type 0 where
  pub s : Sent
  pub sent : sent_in ss n ≡ Some s
  pub asked : is_ask s.how ≡ true
  pub bytes : bytes_of body ≡ bodies s
  pub len : body_len body ≡ s.len

-- the first of the cleared messages of which pieces are left to push
abbrev pub first_of : (ℕ → Option State) → List ℕ → Option ℕ
first_of state cleared = find (λ n. option_map_or is_leaving (state n) false) cleared

-- how many pieces have left of a message of which others are left
abbrev pub popped_in : Option State → ℕ
popped_in (Some (Cleared cut)) = cut.popped
popped_in _ = 0

-- the pieces that have left of this message
abbrev pub begun_of : (Sent → List ℕ) → List Sent → (ℕ → Option State) → Option ℕ → List CalledPiece
begun_of bodies ss state None = []
begun_of bodies ss state (Some n) =
    take (popped_in (state n)) (option_map_or (send_pieces bodies) (sent_in ss n) [])

-- the pieces that have left of the first message to a rank that was cleared and has not left
abbrev pub begun : (Sent → List ℕ) → RankView → ℕ → List CalledPiece
begun bodies v to =
    begun_of bodies (sends v.events to) (state_of v.sending.offers to)
    (first_of (state_of v.sending.offers to) (cleared_to v.sending to))

-- A message with this state has the body of its send. While it waits for its clearance, it was not
-- cleared. Of one that is leaving, pieces are left; and of the first one alone others have left.
abbrev pub IsOffered :
    (Sent → List ℕ) → List Sent → List ℕ → Option ℕ → ℕ → Option State → Type 0
IsOffered bodies ss cleared first n (Some (Asked body)) =
    IsBody bodies ss n body × (has cleared n ≡ false)
IsOffered bodies ss cleared first n (Some (Cleared cut)) =
    IsBody bodies ss n cut.body × (MAX_PIECE * cut.popped < body_len cut.body)
    × (0 < cut.popped → first ≡ Some n)
IsOffered bodies ss cleared first n _ = Unit {0}

-- the messages to a rank that were sent by asking stand so, and each one that was cleared was sent
pub record AreOffered (bodies : Sent → List ℕ) (ss : List Sent) (state : ℕ → Option State)
    (cleared : List ℕ) : Type 0 where
  pub states : (n : ℕ) → IsOffered bodies ss cleared (first_of state cleared) n (state n)
  pub sent : AllByRecursion (λ n. IsSome (sent_in ss n)) cleared

-- The packets that left a rank for this one, and then those in its outbox, are those that its
-- history calls for, numbered from 0, and none has a stamp past the rank's clock. The rank counts
-- those that left, and the outbox is its own.
pub record ArePacketsLeft (bodies : Sent → List ℕ) (v : RankView) (to : ℕ) (packets : List Packet)
    : Type 0 where
  pub called :
      AreCalled v.me 0 (outgoing bodies v.events to)
      (packets ++ packets_for to v.sending.outbox.letters)
  pub early :
      AllByRecursion (λ p. p.stamp ≤ v.clock)
      (packets ++ packets_for to v.sending.outbox.letters)
  pub popped : length packets ≡ popped_to v.sending.outbox to
  pub place : to < length v.sending.outbox.popped
  pub own : v.sending.outbox.me ≡ v.me

-- The pieces that left a rank for this one are those that its history calls for, and then the first
-- ones of the message that is leaving, numbered from 0. The rank counts them. No message that leaves
-- with a letter was sent by asking.
pub record ArePiecesLeft (bodies : Sent → List ℕ) (v : RankView) (to : ℕ) (pieces : List Piece)
    : Type 0 where
  pub called :
      AreCalledPieces v.me 0 (ring bodies v.events to ++ begun bodies v to) pieces
  pub pushed : length pieces ≡ pushed_to v.sending to
  pub place : to < length v.sending.pushed
  pub known : to < length v.sending.offers.destinations
  pub offered :
      AreOffered bodies (sends v.events to) (state_of v.sending.offers to) (cleared_to v.sending to)
  pub eager :
      AllByRecursion (IsEager (sends v.events to)) (ends_to to v.sending.outbox.letters)

-- What left a rank for this one is what its history calls for, where its sends have these bodies.
pub record IsEmitted (bodies : Sent → List ℕ) (v : RankView) (to : ℕ) (left : Emitted) : Type 0 where
  pub packets : ArePacketsLeft bodies v to left.packets
  pub pieces : ArePiecesLeft bodies v to left.pieces
