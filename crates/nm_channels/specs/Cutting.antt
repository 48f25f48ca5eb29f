-- How messages of some lengths are cut.
use Rattle.std.specs.Prelude.{ℕ, List, length, map}
use Rattle.nm_types.specs.declared.messages.How.{How}
use Rattle.nm_types.specs.declared.messages.How.TheVariants.{Eager, Ask}
use Rattle.nm_types.specs.declared.packets.What.{What}
use Rattle.nm_types.specs.declared.scripts.Body.TheVariants.{Gen}
use Rattle.nm_types.specs.Bodies.{bytes_of}
use Rattle.nm_history.specs.Sends.{Sent}
use Rattle.nm_history.specs.Outgoing.{Called, CalledPiece, send_packets, send_pieces}

-- message 3 to rank 0, of this length
abbrev pub send_of : ℕ → How → Sent
send_of len how = record { stamp = 1; to = 0; n = 3; tag = 9; ctx = 0; len = len; how = how; line = 2 }

-- its generated body
abbrev pub body_of : Sent → List ℕ
body_of s = bytes_of (Gen s.len)

-- the packets of an eager message of this length
abbrev pub packets : ℕ → List Called
packets len = send_packets (send_of len Eager) (body_of (send_of len Eager))

-- their lengths
abbrev pub lengths : List Called → List ℕ
lengths called = map (λ p. length p.payload) called

-- what they are
abbrev pub kinds : List Called → List What
kinds called = map (λ p. p.what) called

-- the pieces of a message of this length that was sent by asking
abbrev pub pieces : ℕ → List CalledPiece
pieces len = send_pieces body_of (send_of len Ask)

-- where they begin
abbrev pub places : List CalledPiece → List ℕ
places called = map (λ p. p.at) called

-- their lengths
abbrev pub sizes : List CalledPiece → List ℕ
sizes called = map (λ p. length p.bytes) called
