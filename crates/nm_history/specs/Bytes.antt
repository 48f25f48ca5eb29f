-- The bytes of a message that its packets or its pieces carry.
use Rattle.std.specs.Prelude.{ℕ, ◌==◌, ◌&&◌, if◌then◌else◌, List, [], ◌∷◌, ◌++◌}
use Rattle.nm_types.specs.declared.packets.What.{What}
use Rattle.nm_types.specs.declared.packets.What.TheVariants as what
use Rattle.nm_history.specs.Known.{Known, Taken, known_after}
use Rattle.nm_history.specs.Pieces.{Pulled}

-- the bytes of message n that a packet carries
abbrev pub bytes_in : ℕ → Known → What → List ℕ → List ℕ
bytes_in n known (what.Head tag ctx len) payload = if known.count == n then payload else []
bytes_in n known (what.More m) payload = if m == n then payload else []
bytes_in n known _ payload = []

-- the bytes of message n that a packet carries that was taken: a stray carries none
abbrev pub taken_bytes : ℕ → Known → Taken → List ℕ
taken_bytes n known t =
    if t.continued then bytes_in n known t.packet.what t.packet.payload else []

-- the bytes of message n that these packets carry, after others by which this is known
abbrev pub eager_bytes : ℕ → Known → List Taken → List ℕ
eager_bytes n known [] = []
eager_bytes n known (t ∷ packets) =
    taken_bytes n known t ++ eager_bytes n (known_after known t) packets

-- the bytes of message n that a piece carries that was taken
abbrev pub pulled_bytes : ℕ → Pulled → List ℕ
pulled_bytes n d = if d.continued && d.piece.n == n then d.piece.bytes else []

-- the bytes of message n that these pieces carry
abbrev pub piece_bytes : ℕ → List Pulled → List ℕ
piece_bytes n [] = []
piece_bytes n (d ∷ pieces) = pulled_bytes n d ++ piece_bytes n pieces
