-- What contracts see of a joiner.
use Rattle.std.specs.Prelude.{◌≡◌, ◌≢◌, ℕ, ◌<◌, IsTrue, List, length}
use Rattle.std.specs.Prelude.{slice_index_or}
use Rattle.nm_types.specs.Sizes.{Sizes}
use Rattle.nm_types.specs.declared.packets.Packet.{Packet}
use Rattle.nm_eager.specs.Senders.{Received, nothing_received, IsReadyAt, SameReceived}
use Rattle.nm_eager.specs.Streams.{Stream, is_eager, missing, continues}

-- the sizes of the run, and what came from each sender
pub record Joining : Type 0 where
  pub sizes : Sizes
  pub senders : List Received

-- what came from a sender, and the room for more
abbrev pub received_from : Joining → ℕ → Received
received_from joining from = slice_index_or joining.senders from nothing_received

-- what came from a sender
abbrev pub stream_from : Joining → ℕ → Stream
stream_from joining from = (received_from joining from).stream

-- the packet belongs to an eager message of a rank of the run, and continues its stream
pub record Fits (joining : Joining) (p : Packet) : Type 0 where
  pub sender : p.from < joining.sizes.ranks
  pub eager : IsTrue (is_eager p.what)
  pub continued : IsTrue (continues joining.sizes.eager (stream_from joining p.from).count
      (missing (stream_from joining p.from)) p.what (length p.payload))

-- the joiner is ready for a packet: to add it needs no memory
abbrev pub IsReadyFor : Joining → Packet → Type 0
IsReadyFor joining p = IsReadyAt (received_from joining p.from) p.what

-- The same came from each sender. There may be more room for one of them, so the joiner is ready
-- for each packet for which it was.
pub record MakesRoom (old new : Joining) (from : ℕ) : Type 0 where
  pub sizes : new.sizes ≡ old.sizes
  pub same : SameReceived (received_from old from) (received_from new from)
  pub others : (other : ℕ) → other ≢ from → received_from new other ≡ received_from old other

-- this is what came from one sender now, and of the others nothing changed
pub record ChangesStream (old new : Joining) (from : ℕ) (stream : Stream) : Type 0 where
  pub sizes : new.sizes ≡ old.sizes
  pub changed : stream_from new from ≡ stream
  pub others : (other : ℕ) → other ≢ from → received_from new other ≡ received_from old other
