-- What the worked logs are written with.
use Rattle.std.specs.Prelude.{ℕ, ◌<◌, ◌≤◌, true, List}
use Rattle.nm_types.specs.declared.limits.TheConstants.{MAX_PACKETS, MAX_STAMP}
use Rattle.nm_types.specs.declared.packets.Packet.{Packet}
use Rattle.nm_types.specs.declared.packets.Piece.{Piece}
use Rattle.nm_types.specs.declared.packets.What.{What}
use Rattle.nm_types.specs.Sizes.{Sizes}
use Rattle.nm_history.specs.declared.events.Event.{Event}
use Rattle.nm_channels.specs.Moments.{LogEntry}
use Rattle.nm_channels.specs.Moments.Cause.{Acted, Took, Drew}

-- a run on this many ranks, with eight cells each and an eager limit of 8 bytes
abbrev pub run_on : ℕ → Sizes
run_on ranks = record { ranks = ranks; cells = 8; eager = 8 }

-- a packet of rank 0 or 1, with its number, its stamp and its payload
abbrev pub packet :
    (from seq stamp : ℕ) → What → List ℕ → seq < MAX_PACKETS → stamp ≤ MAX_STAMP → Packet
packet from seq stamp what payload few early =
    record {
      from = from;
      seq = seq;
      stamp = stamp;
      what = what;
      payload = payload;
      seq_in_range = few;
      stamp_in_range = early;
    }

-- a piece, with its number, its message and its place there
abbrev pub piece : (from number n at : ℕ) → List ℕ → number < MAX_PACKETS → Piece
piece from number n at bytes few =
    record {
      from = from;
      number = number;
      n = n;
      at = at;
      bytes = bytes;
      number_in_range = few;
    }

-- a moment of the rank's own
abbrev pub acts : List Event → LogEntry
acts events = record { cause = Acted; events = events }

-- a packet that continues its stream
abbrev pub takes : Packet → List Event → LogEntry
takes p events = record { cause = Took (record { packet = p; continued = true }); events = events }

-- a piece that continues its message
abbrev pub draws : Piece → List Event → LogEntry
draws q events = record { cause = Drew (record { piece = q; continued = true }); events = events }
