-- The moment that a call of a rank makes.
use Rattle.std.specs.Prelude.{max, List}
use Rattle.nm_types.specs.declared.packets.Packet.{Packet}
use Rattle.nm_types.specs.declared.packets.Piece.{Piece}
use Rattle.nm_history.specs.declared.events.Happened.{Happened}
use Rattle.nm_history.specs.Clock.{stamped}
use Rattle.nm_history.specs.Pieces.{Pulled, piece_makes}
use Rattle.nm_channels.specs.Moments.{LogEntry}
use Rattle.nm_channels.specs.Moments.Cause.{Acted, Took, Drew}
use Rattle.nm_rank.specs.Calls.{is_next_due, made_of, next_due, taken_of}
use Rattle.nm_rank.specs.Ranks.{RankView}

-- what a rank does by itself
abbrev pub acted : RankView → List Happened → LogEntry
acted v ws = record { cause = Acted; events = stamped v.clock ws }

-- a packet is taken
abbrev pub took : RankView → Packet → LogEntry
took v p =
    record { cause = Took (taken_of v p); events = stamped (max v.clock p.stamp) (made_of v p) }

-- the piece, and whether it is the one that is due next
abbrev pub pulled : RankView → Piece → Pulled
pulled v q = record { piece = q; continued = is_next_due v q }

-- a piece is taken
abbrev pub drew : RankView → Piece → LogEntry
drew v q =
    record {
      cause = Drew (pulled v q);
      events = stamped v.clock (piece_makes q.from (next_due v q.from) q);
    }
