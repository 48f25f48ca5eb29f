-- Where a process stands in a run, by what no program keeps: its log, and what left it.
use Rattle.std.specs.Prelude.{◌≡◌, ℕ, ◌<◌, None, List, [], ◌∷◌, ◌++◌, length}
use Rattle.nm_types.specs.declared.packets.Packet.{Packet}
use Rattle.nm_types.specs.declared.packets.Piece.{Piece}
use Rattle.nm_types.specs.Commands.{Numbered}
use Rattle.nm_types.specs.Sizes.{Sizes}
use Rattle.nm_history.specs.Sends.{sent_body}
use Rattle.nm_history.specs.declared.events.Event.{Event}
use Rattle.nm_rank.specs.Ranks.{RankView}
use Rattle.nm_global.specs.Emitted.{IsEmitted, Emitted, nothing, with_packet, with_piece}
use Rattle.nm_channels.specs.Moments.{LogEntry, history_of, pulled_from, taken_from}
use Rattle.nm_global.specs.Logged.{IsLogged}
use Rattle.nm_process.specs.Processes.{ProcessView}
use Rattle.nm_process.specs.Work.{IsWorking}
use Rattle.nm_global.specs.Ranks.{OneRank}

-- What was: the moments of a process, the receives whose results were given, and what left it for
-- each rank.
pub record GhostHistory : Type 0 where
  pub log : List LogEntry
  pub given : List ℕ
  pub left : ℕ → Emitted

-- nothing was
abbrev pub no_past : GhostHistory
no_past = record { log = []; given = []; left = λ to. nothing }

-- one moment more
abbrev pub with_moment : GhostHistory → LogEntry → GhostHistory
with_moment past m = record past { log = past.log ++ m ∷ [] }

-- a packet left
abbrev pub with_packet_left : GhostHistory → ℕ × Packet → GhostHistory
with_packet_left past sent = record past { left = λ to. with_packet to sent (past.left to) }

-- a piece left
abbrev pub with_piece_left : GhostHistory → ℕ × Piece → GhostHistory
with_piece_left past sent = record past { left = λ to. with_piece to sent (past.left to) }

-- a rank whose commands are these is that of these moments, and what left it is what its history calls for
pub record IsOf (shape : Sizes) (commands : List Numbered) (i : ℕ) (v : RankView) (past : GhostHistory)
    : Type 0 where
  pub me : v.me ≡ i
  pub logged : IsLogged shape.eager (sent_body commands) commands v past.log past.given
  pub left : (to : ℕ) → to < shape.ranks → IsEmitted (sent_body commands) v to (past.left to)

-- a process stands at its place in a run, where its commands are these
pub record ProcessInvariant (shape : Sizes) (commands : List Numbered) (bound i : ℕ) (v : ProcessView)
    (past : GhostHistory) : Type 0 where
  pub work : IsWorking shape commands bound v
  pub rank : IsOf shape commands i v.rank past

-- the same was taken of each rank, and the same left, and the history goes on
pub record Same (old new : GhostHistory) : Type 0 where
  pub taken : (from : ℕ) → taken_from from new.log ≡ taken_from from old.log
  pub pulled : (from : ℕ) → pulled_from from new.log ≡ pulled_from from old.log
  pub left : (to : ℕ) → new.left to ≡ old.left to
  pub front : (more : List Event) × (history_of new.log ≡ history_of old.log ++ more)

-- a rank went on by itself, something happened, and nothing left it and nothing came
pub record GoesOn (shape : Sizes) (commands : List Numbered) (i : ℕ) (v : RankView) (past : GhostHistory)
    : Type 0 where
  pub after : GhostHistory
  pub is : IsOf shape commands i v after
  pub same : Same past after
  pub grew : length (history_of past.log) < length (history_of after.log)

-- the rank of a run that a process is, with what was
abbrev pub rank_of : ProcessView → GhostHistory → OneRank
rank_of v past =
    record {
      view = v.rank;
      at = v.at;
      waits = None;
      log = past.log;
      given = past.given;
      left = past.left;
    }
