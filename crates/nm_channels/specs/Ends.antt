-- Both ends of a channel: two ranks with nothing left to send, of which each took what the other's
-- history calls for.
use Rattle.std.specs.Prelude.{◌≡◌, ℕ, ◌<◌, List, length, map}
use Rattle.std.specs.List.{AllByRecursion}
use Rattle.nm_types.specs.Sizes.{Sizes}
use Rattle.nm_types.specs.Commands.{Numbered}
use Rattle.nm_history.specs.declared.events.Event.{Event}
use Rattle.nm_history.specs.Sends.{sent_body}
use Rattle.nm_history.specs.Outgoing.{outgoing, ring, AreCalled, AreCalledPieces}
use Rattle.nm_history.specs.RankRun.{IsRankRun}
use Rattle.nm_history.specs.Known.{known_by}
use Rattle.nm_history.specs.Continues.{WORN_STAMP}
use Rattle.nm_history.specs.Clearance.{to_push, pushed_out}
use Rattle.nm_history.specs.Rest.{EagerHaveLeft, EmptyAreHere}
use Rattle.nm_channels.specs.Moments.{LogEntry, history_of, taken_from, pulled_from}
use Rattle.nm_channels.specs.Sound.{AreSound}

-- each cleared message with a body that this rank sent has left
abbrev pub ClearedHaveLeft : List LogEntry → ℕ → Type 0
ClearedHaveLeft log to =
    length (pushed_out (history_of log) to)
    ≡ length (to_push (history_of log) (known_by (taken_from to log)) to)

-- One rank with nothing left to send: its history is a run of its commands and that of sound
-- moments, its eager messages have left, and what it paired without a body is here.
pub record IsEnd (shape : Sizes) (commands : List Numbered) (at : ℕ) (log : List LogEntry)
    : Type 0 where
  pub run : IsRankRun shape commands at (history_of log)
  pub sound : AreSound shape.eager (sent_body commands) commands log
  pub eager : EagerHaveLeft (history_of log)
  pub empty : EmptyAreHere (history_of log)

-- The channel from rank i to rank j is empty: the packets and pieces that j took from i are those
-- that the history of i calls for, each message that j cleared has left i, and no packet has a
-- stamp past the last.
pub record IsChannel (i j : ℕ) (commands : List Numbered) (li lj : List LogEntry) : Type 0 where
  pub packets :
      AreCalled i 0 (outgoing (sent_body commands) (history_of li) j)
      (map (λ t. t.packet) (taken_from i lj))
  pub pieces :
      AreCalledPieces i 0 (ring (sent_body commands) (history_of li) j)
      (map (λ d. d.piece) (pulled_from i lj))
  pub cleared : ClearedHaveLeft li j
  pub in_time : AllByRecursion (λ t. t.packet.stamp < WORN_STAMP) (taken_from i lj)

-- two ranks, which may be the same, with both channels between them
pub record AreEnds (shape : Sizes) (i j : ℕ) (ci cj : List Numbered) (ati atj : ℕ)
    (li lj : List LogEntry) : Type 0 where
  pub sender : IsEnd shape ci ati li
  pub receiver : IsEnd shape cj atj lj
  pub there : IsChannel i j ci li lj
  pub back : IsChannel j i cj lj li
