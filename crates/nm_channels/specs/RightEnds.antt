-- The worked logs that are right, by the names of the modules in which each is written.
use Rattle.std.specs.Prelude.{[]}
use Rattle.nm_channels.specs.CancelledSendLogs as cancelled_send
use Rattle.nm_channels.specs.ClaimedAloneLogs as claimed_alone
use Rattle.nm_channels.specs.LongMessage as long_message
use Rattle.nm_channels.specs.LongMessage.{body, patient, receives}
use Rattle.nm_channels.specs.Stray as stray
use Rattle.nm_channels.specs.ToOneself as to_oneself

-- worked logs of the ranks of a script
pub data RightEnds : Type 0 where
  LongMessage : RightEnds
  CancelledSend : RightEnds
  ClaimedAlone : RightEnds
  ToOneself : RightEnds
  Stray : RightEnds

-- the ranks have nothing left to send; the last log, which has a stray, is sound
abbrev pub AreRight : RightEnds → Type 0
AreRight LongMessage = long_message.AreEnded patient (receives 2 0 body)
AreRight CancelledSend = cancelled_send.AreEnded
AreRight ClaimedAlone = claimed_alone.AreEnded
AreRight ToOneself = to_oneself.AreEnded
AreRight Stray = stray.IsSound []
