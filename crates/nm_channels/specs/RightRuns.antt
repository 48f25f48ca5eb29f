-- The worked runs that are right, by the names of the modules in which each is written.
use Rattle.nm_channels.specs.CancelledReceive as cancelled_receive
use Rattle.nm_channels.specs.CancelledSend as cancelled_send
use Rattle.nm_channels.specs.ClaimedAlone as claimed_alone
use Rattle.nm_channels.specs.ClaimedThenRecalled as claimed_then_recalled
use Rattle.nm_channels.specs.ClaimedUnreceived as claimed_unreceived
use Rattle.nm_channels.specs.Cut as cut
use Rattle.nm_channels.specs.LateCancels as late_cancels
use Rattle.nm_channels.specs.LongAlone as long_alone
use Rattle.nm_channels.specs.MatchedProbe as matched_probe
use Rattle.nm_channels.specs.NullAndBusy as null_and_busy
use Rattle.nm_channels.specs.OrderAtBothEnds as order_at_both_ends
use Rattle.nm_channels.specs.Plain as plain
use Rattle.nm_channels.specs.Probed as probed
use Rattle.nm_channels.specs.SelfEmpty as self_empty
use Rattle.nm_channels.specs.Stuck as stuck
use Rattle.nm_channels.specs.SynchronousAlone as synchronous_alone
use Rattle.nm_channels.specs.SynchronousBody as synchronous_body
use Rattle.nm_channels.specs.SynchronousTaken as synchronous_taken
use Rattle.nm_channels.specs.Tested as tested
use Rattle.nm_channels.specs.UnexpectedLater as unexpected_later

-- a worked run
pub data Right : Type 0 where
  CancelledReceive : Right
  CancelledSend : Right
  ClaimedAlone : Right
  ClaimedUnreceived : Right
  ClaimedThenRecalled : Right
  Cut : Right
  LateCancels : Right
  LongAlone : Right
  MatchedProbe : Right
  NullAndBusy : Right
  OrderAtBothEnds : Right
  Plain : Right
  Probed : Right
  SelfEmpty : Right
  Stuck : Right
  SynchronousAlone : Right
  SynchronousBody : Right
  SynchronousTaken : Right
  Tested : Right
  UnexpectedLater : Right

-- it is a run of its script
abbrev pub IsRun : Right → Type 0
IsRun CancelledReceive = cancelled_receive.IsLawful
IsRun CancelledSend = cancelled_send.IsLawful
IsRun ClaimedAlone = claimed_alone.IsLawful
IsRun ClaimedUnreceived = claimed_unreceived.IsLawful
IsRun ClaimedThenRecalled = claimed_then_recalled.IsLawful
IsRun Cut = cut.IsLawful
IsRun LateCancels = late_cancels.IsLawful
IsRun LongAlone = long_alone.IsLawful
IsRun MatchedProbe = matched_probe.IsLawful
IsRun NullAndBusy = null_and_busy.IsLawful
IsRun OrderAtBothEnds = order_at_both_ends.IsLawful
IsRun Plain = plain.IsLawful
IsRun Probed = probed.IsLawful
IsRun SelfEmpty = self_empty.IsLawful
IsRun Stuck = stuck.IsLawful
IsRun SynchronousAlone = synchronous_alone.IsLawful
IsRun SynchronousBody = synchronous_body.IsLawful
IsRun SynchronousTaken = synchronous_taken.IsLawful
IsRun Tested = tested.IsLawful
IsRun UnexpectedLater = unexpected_later.IsLawful
