-- Each is worked out in the module of its name.
use Rattle.nm_channels.proofs.CancelledReceive as cancelled_receive
use Rattle.nm_channels.proofs.CancelledSend as cancelled_send
use Rattle.nm_channels.proofs.ClaimedAlone as claimed_alone
use Rattle.nm_channels.proofs.ClaimedThenRecalled as claimed_then_recalled
use Rattle.nm_channels.proofs.ClaimedUnreceived as claimed_unreceived
use Rattle.nm_channels.proofs.Cut as cut
use Rattle.nm_channels.proofs.LateCancels as late_cancels
use Rattle.nm_channels.proofs.LongAlone as long_alone
use Rattle.nm_channels.proofs.MatchedProbe as matched_probe
use Rattle.nm_channels.proofs.NullAndBusy as null_and_busy
use Rattle.nm_channels.proofs.OrderAtBothEnds as order_at_both_ends
use Rattle.nm_channels.proofs.Plain as plain
use Rattle.nm_channels.proofs.Probed as probed
use Rattle.nm_channels.proofs.SelfEmpty as self_empty
use Rattle.nm_channels.proofs.Stuck as stuck
use Rattle.nm_channels.proofs.SynchronousAlone as synchronous_alone
use Rattle.nm_channels.proofs.SynchronousBody as synchronous_body
use Rattle.nm_channels.proofs.SynchronousTaken as synchronous_taken
use Rattle.nm_channels.proofs.Tested as tested
use Rattle.nm_channels.proofs.UnexpectedLater as unexpected_later
use Rattle.nm_channels.specs.RightRuns.Right.{CancelledReceive, CancelledSend, ClaimedAlone}
use Rattle.nm_channels.specs.RightRuns.Right.{ClaimedThenRecalled, ClaimedUnreceived, Cut, LateCancels}
use Rattle.nm_channels.specs.RightRuns.Right.{LongAlone, MatchedProbe, NullAndBusy, OrderAtBothEnds}
use Rattle.nm_channels.specs.RightRuns.Right.{Plain, Probed, SelfEmpty, Stuck, SynchronousAlone}
use Rattle.nm_channels.specs.RightRuns.Right.{SynchronousBody, SynchronousTaken, Tested, UnexpectedLater}
use Rattle.nm_channels.proofs.worked.right_runs.Goals as goal

pub returns : goal.returns
returns c CancelledReceive = cancelled_receive.runs
returns c CancelledSend = cancelled_send.runs
returns c ClaimedAlone = claimed_alone.runs
returns c ClaimedUnreceived = claimed_unreceived.runs
returns c ClaimedThenRecalled = claimed_then_recalled.runs
returns c Cut = cut.runs
returns c LateCancels = late_cancels.runs
returns c LongAlone = long_alone.runs
returns c MatchedProbe = matched_probe.runs
returns c NullAndBusy = null_and_busy.runs
returns c OrderAtBothEnds = order_at_both_ends.runs
returns c Plain = plain.runs
returns c Probed = probed.runs
returns c SelfEmpty = self_empty.runs
returns c Stuck = stuck.runs
returns c SynchronousAlone = synchronous_alone.runs
returns c SynchronousBody = synchronous_body.runs
returns c SynchronousTaken = synchronous_taken.runs
returns c Tested = tested.runs
returns c UnexpectedLater = unexpected_later.runs
