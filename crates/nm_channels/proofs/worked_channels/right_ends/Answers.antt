-- Each is worked out in the module of its name.
use Rattle.nm_channels.proofs.CancelledSendLogs as cancelled_send
use Rattle.nm_channels.proofs.ClaimedAloneLogs as claimed_alone
use Rattle.nm_channels.proofs.LongMessage as long_message
use Rattle.nm_channels.proofs.Stray as stray
use Rattle.nm_channels.proofs.ToOneself as to_oneself
use Rattle.nm_channels.specs.RightEnds.RightEnds.{CancelledSend, ClaimedAlone, LongMessage, Stray, ToOneself}
use Rattle.nm_channels.proofs.worked_channels.right_ends.Goals as goal

pub returns : goal.returns
returns c LongMessage = long_message.ends
returns c CancelledSend = cancelled_send.ends
returns c ClaimedAlone = claimed_alone.ends
returns c ToOneself = to_oneself.ends
returns c Stray = stray.sound
