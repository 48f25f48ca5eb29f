-- the words of the lemmas
mod Streams
-- one log: what a log shows of the packets and pieces taken, and of the rank's own events
pub mod Logs
pub mod Arriving
mod Wholes
mod Made
mod Pushing
pub mod Pulling
mod AnswerMoments
-- one history: what it calls for, and what its rules give
pub mod Fresh
pub mod Numbers
pub mod Streaming
mod Causes
mod Clashing
mod Clearing
pub mod Cutting
pub mod EagerBytes
mod PieceBytes
mod Shown
-- two ends: what each took is what the other's history calls for
pub mod Delivering
mod Answering
mod Ordered
mod Recalls
mod Cleared
pub mod Granting
mod Over
pub mod BytesCame
pub mod Bodies
-- the law, and from each two ranks to all
pub mod Settled
pub mod Run
pub mod SoFar
mod AskedUnended
mod CancelledReceive
mod CancelledSend
mod CancelledThoughPaired
mod ClaimedAlone
mod ClaimedNewest
mod ClaimedThenRecalled
mod ClaimedUnreceived
mod CountWrong
mod Cut
mod EagerStays
mod EndedUnderWay
mod LateCancels
mod LaterReceive
mod LeftBeforeTaken
mod LeftUntaken
mod LongAlone
mod MatchedProbe
mod MatchedThoughUnclaimed
mod NewestBytes
mod NewestTaken
mod NullAndBusy
mod NumberSkipped
mod OrderAtBothEnds
mod Overtaken
mod Plain
mod Probed
mod RanOutOfOrder
mod Ranks
mod RecallUnanswered
mod ReceivedThoughClaimed
mod SelfEmpty
mod StampRepeated
mod StartExtra
mod StartMissing
mod Stuck
mod SynchronousAlone
mod SynchronousBody
mod SynchronousTaken
mod Tested
mod UnexpectedLater
mod WaitsThoughDone
mod WholeUntaken
mod WithdrawnThoughClaimed
mod WithdrawnThoughTaken
mod WithdrawnUnasked
mod Two
mod LongMessage
mod CancelledSendLogs
mod ClaimedAloneLogs
mod Stray
mod ToOneself
