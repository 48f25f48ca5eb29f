-- Each is refuted in the module of its name.
use Rattle.nm_channels.proofs.AskedUnended as asked_unended
use Rattle.nm_channels.proofs.CancelledThoughPaired as cancelled_though_paired
use Rattle.nm_channels.proofs.ClaimedNewest as claimed_newest
use Rattle.nm_channels.proofs.CountWrong as count_wrong
use Rattle.nm_channels.proofs.EagerStays as eager_stays
use Rattle.nm_channels.proofs.EndedUnderWay as ended_under_way
use Rattle.nm_channels.proofs.LaterReceive as later_receive
use Rattle.nm_channels.proofs.LeftBeforeTaken as left_before_taken
use Rattle.nm_channels.proofs.LeftUntaken as left_untaken
use Rattle.nm_channels.proofs.MatchedThoughUnclaimed as matched_though_unclaimed
use Rattle.nm_channels.proofs.NewestBytes as newest_bytes
use Rattle.nm_channels.proofs.NewestTaken as newest_taken
use Rattle.nm_channels.proofs.NumberSkipped as number_skipped
use Rattle.nm_channels.proofs.Overtaken as overtaken
use Rattle.nm_channels.proofs.RanOutOfOrder as ran_out_of_order
use Rattle.nm_channels.proofs.RecallUnanswered as recall_unanswered
use Rattle.nm_channels.proofs.ReceivedThoughClaimed as received_though_claimed
use Rattle.nm_channels.proofs.StampRepeated as stamp_repeated
use Rattle.nm_channels.proofs.StartExtra as start_extra
use Rattle.nm_channels.proofs.StartMissing as start_missing
use Rattle.nm_channels.proofs.WaitsThoughDone as waits_though_done
use Rattle.nm_channels.proofs.WholeUntaken as whole_untaken
use Rattle.nm_channels.proofs.WithdrawnThoughClaimed as withdrawn_though_claimed
use Rattle.nm_channels.proofs.WithdrawnThoughTaken as withdrawn_though_taken
use Rattle.nm_channels.proofs.WithdrawnUnasked as withdrawn_unasked
use Rattle.nm_channels.specs.WrongRuns.Wrong.{AskedUnended, CancelledThoughPaired, ClaimedNewest}
use Rattle.nm_channels.specs.WrongRuns.Wrong.{CountWrong, EagerStays, EndedUnderWay, LaterReceive}
use Rattle.nm_channels.specs.WrongRuns.Wrong.{LeftBeforeTaken, LeftUntaken, MatchedThoughUnclaimed}
use Rattle.nm_channels.specs.WrongRuns.Wrong.{NewestBytes, NewestTaken, NumberSkipped, Overtaken}
use Rattle.nm_channels.specs.WrongRuns.Wrong.{RanOutOfOrder, RecallUnanswered, ReceivedThoughClaimed}
use Rattle.nm_channels.specs.WrongRuns.Wrong.{StampRepeated, StartExtra, StartMissing, WaitsThoughDone}
use Rattle.nm_channels.specs.WrongRuns.Wrong.{WholeUntaken, WithdrawnThoughClaimed, WithdrawnThoughTaken}
use Rattle.nm_channels.specs.WrongRuns.Wrong.{WithdrawnUnasked}
use Rattle.nm_channels.proofs.worked.wrong_runs.Goals as goal

pub returns : goal.returns
returns c AskedUnended = asked_unended.wrong
returns c EagerStays = eager_stays.wrong
returns c NumberSkipped = number_skipped.wrong
returns c RanOutOfOrder = ran_out_of_order.wrong
returns c RecallUnanswered = recall_unanswered.wrong
returns c WithdrawnUnasked = withdrawn_unasked.wrong
returns c CancelledThoughPaired = cancelled_though_paired.wrong
returns c ClaimedNewest = claimed_newest.wrong
returns c CountWrong = count_wrong.wrong
returns c EndedUnderWay = ended_under_way.wrong
returns c LaterReceive = later_receive.wrong
returns c LeftBeforeTaken = left_before_taken.wrong
returns c LeftUntaken = left_untaken.wrong
returns c MatchedThoughUnclaimed = matched_though_unclaimed.wrong
returns c NewestBytes = newest_bytes.wrong
returns c NewestTaken = newest_taken.wrong
returns c Overtaken = overtaken.wrong
returns c ReceivedThoughClaimed = received_though_claimed.wrong
returns c StampRepeated = stamp_repeated.wrong
returns c StartExtra = start_extra.wrong
returns c StartMissing = start_missing.wrong
returns c WaitsThoughDone = waits_though_done.wrong
returns c WholeUntaken = whole_untaken.wrong
returns c WithdrawnThoughClaimed = withdrawn_though_claimed.wrong
returns c WithdrawnThoughTaken = withdrawn_though_taken.wrong
