-- The worked runs with one thing turned wrong, by the names of the modules in which each is written.
use Rattle.nm_channels.specs.AskedUnended as asked_unended
use Rattle.nm_channels.specs.CancelledThoughPaired as cancelled_though_paired
use Rattle.nm_channels.specs.ClaimedNewest as claimed_newest
use Rattle.nm_channels.specs.CountWrong as count_wrong
use Rattle.nm_channels.specs.EagerStays as eager_stays
use Rattle.nm_channels.specs.EndedUnderWay as ended_under_way
use Rattle.nm_channels.specs.LaterReceive as later_receive
use Rattle.nm_channels.specs.LeftBeforeTaken as left_before_taken
use Rattle.nm_channels.specs.LeftUntaken as left_untaken
use Rattle.nm_channels.specs.MatchedThoughUnclaimed as matched_though_unclaimed
use Rattle.nm_channels.specs.NewestBytes as newest_bytes
use Rattle.nm_channels.specs.NewestTaken as newest_taken
use Rattle.nm_channels.specs.NumberSkipped as number_skipped
use Rattle.nm_channels.specs.Overtaken as overtaken
use Rattle.nm_channels.specs.RanOutOfOrder as ran_out_of_order
use Rattle.nm_channels.specs.RecallUnanswered as recall_unanswered
use Rattle.nm_channels.specs.ReceivedThoughClaimed as received_though_claimed
use Rattle.nm_channels.specs.StampRepeated as stamp_repeated
use Rattle.nm_channels.specs.StartExtra as start_extra
use Rattle.nm_channels.specs.StartMissing as start_missing
use Rattle.nm_channels.specs.WaitsThoughDone as waits_though_done
use Rattle.nm_channels.specs.WholeUntaken as whole_untaken
use Rattle.nm_channels.specs.WithdrawnThoughClaimed as withdrawn_though_claimed
use Rattle.nm_channels.specs.WithdrawnThoughTaken as withdrawn_though_taken
use Rattle.nm_channels.specs.WithdrawnUnasked as withdrawn_unasked

-- a worked run that breaks a rule
pub data Wrong : Type 0 where
  AskedUnended : Wrong
  EagerStays : Wrong
  NumberSkipped : Wrong
  RanOutOfOrder : Wrong
  RecallUnanswered : Wrong
  WithdrawnUnasked : Wrong
  CancelledThoughPaired : Wrong
  ClaimedNewest : Wrong
  CountWrong : Wrong
  EndedUnderWay : Wrong
  LaterReceive : Wrong
  LeftBeforeTaken : Wrong
  LeftUntaken : Wrong
  MatchedThoughUnclaimed : Wrong
  NewestBytes : Wrong
  NewestTaken : Wrong
  Overtaken : Wrong
  ReceivedThoughClaimed : Wrong
  StampRepeated : Wrong
  StartExtra : Wrong
  StartMissing : Wrong
  WaitsThoughDone : Wrong
  WholeUntaken : Wrong
  WithdrawnThoughClaimed : Wrong
  WithdrawnThoughTaken : Wrong

-- it keeps the rule that its name tells
abbrev pub KeepsRule : Wrong → Type 0
KeepsRule AskedUnended = asked_unended.IsLawful
KeepsRule EagerStays = eager_stays.IsLawful
KeepsRule NumberSkipped = number_skipped.IsLawful
KeepsRule RanOutOfOrder = ran_out_of_order.IsLawful
KeepsRule RecallUnanswered = recall_unanswered.IsLawful
KeepsRule WithdrawnUnasked = withdrawn_unasked.IsLawful
KeepsRule CancelledThoughPaired = cancelled_though_paired.IsLawful
KeepsRule ClaimedNewest = claimed_newest.IsLawful
KeepsRule CountWrong = count_wrong.IsLawful
KeepsRule EndedUnderWay = ended_under_way.IsLawful
KeepsRule LaterReceive = later_receive.IsLawful
KeepsRule LeftBeforeTaken = left_before_taken.IsLawful
KeepsRule LeftUntaken = left_untaken.IsLawful
KeepsRule MatchedThoughUnclaimed = matched_though_unclaimed.IsLawful
KeepsRule NewestBytes = newest_bytes.IsLawful
KeepsRule NewestTaken = newest_taken.IsLawful
KeepsRule Overtaken = overtaken.IsLawful
KeepsRule ReceivedThoughClaimed = received_though_claimed.IsLawful
KeepsRule StampRepeated = stamp_repeated.IsLawful
KeepsRule StartExtra = start_extra.IsLawful
KeepsRule StartMissing = start_missing.IsLawful
KeepsRule WaitsThoughDone = waits_though_done.IsLawful
KeepsRule WholeUntaken = whole_untaken.IsLawful
KeepsRule WithdrawnThoughClaimed = withdrawn_though_claimed.IsLawful
KeepsRule WithdrawnThoughTaken = withdrawn_though_taken.IsLawful
