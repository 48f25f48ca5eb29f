-- Refused: a rank that waits though its command can go on.
use Rattle.nm_history.specs.Matching.{matched_pairs, is_free_message}
use Rattle.nm_history.specs.AtEach.{AtEach, in_turn}
use Rattle.nm_channels.specs.WaitsThoughDone.{IsLawful}

pub wrong : ¬ IsLawful
unfolding matched_pairs is_free_message AtEach in_turn
wrong r = let h = r.waits 0 in cc
